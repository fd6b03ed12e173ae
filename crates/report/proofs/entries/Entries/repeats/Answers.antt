-- `report::entries::Entries::repeats` meets its contract. Assumes nothing.
use mathlib.Core.Path.{refl, sym, ap, ap₂, ◌∙◌}
use mathlib.Core.Bool.{Bool, ◌&&◌}
use Rattle.patterns.specs.Names.{eq_bytes}
use Rattle.program.specs.Syntax.{Terms}
use Rattle.meaning.specs.Text.{format_terms}
use Rattle.cleaning.proofs.Meeting.{pattern_part, pattern-within}
use Rattle.report.specs.Listing.{named}
use Rattle.report.proofs.Places.{stands_below}
use Rattle.report.proofs.Telling.{found, repeats_none, repeats_is}
use Rattle.report.proofs.entries.Entries.repeats.Goals as goal

pub returns-in-None : goal.returns-in-None
returns-in-None c = λ w x r z d s h. repeats_none (named x r) h c.in-None.is

pub same_function-requires : goal.same_function-requires
same_function-requires c =
    let p = c.requires.0 in
    let s = c.requires.1 p.program p.readable in
    let g = found s.1.1 c.in-Some.last c.in-Some.is in
    let k = found s.0.1 c.args.next refl in
    (p, stands_below p.readable g.stands, stands_below p.readable k.stands)

pub slice_bounds-same_text-count : goal.slice_bounds-same_text-count
slice_bounds-same_text-count c =
    let p = c.requires.0 in
    let g = found (c.requires.1 p.program p.readable).1.1 c.in-Some.last c.in-Some.is in
    pattern-within c.args.self.now.b.now c.in-Some.last.terms g.stands.reading

pub slice_bounds-same_text-start : goal.slice_bounds-same_text-start
slice_bounds-same_text-start c =
    let p = c.requires.0 in
    let g = found (c.requires.1 p.program p.readable).1.1 c.in-Some.last c.in-Some.is in
    pattern-within c.args.self.now.b.now c.in-Some.last.terms g.stands.reading

pub slice_bounds-same_text-count-then-same_function : goal.slice_bounds-same_text-count-then-same_function
slice_bounds-same_text-count-then-same_function c =
    let p = c.requires.0 in
    let k = found (c.requires.1 p.program p.readable).0.1 c.args.next refl in
    pattern-within c.args.self.now.b.now c.args.next.terms k.stands.reading

pub slice_bounds-same_text-start-then-same_function : goal.slice_bounds-same_text-start-then-same_function
slice_bounds-same_text-start-then-same_function c =
    let p = c.requires.0 in
    let k = found (c.requires.1 p.program p.readable).0.1 c.args.next refl in
    pattern-within c.args.self.now.b.now c.args.next.terms k.stands.reading

pub same_text-requires : goal.same_text-requires
same_text-requires c =
    let p = c.requires.0 in
    let b = c.args.self.now.b.now in
    let s = c.requires.1 p.program p.readable in
    let g = found s.1.1 c.in-Some.last c.in-Some.is in
    let k = found s.0.1 c.args.next refl in
    (pattern_part b c.in-Some.last.terms g.stands.reading, pattern_part b c.args.next.terms k.stands.reading)

pub returns-then-same_function : goal.returns-then-same_function
returns-then-same_function c = λ w x r z d s h.
    let b = c.args.self.now.b.now in
    let g = found h c.in-Some.last c.in-Some.is in
    c.same_text.ensures (pattern_part b c.in-Some.last.terms g.stands.reading) (pattern_part b c.args.next.terms s.reading)
    ∙ ap₂ (λ (p q : Terms). eq_bytes (format_terms p) (format_terms q)) g.stands.is s.is
    ∙ sym (repeats_is x r g ∙ ap (λ (t : Bool). t && eq_bytes (format_terms g.terms) (format_terms r)) (sym (c.same_function.ensures w g.function x d g.stands.function s.function) ∙ c.if-same_function.true))

pub returns-else-same_function : goal.returns-else-same_function
returns-else-same_function c = λ w x r z d s h.
    let g = found h c.in-Some.last c.in-Some.is in
    c.if-same_function.false
    ∙ sym (repeats_is x r g ∙ ap (λ (t : Bool). t && eq_bytes (format_terms g.terms) (format_terms r)) (sym (c.same_function.ensures w g.function x d g.stands.function s.function) ∙ c.if-same_function.false))
