-- `report::entries::Entries::same_pattern` meets its contract. Assumes nothing.
use native.Mathlib.Omega.{arith}
use Rattle.cleaning.proofs.Meeting.{pattern_part, pattern-within}
use Rattle.report.proofs.Places.{sentence_of, pattern-at}
use Rattle.report.proofs.entries.Entries.same_pattern.Goals as goal

pub pattern_place-p-requires : goal.pattern_place-p-requires
pattern_place-p-requires c = let d = c.requires.0.readable.indexed in (c.requires.1, (omega (arith, d.fits), d.small))

pub pattern_place-q-requires : goal.pattern_place-q-requires
pattern_place-q-requires c = let d = c.requires.0.readable.indexed in (c.requires.2, (omega (arith, d.fits), d.small))

pub slice_bounds-same_text-count : goal.slice_bounds-same_text-count
slice_bounds-same_text-count c = pattern-within c.args.self.now.b.now c.pattern_place-p.result ((let y = sentence_of c.requires.0.readable c.args.s c.requires.1 in
    pattern-at c.requires.0.readable c.args.s y.element y.is c.pattern_place-p.result c.pattern_place-p.ensures.0))

pub slice_bounds-same_text-start : goal.slice_bounds-same_text-start
slice_bounds-same_text-start c = pattern-within c.args.self.now.b.now c.pattern_place-p.result ((let y = sentence_of c.requires.0.readable c.args.s c.requires.1 in
    pattern-at c.requires.0.readable c.args.s y.element y.is c.pattern_place-p.result c.pattern_place-p.ensures.0))

pub slice_bounds-same_text-count-2 : goal.slice_bounds-same_text-count-2
slice_bounds-same_text-count-2 c = pattern-within c.args.self.now.b.now c.pattern_place-q.result ((let y = sentence_of c.requires.0.readable c.args.t c.requires.2 in
    pattern-at c.requires.0.readable c.args.t y.element y.is c.pattern_place-q.result c.pattern_place-q.ensures.0))

pub slice_bounds-same_text-start-2 : goal.slice_bounds-same_text-start-2
slice_bounds-same_text-start-2 c = pattern-within c.args.self.now.b.now c.pattern_place-q.result ((let y = sentence_of c.requires.0.readable c.args.t c.requires.2 in
    pattern-at c.requires.0.readable c.args.t y.element y.is c.pattern_place-q.result c.pattern_place-q.ensures.0))

pub same_text-requires : goal.same_text-requires
same_text-requires c = (
  pattern_part c.args.self.now.b.now c.pattern_place-p.result ((let y = sentence_of c.requires.0.readable c.args.s c.requires.1 in
      pattern-at c.requires.0.readable c.args.s y.element y.is c.pattern_place-p.result c.pattern_place-p.ensures.0)),
  pattern_part c.args.self.now.b.now c.pattern_place-q.result ((let y = sentence_of c.requires.0.readable c.args.t c.requires.2 in
      pattern-at c.requires.0.readable c.args.t y.element y.is c.pattern_place-q.result c.pattern_place-q.ensures.0)),
)

pub returns : goal.returns
returns c = λ w x y d e g.
    let p = c.pattern_place-p in
    let q = c.pattern_place-q in
    c.same_text.ensures (pattern_part c.args.self.now.b.now p.result (pattern-at d c.args.s x e p.result p.ensures.0)) (pattern_part c.args.self.now.b.now q.result (pattern-at d c.args.t y g q.result q.ensures.0))
