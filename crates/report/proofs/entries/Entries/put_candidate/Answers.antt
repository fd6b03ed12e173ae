-- `report::entries::Entries::put_candidate` meets its contract. Assumes nothing.
use native.Mathlib.Omega.{arith}
use mathlib.Core.Path.{ap, sym, refl, ◌∙◌}
use mathlib.Core.List.{[], ◌∷◌, ◌++◌}
use Rattle.meaning.specs.Text.{format_terms}
use Rattle.cleaning.proofs.Meeting.{pattern_part, pattern-within}
use Rattle.text.proofs.Written.{both, same, count}
use Rattle.text.proofs.Formatting.{terms_text_fits}
use Rattle.report.specs.Listing.{named_line}
use Rattle.report.proofs.Places.{stands_below, readable_part}
use Rattle.report.proofs.Telling.{found, listing-repeat, listing_new}
use Rattle.report.proofs.entries.Entries.put_candidate.Goals as goal

pub repeats-requires : goal.repeats-requires
repeats-requires c = (c.requires.0, c.requires.1)

pub returns-then-repeats : goal.returns-then-repeats
returns-then-repeats c = let a = c.args in record {
  told = λ w x r d s. listing-repeat s a.before.now a.after.now a.listed.last (λ z h. sym (c.repeats.ensures w x r z d s h) ∙ c.if-repeats.true) a.out.now a.listed.count;
  short = (omega arith, c.requires.4);
}

pub put_bytes-requires : goal.put_bytes-requires
put_bytes-requires c = omega (arith, c.requires.3)

pub put_name-requires : goal.put_name-requires
put_name-requires c =
    let p = c.requires.0 in
    let k = found (c.requires.1 p.program p.readable).0.1 c.args.next refl in
    (p, stands_below p.readable k.stands, omega (arith, ap count c.put_bytes.ensures, c.requires.3))

pub put_bytes-requires-2 : goal.put_bytes-requires-2
put_bytes-requires-2 c = omega (arith, ap count c.put_bytes.ensures, c.put_name.ensures.short, c.requires.2, c.requires.3)

pub slice_bounds-format_terms-count : goal.slice_bounds-format_terms-count
slice_bounds-format_terms-count c =
    let p = c.requires.0 in
    let k = found (c.requires.1 p.program p.readable).0.1 c.args.next refl in
    pattern-within c.args.self.now.b.now c.args.next.terms k.stands.reading

pub slice_bounds-format_terms-start : goal.slice_bounds-format_terms-start
slice_bounds-format_terms-start c =
    let p = c.requires.0 in
    let k = found (c.requires.1 p.program p.readable).0.1 c.args.next refl in
    pattern-within c.args.self.now.b.now c.args.next.terms k.stands.reading

pub format_terms-requires : goal.format_terms-requires
format_terms-requires c =
    let p = c.requires.0 in
    let q = c.args.next.terms in
    let k = found (c.requires.1 p.program p.readable).0.1 c.args.next refl in
    (pattern_part c.args.self.now.b.now q k.stands.reading, omega (arith, readable_part p.readable q, ap count c.put_bytes-2.ensures, c.put_name.ensures.short, ap count c.put_bytes.ensures, c.requires.2, c.requires.3))

pub put_bytes-requires-3 : goal.put_bytes-requires-3
put_bytes-requires-3 c =
    let p = c.requires.0 in
    let q = c.args.next.terms in
    let k = found (c.requires.1 p.program p.readable).0.1 c.args.next refl in
    let t = pattern_part c.args.self.now.b.now q k.stands.reading in
    omega (arith, ap count (c.format_terms.ensures t), terms_text_fits t, readable_part p.readable q, ap count c.put_bytes-2.ensures, c.put_name.ensures.short, ap count c.put_bytes.ensures, c.requires.2, c.requires.3)

pub overflow_add-result : goal.overflow_add-result
overflow_add-result c = omega (arith, c.requires.3, c.requires.4)

pub returns : goal.returns
unfolding named_line
returns c =
    let a = c.args in
    let b = a.self.now.b.now in
    let p = c.requires.0 in
    let q = a.next.terms in
    let k = found (c.requires.1 p.program p.readable).0.1 a.next refl in
    let name = ap count (c.put_name.ensures.written p.program k.function p.readable k.stands.function) in
    let t = pattern_part b q k.stands.reading in
    let terms = ap count (c.format_terms.ensures t) in
    record {
      told = λ w x r d s.
          let l = format_terms r in
          listing_new s a.before.now a.after.now a.listed.last (λ z h. sym (c.repeats.ensures w x r z d s h) ∙ c.if-repeats.false) a.out.now _ a.listed.count
          (both a.out.now (32 ∷ 32 ∷ []) (x.name ++ (a.before.now ++ (l ++ a.after.now))) c.put_bytes.ensures
          (both _ x.name (a.before.now ++ (l ++ a.after.now)) (c.put_name.ensures.written w x d s.function)
          (both _ a.before.now (l ++ a.after.now) c.put_bytes-2.ensures
          (both _ l a.after.now (same _ (ap format_terms s.is) (c.format_terms.ensures (pattern_part b q s.reading))) c.put_bytes-3.ensures))));
      short = (
        omega (arith, ap count c.put_bytes-3.ensures, terms, terms_text_fits t, readable_part p.readable q, ap count c.put_bytes-2.ensures, c.put_name.ensures.short, ap count c.put_bytes.ensures, c.requires.2),
        omega (arith, ap count c.put_bytes-3.ensures, terms, ap count c.put_bytes-2.ensures, name, ap count c.put_bytes.ensures, c.requires.4),
      );
    }
