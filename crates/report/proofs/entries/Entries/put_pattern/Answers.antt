-- `report::entries::Entries::put_pattern` meets its contract. Assumes nothing.
use native.Mathlib.Omega.{arith}
use Rattle.cleaning.proofs.Meeting.{pattern_part, pattern-within}
use Rattle.report.proofs.Places.{sentence_of, pattern-at, pattern-fits, readable_part}
use mathlib.Core.Path.{ap}
use Rattle.text.proofs.Written.{count}
use Rattle.report.proofs.entries.Entries.put_pattern.Goals as goal

pub pattern_place-p-requires : goal.pattern_place-p-requires
pattern_place-p-requires c = let d = c.requires.0.readable.indexed in (c.requires.1, (omega (arith, d.fits), d.small))

pub slice_bounds-format_terms-count : goal.slice_bounds-format_terms-count
slice_bounds-format_terms-count c = pattern-within c.args.self.now.b.now c.pattern_place-p.result ((let y = sentence_of c.requires.0.readable c.args.s c.requires.1 in
    pattern-at c.requires.0.readable c.args.s y.element y.is c.pattern_place-p.result c.pattern_place-p.ensures.0))

pub slice_bounds-format_terms-start : goal.slice_bounds-format_terms-start
slice_bounds-format_terms-start c = pattern-within c.args.self.now.b.now c.pattern_place-p.result ((let y = sentence_of c.requires.0.readable c.args.s c.requires.1 in
    pattern-at c.requires.0.readable c.args.s y.element y.is c.pattern_place-p.result c.pattern_place-p.ensures.0))

pub format_terms-requires : goal.format_terms-requires
format_terms-requires c =
    let p = c.pattern_place-p.result in (
      pattern_part c.args.self.now.b.now p ((let y = sentence_of c.requires.0.readable c.args.s c.requires.1 in
          pattern-at c.requires.0.readable c.args.s y.element y.is c.pattern_place-p.result c.pattern_place-p.ensures.0)),
      omega (arith, readable_part c.requires.0.readable p, c.requires.2),
    )

pub returns : goal.returns
returns c = let p = c.pattern_place-p in let y = sentence_of c.requires.0.readable c.args.s c.requires.1 in record {
  written = λ w x d e. c.format_terms.ensures (pattern_part c.args.self.now.b.now p.result (pattern-at d c.args.s x e p.result p.ensures.0));
  short = omega (
    arith,
    ap count (c.format_terms.ensures (pattern_part c.args.self.now.b.now p.result ((let y = sentence_of c.requires.0.readable c.args.s c.requires.1 in
        pattern-at c.requires.0.readable c.args.s y.element y.is c.pattern_place-p.result c.pattern_place-p.ensures.0)))),
    pattern-fits c.requires.0.readable c.args.s y.element y.is p.result p.ensures.0,
  );
}
