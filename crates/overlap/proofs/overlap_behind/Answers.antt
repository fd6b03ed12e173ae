-- `overlap::overlap_behind` meets its contract: the patterns are tails of the body, and the cell of the rows answers as the search.
use native.Mathlib.Omega.{arith}
use mathlib.Core.Path.{sym, ◌∙◌, subst}
use Rattle.std.specs.Prelude.{Option}
use Rattle.patterns.specs.Search.{sequence}
use Rattle.overlap.specs.Steps.{Answers}
use Rattle.overlap.specs.declared.search.Tried.{Tried}
use Rattle.rows.specs.Parts.{PatternIn}
use Rattle.rows.proofs.Places.{kept_same}
use Rattle.rows.proofs.Readings.{part, part_length, inside, at_part, pattern-at}
use Rattle.overlap.proofs.overlap_behind.Goals as goal

pub slice_bounds-left-count : goal.slice_bounds-left-count
slice_bounds-left-count c = omega (arith, inside c.args.b.now c.args.p c.requires.0)

pub slice_bounds-left-start : goal.slice_bounds-left-start
slice_bounds-left-start c = omega (arith, inside c.args.b.now c.args.p c.requires.0)

pub slice_bounds-left-end : goal.slice_bounds-left-end
slice_bounds-left-end c = omega arith

pub slice_bounds-right-count : goal.slice_bounds-right-count
slice_bounds-right-count c = omega (arith, inside c.args.b.now c.args.q c.requires.1)

pub slice_bounds-right-start : goal.slice_bounds-right-start
slice_bounds-right-start c = omega (arith, inside c.args.b.now c.args.q c.requires.1)

pub slice_bounds-right-end : goal.slice_bounds-right-end
slice_bounds-right-end c = omega arith

pub within_limits-requires : goal.within_limits-requires
within_limits-requires c =
    let pattern_in : PatternIn c.args.b.now (part c.args.b.now c.args.p) = pattern-at c.args.b.now c.args.p c.requires.0 in
    let the_pattern_in : PatternIn c.args.b.now (part c.args.b.now c.args.q) = pattern-at c.args.b.now c.args.q c.requires.1 in
    let b = c.args.b.now in
    (pattern_in.pattern, the_pattern_in.pattern, omega (arith, part_length b c.args.p, c.requires.2), omega (arith, part_length b c.args.q, c.requires.2))

-- The cycle was done.
pub returns-in-Some : goal.returns-in-Some
returns-in-Some c = let b = c.args.b.now in record { answers = λ x y. c.in-Some.ensures (at_part b c.args.p x) (at_part b c.args.q y); keeps = kept_same c.args.from c.args.room.now }

pub pair_cell-requires : goal.pair_cell-requires
pair_cell-requires c =
    let pattern_in : PatternIn c.args.b.now (part c.args.b.now c.args.p) = pattern-at c.args.b.now c.args.p c.requires.0 in
    let the_pattern_in : PatternIn c.args.b.now (part c.args.b.now c.args.q) = pattern-at c.args.b.now c.args.q c.requires.1 in
    (pattern_in, the_pattern_in, c.requires.2)

-- The rows were.
pub returns-in-Some-pair_cell-clause-answers : goal.returns-in-Some-pair_cell-clause-answers
returns-in-Some-pair_cell-clause-answers c = let b = c.args.b.now in λ x y.
    let k = c.in-Some-pair_cell.ensures.tells (at_part b c.args.p x) (at_part b c.args.q y) in
    c.told.ensures k.0 k.1 ∙ sym (k.3 c.args.fuel c.requires.3)

pub sequence-whole-requires : goal.sequence-whole-requires
sequence-whole-requires c =
    let pattern_in : PatternIn c.args.b.now (part c.args.b.now c.args.p) = pattern-at c.args.b.now c.args.p c.requires.0 in
    let the_pattern_in : PatternIn c.args.b.now (part c.args.b.now c.args.q) = pattern-at c.args.b.now c.args.q c.requires.1 in
    (pattern_in.pattern, the_pattern_in.pattern)

pub shape_of-room : goal.shape_of-room
shape_of-room c = c.pair_cell.ensures.keeps.0

-- The room was too short for them.
pub returns : goal.returns
returns c = let b = c.args.b.now in record {
  answers = λ x y. subst (λ (r : Option Tried). Answers r (sequence c.args.fuel x.terms y.terms)) c.unwrap.ensures (c.sequence-whole.ensures.answers (at_part b c.args.p x) (at_part b c.args.q y));
  keeps = let k = c.pair_cell.ensures.keeps in record { length = k.0; below = k.1 };
}
