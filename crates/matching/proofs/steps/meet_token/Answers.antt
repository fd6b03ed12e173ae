-- `matching::steps::meet_token` meets its contract: both sides' first tokens decide. Assumes nothing.
use native.Mathlib.Omega.{arith}
use mathlib.Core.Path.{refl}
use Rattle.symbols.proofs.Parts.{part_rest}
use Rattle.values.proofs.Sizes.{token-told}
use Rattle.values.proofs.Bytes.{room}
use Rattle.values.proofs.Turns.{part_there, part_length}
use Rattle.matching.proofs.Meeting.{pattern-there, slice_length, matched_here, failed_here, pattern-token, value-token, off-here, on-here}
use Rattle.matching.proofs.steps.meet_token.Goals as goal

pub slice_bounds-a-count : goal.slice_bounds-a-count
slice_bounds-a-count c = omega (arith, pattern-there c.requires.0.at)

pub slice_bounds-a-start : goal.slice_bounds-a-start
slice_bounds-a-start c = omega (arith, pattern-there c.requires.0.at)

pub bounds-a-0 : goal.bounds-a-0
bounds-a-0 c = omega (arith, part_there c.args.body.now c.args.at.p (pattern-there c.requires.0.at))

pub overflow_add-result : goal.overflow_add-result
overflow_add-result c = omega (arith, pattern-there c.requires.0.at)

pub returns-then-a-eq15 : goal.returns-then-a-eq15
returns-then-a-eq15 c = λ rest x l h. matched_here h c.if-at.true (rw (part_rest c.args.body.now c.args.at.p) at c.if-a-eq15.true)

pub returns-then-at : goal.returns-then-at
returns-then-at c = λ rest x l h. failed_here h c.if-at.true c.requires.1 (rw (part_rest c.args.body.now c.args.at.p) at c.if-a-eq15.false)

pub slice_bounds-y-count : goal.slice_bounds-y-count
slice_bounds-y-count c = omega (arith, c.requires.0.at.ordered)

pub slice_bounds-y-start : goal.slice_bounds-y-start
slice_bounds-y-start c = omega (arith, c.requires.0.at.ordered)

pub slice_bounds-y-end : goal.slice_bounds-y-end
slice_bounds-y-end c = omega (arith, c.requires.0.at.within)

pub invariant_of-x : goal.invariant_of-x
invariant_of-x c = let h = c.requires in record { there = token-told _ (pattern-token h.0.at c.if-at.false h.1 (part_rest c.args.body.now c.args.at.p)) }

pub invariant_of-y : goal.invariant_of-y
invariant_of-y c = let h = c.requires in record { there = token-told _ (value-token h.0.at c.if-at.false h.1) }

pub overflow_add-p : goal.overflow_add-p
overflow_add-p c =
    let h = c.requires in
    let t = pattern-token h.0.at c.if-at.false h.1 (part_rest c.args.body.now c.args.at.p) in
    omega (arith, c.size.ensures t, (room t).1, part_length c.args.body.now c.args.at.p, pattern-there h.0.at)

pub overflow_add-v : goal.overflow_add-v
overflow_add-v c =
    let h = c.requires in
    let t = value-token h.0.at c.if-at.false h.1 in
    omega (arith, c.size-2.ensures t, (room t).1, slice_length h.0.at, h.0.at.ordered, h.0.at.within)

pub returns-then-not-same : goal.returns-then-not-same
returns-then-not-same c = λ rest x l h.
    off-here h c.if-at.false c.requires.1 (part_rest c.args.body.now c.args.at.p) c.same.result c.same.ensures c.if-not-same.true

pub returns : goal.returns
returns c = λ rest x l h.
    (refl, on-here h c.if-at.false c.requires.1 (part_rest c.args.body.now c.args.at.p) c.same.result c.same.ensures c.if-not-same.false c.size.result c.size-2.result c.size.ensures c.size-2.ensures)
