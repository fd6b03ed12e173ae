use Prim.Native.Nat.{ℕ}
use native.Mathlib.Omega.{arith}
use mathlib.Core.Path.{sym, subst}
use lib.ListN.{drop}
use Rattle.program.specs.Bytes.{get16}
use Rattle.symbols.proofs.Parts.{part_rest}
use Rattle.matching.specs.Bindings.{VariableAt}
use Rattle.matching.proofs.Variables.{place-within, sought_first, at_newest, sought_found, sought_more, sought_none, told_at}
use Rattle.matching.proofs.bindings.lookup.Goals as goal

pub loop-at-init : goal.loop-at-init
loop-at-init c = λ v top b r. sought_first v.kind v.name b r

pub read-known-requires : goal.read-known-requires
read-known-requires c =
    let h = c.requires in
    let s = c.loop-at.invariant h.0 h.2.0 h.2.1.bindings h.2.1.is in
    omega (arith, (at_newest h.0 s c.loop-at-test.true).room, h.1)

pub slice_bounds-same_variable-count : goal.slice_bounds-same_variable-count
slice_bounds-same_variable-count c = omega (arith, place-within c.args.body.now c.args.p c.requires.0)

pub slice_bounds-same_variable-start : goal.slice_bounds-same_variable-start
slice_bounds-same_variable-start c = omega (arith, place-within c.args.body.now c.args.p c.requires.0)

pub slice_bounds-same_variable-count-in-loop-at : goal.slice_bounds-same_variable-count-in-loop-at
slice_bounds-same_variable-count-in-loop-at c =
    let h = c.requires in
    let s = c.loop-at.invariant h.0 h.2.0 h.2.1.bindings h.2.1.is in
    omega (arith, place-within c.args.body.now (get16 c.args.work.now c.loop-at.at) (at_newest h.0 s c.loop-at-test.true).there.variable, c.read-known.ensures.place)

pub slice_bounds-same_variable-start-in-loop-at : goal.slice_bounds-same_variable-start-in-loop-at
slice_bounds-same_variable-start-in-loop-at c =
    let h = c.requires in
    let s = c.loop-at.invariant h.0 h.2.0 h.2.1.bindings h.2.1.is in
    omega (arith, place-within c.args.body.now (get16 c.args.work.now c.loop-at.at) (at_newest h.0 s c.loop-at-test.true).there.variable, c.read-known.ensures.place)

pub same_variable-requires : goal.same_variable-requires
same_variable-requires c =
    let h = c.requires in
    let body = c.args.body.now in
    let s = c.loop-at.invariant h.0 h.2.0 h.2.1.bindings h.2.1.is in
    let y = subst (λ (i : ℕ). VariableAt (drop i body)) c.read-known.ensures.place (at_newest h.0 s c.loop-at-test.true).there.variable in
    (subst VariableAt (sym (part_rest body c.args.p)) h.0, subst VariableAt (sym (part_rest body c.read-known.result.place)) y)

pub returns-then-same_variable : goal.returns-then-same_variable
returns-then-same_variable c = λ v top b r.
    let body = c.args.body.now in
    sought_found v (c.loop-at.invariant v top b r) c.loop-at-test.true c.same_variable.result
    (told_at body c.args.p c.read-known.result.place (sym c.read-known.ensures.place) (part_rest body c.args.p) (part_rest body c.read-known.result.place) c.same_variable.ensures v) c.if-same_variable.true

pub overflow_step-at : goal.overflow_step-at
overflow_step-at c =
    let h = c.requires in
    let s = c.loop-at.invariant h.0 h.2.0 h.2.1.bindings h.2.1.is in
    omega (arith, (at_newest h.0 s c.loop-at-test.true).room, h.1)

pub loop-at-smaller : goal.loop-at-smaller
loop-at-smaller c = omega arith

pub loop-at-preserved : goal.loop-at-preserved
loop-at-preserved c = λ v top b r.
    let body = c.args.body.now in
    sought_more v (c.loop-at.invariant v top b r) c.loop-at-test.true c.same_variable.result
    (told_at body c.args.p c.read-known.result.place (sym c.read-known.ensures.place) (part_rest body c.args.p) (part_rest body c.read-known.result.place) c.same_variable.ensures v) c.if-same_variable.false

pub returns : goal.returns
returns c = λ v top b r. sought_none v (c.loop-at.invariant v top b r) c.loop-at-test.false

pub returns-else-same_variable : goal.returns-else-same_variable
returns-else-same_variable c = λ v top b r.
    let body = c.args.body.now in
    sought_none v (sought_more v (c.loop-at.invariant v top b r) c.loop-at-test.true c.same_variable.result
    (told_at body c.args.p c.read-known.result.place (sym c.read-known.ensures.place) (part_rest body c.args.p) (part_rest body c.read-known.result.place) c.same_variable.ensures v) c.if-same_variable.false) (omega arith)
