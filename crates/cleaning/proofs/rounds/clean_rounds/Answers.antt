use Prim.Native.Nat.{ℕ, suc, ◌+◌, ◌<◌, ◌≤◌}
use native.Mathlib.Omega.{arith}
use mathlib.Core.Path.{◌≡◌, subst, ◌∙◌}
use Rattle.program.proofs.Own.{own-counted}
use Rattle.cleaning.proofs.AllRounds.{RoundsAt, rounds-start, rounds_fewer, rounds-next, rounds-end}
use Rattle.cleaning.proofs.rounds.clean_rounds.Goals as goal
use Rattle.cleaning.proofs.rounds.clean_rounds.Goals.{In-loop-plan}

pub loop-plan-init : goal.loop-plan-init
loop-plan-init c w r = rounds-start r

pub clean_once-requires : goal.clean_once-requires
clean_once-requires c =
    let p = c.requires.0 in
    (record { program = p.program; ready = (c.loop-plan.invariant p.program p.ready).ready }, c.requires.1)

-- A round that drops something is one of few.
few_rounds : (c : In-loop-plan) → (suc c.loop-plan.round ≤ suc c.args.plan.sentences) × (c.loop-plan.round < 4096)
few_rounds c =
    let p = c.requires.0 in
    let r = c.loop-plan.invariant p.program p.ready in
    let k = rounds_fewer r (rw c.loop-plan-test.true at (c.clean_once.ensures p.program r.ready)) in
    (omega (arith, k, p.ready.indexed.sentences, own-counted p.program.functions), r.ready.few)

pub overflow_add-round : goal.overflow_add-round
overflow_add-round c = omega (arith, few_rounds c)

pub loop-plan-smaller : goal.loop-plan-smaller
loop-plan-smaller c = omega (arith, few_rounds c)

pub loop-plan-preserved : goal.loop-plan-preserved
loop-plan-preserved c w r =
    let e : suc c.loop-plan.round ≡ c.loop-plan.round + 1 = omega arith in
    let k = c.loop-plan.invariant w r in
    subst (λ (n : ℕ). RoundsAt c.args.b.now w c.args.work.now c.clean_once.new.work c.args.plan c.args.root n) e (rounds-next k (rw c.loop-plan-test.true at (c.clean_once.ensures w k.ready)))

pub shape_of-work : goal.shape_of-work
shape_of-work c =
    let p = c.requires.0 in
    let k = c.loop-plan.invariant p.program p.ready in
    (c.clean_once.ensures p.program k.ready).only.length ∙ k.only.length

pub returns : goal.returns
returns c w r =
    let k = c.loop-plan.invariant w r in
    rounds-end k (rw c.loop-plan-test.false at (c.clean_once.ensures w k.ready))
