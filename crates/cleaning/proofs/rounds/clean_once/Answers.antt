use mathlib.Core.Bool.{◌||◌}
use Prim.Native.Nat.{ℕ, suc, ◌+◌}
use native.Mathlib.Omega.{arith}
use mathlib.Core.Path.{◌≡◌, subst}
use Rattle.cleaning.specs.RoundDone.{RoundAt}
use Rattle.cleaning.proofs.RoundCode.{round-start, round-made}
use Rattle.cleaning.proofs.rounds.clean_once.Goals as goal

pub loop-f-init : goal.loop-f-init
loop-f-init c = (omega arith, λ w r. round-start r)

pub clean_function-changed-requires : goal.clean_function-changed-requires
clean_function-changed-requires c =
    let p = c.requires.0 in
    let h = c.loop-f in
    (record { program = p.program; old = c.args.work.now; changed = h.changed; ready = p.ready; at = h.invariant.1 p.program p.ready }, c.loop-f-test.true, c.requires.1)

pub loop-f-preserved : goal.loop-f-preserved
loop-f-preserved c =
    let h = c.loop-f in
    let e : suc h.f ≡ h.f + 1 = omega arith in (
      omega (arith, c.loop-f-test.true),
      λ w r. subst (λ (n : ℕ). RoundAt c.args.b.now w c.args.work.now c.clean_function-changed.new.work c.args.plan c.args.round n (h.changed || c.clean_function-changed.result)) e (c.clean_function-changed.ensures w c.args.work.now h.changed r (h.invariant.1 w r)),
    )

pub shape_of-work : goal.shape_of-work
shape_of-work c = let p = c.requires.0 in (c.loop-f.invariant.1 p.program p.ready).only.length

pub returns : goal.returns
returns c w r = let h = c.loop-f in round-made r h.work h.f h.changed (omega (arith, c.loop-f-test.false, h.invariant.0)) (h.invariant.1 w r)
