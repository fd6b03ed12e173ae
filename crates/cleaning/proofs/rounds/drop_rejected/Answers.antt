use Prim.Native.Nat.{ℕ}
use native.Mathlib.Omega.{arith}
use mathlib.Core.Path.{subst}
use Rattle.cleaning.specs.RoundDone.{SentencesDropped}
use Rattle.cleaning.proofs.Dropping.{dropped-start, dropped-next}
use Rattle.cleaning.proofs.rounds.drop_rejected.Goals as goal

pub loop-s-init : goal.loop-s-init
loop-s-init c = let a = c.args in (dropped-start a.plan a.first a.round a.work.now, omega arith, c.requires.0)

pub drop_sentence-dropped-requires : goal.drop_sentence-dropped-requires
drop_sentence-dropped-requires c =
    let p = c.requires in
    let i = c.loop-s.invariant in
    let l = i.0.others.length in
    (omega (arith, c.loop-s-test.true, p.1), p.2, p.3, (omega (arith, l, p.4.0), omega (arith, l, p.4.1)))

pub loop-s-preserved : goal.loop-s-preserved
loop-s-preserved c =
    let a = c.args in
    let h = c.loop-s in
    let t = c.loop-s-test.true in (
      dropped-next a.plan a.first a.round a.work.now h.work c.drop_sentence-dropped.new.work h.s h.dropped c.drop_sentence-dropped.result h.invariant.1 (omega (arith, t, c.requires.1)) h.invariant.0 c.drop_sentence-dropped.ensures,
      omega (arith, h.invariant.1),
      omega (arith, t),
    )

pub shape_of-work : goal.shape_of-work
shape_of-work c = c.loop-s.invariant.0.others.length

pub returns : goal.returns
returns c =
    let a = c.args in
    let h = c.loop-s in
    subst (λ (n : ℕ). SentencesDropped a.work.now h.work a.plan a.first n a.round h.dropped) (omega (arith, c.loop-s-test.false, h.invariant.2)) h.invariant.0
