use Prim.Native.Nat.{ℕ, suc, ◌+◌}
use native.Mathlib.Omega.{arith}
use mathlib.Core.Path.{◌≡◌, refl, sym, subst}
use mathlib.Core.Bool.{false}
use Rattle.index.specs.Layout.{witnesses}
use Rattle.told.specs.History.{is_there}
use Rattle.cleaning.specs.Indexed.{fell_of}
use Rattle.cleaning.specs.Walks.{ColumnsApart}
use Rattle.cleaning.specs.RoundDone.{JudgedUpto}
use Rattle.cleaning.proofs.Judging.{judged_start, apart_next, judge_asks, judge_steps}
use Rattle.cleaning.proofs.Owned.{before-later}
use Rattle.cleaning.proofs.rounds.judge.Invariants.{Judging}
use Rattle.cleaning.proofs.rounds.judge.Goals as goal

pub loop-s-init : goal.loop-s-init
loop-s-init c =
    let a = c.args in
    let p = c.requires.0 in (
      record { length = refl; before = λ k i l. refl; after = λ k i l. refl },
      omega arith,
      omega (arith, p.from, p.upto, before-later p.program.functions a.f (suc a.f) (omega arith)),
      λ w x d is h begin stop. (h, subst (λ (n : ℕ). JudgedUpto w (is_there (fell_of a.plan a.work.now) a.round) a.work.now a.plan a.f x n false) (sym begin) (judged_start w (is_there (fell_of a.plan a.work.now) a.round) a.plan a.f x a.work.now)),
    )

pub judge_sentence-met-requires : goal.judge_sentence-met-requires
judge_sentence-met-requires c =
    let a = c.args in
    let p = c.requires.0 in
    let h = c.loop-s in (
      judge_asks a.b.now a.work.now a.plan a.f a.first a.end a.round p.function h.s p.indexed p.is p.from p.upto h.invariant.0 h.invariant.1 c.loop-s-test.true
          (h.invariant.3 p.program p.function p.indexed p.is p.witnessed p.from p.upto).0,
      c.requires.1,
    )

pub loop-s-preserved : goal.loop-s-preserved
loop-s-preserved c =
    let a = c.args in
    let h = c.loop-s in
    let t = c.loop-s-test.true in (
      apart_next a.b.now a.work.now a.plan a.f a.first a.end a.round h.invariant.1 h.invariant.0 c.judge_sentence-met.ensures.others,
      omega (arith, h.invariant.1),
      omega (arith, t),
      λ w x d is q begin stop. judge_steps a.b.now a.work.now a.plan a.f a.first a.end a.round x h.s d is begin stop h.invariant.0 h.invariant.1 t c.judge_sentence-met.new.work h.met c.judge_sentence-met.result c.judge_sentence-met.ensures.judged c.judge_sentence-met.ensures.others (h.invariant.3 w x d is q begin stop),
    )

pub shape_of-work : goal.shape_of-work
shape_of-work c = c.loop-s.invariant.0.length

pub returns : goal.returns
returns c = let a = c.args in let h = c.loop-s in let e : h.s ≡ a.end = omega (arith, c.loop-s-test.false, h.invariant.2) in record { judged = subst (λ (n : ℕ). Judging a.b.now a.work.now h.work a.plan a.f a.first a.end a.round n h.met) e h.invariant.3; others = subst (λ (n : ℕ). ColumnsApart a.plan a.work.now h.work (witnesses a.plan + a.first) (witnesses a.plan + n)) e h.invariant.0 }
