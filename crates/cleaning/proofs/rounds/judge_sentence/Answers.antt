-- `cleaning::rounds::judge_sentence` meets its contract. Assumes nothing.
use Prim.Native.Nat.{◌+◌}
use native.Mathlib.Omega.{arith}
use mathlib.Core.Path.{sym, ◌∙◌}
use Rattle.program.specs.Sentences.{own_sentences}
use Rattle.index.specs.Layout.{witnesses}
use Rattle.index.proofs.First.{element_below}
use Rattle.told.specs.History.{is_there}
use Rattle.cleaning.specs.Indexed.{fell_of}
use Rattle.cleaning.proofs.Judging.{judged_gone, judged_there}
use Rattle.cleaning.proofs.Room.{no_column}
use Rattle.cleaning.proofs.rounds.judge_sentence.Goals as goal

pub is_there-requires : goal.is_there-requires
is_there-requires c =
    let p = c.requires.0 in (
      omega (arith, element_below (own_sentences p.program.functions) c.args.s p.sentence p.owns.sentence, p.indexed.sentences),
      (omega (arith, p.indexed.fits), p.indexed.small),
    )

pub still_met-requires : goal.still_met-requires
still_met-requires c = c.requires

pub shape_of-work : goal.shape_of-work
shape_of-work c = c.still_met.ensures.others.length

pub returns-then-not-is_there : goal.returns-then-not-is_there
returns-then-not-is_there c =
    let a = c.args in
    record { judged = λ w x y d o q. judged_gone w (is_there (fell_of a.plan a.work.now) a.round) a.work.now a.plan x a.s y (sym c.is_there.ensures ∙ c.if-not-is_there.true) q; others = no_column a.plan a.work.now (witnesses a.plan + a.s) }

pub returns : goal.returns
returns c =
    let a = c.args in
    record { judged = λ w x y d o q. judged_there w (is_there (fell_of a.plan a.work.now) a.round) c.still_met.new.work a.plan x a.s y d.sites (sym c.is_there.ensures ∙ c.if-not-is_there.false) c.still_met.result (c.still_met.ensures.met w x y d o q); others = c.still_met.ensures.others }
