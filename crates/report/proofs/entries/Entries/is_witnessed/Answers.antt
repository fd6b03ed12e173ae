use native.Mathlib.Omega.{arith}
use mathlib.Core.Path.{sym, ◌∙◌}
use mathlib.Core.Bool.{false≢true}
use Rattle.told.specs.History.{is_there, after_all}
use Rattle.index.proofs.First.{element_at}
use Rattle.cleaning.specs.Indexed.{fell_of}
use Rattle.report.proofs.UncoveredLists.{witness_covers}
use Rattle.report.proofs.entries.Entries.is_witnessed.Goals as goal

pub sentences_of-own-requires : goal.sentences_of-own-requires
sentences_of-own-requires c = (c.requires.0, c.requires.1)

pub loop-s-init : goal.loop-s-init
loop-s-init c = omega arith

pub is_witness-requires : goal.is_witness-requires
is_witness-requires c = (
  omega (arith, c.loop-s-test.true, c.sentences_of-own.ensures.within),
  c.requires.2,
  (c.requires.0.indexed.fits, c.requires.0.indexed.small),
)

pub returns-then-is_witness : goal.returns-then-is_witness
returns-then-is_witness c =
    λ b w x y d e g t.
    witness_covers (is_there (fell_of c.args.self.now.plan c.args.self.now.work.now) after_all) w c.args.f x e c.args.i y g
    (element_at _ c.loop-s.s (omega (
      arith,
      c.loop-s-test.true,
      c.sentences_of-own.ensures.within,
      d.indexed.sentences,
    )))
    (omega (arith, c.loop-s.invariant, (c.sentences_of-own.ensures.are b w d.indexed).0)) (omega (arith, c.loop-s-test.true, (c.sentences_of-own.ensures.are b w d.indexed).1))
    (λ z o. d.witnessed.witness c.args.f x c.loop-s.s z o) (sym c.is_witness.ensures ∙ c.if-is_witness.true)

pub loop-s-preserved : goal.loop-s-preserved
loop-s-preserved c = omega (arith, c.loop-s.invariant)

pub returns : goal.returns
returns c = λ b w x y d e g t. absurd (false≢true t)
