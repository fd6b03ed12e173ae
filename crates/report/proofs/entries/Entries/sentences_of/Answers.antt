-- `report::entries::Entries::sentences_of` meets its contract. Assumes nothing.
use Prim.Native.Nat.{ℕ, suc, ◌+◌}
use native.Mathlib.Omega.{arith}
use mathlib.Core.Path.{◌≡◌, ap, ◌∙◌}
use Rattle.told.specs.Numbered.{sentences_before}
use Rattle.cleaning.proofs.Owned.{before_most}
use Rattle.program.proofs.Own.{own-counted}
use Rattle.report.proofs.entries.Entries.sentences_of.Goals as goal

pub first_sentence-requires : goal.first_sentence-requires
first_sentence-requires c = (c.requires.0, omega (arith, c.requires.1))

pub overflow_add-f : goal.overflow_add-f
overflow_add-f c = omega (arith, c.requires.1, c.requires.0.indexed.fits, c.requires.0.indexed.small)

pub first_sentence-requires-2 : goal.first_sentence-requires-2
first_sentence-requires-2 c = (c.requires.0, omega (arith, c.requires.1))

pub returns : goal.returns
returns c =
    let z : c.args.f + 1 ≡ suc c.args.f = omega arith in
    let p = c.requires.0 in
    record {
      are = λ b w d. (c.first_sentence.ensures b w d, c.first_sentence-2.ensures b w d ∙ ap (λ (k : ℕ). sentences_before k w.functions) z);
      within = omega (arith, c.first_sentence-2.ensures p.body p.program p.indexed, before_most p.program.functions (c.args.f + 1), own-counted p.program.functions, p.indexed.sentences);
    }
