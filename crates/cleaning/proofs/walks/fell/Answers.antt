-- `cleaning::walks::fell` meets its contract. Assumes nothing.
use native.Mathlib.Omega.{arith}
use Prim.Native.Nat.{ℕ, ◌+◌, ◌<◌}
use mathlib.Core.Path.{◌≡◌, sym, ap, ◌∙◌}
use mathlib.Core.List.{List}
use lib.ListN.{get_or}
use Rattle.restrictions.specs.Entries.{entry_sentence}
use Rattle.index.specs.declared.Plan.{Plan}
use Rattle.index.specs.Layout.{lines}
use Rattle.cleaning.specs.Indexed.{fell_of}
use Rattle.cleaning.proofs.Indexed.{fell-is}
use Rattle.cleaning.proofs.walks.fell.Goals as goal

-- What is read above a sentence's place is its round.
read : (p : Plan) (m : List ℕ) (s at n : ℕ) → s < p.sentences → at ≡ lines p → n ≡ entry_sentence (get_or m (at + s) 0) → fell_of p m s ≡ n
read p m s at n l z e = fell-is p m s l ∙ sym (e ∙ ap (λ (k : ℕ). entry_sentence (get_or m (k + s) 0)) z)

pub returns-in-0 : goal.returns-in-0
returns-in-0 c = read c.args.plan c.args.work.now c.args.s c.lines.result c.from.result.number c.requires.0 c.lines.ensures c.from.ensures.1 ∙ c.in-0.is

pub returns-in_default : goal.returns-in_default
returns-in_default c =
    (read c.args.plan c.args.work.now c.args.s c.lines.result c.from.result.number c.requires.0 c.lines.ensures c.from.ensures.1, omega arith, omega (arith, c.from.ensures.1))
