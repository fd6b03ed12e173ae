-- Closes to come behind a token, by its mark.
use Prim.Native.Nat.{ℕ, ◌+◌, ◌-◌}
use mathlib.Core.Path.{◌≡◌}
use borrow.Author.Tests.{ne_eqb}
use Rattle.image.specs.Parts.{closes_after}

pub closes_open : (m n : ℕ) → m ≡ 7 → n + 1 ≡ closes_after m n
unfolding closes_after
closes_open m n e = rw e

pub closes_close : (m n : ℕ) → m ≡ 15 → n - 1 ≡ closes_after m n
unfolding closes_after
closes_close m n e = rw e

pub closes_same : (m n : ℕ) → (m ≡ 7 → ⊥) → (m ≡ 15 → ⊥) → n ≡ closes_after m n
unfolding closes_after
closes_same m n a b = rw (ne_eqb m 7 a, ne_eqb m 15 b)
