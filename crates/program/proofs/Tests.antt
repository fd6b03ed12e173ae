-- A test of two numbers, by its two outcomes.
use Prim.Native.Nat.{ℕ}
use mathlib.Core.Path.{◌≡◌, refl}
use mathlib.Core.Bool.{Bool, true, false}
use lib.Dec.{eqb}
use borrow.Author.Tests.{eqb-true, eqb-false}
use Rattle.program.specs.Limits.{pick}

pub by_test : {A : Type 0} (P : A → Type 0) (b n : ℕ) (a c : A) → (b ≡ n → P a) → ((b ≡ n → ⊥) → P c) → P (pick (eqb b n) a c)
by_test P b n a c f g = by (eqb b n) refl
  where
    by : (t : Bool) → eqb b n ≡ t → P (pick t a c)
    by true e = f (eqb-true b n e)
    by false e = g (eqb-false b n e)
