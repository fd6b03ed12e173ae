-- Fuel that covers a cost, and fuel that does not.
use Prim.Native.Nat.{ℕ, ◌+◌, ◌-◌, ◌<◌}
use native.Mathlib.Omega.{arith}
use mathlib.Core.Path.{◌≡◌, refl, ap, ap₂}
use mathlib.Core.Bool.{Bool, true, false, cond}
use lib.Dec.{ltb}
use borrow.Author.Tests.{ltb-true, ltb-false, lt-ltb, le-ltb}
use Rattle.patterns.specs.declared.Verdict.{Verdict}
use Rattle.patterns.specs.declared.Verdict.TheVariants.{Unknown}
use Rattle.patterns.specs.Search.{found}
use Rattle.rows.specs.Cells.{costing}

-- Fuel below the cost, and fuel that covers it.
pub too_little : (c : ℕ) (v : Verdict) (f : ℕ) → f < c → costing c v f ≡ found Unknown 0
unfolding costing
too_little c v f l = ap (λ (t : Bool). cond t (found Unknown 0) (found v (f - c))) (lt-ltb f c l)

pub enough : (c : ℕ) (v : Verdict) (f g : ℕ) → f ≡ c + g → costing c v f ≡ found v g
unfolding costing
enough c v f g e = ap₂ (λ (t : Bool) (h : ℕ). cond t (found Unknown 0) (found v h)) (le-ltb f c (omega (arith, e))) (omega (arith, e))

pub either : (f c : ℕ) {P : Type 0} → (f < c → P) → ((g : ℕ) → f ≡ c + g → P) → P
either f c {P} short covered = by (ltb f c) refl
  where
    by : (t : Bool) → ltb f c ≡ t → P
    by true e = short (ltb-true f c e)
    by false e = covered (f - c) (omega (arith, ltb-false f c e))
