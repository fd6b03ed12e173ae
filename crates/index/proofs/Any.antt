-- A test on a list, one element after another.
use Prim.Native.Nat.{ℕ, zero, suc, ◌+◌, ◌≤◌}
use native.Mathlib.Omega.{arith}
use native.Mathlib.Numerals.{add-one}
use mathlib.Core.Path.{◌≡◌, sym, ap, ◌∙◌}
use mathlib.Core.Bool.{Bool, true, false, ◌||◌}
use mathlib.Core.List.{List, [], ◌∷◌}
use mathlib.Core.Option.{some}
use lib.ListN.{length, get_elem?, drop, drop_of_length-le}
use Rattle.meaning.specs.Lists.{any}

left_at : {A : Type 0} (l : List A) (i : ℕ) (x : A) → get_elem? l i ≡ some x → drop i l ≡ x ∷ drop (suc i) l
left_at [] i x q = let z : ◌≡◌ {A = ℕ} 0 1 = cc in absurd (omega arith)
left_at (y ∷ l) zero x q = let z : y ≡ x = cc in ap (λ (v : _). v ∷ l) z
left_at (y ∷ l) (suc i) x q = left_at l i x q

module _ {A : Type 0} (test : A → Bool) (l : List A) where
  any_at : (i : ℕ) (x : A) → get_elem? l i ≡ some x → any test (drop i l) ≡ (test x || any test (drop (i + 1) l))
  unfolding any
  any_at i x q = ap (any test) (left_at l i x q) ∙ ap (λ (n : ℕ). test x || any test (drop n l)) (sym (add-one i))

  pub any_found : (i : ℕ) (x : A) → get_elem? l i ≡ some x → test x ≡ true → any test (drop i l) ≡ true
  any_found i x q e = any_at i x q ∙ ap (λ (t : Bool). t || any test (drop (i + 1) l)) e

  pub any_next : (i : ℕ) (x : A) → get_elem? l i ≡ some x → test x ≡ false → any test (drop i l) ≡ any test (drop (i + 1) l)
  any_next i x q e = any_at i x q ∙ ap (λ (t : Bool). t || any test (drop (i + 1) l)) e

  pub any-end : (i : ℕ) → length l ≤ i → any test (drop i l) ≡ false
  unfolding any
  any-end i h = ap (any test) (drop_of_length-le l h)
