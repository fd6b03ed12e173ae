-- Tests that compare keys: each is an equivalence, and equal things may be exchanged in it.
use mathlib.Core.Path.{◌≡◌, refl, sym, ◌∙◌}
use mathlib.Core.Logic.{◌↔◌}
use mathlib.Core.Bool.{Bool, true, false, true≢false}
use lib.Dec.{T}

-- A test that passes, as an equation and as a type.
pub is_true : (b : Bool) → T b → b ≡ true
is_true true h = refl
is_true false h = absurd h

pub holds : (b : Bool) → b ≡ true → T b
holds true e = tt
holds false e = absurd (true≢false (sym e))

-- Two tests that pass together are equal.
pub same_test : (a b : Bool) → (a ≡ true → b ≡ true) → (b ≡ true → a ≡ true) → a ≡ b
same_test true b f g = sym (f refl)
same_test false true f g = g refl
same_test false false f g = refl

module _ {A K : Type 0} (key : A → K) (test : A → A → Bool) (decides : (x y : A) → (test x y ≡ true) ↔ (key x ≡ key y)) where
  pub test_refl : (x : A) → test x x ≡ true
  test_refl x = (decides x x).1 refl

  pub test_sym : (x y : A) → test x y ≡ test y x
  test_sym x y = same_test (test x y) (test y x) (λ e. (decides y x).1 (sym ((decides x y).0 e))) (λ e. (decides x y).1 (sym ((decides y x).0 e)))

  pub test_trans : (x y z : A) → test x y ≡ true → test y z ≡ true → test x z ≡ true
  test_trans x y z e f = (decides x z).1 ((decides x y).0 e ∙ (decides y z).0 f)

  pub test_left : (x y z : A) → test x y ≡ true → test x z ≡ test y z
  test_left x y z e = same_test (test x z) (test y z) (λ f. test_trans y x z (sym (test_sym x y) ∙ e) f) (λ f. test_trans x y z e f)

  pub test_right : (x y z : A) → test x y ≡ true → test z x ≡ test z y
  test_right x y z e = test_sym z x ∙ test_left x y z e ∙ test_sym y z

  pub test_false : (x y : A) → test x y ≡ false → key x ≡ key y → ⊥
  test_false x y e k = true≢false (sym ((decides x y).1 k) ∙ e)
