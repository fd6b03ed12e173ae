-- Laws of the first element that passes a test.
use Prim.Native.Nat.{ℕ, ◌+◌, ◌<◌, ◌≤◌}
use native.Mathlib.Omega.{arith}
use mathlib.Core.Path.{◌≡◌, refl, sym, ap, ◌∙◌}
use mathlib.Core.Bool.{Bool, true, false, true≢false}
use lib.Dec.{ltb}
use borrow.Author.Tests.{ltb-true, ltb-false}
use mathlib.Core.List.{List}
use mathlib.Core.Option.{some}
use lib.ListN.{length, get_elem?}
use Rattle.index.specs.First.{First}
use Rattle.index.proofs.Entries.{below_or_here, element_below, element_of, same_element}

module _ {A : Type 0} (test : A → Bool) (l : List A) where
  pub first-end : (n : ℕ) → length l ≡ n → First test n l n
  first-end n e = record {
    later = omega arith;
    within = omega (arith, e);
    none = λ j x u v. absurd (omega (arith, u, v));
    found = λ x q. absurd (omega (arith, element_below l n q, e));
  }

  pub first-here : (r : ℕ) (x : A) → get_elem? l r ≡ some x → test x ≡ true → First test r l r
  first-here r x q t = record {
    later = omega arith;
    within = omega (arith, element_below l r q);
    none = λ j y u v. absurd (omega (arith, u, v));
    found = λ y p. ap test (same_element p q) ∙ t;
  }

  pub first_sooner : (g : ℕ) {r : ℕ} (x : A) → First test (g + 1) l r → get_elem? l g ≡ some x → test x ≡ false → First test g l r
  first_sooner g {r} x h q t = record {
    later = omega (arith, h.later);
    within = h.within;
    none = λ j y u v p. sooner j y u v p;
    found = h.found;
  }
    where
      sooner : (j : ℕ) (y : A) → g ≤ j → j < r → get_elem? l j ≡ some y → test y ≡ false
      sooner j y u v p = below_or_here (λ (i : ℕ). get_elem? l j ≡ some y → test y ≡ false) g j (λ b p. h.none j y (omega (arith, b)) v p) (λ e p. ap test (same_element (ap (λ (i : ℕ). get_elem? l i) e ∙ p) q) ∙ t) (omega (arith, u)) p

-- Tests that agree have the same first.
pub first_agree : {A : Type 0} (test other : A → Bool) {l : List A} {from r : ℕ} → ((x : A) → test x ≡ other x) → First test from l r → First other from l r
first_agree test other e h = record {
  later = h.later;
  within = h.within;
  none = λ j x u v q. sym (e x) ∙ h.none j x u v q;
  found = λ x q. sym (e x) ∙ h.found x q;
}

-- There is one first.
pub first_one : {A : Type 0} {test : A → Bool} {l : List A} {from a b : ℕ} → First test from l a → First test from l b → a ≡ b
first_one {A} {test} {l} {from} {a} {b} h k = go (ltb a b) refl (ltb b a) refl
  where
    less : {i j : ℕ} → First test from l i → First test from l j → i < j → ⊥
    less {i} {j} h k u =
        let x = element_of l i (omega (arith, u, k.within)) in
        true≢false (sym (h.found x.element x.is) ∙ k.none i x.element h.later u x.is)

    go : (s : Bool) → ltb a b ≡ s → (t : Bool) → ltb b a ≡ t → a ≡ b
    go true p t q = absurd (less h k (ltb-true a b p))
    go false p true q = absurd (less k h (ltb-true b a q))
    go false p false q = omega (arith, ltb-false a b p, ltb-false b a q)

-- The first does not stand after one that passes.
pub first-before : {A : Type 0} {test : A → Bool} (l : List A) {from r : ℕ} → First test from l r → (j : ℕ) (x : A) → get_elem? l j ≡ some x → test x ≡ true → from ≤ j → r ≤ j
first-before l {from} {r} h j x q t u = go (ltb j r) refl
  where
    go : (s : Bool) → ltb j r ≡ s → r ≤ j
    go true e = absurd (true≢false (sym t ∙ h.none j x u (ltb-true j r e) q))
    go false e = ltb-false j r e
