-- The first element that passes a test: how a walk finds it, and what it says of the list.
use Prim.Native.Nat.{ℕ, zero, suc, ◌≤◌, ◌<◌}
use native.Mathlib.Omega.{arith}
use mathlib.Core.Path.{◌≡◌, refl, ap, subst, ◌∙◌}
use mathlib.Core.Bool.{Bool, true, false, ◌||◌, or-true}
use mathlib.Core.List.{List, [], ◌∷◌}
use mathlib.Core.Option.{some}
use borrow.Author.Tests.{ltb-true, ltb-false, lt-ltb, le-ltb}
use lib.Dec.{ltb}
use lib.ListN.{length, get_elem?}
use Rattle.std.specs.Prelude.{Option, None, Some, is_some}
use Rattle.meaning.specs.Lists.{any}
use Rattle.index.specs.First.{First, FirstFrom}

-- An element of a list at a place.
pub record Element {A : Type 0} (l : List A) (i : ℕ) : Type 0 where
  pub element : A
  pub is : get_elem? l i ≡ some element

-- Every place below the length has an element, and no other place has.
pub element_at : {A : Type 0} (l : List A) (i : ℕ) → i < length l → Element l i
element_at [] i h = absurd (omega arith)
element_at (x ∷ l) zero h = record { element = x; is = refl }
element_at (x ∷ l) (suc i) h = let e = element_at l i (omega arith) in record { element = e.element; is = e.is }

pub element_below : {A : Type 0} (l : List A) (i : ℕ) (x : A) → get_elem? l i ≡ some x → i < length l
element_below [] i x e = let z : ◌≡◌ {A = ℕ} 0 1 = cc in absurd (omega arith)
element_below (y ∷ l) zero x e = omega arith
element_below (y ∷ l) (suc i) x e = omega (arith, element_below l i x e)

pub element_same : {A : Type 0} (l : List A) (i : ℕ) (x y : A) → get_elem? l i ≡ some x → get_elem? l i ≡ some y → x ≡ y
element_same l i x y e g = cc

module _ {A : Type 0} {test : A → Bool} {l : List A} where
  -- Nothing passes from the end on.
  pub first-end : First test (length l) l (length l)
  first-end = record {
    later = omega arith;
    within = omega arith;
    none = λ j x h g e. absurd (omega arith);
    found = λ x e. absurd (omega (arith, element_below l (length l) x e));
  }

  -- An element that passes is the first from its own place on.
  pub first-here : {i : ℕ} {x : A} → get_elem? l i ≡ some x → test x ≡ true → First test i l i
  first-here {i} {x} e t = record {
    later = omega arith;
    within = omega (arith, element_below l i x e);
    none = λ j y h g d. absurd (omega arith);
    found = λ y d. ap test (element_same l i y x d e) ∙ t;
  }

  -- What fails from one place up to another is stepped over.
  pub first_over : {i j r : ℕ} → i ≤ j → ((k : ℕ) (x : A) → i ≤ k → k < j → get_elem? l k ≡ some x → test x ≡ false) → First test j l r → First test i l r
  first_over {i} {j} {r} h f g = record {
    later = omega (arith, g.later);
    within = g.within;
    none = λ k x a b e. over k x a b e (ltb k j) refl;
    found = g.found;
  }
    where
      over : (k : ℕ) (x : A) → i ≤ k → k < r → get_elem? l k ≡ some x → (t : Bool) → ltb k j ≡ t → test x ≡ false
      over k x a b e true t = f k x a (ltb-true k j t) e
      over k x a b e false t = g.none k x (ltb-false k j t) b e

  -- An element that fails is stepped over.
  pub first_step : {i r : ℕ} {x : A} → get_elem? l i ≡ some x → test x ≡ false → First test (suc i) l r → First test i l r
  first_step {i} {r} {x} e t = first_over (omega arith) (λ k y a b d.
      let z : k ≡ i = omega arith in
      ap test (element_same l i y x (rw z at d) e) ∙ t)

  first_least : {i r q : ℕ} → First test i l r → First test i l q → r < q → ⊥
  first_least {i} {r} {q} f g h =
      let x = element_at l r (omega (arith, g.within)) in
      let t = f.found x.element x.is in
      let u = g.none r x.element f.later h x.is in
      let z : ◌≡◌ {A = ℕ} 0 1 = cc in omega arith

  -- There is one first.
  pub first_unique : {i r q : ℕ} → First test i l r → First test i l q → r ≡ q
  first_unique {i} {r} {q} f g = same (ltb r q) (ltb q r) refl refl
    where
      same : (t u : Bool) → ltb r q ≡ t → ltb q r ≡ u → r ≡ q
      same true u a b = absurd (first_least f g (ltb-true r q a))
      same false true a b = absurd (first_least g f (ltb-true q r b))
      same false false a b = omega (arith, ltb-false r q a, ltb-false q r b)

  -- What passes is not before the first.
  pub first-before : {i r k : ℕ} {x : A} → First test i l r → i ≤ k → get_elem? l k ≡ some x → test x ≡ true → r ≤ k
  first-before {i} {r} {k} {x} f h e t = before (ltb k r) refl
    where
      before : (u : Bool) → ltb k r ≡ u → r ≤ k
      before true a =
          let u = f.none k x h (ltb-true k r a) e in
          let z : ◌≡◌ {A = ℕ} 0 1 = cc in absurd (omega arith)
      before false a = ltb-false k r a

  -- The first is the end, so none passes.
  pub first-none : {r : ℕ} → First test 0 l r → r ≡ length l → (i : ℕ) (x : A) → get_elem? l i ≡ some x → test x ≡ false
  first-none {r} f e i x d = f.none i x (omega arith) (omega (arith, element_below l i x d)) d

any_at : {A : Type 0} (test : A → Bool) (l : List A) (i : ℕ) (x : A) → get_elem? l i ≡ some x → test x ≡ true → any test l ≡ true
unfolding any
any_at test [] i x e t = let z : ◌≡◌ {A = ℕ} 0 1 = cc in absurd (omega arith)
any_at test (y ∷ l) zero x e t = ap (λ (u : Bool). u || any test l) (ap test (element_same (y ∷ l) 0 y x refl e) ∙ t)
any_at test (y ∷ l) (suc i) x e t = ap (λ (u : Bool). test y || u) (any_at test l i x e t) ∙ or-true (test y)

any-nowhere : {A : Type 0} (test : A → Bool) (l : List A) → ((i : ℕ) (x : A) → get_elem? l i ≡ some x → test x ≡ false) → any test l ≡ false
unfolding any
any-nowhere test [] f = refl
any-nowhere test (y ∷ l) f = ap (λ (u : Bool). u || any test l) (f 0 y refl) ∙ any-nowhere test l (λ i x e. f (suc i) x e)

-- Some element passes, if the first is one of the list.
pub first_any : {A : Type 0} {test : A → Bool} {l : List A} {r : ℕ} → First test 0 l r → any test l ≡ ltb r (length l)
first_any {A} {test} {l} {r} f = either (ltb r (length l)) refl
  where
    either : (t : Bool) → ltb r (length l) ≡ t → any test l ≡ t
    either true e = let x = element_at l r (ltb-true r (length l) e) in any_at test l r x.element x.is (f.found x.element x.is)
    either false e = any-nowhere test l (first-none f (omega (arith, f.within, ltb-false r (length l) e)))

-- The same of a place that may be missing.
pub any_from : {A : Type 0} (test : A → Bool) (l : List A) (r : Option ℕ) → FirstFrom test 0 l r → any test l ≡ is_some r
any_from test l None f = first_any f ∙ le-ltb (length l) (length l) (omega arith)
any_from test l (Some r) f = first_any f.0 ∙ lt-ltb r (length l) f.1

-- A first from the end on is none.
pub none_from : {A : Type 0} {test : A → Bool} {from r : ℕ} {l : List A} → First test from l r → length l ≤ r → FirstFrom test from l None
none_from {A} {test} {from} {r} {l} f h = subst (First test from l) (omega (arith, f.within, h)) f
