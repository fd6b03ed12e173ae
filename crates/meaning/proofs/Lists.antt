-- What the tests on lists say of their elements.
use mathlib.Core.Path.{◌≡◌, refl, sym, ◌∙◌, ap}
use mathlib.Core.Logic.{◌⊎◌, inl, inr}
use mathlib.Core.Bool.{Bool, true, false, ◌||◌, false≢true, and-eq-true_iff, or-true, cond}
use mathlib.Core.List.Memᴰ
use mathlib.Core.List.{List, [], ◌∷◌, Memᴰ}
use Rattle.meaning.specs.Lists.{all, any, select, firsts_after, firsts}

-- Some element of a list has a property.
abbrev pub Some : {A : Type 0} → (A → Type 0) → List A → Type 0
Some P l = (x : _) × Memᴰ x l × P x

pub all-at : {A : Type 0} (test : A → Bool) (l : List A) (x : A) → all test l ≡ true → Memᴰ x l → test x ≡ true
unfolding all
all-at test [] x e m = absurd (Memᴰ.not-nil m)
all-at test (y ∷ l) x e (Memᴰ.head q) = ap test q ∙ ((and-eq-true_iff (test y) (all test l)).0 e).0
all-at test (y ∷ l) x e (Memᴰ.tail m) = all-at test l x ((and-eq-true_iff (test y) (all test l)).0 e).1 m

module _ {A : Type 0} (P : A → Type 0) where
  pub some-later : (y : A) (l : List A) → Some P l → Some P (y ∷ l)
  some-later y l s = (s.0, Memᴰ.tail s.1, s.2)

  or_some : (t : Bool) (u : Bool) (y : A) (l : List A) → (t || u) ≡ true → (t ≡ true → P y) → (u ≡ true → Some P l) → Some P (y ∷ l)
  or_some true u y l e f g = (y, Memᴰ.head refl, f refl)
  or_some false u y l e f g = some-later y l (g e)

  pub any_some : (test : A → Bool) (l : List A) → any test l ≡ true → ((x : A) → test x ≡ true → P x) → Some P l
  unfolding any
  any_some test [] e f = absurd (false≢true e)
  any_some test (y ∷ l) e f = or_some (test y) (any test l) y l e (f y) (λ h. any_some test l h f)

pub in_any : {A : Type 0} (test : A → Bool) (l : List A) (x : A) → Memᴰ x l → test x ≡ true → any test l ≡ true
unfolding any
in_any test [] x m e = absurd (Memᴰ.not-nil m)
in_any test (y ∷ l) x (Memᴰ.head q) e = ap (λ (t : Bool). t || any test l) (sym (ap test q) ∙ e)
in_any test (y ∷ l) x (Memᴰ.tail m) e = ap (λ (t : Bool). test y || t) (in_any test l x m e) ∙ or-true (test y)

-- What passes the test is selected, and what is selected passes it.
in_first : {A : Type 0} (t : Bool) (x : A) (l m : List A) → t ≡ true → Memᴰ x l → Memᴰ x (cond t l m)
in_first true x l m e h = h
in_first false x l m e h = absurd (false≢true e)

in_either : {A : Type 0} (t : Bool) (x y : A) (l : List A) → Memᴰ x l → Memᴰ x (cond t (y ∷ l) l)
in_either true x y l m = Memᴰ.tail m
in_either false x y l m = m

pub in_select : {A : Type 0} (test : A → Bool) (l : List A) (x : A) → test x ≡ true → Memᴰ x l → Memᴰ x (select test l)
unfolding select
in_select test [] x e m = m
in_select test (y ∷ l) x e (Memᴰ.head q) = in_first (test y) x (y ∷ select test l) (select test l) (sym (ap test q) ∙ e) (Memᴰ.head q)
in_select test (y ∷ l) x e (Memᴰ.tail m) = in_either (test y) x y (select test l) (in_select test l x e m)

pub select_passes : {A : Type 0} (test : A → Bool) (l : List A) (x : A) → Memᴰ x (select test l) → test x ≡ true
unfolding select
select_passes test [] x m = absurd (Memᴰ.not-nil m)
select_passes test (y ∷ l) x m = passes (test y) refl m (select_passes test l x)
  where
    first_passes : test y ≡ true → Memᴰ x (y ∷ select test l) → (Memᴰ x (select test l) → test x ≡ true) → test x ≡ true
    first_passes e (Memᴰ.head q) f = ap test q ∙ e
    first_passes e (Memᴰ.tail m) f = f m

    passes : (t : Bool) → test y ≡ t → Memᴰ x (cond t (y ∷ select test l) (select test l)) → (Memᴰ x (select test l) → test x ≡ true) → test x ≡ true
    passes true e m f = first_passes e m f
    passes false e m f = f m

-- What is among the firsts is in the list.
firsts_after_in : {A : Type 0} (same : A → A → Bool) (l seen : List A) (x : A) → Memᴰ x (firsts_after same seen l) → Memᴰ x l
unfolding firsts_after
firsts_after_in same [] seen x m = m
firsts_after_in same (y ∷ l) seen x m = later (any (λ z. same z y) seen) m (firsts_after_in same l seen x) (firsts_after_in same l (y ∷ seen) x)
  where
    kept : Memᴰ x (y ∷ firsts_after same (y ∷ seen) l) → (Memᴰ x (firsts_after same (y ∷ seen) l) → Memᴰ x l) → Memᴰ x (y ∷ l)
    kept (Memᴰ.head e) g = Memᴰ.head e
    kept (Memᴰ.tail m) g = Memᴰ.tail (g m)

    later : (t : Bool) → Memᴰ x (cond t (firsts_after same seen l) (y ∷ firsts_after same (y ∷ seen) l)) → (Memᴰ x (firsts_after same seen l) → Memᴰ x l)
        → (Memᴰ x (firsts_after same (y ∷ seen) l) → Memᴰ x l) → Memᴰ x (y ∷ l)
    later true m f g = Memᴰ.tail (f m)
    later false m f g = kept m g

pub firsts_in : {A : Type 0} (same : A → A → Bool) (l : List A) (x : A) → Memᴰ x (firsts same l) → Memᴰ x l
unfolding firsts
firsts_in same l x m = firsts_after_in same l [] x m

-- A property that those that are the same share is had by one of the firsts, if it is had at all.
module _ {A : Type 0} (same : A → A → Bool) (P : A → Type 0) (shared : (y x : A) → same y x ≡ true → P x → P y) where
  new_some : (t : Bool) (seen : List A) (x : A) (l m : List A) → (t ≡ true → Some P seen) → P x → Some P seen ⊎ Some P (cond t l (x ∷ m))
  new_some true seen x l m f p = inl (f refl)
  new_some false seen x l m f p = inr (x, Memᴰ.head refl, p)

  moved : (seen : List A) (x y : A) (m : List A) → Memᴰ y (x ∷ seen) → P y → Some P seen ⊎ Some P (x ∷ m)
  moved seen x y m (Memᴰ.head e) p = inr (y, Memᴰ.head e, p)
  moved seen x y m (Memᴰ.tail h) p = inl (y, h, p)

  old-some : (t : Bool) (seen : List A) (x : A) (l m : List A) → Some P seen ⊎ Some P l → Some P (x ∷ seen) ⊎ Some P m → Some P seen ⊎ Some P (cond t l (x ∷ m))
  old-some true seen x l m f g = f
  old-some false seen x l m f (inl s) = moved seen x s.0 m s.1 s.2
  old-some false seen x l m f (inr s) = inr (some-later P x m s)

  firsts_after-some : (seen l : List A) (x : A) → Memᴰ x l → P x → Some P seen ⊎ Some P (firsts_after same seen l)
  unfolding firsts_after
  firsts_after-some seen [] x m p = absurd (Memᴰ.not-nil m)
  firsts_after-some seen (y ∷ l) x (Memᴰ.head e) p =
      new_some (any (λ z. same z y) seen) seen y (firsts_after same seen l) (firsts_after same (y ∷ seen) l) (λ h. any_some P (λ z. same z y) seen h (λ z t. shared z y t (rw e at p))) (rw e at p)
  firsts_after-some seen (y ∷ l) x (Memᴰ.tail m) p =
      old-some (any (λ z. same z y) seen) seen y (firsts_after same seen l) (firsts_after same (y ∷ seen) l) (firsts_after-some seen l x m p) (firsts_after-some (y ∷ seen) l x m p)

  pub firsts-some : (l : List A) (x : A) → Memᴰ x l → P x → Some P (firsts same l)
  unfolding firsts
  firsts-some l x m p = later (firsts_after-some [] l x m p)
    where
      later : Some P [] ⊎ Some P (firsts_after same [] l) → Some P (firsts_after same [] l)
      later (inl s) = absurd (Memᴰ.not-nil s.1)
      later (inr s) = s
