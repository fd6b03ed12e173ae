-- Entries of work, one written after another.
use Prim.Native.Nat.{ℕ, zero, suc, ◌+◌, ◌/◌, ◌%◌, ◌<◌, ◌≤◌}
use native.Mathlib.Omega.{arith}
use native.Mathlib.Nat.{zero-add}
use mathlib.Core.Path.{◌≡◌, refl, sym, ap, subst, ◌∙◌}
use mathlib.Core.Bool.{Bool, true, false}
use mathlib.Core.List.{List, [], ◌∷◌}
use mathlib.Core.Option.{Option, some}
use lib.Dec.{eqb}
use lib.ListN.{length, get_or, get_elem?, drop, set, length-append, length-set}
use lib.Seq.{drop-drop, get_or-set_same, get_or-set_other}
use borrow.Author.Tests.{eqb-true, eqb-false}
use Rattle.program.specs.Syntax.{Name, Function}
use Rattle.program.specs.Sentences.{sentence_list, own_sentences}
use Rattle.image.specs.Parts.{SentenceAt, FunctionAt}
use Rattle.program.proofs.Own.{element, sentences-counted}
use Rattle.told.specs.Numbered.{sentences_before}
use Rattle.index.specs.Tables.{FunctionEntry, SentenceEntry, Apart}
use Rattle.index.specs.Tabled.{Tabled}

-- A place is below another, or that one.
module _ (P : ℕ → Type 0) (j n : ℕ) (below : j < n → P j) (here : j ≡ n → P j) where
  pub below_or_here : j < n + 1 → P j
  below_or_here l = go (eqb j n) refl
    where
      go : (t : Bool) → eqb j n ≡ t → P j
      go true e = here (eqb-true j n e)
      go false e = below (let d : j ≡ n → ⊥ = eqb-false j n e in omega (arith, l, d))

-- An element stands below the length.
pub element_below : {A : Type 0} (l : List A) (n : ℕ) {x : A} → get_elem? l n ≡ some x → n < length l
element_below [] n q = let z : ◌≡◌ {A = ℕ} 0 1 = cc in absurd (omega arith)
element_below (y ∷ l) zero q = omega arith
element_below (y ∷ l) (suc n) q = omega (arith, element_below l n q)

pub record Element {A : Type 0} (l : List A) (n : ℕ) : Type 0 where
  pub element : A
  pub is : get_elem? l n ≡ some element

pub element_of : {A : Type 0} (l : List A) (n : ℕ) → n < length l → Element l n
element_of [] n h = absurd (omega (arith, h))
element_of (y ∷ l) zero h = record { element = y; is = refl }
element_of (y ∷ l) (suc n) h = let z = element_of l n (omega (arith, h)) in record { element = z.element; is = z.is }

pub same_element : {A : Type 0} {o : Option A} {x y : A} → o ≡ some x → o ≡ some y → x ≡ y
same_element p q = cc

-- The element at a place is the first of what is left there.
pub first-left : {A : Type 0} (l : List A) (n : ℕ) {y x : A} {more : List A} → drop n l ≡ y ∷ more → get_elem? l n ≡ some x → y ≡ x
first-left l n {y} {x} {more} e q = let z : get_elem? l n ≡ some y = element l n y more e in cc

pub next-left : {A : Type 0} (l : List A) (n : ℕ) {y : A} {more : List A} → drop n l ≡ y ∷ more → drop (n + 1) l ≡ more
next-left l n e = sym (drop-drop 1 n l) ∙ ap (drop 1) e

-- The sentences of the functions before a place, and those after.
pub before-own : (f : ℕ) (fs : List Function) → sentences_before f fs + length (own_sentences (drop f fs)) ≡ length (own_sentences fs)
unfolding sentences_before own_sentences
before-own zero fs = omega arith
before-own (suc f) [] = refl
before-own (suc f) (x ∷ fs) = omega (arith, before-own f fs, length-append (sentence_list x.sentences) (own_sentences fs), sentences-counted x.sentences)

-- An entry of a place.
pub function-entered : (b : List ℕ) (e p : ℕ) → e % 32768 ≡ p → (x : FunctionAt (drop p b)) (k : ℕ) → e / 32768 % 4096 ≡ k → FunctionEntry b e x.function k
function-entered b e p q x k r = record { stands = record { function = x.function; rest = x.rest; is = ap (λ (i : ℕ). drop i b) q ∙ x.is }; is = refl; first = r }

pub sentence-entered : (b : List ℕ) (e p : ℕ) → e % 32768 ≡ p → (x : SentenceAt (drop p b)) → SentenceEntry b e x.sentence
sentence-entered b e p q x = record {
  stands = record { sentence = x.sentence; rest = x.rest; is = ap (λ (i : ℕ). drop i b) q ∙ x.is; valid-pattern = x.valid-pattern; valid-conditions = x.valid-conditions; valid-result = x.valid-result };
  is = refl;
}

-- One entry written, within a range.
pub apart_set : {old new : List ℕ} {from end : ℕ} (k v : ℕ) → Apart old new from end → from ≤ k → k < end → Apart old (set new k v) from end
apart_set {old} {new} {from} {end} k v a l u = record {
  length = length-set new k v ∙ a.length;
  before = λ j h. get_or-set_other new k j v 0 (λ e. omega (arith, e, h, l)) ∙ a.before j h;
  after = λ j h. get_or-set_other new k j v 0 (λ e. h (omega (arith, e, u))) ∙ a.after j h;
}

pub apart-same : (m : List ℕ) (from end : ℕ) → Apart m m from end
apart-same m from end = record { length = refl; before = λ j h. refl; after = λ j h. refl }

-- The same number in one entry after another.
pub filled_next : (m : List ℕ) (from k v : ℕ) → k < length m → ((j : ℕ) → from ≤ j → j < k → get_or m j 0 ≡ v) → (j : ℕ) → from ≤ j → j < k + 1 → get_or (set m k v) j 0 ≡ v
filled_next m from k v l h j u = below_or_here (λ (i : ℕ). get_or (set m k v) i 0 ≡ v) j k (λ b. get_or-set_other m k j v 0 (λ e. omega (arith, e, b)) ∙ h j u b) (λ e. ap (λ (i : ℕ). get_or (set m k v) i 0) e ∙ get_or-set_same m k v 0 l)

-- The entry of a function, read where it has not changed.
module _ {b m : List ℕ} {n : ℕ} {fs : List Function} (t : Tabled b m n fs) (f e : ℕ) (same : e ≡ get_or m f 0) where
  pub tabled-entry : (x : Function) → get_elem? fs f ≡ some x → FunctionEntry b e x (sentences_before f fs)
  tabled-entry x q = subst (λ (v : ℕ). FunctionEntry b v x (sentences_before f fs)) (ap (λ (k : ℕ). get_or m k 0) (zero-add f) ∙ sym same) (t.entries.entry f x q)

  pub tabled-there : f < n → Element fs f
  tabled-there l = element_of fs f (omega (arith, l, t.count))

  abbrev pub tabled-stands : f < n → FunctionAt (drop (e % 32768) b)
  tabled-stands l = (tabled-entry (tabled-there l).element (tabled-there l).is).stands

  -- What every reading of the function there has for a name is the name.
  pub tabled-name : (x : Function) → get_elem? fs f ≡ some x → (a : Name) → ((y : FunctionAt (drop (e % 32768) b)) → a ≡ y.function.name) → a ≡ x.name
  tabled-name x q a h = let z = tabled-entry x q in h z.stands ∙ ap (λ (v : Function). v.name) z.is

-- The same by the place that was read from the entry.
module _ {b m : List ℕ} {n : ℕ} {fs : List Function} (t : Tabled b m n fs) (f p : ℕ) (place : p ≡ get_or m f 0 % 32768) where
  pub placed-stands : f < n → FunctionAt (drop p b)
  placed-stands l = subst (λ (q : ℕ). FunctionAt (drop q b)) (sym place) (tabled-stands t f (get_or m f 0) refl l)

  pub placed-name : (x : Function) → get_elem? fs f ≡ some x → (a : Name) → ((y : FunctionAt (drop p b)) → a ≡ y.function.name) → a ≡ x.name
  placed-name x q a = subst (λ (r : ℕ). ((y : FunctionAt (drop r b)) → a ≡ y.function.name) → a ≡ x.name) (sym place) (tabled-name t f (get_or m f 0) refl x q a)
