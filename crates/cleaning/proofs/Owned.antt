-- Each sentence is one of its function's own, by number.
use Prim.Native.Nat.{ℕ, zero, suc, ◌+◌, ◌-◌, ◌≤◌, ◌<◌}
use native.Mathlib.Omega.{arith}
use mathlib.Core.Path.{◌≡◌, refl, sym, ap, ◌∙◌}
use mathlib.Core.List.{List, [], ◌∷◌, ◌++◌}
use mathlib.Core.Bool.{Bool, true, false}
use mathlib.Core.Option.{some, some-ne-none, some-injective}
use lib.Dec.{ltb}
use borrow.Author.Tests.{ltb-true, ltb-false}
use lib.ListN.{length, get_elem?}
use Rattle.program.specs.Syntax.{Function}
use Rattle.program.specs.Encode.{sentence_count, own_sentence_count}
use Rattle.program.specs.Sentences.{sentence_list, own_sentences}
use Rattle.program.proofs.Own.{sentences-counted}
use Rattle.told.specs.Numbered.{sentences_before}

-- ---- elements of two lists, one behind the other

pub append-first : {A : Type 0} (xs ys : List A) (t : ℕ) → t < length xs → get_elem? (xs ++ ys) t ≡ get_elem? xs t
append-first [] ys t l = absurd (omega (arith, l))
append-first (x ∷ xs) ys zero l = refl
append-first (x ∷ xs) ys (suc t) l = append-first xs ys t (omega (arith, l))

pub append-second : {A : Type 0} (xs ys : List A) (t : ℕ) → length xs ≤ t → get_elem? (xs ++ ys) t ≡ get_elem? ys (t - length xs)
append-second [] ys t l = let e : t ≡ t - 0 = omega arith in ap (get_elem? ys) e
append-second (x ∷ xs) ys zero l = absurd (omega (arith, l))
append-second (x ∷ xs) ys (suc t) l = let e : t - length xs ≡ suc t - suc (length xs) = omega arith in append-second xs ys t (omega (arith, l)) ∙ ap (get_elem? ys) e

-- ---- sentences by their function

pub before-next : (fs : List Function) (f : ℕ) (x : Function) → get_elem? fs f ≡ some x → sentences_before (suc f) fs ≡ sentences_before f fs + sentence_count x.sentences
unfolding sentences_before
before-next [] f x e = absurd (some-ne-none x (sym e))
before-next (y ∷ fs) zero x e = let k : sentence_count y.sentences ≡ sentence_count x.sentences = ap (λ (z : Function). sentence_count z.sentences) (some-injective y x e) in omega (arith, k)
before-next (y ∷ fs) (suc f) x e = omega (arith, before-next fs f x e)

pub before-end : (fs : List Function) → sentences_before (length fs) fs ≡ own_sentence_count fs
unfolding sentences_before own_sentence_count
before-end [] = refl
before-end (x ∷ fs) = omega (arith, before-end fs)

pub before_most : (fs : List Function) (f : ℕ) → sentences_before f fs ≤ own_sentence_count fs
unfolding sentences_before own_sentence_count
before_most fs zero = omega arith
before_most [] (suc f) = omega arith
before_most (x ∷ fs) (suc f) = omega (arith, before_most fs f)

pub before-later : (fs : List Function) (f g : ℕ) → f ≤ g → sentences_before f fs ≤ sentences_before g fs
unfolding sentences_before
before-later fs zero g l = omega arith
before-later fs (suc f) zero l = absurd (omega (arith, l))
before-later [] (suc f) (suc g) l = omega arith
before-later (x ∷ fs) (suc f) (suc g) l = omega (arith, before-later fs f g (omega (arith, l)))

pub own_element : (fs : List Function) (f : ℕ) (x : Function) (t : ℕ) → get_elem? fs f ≡ some x → t < sentence_count x.sentences → get_elem? (own_sentences fs) (sentences_before f fs + t) ≡ get_elem? (sentence_list x.sentences) t
unfolding own_sentences sentences_before
own_element [] f x t e l = absurd (some-ne-none x (sym e))
own_element (y ∷ fs) zero x t e l =
    let z : y ≡ x = some-injective y x e in
    let k : 0 + t ≡ t = omega arith in
    ap (get_elem? (sentence_list y.sentences ++ own_sentences fs)) k
    ∙ (append-first (sentence_list y.sentences) (own_sentences fs) t (omega (arith, l, sentences-counted y.sentences, ap (λ (v : Function). sentence_count v.sentences) z))
    ∙ ap (λ (v : Function). get_elem? (sentence_list v.sentences) t) z)
own_element (y ∷ fs) (suc f) x t e l =
    let k : (sentence_count y.sentences + sentences_before f fs) + t - length (sentence_list y.sentences) ≡ sentences_before f fs + t = omega (arith, sentences-counted y.sentences) in
    append-second (sentence_list y.sentences) (own_sentences fs) ((sentence_count y.sentences + sentences_before f fs) + t) (omega (arith, sentences-counted y.sentences))
    ∙ (ap (get_elem? (own_sentences fs)) k ∙ own_element fs f x t e l)

-- Whose the sentence s is.
pub record Owner (fs : List Function) (s : ℕ) : Type 0 where
  pub place : ℕ
  pub function : Function
  pub is : get_elem? fs place ≡ some function
  pub from : sentences_before place fs ≤ s
  pub upto : s < sentences_before (suc place) fs

pub owner : (fs : List Function) (s : ℕ) → s < own_sentence_count fs → Owner fs s
unfolding own_sentence_count sentences_before
owner [] s l = absurd (omega (arith, l))
owner (x ∷ fs) s l = by (ltb s (sentence_count x.sentences)) refl (λ k. owner fs (s - sentence_count x.sentences) k)
  where
    by : (t : Bool) → ltb s (sentence_count x.sentences) ≡ t → (s - sentence_count x.sentences < own_sentence_count fs → Owner fs (s - sentence_count x.sentences)) → Owner (x ∷ fs) s
    by true e g = record { place = 0; function = x; is = refl; from = omega arith; upto = omega (arith, ltb-true s (sentence_count x.sentences) e) }
    by false e g =
        let le : sentence_count x.sentences ≤ s = ltb-false s (sentence_count x.sentences) e in
        let o = g (omega (arith, l, le)) in
        record { place = suc o.place; function = o.function; is = o.is; from = omega (arith, o.from, le); upto = omega (arith, o.upto, le) }
