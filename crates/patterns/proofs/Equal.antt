-- Two lists compared from the front, one pair at a time.
use Prim.Native.Nat.{ℕ, suc, ◌+◌, ◌<◌, ◌≤◌}
use native.Mathlib.Numerals.{add-one}
use mathlib.Core.Path.{◌≡◌, refl, ap, sym, ◌∙◌}
use mathlib.Core.List.{List, [], ◌∷◌}
use mathlib.Core.Bool.{Bool, true, false, and-false}
use lib.ListN.{length, drop, get_or, drop_of_length-le, length-map, get_or-map}
use lib.Seq.{drop-cons}
use borrow.Author.Tests.{eq-eqb, ne_eqb}
use native.Mathlib.Omega.{arith}
use Rattle.patterns.specs.Names.{lower, caseless, eq_bytes, same_name, pairs_compared, compare_names}

pub bytes_next : (a b : List ℕ) (i : ℕ) → i < length a → i < length b → get_or a i 0 ≡ get_or b i 0 → eq_bytes (drop i a) (drop i b) ≡ eq_bytes (drop (i + 1) a) (drop (i + 1) b)
unfolding eq_bytes
bytes_next a b i ha hb e = rw (drop-cons a i 0, drop-cons b i 0, eq-eqb (get_or a i 0) (get_or b i 0) e, add-one)

pub bytes_differ : (a b : List ℕ) (i : ℕ) → i < length a → i < length b → (get_or a i 0 ≡ get_or b i 0 → ⊥) → eq_bytes (drop i a) (drop i b) ≡ false
unfolding eq_bytes
bytes_differ a b i ha hb e = rw (drop-cons a i 0, drop-cons b i 0, ne_eqb (get_or a i 0) (get_or b i 0) e)

pub bytes-end : (a b : List ℕ) (i : ℕ) → length a ≤ i → length b ≤ i → eq_bytes (drop i a) (drop i b) ≡ true
unfolding eq_bytes
bytes-end a b i ha hb = rw (drop_of_length-le a ha, drop_of_length-le b hb)

pub bytes_lengths : (a b : List ℕ) → (length a ≡ length b → ⊥) → eq_bytes a b ≡ false
unfolding eq_bytes
bytes_lengths [] [] h = absurd (h refl)
bytes_lengths [] (y ∷ b) h = refl
bytes_lengths (x ∷ a) [] h = refl
bytes_lengths (x ∷ a) (y ∷ b) h = rw (bytes_lengths a b (λ e. h (ap suc e)), and-false)

-- The same of names once case is gone; x and y are the small letters of their bytes at i.
pub caseless-length : (a : List ℕ) → length (caseless a) ≡ length a
unfolding caseless
caseless-length a = length-map a lower

pub caseless-at : (a : List ℕ) (i : ℕ) → get_or (caseless a) i 0 ≡ lower (get_or a i 0)
unfolding caseless lower
caseless-at a i = get_or-map lower a i 0

module _ (a b : List ℕ) (i x y : ℕ) (ex : x ≡ lower (get_or a i 0)) (ey : y ≡ lower (get_or b i 0)) (ha : i < length a) (hb : i < length b) where
  pub name-next : x ≡ y → eq_bytes (drop i (caseless a)) (drop i (caseless b)) ≡ eq_bytes (drop (i + 1) (caseless a)) (drop (i + 1) (caseless b))
  name-next e =
      bytes_next (caseless a) (caseless b) i (rw (caseless-length a) ha) (rw (caseless-length b) hb) (caseless-at a i ∙ sym ex ∙ e ∙ ey ∙ sym (caseless-at b i))

  pub name_differs : (x ≡ y → ⊥) → eq_bytes (drop i (caseless a)) (drop i (caseless b)) ≡ false
  name_differs n =
      bytes_differ (caseless a) (caseless b) i (rw (caseless-length a) ha) (rw (caseless-length b) hb) (λ e. n (ex ∙ sym (caseless-at a i) ∙ e ∙ caseless-at b i ∙ sym ey))

pub name-end : (a b : List ℕ) (i : ℕ) → length a ≤ i → length b ≤ i → eq_bytes (drop i (caseless a)) (drop i (caseless b)) ≡ true
name-end a b i ha hb = bytes-end (caseless a) (caseless b) i (rw (caseless-length a) ha) (rw (caseless-length b) hb)

pub name_lengths : (a b : List ℕ) → (length a ≡ length b → ⊥) → eq_bytes (caseless a) (caseless b) ≡ false
name_lengths a b h = bytes_lengths (caseless a) (caseless b) (λ e. h (sym (caseless-length a) ∙ e ∙ caseless-length b))

-- ---- how many pairs are compared

pairs_next : (a b : List ℕ) (i : ℕ) → i < length a → i < length b → get_or a i 0 ≡ get_or b i 0 → pairs_compared (drop i a) (drop i b) ≡ suc (pairs_compared (drop (i + 1) a) (drop (i + 1) b))
unfolding pairs_compared
pairs_next a b i ha hb e = rw (drop-cons a i 0, drop-cons b i 0, eq-eqb (get_or a i 0) (get_or b i 0) e, add-one)

pairs_differ : (a b : List ℕ) (i : ℕ) → i < length a → i < length b → (get_or a i 0 ≡ get_or b i 0 → ⊥) → pairs_compared (drop i a) (drop i b) ≡ 1
unfolding pairs_compared
pairs_differ a b i ha hb e = rw (drop-cons a i 0, drop-cons b i 0, ne_eqb (get_or a i 0) (get_or b i 0) e)

pairs_end : (a b : List ℕ) (i : ℕ) → length a ≤ i → pairs_compared (drop i a) (drop i b) ≡ 0
unfolding pairs_compared
pairs_end a b i ha = rw (drop_of_length-le a ha)

-- Two names of one length, up to i: what is left of them is compared as the wholes, and i pairs more are compared in the wholes.
pub record ComparedTo (a b : List ℕ) (i : ℕ) : Type 0 where
  pub few : i ≤ length a
  pub lengths : length a ≡ length b
  pub rest : eq_bytes (caseless a) (caseless b) ≡ eq_bytes (drop i (caseless a)) (drop i (caseless b))
  pub pairs : pairs_compared (caseless a) (caseless b) ≡ i + pairs_compared (drop i (caseless a)) (drop i (caseless b))

pub compared_none : (a b : List ℕ) → length a ≡ length b → ComparedTo a b 0
compared_none a b e = record { few = omega arith; lengths = e; rest = refl; pairs = omega arith }

pub lengths_differ : (a b : List ℕ) → (length a ≡ length b → ⊥) → record { equal = false; compared = 0 } ≡ compare_names a b
unfolding compare_names same_name
lengths_differ a b h = rw (ne_eqb (length a) (length b) h, name_lengths a b h)

told : (a b : List ℕ) (t : Bool) (n : ℕ) → length a ≡ length b → t ≡ eq_bytes (caseless a) (caseless b) → n ≡ pairs_compared (caseless a) (caseless b) → record { equal = t; compared = n } ≡ compare_names a b
unfolding compare_names same_name
told a b t n e f g = rw (eq-eqb (length a) (length b) e, f, g)

module _ (a b : List ℕ) (i x y : ℕ) (s : ComparedTo a b i) (ex : x ≡ lower (get_or a i 0)) (ey : y ≡ lower (get_or b i 0)) (ha : i < length a) (hb : i < length b) where
  pub pair-next : x ≡ y → ComparedTo a b (i + 1)
  pair-next e =
      let p = pairs_next (caseless a) (caseless b) i (rw (caseless-length a) ha) (rw (caseless-length b) hb) (caseless-at a i ∙ sym ex ∙ e ∙ ey ∙ sym (caseless-at b i)) in
      record { few = omega (arith, ha); lengths = s.lengths; rest = s.rest ∙ name-next a b i x y ex ey ha hb e; pairs = omega (arith, p, s.pairs) }

  pub pair_differs : (x ≡ y → ⊥) → record { equal = false; compared = i + 1 } ≡ compare_names a b
  pair_differs n =
      let p = pairs_differ (caseless a) (caseless b) i (rw (caseless-length a) ha) (rw (caseless-length b) hb) (λ e. n (ex ∙ sym (caseless-at a i) ∙ e ∙ caseless-at b i ∙ sym ey)) in
      told a b false (i + 1) s.lengths (sym (s.rest ∙ name_differs a b i x y ex ey ha hb n)) (omega (arith, p, s.pairs))

pub pairs-all : (a b : List ℕ) (i : ℕ) → ComparedTo a b i → length a ≤ i → record { equal = true; compared = i } ≡ compare_names a b
pairs-all a b i s h =
    let p = pairs_end (caseless a) (caseless b) i (rw (caseless-length a) h) in
    told a b true i s.lengths (sym (s.rest ∙ name-end a b i h (omega (arith, h, s.lengths)))) (omega (arith, p, s.pairs))
