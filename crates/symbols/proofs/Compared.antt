-- std's equality, its small letters and its first places, as the definitions of names have them.
use Prim.Native.Nat.{ℕ, suc, ◌+◌}
use native.Mathlib.Omega.{arith}
use mathlib.Core.Path.{◌≡◌, refl, sym}
use mathlib.Core.List.{List, [], ◌∷◌}
use mathlib.Core.Bool.{Bool, true, false, not, cond}
use lib.Dec.{eqb, ltb}
use borrow.Author.Tests.{eq-eqb}
use lib.ListN.{length, drop}
use lib.Pointwise.{pointwise}
use Rattle.std.proofs.Common.{nat_eq, Option, Some, None, MatchOption}
use Rattle.std.proofs.lemmas.Bool.Decides.{nat_tests}
use Rattle.std.proofs.lemmas.Slice.Zip.{length-zip}
use Rattle.std.specs.Char.{to_ascii_lowercase, eq_ignore_ascii_case}
use Rattle.std.specs.List.{zip, position_or_len, prefix_len}
use Rattle.patterns.specs.Names.{lower, caseless, eq_bytes, same_name, pairs_compared, compare_names}
use Rattle.patterns.specs.Symbols.{significant}

-- Slices are equal as lists of bytes are.
pub bytes_equal : (a b : List ℕ) → pointwise nat_eq a b ≡ eq_bytes a b
unfolding eq_bytes
bytes_equal [] [] = refl
bytes_equal [] (d ∷ m) = refl
bytes_equal (c ∷ n) [] = refl
bytes_equal (c ∷ n) (d ∷ m) = rw (bytes_equal n m)

pub lowered : (c : ℕ) → to_ascii_lowercase c ≡ lower c
unfolding lower
lowered c = grind (arith, nat_tests)

-- The digits behind the zeros at the front.
pub zeros-dropped : (n : List ℕ) → drop (prefix_len (λ d. nat_eq d 48) n) n ≡ significant n
unfolding significant
zeros-dropped [] = refl
zeros-dropped (d ∷ n) = by (nat_eq d 48) (zeros-dropped n)
  where
    by : (t : Bool) → drop (prefix_len (λ d. nat_eq d 48) n) n ≡ significant n → drop (cond t (1 + prefix_len (λ d. nat_eq d 48) n) 0) (d ∷ n) ≡ cond t (significant n) (d ∷ n)
    by true e = let z : 1 + prefix_len (λ d. nat_eq d 48) n ≡ suc (prefix_len (λ d. nat_eq d 48) n) = omega arith in rw z e
    by false e = refl

-- Where two names of one length differ, by their pairs of bytes from the front.
abbrev pub differ : ℕ × ℕ → Bool
differ p = not (eq_ignore_ascii_case p.0 p.1)

abbrev first : List ℕ → List ℕ → ℕ
first a b = position_or_len differ (zip a b)

-- Both answers at once: whether the names are equal, and how many pairs are compared, where the first that differ are those at i of n.
abbrev Answers : Bool → ℕ → ℕ → ℕ → Type 0
Answers t p i n = (t ≡ not (ltb i n)) × (p ≡ cond (ltb i n) (i + 1) n)

one_more : (t : Bool) (p i n : ℕ) → Answers t p i n → Answers t (suc p) (1 + i) (suc n)
one_more t p i n h = grind (arith, nat_tests)

here : (n : ℕ) → Answers false 1 0 (suc n)
here n = grind (arith, nat_tests)

answers : (a b : List ℕ) → length a ≡ length b → Answers (eq_bytes (caseless a) (caseless b)) (pairs_compared (caseless a) (caseless b)) (first a b) (length (zip a b))
unfolding eq_bytes caseless pairs_compared
answers [] [] e = (refl, refl)
answers [] (d ∷ m) e = absurd (omega arith)
answers (c ∷ n) [] e = absurd (omega arith)
answers (c ∷ n) (d ∷ m) e = by (eqb (to_ascii_lowercase c) (to_ascii_lowercase d)) refl (answers n m (omega arith))
  where
    by : (t : Bool) → eqb (to_ascii_lowercase c) (to_ascii_lowercase d) ≡ t → Answers (eq_bytes (caseless n) (caseless m)) (pairs_compared (caseless n) (caseless m)) (first n m) (length (zip n m))
        → Answers (eq_bytes (caseless (c ∷ n)) (caseless (d ∷ m))) (pairs_compared (caseless (c ∷ n)) (caseless (d ∷ m))) (first (c ∷ n) (d ∷ m)) (length (zip (c ∷ n) (d ∷ m)))
    by true u h = rw (← lowered c, ← lowered d, u) (one_more _ _ _ _ h)
    by false u h = rw (← lowered c, ← lowered d, u) (here _)

-- What the first place says of two names of one length.
pub compared_so : (a b : List ℕ) (r : Option ℕ) → length a ≡ length b → r ≡ cond (ltb (first a b) (length (zip a b))) (Some (first a b)) None
    → MatchOption r (record { equal = true; compared = length a } ≡ compare_names a b) (λ i. record { equal = false; compared = i + 1 } ≡ compare_names a b)
unfolding compare_names same_name
compared_so a b r e q = rw q (by (ltb (first a b) (length (zip a b))) (answers a b e))
  where
    by : (t : Bool) → (eq_bytes (caseless a) (caseless b) ≡ not t) × (pairs_compared (caseless a) (caseless b) ≡ cond t (first a b + 1) (length (zip a b)))
        → MatchOption (cond t (Some (first a b)) None) (record { equal = true; compared = length a } ≡ compare_names a b) (λ i. record { equal = false; compared = i + 1 } ≡ compare_names a b)
    by true h = sym (rw (eq-eqb (length a) (length b) e, h.0, h.1))
    by false h = let z : length (zip a b) ≡ length a = omega (arith, length-zip a b) in sym (rw (eq-eqb (length a) (length b) e, h.0, h.1, z))
