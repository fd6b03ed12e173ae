-- Laws of the equality of names: nothing above needs the text of its definition.
use Prim.Native.Nat.{ℕ}
use mathlib.Core.Path.{◌≡◌, refl, sym, ap₂}
use mathlib.Core.Logic.{◌↔◌}
use mathlib.Core.Bool.{true, false, true≢false, and-eq-true_iff}
use mathlib.Core.List.{List, [], ◌∷◌}
use lib.Dec.{eqb}
use borrow.Author.Tests.{eqb-true, eq-eqb}
use Rattle.program.specs.Syntax.{Name}
use Rattle.patterns.specs.Names.{caseless, eq_bytes, same_name}
use Rattle.patterns.proofs.Tests.{test_refl, test_sym, test_trans, test_left, test_right, test_false}

-- The same bytes: the test decides equality.
pub eq_bytes_true : (n m : List ℕ) → eq_bytes n m ≡ true → n ≡ m
unfolding eq_bytes
eq_bytes_true [] [] e = refl
eq_bytes_true [] (d ∷ m) e = absurd (true≢false (sym e))
eq_bytes_true (c ∷ n) [] e = absurd (true≢false (sym e))
eq_bytes_true (c ∷ n) (d ∷ m) e =
    let h = (and-eq-true_iff (eqb c d) (eq_bytes n m)).0 e in
    ap₂ ◌∷◌ (eqb-true c d h.0) (eq_bytes_true n m h.1)

pub eq_bytes_refl : (n : List ℕ) → eq_bytes n n ≡ true
unfolding eq_bytes
eq_bytes_refl [] = refl
eq_bytes_refl (c ∷ n) = (and-eq-true_iff (eqb c c) (eq_bytes n n)).1 (eq-eqb c c refl, eq_bytes_refl n)

pub eq_bytes_iff : (n m : List ℕ) → (eq_bytes n m ≡ true) ↔ (n ≡ m)
eq_bytes_iff n m = (eq_bytes_true n m, λ e. rw (← e) (eq_bytes_refl n))

pub eq_bytes_sym : (n m : List ℕ) → eq_bytes n m ≡ eq_bytes m n
eq_bytes_sym = test_sym (λ n. n) eq_bytes eq_bytes_iff

pub eq_bytes_trans : (n m l : List ℕ) → eq_bytes n m ≡ true → eq_bytes m l ≡ true → eq_bytes n l ≡ true
eq_bytes_trans = test_trans (λ n. n) eq_bytes eq_bytes_iff

pub eq_bytes_false : (n m : List ℕ) → eq_bytes n m ≡ false → n ≡ m → ⊥
eq_bytes_false = test_false (λ n. n) eq_bytes eq_bytes_iff

-- The same name: the test decides whether the names are equal once case is gone.
pub same_name_iff : (n m : Name) → (same_name n m ≡ true) ↔ (caseless n ≡ caseless m)
unfolding same_name
same_name_iff n m = eq_bytes_iff (caseless n) (caseless m)

pub same_name_refl : (n : Name) → same_name n n ≡ true
same_name_refl = test_refl caseless same_name same_name_iff

pub same_name_sym : (n m : Name) → same_name n m ≡ same_name m n
same_name_sym = test_sym caseless same_name same_name_iff

pub same_name_trans : (n m l : Name) → same_name n m ≡ true → same_name m l ≡ true → same_name n l ≡ true
same_name_trans = test_trans caseless same_name same_name_iff

pub same_name-left : (n m l : Name) → same_name n m ≡ true → same_name n l ≡ same_name m l
same_name-left = test_left caseless same_name same_name_iff

pub same_name-right : (n m l : Name) → same_name n m ≡ true → same_name l n ≡ same_name l m
same_name-right = test_right caseless same_name same_name_iff

pub same_name_false : (n m : Name) → same_name n m ≡ false → caseless n ≡ caseless m → ⊥
same_name_false = test_false caseless same_name same_name_iff
