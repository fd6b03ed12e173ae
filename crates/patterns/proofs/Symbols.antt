-- Laws of the equality of symbols: nothing above needs the text of its definition.
use Prim.Native.Nat.{ℕ, ◌+◌, ◌<◌, ◌≤◌}
use native.Mathlib.Numerals.{add-one}
use lib.ListN.{length, get_or, drop, drop_of_length-le}
use lib.Seq.{drop-cons}
use mathlib.Core.Path.{◌≡◌, refl, sym, ap, ◌∙◌}
use mathlib.Core.Logic.{◌↔◌}
use mathlib.Core.Bool.{true, false, true≢false}
use borrow.Author.Tests.{eqb-true, eq-eqb, ne_eqb}
use Rattle.program.specs.Syntax.{Name, Symbol, character, identifier, number}
use Rattle.patterns.specs.Symbols.{significant, key, eq_symbol, same_symbol}
use Rattle.patterns.proofs.Tests.{test_refl, test_sym, test_trans, test_left, test_right, test_false}
use Rattle.patterns.proofs.Names.{eq_bytes_true, eq_bytes_refl}

-- The same sort and spelling: the test decides equality.
pub eq_symbol_true : (x y : Symbol) → eq_symbol x y ≡ true → x ≡ y
unfolding eq_symbol
eq_symbol_true (character c) (character d) e = ap character (eqb-true c d e)
eq_symbol_true (character c) (identifier m) e = absurd (true≢false (sym e))
eq_symbol_true (character c) (number m) e = absurd (true≢false (sym e))
eq_symbol_true (identifier n) (character d) e = absurd (true≢false (sym e))
eq_symbol_true (identifier n) (identifier m) e = ap identifier (eq_bytes_true n m e)
eq_symbol_true (identifier n) (number m) e = absurd (true≢false (sym e))
eq_symbol_true (number n) (character d) e = absurd (true≢false (sym e))
eq_symbol_true (number n) (identifier m) e = absurd (true≢false (sym e))
eq_symbol_true (number n) (number m) e = ap number (eq_bytes_true n m e)

pub eq_symbol_refl : (x : Symbol) → eq_symbol x x ≡ true
unfolding eq_symbol
eq_symbol_refl (character c) = eq-eqb c c refl
eq_symbol_refl (identifier n) = eq_bytes_refl n
eq_symbol_refl (number n) = eq_bytes_refl n

pub eq_symbol_iff : (x y : Symbol) → (eq_symbol x y ≡ true) ↔ (x ≡ y)
eq_symbol_iff x y = (eq_symbol_true x y, λ e. rw (← e) (eq_symbol_refl x))

pub eq_symbol_sym : (x y : Symbol) → eq_symbol x y ≡ eq_symbol y x
eq_symbol_sym = test_sym (λ x. x) eq_symbol eq_symbol_iff

pub eq_symbol_trans : (x y z : Symbol) → eq_symbol x y ≡ true → eq_symbol y z ≡ true → eq_symbol x z ≡ true
eq_symbol_trans = test_trans (λ x. x) eq_symbol eq_symbol_iff

pub eq_symbol_false : (x y : Symbol) → eq_symbol x y ≡ false → x ≡ y → ⊥
eq_symbol_false = test_false (λ x. x) eq_symbol eq_symbol_iff

-- Equal symbols: the test decides whether the keys are equal.
pub same_symbol_iff : (x y : Symbol) → (same_symbol x y ≡ true) ↔ (key x ≡ key y)
unfolding same_symbol
same_symbol_iff x y = eq_symbol_iff (key x) (key y)

pub same_symbol_refl : (x : Symbol) → same_symbol x x ≡ true
same_symbol_refl = test_refl key same_symbol same_symbol_iff

pub same_symbol_sym : (x y : Symbol) → same_symbol x y ≡ same_symbol y x
same_symbol_sym = test_sym key same_symbol same_symbol_iff

pub same_symbol_trans : (x y z : Symbol) → same_symbol x y ≡ true → same_symbol y z ≡ true → same_symbol x z ≡ true
same_symbol_trans = test_trans key same_symbol same_symbol_iff

pub same_symbol-left : (x y z : Symbol) → same_symbol x y ≡ true → same_symbol x z ≡ same_symbol y z
same_symbol-left = test_left key same_symbol same_symbol_iff

pub same_symbol-right : (x y z : Symbol) → same_symbol x y ≡ true → same_symbol z x ≡ same_symbol z y
same_symbol-right = test_right key same_symbol same_symbol_iff

pub same_symbol_false : (x y : Symbol) → same_symbol x y ≡ false → key x ≡ key y → ⊥
same_symbol_false = test_false key same_symbol same_symbol_iff

-- "symbols of two sorts are never equal"
abbrev pub sort_of : Symbol → ℕ
sort_of (character c) = 0
sort_of (identifier n) = 1
sort_of (number n) = 2

key_sort : (x : Symbol) → sort_of (key x) ≡ sort_of x
unfolding key
key_sort (character c) = refl
key_sort (identifier n) = refl
key_sort (number n) = refl

pub same_sort : (x y : Symbol) → same_symbol x y ≡ true → sort_of x ≡ sort_of y
same_sort x y e = sym (key_sort x) ∙ (ap sort_of ((same_symbol_iff x y).0 e) ∙ key_sort y)

-- ---- leading zeros

pub significant_zero : (n : Name) (i : ℕ) → i < length n → get_or n i 0 ≡ 48 → significant (drop i n) ≡ significant (drop (i + 1) n)
unfolding significant
significant_zero n i h e = rw (drop-cons n i 0, eq-eqb (get_or n i 0) 48 e, add-one)

pub significant-other : (n : Name) (i : ℕ) → i < length n → (get_or n i 0 ≡ 48 → ⊥) → significant (drop i n) ≡ drop i n
unfolding significant
significant-other n i h e = rw (drop-cons n i 0, ne_eqb (get_or n i 0) 48 e)

pub significant-end : (n : Name) (i : ℕ) → length n ≤ i → significant (drop i n) ≡ drop i n
unfolding significant
significant-end n i h = rw (drop_of_length-le n h)
