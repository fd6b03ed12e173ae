-- The bound on the number of digits is never met: a number is its last digit, and before it the number of tens, if there are any.
use Prim.Native.Nat.{ℕ, zero, suc, ◌+◌, ◌/◌, ◌%◌, ◌^◌, ◌<◌, ◌≤◌}
use mathlib.Core.Path.{◌≡◌, refl, sym, ap, ◌∙◌}
use mathlib.Core.Bool.{Bool, true, false, cond}
use mathlib.Core.List.{[], ◌∷◌, ◌++◌}
use lib.ListN.{length, length-append}
use lib.Dec.{ltb}
use native.Mathlib.Omega.{arith}
use native.Mathlib.Nat.{pow-suc}
use borrow.Author.Tests.{ltb-true, ltb-false, lt-ltb, le-ltb}
use Rattle.meaning.specs.Text.{Text}
use Rattle.meaning.specs.Decimal.{digit, digits, decimal}

rest-same : (t : Bool) (x y z w : Text) → (t ≡ false → x ≡ y) → cond t z (x ++ w) ≡ cond t z (y ++ w)
rest-same true x y z w f = refl
rest-same false x y z w f = ap (λ (u : Text). u ++ w) (f refl)

enough : (k m n : ℕ) → n < k → n < m → digits k n ≡ digits m n
unfolding digits
enough zero m n h l = absurd (omega arith)
enough (suc k) zero n h l = absurd (omega arith)
enough (suc k) (suc m) n h l =
    rest-same (ltb n 10) (digits k (n / 10)) (digits m (n / 10)) (digit n) (digit (n % 10)) (λ e. enough k m (n / 10) (omega (arith, ltb-false n 10 e)) (omega (arith, ltb-false n 10 e)))

pub decimal_unfolds : (n : ℕ) → decimal n ≡ cond (ltb n 10) (digit n) (decimal (n / 10) ++ digit (n % 10))
unfolding decimal digits
decimal_unfolds n = rest-same (ltb n 10) (digits n (n / 10)) (digits (suc (n / 10)) (n / 10)) (digit n) (digit (n % 10)) (λ e. enough n (suc (n / 10)) (n / 10) (omega (arith, ltb-false n 10 e)) (omega arith))

-- One digit, and a digit after the tens.
module _ (n b : ℕ) where
  pub decimal-one : n < 10 → b ≡ 48 + n → b ∷ [] ≡ decimal n
  unfolding digit
  decimal-one h e = rw e (sym (decimal_unfolds n ∙ rw (lt-ltb n 10 h)))

  pub decimal-more : 10 ≤ n → b ≡ 48 + n % 10 → decimal (n / 10) ++ (b ∷ []) ≡ decimal n
  unfolding digit
  decimal-more h e = rw e (sym (decimal_unfolds n ∙ rw (le-ltb n 10 h)))

module _ (n : ℕ) where
  pub decimal_one_length : n < 10 → length (decimal n) ≡ 1
  decimal_one_length h = sym (ap length (decimal-one n (48 + n) h refl))

  pub decimal_more_length : 10 ≤ n → length (decimal n) ≡ length (decimal (n / 10)) + 1
  decimal_more_length h = sym (ap length (decimal-more n (48 + n % 10) h refl)) ∙ length-append (decimal (n / 10)) ((48 + n % 10) ∷ [])

-- A number below a power of ten has no more digits than its exponent says.
length_by : (k n : ℕ) (t : Bool) → ltb n 10 ≡ t → (10 ≤ n → length (decimal (n / 10)) ≤ k) → length (decimal n) ≤ suc k
length_by k n true e f = omega (arith, decimal_one_length n (ltb-true n 10 e))
length_by k n false e f = omega (arith, decimal_more_length n (ltb-false n 10 e), f (ltb-false n 10 e))

pub decimal-length : (k n : ℕ) → n < 10 ^ suc k → length (decimal n) ≤ suc k
decimal-length zero n h = length_by zero n (ltb n 10) refl (λ l. absurd (omega arith))
decimal-length (suc k) n h = length_by (suc k) n (ltb n 10) refl (λ l. decimal-length k (n / 10) (omega (arith, pow-suc 10 (suc k))))
