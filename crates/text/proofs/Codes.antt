-- The bytes of a code in UTF-8, as shifts and masks give them.
use Prim.Native.Nat.{ℕ, ◌+◌, ◌/◌, ◌%◌, ◌<◌, ◌≤◌}
use native.Mathlib.Omega.{arith}
use mathlib.Core.Path.{◌≡◌, ap, ◌∙◌}
use mathlib.Core.List.{[], ◌∷◌}
use lib.Bits.{bit_and, bit_or, and_mask, mask_lt, or_shifted}
use borrow.Author.Tests.{lt-ltb, le-ltb}
use Rattle.meaning.specs.Text.{utf8}

pub trail_bits : (n : ℕ) → bit_or 128 (bit_and n 63) ≡ 128 + n % 64
trail_bits n = or_shifted 2 6 (bit_and n 63) (mask_lt n 6) ∙ ap (λ (k : ℕ). 128 + k) (and_mask n 6)

pub lead_two_bits : (n : ℕ) → n < 2048 → bit_or 192 (n / 64) ≡ 192 + n / 64
lead_two_bits n h = or_shifted 6 5 (n / 64) (omega arith)

pub lead_three_bits : (n : ℕ) → n < 65536 → bit_or 224 (n / 4096) ≡ 224 + n / 4096
lead_three_bits n h = or_shifted 14 4 (n / 4096) (omega arith)

pub lead_four_bits : (n : ℕ) → n ≤ 1114111 → bit_or 240 (n / 262144) ≡ 240 + n / 262144
lead_four_bits n h = or_shifted 30 3 (n / 262144) (omega arith)

-- "code points split by shifts and masks into two to four bytes"
module _ (c : ℕ) where
  pub utf8-one : c < 128 → c ∷ [] ≡ utf8 c
  unfolding utf8
  utf8-one h = rw (lt-ltb c 128 h)

  pub utf8-two : (x y : ℕ) → 128 ≤ c → c < 2048 → x ≡ 192 + c / 64 → y ≡ 128 + c % 64 → x ∷ y ∷ [] ≡ utf8 c
  unfolding utf8
  utf8-two x y l h e f = rw (e, f, le-ltb c 128 l, lt-ltb c 2048 h)

  pub utf8_three : (x y z : ℕ) → 2048 ≤ c → c < 65536 → x ≡ 224 + c / 4096 → y ≡ 128 + c / 64 % 64 → z ≡ 128 + c % 64 → x ∷ y ∷ z ∷ [] ≡ utf8 c
  unfolding utf8
  utf8_three x y z l h e f g = rw (e, f, g, le-ltb c 128 (omega arith), le-ltb c 2048 l, lt-ltb c 65536 h)

  pub utf8_four : (x y z w : ℕ) → 65536 ≤ c → x ≡ 240 + c / 262144 → y ≡ 128 + c / 4096 % 64 → z ≡ 128 + c / 64 % 64 → w ≡ 128 + c % 64 → x ∷ y ∷ z ∷ w ∷ [] ≡ utf8 c
  unfolding utf8
  utf8_four x y z w l e f g h = rw (e, f, g, h, le-ltb c 128 (omega arith), le-ltb c 2048 (omega arith), le-ltb c 65536 l)
