-- Words of marks by their bits.
use Rattle.std.specs.Prelude.{ℕ, zero, suc, ◌+◌, ◌/◌, ◌%◌, ◌^◌, ◌≤◌, ◌<◌, ◌≡◌, Bool, false, cond, ltb}

-- r is the word w with its bit k zero and every other bit as it was
pub record WithoutBit (w k r : ℕ) : Type 0 where
  pub off : r / 2 ^ k % 2 ≡ 0
  pub other : (j : ℕ) → (j ≡ k → ⊥) → r / 2 ^ j % 2 ≡ w / 2 ^ j % 2

-- the bits of the word r are those of the sentences from `first` on, each set below n
pub record BitsBelow (n first r : ℕ) : Type 0 where
  pub bit : (k : ℕ) → k < 32 → r / 2 ^ k % 2 ≡ cond (ltb (first + k) n) 1 0

-- no sentence from n on is kept
abbrev pub NoneFrom : (ℕ → Bool) → ℕ → Type 0
NoneFrom keep n = (i : ℕ) → n ≤ i → keep i ≡ false

-- "the count after is the ones left": how many of n sentences are kept, the first of them number i
unfoldable pub kept_count : (ℕ → Bool) → ℕ → ℕ → ℕ
kept_count keep i zero = 0
kept_count keep i (suc n) = cond (keep i) 1 0 + kept_count keep (suc i) n
