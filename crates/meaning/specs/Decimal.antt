-- Numbers as text, in decimal.
use Rattle.std.specs.Prelude.{ℕ, zero, suc, ◌+◌, ◌/◌, ◌%◌, cond, [], ◌∷◌, ◌++◌, ltb}
use Rattle.meaning.specs.Text.{Text}

unfoldable pub digit : ℕ → Text
digit n = (48 + n) ∷ []

-- The last k digits at most; `decimal` starts with enough, so that the bound is never met (proofs/Decimal.antt).
unfoldable pub digits : ℕ → ℕ → Text
digits zero n = []
digits (suc k) n = cond (ltb n 10) (digit n) (digits k (n / 10) ++ digit (n % 10))

unfoldable pub decimal : ℕ → Text
decimal n = digits (suc n) n
