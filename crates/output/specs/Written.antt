-- What the output holds after the functions are written.
use Rattle.std.specs.Prelude.{ℕ, ◌+◌, ◌≡◌, List, ◌++◌, length, take, drop}

-- `new` is `old` with the bytes f from `from` on, which end at q; n is their count of sentences
pub record FunctionsWritten (f : List ℕ) (sentences from : ℕ) (old : List ℕ) (q n : ℕ) (new : List ℕ) : Type 0 where
  pub is : new ≡ (take from old ++ f) ++ drop q old
  pub ends : q ≡ from + length f
  pub count : n ≡ sentences
