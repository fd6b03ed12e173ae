-- Emission: "first a count, then the report's writing end, which holds the lent text and how much is filled". The same code writes into an empty part, which counts, and into the lent text, which it fills.
use Rattle.std.specs.Prelude.{ℕ, suc, ◌+◌, ◌≡◌, List, [], ◌∷◌, length, set}
use Rattle.meaning.specs.Text.{Text}

-- The lent bytes s with a text from place p on, as far as it fits: a byte beyond the end is left out.
unfoldable pub filled : List ℕ → ℕ → Text → List ℕ
filled s p [] = s
filled s p (b ∷ t) = filled (set s p b) (suc p) t

-- What emitting the text t at place p of the lent bytes s leaves: the place after it, and the bytes.
pub record Emitted (s : List ℕ) (p : ℕ) (t : Text) (r : ℕ) (bytes : List ℕ) : Type 0 where
  pub after : r ≡ p + length t
  pub left : bytes ≡ filled s p t

-- No text ends beyond this place: far more than any report has, and no sum of places wraps.
abbrev pub limit : ℕ
limit = 1152921504606846976
