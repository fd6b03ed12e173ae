-- The first element of a list that passes a test, from a place on.
use Rattle.std.specs.Prelude.{ℕ, ◌≤◌, ◌<◌, ◌≡◌, Bool, true, false, List, Option, None, Some, length}
use Rattle.std.proofs.Math.Option.{some}
use Rattle.std.proofs.Math.ListN.{get_elem?}

-- r is its place; the list's length, if there is none.
pub record First {A : Type 0} (test : A → Bool) (from : ℕ) (l : List A) (r : ℕ) : Type 0 where
  pub later : from ≤ r
  pub within : r ≤ length l
  pub none : (j : ℕ) (x : A) → from ≤ j → j < r → get_elem? l j ≡ some x → test x ≡ false
  pub found : (x : A) → get_elem? l r ≡ some x → test x ≡ true

-- The place of the first from a place on that passes, if one does.
abbrev pub FirstFrom : {A : Type 0} → (A → Bool) → ℕ → List A → Option ℕ → Type 0
FirstFrom test from l None = First test from l (length l)
FirstFrom test from l (Some r) = First test from l r × (r < length l)
