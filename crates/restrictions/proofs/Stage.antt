-- Where in a sentence a walk over records stands, and how much it has to do from there.
use Prim.Native.Nat.{ℕ, min, max, ◌+◌, ◌-◌, ◌*◌, ◌<◌, ◌≤◌}
use native.Mathlib.Omega.{arith}
use mathlib.Core.Path.{◌≡◌}
use mathlib.Core.Logic.{◌⊎◌, inl, inr}
use mathlib.Core.List.{List, [], ◌++◌}
use lib.ListN.{length}
use Rattle.std.specs.Prelude.{Option, Some, None}
use Rattle.rows.proofs.Readings.{part}
use Rattle.meaning.specs.Sites.{Site}
use Rattle.restrictions.specs.Records.{Records, put_records, record_sites, ValidRecords}
use Rattle.restrictions.proofs.Inside.{sort}

-- In the result of a sentence: its conditions stand at p, and more records after the result.
pub record InResult (s rest : List ℕ) (i p : ℕ) (x : Records) (after : List ℕ) (later : List Site) : Type 0 where
  pub conditions : Records
  pub follows : List ℕ
  pub more : Records
  pub of_terms : sort x ≡ 0
  pub of_conditions : sort conditions ≡ 1
  pub passed : p < i
  pub is : part s p ≡ put_records conditions follows
  pub valid : ValidRecords conditions
  pub is-more : after ≡ put_records more rest
  pub valid-more : ValidRecords more
  pub longer : length after < length follows
  pub sites : later ≡ record_sites conditions ++ record_sites more

-- In its conditions: more records stand at p.
pub record InConditions (s rest : List ℕ) (p : ℕ) (x : Records) (after : List ℕ) (later : List Site) : Type 0 where
  pub more : Records
  pub of_conditions : sort x ≡ 1
  pub is : part s p ≡ put_records more rest
  pub valid : ValidRecords more
  pub longer : length (put_records more rest) < length after
  pub sites : later ≡ record_sites more

-- Which records x are, with `after` behind them and the sites `later` still to come: those at the start of the part s, or some of a sentence among them.
abbrev pub Stage : List ℕ → List ℕ → ℕ → Option ℕ → Records → List ℕ → List Site → Type 0
Stage s rest i None x after later = (after ≡ rest) × (later ≡ [])
Stage s rest i (Some p) x after later = InResult s rest i p x after later ⊎ InConditions s rest p x after later

-- Where the walk stands in a sentence: in none, behind its conditions, before its end.
abbrev pub Stands : ℕ → ℕ → Option ℕ → Type 0
Stands m i None = Unit {0}
Stands m i (Some p) = (p < i) ⊎ ((i < p) × (p < m))

-- How much a walk has to do in m bytes: more for a byte of the records than for all of a sentence's conditions, which are passed before its end.
abbrev pub to_go : ℕ → ℕ → Option ℕ → ℕ
to_go m i None = 32770 * (m - i)
to_go m i (Some p) = 32770 * (m - max i p) + (32769 - min i p)

module _ (m : ℕ) (u : m ≤ 32768) where
  -- Further on at the same stage.
  pub less-on : (i j : ℕ) (next : Option ℕ) → i < j → j ≤ m → Stands m i next → Stands m j next → to_go m j next < to_go m i next
  less-on i j None l f a b = omega arith
  less-on i j (Some p) l f (inl a) (inl b) = omega arith
  less-on i j (Some p) l f (inl a) (inr b) = absurd (omega arith)
  less-on i j (Some p) l f (inr a) (inl b) = omega arith
  less-on i j (Some p) l f (inr a) (inr b) = omega arith

  -- From a sentence to its result, from there to its conditions, and from these on.
  pub less_in : (i j p : ℕ) → i < j → j ≤ m → p < j → to_go m j (Some p) < to_go m i None
  less_in i j p l f a = omega arith

  pub less_back : (i p : ℕ) → i < m → p < i → to_go m p (Some (i + 1)) < to_go m i (Some p)
  less_back i p f a = omega arith

  pub less-out : (i p : ℕ) → (i < p) × (p < m) → to_go m p None < to_go m i (Some p)
  less-out i p a = omega arith
