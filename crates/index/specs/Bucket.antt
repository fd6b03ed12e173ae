-- Functions by the buckets of their names, so that a name is found without reading all functions.
use Rattle.std.specs.Prelude.{ℕ, suc, ◌+◌, ◌*◌, ◌%◌, ◌≤◌, ◌<◌, ◌≡◌, Bool, List, [], ◌∷◌, eqb, get_or}
use Rattle.std.proofs.Math.Option.{some}
use Rattle.std.proofs.Math.ListN.{get_elem?}
use Rattle.program.specs.Syntax.{Name, Function}
use Rattle.patterns.specs.Names.{caseless, same_name}
use Rattle.index.specs.First.{First}

-- A number of the small letters; nothing depends on which.
unfoldable pub hash_from : ℕ → List ℕ → ℕ
hash_from h [] = h
hash_from h (c ∷ n) = hash_from ((h * 31 + c) % 65536) n

-- The bucket of a name, of n buckets: names that are the same without regard to case have the same.
unfoldable pub bucket_of : ℕ → Name → ℕ
bucket_of n f = hash_from 0 (caseless f) % n

unfoldable pub in_bucket : ℕ → ℕ → Function → Bool
in_bucket n k x = eqb (bucket_of n x.name) k

-- "Names meet without regard to ASCII case."
unfoldable pub is_named : Name → Function → Bool
is_named f x = same_name x.name f

-- Of n buckets: each holds its first function from `from` on, each function from there on the next of its bucket.
-- Links stand at `at`, one a function, the buckets at `top`.
pub record Filed (fs : List Function) (m : List ℕ) (at top n from : ℕ) : Type 0 where
  pub bucket : (k : ℕ) → k < n → First (in_bucket n k) from fs (get_or m (top + k) 0)
  pub link : (f : ℕ) (x : Function) → from ≤ f → get_elem? fs f ≡ some x → First (in_bucket n (bucket_of n x.name)) (suc f) fs (get_or m (at + f) 0)
