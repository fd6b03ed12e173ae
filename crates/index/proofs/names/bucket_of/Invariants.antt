-- `index::names::bucket_of` meets its contract. Assumes nothing.
use Prim.Native.Nat.{◌<◌}
use mathlib.Core.Path.{◌≡◌}
use lib.ListN.{drop}
use Rattle.patterns.specs.Names.{caseless}
use Rattle.index.specs.Bucket.{hash_from}
use Rattle.index.proofs.names.bucket_of.Given as goal

abbrev pub invariant-loop-c : goal.invariant-loop-c
invariant-loop-c l = (l.h < 65536) × (hash_from 0 (caseless l.name) ≡ hash_from l.h (drop l.c-index (caseless l.name)))
