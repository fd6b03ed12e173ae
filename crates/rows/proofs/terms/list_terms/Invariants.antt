-- `rows::terms::list_terms` meets its contract.
use Prim.Native.Nat.{◌+◌, ◌-◌, ◌≤◌}
use lib.ListN.{length}
use Rattle.patterns.specs.Search.{size}
use Rattle.rows.specs.Rows.{read_at, Kept}
use Rattle.rows.proofs.Lists.{Listing}
use Rattle.rows.proofs.terms.list_terms.Given as goal

abbrev pub invariant-loop-q : goal.invariant-loop-q
invariant-loop-q l = (l.at ≤ l.k) × (l.k ≤ length l.room) × Kept l.at l.initial.room l.room × Listing l.b l.room l.p l.at l.k l.q
    × (l.k + size (read_at l.b l.q) ≤ l.at + size (read_at l.b l.p))

abbrev pub decreases-loop-q : goal.decreases-loop-q
decreases-loop-q l = length l.b - l.q
