-- `restrictions::collect_call_sites` meets its contract. Assumes nothing.
use Prim.Native.Nat.{ℕ, ◌<◌, ◌≤◌}
use mathlib.Core.Path.{◌≡◌}
use mathlib.Core.List.{List}
use lib.ListN.{length, drop}
use Rattle.restrictions.specs.Records.{RecordsAt}
use Rattle.restrictions.proofs.Stage.{to_go}
use Rattle.restrictions.proofs.Going.{Going}
use Rattle.restrictions.proofs.+collect_call_sites.Given as goal

abbrev pub decreases-collect_call_sites : goal.decreases-collect_call_sites
decreases-collect_call_sites l = length l.part.now

abbrev pub invariant-loop-lists : goal.invariant-loop-lists
invariant-loop-lists l = (l.i ≤ length l.part) × (0 < l.lists → 0 < l.i) × ((b : List ℕ) (r : RecordsAt l.part) → drop l.at b ≡ l.part → Going b l.part l.sentence l.initial.sites l.n l.sites l.i l.k l.lists l.next r)

abbrev pub decreases-loop-lists : goal.decreases-loop-lists
decreases-loop-lists l = to_go (length l.part) l.i l.next
