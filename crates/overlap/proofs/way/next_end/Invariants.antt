-- `overlap::way::next_end` meets its contract: the room changes only where a split goes on.
use Prim.Native.Nat.{ℕ, ◌≤◌}
use mathlib.Core.Path.{◌≡◌}
use Rattle.overlap.specs.Way.{Failing}
use Rattle.overlap.proofs.way.next_end.Given as goal

abbrev pub invariant-loop-k : goal.invariant-loop-k
invariant-loop-k l = (l.room ≡ l.initial.room) × (l.k ≤ l.height) × ((f p q : ℕ) → Failing l.b l.initial.room l.from f p q l.height l.fuel → Failing l.b l.room l.from f p q l.k l.fuel)
