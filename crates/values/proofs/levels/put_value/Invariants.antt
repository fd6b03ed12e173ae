-- `values::levels::put_value` meets its contract. The invariant: what is written, and what is left of the level with zero spans, are the whole of it.
use Prim.Native.Nat.{◌-◌, ◌≤◌}
use lib.ListN.{length}
use Rattle.meaning.proofs.Inputs.{tokens_of}
use Rattle.values.specs.Values.{LevelAt}
use Rattle.values.proofs.Expressions.{Wrote}
use Rattle.values.proofs.levels.put_value.Given as goal

abbrev pub invariant-loop-i : goal.invariant-loop-i
invariant-loop-i l = (l.i ≤ length l.s) × (l.depth ≤ l.i) × ((v : LevelAt l.s) → Wrote l.s (tokens_of v.level v.behind) l.initial.out l.at l.out l.i l.depth)

abbrev pub decreases-loop-i : goal.decreases-loop-i
decreases-loop-i l = length l.s - l.i
