-- `values::levels::value_len` meets its contract. The invariant: what is passed and what is left of the level are the whole of it.
use Prim.Native.Nat.{◌-◌, ◌≤◌}
use lib.ListN.{length}
use Rattle.meaning.proofs.Inputs.{tokens_of}
use Rattle.values.specs.Values.{LevelAt}
use Rattle.values.proofs.Expressions.{Passed}
use Rattle.values.proofs.levels.value_len.Given as goal

abbrev pub invariant-loop-at : goal.invariant-loop-at
invariant-loop-at l = (l.at ≤ length l.s) × (l.depth ≤ l.at) × ((v : LevelAt l.s) → Passed l.s (tokens_of v.level v.behind) l.at l.depth)

abbrev pub decreases-loop-at : goal.decreases-loop-at
decreases-loop-at l = length l.s - l.at
