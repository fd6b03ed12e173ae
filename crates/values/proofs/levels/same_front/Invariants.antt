-- `values::levels::same_front` meets its contract. The invariant: what is left of both goes on in step as the wholes do.
use Prim.Native.Nat.{◌-◌, ◌≤◌}
use mathlib.Core.List.{[]}
use lib.ListN.{length}
use Rattle.meaning.proofs.Inputs.{tokens_of}
use Rattle.values.specs.Values.{ValueAt, LevelAt}
use Rattle.values.proofs.Expressions.{Stepped}
use Rattle.values.proofs.levels.same_front.Given as goal

abbrev pub invariant-loop-i : goal.invariant-loop-i
invariant-loop-i l = (l.i ≤ length l.a) × (l.j ≤ length l.b) × ((u : ValueAt l.a) (v : LevelAt l.b) → Stepped l.a l.b (tokens_of u.expression []) (tokens_of v.level v.behind) l.i l.j)

abbrev pub decreases-loop-i : goal.decreases-loop-i
decreases-loop-i l = length l.a - l.i
