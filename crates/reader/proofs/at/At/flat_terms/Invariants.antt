-- `reader::at::At::flat_terms` meets its contract. Assumes nothing.
use Prim.Native.Nat.{ℕ, ◌-◌, ◌≤◌, ◌<◌}
use lib.ListN.{length}
use Rattle.program.specs.Limits.{Mode}
use Rattle.program.specs.Automaton.{Stack}
use Rattle.reader.specs.Tally.{Alike}
use Rattle.reader.proofs.at.At.flat_terms.Given as goal

abbrev pub invariant-loop-end : goal.invariant-loop-end
invariant-loop-end l = (l.self.p ≤ l.p) × (l.p < length l.b) × ((m : Mode) (d : ℕ) (x : Stack) → Alike l.b l.self.p (Stack.terms m d x) l.p (Stack.terms m d x))

abbrev pub decreases-loop-end : goal.decreases-loop-end
decreases-loop-end l = length l.b - l.p
