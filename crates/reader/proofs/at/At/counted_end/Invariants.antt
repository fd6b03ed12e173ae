-- `reader::at::At::counted_end` meets its contract. Assumes nothing.
use Prim.Native.Nat.{◌-◌, ◌<◌}
use lib.ListN.{length, get_or}
use Rattle.program.specs.Automaton.{Stack}
use Rattle.reader.specs.Tally.{Alike}
use Rattle.reader.proofs.Passing.{names_on}
use Rattle.reader.proofs.at.At.counted_end.Given as goal

abbrev pub invariant-loop-i : goal.invariant-loop-i
invariant-loop-i l = (l.self.p < l.p) × (l.p < length l.b) × ((x : Stack) → Alike l.b l.self.p (Stack.counted x) l.p (names_on (get_or l.b l.self.p 0 - l.i) x))
