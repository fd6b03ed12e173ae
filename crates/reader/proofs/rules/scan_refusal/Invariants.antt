-- `reader::rules::scan_refusal` meets its contract. Assumes nothing.
use Prim.Native.Nat.{◌+◌, ◌≤◌}
use lib.ListN.{length}
use Rattle.reader.proofs.Refusals.{Passed}
use Rattle.reader.proofs.rules.scan_refusal.Given as goal

abbrev pub invariant-loop-i : goal.invariant-loop-i
invariant-loop-i l = (l.p + l.i ≤ length l.b) × Passed l.b l.p l.n l.number l.i
