-- `report::entries::Entries::is_witnessed` meets its contract. Assumes nothing.
use Prim.Native.Nat.{◌≤◌}
use Rattle.report.proofs.entries.Entries.is_witnessed.Given as goal

-- The numbers passed are the function's own.
abbrev pub invariant-loop-s : goal.invariant-loop-s
invariant-loop-s l = l.initial.s ≤ l.s
