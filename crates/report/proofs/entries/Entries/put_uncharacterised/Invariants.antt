-- `report::entries::Entries::put_uncharacterised` meets its contract. Assumes nothing.
use Prim.Native.Nat.{◌+◌, ◌*◌, ◌≤◌}
use mathlib.Core.Path.{◌≡◌}
use Rattle.program.specs.Syntax.{Program}
use Rattle.text.specs.Written.{written}
use Rattle.report.specs.Emitting.{Readable}
use Rattle.report.proofs.Uncharacterised.{line_to, count_to}
use Rattle.report.proofs.entries.Entries.put_uncharacterised.Given as goal

abbrev pub invariant-loop-f : goal.invariant-loop-f
invariant-loop-f l = (l.out.filled ≤ l.initial.out.filled + l.f * 32785) × (l.count ≤ l.f) × ((w : Program) → Readable l.self.b.now w l.self.work.now l.self.plan → (l.out ≡ written l.initial.out (line_to l.root w l.f)) × (l.count ≡ count_to l.root w l.f))
