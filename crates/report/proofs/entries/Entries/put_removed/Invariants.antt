-- `report::entries::Entries::put_removed` meets its contract. Assumes nothing.
use Prim.Native.Nat.{◌*◌, ◌+◌, ◌<◌, ℕ, ◌≤◌}
use Rattle.cleaning.specs.Indexed.{fell_of}
use Rattle.told.specs.ToldReport.{fallen_from}
use Rattle.program.specs.Syntax.{Program}
use Rattle.report.proofs.RemovedLines.{rest_rounds}
use Rattle.report.specs.Removed.{Listed, Removing, longest}
use Rattle.text.specs.declared.writer.Writer.{Writer}
use Rattle.report.proofs.entries.Entries.put_removed.Given as goal

-- With the lines of what is left, it is the whole.
abbrev pub invariant-loop-round : goal.invariant-loop-round
invariant-loop-round l =
    ((0 < l.round) × (l.round ≤ l.rounds + 1) × (l.out.filled + 4096 * longest ≤ l.initial.out.filled + l.round * (4096 * longest)) × (l.count + 4096 ≤ l.round * 4096))
    × ((w : Program) → Removing l.self.b.now w l.self.work.now l.self.plan l.rounds → (d : Writer) (j : ℕ)
    → Listed w (fell_of l.self.plan l.self.work.now) l.rounds (rest_rounds w (fell_of l.self.plan l.self.work.now) l.rounds l.round) l.out l.count d j
    → Listed w (fell_of l.self.plan l.self.work.now) l.rounds (fallen_from w (fell_of l.self.plan l.self.work.now) 1 l.rounds) l.initial.out 0 d j)
