-- `report::entries::Entries::put_removed_round` meets its contract. Assumes nothing.
use Prim.Native.Nat.{◌*◌, ◌+◌, ℕ, ◌≤◌}
use Rattle.cleaning.specs.Indexed.{fell_of}
use Rattle.told.specs.ToldReport.{fallen_in}
use Rattle.program.specs.Syntax.{Program}
use Rattle.told.specs.Numbered.{sentences_before}
use Rattle.report.proofs.RemovedLines.{rest_from}
use Rattle.report.specs.Removed.{Listed, Removing, longest}
use Rattle.text.specs.declared.writer.Writer.{Writer}
use Rattle.report.proofs.entries.Entries.put_removed_round.Given as goal

-- With the lines of what is left, it is the whole.
abbrev pub invariant-loop-f : goal.invariant-loop-f
invariant-loop-f l =
    ((w : Program) (n : ℕ) → Removing l.self.b.now w l.self.work.now l.self.plan n → (l.out.filled ≤ l.initial.out.filled + sentences_before l.f w.functions * longest) × (l.all ≤ l.count + sentences_before l.f w.functions))
    × ((w : Program) (n : ℕ) → Removing l.self.b.now w l.self.work.now l.self.plan n → (d : Writer) (j : ℕ)
    → Listed w (fell_of l.self.plan l.self.work.now) n (rest_from w (fell_of l.self.plan l.self.work.now) n l.round l.f) l.out l.all d j
    → Listed w (fell_of l.self.plan l.self.work.now) n (fallen_in (fell_of l.self.plan l.self.work.now) l.round 0 w.functions) l.initial.out l.count d j)
