-- `report::entries::Entries::put_removed_in` meets its contract. Assumes nothing.
use Prim.Native.Nat.{◌*◌, ◌+◌, suc, ℕ, ◌≤◌}
use mathlib.Core.Option.{some}
use mathlib.Core.Path.{◌≡◌}
use lib.ListN.{get_elem?}
use Rattle.cleaning.specs.Indexed.{fell_of}
use Rattle.told.specs.ToldReport.{fallen_of}
use Rattle.program.specs.Syntax.{Function, Program}
use Rattle.told.specs.Numbered.{sentences_before}
use Rattle.report.proofs.RemovedLines.{rest_of}
use Rattle.report.specs.Removed.{Listed, Removing, longest}
use Rattle.text.specs.declared.writer.Writer.{Writer}
use Rattle.report.proofs.entries.Entries.put_removed_in.Given as goal

-- Where the walk is, and how far the lines can have come.
abbrev pub Reached : Program → ℕ → ℕ → ℕ → ℕ → ℕ → ℕ → Type 0
Reached w f at count s place lines =
    (sentences_before f w.functions ≤ s) × (s ≤ sentences_before (suc f) w.functions) × (place + sentences_before f w.functions * longest ≤ at + s * longest) × (lines + sentences_before f w.functions ≤ count + s)

-- With the lines of what is left, it is the whole.
abbrev pub invariant-loop-s : goal.invariant-loop-s
invariant-loop-s l =
    ((w : Program) (n : ℕ) → Removing l.self.b.now w l.self.work.now l.self.plan n → Reached w l.f l.initial.out.filled l.count l.s l.out.filled l.all)
    × ((w : Program) (n : ℕ) (x : Function) → Removing l.self.b.now w l.self.work.now l.self.plan n → get_elem? w.functions l.f ≡ some x → (d : Writer) (j : ℕ)
    → Listed w (fell_of l.self.plan l.self.work.now) n (rest_of w (fell_of l.self.plan l.self.work.now) n l.round l.f x l.s) l.out l.all d j
    → Listed w (fell_of l.self.plan l.self.work.now) n (fallen_of (fell_of l.self.plan l.self.work.now) l.round x (sentences_before l.f w.functions) x.sentences) l.initial.out l.count d j)
