-- `output::left::mark_left` meets its contract. Assumes nothing.
use mathlib.Core.Path.{◌≡◌}
use Prim.Native.Nat.{ℕ}
use Rattle.index.specs.Layout.{marks, calls}
use Rattle.index.specs.Tables.{Apart}
use Rattle.told.specs.Kept.{is_kept}
use Rattle.cleaning.specs.Indexed.{fell_of}
use Rattle.output.proofs.MarkPart.{marked, left_to}
use Rattle.output.proofs.left.mark_left.Given as goal

abbrev pub invariant-loop-s : goal.invariant-loop-s
invariant-loop-s l = Apart l.initial.work l.work (marks l.plan) (calls l.plan) × ((j : ℕ) → is_kept (marked l.plan l.work) j ≡ left_to l.plan.sentences (fell_of l.plan l.initial.work) l.s j)
