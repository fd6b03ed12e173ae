-- `output::writer::write_functions` meets its contract. Assumes nothing.
use mathlib.Core.Path.{◌≡◌}
use Prim.Native.Nat.{◌-◌, ◌≤◌}
use lib.ListN.{length, drop}
use Rattle.image.specs.Parts.{FunctionsAt}
use Rattle.told.specs.Kept.{is_kept}
use Rattle.output.proofs.Walking.{Writes}
use Rattle.output.proofs.writer.write_functions.Given as goal

abbrev pub invariant-loop-p : goal.invariant-loop-p
invariant-loop-p l = (l.p ≤ length l.body) × (l.q ≤ l.p) × (l.i ≤ l.p) × (l.sentences ≤ l.i) × (length l.output ≡ length l.initial.output) × ((h : FunctionsAt (drop l.from l.body)) → Writes l.body l.initial.output l.from (is_kept l.marks) h.functions l.p l.q l.i l.sentences l.output)

abbrev pub decreases-loop-p : goal.decreases-loop-p
decreases-loop-p l = length l.body - l.p
