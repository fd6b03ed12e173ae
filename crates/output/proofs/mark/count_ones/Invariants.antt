-- `output::mark::count_ones` meets its contract. Assumes nothing.
use mathlib.Core.Path.{◌≡◌}
use Prim.Native.Nat.{◌*◌}
use Rattle.told.specs.Kept.{is_kept}
use Rattle.output.specs.Marks.{kept_count}
use Rattle.output.proofs.mark.count_ones.Given as goal

abbrev pub invariant-loop-word : goal.invariant-loop-word
invariant-loop-word l = l.total ≡ kept_count (is_kept l.marks) 0 (32 * l.word-index)
