-- `output::mark::is_kept` meets its contract. Assumes nothing.
use mathlib.Core.Path.{refl, sym}
use Rattle.told.specs.Kept.{is_kept}
use Rattle.output.proofs.Marks.{kept_out}
use Rattle.output.proofs.mark.is_kept.Goals as goal

pub returns-then-word-marks : goal.returns-then-word-marks
unfolding is_kept
returns-then-word-marks c = refl

pub returns-else-word-marks : goal.returns-else-word-marks
returns-else-word-marks c = sym (kept_out c.args.marks.now c.args.i c.if-word-marks.false)
