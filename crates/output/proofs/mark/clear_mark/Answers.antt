-- `output::mark::clear_mark` meets its contract. Assumes nothing.
use mathlib.Core.Path.{refl}
use Rattle.output.proofs.Marks.{kept_out, mark_cleared, mark-other}
use Rattle.output.proofs.mark.clear_mark.Goals as goal

pub returns-then-word-marks : goal.returns-then-word-marks
returns-then-word-marks c = record { cleared = mark_cleared c.args.marks.now c.args.i c.without_bit.result c.if-word-marks.true c.without_bit.ensures; others = mark-other c.args.marks.now c.args.i c.without_bit.result c.if-word-marks.true c.without_bit.ensures }

pub returns-else-word-marks : goal.returns-else-word-marks
returns-else-word-marks c = record { cleared = kept_out c.args.marks.now c.args.i c.if-word-marks.false; others = λ j n. refl }
