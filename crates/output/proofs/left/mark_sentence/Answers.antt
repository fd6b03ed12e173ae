-- `output::left::mark_sentence` meets its contract. Assumes nothing.
use native.Mathlib.Omega.{arith}
use mathlib.Core.Path.{sym}
use Rattle.cleaning.specs.Indexed.{fell_of}
use Rattle.cleaning.proofs.Indexed.{never-fell, fell-once}
use Rattle.output.proofs.MarkPart.{turn-fell, turn_stays}
use Rattle.output.proofs.left.mark_sentence.Goals as goal

pub returns-then-is_some : goal.returns-then-is_some
returns-then-is_some c = let t = turn-fell c.args.plan c.args.work.now c.clear_mark.new.marks c.args.from c.args.end c.args.s c.requires.0 c.requires.1 (omega (arith, c.requires.3)) (omega arith)
    c.clear_mark.ensures.cleared c.clear_mark.ensures.others (fell-once (fell_of c.args.plan c.args.work.now c.args.s) c.fell.result c.fell.ensures (sym c.if-is_some.ensures)) in record { here = t.0; there = t.1; others = t.2 }

pub returns-else-is_some : goal.returns-else-is_some
returns-else-is_some c = let t = turn_stays c.args.plan c.args.work.now c.args.s (never-fell (fell_of c.args.plan c.args.work.now c.args.s) c.fell.result c.fell.ensures (sym c.if-is_some.ensures)) in record { here = t.0; there = t.1; others = t.2 }
