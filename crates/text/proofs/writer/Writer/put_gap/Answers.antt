use Rattle.std.proofs.Common.{arith}
use borrow.Author.Tests.{eq-eqb, ne_eqb}
use Rattle.patterns.specs.Ascii.{ascii}
use Rattle.text.specs.FormatTerm.{gap_before}
use Rattle.text.proofs.Written.{written-nothing}
use Rattle.text.proofs.writer.Writer.put_gap.Goals as goal

pub returns-then-mark-ne15 : goal.returns-then-mark-ne15
unfolding gap_before ascii
returns-then-mark-ne15 c = rw (ne_eqb c.args.mark 15 c.if-mark-ne15.true) c.put_byte.ensures

pub returns-else-mark-ne15 : goal.returns-else-mark-ne15
unfolding gap_before
returns-else-mark-ne15 c = rw (eq-eqb c.args.mark 15 (omega arith)) (written-nothing c.args.self.now)
