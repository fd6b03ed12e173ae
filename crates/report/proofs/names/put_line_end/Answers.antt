-- `report::names::put_line_end` meets its contract. Assumes nothing.
use native.Mathlib.Omega.{arith}
use mathlib.Core.Path.{sym, ap}
use borrow.Author.Tests.{eq-eqb, ne_eqb}
use Rattle.patterns.specs.Ascii.{ascii}
use Rattle.text.proofs.Written.{written-nothing, same, count}
use Rattle.report.specs.Names.{line_end}
use Rattle.report.proofs.names.put_line_end.Goals as goal

pub returns-then-count-eq0 : goal.returns-then-count-eq0
unfolding line_end
returns-then-count-eq0 c = let a = c.args in (same a.out.now (sym (ap line_end (eq-eqb a.count 0 c.if-count-eq0.true))) (written-nothing a.out.now), omega arith)

pub returns : goal.returns
unfolding line_end ascii
returns c = let a = c.args in (same a.out.now (sym (ap line_end (ne_eqb a.count 0 c.if-count-eq0.false))) c.put_byte.ensures, omega (arith, ap count c.put_byte.ensures))
