-- `report::names::put_lead` meets its contract. Assumes nothing.
use native.Mathlib.Omega.{arith}
use mathlib.Core.Path.{sym, ap}
use Rattle.patterns.specs.Ascii.{ascii}
use Rattle.text.proofs.Written.{same, count}
use Rattle.report.specs.Names.{lead}
use Rattle.report.proofs.names.put_lead.Goals as goal

pub returns-then-first : goal.returns-then-first
unfolding lead ascii
returns-then-first c = (same c.args.out.now (sym (ap lead c.if-first.true)) c.put_bytes.ensures, omega (arith, ap count c.put_bytes.ensures))

pub returns : goal.returns
unfolding lead ascii
returns c = (same c.args.out.now (sym (ap lead c.if-first.false)) c.put_bytes-2.ensures, omega (arith, ap count c.put_bytes-2.ensures))
