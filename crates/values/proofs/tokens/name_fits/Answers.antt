-- `values::tokens::name_fits` meets its contract. Assumes nothing.
use mathlib.Core.Path.{sym, ap, ◌∙◌}
use lib.Dec.{eqb}
use lib.ListN.{length, get_or}
use borrow.Author.Tests.{le-ltb}
use Rattle.std.specs.Result.{is_ok}
use Rattle.values.proofs.Sizes.{name-told, name_cut}
use Rattle.values.proofs.tokens.name_fits.Goals as goal

pub returns-then-s-gt9 : goal.returns-then-s-gt9
returns-then-s-gt9 c = c.is_ok.ensures.value ∙ ap is_ok c.name_refusal.ensures ∙ sym (name-told c.args.s.now (eqb (get_or c.args.s.now 0 0) 3))

pub returns-else-s-gt9 : goal.returns-else-s-gt9
returns-else-s-gt9 c = le-ltb 9 (length c.args.s.now) c.if-s-gt9.false ∙ sym (name_cut c.args.s.now (eqb (get_or c.args.s.now 0 0) 3) c.if-s-gt9.false)
