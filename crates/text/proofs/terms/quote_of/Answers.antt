use Rattle.std.proofs.Common.{arith}
use borrow.Author.Tests.{eq-eqb, ne_eqb}
use Rattle.patterns.specs.Ascii.{ascii}
use Rattle.meaning.specs.Text.{quote}
use Rattle.text.proofs.terms.quote_of.Goals as goal

pub returns-then-code-from : goal.returns-then-code-from
unfolding quote ascii
returns-then-code-from c = rw (eq-eqb c.args.code 39 (omega arith))

pub returns-else-code-from : goal.returns-else-code-from
unfolding quote ascii
returns-else-code-from c = rw (ne_eqb c.args.code 39 (λ e. c.if-code-from.false (omega arith)))
