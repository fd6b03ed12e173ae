-- `values::tokens::Token::first` meets its contract. Assumes nothing.
use mathlib.Core.Path.{sym, ◌∙◌}
use Rattle.values.proofs.Sizes.{none_read}
use Rattle.values.proofs.tokens.Token.first.Goals as goal

pub returns-else-is_token : goal.returns-else-is_token
returns-else-is_token c = none_read c.args.s.now (sym c.if-is_token.false ∙ c.is_token.ensures)
