-- `values::tokens::code_fits` meets its contract. Assumes nothing.
use mathlib.Core.Path.{sym, ap, ◌∙◌}
use Rattle.std.specs.Result.{is_ok}
use Rattle.values.proofs.Sizes.{code-told}
use Rattle.values.proofs.tokens.code_fits.Goals as goal

pub returns : goal.returns
returns c = c.is_ok.ensures.value ∙ ap is_ok c.code_refusal.ensures ∙ sym (code-told c.args.s.now)
