-- `values::tokens::span_fits` meets its contract. Assumes nothing.
use mathlib.Core.Path.{sym, ap, ◌∙◌}
use Rattle.std.specs.Result.{is_ok}
use Rattle.values.proofs.Sizes.{span-told}
use Rattle.values.proofs.tokens.span_fits.Goals as goal

pub returns : goal.returns
returns c = c.is_ok.ensures.value ∙ ap is_ok c.span_refusal.ensures ∙ sym (span-told c.args.s.now)
