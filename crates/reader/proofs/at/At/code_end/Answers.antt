-- `reader::at::At::code_end` meets its contract. Assumes nothing.
use Rattle.reader.proofs.Passing.{good_of, ends_if, code-ends}
use mathlib.Core.Path.{◌∙◌, sym}
use Rattle.reader.proofs.at.At.code_end.Goals as goal

pub returns : goal.returns
returns c = λ x. ends_if _ _ _ _ _ c.then_some.ensures (code-ends _ _ c.args.self.now.inside (sym c.code_refusal.ensures ∙ good_of (sym c.ok.ensures.value ∙ c.in_ok-ok.was)) x)
