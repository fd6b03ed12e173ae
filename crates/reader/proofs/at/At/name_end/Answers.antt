-- `reader::at::At::name_end` meets its contract. Assumes nothing.
use mathlib.Core.Path.{◌∙◌, sym}
use Rattle.reader.proofs.Passing.{good_of, ends_if, name-ends}
use Rattle.reader.proofs.at.At.name_end.Goals as goal

pub returns : goal.returns
returns c = λ x.
    let q = sym c.name_refusal.ensures ∙ good_of (sym c.ok.ensures.value ∙ c.in_ok-ok.was) in
    ends_if _ _ _ _ _ (rw c.from.ensures at c.then_some.ensures) (name-ends _ _ c.args.self.now.inside c.args.number q x)
