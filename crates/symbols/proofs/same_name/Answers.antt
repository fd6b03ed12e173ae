-- `symbols::same_name` meets its contract. Assumes nothing.
use mathlib.Core.Path.{ap}
use Rattle.patterns.specs.declared.NameComparison.{NameComparison}
use Rattle.patterns.specs.Names.{compare_names}
use Rattle.symbols.proofs.same_name.Goals as goal

pub returns : goal.returns
unfolding compare_names
returns c = ap (λ (x : NameComparison). x.equal) c.compare_names.ensures
