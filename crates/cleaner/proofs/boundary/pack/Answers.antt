-- `cleaner::boundary::pack` meets its contract. Assumes nothing.
use mathlib.Core.Path.{refl}
use Rattle.answers.specs.Packed.{packed}
use Rattle.cleaner.proofs.boundary.pack.Goals as goal

pub returns : goal.returns
unfolding packed
returns c = refl
