-- The heads that an entry holds. Assumes nothing.
use native.Mathlib.Omega.{arith}
use mathlib.Core.Path.{refl}
use Rattle.index.specs.Links.{list_head}
use Rattle.index.proofs.table.HeadsFromU32.from.Goals as goal

pub returns : goal.returns
unfolding list_head
returns c = (refl, refl, omega arith, omega arith)
