-- `index::table::Heads::packed` meets its contract. Assumes nothing.
use native.Mathlib.Omega.{arith}
use Rattle.index.specs.Links.{list_head}
use Rattle.index.proofs.table.Heads.packed.Goals as goal

pub returns : goal.returns
unfolding list_head
returns c = (omega arith, omega arith)
