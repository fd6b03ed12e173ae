-- `rows::terms::leftover` meets its contract.
use Prim.Native.Nat.{◌+◌}
use native.Mathlib.Omega.{arith}
use mathlib.Core.Path.{◌∙◌, ap}
use Rattle.rows.specs.Cells.{code_of, both}
use Rattle.rows.proofs.Places.{reading_part}
use Rattle.rows.proofs.Lists.{place_in}
use Rattle.rows.proofs.terms.leftover.Goals as goal

pub slice_bounds-leftover_overlap-count : goal.slice_bounds-leftover_overlap-count
slice_bounds-leftover_overlap-count c = omega (arith, place_in c.requires)

pub slice_bounds-leftover_overlap-start : goal.slice_bounds-leftover_overlap-start
slice_bounds-leftover_overlap-start c = omega (arith, place_in c.requires)

pub leftover_overlap-requires : goal.leftover_overlap-requires
leftover_overlap-requires c = reading_part c.requires

pub returns : goal.returns
returns c = c.word_of.ensures ∙ ap (λ n. both (4 + n) (4 + n)) (c.code_of-cell.ensures.0 ∙ ap code_of (c.leftover_overlap.ensures (reading_part c.requires)))
