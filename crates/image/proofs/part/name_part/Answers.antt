-- `image::part::name_part` meets its contract. Assumes nothing.
use native.Mathlib.Omega.{arith}
use Rattle.image.proofs.Readings.{name-within, name-taken}
use mathlib.Core.Path.{ap}
use Prim.Native.Nat.{ℕ, ◌+◌}
use Rattle.image.proofs.part.name_part.Goals as goal

pub slice_bounds-result-end : goal.slice_bounds-result-end
slice_bounds-result-end c = omega (arith, name-within c.args.s.now c.requires, c.byte_or-upto.ensures.0)

pub returns : goal.returns
returns c = name-taken c.args.s.now (1 + c.byte_or-upto.result) (ap (λ (n : ℕ). 1 + n) c.byte_or-upto.ensures.0)
