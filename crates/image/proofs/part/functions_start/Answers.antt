-- `image::part::functions_start` meets its contract. Assumes nothing.
use native.Mathlib.Omega.{arith}
use Rattle.program.proofs.Numbers.{bytes_of}
use Rattle.image.proofs.Accepted.{accepted-long, accepted-within, accepted-functions}
use Rattle.image.proofs.part.functions_start.Goals as goal

pub overflow_sub-n : goal.overflow_sub-n
overflow_sub-n c = omega (arith, accepted-long c.args.img.now (bytes_of c.args.img.now (λ i. omega (arith, c.type_inv.img i))) c.requires)

pub read32-requires : goal.read32-requires
read32-requires c = omega (arith, accepted-long c.args.img.now (bytes_of c.args.img.now (λ i. omega (arith, c.type_inv.img i))) c.requires)

pub overflow_sub-result : goal.overflow_sub-result
overflow_sub-result c = omega (arith, c.read32.ensures, accepted-within c.args.img.now (bytes_of c.args.img.now (λ i. omega (arith, c.type_inv.img i))) c.requires)

pub returns : goal.returns
returns c = (omega arith, λ a. rw c.read32.ensures (accepted-functions c.args.img.now (bytes_of c.args.img.now (λ i. omega (arith, c.type_inv.img i))) a))
