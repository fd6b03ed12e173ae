-- `image::part::sentence_count` meets its contract. Assumes nothing.
use native.Mathlib.Omega.{arith}
use mathlib.Core.Path.{◌∙◌}
use Rattle.program.proofs.Numbers.{bytes_of}
use Rattle.image.proofs.Accepted.{accepted-long, accepted-sentence_count}
use Rattle.image.proofs.part.sentence_count.Goals as goal

pub overflow_sub-img : goal.overflow_sub-img
overflow_sub-img c = omega (arith, accepted-long c.args.img.now (bytes_of c.args.img.now (λ i. omega (arith, c.type_inv.img i))) c.requires)

pub read16-requires : goal.read16-requires
read16-requires c = omega (arith, accepted-long c.args.img.now (bytes_of c.args.img.now (λ i. omega (arith, c.type_inv.img i))) c.requires)

pub returns : goal.returns
returns c = λ a. c.read16.ensures ∙ accepted-sentence_count c.args.img.now (bytes_of c.args.img.now (λ i. omega (arith, c.type_inv.img i))) a
