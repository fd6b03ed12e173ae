-- `image::part::fields_of` meets its contract: a name's length byte stands behind the span.
use Rattle.std.proofs.Common.{arith}
use Rattle.std.proofs.lemmas.Bool.Decides.{nat_tests}
use Rattle.image.specs.Skip.{fields}
use Rattle.image.proofs.Skip.{name_at}
use Rattle.image.proofs.part.fields_of.Goals as goal

pub returns-in-2-to-6 : goal.returns-in-2-to-6
unfolding fields
returns-in-2-to-6 c = rw name_at (grind (arith, nat_tests))
