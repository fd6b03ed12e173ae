-- `symbols::same_number` meets its contract. Assumes nothing.
use mathlib.Core.Path.{◌∙◌, ap₂}
use Rattle.patterns.specs.Names.{eq_bytes}
use Rattle.symbols.proofs.Parts.{part_rest}
use Rattle.symbols.proofs.Compared.{bytes_equal}
use Rattle.symbols.proofs.same_number.Goals as goal

pub returns : goal.returns
returns c = c.eq.ensures ∙ (rw (part_rest, part_rest) (bytes_equal _ _ ∙ ap₂ eq_bytes c.leading_zeros.ensures.1 c.leading_zeros-2.ensures.1))
