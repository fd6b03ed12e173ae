-- `expression::records::put_letter` meets its contract. Assumes nothing.
use native.Mathlib.Omega.{arith}
use mathlib.Core.Path.{ap}
use mathlib.Core.List.{[], ◌∷◌}
use Rattle.program.specs.Bytes.{put32, put_span}
use Rattle.patterns.specs.Marks.{zero_span}
use Rattle.text.proofs.Written.{both, same, count}
use Rattle.expression.proofs.Symbols.{letter-whole}
use Rattle.expression.proofs.records.put_letter.Goals as goal

pub put_bytes-requires : goal.put_bytes-requires
unfolding put_span put32
put_bytes-requires c = omega (arith, ap count c.put_mark.ensures, c.requires)

pub returns : goal.returns
returns c = same c.args.out.now letter-whole (both c.args.out.now (1 ∷ put_span zero_span []) (65 ∷ 0 ∷ 0 ∷ 0 ∷ []) c.put_mark.ensures c.put_bytes.ensures)
