-- `expression::records::put_mark` meets its contract. Assumes nothing.
use mathlib.Core.List.{[], ◌∷◌}
use Rattle.text.proofs.Written.{both, same}
use Rattle.expression.proofs.Symbols.{zero_span_lem}
use Rattle.expression.proofs.records.put_mark.Goals as goal

pub returns : goal.returns
returns c =
    let mark = c.args.mark in
    same c.args.out.now (zero_span_lem mark) (both c.args.out.now (mark ∷ []) (0 ∷ 0 ∷ 0 ∷ 0 ∷ 0 ∷ 0 ∷ 0 ∷ 0 ∷ []) c.put_byte.ensures c.put_bytes.ensures)
