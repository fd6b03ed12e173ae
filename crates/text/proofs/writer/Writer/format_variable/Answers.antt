use Rattle.std.proofs.Common.{◌≡◌, ◌++◌, [], ◌∷◌, ap, arith, length}
use Rattle.meaning.specs.Text.{format_kind}
use Rattle.text.proofs.Leaves.{variable-name, variable-fits, variable-text}
use Rattle.text.proofs.Written.{both, same, count}
use Rattle.text.proofs.writer.Writer.format_variable.Goals as goal

pub bounds-s-0 : goal.bounds-s-0
bounds-s-0 c = omega (arith, variable-fits c.requires.0)

pub put_byte-requires : goal.put_byte-requires
put_byte-requires c = omega (arith, variable-fits c.requires.0)

pub put_byte-requires-2 : goal.put_byte-requires-2
put_byte-requires-2 c = omega (arith, ap count c.put_byte.ensures, variable-fits c.requires.0)

pub slice_bounds-name_part-count : goal.slice_bounds-name_part-count
slice_bounds-name_part-count c = omega (arith, variable-fits c.requires.0)

pub slice_bounds-name_part-start : goal.slice_bounds-name_part-start
slice_bounds-name_part-start c = omega (arith, variable-fits c.requires.0)

pub name_part-requires : goal.name_part-requires
name_part-requires c = variable-name c.requires.0

pub put_bytes-requires : goal.put_bytes-requires
put_bytes-requires c =
    let x = c.requires.0 in
    omega (arith, ap length (c.name_part.ensures (variable-name x)), ap count c.put_byte.ensures, ap count c.put_byte-2.ensures, variable-fits x)

pub returns : goal.returns
returns c = λ x.
    let w = c.args.self.now in
    let letter = c.kind_letter in
    let name = c.name_part in
    let e : letter.result ∷ 46 ∷ name.result.now ≡ format_kind x.kind ++ x.name = rw (letter.ensures, name.ensures (variable-name x)) (variable-text x) in
    same w e
    (both w (letter.result ∷ []) (46 ∷ name.result.now) c.put_byte.ensures (both _ (46 ∷ []) name.result.now c.put_byte-2.ensures c.put_bytes.ensures))
