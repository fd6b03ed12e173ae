use Rattle.std.proofs.Common.{◌++◌, [], ◌∷◌, ap, arith}
use Rattle.meaning.specs.Text.{utf8, format_symbol}
use Rattle.text.proofs.Leaves.{utf8-length}
use Rattle.text.proofs.Written.{both, same, count}
use Rattle.text.proofs.writer.Writer.format_character.Goals as goal

pub put_byte-requires-2 : goal.put_byte-requires-2
put_byte-requires-2 c = omega (arith, ap count c.put_byte.ensures, ap count c.put_code.ensures, utf8-length c.args.code)

pub returns : goal.returns
unfolding format_symbol
returns c =
    let w = c.args.self.now in
    let code = c.args.code in
    let q = c.quote_of-q in
    same w (rw (← q.ensures))
    (both w (q.result ∷ []) (utf8 code ++ (q.result ∷ [])) c.put_byte.ensures
    (both _ (utf8 code) (q.result ∷ []) c.put_code.ensures c.put_byte-2.ensures))
