use Rattle.std.proofs.Common.{sym, take, arith}
use Rattle.std.proofs.lemmas.List.{take_more}
use Rattle.text.proofs.Written.{written-nothing, both, same}
use Rattle.text.proofs.writer.Writer.put_bytes.Goals as goal

pub loop-b-init : goal.loop-b-init
loop-b-init c = written-nothing c.args.self.now

pub loop-b-preserved : goal.loop-b-preserved
loop-b-preserved c =
    let w = c.args.self.now in
    let t = c.args.bytes.now in
    let i = c.loop-b.b-index in
    same w (sym (take_more t i 0 (omega arith))) (both w (take i t) _ c.loop-b.invariant c.put_byte.ensures)
