use Rattle.std.proofs.Common.{drop, get_or-drop, length-drop, arith}
use Rattle.std.proofs.lemmas.List.Edits.{paste_more}
use Rattle.output.proofs.bytes.copy_bytes.Goals as goal

pub loop-i-preserved : goal.loop-i-preserved
loop-i-preserved c =
    let e = get_or-drop c.args.from c.args.src.now c.loop-i.i 0 in
    let f = paste_more c.args.dst.now c.args.to (drop c.args.from c.args.src.now) c.loop-i.i 0 (omega arith) (simp length-drop (omega arith)) in
    cc
