use Prim.Native.Nat.{◌+◌}
use Rattle.text.proofs.Written.{written-is}
use Rattle.report.proofs.Whole.{unwritten}
use Rattle.report.proofs.format.pass_over.Goals as goal

pub returns-clause-written : goal.returns-clause-written
returns-clause-written c = λ t e.
    let v = c.args.out.now in
    let u = unwritten v t c.args.bytes c.requires.0 e in
    written-is v t v.text.now (v.filled + c.args.bytes) u.0 u.1
