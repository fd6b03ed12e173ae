use native.Mathlib.Omega.{arith}
use Rattle.output.proofs.Marks.{marks-turn, marks-end}
use Rattle.output.proofs.mark.keep_all.Goals as goal

pub loop-j-preserved : goal.loop-j-preserved
loop-j-preserved c = let l = c.loop-j in marks-turn l.marks c.args.n l.j c.word_below.result (omega arith) l.invariant c.word_below.ensures

pub returns : goal.returns
returns c = let l = c.loop-j in marks-end l.marks c.args.n (omega arith) (λ i h. l.invariant i (omega arith))
