-- `output::mark::word_below` meets its contract. Assumes nothing.
use Prim.Native.Nat.{◌-◌}
use lib.Pow.{pow_pos}
use Rattle.output.proofs.Marks.{one_shifted, below_none, below-some, below_all}
use Rattle.output.proofs.mark.word_below.Goals as goal

pub returns-then-n-first : goal.returns-then-n-first
returns-then-n-first c = below_none c.args.n c.args.first c.if-n-first.true

pub overflow_sub-result : goal.overflow_sub-result
overflow_sub-result c = rw (one_shifted (c.args.n - c.args.first) c.if-k-lt32.true) (pow_pos (c.args.n - c.args.first))

pub returns-then-k-lt32 : goal.returns-then-k-lt32
returns-then-k-lt32 c = rw (one_shifted (c.args.n - c.args.first) c.if-k-lt32.true) (below-some c.args.n c.args.first c.if-n-first.false)

pub returns-else-k-lt32 : goal.returns-else-k-lt32
returns-else-k-lt32 c = below_all c.args.n c.args.first c.if-k-lt32.false
