-- `output::mark::without_bit` meets its contract. Assumes nothing.
use Rattle.output.proofs.Marks.{bit-within, bit_cleared, bit_clear, one_shifted}
use Rattle.output.proofs.mark.without_bit.Goals as goal

pub overflow_sub-result : goal.overflow_sub-result
overflow_sub-result c = rw (one_shifted c.args.k c.requires) (bit-within c.args.k c.args.w c.if-w-k-eq1.true)

pub returns-then-w-k-eq1 : goal.returns-then-w-k-eq1
returns-then-w-k-eq1 c = rw (one_shifted c.args.k c.requires) (bit_cleared c.args.w c.args.k c.if-w-k-eq1.true)

pub returns-else-w-k-eq1 : goal.returns-else-w-k-eq1
returns-else-w-k-eq1 c = bit_clear c.args.w c.args.k c.if-w-k-eq1.false
