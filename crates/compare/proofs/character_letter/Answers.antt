-- `compare::character_letter` meets its contract. Assumes nothing.
use native.Mathlib.Omega.{arith}
use Rattle.compare.proofs.Letters.{first-quote, between_quotes, last-quote}
use Rattle.compare.proofs.character_letter.Goals as goal
use Rattle.compare.proofs.character_letter.Goals.{else-k-gt0-via-then-k-gt0+else-k-code_len, else-k-gt0-via-else-k-gt0}

pub returns-then-k-code_len : goal.returns-then-k-code_len
returns-then-k-code_len c = between_quotes c.args.code c.args.k c.code_byte.result c.code_byte.ensures (λ e. omega (arith, e)) (omega arith)

pub returns-else-k-gt0 : goal.returns-else-k-gt0
returns-else-k-gt0 c = elim c.else-k-gt0.branch [
  | else-k-gt0-via-then-k-gt0+else-k-code_len w ↦ last-quote c.args.code c.args.k c.quote_of.result c.quote_of.ensures (omega (arith, w.if-k-code_len.false, w.code_len.ensures)) c.requires.1
  | else-k-gt0-via-else-k-gt0 w ↦ first-quote c.args.code c.args.k c.quote_of.result c.quote_of.ensures (omega (arith, w.if-k-gt0.false))
]
