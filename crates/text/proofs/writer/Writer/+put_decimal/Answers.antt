use Rattle.std.proofs.Common.{◌+◌, ◌/◌, ◌%◌, ◌∙◌, [], ◌∷◌, ap, arith}
use Rattle.meaning.specs.Decimal.{decimal}
use Rattle.meaning.proofs.Decimal.{decimal-one, decimal-more, decimal_one_length, decimal_more_length}
use Rattle.text.specs.Written.{written}
use Rattle.text.specs.declared.writer.Writer.{Writer}
use Rattle.text.proofs.Written.{both, same, count}
use Rattle.text.proofs.writer.Writer.+put_decimal.Goals as goal
use Rattle.text.proofs.writer.Writer.+put_decimal.Goals.{then-n-gt9, else-n-gt9}

pub put_decimal-requires : goal.put_decimal-requires
put_decimal-requires t c = (omega arith, omega (arith, decimal_more_length c.args.n c.if-n-gt9.true))

pub put_byte-requires : goal.put_byte-requires
put_byte-requires t c =
    let n = c.args.n in
    elim c.if-n-gt9.branch [
      | then-n-gt9 w ↦ rw w.self-is (omega (arith, ap count w.put_decimal.ensures, decimal_more_length n w.if-n-gt9.true))
      | else-n-gt9 w ↦ rw w.self-is (omega (arith, decimal_one_length n (omega arith)))
    ]

pub returns : goal.returns
returns t c =
    let n = c.args.n in
    let d = (48 + n % 10) ∷ [] in
    let v = c.args.self.now in
    elim c.if-n-gt9.branch [
      | then-n-gt9 w ↦ same v (decimal-more n (48 + n % 10) w.if-n-gt9.true (omega arith)) (both v (decimal (n / 10)) d (w.self-is ∙ w.put_decimal.ensures) c.put_byte.ensures)
      | else-n-gt9 w ↦ same v (decimal-one n (48 + n % 10) (omega arith) (omega arith)) (c.put_byte.ensures ∙ ap (λ (z : Writer). written z d) w.self-is)
    ]
