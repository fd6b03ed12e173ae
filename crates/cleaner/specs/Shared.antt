-- An answer, and the slice that it leaves.
use Rattle.std.specs.Prelude.{ℕ, List}
use Rattle.answers.specs.ExpressionAnswers.{ExpressionAnswer, ExpressionLeft}

abbrev pub leaving : ExpressionAnswer → List ℕ → ExpressionLeft
leaving r lent = record { answer = r; lent = lent }
