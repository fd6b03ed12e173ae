-- `image::part::sentences_start` meets its contract. Assumes nothing.
use mathlib.Core.Path.{ap}
use Prim.Native.Nat.{ℕ, ◌+◌}
use Rattle.image.proofs.Readings.{function_passed}
use Rattle.image.proofs.part.sentences_start.Goals as goal

pub returns : goal.returns
returns c = function_passed c.args.s.now (11 + c.byte_or.result) (ap (λ (n : ℕ). 11 + n) c.byte_or.ensures.0)
