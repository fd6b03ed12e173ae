-- `values::read::answers_fit` meets its contract. The invariant: the tokens left, with as many closes owed, answer as the whole.
use Prim.Native.Nat.{◌*◌, ◌-◌, ◌≤◌}
use lib.ListN.{length}
use Rattle.meaning.specs.Inputs.{answers_of}
use Rattle.meaning.proofs.Tokens.{answered}
use Rattle.values.specs.Values.{is_read}
use Rattle.values.proofs.Turns.{Left}
use Rattle.values.proofs.read.answers_fit.Given as goal

abbrev pub invariant-loop-at : goal.invariant-loop-at
invariant-loop-at l = (l.at ≤ length l.s) × (4 * l.owed ≤ l.at) × Left (is_read (answers_of l.s)) answered l.s l.at l.owed

abbrev pub decreases-loop-at : goal.decreases-loop-at
decreases-loop-at l = length l.s - l.at
