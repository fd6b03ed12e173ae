-- `values::read::input_fits` meets its contract. The invariant: the tokens left, with as many brackets open, answer as the whole.
use Prim.Native.Nat.{◌-◌, ◌≤◌}
use lib.ListN.{length}
use Rattle.meaning.specs.Inputs.{input_of}
use Rattle.meaning.proofs.Tokens.{balanced}
use Rattle.values.specs.Values.{is_read}
use Rattle.values.proofs.Turns.{Left}
use Rattle.values.proofs.read.input_fits.Given as goal

abbrev pub invariant-loop-at : goal.invariant-loop-at
invariant-loop-at l = (l.at ≤ length l.s) × (l.depth ≤ l.at) × Left (is_read (input_of l.s)) balanced l.s l.at l.depth

abbrev pub decreases-loop-at : goal.decreases-loop-at
decreases-loop-at l = length l.s - l.at
