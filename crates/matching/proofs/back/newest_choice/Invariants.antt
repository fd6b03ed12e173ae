-- `matching::back::newest_choice` meets its contract. The invariant: the choices left have the matches that all of them have.
use Prim.Native.Nat.{ℕ, ◌-◌, ◌≤◌}
use mathlib.Core.List.{List}
use lib.ListN.{length}
use Rattle.meaning.specs.Match.{Bindings}
use Rattle.meaning.proofs.Searching.{Choice}
use Rattle.matching.specs.Bindings.{RunAt}
use Rattle.matching.specs.Choices.{ChoicesAt}
use Rattle.matching.proofs.Choosing.{Looking}
use Rattle.matching.proofs.back.newest_choice.Given as goal

abbrev pub invariant-loop-at : goal.invariant-loop-at
invariant-loop-at l = (rest : List ℕ) (b : Bindings) (cs : List Choice) (top frame : ℕ) → RunAt l.body l.work top frame b l.low → ChoicesAt l.body l.work rest top l.stop b l.low cs → top ≤ length l.work → Looking l.body l.work rest top frame l.stop cs l.at

abbrev pub decreases-loop-at : goal.decreases-loop-at
decreases-loop-at l = l.stop - l.at
