-- `matching::bindings::lookup` meets its contract. The invariant: the bindings left tell the variable as all of them do.
use Prim.Native.Nat.{ℕ, ◌-◌}
use lib.ListN.{drop}
use Rattle.meaning.specs.Match.{Bindings}
use Rattle.matching.specs.Bindings.{VariableAt, RunAt}
use Rattle.matching.proofs.Variables.{Sought}
use Rattle.matching.proofs.bindings.lookup.Given as goal

abbrev pub invariant-loop-at : goal.invariant-loop-at
invariant-loop-at l = (v : VariableAt (drop l.p l.body)) (top : ℕ) (b : Bindings) → RunAt l.body l.work top l.frame b l.low → Sought l.body l.work top l.frame v.kind v.name b l.at

abbrev pub decreases-loop-at : goal.decreases-loop-at
decreases-loop-at l = l.frame - l.at
