-- `cleaning::rounds::drop_rejected` meets its contract. Assumes nothing.
use Prim.Native.Nat.{◌≤◌}
use Rattle.cleaning.specs.RoundDone.{SentencesDropped}
use Rattle.cleaning.proofs.rounds.drop_rejected.Given as goal

abbrev pub invariant-loop-s : goal.invariant-loop-s
invariant-loop-s l = SentencesDropped l.initial.work l.work l.plan l.first l.s l.round l.dropped × (l.first ≤ l.s) × (l.s ≤ l.end)
