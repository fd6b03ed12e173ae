use Rattle.std.proofs.Common.{length, ◌-◌, ◌+◌, ◌≤◌}
use Rattle.examples.proofs.notation_text.is_spelled.Given as goal

abbrev pub invariant-loop-p : goal.invariant-loop-p
invariant-loop-p l =
    (l.p ≤ length l.b + 300) × (l.q ≤ length l.t) × (length l.b ≤ 32768) × (length l.t ≤ 32768)

abbrev pub decreases-loop-p : goal.decreases-loop-p
decreases-loop-p l = length l.b - l.p
