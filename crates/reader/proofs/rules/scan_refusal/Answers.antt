use native.Mathlib.Omega.{arith}
use mathlib.Core.Path.{◌∙◌}
use Rattle.reader.proofs.Refusals.{scan_cut, scan-wrong, scan-more, scan_fine}
use Rattle.reader.proofs.rules.scan_refusal.Goals as goal

pub returns-then-b-p : goal.returns-then-b-p
returns-then-b-p c = c.at.ensures ∙ scan_cut _ _ _ _ _ (omega arith) c.if-b-p.true c.loop-i.invariant.1

pub returns-then-not-is_allowed : goal.returns-then-not-is_allowed
returns-then-not-is_allowed c = c.at-then-not-is_allowed.ensures ∙ scan-wrong _ _ _ _ _ (omega arith) (omega arith) c.is_allowed.ensures c.if-not-is_allowed.true c.loop-i.invariant.1

pub loop-i-preserved : goal.loop-i-preserved
loop-i-preserved c = (omega arith, scan-more _ _ _ _ _ (omega arith) (omega arith) c.is_allowed.ensures c.if-not-is_allowed.false c.loop-i.invariant.1)

pub returns : goal.returns
returns c = scan_fine _ _ _ _ _ (omega arith) c.loop-i.invariant.1
