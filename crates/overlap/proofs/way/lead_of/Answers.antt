-- `overlap::way::lead_of` meets its contract.
use mathlib.Core.Path.{sym, ap}
use Rattle.patterns.specs.declared.Verdict.{Verdict}
use Rattle.overlap.specs.Way.{lead_of}
use Rattle.overlap.proofs.way.lead_of.Goals as goal

pub returns-in-Disjoint : goal.returns-in-Disjoint
returns-in-Disjoint c = sym (ap (λ (v : Verdict). lead_of v c.args.fuel) c.in-Disjoint.is)
