-- `cleaner::boundary::verdict_number` meets its contract. Assumes nothing.
use mathlib.Core.Path.{◌≡◌, refl}
use denote.Enum.Declared.{tag_of}
use Rattle.patterns.specs.contracts.Verdict.{the_type}
use Rattle.patterns.specs.declared.Verdict.{Verdict}
use Rattle.patterns.specs.declared.Verdict.TheVariants.{Disjoint, Overlap, Unknown}
use Rattle.answers.specs.Answers.{verdict_number}
use Rattle.cleaner.proofs.boundary.verdict_number.Goals as goal

by_number : (v : Verdict) → tag_of the_type v ≡ verdict_number v
unfolding verdict_number
by_number Disjoint = refl
by_number Overlap = refl
by_number Unknown = refl

pub returns : goal.returns
returns c = by_number c.args.verdict
