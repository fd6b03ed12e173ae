-- `report::notes::later` meets its contract. Assumes nothing.
use mathlib.Core.Logic.{inl, inr}
use mathlib.Core.Path.{ap, ◌∙◌}
use Rattle.report.specs.Notes.{stands_in}
use Rattle.report.proofs.SiteNotes.{later_first_never, later_second_never, later_most}
use Rattle.report.proofs.notes.later.Goals as goal

pub returns-then-b-eq0 : goal.returns-then-b-eq0
returns-then-b-eq0 c = λ r.
    let a = c.args in
    elim c.if-b-eq0.either [ inl e ↦ later_first_never a.a a.b r e | inr e ↦ later_second_never a.a a.b r e.1 ]

pub returns-else-b-eq0 : goal.returns-else-b-eq0
returns-else-b-eq0 c = λ r. ap (λ v. stands_in v r) c.max.ensures ∙ later_most c.args.a c.args.b r c.if-b-eq0.false.0 c.if-b-eq0.false.1
