-- `report::entries::Entries::is_namesake` meets its contract. Assumes nothing.
use mathlib.Core.Path.{sym, ap, ◌∙◌}
use mathlib.Core.Bool.{Bool, ◌&&◌}
use Rattle.patterns.specs.Names.{same_name}
use Rattle.report.proofs.Uncharacterised.{some-body}
use Rattle.report.proofs.entries.Entries.is_namesake.Goals as goal

pub is_uncharacterised-requires : goal.is_uncharacterised-requires
is_uncharacterised-requires c = (some-body c.requires.0, c.requires.1)

pub same_names-requires : goal.same_names-requires
same_names-requires c = c.requires

pub returns-then-is_uncharacterised : goal.returns-then-is_uncharacterised
returns-then-is_uncharacterised c = λ w y x d e g. c.same_names.ensures w y x d e g ∙ ap (λ (t : Bool). t && same_name y.name x.name) (sym c.if-is_uncharacterised.true ∙ c.is_uncharacterised.ensures c.args.self.now.b.now w y d.indexed e)

pub returns-else-is_uncharacterised : goal.returns-else-is_uncharacterised
returns-else-is_uncharacterised c = λ w y x d e g. c.if-is_uncharacterised.false ∙ ap (λ (t : Bool). t && same_name y.name x.name) (sym c.if-is_uncharacterised.false ∙ c.is_uncharacterised.ensures c.args.self.now.b.now w y d.indexed e)
