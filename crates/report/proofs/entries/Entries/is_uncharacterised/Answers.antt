-- `report::entries::Entries::is_uncharacterised` meets its contract. Assumes nothing.
use mathlib.Core.Path.{◌∙◌}
use Rattle.told.specs.Numbered.{sites_of}
use borrow.Author.Tests.{eq-eqb}
use mathlib.Core.Path.{ap, ◌∙◌}
use mathlib.Core.Bool.{not}
use Rattle.report.proofs.Uncharacterised.{uncharacterised-root, uncharacterised-other}
use Rattle.report.proofs.entries.Entries.is_uncharacterised.Goals as goal

pub returns-else-f-root : goal.returns-else-f-root
returns-else-f-root c = λ b w x d e. ap not (eq-eqb c.args.f c.args.root c.if-f-root.false) ∙ uncharacterised-root c.args.root (sites_of w) c.args.f x c.if-f-root.false

pub has_call_in_argument-requires : goal.has_call_in_argument-requires
has_call_in_argument-requires c = c.requires

pub returns-then-f-root : goal.returns-then-f-root
returns-then-f-root c = λ b w x d e. c.has_call_in_argument.ensures b w x d e ∙ uncharacterised-other c.args.root (sites_of w) c.args.f x c.if-f-root.true
