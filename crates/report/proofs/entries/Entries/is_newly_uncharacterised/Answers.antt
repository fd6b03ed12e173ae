-- `report::entries::Entries::is_newly_uncharacterised` meets its contract. Assumes nothing.
use mathlib.Core.Path.{sym, ap, ◌∙◌}
use mathlib.Core.Bool.{Bool, ◌&&◌, not}
use Rattle.patterns.specs.Names.{same_name}
use Rattle.meaning.specs.Lists.{any}
use Rattle.report.specs.Names.{is_newly_uncharacterised}
use Rattle.report.proofs.Uncharacterised.{some-body, names_to}
use Rattle.report.proofs.entries.Entries.is_newly_uncharacterised.Goals as goal

pub is_uncharacterised-requires : goal.is_uncharacterised-requires
is_uncharacterised-requires c = (some-body c.requires.0, c.requires.1)

pub is_named_before-requires : goal.is_named_before-requires
is_named_before-requires c = c.requires

pub returns-then-is_uncharacterised : goal.returns-then-is_uncharacterised
unfolding is_newly_uncharacterised
returns-then-is_uncharacterised c = λ w x d e.
    ap not (c.is_named_before.ensures w x d e)
    ∙ ap (λ (t : Bool). t && not (any (λ n. same_name n x.name) (names_to c.args.root w c.args.f))) (sym c.if-is_uncharacterised.true ∙ c.is_uncharacterised.ensures c.args.self.now.b.now w x d.indexed e)

pub returns-else-is_uncharacterised : goal.returns-else-is_uncharacterised
unfolding is_newly_uncharacterised
returns-else-is_uncharacterised c = λ w x d e. c.if-is_uncharacterised.false ∙ ap (λ (t : Bool). t && not (any (λ n. same_name n x.name) (names_to c.args.root w c.args.f))) (sym c.if-is_uncharacterised.false ∙ c.is_uncharacterised.ensures c.args.self.now.b.now w x d.indexed e)
