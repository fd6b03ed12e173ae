-- `report::entries::Entries::repeated_in` meets its contract. Assumes nothing.
use mathlib.Core.Bool.{false≢true, true≢false}
use mathlib.Core.Path.{sym, ◌∙◌}
use Rattle.report.proofs.entries.Entries.repeated_in.Goals as goal

pub same_names-requires : goal.same_names-requires
same_names-requires c = (c.requires.0, c.requires.1, c.requires.2)

pub returns-else-same_names : goal.returns-else-same_names
returns-else-same_names c = λ w v x y d e g h. record {
  yes = λ a. absurd (false≢true (sym c.if-same_names.false ∙ a));
  no = λ a z. absurd (true≢false (sym z ∙ sym (c.same_names.ensures w v x d e g) ∙ c.if-same_names.false));
}

pub printed_in-requires : goal.printed_in-requires
printed_in-requires c = (c.requires.0, c.requires.1, c.requires.3)

pub returns-then-same_names : goal.returns-then-same_names
returns-then-same_names c = λ w v x y d e g h.
    let p = c.printed_in.ensures w y d h in
    record {
      yes = λ a. (sym (c.same_names.ensures w v x d e g) ∙ c.if-same_names.true, p.yes a);
      no = λ a z. p.no a;
    }
