-- `output::writer::kept_one` meets its contract. Assumes nothing.
use mathlib.Core.Path.{sym, ap, ◌∙◌}
use mathlib.Core.Bool.{cond}
use Rattle.told.specs.Kept.{is_kept}
use Rattle.output.proofs.Items.{own-kept, other-kept, from_bool-cond}
use Rattle.output.proofs.writer.kept_one.Goals as goal
use Rattle.output.proofs.writer.kept_one.Goals.{then-is_sentence, else-is_sentence}

pub returns : goal.returns
returns c =
    elim c.if-is_sentence.branch [
      | then-is_sentence w ↦ c.from.ensures ∙ from_bool-cond c.if-is_sentence.from ∙ ap (λ b. cond b 1 0) w.from-is ∙ own-kept c.args.s.now (sym c.is_sentence.ensures ∙ w.if-is_sentence.true) (is_kept c.args.marks.now) c.args.i _ (sym w.is_kept.ensures)
      | else-is_sentence w ↦ c.from.ensures ∙ from_bool-cond c.if-is_sentence.from ∙ ap (λ b. cond b 1 0) (w.from-is ∙ w.if-is_sentence.false) ∙ other-kept c.args.s.now (sym c.is_sentence.ensures ∙ w.if-is_sentence.false) (is_kept c.args.marks.now) c.args.i
    ]
