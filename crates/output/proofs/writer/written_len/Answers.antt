-- `output::writer::written_len` meets its contract. Assumes nothing.
use mathlib.Core.Path.{sym, ◌∙◌}
use mathlib.Core.Bool.{true, false}
use Rattle.told.specs.Kept.{is_kept}
use Rattle.output.proofs.Items.{own-written, other-written}
use Rattle.output.proofs.writer.written_len.Goals as goal
use Rattle.output.proofs.writer.written_len.Goals.{else-is_sentence-via-then-is_sentence+else-not-is_kept, else-is_sentence-via-else-is_sentence}

pub returns-then-not-is_kept : goal.returns-then-not-is_kept
returns-then-not-is_kept c = own-written c.args.s.now (sym c.is_sentence.ensures ∙ c.if-is_sentence.true) (is_kept c.args.marks.now) c.args.i false (sym c.is_kept.ensures ∙ c.if-not-is_kept.true) c.args.w

pub returns-else-is_sentence : goal.returns-else-is_sentence
returns-else-is_sentence c =
    elim c.else-is_sentence.branch [
      | else-is_sentence-via-then-is_sentence+else-not-is_kept w ↦ own-written c.args.s.now (sym c.is_sentence.ensures ∙ w.if-is_sentence.true) (is_kept c.args.marks.now) c.args.i true (sym w.is_kept.ensures ∙ w.if-not-is_kept.false) c.args.w
      | else-is_sentence-via-else-is_sentence w ↦ other-written c.args.s.now (sym c.is_sentence.ensures ∙ w.if-is_sentence.false) (is_kept c.args.marks.now) c.args.i c.args.w
    ]
