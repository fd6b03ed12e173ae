-- `output::writer::sentence_one` meets its contract. Assumes nothing.
use mathlib.Core.Path.{sym, ◌∙◌}
use Rattle.output.proofs.Items.{from_bool-cond}
use Rattle.output.proofs.Walking.{one-is}
use Rattle.output.proofs.writer.sentence_one.Goals as goal

pub returns : goal.returns
returns c = c.from.ensures ∙ from_bool-cond _ ∙ sym (one-is c.args.s.now _ (sym c.is_sentence.ensures))
