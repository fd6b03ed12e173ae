-- `report::decided::note_if_judged` meets its contract. Assumes nothing.
use mathlib.Core.Path.{sym, ◌∙◌}
use Rattle.report.proofs.OpenNotes.{function_open, function_passed}
use Rattle.report.proofs.decided.note_if_judged.Goals as goal

pub is_judged-requires : goal.is_judged-requires
is_judged-requires c = (record { body = c.args.b.now; program = c.requires.0.program; indexed = c.requires.0.readable.indexed }, c.requires.1)

pub returns-then-not-is_judged : goal.returns-then-not-is_judged
returns-then-not-is_judged c =
    let a = c.args in
    λ w x d e. function_passed w a.work.now a.plan a.f x (sym (c.is_judged.ensures a.b.now w x d.indexed e) ∙ c.if-not-is_judged.true)

pub note_sentences-requires : goal.note_sentences-requires
note_sentences-requires c = c.requires

pub returns : goal.returns
returns c = λ w x d e. function_open (c.note_sentences.ensures w x d e)
