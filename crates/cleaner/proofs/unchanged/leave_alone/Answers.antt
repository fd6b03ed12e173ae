-- `cleaner::unchanged::leave_alone` meets its contract. Assumes nothing.
use native.Mathlib.Omega.{arith}
use mathlib.Core.Path.{refl, sym, ap, subst, ◌∙◌}
use mathlib.Core.List.{◌++◌}
use lib.ListN.{length}
use Rattle.program.proofs.Numbers.{bytes_of}
use Rattle.told.specs.ToldReport.{unchanged_report}
use Rattle.told.proofs.ToldReport.{dynamic-report}
use Rattle.meaning.specs.Report.{format_clean_report}
use Rattle.answers.specs.CleanAnswers.{CleanAnswer}
use Rattle.cleaner.specs.Writing.{Wrote}
use Rattle.report.proofs.Short.{unchanged_short}
use Rattle.cleaner.proofs.Wrote.{wrote_nothing, wrote_all, emitted-none, emitted-whole, pasted_whole, same_image, whole_length, whole-fits}
use Rattle.cleaner.proofs.unchanged.leave_alone.Goals as goal

pub returns-then-report-needed : goal.returns-then-report-needed
returns-then-report-needed c = λ a d f s.
    let g = c.args in
    let x = c.requires.0 in
    let e = c.format_unchanged-needed.ensures a.program f s in
    let bytes = bytes_of g.img.now (λ j. omega (arith, c.type_inv.img j)) in
    subst (λ (x : CleanAnswer). Wrote a.program g.output.now g.report.now x g.output.now (c.format_unchanged-needed.new.out ++ g.report.now)) (sym c.at.ensures)
    (wrote_nothing a.program g.img.now (format_clean_report (unchanged_report a.program)) (same_image g.img.now bytes a d) (ap format_clean_report (dynamic-report a.program d)) (unchanged_short a.program (omega (arith, f, x.few-functions)) (omega (arith, s, x.few-sentences))) g.output.now g.report.now
    c.format_unchanged-needed.result (whole_length e.after) (omega (arith, c.if-report-needed.true, ap length (emitted-none g.report.now _ _ _ e))) _ (emitted-none g.report.now _ _ _ e))

pub returns : goal.returns
returns c = λ a d f s.
    let g = c.args in
    let x = c.requires.0 in
    let e = c.format_unchanged-needed.ensures a.program f s in
    let h = emitted-none g.report.now _ _ _ e in
    let fits = whole-fits {k = length g.report.now} e.after (omega (arith, c.if-report-needed.false, ap length h)) in
    let bytes = bytes_of g.img.now (λ j. omega (arith, c.type_inv.img j)) in
    wrote_all a.program g.img.now (format_clean_report (unchanged_report a.program)) (same_image g.img.now bytes a d) (ap format_clean_report (dynamic-report a.program d)) (unchanged_short a.program (omega (arith, f, x.few-functions)) (omega (arith, s, x.few-sentences))) g.output.now g.report.now
    (length g.img.now) c.format_unchanged-needed.result refl (whole_length e.after) (omega (arith, c.if-report-needed.false, ap length h)) _ _
    (c.copy_bytes.ensures ∙ pasted_whole g.img.now g.output.now) (emitted-whole g.report.now _ _ _ _ h (c.format_unchanged.ensures a.program f s) fits)
