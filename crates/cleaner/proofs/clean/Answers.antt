-- `cleaner::clean` meets its contract. Assumes nothing.
use native.Mathlib.Omega.{arith}
use mathlib.Core.Path.{sym, subst, ◌∙◌}
use lib.ListN.{length}
use Rattle.std.proofs.lemmas.Result.{err_from_is_err_and}
use Rattle.program.proofs.Numbers.{bytes_of}
use Rattle.answers.specs.Packed.{CleanFits}
use Rattle.cleaner.proofs.Sentences.{accepted_of, refused_of}
use Rattle.cleaner.proofs.Ends.{ended_size, ended-output, ended-work, ended-refused, ended-accepted, rounded_up}
use Rattle.cleaner.proofs.clean.Goals as goal

pub returns-then-img-lt12 : goal.returns-then-img-lt12
returns-then-img-lt12 c =
    let g = c.args in
    let e = ended_size g.img.now g.output.now g.work.now g.report.now c.then-img-lt12.either in
    record { answered = c.at.ensures ∙ e.answered; outputs = e.outputs; works = e.works; reports = e.reports; fits = subst CleanFits (sym c.at.ensures) e.fits }

pub returns-then-output-img : goal.returns-then-output-img
returns-then-output-img c =
    let g = c.args in
    let e = ended-output g.img.now g.output.now g.work.now g.report.now (omega (arith, c.if-img-lt12.false)) (omega (arith, c.if-img-gt32768.false)) (omega (arith, c.if-output-img.true)) in
    record { answered = c.at-then-output-img.ensures ∙ e.answered; outputs = e.outputs; works = e.works; reports = e.reports; fits = subst CleanFits (sym c.at-then-output-img.ensures) e.fits }

pub returns-then-work-div_ceil : goal.returns-then-work-div_ceil
returns-then-work-div_ceil c =
    let g = c.args in
    let e = ended-work g.img.now g.output.now g.work.now g.report.now (omega (arith, c.if-img-lt12.false)) (omega (arith, c.if-img-gt32768.false)) (omega (arith, c.if-output-img.false)) (omega (arith, c.if-work-div_ceil.true, c.div_ceil.ensures, rounded_up (length g.img.now))) in
    record { answered = c.at-then-work-div_ceil.ensures ∙ e.answered; outputs = e.outputs; works = e.works; reports = e.reports; fits = subst CleanFits (sym c.at-then-work-div_ceil.ensures) e.fits }

pub returns-in_err-check : goal.returns-in_err-check
returns-in_err-check c =
    let g = c.args in
    let p = err_from_is_err_and c.from_residual.result c.from_residual.ensures.1 in
    let e = ended-refused g.img.now g.output.now g.work.now g.report.now (omega (arith, c.if-img-lt12.false)) (omega (arith, c.if-img-gt32768.false)) (omega (arith, c.if-output-img.false)) (omega (arith, c.if-work-div_ceil.false, c.div_ceil.ensures, rounded_up (length g.img.now))) _ _ (refused_of g.img.now c.check.result c.in_err-check.field-0.0 c.check.ensures c.in_err-check.was) in
    rw (p.1, p.2) (record { answered = e.answered; outputs = e.outputs; works = e.works; reports = e.reports; fits = e.fits })

pub clean_residual_program-requires : goal.clean_residual_program-requires
clean_residual_program-requires c =
    let g = c.args in
    (accepted_of g.img.now c.check.result _ c.check.ensures c.in_ok-check.was, omega (arith, c.if-output-img.false), omega (arith, c.if-work-div_ceil.false, c.div_ceil.ensures, rounded_up (length g.img.now)))

pub returns : goal.returns
returns c =
    let g = c.args in
    let a = accepted_of g.img.now c.check.result _ c.check.ensures c.in_ok-check.was in
    let e = ended-accepted g.img.now g.output.now g.work.now g.report.now (omega (arith, c.if-img-lt12.false)) (omega (arith, c.if-img-gt32768.false)) (omega (arith, c.if-output-img.false)) (omega (arith, c.if-work-div_ceil.false, c.div_ceil.ensures, rounded_up (length g.img.now))) (bytes_of g.img.now (λ i. omega (arith, c.type_inv.img i))) a _ _ _ _ (c.clean_residual_program.ensures.wrote a) c.clean_residual_program.ensures.cleared in
    record { answered = e.answered; outputs = e.outputs; works = e.works; reports = e.reports; fits = e.fits }
