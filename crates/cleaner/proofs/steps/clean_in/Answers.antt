-- `cleaner::steps::clean_in` meets its contract. Assumes nothing.
use native.Mathlib.Omega.{arith}
use mathlib.Core.Path.{sym, ◌∙◌}
use lib.Seq.{length-take-le}
use Rattle.program.proofs.Numbers.{bytes_of}
use Rattle.image.proofs.Accepted.{accepted-long}
use Rattle.program.proofs.Own.{own-counted}
use Rattle.told.specs.Numbered.{sites_of}
use Rattle.cleaner.proofs.Start.{body_of, some-program, dispatch_is, sites-at, some-sites, sites_fit, listed_small, delivered}
use Rattle.cleaner.proofs.steps.clean_in.Goals as goal

pub overflow_sub-n : goal.overflow_sub-n
overflow_sub-n c = omega (arith, accepted-long c.args.img.now (bytes_of c.args.img.now (λ i. omega (arith, c.type_inv.img i))) c.requires.0)

pub slice_bounds-b-end : goal.slice_bounds-b-end
slice_bounds-b-end c = sym (length-take-le _ c.args.img.now (omega arith))

pub list_program-sites-requires : goal.list_program-sites-requires
list_program-sites-requires c = some-program c.args.img.now (bytes_of c.args.img.now (λ i. omega (arith, c.type_inv.img i))) c.functions_start-from.result c.functions_start-from.ensures.0 c.functions_start-from.ensures.1 c.requires.0 c.args.work.now c.function_count-functions.result c.sentence_count-sentences.result c.requires.2 (c.function_count-functions.ensures c.requires.0) (c.sentence_count-sentences.ensures c.requires.0)

pub calls-requires : goal.calls-requires
calls-requires c = let l = listed_small (c.list_program-sites.ensures c.requires.0.program (body_of c.args.img.now (bytes_of c.args.img.now (λ i. omega (arith, c.type_inv.img i))) c.functions_start-from.result c.functions_start-from.ensures.0 c.functions_start-from.ensures.1 c.requires.0) (sym (c.function_count-functions.ensures c.requires.0)) (own-counted c.requires.0.program.functions ∙ sym (c.sentence_count-sentences.ensures c.requires.0))).0 in (omega (arith, l.0), omega (arith, l.1))

pub residual_dispatches_dynamically-requires : goal.residual_dispatches_dynamically-requires
residual_dispatches_dynamically-requires c = let l = (c.list_program-sites.ensures c.requires.0.program (body_of c.args.img.now (bytes_of c.args.img.now (λ i. omega (arith, c.type_inv.img i))) c.functions_start-from.result c.functions_start-from.ensures.0 c.functions_start-from.ensures.1 c.requires.0) (sym (c.function_count-functions.ensures c.requires.0)) (own-counted c.requires.0.program.functions ∙ sym (c.sentence_count-sentences.ensures c.requires.0))).0 in (some-sites l c.calls.ensures, sites_fit l c.calls.ensures)

pub leave_alone-requires : goal.leave_alone-requires
leave_alone-requires c = let a = c.requires.0 in
    let l = (c.list_program-sites.ensures a.program (body_of c.args.img.now (bytes_of c.args.img.now (λ i. omega (arith, c.type_inv.img i))) c.functions_start-from.result c.functions_start-from.ensures.0 c.functions_start-from.ensures.1 a) (sym (c.function_count-functions.ensures a)) (own-counted a.program.functions ∙ sym (c.sentence_count-sentences.ensures a))).0 in
    let f = listed_small l in (
      record {
        accepted = a;
        dynamic = (sym (dispatch_is a.program) ∙ (sym (c.residual_dispatches_dynamically.ensures (sites_of a.program) (sites-at l c.calls.ensures) l.sites) ∙ c.if-residual_dispatches_dynamically.true));
        functions_are = sym (c.function_count-functions.ensures a);
        sentences_are = sym (c.sentence_count-sentences.ensures a);
        few-functions = omega (arith, f.0);
        few-sentences = omega (arith, f.1);
      },
      c.requires.1,
    )

pub returns-then-residual_dispatches_dynamically : goal.returns-then-residual_dispatches_dynamically
returns-then-residual_dispatches_dynamically c = record { wrote = λ a. let l = (c.list_program-sites.ensures a.program (body_of c.args.img.now (bytes_of c.args.img.now (λ i. omega (arith, c.type_inv.img i))) c.functions_start-from.result c.functions_start-from.ensures.0 c.functions_start-from.ensures.1 a) (sym (c.function_count-functions.ensures a)) (own-counted a.program.functions ∙ sym (c.sentence_count-sentences.ensures a))).0 in c.leave_alone.ensures a (sym (dispatch_is a.program) ∙ (sym (c.residual_dispatches_dynamically.ensures (sites_of a.program) (sites-at l c.calls.ensures) l.sites) ∙ c.if-residual_dispatches_dynamically.true)) (sym (c.function_count-functions.ensures a)) (sym (c.sentence_count-sentences.ensures a)); same = let a = c.requires.0 in (c.list_program-sites.ensures a.program (body_of c.args.img.now (bytes_of c.args.img.now (λ i. omega (arith, c.type_inv.img i))) c.functions_start-from.result c.functions_start-from.ensures.0 c.functions_start-from.ensures.1 a) (sym (c.function_count-functions.ensures a)) (own-counted a.program.functions ∙ sym (c.sentence_count-sentences.ensures a))).1 }

pub clean_listed-done-requires : goal.clean_listed-done-requires
clean_listed-done-requires c = let a = c.requires.0 in
    (record { program = a.program; listed = (c.list_program-sites.ensures a.program (body_of c.args.img.now (bytes_of c.args.img.now (λ i. omega (arith, c.type_inv.img i))) c.functions_start-from.result c.functions_start-from.ensures.0 c.functions_start-from.ensures.1 a) (sym (c.function_count-functions.ensures a)) (own-counted a.program.functions ∙ sym (c.sentence_count-sentences.ensures a))).0 }, omega (arith, (body_of c.args.img.now (bytes_of c.args.img.now (λ i. omega (arith, c.type_inv.img i))) c.functions_start-from.result c.functions_start-from.ensures.0 c.functions_start-from.ensures.1 a).short))

pub deliver-requires : goal.deliver-requires
deliver-requires c = let a = c.requires.0 in
    let l = (c.list_program-sites.ensures a.program (body_of c.args.img.now (bytes_of c.args.img.now (λ i. omega (arith, c.type_inv.img i))) c.functions_start-from.result c.functions_start-from.ensures.0 c.functions_start-from.ensures.1 a) (sym (c.function_count-functions.ensures a)) (own-counted a.program.functions ∙ sym (c.sentence_count-sentences.ensures a))).0 in
    (record { accepted = a; delivery = delivered a (c.clean_listed-done.ensures.done a.program l) (sym (dispatch_is a.program) ∙ (sym (c.residual_dispatches_dynamically.ensures (sites_of a.program) (sites-at l c.calls.ensures) l.sites) ∙ c.if-residual_dispatches_dynamically.false)); few = c.clean_listed-done.ensures.few }, c.requires.1)

pub returns : goal.returns
returns c = record { wrote = λ a. let l = (c.list_program-sites.ensures a.program (body_of c.args.img.now (bytes_of c.args.img.now (λ i. omega (arith, c.type_inv.img i))) c.functions_start-from.result c.functions_start-from.ensures.0 c.functions_start-from.ensures.1 a) (sym (c.function_count-functions.ensures a)) (own-counted a.program.functions ∙ sym (c.sentence_count-sentences.ensures a))).0 in c.deliver.ensures.wrote a (delivered a (c.clean_listed-done.ensures.done a.program l) (sym (dispatch_is a.program) ∙ (sym (c.residual_dispatches_dynamically.ensures (sites_of a.program) (sites-at l c.calls.ensures) l.sites) ∙ c.if-residual_dispatches_dynamically.false))); same = let a = c.requires.0 in c.deliver.ensures.same ∙ (c.clean_listed-done.ensures.same ∙ (c.list_program-sites.ensures a.program (body_of c.args.img.now (bytes_of c.args.img.now (λ i. omega (arith, c.type_inv.img i))) c.functions_start-from.result c.functions_start-from.ensures.0 c.functions_start-from.ensures.1 a) (sym (c.function_count-functions.ensures a)) (own-counted a.program.functions ∙ sym (c.sentence_count-sentences.ensures a))).1) }
