-- `index::dispatch::residual_dispatches_dynamically` meets its contract. Assumes nothing.
use Prim.Native.Nat.{◌%◌, ◌<◌}
use native.Mathlib.Omega.{arith}
use mathlib.Core.Path.{sym, ap, ◌∙◌}
use Rattle.meaning.specs.Dispatch.{activates_acarried_call}
use Rattle.index.proofs.Entries.{element_of}
use Rattle.index.proofs.Sites.{call-at, callee-told, part-count, part-entry}
use Rattle.index.proofs.Any.{any_found, any_next, any-end}
use Rattle.index.proofs.dispatch.residual_dispatches_dynamically.Invariants.{test}
use Rattle.index.proofs.dispatch.residual_dispatches_dynamically.Goals as goal

pub call_activates-requires : goal.call_activates-requires
call_activates-requires c =
    let a = c.args in
    let i = c.loop-e.e-index in
    let l : i < a.n = omega (arith, c.loop-e-test.true, part-count a.work.now a.calls a.n c.requires.1) in
    call-at c.requires.0 i l c.from.result.place (c.from.ensures.0 ∙ ap (λ e. e % 32768) (part-entry a.work.now a.calls a.n i l))

pub returns-then-call_activates : goal.returns-then-call_activates
returns-then-call_activates c = λ held s e.
    let a = c.args in
    let i = c.loop-e.e-index in
    let l : i < a.n = omega (arith, c.loop-e-test.true, part-count a.work.now a.calls a.n c.requires.1) in
    let z = element_of held i (omega (arith, e, l)) in
    let t = callee-told s i c.from.result.place (c.from.ensures.0 ∙ ap (λ e. e % 32768) (part-entry a.work.now a.calls a.n i l)) z.element z.is activates_acarried_call c.call_activates.result c.call_activates.ensures in
    sym (c.loop-e.invariant held s e ∙ any_found test held i z.element z.is (sym t ∙ c.if-call_activates.true))

pub loop-e-preserved : goal.loop-e-preserved
loop-e-preserved c = λ held s e.
    let a = c.args in
    let i = c.loop-e.e-index in
    let l : i < a.n = omega (arith, c.loop-e-test.true, part-count a.work.now a.calls a.n c.requires.1) in
    let z = element_of held i (omega (arith, e, l)) in
    let t = callee-told s i c.from.result.place (c.from.ensures.0 ∙ ap (λ e. e % 32768) (part-entry a.work.now a.calls a.n i l)) z.element z.is activates_acarried_call c.call_activates.result c.call_activates.ensures in
    c.loop-e.invariant held s e ∙ any_next test held i z.element z.is (sym t ∙ c.if-call_activates.false)

pub returns : goal.returns
returns c = λ held s e. sym (c.loop-e.invariant held s e ∙ any-end test held c.loop-e.e-index (omega (arith, e, c.loop-e-test.false, part-count c.args.work.now c.args.calls c.args.n c.requires.1)))
