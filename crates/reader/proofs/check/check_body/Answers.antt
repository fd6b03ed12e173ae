use native.Mathlib.Omega.{arith}
use mathlib.Core.Path.{◌≡◌, refl, ◌∙◌}
use Rattle.std.specs.Prelude.{Err}
use Rattle.std.proofs.lemmas.Grind.{common_steps}
use Rattle.program.proofs.Numbers.{bytes_of}
use Rattle.reader.proofs.Loop.{state_first, state_low, state_end, loop_over, loop_bad, loop_next}
use Rattle.reader.proofs.check.check_body.Goals as goal

pub loop-at-init : goal.loop-at-init
loop-at-init c = state_first _ _ refl

pub over_terms-t-requires : goal.over_terms-t-requires
over_terms-t-requires c = let l = c.loop-at in omega (arith, state_low c.args.b.now l.stack l.top l.at l.c l.invariant, l.invariant.room)

pub top_of-e-requires : goal.top_of-e-requires
top_of-e-requires c = let l = c.loop-at in omega (arith, c.over_terms-t.ensures.few, state_low c.args.b.now l.stack l.top l.at l.c l.invariant, l.invariant.room)

pub returns-in_err-g : goal.returns-in_err-g
returns-in_err-g c =
    let l = c.loop-at in
    let t = c.over_terms-t in
    let h = loop_over c.args.b.now l.stack l.top l.at l.c l.invariant t.result t.ensures in
    let e : c.from_residual.result ≡ Err c.in_err-g.field-0.0 = grind (arith, common_steps) in
    e ∙ loop_bad c.args.b.now l.stack t.result.n t.result.at l.c h t.ensures.within c.top_of-e.result c.top_of-e.ensures c.in_err-g.field-0.0 (c.in_err-g.ensures)

pub store-top-requires : goal.store-top-requires
store-top-requires c = let l = c.loop-at in omega (arith, c.saturating_sub.ensures, c.over_terms-t.ensures.few, state_low c.args.b.now l.stack l.top l.at l.c l.invariant, l.invariant.room)

pub loop-at-preserved : goal.loop-at-preserved
loop-at-preserved c =
    let l = c.loop-at in
    let t = c.over_terms-t in
    let h = loop_over c.args.b.now l.stack l.top l.at l.c l.invariant t.result t.ensures in
    loop_next c.args.b.now l.stack t.result.n t.result.at l.c h t.ensures.within c.top_of-e.result c.top_of-e.ensures c.in_ok-g.g c.store-top.new.s c.saturating_sub.result c.store-top.result c.advanced-c.result (bytes_of c.args.b.now (λ i. omega (arith, c.type_inv.b i))) (c.in_ok-g.ensures) c.saturating_sub.ensures c.store-top.ensures c.advanced-c.ensures

pub returns : goal.returns
returns c = let l = c.loop-at in c.tallied.ensures ∙ state_end c.args.b.now l.stack l.top l.at l.c l.invariant c.loop-at-test.false
