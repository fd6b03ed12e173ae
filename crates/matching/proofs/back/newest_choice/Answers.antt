use native.Mathlib.Omega.{arith}
use mathlib.Core.Path.{sym, ◌∙◌}
use Rattle.matching.proofs.Choosing.{looking_first, look_here, look_none, look_more, look_found, readable}
use Rattle.matching.proofs.back.newest_choice.Goals as goal

pub loop-at-init : goal.loop-at-init
loop-at-init c = λ rest b cs top frame r k room. looking_first b cs r k

pub can_take-requires : goal.can_take-requires
can_take-requires c =
    let h = c.requires in
    let s = h.2 in
    readable h.4 (look_here (c.loop-at.invariant s.rest s.bindings s.choices h.0 h.1 s.run s.is h.4) c.loop-at-test.true) h.3

pub returns-then-can_take : goal.returns-then-can_take
returns-then-can_take c = λ rest b cs top frame room r k. look_found (c.loop-at.invariant rest b cs top frame r k room) room c.loop-at-test.true (sym c.can_take.ensures ∙ c.if-can_take.true)

pub overflow_step-at : goal.overflow_step-at
overflow_step-at c =
    let h = c.requires in
    let s = h.2 in
    let w = look_here (c.loop-at.invariant s.rest s.bindings s.choices h.0 h.1 s.run s.is h.4) c.loop-at-test.true in
    omega (arith, w.run.0, h.3)

pub loop-at-smaller : goal.loop-at-smaller
loop-at-smaller c = omega arith

pub loop-at-preserved : goal.loop-at-preserved
loop-at-preserved c = λ rest b cs top frame r k room. look_more (c.loop-at.invariant rest b cs top frame r k room) room c.loop-at-test.true (sym c.can_take.ensures ∙ c.if-can_take.false)

pub returns : goal.returns
returns c = λ rest b cs top frame room r k. look_none (c.loop-at.invariant rest b cs top frame r k room) c.loop-at-test.false

pub returns-else-can_take : goal.returns-else-can_take
returns-else-can_take c = λ rest b cs top frame room r k. look_none (look_more (c.loop-at.invariant rest b cs top frame r k room) room c.loop-at-test.true (sym c.can_take.ensures ∙ c.if-can_take.false)) (omega arith)
