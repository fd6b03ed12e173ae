use native.Mathlib.Omega.{arith}
use mathlib.Core.Path.{refl, sym}
use Rattle.compare.proofs.Same.{ended-both, not_ended, coming_within}
use Rattle.compare.proofs.Cursor.{gone, comparing_from, first_ends, second-ends, letters-differ, comparing-next, comparing-there, stands}
use Rattle.compare.proofs.same_text.Goals as goal

pub loop-one-init : goal.loop-one-init
loop-one-init c = λ t u. let h = c.in-Some.ensures t u in comparing_from h.0 h.1

pub is_end-requires : goal.is_end-requires
is_end-requires c = coming_within (c.loop-one.invariant c.requires.0 c.requires.1).one.from

pub is_end-requires-in-loop-one : goal.is_end-requires-in-loop-one
is_end-requires-in-loop-one c = coming_within (c.loop-one.invariant c.requires.0 c.requires.1).two.from

pub returns-then-is_end : goal.returns-then-is_end
returns-then-is_end c = λ t u.
    let e = ended-both _ _ _ c.is_end-in-loop-one.ensures c.if-is_end.true in
    sym (second-ends (c.loop-one.invariant t u) (not_ended _ _ _ c.is_end.ensures c.loop-one-test.true) e.0 e.1)

pub next-requires : goal.next-requires
next-requires c = stands (c.loop-one.invariant c.requires.0 c.requires.1).one (not_ended _ _ _ c.is_end.ensures c.loop-one-test.true)

pub next-requires-in-loop-one : goal.next-requires-in-loop-one
next-requires-in-loop-one c = stands (c.loop-one.invariant c.requires.0 c.requires.1).two (not_ended _ _ _ c.is_end-in-loop-one.ensures c.if-is_end.false)

pub returns-then-next : goal.returns-then-next
returns-then-next c = λ t u.
    let e = not_ended _ _ _ c.is_end.ensures c.loop-one-test.true in
    let f = not_ended _ _ _ c.is_end-in-loop-one.ensures c.if-is_end.false in
    sym (letters-differ (c.loop-one.invariant t u) e f c.next.result c.next-in-loop-one.result c.next.ensures.letter c.next-in-loop-one.ensures.letter c.if-next.true)

pub loop-one-smaller : goal.loop-one-smaller
loop-one-smaller c =
    let x = (c.loop-one.invariant c.requires.0 c.requires.1).one in
    let n = c.next.ensures in
    omega (arith, (gone x (not_ended _ _ _ c.is_end.ensures c.loop-one-test.true) _ _ _ _ refl refl refl refl).less, n.token, n.nth)

pub loop-one-preserved : goal.loop-one-preserved
loop-one-preserved c = λ t u.
    let x = c.loop-one.invariant t u in
    let e = not_ended _ _ _ c.is_end.ensures c.loop-one-test.true in
    let f = not_ended _ _ _ c.is_end-in-loop-one.ensures c.if-is_end.false in
    let v = c.next.ensures in
    let w = c.next-in-loop-one.ensures in
    comparing-there (comparing-next x e f c.next.result c.next-in-loop-one.result v.letter w.letter c.if-next.false (gone x.one e _ _ _ _ refl refl refl refl) (gone x.two f _ _ _ _ refl refl refl refl)) v.token v.nth v.closes w.token w.nth w.closes

pub is_end-requires-2 : goal.is_end-requires-2
is_end-requires-2 c = coming_within (c.loop-one.invariant c.requires.0 c.requires.1).two.from

pub returns : goal.returns
returns c = λ t u.
    let e = ended-both _ _ _ c.is_end.ensures c.loop-one-test.false in
    first_ends (c.loop-one.invariant t u) c.is_end-2.result c.is_end-2.ensures e.0 e.1
