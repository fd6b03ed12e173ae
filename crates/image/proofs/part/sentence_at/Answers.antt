use Rattle.image.proofs.Finding.{walk_start, walk_found, walk_sentence, walk_close, walk_end, walks_function, walks_within, walks_room}
use native.Mathlib.Omega.{arith}
use Rattle.image.proofs.part.sentence_at.Goals as goal

pub loop-p-init : goal.loop-p-init
loop-p-init c = (omega arith, λ h. walk_start c.args.b.now c.args.from c.args.number h)

pub loop-p-preserved-in-18 : goal.loop-p-preserved-in-18
loop-p-preserved-in-18 c =
    let l = c.loop-p in
    (walks_within _ _ c.args.number l.p l.left c.loop-p-test.true l.invariant.1 c.requires.1 _ c.byte_or.ensures.0 c.in-18.is, walks_function _ _ c.args.number l.p l.left c.loop-p-test.true l.invariant.1 _ c.byte_or.ensures.0 c.in-18.is)

pub returns-in-10 : goal.returns-in-10
returns-in-10 c = let l = c.loop-p in λ h. walk_found _ _ _ l.p l.left c.loop-p-test.true (l.invariant.1 h) c.in-10.is c.if-left-eq0.true

pub past-p-requires : goal.past-p-requires
past-p-requires c =
    let l = c.loop-p in
    (walks_room _ _ c.args.number l.p l.left c.loop-p-test.true l.invariant.1 c.requires.1 c.in-10.is, omega arith)

pub loop-p-preserved-in-10-2 : goal.loop-p-preserved-in-10-2
loop-p-preserved-in-10-2 c =
    let l = c.loop-p in
    (c.past-p.ensures.1.1, λ h. walk_sentence _ _ _ l.p l.left c.loop-p-test.true (l.invariant.1 h) _ c.in-10.is c.if-left-eq0.false c.past-p.ensures.0)

pub loop-p-preserved : goal.loop-p-preserved
loop-p-preserved c =
    let l = c.loop-p in
    (omega arith, λ h. walk_close _ _ _ l.p l.left c.loop-p-test.true (l.invariant.1 h) (λ e. omega arith) (λ e. omega arith))

pub returns : goal.returns
returns c = let l = c.loop-p in λ h. walk_end _ _ _ l.p l.left (l.invariant.1 h) c.loop-p-test.false
