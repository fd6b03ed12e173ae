use native.Mathlib.Omega.{arith}
use mathlib.Core.Path.{◌≡◌, subst}
use Rattle.report.specs.Notes.{DecidedUpto}
use Rattle.report.proofs.OpenNotes.{open_readable, decided-none, decided-next}
use Rattle.report.proofs.Places.{function_of}
use Rattle.report.proofs.decided.note_undecided.Goals as goal

pub loop-f-init : goal.loop-f-init
loop-f-init c = let a = c.args in λ w d. decided-none w a.work.now a.plan

pub note_if_judged-requires : goal.note_if_judged-requires
note_if_judged-requires c =
    let p = c.requires in
    (record { program = p.program; readable = open_readable (c.loop-f.invariant p.program p.readable).only p.readable }, c.loop-f-test.true)

pub loop-f-preserved : goal.loop-f-preserved
loop-f-preserved c =
    λ w d.
    let x = function_of d c.loop-f.f c.loop-f-test.true in
    let k = c.loop-f.invariant w d in
    decided-next k x.element x.is (c.note_if_judged.ensures w x.element (open_readable k.only d) x.is)

pub shape_of-work : goal.shape_of-work
shape_of-work c = let p = c.requires in (c.loop-f.invariant p.program p.readable).only.length

pub returns : goal.returns
returns c = λ w d.
    let a = c.args in
    let e : c.loop-f.f ≡ a.plan.functions = omega (arith, c.loop-f-test.false) in
    subst (DecidedUpto w a.work.now c.loop-f.work a.plan) e (c.loop-f.invariant w d)
