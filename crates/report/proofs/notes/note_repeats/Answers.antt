use Prim.Native.Nat.{ℕ}
use native.Mathlib.Omega.{arith}
use mathlib.Core.Path.{◌≡◌, subst}
use mathlib.Core.List.{List}
use Rattle.program.specs.Syntax.{Program}
use Rattle.index.proofs.First.{element_at}
use Rattle.cleaning.specs.Indexed.{Indexed}
use Rattle.cleaning.proofs.Indexed.{only_rounds_indexed}
use Rattle.report.specs.Notes.{NotesWritten}
use Rattle.report.proofs.SiteNotes.{written-only, notes-none, notes-next}
use Rattle.report.proofs.notes.note_repeats.Goals as goal

pub loop-f-init : goal.loop-f-init
loop-f-init c = λ b w d. notes-none w c.args.work.now c.args.plan

pub note_list-requires : goal.note_list-requires
note_list-requires c =
    let the_indexed : (b : List ℕ) (w : Program) → Indexed b w c.args.work.now c.args.plan → Indexed b w c.loop-f.work c.args.plan = λ b w d. only_rounds_indexed (written-only (c.loop-f.invariant b w d)) d in
    let p = c.requires in
    (record { body = p.body; program = p.program; indexed = the_indexed p.body p.program p.indexed }, c.loop-f-test.true)

pub loop-f-preserved : goal.loop-f-preserved
loop-f-preserved c =
    let indexed : (b : List ℕ) (w : Program) → Indexed b w c.args.work.now c.args.plan → Indexed b w c.loop-f.work c.args.plan = λ b w d. only_rounds_indexed (written-only (c.loop-f.invariant b w d)) d in
    λ b w d.
    let x = element_at w.functions c.loop-f.f (omega (arith, d.functions, c.loop-f-test.true)) in
    notes-next d (c.loop-f.invariant b w d) x.element x.is (c.note_list.ensures b w x.element (indexed b w d) x.is)

pub shape_of-work : goal.shape_of-work
shape_of-work c = let p = c.requires in (c.loop-f.invariant p.body p.program p.indexed).length

pub returns : goal.returns
returns c = λ b w d.
    let a = c.args in
    let e : c.loop-f.f ≡ a.plan.functions = omega (arith, c.loop-f-test.false) in
    subst (NotesWritten w a.work.now c.loop-f.work a.plan) e (c.loop-f.invariant b w d)
