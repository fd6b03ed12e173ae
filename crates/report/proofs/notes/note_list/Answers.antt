use Prim.Native.Nat.{ℕ, ◌<◌}
use native.Mathlib.Omega.{arith}
use mathlib.Core.Path.{◌≡◌}
use mathlib.Core.Bool.{true}
use mathlib.Core.List.{List}
use mathlib.Core.Option.{some}
use lib.ListN.{get_elem?}
use Rattle.program.specs.Syntax.{Function, Program}
use Rattle.told.specs.Numbered.{sites_of}
use Rattle.index.proofs.First.{Element, element_at}
use Rattle.cleaning.specs.Indexed.{Indexed}
use Rattle.cleaning.proofs.Meeting.{sentence-below}
use Rattle.cleaning.proofs.Walking.{head_first}
use Rattle.report.specs.Notes.{Noting}
use Rattle.report.proofs.SiteNotes.{notes-indexed, noting_start, noting_turn, noting_end}
use Rattle.report.proofs.notes.note_list.Goals as goal

pub links-links-requires : goal.links-links-requires
links-links-requires c = let d = c.requires.0.indexed in (omega (arith, d.fits, d.small), omega (arith, d.fits, d.small), omega (arith, d.fits, d.small))

pub head_site-i-requires : goal.head_site-i-requires
head_site-i-requires c = omega (arith, c.requires.0.indexed.fits, c.requires.1)

pub loop-i-init : goal.loop-i-init
loop-i-init c = λ b w x d e. noting_start d c.args.f x e c.head_site-i.result (head_first d c.args.f x e true c.head_site-i.result c.head_site-i.ensures.0)

pub note_site-requires : goal.note_site-requires
note_site-requires c =
    let element : Element c.requires.0.program.functions c.args.f = element_at c.requires.0.program.functions c.args.f (omega (arith, c.requires.1, c.requires.0.indexed.functions)) in
    let noting : Noting element.element.name (sites_of c.requires.0.program) c.args.work.now c.loop-i.work c.args.plan c.loop-i.i = c.loop-i.invariant c.requires.0.body c.requires.0.program element.element c.requires.0.indexed element.is in
    let d = c.requires.0.indexed in
    let o = noting.only in
    let n = notes-indexed o d in
    (c.loop-i-test.true, sentence-below n c.args.f element.element element.is c.loop-i.i c.loop-i-test.true, (n.fits, n.small))

pub next_site-i-requires : goal.next_site-i-requires
next_site-i-requires c =
    let element : Element c.requires.0.program.functions c.args.f = element_at c.requires.0.program.functions c.args.f (omega (arith, c.requires.1, c.requires.0.indexed.functions)) in
    let noting : Noting element.element.name (sites_of c.requires.0.program) c.args.work.now c.loop-i.work c.args.plan c.loop-i.i = c.loop-i.invariant c.requires.0.body c.requires.0.program element.element c.requires.0.indexed element.is in
    omega (arith, c.note_site.ensures.length, noting.only.length, c.requires.0.indexed.fits, c.links-links.ensures, c.loop-i-test.true)

pub loop-i-smaller : goal.loop-i-smaller
loop-i-smaller c =
    let both : (b : List ℕ) (w : Program) (x : Function) → Indexed b w c.args.work.now c.args.plan → get_elem? w.functions c.args.f ≡ some x → Noting x.name (sites_of w) c.args.work.now c.note_site.new.work c.args.plan c.next_site-i.result × (c.loop-i.i < c.next_site-i.result) = λ b w x d e. noting_turn d c.args.f x e (c.loop-i.invariant b w x d e) c.loop-i-test.true c.note_site.ensures c.links-links.result c.next_site-i.result c.links-links.ensures c.next_site-i.ensures.0 in
    let element : Element c.requires.0.program.functions c.args.f = element_at c.requires.0.program.functions c.args.f (omega (arith, c.requires.1, c.requires.0.indexed.functions)) in
    omega (arith, c.loop-i-test.true, (both c.requires.0.body c.requires.0.program element.element c.requires.0.indexed element.is).1)

pub loop-i-preserved : goal.loop-i-preserved
loop-i-preserved c =
    let both : (b : List ℕ) (w : Program) (x : Function) → Indexed b w c.args.work.now c.args.plan → get_elem? w.functions c.args.f ≡ some x → Noting x.name (sites_of w) c.args.work.now c.note_site.new.work c.args.plan c.next_site-i.result × (c.loop-i.i < c.next_site-i.result) = λ b w x d e. noting_turn d c.args.f x e (c.loop-i.invariant b w x d e) c.loop-i-test.true c.note_site.ensures c.links-links.result c.next_site-i.result c.links-links.ensures c.next_site-i.ensures.0 in
    λ b w x d e. (both b w x d e).0

pub shape_of-work : goal.shape_of-work
shape_of-work c =
    let element : Element c.requires.0.program.functions c.args.f = element_at c.requires.0.program.functions c.args.f (omega (arith, c.requires.1, c.requires.0.indexed.functions)) in
    let noting : Noting element.element.name (sites_of c.requires.0.program) c.args.work.now c.loop-i.work c.args.plan c.loop-i.i = c.loop-i.invariant c.requires.0.body c.requires.0.program element.element c.requires.0.indexed element.is in
    (noting).only.length

pub returns : goal.returns
returns c = λ b w x d e.
    let g = c.loop-i.invariant b w x d e in
    (noting_end d c.args.f x e g (omega (arith, c.loop-i-test.false)), g.only)
