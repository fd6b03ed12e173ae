use Prim.Native.Nat.{◌+◌, ◌≤◌, ◌<◌}
use native.Mathlib.Omega.{arith}
use mathlib.Core.Path.{sym, subst, ◌∙◌}
use mathlib.Core.List.{List}
use lib.ListN.{length, set}
use Rattle.program.specs.Syntax.{Name}
use Rattle.told.specs.Numbered.{Held}
use Rattle.index.specs.First.{First}
use Rattle.index.specs.Links.{is_repeat}
use Rattle.index.specs.Lists.{ListAt}
use Rattle.index.proofs.Classing.{Classing, classing_first, list-kept, link-below, at_element, at-among, at_next, classing-next, classing_end}
use Rattle.index.proofs.classes.class_list.Goals as goal

pub loop-i-init : goal.loop-i-init
loop-i-init c = λ f sites l. classing_first l

pub first_alike-c-requires : goal.first_alike-c-requires
first_alike-c-requires c =
    let both : (c.args.links + c.loop-i.i < length c.loop-i.work) × (length c.loop-i.work ≤ 32768) = let p = c.requires in (link-below p.0.list ((let p = c.requires.0 in c.loop-i.invariant p.name p.sites p.list)) c.loop-i-test.true, omega (arith, ((let p = c.requires.0 in c.loop-i.invariant p.name p.sites p.list)).only.length, p.1)) in
    let p = c.requires in
    let w = (let p = c.requires.0 in c.loop-i.invariant p.name p.sites p.list) in
    let t = c.loop-i-test.true in (
      record { name = p.0.name; sites = p.0.sites; list = list-kept p.0.list w.only p.3; site = (at_element p.0.list w t).element; among = at-among p.0.list w t },
      both.1,
    )

pub overflow_add-l : goal.overflow_add-l
overflow_add-l c =
    let both : (c.args.links + c.loop-i.i < length c.loop-i.work) × (length c.loop-i.work ≤ 32768) = let p = c.requires in (link-below p.0.list ((let p = c.requires.0 in c.loop-i.invariant p.name p.sites p.list)) c.loop-i-test.true, omega (arith, ((let p = c.requires.0 in c.loop-i.invariant p.name p.sites p.list)).only.length, p.1)) in
    omega (arith, both)

pub offset_bounds-work-l : goal.offset_bounds-work-l
offset_bounds-work-l c =
    let both : (c.args.links + c.loop-i.i < length c.loop-i.work) × (length c.loop-i.work ≤ 32768) = let p = c.requires in (link-below p.0.list ((let p = c.requires.0 in c.loop-i.invariant p.name p.sites p.list)) c.loop-i-test.true, omega (arith, ((let p = c.requires.0 in c.loop-i.invariant p.name p.sites p.list)).only.length, p.1)) in
    omega (arith, both)

pub bounds-work-l : goal.bounds-work-l
bounds-work-l c =
    let both : (c.args.links + c.loop-i.i < length c.loop-i.work) × (length c.loop-i.work ≤ 32768) = let p = c.requires in (link-below p.0.list ((let p = c.requires.0 in c.loop-i.invariant p.name p.sites p.list)) c.loop-i-test.true, omega (arith, ((let p = c.requires.0 in c.loop-i.invariant p.name p.sites p.list)).only.length, p.1)) in
    (both).0

pub next_site-next-requires : goal.next_site-next-requires
next_site-next-requires c = let p = c.requires.0 in link-below p.list (c.loop-i.invariant p.name p.sites p.list) c.loop-i-test.true

pub packed-requires : goal.packed-requires
packed-requires c =
    let ListAtHere : Name → List Held → Type 0 = λ f sites. ListAt c.args.b.now c.args.work.now c.args.calls c.args.links c.args.n c.args.head f sites in
    let first : (f : Name) (sites : List Held) (l : ListAtHere f sites) → First (is_repeat f (at_element l (c.loop-i.invariant f sites l) c.loop-i-test.true).element) 0 sites c.first_alike-c.result = λ f sites l. let w = c.loop-i.invariant f sites l in
    let t = c.loop-i-test.true in
    c.first_alike-c.ensures f sites (at_element l w t).element (list-kept l w.only c.requires.3) (at-among l w t) in
    let below : c.first_alike-c.result ≤ 8191 = let p = c.requires in omega (
      arith,
      (first p.0.name p.0.sites p.0.list).within,
      p.0.list.count,
      p.2,
    ) in
    (c.next_site-next.ensures.1, omega (arith, below))

pub loop-i-smaller : goal.loop-i-smaller
loop-i-smaller c =
    let p = c.requires.0 in
    omega (arith, c.loop-i-test.true, c.next_site-next.ensures.0, (at_next p.list (c.loop-i.invariant p.name p.sites p.list) c.loop-i-test.true).later)

pub loop-i-preserved : goal.loop-i-preserved
loop-i-preserved c =
    let ListAtHere : Name → List Held → Type 0 = λ f sites. ListAt c.args.b.now c.args.work.now c.args.calls c.args.links c.args.n c.args.head f sites in
    let first : (f : Name) (sites : List Held) (l : ListAtHere f sites) → First (is_repeat f (at_element l (c.loop-i.invariant f sites l) c.loop-i-test.true).element) 0 sites c.first_alike-c.result = λ f sites l. let w = c.loop-i.invariant f sites l in
    let t = c.loop-i-test.true in
    c.first_alike-c.ensures f sites (at_element l w t).element (list-kept l w.only c.requires.3) (at-among l w t) in
    λ f sites l.
    let n = c.next_site-next.ensures.0 in
    subst (Classing f sites c.args.work.now (set c.loop-i.work (c.args.links + c.loop-i.i) c.packed.result) c.args.links) (sym n)
    (classing-next l (c.loop-i.invariant f sites l) c.loop-i-test.true c.first_alike-c.result c.packed.result (c.packed.ensures.0 ∙ n) c.packed.ensures.1 (first f sites l))

pub shape_of-work : goal.shape_of-work
shape_of-work c = ((let p = c.requires.0 in c.loop-i.invariant p.name p.sites p.list)).only.length

pub returns : goal.returns
returns c = record { classed = λ f sites l. classing_end l (c.loop-i.invariant f sites l) c.loop-i-test.false; others = λ f sites l. (c.loop-i.invariant f sites l).only }
