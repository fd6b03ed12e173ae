use Prim.Native.Nat.{ℕ, ◌+◌}
use native.Mathlib.Omega.{arith}
use mathlib.Core.Path.{◌≡◌, sym, ap, ◌∙◌}
use lib.ListN.{get_or}
use Rattle.index.specs.Layout.{links}
use Rattle.index.specs.Links.{entry_next}
use Rattle.told.specs.History.{is_there}
use Rattle.cleaning.specs.Indexed.{fell_of}
use Rattle.index.proofs.First.{none_from}
use Rattle.cleaning.proofs.Walking.{there-first, there-end, there-below, there-found, there-next}
use Rattle.cleaning.proofs.walks.first_there.Goals as goal

pub links-links-requires : goal.links-links-requires
links-links-requires c = let w = c.requires.walkable in (omega (arith, w.fits, w.small), omega (arith, w.fits, w.small), omega (arith, w.fits, w.small))

pub loop-j-init : goal.loop-j-init
loop-j-init c = λ kind f sites q w b. there-first w ((is_there (fell_of c.args.plan c.args.work.now) c.args.round)) b

pub site_there-requires : goal.site_there-requires
site_there-requires c =
    let w = c.requires.walkable in
    (c.loop-j-test.true, there-below w ((is_there (fell_of c.args.plan c.args.work.now) c.args.round)) ((let p = c.requires in c.loop-j.invariant p.kind p.name p.sites p.from p.walkable p.begins)) c.loop-j-test.true, (w.fits, w.small))

pub returns-then-site_there : goal.returns-then-site_there
returns-then-site_there c = λ kind f sites q w b. (there-found w ((is_there (fell_of c.args.plan c.args.work.now) c.args.round)) (c.loop-j.invariant kind f sites q w b) c.loop-j-test.true (sym c.site_there.ensures ∙ c.if-site_there.true), omega (arith, c.loop-j-test.true, w.count))

pub next_site-j-requires : goal.next_site-j-requires
next_site-j-requires c = let w = c.requires.walkable in omega (arith, w.fits, c.loop-j-test.true, c.links-links.ensures)

pub loop-j-smaller : goal.loop-j-smaller
loop-j-smaller c =
    let same : let a = c.args in c.next_site-j.result ≡ entry_next (get_or a.work.now (links a.plan + c.loop-j.j) 0) = let a = c.args in
    c.next_site-j.ensures.0 ∙ ap (λ (k : ℕ). entry_next (get_or a.work.now (k + c.loop-j.j) 0)) c.links-links.ensures in
    let w = c.requires.walkable in
    let t = c.loop-j-test.true in
    let n = there-next w ((is_there (fell_of c.args.plan c.args.work.now) c.args.round)) ((let p = c.requires in c.loop-j.invariant p.kind p.name p.sites p.from p.walkable p.begins)) t (sym c.site_there.ensures ∙ c.if-site_there.false) c.next_site-j.result same in
    omega (arith, t, n.1)

pub loop-j-preserved : goal.loop-j-preserved
loop-j-preserved c =
    let same : let a = c.args in c.next_site-j.result ≡ entry_next (get_or a.work.now (links a.plan + c.loop-j.j) 0) = let a = c.args in
    c.next_site-j.ensures.0 ∙ ap (λ (k : ℕ). entry_next (get_or a.work.now (k + c.loop-j.j) 0)) c.links-links.ensures in
    λ kind f sites q w b.
    (there-next w ((is_there (fell_of c.args.plan c.args.work.now) c.args.round)) (c.loop-j.invariant kind f sites q w b) c.loop-j-test.true (sym c.site_there.ensures ∙ c.if-site_there.false) c.next_site-j.result same).0

pub returns : goal.returns
returns c = λ kind f sites q w b. none_from (there-end w ((is_there (fell_of c.args.plan c.args.work.now) c.args.round)) (c.loop-j.invariant kind f sites q w b) c.loop-j-test.false) (omega (arith, c.loop-j-test.false, w.count))
