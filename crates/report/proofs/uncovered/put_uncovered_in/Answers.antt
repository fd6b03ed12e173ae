use Prim.Native.Nat.{ℕ, suc, ◌+◌}
use native.Mathlib.Omega.{arith}
use mathlib.Core.Path.{◌≡◌, ap}
use mathlib.Core.Bool.{Bool, true}
use mathlib.Core.Option.{some}
use lib.ListN.{get_or, get_elem?}
use Rattle.program.specs.Syntax.{Function, Program}
use Rattle.index.specs.Layout.{links}
use Rattle.index.specs.First.{First}
use Rattle.told.specs.Calls.{is_listed}
use Rattle.index.specs.Links.{entry_next}
use Rattle.told.specs.Numbered.{sentences_before, sites_of}
use Rattle.told.specs.History.{is_there, after_all}
use Rattle.cleaning.specs.Indexed.{fell_of}
use Rattle.cleaning.proofs.Meeting.{site_element}
use Rattle.cleaning.proofs.Room.{used_same, used_then}
use Rattle.cleaning.proofs.Walking.{head_first}
use Rattle.report.specs.Emitting.{Readable}
use Rattle.report.proofs.Leaders.{next-listed}
use Rattle.report.proofs.Places.{function_of}
use Rattle.report.proofs.RoomUsed.{used_back, used_keep, used_next, used_readable}
use Rattle.report.specs.Uncovered.{uncovered_named, uncovered_at}
use Rattle.report.proofs.Telling.{listing-same}
use Rattle.report.proofs.UncoveredLoops.{sites-first, sites-next, sites-end}
use Rattle.report.proofs.uncovered.put_uncovered_in.Goals as goal

pub links-links-requires : goal.links-links-requires
links-links-requires c = let d = c.requires.0.readable.indexed in (omega (arith, d.fits, d.small), omega (arith, d.fits, d.small), omega (arith, d.fits, d.small))

pub head_site-i-requires : goal.head_site-i-requires
head_site-i-requires c = let d = c.requires.0.readable.indexed in omega (arith, d.fits, c.requires.1)

pub loop-i-init : goal.loop-i-init
loop-i-init c =
    let l = c.args.listed in (
      λ w x d e. sites-first ((is_there (fell_of c.args.plan c.args.work.now) after_all)) c.args.b.now w x (sentences_before c.args.f w.functions) c.head_site-i.result (head_first d.indexed c.args.f x e true c.head_site-i.result c.head_site-i.ensures.0) c.args.out.now l.count l.last,
      c.requires.4,
      used_same,
    )

pub put_if_uncovered-told-requires : goal.put_if_uncovered-told-requires
put_if_uncovered-told-requires c =
    let p = c.requires.0 in
    let x = (function_of c.requires.0.readable c.args.f c.requires.1) in
    let h = c.loop-i.invariant in
    let i = h.0 p.program x.element p.readable x.is in
    let y = site_element p.readable.indexed c.args.f x.element x.is c.loop-i.i c.loop-i-test.true in (
      record { program = p.program; readable = used_readable h.2 p.readable; place = c.args.f; function = x.element; is = x.is; site = y.element; at = y.is; listed = i.listed y.element y.is },
      c.requires.1,
      λ w d.
          let e = used_readable (used_back h.2) d in
          let u = function_of e c.args.f c.requires.1 in
          let z = c.requires.2 w e in
          (_, (h.0 w u.element e u.is).told.is z.0 z.1),
      omega (arith, i.short, c.loop-i-test.true, p.readable.indexed.fits, p.readable.indexed.small, c.requires.3),
      h.1,
    )

pub next_site-i-requires : goal.next_site-i-requires
next_site-i-requires c = let d = c.requires.0.readable.indexed in omega (arith, d.fits, c.loop-i-test.true, c.links-links.ensures, c.loop-i.invariant.2.length, c.put_if_uncovered-told.ensures.keeps.length)

pub loop-i-smaller : goal.loop-i-smaller
loop-i-smaller c =
    let ReadableHere : Program → Type 0 = λ w. Readable c.args.b.now w c.args.work.now c.args.plan in
    let same : let a = c.args in c.next_site-i.result ≡ entry_next (get_or a.work.now (links a.plan + c.loop-i.i) 0) = used_next (used_then c.loop-i.invariant.2 c.put_if_uncovered-told.ensures.keeps) c.links-links.result c.loop-i.i c.links-links.ensures c.loop-i-test.true c.next_site-i.result c.next_site-i.ensures.0 in
    let first : (w : Program) (x : Function) → ReadableHere w → get_elem? w.functions c.args.f ≡ some x → First (is_listed true x.name) (suc c.loop-i.i) (sites_of w) c.next_site-i.result = λ w x d e. let i = c.loop-i.invariant.0 w x d e in
    next-listed d.indexed c.args.f x e c.loop-i.i (record { within = i.within; listed = i.listed }) c.loop-i-test.true c.next_site-i.result same in
    let x = (function_of c.requires.0.readable c.args.f c.requires.1) in
    omega (
      arith,
      c.loop-i-test.true,
      (first c.requires.0.program x.element c.requires.0.readable x.is).later,
    )

pub loop-i-preserved : goal.loop-i-preserved
loop-i-preserved c =
    let ReadableHere : Program → Type 0 = λ w. Readable c.args.b.now w c.args.work.now c.args.plan in
    let same : let a = c.args in c.next_site-i.result ≡ entry_next (get_or a.work.now (links a.plan + c.loop-i.i) 0) = used_next (used_then c.loop-i.invariant.2 c.put_if_uncovered-told.ensures.keeps) c.links-links.result c.loop-i.i c.links-links.ensures c.loop-i-test.true c.next_site-i.result c.next_site-i.ensures.0 in
    let first : (w : Program) (x : Function) → ReadableHere w → get_elem? w.functions c.args.f ≡ some x → First (is_listed true x.name) (suc c.loop-i.i) (sites_of w) c.next_site-i.result = λ w x d e. let i = c.loop-i.invariant.0 w x d e in
    next-listed d.indexed c.args.f x e c.loop-i.i (record { within = i.within; listed = i.listed }) c.loop-i-test.true c.next_site-i.result same in
    let u = c.loop-i.invariant.2 in (
      λ w x d e.
          let i = c.loop-i.invariant.0 w x d e in
          let y = site_element d.indexed c.args.f x e c.loop-i.i c.loop-i-test.true in
          sites-next ((is_there (fell_of c.args.plan c.args.work.now) after_all)) c.args.b.now w x (sentences_before c.args.f w.functions) i y.element y.is
          (listing-same uncovered_named (ap (λ (k : ℕ → Bool). uncovered_at k (sites_of w) x (sentences_before c.args.f w.functions) c.loop-i.i y.element) (used_keep u after_all)) (c.put_if_uncovered-told.ensures.told w x y.element (used_readable u d) e y.is (i.listed y.element y.is)))
          c.put_if_uncovered-told.ensures.short.0 c.next_site-i.result (first w x d e),
      c.put_if_uncovered-told.ensures.short.1,
      used_then u c.put_if_uncovered-told.ensures.keeps,
    )

pub shape_of-work : goal.shape_of-work
shape_of-work c = c.loop-i.invariant.2.length

pub returns : goal.returns
returns c = let p = c.requires.0 in let x = (function_of c.requires.0.readable c.args.f c.requires.1) in let h = c.loop-i.invariant in let i = h.0 p.program x.element p.readable x.is in record { told = λ w u d e. sites-end ((is_there (fell_of c.args.plan c.args.work.now) after_all)) c.args.b.now w u (sentences_before c.args.f w.functions) (h.0 w u d e) (omega (arith, c.loop-i-test.false, d.indexed.sites)); short = (omega (arith, i.short, i.within, p.readable.indexed.sites, p.readable.indexed.fits, p.readable.indexed.small), h.1); keeps = h.2 }
