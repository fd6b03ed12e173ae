-- `index::links::link_sites` meets its contract. Assumes nothing.
use Prim.Native.Nat.{◌+◌, ◌-◌}
use native.Mathlib.Omega.{arith}
use mathlib.Core.Path.{◌≡◌, subst}
use Rattle.index.specs.Links.{FirstsHeaded, Chained}
use Rattle.index.proofs.Linked.{firsts-none, chained-none}
use Rattle.index.proofs.Preserved.{columns-after, indexed-after, some_filed_after, some_sites_after, links-same, links_then}
use Rattle.index.proofs.links.link_sites.Goals as goal

pub loop-i-init : goal.loop-i-init
loop-i-init c =
    let a = c.args in
    let p = c.requires in
    (links-same a.work.now a.filing.functions a.links a.sites, λ fs held x. (firsts-none fs held a.work.now a.filing.functions a.filing.functions a.sites x.tabled.count x.count p.3, chained-none fs held a.work.now a.links a.sites x.count))

pub link_site-requires : goal.link_site-requires
link_site-requires c =
    let p = c.requires in
    let o = c.loop-i.invariant.0 in
    (some_filed_after p.2 o p.0, some_sites_after p.2 o p.1, columns-after p.2 o, omega (arith, c.loop-i-test.true, c.loop-i.auto.i))

pub loop-i-preserved : goal.loop-i-preserved
loop-i-preserved c =
    let l = c.loop-i in
    let p = c.requires in
    let e : l.i ≡ l.i - 1 + 1 = omega (arith, c.loop-i-test.true) in
    (links_then l.invariant.0 c.link_site.ensures.others, λ fs held x. c.link_site.ensures.linked fs held (indexed-after p.2 l.invariant.0 x) (subst (FirstsHeaded fs held l.work c.args.filing.functions) e (l.invariant.1 fs held x).0) (subst (Chained fs held l.work c.args.links) e (l.invariant.1 fs held x).1))

pub returns : goal.returns
returns c = let l = c.loop-i in let e : l.i ≡ 0 = omega (arith, c.loop-i-test.false) in record { headed = λ fs held x. subst (FirstsHeaded fs held l.work c.args.filing.functions) e (l.invariant.1 fs held x).0; chained = λ fs held x. subst (Chained fs held l.work c.args.links) e (l.invariant.1 fs held x).1; others = l.invariant.0 }
