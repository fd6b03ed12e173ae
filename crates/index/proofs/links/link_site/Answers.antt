-- `index::links::link_site` meets its contract. Assumes nothing.
use Prim.Native.Nat.{ℕ, ◌+◌, ◌<◌}
use native.Mathlib.Omega.{arith}
use mathlib.Core.Path.{◌≡◌, subst}
use mathlib.Core.List.{List}
use lib.ListN.{length, drop}
use Rattle.std.specs.Prelude.{Some}
use Rattle.program.specs.Syntax.{Function}
use Rattle.meaning.specs.Sites.{restriction_is_characterisable}
use Rattle.restrictions.specs.Entries.{CallAt}
use Rattle.index.specs.First.{First, FirstFrom}
use Rattle.index.specs.Bucket.{is_named, Filed}
use Rattle.index.specs.Tabled.{Tabled, SomeFiled}
use Rattle.index.specs.Links.{is_plain_list}
use Rattle.index.proofs.Sites.{call-at}
use Rattle.index.proofs.Linked.{linked_none, linked_found}
use Rattle.index.proofs.Preserved.{links-same, pushed-links}
use Rattle.index.proofs.links.link_site.Goals as goal

pub place_of-p-requires : goal.place_of-p-requires
place_of-p-requires c = omega (arith, c.requires.3, c.requires.2.calls_fit, c.requires.2.links_fit, c.requires.2.fits)

pub callee_function-requires : goal.callee_function-requires
callee_function-requires c = (c.requires.0, c.requires.2.small, call-at c.requires.1 c.args.i c.requires.3 c.place_of-p.result c.place_of-p.ensures.0)

pub list_of-kind-requires : goal.list_of-kind-requires
list_of-kind-requires c = call-at c.requires.1 c.args.i c.requires.3 c.place_of-p.result c.place_of-p.ensures.0

-- The function that was found is one of them.
found-below : {b m : List ℕ} {functions at n f : ℕ} {s : List ℕ} (k : SomeFiled b m (record { functions = functions; at = at; buckets = n })) (x : CallAt s) → ((fs : List Function) → Tabled b m functions fs → Filed fs m at (at + functions) n 0 → (y : CallAt s) → FirstFrom (is_named y.callee) 0 fs (Some f)) → f < functions
found-below k x h = omega (arith, (h k.functions k.tabled k.filed x).1, k.tabled.count)

pub overflow_add-h : goal.overflow_add-h
overflow_add-h c =
    let k = c.requires.2 in
    let x = call-at c.requires.1 c.args.i c.requires.3 c.place_of-p.result c.place_of-p.ensures.0 in
    omega (arith, found-below c.requires.0 x c.in-Some.ensures, k.heads_fit, k.calls_fit, k.links_fit, k.fits, k.small)

pub push_site-requires : goal.push_site-requires
push_site-requires c =
    let k = c.requires.2 in
    let x = call-at c.requires.1 c.args.i c.requires.3 c.place_of-p.result c.place_of-p.ensures.0 in
    (omega (arith, found-below c.requires.0 x c.in-Some.ensures, k.heads_fit, k.calls_fit), omega (arith, c.requires.3, k.links_fit, k.fits), k.small, omega (arith, c.requires.3, k.few))

pub returns-in-Some : goal.returns-in-Some
returns-in-Some c =
    let a = c.args in
    let k = c.requires.2 in
    let s = c.push_site.ensures in
    let f = c.in-Some.f in
    let x = call-at c.requires.1 a.i c.requires.3 c.place_of-p.result c.place_of-p.ensures.0 in
    let l = found-below c.requires.0 x c.in-Some.ensures in
    record {
      linked = λ fs held x h d. linked_found k x a.i c.requires.3 h d f
          (subst (λ (p : ℕ). (y : CallAt (drop p a.b.now)) → First (is_named y.callee) 0 fs f) c.place_of-p.ensures.0 (λ y. (c.in-Some.ensures fs x.tabled x.filed y).0))
          l (is_plain_list c.list_of-kind.result)
          (subst (λ (p : ℕ). (y : CallAt (drop p a.b.now)) → is_plain_list c.list_of-kind.result ≡ restriction_is_characterisable y.argument) c.place_of-p.ensures.0 c.list_of-kind.ensures)
          _ s;
      others = pushed-links f a.i s l c.requires.3 (omega (arith, k.heads_fit, k.calls_fit));
    }

pub returns-in_default : goal.returns-in_default
returns-in_default c = record {
  linked = λ fs held x h d.
      let a = c.args in
      linked_none c.requires.2 x a.i c.requires.3 h d (length fs)
      (subst (λ (p : ℕ). (y : CallAt (drop p a.b.now)) → First (is_named y.callee) 0 fs (length fs)) c.place_of-p.ensures.0
      (λ y. c.in_default.ensures fs x.tabled x.filed y))
      (omega (arith, x.tabled.count));
  others = links-same c.args.work.now c.args.filing.functions c.args.links c.args.sites;
}
