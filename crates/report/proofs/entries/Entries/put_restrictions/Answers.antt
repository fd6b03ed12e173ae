use Prim.Native.Nat.{suc}
use native.Mathlib.Omega.{arith}
use mathlib.Core.Bool.{true}
use mathlib.Core.List.{flat_map}
use mathlib.Core.Path.{ap, sym, ◌∙◌}
use lib.ListN.{drop}
use Rattle.cleaning.proofs.Meeting.{here_element, here-listed, on-next}
use Rattle.cleaning.proofs.Walking.{head_first}
use Rattle.told.specs.History.{is_there}
use Rattle.cleaning.specs.Indexed.{fell_of}
use Rattle.told.specs.Numbered.{sites_of}
use Rattle.report.proofs.Places.{function_of}
use Rattle.report.proofs.Leaders.{leading_end, leading_next, leading_restrictions, leading_text, next-listed}
use Rattle.report.specs.Leading.{angled_after, angled_if, is_leading, leading_from}
use Rattle.text.proofs.Written.{written-nothing, both, same}
use Rattle.report.proofs.entries.Entries.put_restrictions.Goals as goal

pub links-links-requires : goal.links-links-requires
links-links-requires c = let d = c.requires.0.readable.indexed in (omega (arith, d.fits, d.small), omega (arith, d.fits, d.small), omega (arith, d.fits, d.small))

pub head_site-i-requires : goal.head_site-i-requires
head_site-i-requires c = let d = c.requires.0.readable.indexed in omega (arith, d.fits, c.requires.1)

pub loop-i-init : goal.loop-i-init
loop-i-init c = (
  omega arith,
  λ w x d e.
      let g = head_first d.indexed c.args.f x e true c.head_site-i.result c.head_site-i.ensures.0 in (
        record { within = g.within; listed = g.found },
        λ o h. same c.args.out.now (ap (flat_map angled_after) (sym (leading_restrictions (is_there (fell_of c.args.self.now.plan c.args.self.now.work.now) c.args.round) x.name (sites_of w) ∙ leading_next (is_there (fell_of c.args.self.now.plan c.args.self.now.work.now) c.args.round) x.name (sites_of w) 0 c.head_site-i.result g))) h,
      ),
)

pub put_if_leads-requires : goal.put_if_leads-requires
put_if_leads-requires c =
    let p = c.requires.0 in
    let d = p.readable.indexed in
    let x = function_of p.readable c.args.f c.requires.1 in
    let o = (c.loop-i.invariant.1 p.program x.element p.readable x.is).0 in
    let y = here_element d c.args.f x.element x.is c.loop-i.i o c.loop-i-test.true in (
      record {
        program = p.program;
        readable = p.readable;
        place = c.args.f;
        function = x.element;
        is = x.is;
        site = y.element;
        at = y.is;
        listed = here-listed d c.args.f x.element x.is c.loop-i.i o c.loop-i-test.true;
      },
      omega (arith, c.loop-i.invariant.0, c.loop-i-test.true, d.fits, d.small, c.requires.2),
    )

pub next_site-i-requires : goal.next_site-i-requires
next_site-i-requires c = let d = c.requires.0.readable.indexed in omega (arith, d.fits, c.loop-i-test.true, c.links-links.ensures)

pub loop-i-smaller : goal.loop-i-smaller
loop-i-smaller c =
    let p = c.requires.0 in
    let x = function_of p.readable c.args.f c.requires.1 in
    let o = (c.loop-i.invariant.1 p.program x.element p.readable x.is).0 in
    let n = on-next p.readable.indexed c.args.f x.element x.is c.loop-i.i o c.loop-i-test.true c.next_site-i.result (rw c.links-links.ensures at c.next_site-i.ensures.0) in
    omega (arith, c.loop-i-test.true, n.1)

pub loop-i-preserved : goal.loop-i-preserved
loop-i-preserved c =
    let p = c.requires.0 in
    let f = function_of p.readable c.args.f c.requires.1 in
    let o = (c.loop-i.invariant.1 p.program f.element p.readable f.is).0 in
    let next = rw c.links-links.ensures at c.next_site-i.ensures.0 in
    let later = on-next p.readable.indexed c.args.f f.element f.is c.loop-i.i o c.loop-i-test.true c.next_site-i.result next in (
      omega (arith, later.1, c.loop-i.invariant.0, c.put_if_leads.ensures.short),
      λ w x d e.
          let k = (is_there (fell_of c.args.self.now.plan c.args.self.now.work.now) c.args.round) in
          let i = c.loop-i.i in
          let v = c.loop-i.invariant.1 w x d e in
          let y = here_element d.indexed c.args.f x e i v.0 c.loop-i-test.true in
          let l = here-listed d.indexed c.args.f x e i v.0 c.loop-i-test.true in
          let n = next-listed d.indexed c.args.f x e i v.0 c.loop-i-test.true c.next_site-i.result next in (
            (on-next d.indexed c.args.f x e i v.0 c.loop-i-test.true c.next_site-i.result next).0,
            λ o h.
                v.1 o
                (same c.loop-i.out (sym (leading_text k x.name (sites_of w) i y.element y.is))
                (both _ (angled_if (is_leading k x.name (sites_of w) i y.element) y.element.site.argument) (flat_map angled_after (leading_from k x.name (sites_of w) (suc i) (drop (suc i) (sites_of w))))
                (c.put_if_leads.ensures.written w c.args.f x y.element d e y.is l)
                (same c.put_if_leads.new.out (ap (flat_map angled_after) (sym (leading_next k x.name (sites_of w) (suc i) c.next_site-i.result n))) h))),
          ),
    )

pub returns : goal.returns
unfolding flat_map
returns c = record {
  written = λ w x d e.
      let v = c.loop-i.invariant.1 w x d e in
      v.1 c.loop-i.out
      (same c.loop-i.out (ap (flat_map angled_after) (sym (leading_end (is_there (fell_of c.args.self.now.plan c.args.self.now.work.now) c.args.round) x.name (sites_of w) c.loop-i.i (omega (arith, d.indexed.sites, c.loop-i-test.false))))) (written-nothing c.loop-i.out));
  short =
      let p = c.requires.0 in
      let d = p.readable.indexed in
      let x = function_of p.readable c.args.f c.requires.1 in
      omega (arith, c.loop-i.invariant.0, (c.loop-i.invariant.1 p.program x.element p.readable x.is).0.within, d.sites, d.fits, d.small);
}
