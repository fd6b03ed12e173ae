use Prim.Native.Nat.{ℕ, ◌+◌, ◌<◌}
use native.Mathlib.Omega.{arith}
use mathlib.Core.Path.{◌≡◌, ap, subst, ◌∙◌}
use mathlib.Core.Option.{some}
use lib.ListN.{get_or, get_elem?, drop}
use Rattle.program.specs.Limits.{Mode}
use Rattle.image.specs.Parts.{TermsAt}
use Rattle.program.specs.Syntax.{Function, Program}
use Rattle.index.specs.Layout.{links}
use Rattle.index.specs.Links.{entry_next}
use Rattle.told.specs.History.{is_there}
use Rattle.told.specs.Numbered.{sites_of}
use Rattle.cleaning.specs.Indexed.{Indexed, fell_of}
use Rattle.cleaning.specs.Room.{Used}
use Rattle.cleaning.specs.Walks.{OnList, MetAt}
use Rattle.cleaning.proofs.Meeting.{here_element, here-listed, on-next, met-found, met_next, met-end, met_start}
use Rattle.index.proofs.First.{none_from}
use Rattle.cleaning.proofs.Room.{used_same, used_then, used_indexed, used_fell}
use Rattle.cleaning.proofs.walks.meeting_from.Goals as goal

pub links-links-requires : goal.links-links-requires
links-links-requires c = let d = c.requires.0.indexed in (omega (arith, d.fits, d.small), omega (arith, d.fits, d.small), omega (arith, d.fits, d.small))

pub loop-j-init : goal.loop-j-init
loop-j-init c = (
  used_same,
  λ w f x d e o. (o, λ t none. met_start ((is_there (fell_of c.args.plan c.args.work.now) c.args.round)) x.name t.terms (sites_of w) c.args.i o none),
)

pub is_met-requires : goal.is_met-requires
is_met-requires c =
    let p = c.requires.0 in
    let o = (let p = c.requires.0 in (c.loop-j.invariant.1 p.program p.place p.function p.indexed p.is p.listed).0) in
    let l = c.loop-j in
    let h = c.loop-j-test.true in
    let y = here_element p.indexed p.place p.function p.is l.j o h in (
      record {
        program = p.program;
        indexed = used_indexed l.invariant.0 p.indexed;
        place = p.place;
        function = p.function;
        is = p.is;
        site = y.element;
        at = y.is;
        listed = here-listed p.indexed p.place p.function p.is l.j o h;
        reading = p.reading;
      },
      c.requires.1,
    )

pub shape_of-work-then-is_met : goal.shape_of-work-then-is_met
shape_of-work-then-is_met c =
    let used : let a = c.args in Used a.plan a.work.now c.is_met.new.work = used_then c.loop-j.invariant.0 c.is_met.ensures.keeps in
    (used).length

pub returns-then-is_met : goal.returns-then-is_met
returns-then-is_met c =
    let met_at : (w : Program) (f : ℕ) (x : Function) → (d : Indexed c.args.b.now w c.args.work.now c.args.plan) (e : get_elem? w.functions f ≡ some x) (o : OnList x.name (sites_of w) c.loop-j.j) (t : TermsAt Mode.pattern (drop c.args.pattern c.args.b.now)) → MetAt ((is_there (fell_of c.args.plan c.args.work.now) c.args.round)) x.name t.terms (sites_of w) c.loop-j.j (here_element d f x e c.loop-j.j o c.loop-j-test.true).element c.is_met.result = λ w f x d e o t. let j = c.loop-j.j in
    let h = c.loop-j-test.true in
    let u = c.loop-j.invariant.0 in
    let y = here_element d f x e j o h in
    subst (λ (fell : ℕ → ℕ). MetAt (is_there fell c.args.round) x.name t.terms (sites_of w) j y.element c.is_met.result) (used_fell u)
    (c.is_met.ensures.met w f x y.element (used_indexed u d) e y.is (here-listed d f x e j o h) t) in
    let used : let a = c.args in Used a.plan a.work.now c.is_met.new.work = used_then c.loop-j.invariant.0 c.is_met.ensures.keeps in
    record {
      met = λ w f x d e o t none.
          let i = c.loop-j.invariant.1 w f x d e o in
          (met-found d f x e c.loop-j.j i.0 c.loop-j-test.true ((is_there (fell_of c.args.plan c.args.work.now) c.args.round)) t.terms c.is_met.result (met_at w f x d e i.0 t) (i.1 t none) c.if-is_met.true, omega (arith, c.loop-j-test.true, d.sites));
      keeps = used;
    }

pub next_site-j-requires : goal.next_site-j-requires
next_site-j-requires c =
    let used : let a = c.args in Used a.plan a.work.now c.is_met.new.work = used_then c.loop-j.invariant.0 c.is_met.ensures.keeps in
    let d = c.requires.0.indexed in omega (arith, d.fits, c.loop-j-test.true, c.links-links.ensures, used.length)

pub loop-j-smaller : goal.loop-j-smaller
loop-j-smaller c =
    let used : let a = c.args in Used a.plan a.work.now c.is_met.new.work = used_then c.loop-j.invariant.0 c.is_met.ensures.keeps in
    let same : let a = c.args in c.next_site-j.result ≡ entry_next (get_or a.work.now (links a.plan + c.loop-j.j) 0) = let a = c.args in
    let j = c.loop-j.j in
    let u = used in
    let h : j < a.plan.sites = c.loop-j-test.true in
    c.next_site-j.ensures.0
    ∙ ap (λ (k : ℕ). entry_next (get_or c.is_met.new.work (k + j) 0)) c.links-links.ensures
    ∙ ap entry_next (u.columns (links a.plan + j) (omega (arith, h))) in
    let p = c.requires.0 in
    let t = c.loop-j-test.true in
    let n = on-next p.indexed p.place p.function p.is c.loop-j.j ((let p = c.requires.0 in (c.loop-j.invariant.1 p.program p.place p.function p.indexed p.is p.listed).0)) t c.next_site-j.result same in
    omega (arith, t, n.1)

pub loop-j-preserved : goal.loop-j-preserved
loop-j-preserved c =
    let used : let a = c.args in Used a.plan a.work.now c.is_met.new.work = used_then c.loop-j.invariant.0 c.is_met.ensures.keeps in
    let same : let a = c.args in c.next_site-j.result ≡ entry_next (get_or a.work.now (links a.plan + c.loop-j.j) 0) = let a = c.args in
    let j = c.loop-j.j in
    let u = used in
    let h : j < a.plan.sites = c.loop-j-test.true in
    c.next_site-j.ensures.0
    ∙ ap (λ (k : ℕ). entry_next (get_or c.is_met.new.work (k + j) 0)) c.links-links.ensures
    ∙ ap entry_next (u.columns (links a.plan + j) (omega (arith, h))) in
    let met_at : (w : Program) (f : ℕ) (x : Function) → (d : Indexed c.args.b.now w c.args.work.now c.args.plan) (e : get_elem? w.functions f ≡ some x) (o : OnList x.name (sites_of w) c.loop-j.j) (t : TermsAt Mode.pattern (drop c.args.pattern c.args.b.now)) → MetAt ((is_there (fell_of c.args.plan c.args.work.now) c.args.round)) x.name t.terms (sites_of w) c.loop-j.j (here_element d f x e c.loop-j.j o c.loop-j-test.true).element c.is_met.result = λ w f x d e o t. let j = c.loop-j.j in
    let h = c.loop-j-test.true in
    let u = c.loop-j.invariant.0 in
    let y = here_element d f x e j o h in
    subst (λ (fell : ℕ → ℕ). MetAt (is_there fell c.args.round) x.name t.terms (sites_of w) j y.element c.is_met.result) (used_fell u)
    (c.is_met.ensures.met w f x y.element (used_indexed u d) e y.is (here-listed d f x e j o h) t) in (
      used,
      λ w f x d e o.
          let i = c.loop-j.invariant.1 w f x d e o in
          let j = c.loop-j.j in
          let h = c.loop-j-test.true in (
            (on-next d f x e j i.0 h c.next_site-j.result same).0,
            λ t none. met_next d f x e j i.0 h ((is_there (fell_of c.args.plan c.args.work.now) c.args.round)) t.terms c.is_met.result (met_at w f x d e i.0 t) (i.1 t none) c.if-is_met.false c.next_site-j.result same,
          ),
    )

pub shape_of-work : goal.shape_of-work
shape_of-work c = c.loop-j.invariant.0.length

pub returns : goal.returns
returns c = record { met = λ w f x d e o t none. none_from (met-end d f x e ((is_there (fell_of c.args.plan c.args.work.now) c.args.round)) t.terms c.loop-j.j ((c.loop-j.invariant.1 w f x d e o).1 t none) c.loop-j-test.false) (omega (arith, c.loop-j-test.false, d.sites)); keeps = c.loop-j.invariant.0 }
