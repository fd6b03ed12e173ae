-- `cleaning::walks::is_met` meets its contract. Assumes nothing.
use Prim.Native.Nat.{ℕ, ◌+◌, ◌<◌}
use native.Mathlib.Omega.{arith}
use mathlib.Core.Path.{◌≡◌, refl, sym, ap, ◌∙◌}
use lib.ListN.{get_or}
use Rattle.index.specs.Layout.{links}
use Rattle.index.specs.Links.{entry_class}
use Rattle.told.specs.History.{is_there}
use Rattle.cleaning.specs.Indexed.{fell_of}
use Rattle.cleaning.proofs.Meeting.{met_by, site-below, sentence-below, met_gone, met-repeat, met-asked}
use Rattle.overlap.proofs.Verdicts.{not-disjoint}
use Rattle.cleaning.proofs.Room.{used_same}
use Rattle.cleaning.proofs.walks.is_met.Goals as goal

pub site_there-requires : goal.site_there-requires
site_there-requires c =
    let below : c.args.i < c.args.plan.sites = let a = c.requires.0 in site-below a.indexed a.place a.function a.is c.args.i a.site a.at in
    let a = c.requires.0 in
    (below, sentence-below a.indexed a.place a.function a.is c.args.i below, (a.indexed.fits, a.indexed.small))

pub returns-then-not-site_there : goal.returns-then-not-site_there
returns-then-not-site_there c = record { met = λ w f x y d e g l t. met_gone d f x e ((is_there (fell_of c.args.plan c.args.work.now) c.args.round)) t.terms c.args.i y g l (sym c.site_there.ensures ∙ c.if-not-site_there.true); keeps = used_same }

pub links-requires : goal.links-requires
links-requires c = let d = c.requires.0.indexed in (omega (arith, d.fits, d.small), omega (arith, d.fits, d.small), omega (arith, d.fits, d.small))

pub class_of-c-requires : goal.class_of-c-requires
class_of-c-requires c =
    let below : c.args.i < c.args.plan.sites = let a = c.requires.0 in site-below a.indexed a.place a.function a.is c.args.i a.site a.at in
    let d = c.requires.0.indexed in omega (arith, d.fits, d.small, c.links.ensures, below)

pub site_there-requires-then-c-i : goal.site_there-requires-then-c-i
site_there-requires-then-c-i c =
    let below : c.args.i < c.args.plan.sites = let a = c.requires.0 in site-below a.indexed a.place a.function a.is c.args.i a.site a.at in
    let a = c.requires.0 in
    let k = c.class_of-c.result in
    let h : k < c.args.plan.sites = omega (arith, below, c.if-c-i.true) in
    (h, sentence-below a.indexed a.place a.function a.is k h, (a.indexed.fits, a.indexed.small))

pub returns-then-site_there : goal.returns-then-site_there
returns-then-site_there c =
    let same : let a = c.args in c.class_of-c.result ≡ entry_class (get_or a.work.now (links a.plan + a.i) 0) = let a = c.args in
    c.class_of-c.ensures.0 ∙ ap (λ (k : ℕ). entry_class (get_or a.work.now (k + a.i) 0)) c.links.ensures in
    record {
      met = λ w f x y d e g l t. met-repeat d f x e ((is_there (fell_of c.args.plan c.args.work.now) c.args.round)) t.terms c.args.i y g l c.class_of-c.result same c.if-c-i.true (sym c.site_there-then-c-i.ensures ∙ c.if-site_there.true);
      keeps = used_same;
    }

pub verdict_at-requires : goal.verdict_at-requires
verdict_at-requires c = c.requires

pub shape_of-work : goal.shape_of-work
shape_of-work c = c.verdict_at.ensures.keeps.length

pub returns : goal.returns
returns c = let h = c.site_there in record {
  met = λ w f x y d e g l t.
      met-asked d f x e ((is_there (fell_of c.args.plan c.args.work.now) c.args.round)) t.terms c.args.i y g l (sym h.ensures ∙ c.if-not-site_there.false) c.ne.result
      (met_by t.terms y c.verdict_at.result (c.verdict_at.ensures.answers w f x y d e g l t) _ refl ∙ sym (c.ne.ensures ∙ not-disjoint c.verdict_at.result));
  keeps = c.verdict_at.ensures.keeps;
}
