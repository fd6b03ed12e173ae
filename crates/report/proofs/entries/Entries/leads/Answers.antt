-- `report::entries::Entries::leads` meets its contract. Assumes nothing.
use borrow.Author.Tests.{eq-eqb}
use Prim.Native.Nat.{◌+◌, ◌<◌, ℕ}
use native.Mathlib.Omega.{arith}
use mathlib.Core.Bool.{true, not}
use mathlib.Core.List.{List}
use mathlib.Core.Option.{some}
use mathlib.Core.Path.{ap, sym, ◌∙◌, ◌≡◌}
use lib.ListN.{get_or, get_elem?}
use Rattle.program.specs.Syntax.{Function, Program}
use Rattle.told.specs.Numbered.{Held, sites_of}
use Rattle.told.specs.Calls.{is_listed}
use Rattle.report.specs.Emitting.{Readable}
use Rattle.report.specs.Leading.{is_leading, SomeListed}
use Rattle.report.specs.Notes.{stands_in}
use Rattle.cleaning.proofs.Meeting.{sentence-below, site-below}
use Rattle.told.specs.History.{is_there}
use Rattle.cleaning.specs.Indexed.{fell_of}
use Rattle.index.specs.declared.Plan.{Plan}
use Rattle.index.specs.Layout.{calls, links, notes}
use Rattle.index.specs.Links.{entry_class}
use Rattle.report.proofs.Leaders.{leads_gone, leads_first, leads_unless}
use Rattle.report.proofs.SiteNotes.{stands_never, stands_until}
use Rattle.restrictions.specs.Entries.{entry_sentence}
use Rattle.report.proofs.entries.Entries.leads.Goals as goal

-- The site is one of the plan's.
below-sites : {m : List ℕ} {p : Plan} {i : ℕ} → SomeListed m p i → i < p.sites
below-sites {i = i} a = site-below a.indexed a.place a.function a.is i a.site a.at

-- A site that is there and does not begin its class leads unless its note says that an earlier one stands.
leads_noted : {b m : List ℕ} {w : Program} {p : Plan} (f i : ℕ) {x : Function} {y : Held} → Readable b w m p → get_elem? w.functions f ≡ some x → get_elem? (sites_of w) i ≡ some y → is_listed true x.name y ≡ true
    → (r : ℕ) → is_there (fell_of p m) r (entry_sentence (get_or m (calls p + i) 0)) ≡ true → entry_class (get_or m (links p + i) 0) < i
    → not (stands_in (get_or m (notes p + i) 0) r) ≡ is_leading (is_there (fell_of p m) r) x.name (sites_of w) i y
leads_noted {m = m} {p = p} f i {x} {y} d e g l r t h =
    leads_unless d.indexed f x e (is_there (fell_of p m) r) i y g l t (stands_in (get_or m (notes p + i) 0) r) ((d.noted.list f x e).earlier i y (record { is = g; listed = l }) h r)

pub site_there-requires : goal.site_there-requires
site_there-requires c =
    let a = c.requires in
    (below-sites a, sentence-below a.indexed a.place a.function a.is c.args.i (below-sites a), (a.indexed.fits, a.indexed.small))

pub returns-then-not-site_there : goal.returns-then-not-site_there
returns-then-not-site_there c = λ b w f x y d e g l. leads_gone d.indexed f x e (is_there (fell_of c.args.self.now.plan c.args.self.now.work.now) c.args.round) c.args.i y g l (sym c.site_there.ensures ∙ c.if-not-site_there.true)

pub links-requires : goal.links-requires
links-requires c = let d = c.requires.indexed in (omega (arith, d.fits, d.small), omega (arith, d.fits, d.small), omega (arith, d.fits, d.small))

pub class_of-requires : goal.class_of-requires
class_of-requires c = omega (arith, c.requires.indexed.fits, c.links.ensures, below-sites c.requires)

pub returns-then-i-class_of : goal.returns-then-i-class_of
returns-then-i-class_of c = λ b w f x y d e g l.
    leads_first d.indexed f x e (is_there (fell_of c.args.self.now.plan c.args.self.now.work.now) c.args.round) c.args.i y g l
    c.class_of.result (rw c.links.ensures at c.class_of.ensures.0) c.if-i-class_of.true (sym c.site_there.ensures ∙ c.if-not-site_there.false)

pub notes-requires : goal.notes-requires
notes-requires c = let d = c.requires.indexed in (omega (arith, d.fits, d.small), omega (arith, d.fits, d.small), omega (arith, d.fits, d.small))

pub overflow_add-k : goal.overflow_add-k
overflow_add-k c = let d = c.requires.indexed in omega (arith, d.fits, d.small, c.notes.ensures, below-sites c.requires)

pub offset_bounds-self-k : goal.offset_bounds-self-k
offset_bounds-self-k c = let d = c.requires.indexed in omega (arith, d.fits, d.small, c.notes.ensures, below-sites c.requires)

pub bounds-self-k : goal.bounds-self-k
bounds-self-k c = let d = c.requires.indexed in omega (arith, d.fits, c.notes.ensures, below-sites c.requires)

pub returns-else-last-ne0 : goal.returns-else-last-ne0
returns-else-last-ne0 c = λ b w f x y d e g l.
    let k = rw c.links.ensures at c.class_of.ensures.0 in
    ap not (eq-eqb _ 0 c.if-last-ne0.false)
    ∙ (ap not (sym (stands_never _ c.args.round (rw c.notes.ensures at c.if-last-ne0.false))) ∙ leads_noted f c.args.i d e g l c.args.round (sym c.site_there.ensures ∙ c.if-not-site_there.false) (omega (arith, c.if-i-class_of.false, k)))

pub returns-then-last-ne0 : goal.returns-then-last-ne0
returns-then-last-ne0 c = λ b w f x y d e g l.
    let k = rw c.links.ensures at c.class_of.ensures.0 in
    rw c.notes.ensures
    (stands_until _ c.args.round (rw c.notes.ensures at c.if-last-ne0.true) ∙ leads_noted f c.args.i d e g l c.args.round (sym c.site_there.ensures ∙ c.if-not-site_there.false) (omega (arith, c.if-i-class_of.false, k)))
