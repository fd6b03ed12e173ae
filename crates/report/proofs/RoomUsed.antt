-- What verdicts leave of the entries that the report reads.
use Prim.Native.Nat.{ℕ, suc, ◌+◌, ◌/◌, ◌<◌}
use native.Mathlib.Omega.{arith}
use mathlib.Core.Path.{◌≡◌, sym, ap, subst, ◌∙◌}
use mathlib.Core.Bool.{Bool, true}
use mathlib.Core.List.{List}
use lib.Dec.{eqb}
use lib.ListN.{get_or}
use Rattle.program.specs.Syntax.{Program}
use Rattle.index.specs.declared.Plan.{Plan}
use Rattle.index.specs.Layout.{lines, witnesses, links}
use Rattle.index.specs.Links.{entry_next}
use Rattle.told.specs.Asked.{is_judged}
use Rattle.told.specs.Numbered.{sites_of}
use Rattle.told.specs.History.{is_there, after_all, Told}
use Rattle.cleaning.specs.Indexed.{fell_of}
use Rattle.cleaning.specs.Room.{Used}
use Rattle.cleaning.specs.Walks.{Witnessed}
use Rattle.told.specs.ToldReport.{told_report}
use Rattle.cleaning.proofs.Room.{used_fell, used_indexed}
use Rattle.cleaning.proofs.Witnesses.{witnessed-kept}
use Rattle.report.specs.declared.format.Figures.{Figures}
use Rattle.report.specs.Notes.{is_open, open_at}
use Rattle.report.specs.Emitting.{Readable, SomeReadable, Decided}
use Rattle.report.specs.Leading.{SomeSite}
use Rattle.report.specs.Removed.{Removing}
use Rattle.report.specs.Figures.{FiguresOf, Reporting}
use Rattle.report.proofs.Places.{owned_below}
use Rattle.report.proofs.SiteNotes.{noted-same}

-- The columns before were those after.
pub used_back : {p : Plan} {old new : List ℕ} → Used p old new → Used p new old
used_back u = record { length = sym u.length; columns = λ k h. sym (u.columns k h) }

module _ {p : Plan} {old new : List ℕ} (u : Used p old new) where
  pub used_keep : (r : ℕ) → is_there (fell_of p new) r ≡ is_there (fell_of p old) r
  used_keep r = ap (λ (f : ℕ → ℕ). is_there f r) (used_fell u)

  -- The next of the list of a site, where `next_site` says.
  pub used_next : (from i : ℕ) → from ≡ links p → i < p.sites → (v : ℕ) → v ≡ entry_next (get_or new (from + i) 0) → v ≡ entry_next (get_or old (links p + i) 0)
  used_next from i e h v z = z ∙ (ap (λ (k : ℕ). entry_next (get_or new (k + i) 0)) e ∙ ap entry_next (u.columns (links p + i) (omega arith)))

  pub used_readable : {b : List ℕ} {w : Program} → Readable b w old p → Readable b w new p
  used_readable {b} {w} d = record {
    indexed = used_indexed u d.indexed;
    short = d.short;
    witnessed = subst (λ (k : ℕ → Bool). Witnessed k w new p) (sym (used_keep after_all)) (witnessed-kept d.indexed.sentences (λ s l. u.columns (witnesses p + s) (omega arith)) d.witnessed);
    noted = noted-same old new w d.indexed.sites (used_fell u) (λ k a l. u.columns k l) d.noted;
  }

  pub used_some : {b : List ℕ} → SomeReadable b old p → SomeReadable b new p
  used_some s = record { program = s.program; readable = used_readable s.readable }

  pub used_site : {b : List ℕ} {i : ℕ} → SomeSite b old p i → SomeSite b new p i
  used_site s = record {
    program = s.program;
    readable = used_readable s.readable;
    place = s.place;
    function = s.function;
    is = s.is;
    site = s.site;
    at = s.at;
    listed = s.listed;
  }

used_decided : {p : Plan} {old new : List ℕ} → Used p old new → {b : List ℕ} → Decided b old p → Decided b new p
unfolding is_open
used_decided {p} u h = record {
  told = λ w f x s y d o j.
      let e = used_fell u in
      ap (λ (n : ℕ). eqb (n / 134217728) 1) (u.columns (lines p + s) (omega (arith, owned_below d o)))
      ∙ (h.told w f x s y (used_readable (used_back u) d) o (subst (λ (t : ℕ → ℕ). is_judged (is_there t after_all) x.name (sites_of w) ≡ true) e j) ∙ ap (λ (t : ℕ → ℕ). open_at (is_there t after_all) (sites_of w) x s y) (sym e));
}

module _ {p : Plan} {old new : List ℕ} (u : Used p old new) where
  pub used_removing : {b : List ℕ} {w : Program} {n : ℕ} → Removing b w old p n → Removing b w new p n
  used_removing {b} {w} {n} d = record {
    readable = used_readable u d.readable;
    told = subst (λ (f : ℕ → ℕ). Told w f n) (sym (used_fell u)) d.told;
    below = subst (λ (f : ℕ → ℕ). (s : ℕ) → f s < suc n) (sym (used_fell u)) d.below;
    decided = used_decided u d.decided;
  }

  pub used_reporting : {b : List ℕ} {w : Program} {n : ℕ} {g : Figures} → Reporting b w old p n g → Reporting b w new p n g
  used_reporting {b} {w} {n} {g} d = record {
    removing = used_removing d.removing;
    figures = subst (λ (f : ℕ → ℕ). FiguresOf (told_report w f n) g) (sym (used_fell u)) d.figures;
  }
