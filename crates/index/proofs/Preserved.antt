-- What linking leaves as it was.
use Prim.Native.Nat.{ℕ, suc, ◌+◌, ◌*◌, ◌<◌, ◌≤◌}
use native.Mathlib.Omega.{arith}
use native.Mathlib.Nat.{zero-add}
use mathlib.Core.Path.{◌≡◌, refl, sym, ap, subst, ◌∙◌}
use mathlib.Core.Bool.{Bool}
use mathlib.Core.List.{List}
use lib.ListN.{length, get_or}
use Rattle.program.specs.Syntax.{Function}
use Rattle.told.specs.Numbered.{Held, sentences_before}
use Rattle.restrictions.specs.Entries.{Entry}
use Rattle.index.specs.First.{First}
use Rattle.index.specs.Bucket.{bucket_of, in_bucket, Filed}
use Rattle.index.specs.Tables.{FunctionEntry, SitesAt, Apart}
use Rattle.index.specs.Tabled.{Tabled, SomeFiled}
use Rattle.index.specs.Linking.{Columns, SomeSites, Indexed, LinksOnly, Pushed}
use Rattle.index.proofs.Entries.{element_below}

-- The functions' entries are the same where work is the same.
pub tabled-same : {b old new : List ℕ} {n : ℕ} {fs : List Function} → Tabled b old n fs → ((k : ℕ) → k < n → get_or new k 0 ≡ get_or old k 0) → length new ≡ length old → Tabled b new n fs
tabled-same {b} {old} {new} {n} {fs} t h l = record {
  entries = record { entry = λ f x q. subst (λ (v : ℕ). FunctionEntry b v x (sentences_before f fs)) (sym (ap (λ (k : ℕ). get_or new k 0) (zero-add f) ∙ h f (omega (arith, element_below fs f q, t.count)) ∙ ap (λ (k : ℕ). get_or old k 0) (sym (zero-add f)))) (t.entries.entry f x q) };
  count = t.count;
  fits = omega (arith, t.fits, l);
}

pub filed-same : {old new : List ℕ} {fs : List Function} {at top n : ℕ} → Filed fs old at top n 0 → ((k : ℕ) → at ≤ k → get_or new k 0 ≡ get_or old k 0) → at ≤ top → Filed fs new at top n 0
filed-same {old} {new} {fs} {at} {top} {n} d h l = record {
  bucket = λ k u. subst (First (in_bucket n k) 0 fs) (sym (h (top + k) (omega (arith, l)))) (d.bucket k u);
  link = λ f x u q. subst (First (in_bucket n (bucket_of n x.name)) (suc f) fs) (sym (h (at + f) (omega arith))) (d.link f x u q);
}

pub sites-same : {b old new : List ℕ} {held : List Held} {calls : ℕ} → SitesAt b held old calls → ((i : ℕ) → i < length held → get_or new (calls + i) 0 ≡ get_or old (calls + i) 0) → SitesAt b held new calls
sites-same {b} {old} {new} {held} {calls} s h = record { entry = λ i x q. subst (λ (v : ℕ). Entry b v x) (sym (h i (element_below held i q))) (s.entry i x q) }

module _ {old new : List ℕ} {functions calls links sites at n : ℕ} (k : Columns old functions calls links sites at n) (o : LinksOnly old new functions links sites) where
  pub columns-after : Columns new functions calls links sites at n
  columns-after = record { heads_fit = k.heads_fit; calls_fit = k.calls_fit; links_fit = k.links_fit; fits = omega (arith, k.fits, o.length); small = omega (arith, k.small, o.length); few = k.few }

  tabled-after : {b : List ℕ} {fs : List Function} → Tabled b old functions fs → Tabled b new functions fs
  tabled-after t = tabled-same t o.entries o.length

  filed_after : {fs : List Function} → Filed fs old at (at + functions) n 0 → Filed fs new at (at + functions) n 0
  filed_after d = filed-same d (λ j u. o.room j (omega (arith, u, k.links_fit))) (omega arith)

  sites-after : {b : List ℕ} {held : List Held} → SitesAt b held old calls → length held ≡ sites → SitesAt b held new calls
  sites-after s e = sites-same s (λ i l. o.columns (calls + i) (omega (arith, k.heads_fit)) (omega (arith, l, e, k.calls_fit)))

  pub indexed-after : {b : List ℕ} {fs : List Function} {held : List Held} → Indexed b old functions calls sites at n fs held → Indexed b new functions calls sites at n fs held
  indexed-after x = record { tabled = tabled-after x.tabled; filed = filed_after x.filed; entries = sites-after x.entries x.count; count = x.count }

  pub some_filed_after : {b : List ℕ} → SomeFiled b old (record { functions = functions; at = at; buckets = n }) → SomeFiled b new (record { functions = functions; at = at; buckets = n })
  some_filed_after x = record { functions = x.functions; tabled = tabled-after x.tabled; filed = filed_after x.filed; fits = omega (arith, x.fits, o.length); some = x.some }

  pub some_sites_after : {b : List ℕ} → SomeSites b old calls sites → SomeSites b new calls sites
  some_sites_after x = record { held = x.held; entries = sites-after x.entries x.count; count = x.count }

pub links-same : (m : List ℕ) (functions links sites : ℕ) → LinksOnly m m functions links sites
links-same m functions links sites = record { length = refl; entries = λ k l. refl; columns = λ k l u. refl; room = λ k l. refl }

pub links_then : {a b c : List ℕ} {functions links sites : ℕ} → LinksOnly a b functions links sites → LinksOnly b c functions links sites → LinksOnly a c functions links sites
links_then x y = record {
  length = y.length ∙ x.length;
  entries = λ k l. y.entries k l ∙ x.entries k l;
  columns = λ k l u. y.columns k l u ∙ x.columns k l u;
  room = λ k l. y.room k l ∙ x.room k l;
}

pub pushed-links : {kind : Bool} {old new : List ℕ} {functions links sites : ℕ} (f i : ℕ) → Pushed kind old new (functions + f) (links + i) i → f < functions → i < sites → 2 * functions ≤ links → LinksOnly old new functions links sites
pushed-links {functions = functions} {links = links} f i s l u v = record {
  length = s.length;
  entries = λ k h. s.others k (λ e. omega (arith, e, h)) (λ e. omega (arith, e, h, v));
  columns = λ k h g. s.others k (λ e. omega (arith, e, h, l)) (λ e. omega (arith, e, g));
  room = λ k h. s.others k (λ e. omega (arith, e, h, l, u, v)) (λ e. omega (arith, e, h, u));
}

-- The same where only heads have changed.
module _ {old new : List ℕ} {functions at : ℕ} (a : Apart old new functions (2 * functions)) (l : 2 * functions ≤ at) where
  pub tabled-apart : {b : List ℕ} {fs : List Function} → Tabled b old functions fs → Tabled b new functions fs
  tabled-apart t = tabled-same t a.before a.length

  pub filed-apart : {fs : List Function} {n : ℕ} → Filed fs old at (at + functions) n 0 → Filed fs new at (at + functions) n 0
  filed-apart d = filed-same d (λ k u. a.after k (λ v. omega (arith, u, v, l))) (omega arith)

  pub some_filed_apart : {b : List ℕ} {n : ℕ} → SomeFiled b old (record { functions = functions; at = at; buckets = n }) → SomeFiled b new (record { functions = functions; at = at; buckets = n })
  some_filed_apart x = record { functions = x.functions; tabled = tabled-apart x.tabled; filed = filed-apart x.filed; fits = omega (arith, x.fits, a.length); some = x.some }
