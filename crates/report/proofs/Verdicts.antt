-- Sites and verdicts.
use Prim.Native.Nat.{ℕ, suc, ◌+◌, ◌<◌, ◌≤◌}
use native.Mathlib.Omega.{arith}
use mathlib.Core.Path.{◌≡◌, refl, sym, ap, subst, ◌∙◌}
use mathlib.Core.Bool.{Bool, true, false, ◌&&◌, not}
use mathlib.Core.List.{List}
use mathlib.Core.Option.{some}
use borrow.Author.Tests.{lt-ltb, le-ltb}
use lib.ListN.{length, get_or, get_elem?}
use Rattle.program.specs.Syntax.{Name, Terms, Function, Program}
use Rattle.program.specs.Sentences.{Sentence}
use Rattle.patterns.specs.declared.Verdict.{Verdict}
use Rattle.patterns.specs.declared.Verdict.TheVariants.{Disjoint, Overlap, Unknown}
use Rattle.patterns.specs.Search.{patterns_overlap}
use Rattle.overlap.specs.Steps as steps
use Rattle.meaning.specs.Lists.{any}
use Rattle.told.specs.Numbered.{Held, sites_of}
use Rattle.restrictions.specs.Entries.{entry_sentence}
use Rattle.index.specs.declared.Plan.{Plan}
use Rattle.index.specs.Layout.{heads, witnesses, calls, links}
use Rattle.index.specs.First.{First}
use Rattle.told.specs.Calls.{is_listed}
use Rattle.index.specs.Links.{entry_next, list_head}
use Rattle.index.proofs.First.{Element, first_any}
use Rattle.told.specs.Asked.{restricts, is_met, meets}
use Rattle.meaning.specs.Cleaning.{is_disjoint}
use Rattle.meaning.specs.CleanReport.{is_overlap}
use Rattle.told.specs.History.{is_there, after_all}
use Rattle.cleaning.specs.Indexed.{Indexed, fell_of}
use Rattle.cleaning.specs.Walks.{Owns, witness_from}
use Rattle.told.specs.ToldReport.{overlaps}
use Rattle.cleaning.proofs.Meeting.{number_is, site_element}
use Rattle.cleaning.proofs.Witnesses.{begins-at}
use Rattle.report.specs.Emitting.{Readable}
use Rattle.cleaning.proofs.Walking.{and_left, and_none, Going, going_end, going-found, going_next}

pub overlap_same : (v : Verdict) → steps.is_overlap v ≡ is_overlap v
unfolding is_overlap
overlap_same Disjoint = refl
overlap_same Overlap = refl
overlap_same Unknown = refl

pub disjoint_same : (v : Verdict) → steps.is_disjoint v ≡ is_disjoint v
unfolding is_disjoint
disjoint_same Disjoint = refl
disjoint_same Overlap = refl
disjoint_same Unknown = refl

-- Where nothing is met, nothing overlaps.
unmet_verdict : (u : Bool) (v : Verdict) → (u && not (is_disjoint v)) ≡ false → (u && is_overlap v) ≡ false
unfolding is_disjoint is_overlap
unmet_verdict true Disjoint e = refl
unmet_verdict true Overlap e = e
unmet_verdict true Unknown e = refl
unmet_verdict false v e = refl

module _ (keep : ℕ → Bool) (f : Name) (t : Terms) (y : Held) where
  pub overlaps_unmet : meets keep f t y ≡ false → overlaps keep f t y ≡ false
  unfolding meets is_met overlaps
  overlaps_unmet e = unmet_verdict (restricts keep f y) (patterns_overlap t y.site.argument) e

  pub overlaps-listed : is_listed true f y ≡ true → overlaps keep f t y ≡ (keep y.sentence && is_overlap (patterns_overlap t y.site.argument))
  unfolding overlaps restricts
  overlaps-listed l = ap (λ (u : Bool). u && is_overlap (patterns_overlap t y.site.argument)) (and_left (is_listed true f y) (keep y.sentence) l)

  pub overlaps-less : is_listed true f y ≡ false → overlaps keep f t y ≡ false
  unfolding overlaps restricts
  overlaps-less l = ap (λ (u : Bool). u && is_overlap (patterns_overlap t y.site.argument)) (and_none (is_listed true f y) (keep y.sentence) l)

module _ {b : List ℕ} {w : Program} {m : List ℕ} {p : Plan} (d : Indexed b w m p) (f : ℕ) (x : Function) (e : get_elem? w.functions f ≡ some x) where
  module _ (keep : ℕ → Bool) (t : Terms) (i : ℕ) (y : Held) (g : get_elem? (sites_of w) i ≡ some y) (l : is_listed true x.name y ≡ true) where
    overlaps-here : overlaps keep x.name t y ≡ (keep (entry_sentence (get_or m (calls p + i) 0)) && is_overlap (patterns_overlap t y.site.argument))
    overlaps-here = overlaps-listed keep x.name t y l ∙ ap (λ (s : ℕ). keep s && is_overlap (patterns_overlap t y.site.argument)) (sym (number_is d f x e i y g))

    pub overlaps_gone : keep (entry_sentence (get_or m (calls p + i) 0)) ≡ false → false ≡ overlaps keep x.name t y
    overlaps_gone h = sym (overlaps-here ∙ ap (λ (u : Bool). u && is_overlap (patterns_overlap t y.site.argument)) h)

    pub overlaps-asked : keep (entry_sentence (get_or m (calls p + i) 0)) ≡ true → (v : Verdict) → v ≡ patterns_overlap t y.site.argument → (r : Bool) → r ≡ steps.is_overlap v → r ≡ overlaps keep x.name t y
    overlaps-asked h v z r k =
        k ∙ (overlap_same v ∙ (ap is_overlap z ∙ sym (overlaps-here ∙ ap (λ (u : Bool). u && is_overlap (patterns_overlap t y.site.argument)) h)))

  -- ---- a walk along the list, for a test that only listed sites pass

  module _ (test : Held → Bool) (less : (y : Held) → is_listed true x.name y ≡ false → test y ≡ false) where
    abbrev pub OnWalk : ℕ → Type 0
    OnWalk j = Going (is_listed true x.name) test 0 (sites_of w) j

    module _ {j : ℕ} (g : Going (is_listed true x.name) test 0 (sites_of w) j) where
      pub walk_end : p.sites ≤ j → false ≡ any test (sites_of w)
      walk_end h = sym (first_any (going_end g (omega (arith, d.sites))) ∙ le-ltb j (length (sites_of w)) (omega (arith, d.sites)))

      module _ (h : j < p.sites) where
        abbrev pub walk-element : Element (sites_of w) j
        walk-element = site_element d f x e j h

        pub walk-listed : is_listed true x.name walk-element.element ≡ true
        walk-listed = g.found walk-element.element walk-element.is

        pub walk_found : test walk-element.element ≡ true → true ≡ any test (sites_of w)
        walk_found t = sym (first_any (going-found g walk-element.element walk-element.is t) ∙ lt-ltb j (length (sites_of w)) (omega (arith, d.sites)))

        pub walk_after : (n : ℕ) → n ≡ entry_next (get_or m (links p + j) 0) → First (is_listed true x.name) (suc j) (sites_of w) n
        walk_after n z = subst (λ (k : ℕ). First (is_listed true x.name) (suc j) (sites_of w) k) (sym z) ((d.chained.chain true f x e).next j walk-element.element (omega arith) walk-element.is walk-listed)

        pub walk-next : test walk-element.element ≡ false → (n : ℕ) → n ≡ entry_next (get_or m (links p + j) 0) → Going (is_listed true x.name) test 0 (sites_of w) n × (j < n)
        walk-next t n z =
            let a = walk_after n z in
            (going_next g walk-element.element walk-element.is less t a, omega (arith, a.later))

-- It begins at the witness: what is before it is not met.
module _ {b : List ℕ} {w : Program} {m : List ℕ} {p : Plan} (d : Readable b w m p) {f s : ℕ} {x : Function} {y : Sentence} (o : Owns w f x s y) where
  pub walk_first : (i : ℕ) → i ≡ witness_from (get_or m (witnesses p + s) 0) (list_head true (get_or m (heads p + f) 0))
      → Going (is_listed true x.name) (overlaps (is_there (fell_of p m) after_all) x.name y.pattern) 0 (sites_of w) i
  walk_first i z =
      let keep = is_there (fell_of p m) after_all in
      let a = begins-at keep x.name y.pattern (sites_of w) (get_or m (witnesses p + s) 0) (list_head true (get_or m (heads p + f) 0)) (d.indexed.headed.head true f x o.function) (d.witnessed.witness f x s y o) in
      subst (λ (k : ℕ). Going (is_listed true x.name) (overlaps keep x.name y.pattern) 0 (sites_of w) k) (sym z)
      (record { later = omega arith; within = a.0.within; none = λ k u l h e. overlaps_unmet keep x.name y.pattern u (a.1 k u h e); found = a.0.listed })
