-- Whether a site meets a pattern, and the walk to the first that does.
use Prim.Native.Nat.{ℕ, suc, ◌+◌, ◌<◌, ◌≤◌}
use native.Mathlib.Omega.{arith}
use mathlib.Core.Path.{◌≡◌, refl, sym, ap, subst, ◌∙◌}
use mathlib.Core.Bool.{Bool, true, false, ◌&&◌, not, false≢true, and-eq-true_iff}
use mathlib.Core.List.{List}
use mathlib.Core.Option.{some}
use lib.ListN.{length, get_or, get_elem?, drop, length-drop}
use Rattle.program.specs.Syntax.{Name, Terms, Function, Program}
use Rattle.program.specs.Limits.{Mode}
use Rattle.image.specs.Parts.{TermsAt}
use Rattle.image.proofs.Readings.{terms-room}
use Rattle.symbols.proofs.Parts.{part_rest}
use Rattle.patterns.specs.declared.Verdict.{Verdict}
use Rattle.patterns.specs.declared.Verdict.TheVariants.{Disjoint, Overlap, Unknown}
use Rattle.patterns.specs.declared.Found as search
use Rattle.patterns.specs.Search.{patterns_overlap, sequence, start}
use Rattle.overlap.specs.Steps as steps
use Rattle.rows.proofs.Readings.{part}
use Rattle.patterns.specs.Configuration.{same_configuration}
use Rattle.told.specs.Numbered.{Held, sites_of}
use Rattle.restrictions.specs.Entries.{entry_sentence}
use Rattle.meaning.proofs.Verdicts.{same-verdict}
use Rattle.index.specs.declared.Plan.{Plan}
use Rattle.index.specs.Layout.{heads, calls, links}
use Rattle.index.specs.First.{First}
use Rattle.told.specs.Calls.{is_listed}
use Rattle.index.specs.Links.{list_head, entry_next, entry_class, is_repeat}
use Rattle.index.specs.Lists.{ListAt}
use Rattle.index.proofs.First.{Element, element_at, element_below}
use Rattle.meaning.specs.Cleaning.{is_disjoint}
use Rattle.told.specs.Asked.{restricts, is_met, meets}
use Rattle.cleaning.specs.Indexed.{Indexed}
use Rattle.cleaning.specs.Walks.{NoneMet, MetAt, OnList}
use Rattle.cleaning.proofs.Indexed.{indexed-walkable}
use Rattle.cleaning.proofs.Walking.{and_left, and_none, Going, going_end, going-found, going_next}

-- The pattern, at the start of the part that begins with it.
abbrev pub pattern_part : (b : List ℕ) (n : ℕ) → TermsAt Mode.pattern (drop n b) → TermsAt Mode.pattern (part b n)
pattern_part b n t = record { terms = t.terms; rest = t.rest; is = part_rest b n ∙ t.is; valid = t.valid }

-- And back.
abbrev pub from_part : (b : List ℕ) (n : ℕ) → TermsAt Mode.pattern (part b n) → TermsAt Mode.pattern (drop n b)
from_part b n t = record { terms = t.terms; rest = t.rest; is = sym (part_rest b n) ∙ t.is; valid = t.valid }

pub verdict-is : (t u : Terms) (q : search.Found) → q ≡ sequence start t u → q.verdict ≡ patterns_overlap t u
unfolding patterns_overlap
verdict-is t u q e = ap (λ (v : search.Found). v.verdict) e

pub pattern-within : (b : List ℕ) (n : ℕ) → TermsAt Mode.pattern (drop n b) → n ≤ length b
pattern-within b n t = omega (arith, terms-room t, length-drop n b)

pub not_is : (t u : Bool) → not t ≡ u → t ≡ not u
not_is true u e = ap not e
not_is false u e = ap not e

disjoint_same : (v : Verdict) → steps.is_disjoint v ≡ is_disjoint v
unfolding is_disjoint
disjoint_same Disjoint = refl
disjoint_same Overlap = refl
disjoint_same Unknown = refl

-- ---- sites by the tests

module _ (keep : ℕ → Bool) (f : Name) (t : Terms) (x : Held) where
  pub meets-listed : is_listed true f x ≡ true → meets keep f t x ≡ (keep x.sentence && is_met t x)
  unfolding meets restricts
  meets-listed l = ap (λ (u : Bool). u && is_met t x) (and_left (is_listed true f x) (keep x.sentence) l)

  pub meets-less : is_listed true f x ≡ false → meets keep f t x ≡ false
  unfolding meets restricts
  meets-less l = ap (λ (u : Bool). u && is_met t x) (and_none (is_listed true f x) (keep x.sentence) l)

-- A repeat is met if what it repeats is.
met-same : (t : Terms) (z y : Held) → same_configuration z.site.argument y.site.argument ≡ true → is_met t z ≡ is_met t y
unfolding is_met
met-same t z y e = ap (λ (v : Verdict). not (is_disjoint v)) (same-verdict t z.site.argument y.site.argument e)

pub met_by : (t : Terms) (y : Held) (v : Verdict) → v ≡ patterns_overlap t y.site.argument → (r : Bool) → r ≡ steps.is_disjoint v → is_met t y ≡ not r
unfolding is_met
met_by t y v e r h = ap not (sym (h ∙ disjoint_same v ∙ ap is_disjoint e))

module _ {b : List ℕ} {w : Program} {m : List ℕ} {p : Plan} (d : Indexed b w m p) (f : ℕ) (x : Function) (e : get_elem? w.functions f ≡ some x) where
  -- The list of x as index's laws read it.
  abbrev pub list_of : ListAt b m (calls p) (links p) p.sites (list_head true (get_or m (heads p + f) 0)) x.name (sites_of w)
  list_of = record {
    entries = d.site;
    count = d.sites;
    calls_fit = omega (arith, d.fits);
    links_fit = omega (arith, d.fits);
    chain = d.chained.chain true f x e;
    begins = d.headed.head true f x e;
  }

  -- The same, where the sites' entries begin at a number that is `calls p`.
  pub list_at : (n : ℕ) → n ≡ calls p → ListAt b m n (n + p.sites) p.sites (list_head true (get_or m (heads p + f) 0)) x.name (sites_of w)
  list_at n z = subst (λ (k : ℕ). ListAt b m k (k + p.sites) p.sites (list_head true (get_or m (heads p + f) 0)) x.name (sites_of w)) (sym z) list_of

  pub number_is : (i : ℕ) (y : Held) → get_elem? (sites_of w) i ≡ some y → entry_sentence (get_or m (calls p + i) 0) ≡ y.sentence
  number_is i y g = ((indexed-walkable d true f x e).number i y g).0

  pub site_element : (i : ℕ) → i < p.sites → Element (sites_of w) i
  site_element i h = element_at (sites_of w) i (omega (arith, d.sites))

  pub site-below : (i : ℕ) (y : Held) → get_elem? (sites_of w) i ≡ some y → i < p.sites
  site-below i y g = omega (arith, element_below (sites_of w) i y g, d.sites)

  pub sentence-below : (i : ℕ) → i < p.sites → entry_sentence (get_or m (calls p + i) 0) < p.sentences
  sentence-below i h =
      let y = site_element i h in
      let n = (indexed-walkable d true f x e).number i y.element y.is in
      omega (arith, n)

  module _ (keep : ℕ → Bool) (t : Terms) (i : ℕ) (y : Held) (g : get_elem? (sites_of w) i ≡ some y) (l : is_listed true x.name y ≡ true) where
    meets-here : meets keep x.name t y ≡ (keep (entry_sentence (get_or m (calls p + i) 0)) && is_met t y)
    meets-here = meets-listed keep x.name t y l ∙ ap (λ (s : ℕ). keep s && is_met t y) (sym (number_is i y g))

    -- Its sentence fell.
    pub met_gone : keep (entry_sentence (get_or m (calls p + i) 0)) ≡ false → MetAt keep x.name t (sites_of w) i y false
    met_gone h = record {
      yes = λ r. absurd (false≢true r);
      no = λ r none. meets-here ∙ ap (λ (u : Bool). u && is_met t y) h;
    }

    -- It repeats an earlier site that is there.
    pub met-repeat : (c : ℕ) → c ≡ entry_class (get_or m (links p + i) 0) → c < i → keep (entry_sentence (get_or m (calls p + c) 0)) ≡ true → MetAt keep x.name t (sites_of w) i y false
    unfolding is_repeat
    met-repeat c z h k = record { yes = λ r. absurd (false≢true r); no = λ r none. unmet none }
      where
        first : First (is_repeat x.name y) 0 (sites_of w) c
        first = subst (λ (n : ℕ). First (is_repeat x.name y) 0 (sites_of w) n) (sym z) ((d.classed f x e).class i y g l)

        earlier : Element (sites_of w) c
        earlier = site_element c (omega (arith, site-below i y g))

        alike : (is_listed true x.name earlier.element ≡ true) × (same_configuration earlier.element.site.argument y.site.argument ≡ true)
        alike = (and-eq-true_iff (is_listed true x.name earlier.element) (same_configuration earlier.element.site.argument y.site.argument)).0 (first.found earlier.element earlier.is)

        unmet-earlier : NoneMet keep x.name t (sites_of w) i → is_met t earlier.element ≡ false
        unmet-earlier none =
            ap (λ (u : Bool). u && is_met t earlier.element) (sym (ap keep (sym (number_is c earlier.element earlier.is)) ∙ k))
            ∙ sym (meets-listed keep x.name t earlier.element alike.0)
            ∙ none c earlier.element h earlier.is

        unmet : NoneMet keep x.name t (sites_of w) i → meets keep x.name t y ≡ false
        unmet none =
            meets-listed keep x.name t y l
            ∙ and_none (is_met t y) (keep y.sentence) (sym (met-same t earlier.element y alike.1) ∙ unmet-earlier none)

    -- The verdict is asked.
    pub met-asked : keep (entry_sentence (get_or m (calls p + i) 0)) ≡ true → (r : Bool) → is_met t y ≡ r → MetAt keep x.name t (sites_of w) i y r
    met-asked k r h =
        let z : meets keep x.name t y ≡ r = meets-here ∙ ap (λ (u : Bool). u && is_met t y) k ∙ h in
        record { yes = λ a. z ∙ a; no = λ a none. z ∙ a }

  -- ---- the walk to the first site that meets a pattern

  module _ (j : ℕ) (o : OnList x.name (sites_of w) j) (h : j < p.sites) where
    abbrev pub here_element : Element (sites_of w) j
    here_element = site_element j h

    pub here-listed : is_listed true x.name here_element.element ≡ true
    here-listed = o.listed here_element.element here_element.is

    after-here : (n : ℕ) → n ≡ entry_next (get_or m (links p + j) 0) → First (is_listed true x.name) (suc j) (sites_of w) n
    after-here n z = subst (λ (k : ℕ). First (is_listed true x.name) (suc j) (sites_of w) k) (sym z) ((d.chained.chain true f x e).next j here_element.element (omega arith) here_element.is here-listed)

    pub on-next : (n : ℕ) → n ≡ entry_next (get_or m (links p + j) 0) → OnList x.name (sites_of w) n × (j < n)
    on-next n z = let g = after-here n z in (record { within = g.within; listed = g.found }, omega (arith, g.later))

    module _ (keep : ℕ → Bool) (t : Terms) (r : Bool) (a : MetAt keep x.name t (sites_of w) j here_element.element r) (g : Going (is_listed true x.name) (meets keep x.name t) 0 (sites_of w) j) where
      pub met-found : r ≡ true → First (meets keep x.name t) 0 (sites_of w) j
      met-found k = going-found g here_element.element here_element.is (a.yes k)

      pub met_next : r ≡ false → (n : ℕ) → n ≡ entry_next (get_or m (links p + j) 0) → Going (is_listed true x.name) (meets keep x.name t) 0 (sites_of w) n
      met_next k n z =
          going_next g here_element.element here_element.is (meets-less keep x.name t) (a.no k (λ i y l q. g.none i y (omega arith) l q)) (after-here n z)

  pub met-end : (keep : ℕ → Bool) (t : Terms) (j : ℕ) → Going (is_listed true x.name) (meets keep x.name t) 0 (sites_of w) j → p.sites ≤ j → First (meets keep x.name t) 0 (sites_of w) j
  met-end keep t j g h = going_end g (omega (arith, d.sites))

pub met_start : (keep : ℕ → Bool) (f : Name) (t : Terms) (sites : List Held) (i : ℕ) → OnList f sites i → NoneMet keep f t sites i → Going (is_listed true f) (meets keep f t) 0 sites i
met_start keep f t sites i o none = record { later = omega arith; within = o.within; none = λ k x a b e. none k x b e; found = o.listed }
