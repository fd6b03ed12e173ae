-- Which sites lead: the first of each class that is there; and the restrictions that they give.
use Prim.Native.Nat.{◌+◌, ◌-◌, ◌<◌, suc, zero, ℕ, ◌≤◌}
use native.Mathlib.Omega.{arith}
use mathlib.Core.Bool.{◌&&◌, Bool, cond, false, not, or-true, true, ◌||◌}
use mathlib.Core.List.{◌++◌, List, [], flat_map, map, map-map, ◌∷◌}
use mathlib.Core.Option.{some}
use mathlib.Core.Path.{◌≡◌, ap, ap₂, refl, subst, sym, ◌∙◌}
use lib.ListN.{drop, get_or, get_elem?, length, take, drop_of_length-le}
use Rattle.cleaning.proofs.Meeting.{here_element, here-listed, number_is}
use Rattle.told.specs.Asked.{restricts}
use Rattle.cleaning.specs.Indexed.{Indexed}
use Rattle.told.specs.Numbered.{sites_of, Held}
use Rattle.told.specs.KeptSites.{kept_sites}
use Rattle.told.specs.ToldReport.{restrictions_at}
use Rattle.cleaning.specs.Walks.{OnList}
use Rattle.patterns.proofs.Configuration.{same_configuration_true}
use Rattle.patterns.specs.Configuration.{same_configuration}
use Rattle.program.specs.Syntax.{Function, Name, Program, Terms}
use Rattle.index.proofs.Alike.{listed_plain}
use Rattle.index.proofs.First.{element_at, element_same, first_unique}
use Rattle.told.specs.Calls.{is_call_of, is_listed, is_plain}
use Rattle.index.specs.First.{First}
use Rattle.index.specs.Layout.{calls, links}
use Rattle.index.specs.Links.{entry_class, entry_next, is_repeat}
use Rattle.index.specs.declared.Plan.{Plan}
use Rattle.report.specs.Leading.{angled_after, angled_if, is_leading, leading_from}
use Rattle.report.specs.Notes.{blocks}
use Rattle.meaning.proofs.Earlier.{new_after, restrictions_new}
use Rattle.meaning.proofs.Repeats.{repeats_exactly}
use Rattle.restrictions.specs.Entries.{entry_sentence}
use Rattle.meaning.specs.Lists.{any, select}
use Rattle.meaning.specs.Restrictions.{entering, entering_restrictions}
use Rattle.meaning.specs.Sites.{Site, restriction_is_characterisable}
use Rattle.patterns.proofs.Tests.{same_test}
use Rattle.patterns.specs.Names.{same_name}

-- ---- what stands before a place

pub some-taken : {A : Type 0} (test : A → Bool) (l : List A) (i j : ℕ) (x : A) → j < i → get_elem? l j ≡ some x → test x ≡ true → any test (take i l) ≡ true
unfolding any
some-taken test [] i j x h e t = let z : ◌≡◌ {A = ℕ} 0 1 = cc in absurd (omega arith)
some-taken test (y ∷ l) zero j x h e t = absurd (omega arith)
some-taken test (y ∷ l) (suc i) zero x h e t = ap (λ (u : Bool). u || any test (take i l)) (ap test (element_same (y ∷ l) 0 y x refl e) ∙ t)
some-taken test (y ∷ l) (suc i) (suc j) x h e t = ap (λ (u : Bool). test y || u) (some-taken test l i j x (omega arith) e t) ∙ or-true (test y)

pub none-taken : {A : Type 0} (test : A → Bool) (l : List A) (i : ℕ) → ((j : ℕ) (x : A) → j < i → get_elem? l j ≡ some x → test x ≡ false) → any test (take i l) ≡ false
unfolding any
none-taken test l zero f = refl
none-taken test [] (suc i) f = refl
none-taken test (y ∷ l) (suc i) f = ap (λ (u : Bool). u || any test (take i l)) (f 0 y (omega arith) refl) ∙ none-taken test l i (λ j x h e. f (suc j) x (omega arith) e)

pub drop_element : {A : Type 0} (l : List A) (i : ℕ) (y : A) → get_elem? l i ≡ some y → drop i l ≡ y ∷ drop (suc i) l
drop_element {A} [] i y e = let z : ◌≡◌ {A = ℕ} 0 1 = cc in absurd (omega arith)
drop_element {A} (x ∷ l) zero y e = ap (λ (z : A). z ∷ l) (element_same (x ∷ l) 0 x y refl e)
drop_element {A} (x ∷ l) (suc i) y e = drop_element l i y e

pub any-taken : {A : Type 0} (test : A → Bool) (l : List A) (i : ℕ) (y : A) (rest : List A) → drop i l ≡ y ∷ rest → (any test (take (suc i) l) ≡ (test y || any test (take i l))) × (drop (suc i) l ≡ rest)
unfolding any
any-taken test [] zero y rest e = let z : ◌≡◌ {A = ℕ} 0 1 = cc in absurd (omega arith)
any-taken test [] (suc i) y rest e = let z : ◌≡◌ {A = ℕ} 0 1 = cc in absurd (omega arith)
any-taken test (x ∷ l) zero y rest e =
    let z : x ≡ y = cc in
    let q : l ≡ rest = cc in
    (ap (λ u. test u || false) z, q)
any-taken test (x ∷ l) (suc i) y rest e =
    let h = any-taken test l i y rest e in
    (ap (λ (u : Bool). test x || u) h.0 ∙ turned (test x) (test y) (any test (take i l)), h.1)
  where
    turned : (a b c : Bool) → (a || (b || c)) ≡ (b || (a || c))
    turned true true c = refl
    turned true false c = refl
    turned false b c = refl

-- ---- the order of tests on a list

select-map : {A B : Type 0} (test : B → Bool) (g : A → B) (l : List A) → select test (map g l) ≡ map g (select (λ x. test (g x)) l)
unfolding select
select-map test g [] = refl
select-map {A} {B} test g (x ∷ l) = by (test (g x)) (select-map test g l)
  where
    by : (t : Bool) → select test (map g l) ≡ map g (select (λ y. test (g y)) l) → cond t (g x ∷ select test (map g l)) (select test (map g l)) ≡ map g (cond t (x ∷ select (λ y. test (g y)) l) (select (λ y. test (g y)) l))
    by true e = ap (λ (m : List B). g x ∷ m) e
    by false e = e

select-select : {A : Type 0} (pass test : A → Bool) (l : List A) → select test (select pass l) ≡ select (λ x. pass x && test x) l
unfolding select
select-select pass test [] = refl
select-select {A} pass test (x ∷ l) = by (pass x) (select-select pass test l)
  where
    by : (t : Bool) → select test (select pass l) ≡ select (λ y. pass y && test y) l → select test (cond t (x ∷ select pass l) (select pass l)) ≡ cond (t && test x) (x ∷ select (λ y. pass y && test y) l) (select (λ y. pass y && test y) l)
    by true e = ap (λ (m : List A). cond (test x) (x ∷ m) m) e
    by false e = e

kept-select : (keep : ℕ → Bool) (sites : List Held) → kept_sites keep sites ≡ map (λ x. x.site) (select (λ x. keep x.sentence) sites)
unfolding kept_sites select
kept-select keep [] = refl
kept-select keep (x ∷ sites) = by (keep x.sentence) (kept-select keep sites)
  where
    by : (t : Bool) → kept_sites keep sites ≡ map (λ y. y.site) (select (λ y. keep y.sentence) sites)
        → cond t (x.site ∷ kept_sites keep sites) (kept_sites keep sites) ≡ map (λ y. y.site) (cond t (x ∷ select (λ y. keep y.sentence) sites) (select (λ y. keep y.sentence) sites))
    by true e = ap (λ (m : List Site). x.site ∷ m) e
    by false e = e

-- The plain arguments that enter f are those of the sites that restrict it.
plain_arguments : (keep : ℕ → Bool) (f : Name) (sites : List Held) → select restriction_is_characterisable (entering f (kept_sites keep sites)) ≡ map (λ x. x.site.argument) (select (restricts keep f) sites)
unfolding entering restricts is_listed is_call_of is_plain
plain_arguments keep f sites =
    ap (λ (l : List Site). select restriction_is_characterisable (map (λ x. x.argument) (select (λ x. same_name x.callee f) l))) (kept-select keep sites)
    ∙ ap (λ (l : List Site). select restriction_is_characterisable (map (λ x. x.argument) l)) (select-map (λ x. same_name x.callee f) (λ x. x.site) (select (λ x. keep x.sentence) sites))
    ∙ ap (select restriction_is_characterisable) (map-map (λ x. x.argument) (λ x. x.site) (select (λ x. same_name x.site.callee f) (select (λ x. keep x.sentence) sites)))
    ∙ select-map restriction_is_characterisable (λ x. x.site.argument) (select (λ x. same_name x.site.callee f) (select (λ x. keep x.sentence) sites))
    ∙ ap (map (λ x. x.site.argument))
    (select-select (λ x. same_name x.site.callee f) (λ x. restriction_is_characterisable x.site.argument) (select (λ x. keep x.sentence) sites)
    ∙ select-select (λ x. keep x.sentence) (λ x. same_name x.site.callee f && restriction_is_characterisable x.site.argument) sites)

-- ---- the restrictions are the arguments of the sites that lead

module _ (keep : ℕ → Bool) (f : Name) (sites : List Held) where
  abbrev argument_of : Held → Terms
  argument_of x = x.site.argument

  abbrev Seen : List Terms → ℕ → Type 0
  Seen earlier i = (a : Terms) → any (λ y. same_configuration y a) earlier ≡ any (λ z. restricts keep f z && same_configuration z.site.argument a) (take i sites)

  leading_new : (rest : List Held) (i : ℕ) (earlier : List Terms) → drop i sites ≡ rest → Seen earlier i → new_after same_configuration earlier (map argument_of (select (restricts keep f) rest)) ≡ leading_from keep f sites i rest
  unfolding new_after select leading_from is_leading any
  leading_new [] i earlier e h = refl
  leading_new (y ∷ rest) i earlier e h =
      by (restricts keep f y) (any (blocks keep f y) (take i sites)) (h y.site.argument) refl
      (λ seen k. leading_new rest (suc i) seen (any-taken (restricts keep f) sites i y rest e).1 (λ a. k a ∙ sym (any-taken (λ z. restricts keep f z && same_configuration z.site.argument a) sites i y rest e).0))
    where
      others : List Terms
      others = map argument_of (select (restricts keep f) rest)

      later : List Terms
      later = leading_from keep f sites (suc i) rest

      turned : (v : Bool) → cond v later (y.site.argument ∷ later) ≡ cond (not v) (y.site.argument ∷ later) later
      turned true = refl
      turned false = refl

      by : (t v : Bool) → any (λ z. same_configuration z y.site.argument) earlier ≡ v → restricts keep f y ≡ t
          → ((seen : List Terms) → ((a : Terms) → any (λ z. same_configuration z a) seen ≡ ((restricts keep f y && same_configuration y.site.argument a) || any (λ z. restricts keep f z && same_configuration z.site.argument a) (take i sites)))
          → new_after same_configuration seen others ≡ later)
          → new_after same_configuration earlier (map argument_of (cond t (y ∷ select (restricts keep f) rest) (select (restricts keep f) rest))) ≡ cond (t && not v) (y.site.argument ∷ later) later
      by true v q r ih =
          ap (λ (u : Bool). cond u (new_after same_configuration (y.site.argument ∷ earlier) others) (y.site.argument ∷ new_after same_configuration (y.site.argument ∷ earlier) others)) q
          ∙ ap (λ (m : List Terms). cond v m (y.site.argument ∷ m)) (ih (y.site.argument ∷ earlier) (λ a. ap₂ (λ (t u : Bool). (t && same_configuration y.site.argument a) || u) (sym r) (h a)))
          ∙ turned v
      by false v q r ih = ih earlier (λ a. h a ∙ ap (λ (t : Bool). (t && same_configuration y.site.argument a) || any (λ z. restricts keep f z && same_configuration z.site.argument a) (take i sites)) (sym r))

  pub leading_restrictions : restrictions_at keep f sites ≡ leading_from keep f sites 0 sites
  unfolding entering_restrictions any
  leading_restrictions =
      restrictions_new (entering f (kept_sites keep sites))
      ∙ ap (new_after same_configuration []) (plain_arguments keep f sites)
      ∙ leading_new sites 0 [] refl (λ a. refl)

  -- ---- a walk over the sites that may lead

  leading_at : (i : ℕ) (y : Held) → get_elem? sites i ≡ some y → leading_from keep f sites i (drop i sites) ≡ cond (is_leading keep f sites i y) (y.site.argument ∷ leading_from keep f sites (suc i) (drop (suc i) sites)) (leading_from keep f sites (suc i) (drop (suc i) sites))
  unfolding leading_from
  leading_at i y e = ap (leading_from keep f sites i) (drop_element sites i y e)

  -- A site that is not listed does not lead.
  leading_not : (i : ℕ) (y : Held) → is_listed true f y ≡ false → is_leading keep f sites i y ≡ false
  unfolding is_leading restricts
  leading_not i y e = by (keep y.sentence) (is_listed true f y) (not (any (blocks keep f y) (take i sites))) e
    where
      by : (t u v : Bool) → u ≡ false → ((t && u) && v) ≡ false
      by true true v g = let z : ◌≡◌ {A = ℕ} 0 1 = cc in absurd (omega arith)
      by true false v g = refl
      by false u v g = refl

  pub leading_over : (d k : ℕ) → First (is_listed true f) k sites (d + k) → leading_from keep f sites k (drop k sites) ≡ leading_from keep f sites (d + k) (drop (d + k) sites)
  leading_over zero k h =
      let n : k ≡ 0 + k = omega arith in
      ap (λ (j : ℕ). leading_from keep f sites j (drop j sites)) n
  leading_over (suc d) k h =
      let y = element_at sites k (omega (arith, h.within)) in
      let n : d + suc k ≡ suc d + k = omega arith in
      leading_at k y.element y.is
      ∙ ap (λ (t : Bool). cond t (y.element.site.argument ∷ leading_from keep f sites (suc k) (drop (suc k) sites)) (leading_from keep f sites (suc k) (drop (suc k) sites))) (leading_not k y.element (h.none k y.element (omega arith) (omega arith) y.is))
      ∙ leading_over d (suc k) (subst (λ (j : ℕ). First (is_listed true f) (suc k) sites j) (sym n) (record { later = omega arith; within = h.within; none = λ j x a b e. h.none j x (omega arith) b e; found = h.found }))
      ∙ ap (λ (j : ℕ). leading_from keep f sites j (drop j sites)) n

  -- From one site of the list to the next.
  pub leading_next : (i n : ℕ) → First (is_listed true f) i sites n → leading_from keep f sites i (drop i sites) ≡ leading_from keep f sites n (drop n sites)
  leading_next i n h =
      let e : (n - i) + i ≡ n = omega (arith, h.later) in
      leading_over (n - i) i (subst (λ (j : ℕ). First (is_listed true f) i sites j) (sym e) h) ∙ ap (λ (j : ℕ). leading_from keep f sites j (drop j sites)) e

  pub leading_end : (i : ℕ) → length sites ≤ i → leading_from keep f sites i (drop i sites) ≡ []
  unfolding leading_from
  leading_end i h = ap (leading_from keep f sites i) (drop_of_length-le sites h)

  text_if : (t : Bool) (a : Terms) (l : List Terms) → flat_map angled_after (cond t (a ∷ l) l) ≡ angled_if t a ++ flat_map angled_after l
  unfolding angled_if flat_map
  text_if true a l = refl
  text_if false a l = refl

  pub leading_text : (i : ℕ) (y : Held) → get_elem? sites i ≡ some y → flat_map angled_after (leading_from keep f sites i (drop i sites)) ≡ angled_if (is_leading keep f sites i y) y.site.argument ++ flat_map angled_after (leading_from keep f sites (suc i) (drop (suc i) sites))
  leading_text i y e = ap (flat_map angled_after) (leading_at i y e) ∙ text_if (is_leading keep f sites i y) y.site.argument (leading_from keep f sites (suc i) (drop (suc i) sites))

-- ---- classes: of the sites of a list, those with the same first that they repeat are the same

module _ (f : Name) (z y : Held) (l : is_listed true f z ≡ true) where
  pub repeat-alike : same_configuration z.site.argument y.site.argument ≡ true → (u : Held) → is_repeat f z u ≡ is_repeat f y u
  unfolding is_repeat is_plain
  repeat-alike e u = by (is_listed true f u) refl
    where
      by : (t : Bool) → is_listed true f u ≡ t → (t && same_configuration u.site.argument z.site.argument) ≡ (t && same_configuration u.site.argument y.site.argument)
      by true h =
          let p = repeats_exactly u.site.argument z.site.argument (listed_plain f u h) in
          let q = repeats_exactly u.site.argument y.site.argument (listed_plain f u h) in
          let k = same_configuration_true z.site.argument y.site.argument e in
          same_test (same_configuration u.site.argument z.site.argument) (same_configuration u.site.argument y.site.argument) (λ s. q.1 (p.0 s ∙ k)) (λ s. p.1 (q.0 s ∙ sym k))
      by false h = refl

  module _ (sites : List Held) (c d : ℕ) (a : First (is_repeat f z) 0 sites c) (b : First (is_repeat f y) 0 sites d) where
    pub class-one : same_configuration z.site.argument y.site.argument ≡ true → c ≡ d
    class-one e = first_unique (record { later = a.later; within = a.within; none = λ k u p q g. sym (repeat-alike e u) ∙ a.none k u p q g; found = λ u g. sym (repeat-alike e u) ∙ a.found u g }) b

-- ---- the walk along a class

module _ (keep : ℕ → Bool) (f : Name) (y : Held) where
  pub blocks_not : (u : Held) → is_repeat f y u ≡ false → blocks keep f y u ≡ false
  unfolding is_repeat restricts
  blocks_not u e = by (keep u.sentence) (is_listed true f u) (same_configuration u.site.argument y.site.argument) e
    where
      by : (k l s : Bool) → (l && s) ≡ false → ((k && l) && s) ≡ false
      by true l s h = h
      by false l s h = refl

module _ {b : List ℕ} {w : Program} {m : List ℕ} {p : Plan} (d : Indexed b w m p) (f : ℕ) (x : Function) (e : get_elem? w.functions f ≡ some x) (keep : ℕ → Bool) (i : ℕ) (y : Held) (g : get_elem? (sites_of w) i ≡ some y) (l : is_listed true x.name y ≡ true) where
  pub leads_gone : keep (entry_sentence (get_or m (calls p + i) 0)) ≡ false → false ≡ is_leading keep x.name (sites_of w) i y
  unfolding is_leading restricts
  leads_gone k =
      sym (ap (λ (t : Bool). (t && is_listed true x.name y) && not (any (blocks keep x.name y) (take i (sites_of w)))) (sym (ap keep (number_is d f x e i y g)) ∙ k))

  there-listed : keep (entry_sentence (get_or m (calls p + i) 0)) ≡ true → restricts keep x.name y ≡ true
  unfolding restricts
  there-listed k = ap₂ (λ (t u : Bool). t && u) (sym (ap keep (number_is d f x e i y g)) ∙ k) l

  -- It is the first of its class.
  pub leads_first : (c : ℕ) → c ≡ entry_class (get_or m (links p + i) 0) → i ≤ c → keep (entry_sentence (get_or m (calls p + i) 0)) ≡ true → true ≡ is_leading keep x.name (sites_of w) i y
  unfolding is_leading
  leads_first c z q k =
      let h = subst (λ (n : ℕ). First (is_repeat x.name y) 0 (sites_of w) n) (sym z) ((d.classed f x e).class i y g l) in
      sym (ap₂ (λ (t u : Bool). t && not u) (there-listed k) (none-taken (blocks keep x.name y) (sites_of w) i (λ n u a s. blocks_not keep x.name y u (h.none n u (omega arith) (omega (arith, a, q)) s))))

  -- Whether an earlier one of its class is there.
  pub leads_unless : keep (entry_sentence (get_or m (calls p + i) 0)) ≡ true → (r : Bool) → r ≡ any (blocks keep x.name y) (take i (sites_of w)) → not r ≡ is_leading keep x.name (sites_of w) i y
  unfolding is_leading
  leads_unless k r q = ap₂ (λ (t u : Bool). t && not u) (sym (there-listed k)) q

-- The next site of the list after j.
pub next-listed : {b : List ℕ} {w : Program} {m : List ℕ} {p : Plan} (d : Indexed b w m p) (f : ℕ) (x : Function) (e : get_elem? w.functions f ≡ some x) (j : ℕ) (o : OnList x.name (sites_of w) j) (h : j < p.sites) (n : ℕ)
    → n ≡ entry_next (get_or m (links p + j) 0) → First (is_listed true x.name) (suc j) (sites_of w) n
next-listed {b} {w} {m} {p} d f x e j o h n z =
    let y = here_element d f x e j o h in
    subst (λ (k : ℕ). First (is_listed true x.name) (suc j) (sites_of w) k) (sym z) ((d.chained.chain true f x e).next j y.element (omega arith) y.is (here-listed d f x e j o h))
