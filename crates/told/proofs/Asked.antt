-- What a round asks of the sites collected once is what the restrictions of the program that is left say.
use Prim.Native.Nat.{ℕ}
use mathlib.Core.Path.{◌≡◌, refl, ap, ap₂, fun_ext, ◌∙◌}
use mathlib.Core.Bool.{Bool, true, false, ◌&&◌, ◌||◌, not, cond, true≢false, false≢true, and-eq-true_iff, and-true}
use mathlib.Core.List.{List, [], ◌∷◌, map}
use Rattle.program.specs.Syntax.{Name, Terms}
use Rattle.patterns.specs.Names.{same_name}
use Rattle.patterns.proofs.Tests.{same_test}
use Rattle.patterns.specs.Search.{patterns_overlap}
use Rattle.patterns.specs.Configuration.{same_configuration}
use Rattle.meaning.specs.Lists.{all, any, select, firsts}
use Rattle.meaning.specs.Sites.{Site, restriction_is_characterisable}
use Rattle.meaning.specs.Restrictions.{entering, entering_restrictions}
use Rattle.told.specs.Numbered.{Held}
use Rattle.meaning.proofs.Lists.{any_some, in_any, firsts_in, firsts-some}
use Rattle.meaning.proofs.Verdicts.{same-verdict}
use Rattle.meaning.specs.Cleaning.{is_disjoint, Standing, restricted, standing, rejected}
use Rattle.told.specs.KeptSites.{kept_sites}
use Rattle.told.specs.Calls.{is_call_of, is_plain, is_listed}
use Rattle.told.specs.Asked.{uncharacterises, restricts, is_met, meets, is_judged, is_rejected}

-- A test of all, of those selected, and of the first of each, as a test of some.
pub all_any : {A : Type 0} (test : A → Bool) (l : List A) → all test l ≡ not (any (λ x. not (test x)) l)
unfolding all any
all_any test [] = refl
all_any test (x ∷ l) = by (test x) (all_any test l)
  where
    by : (t : Bool) → all test l ≡ not (any (λ y. not (test y)) l) → (t && all test l) ≡ not (not t || any (λ y. not (test y)) l)
    by true e = e
    by false e = refl

pub select-any : {A : Type 0} (pass test : A → Bool) (l : List A) → any test (select pass l) ≡ any (λ x. pass x && test x) l
unfolding any select
select-any pass test [] = refl
select-any pass test (x ∷ l) = by (pass x) (select-any pass test l)
  where
    by : (t : Bool) → any test (select pass l) ≡ any (λ y. pass y && test y) l → any test (cond t (x ∷ select pass l) (select pass l)) ≡ (t && test x || any (λ y. pass y && test y) l)
    by true e = ap (λ (u : Bool). test x || u) e
    by false e = e

pub firsts-any : {A : Type 0} (same : A → A → Bool) (test : A → Bool) (l : List A) → ((y x : A) → same y x ≡ true → test y ≡ test x) → any test (firsts same l) ≡ any test l
firsts-any same test l shared =
    same_test (any test (firsts same l)) (any test l)
    (λ e. let s = any_some (λ x. test x ≡ true) test (firsts same l) e (λ x t. t) in in_any test l s.0 (firsts_in same l s.0 s.1) s.2)
    (λ e.
    let s = any_some (λ x. test x ≡ true) test l e (λ x t. t) in
    let t = firsts-some same (λ x. test x ≡ true) (λ y x h k. shared y x h ∙ k) l s.0 s.1 s.2 in
    in_any test (firsts same l) t.0 t.1 t.2)

pub map-any : {A B : Type 0} (g : A → B) (test : B → Bool) (l : List A) → any test (map g l) ≡ any (λ x. test (g x)) l
unfolding any
map-any g test [] = refl
map-any g test (x ∷ l) = ap (λ (u : Bool). test (g x) || u) (map-any g test l)

pub kept_any : (keep : ℕ → Bool) (test : Site → Bool) (sites : List Held) → any test (kept_sites keep sites) ≡ any (λ x. keep x.sentence && test x.site) sites
unfolding any kept_sites
kept_any keep test [] = refl
kept_any keep test (x ∷ sites) = by (keep x.sentence) (kept_any keep test sites)
  where
    by : (t : Bool) → any test (kept_sites keep sites) ≡ any (λ y. keep y.sentence && test y.site) sites
        → any test (cond t (x.site ∷ kept_sites keep sites) (kept_sites keep sites)) ≡ (t && test x.site || any (λ y. keep y.sentence && test y.site) sites)
    by true e = ap (λ (u : Bool). test x.site || u) e
    by false e = e

-- Some restriction.
unfoldable pub is_restricted : List Terms → Bool
is_restricted rs = any (λ r. true) rs

-- A standing by its two tests.
standing-rejected : (t : Bool) (rs : List Terms) (p : Terms)
    → rejected (cond t (restricted rs) Standing.uncharacterised) p ≡ (t && is_restricted rs && all (λ r. is_disjoint (patterns_overlap p r)) rs)
unfolding rejected restricted is_restricted any
standing-rejected true [] p = refl
standing-rejected true (r ∷ rs) p = refl
standing-rejected false rs p = refl

standing-restricted : (t : Bool) (rs : List Terms) → t ≡ true → is_restricted rs ≡ true → cond t (restricted rs) Standing.uncharacterised ≡ Standing.judged_by rs
unfolding restricted is_restricted any
standing-restricted true [] e h = absurd (false≢true h)
standing-restricted true (r ∷ rs) e h = refl
standing-restricted false rs e h = absurd (false≢true e)

standing_unrestricted : (t : Bool) (rs : List Terms) → t ≡ true → is_restricted rs ≡ false → cond t (restricted rs) Standing.uncharacterised ≡ Standing.passed_over
unfolding restricted is_restricted any
standing_unrestricted true [] e h = refl
standing_unrestricted true (r ∷ rs) e h = absurd (true≢false h)
standing_unrestricted false rs e h = absurd (false≢true e)

standing-uncharacterised : (t : Bool) (rs : List Terms) → t ≡ false → cond t (restricted rs) Standing.uncharacterised ≡ Standing.uncharacterised
standing-uncharacterised true rs e = absurd (true≢false e)
standing-uncharacterised false rs e = refl

module _ (keep : ℕ → Bool) (f : Name) (sites : List Held) where
  -- An argument that enters f is that of a site that is there and calls f.
  pub entering-any : (test : Terms → Bool) → any test (entering f (kept_sites keep sites)) ≡ any (λ x. keep x.sentence && (is_call_of f x && test x.site.argument)) sites
  unfolding entering is_call_of
  entering-any test =
      map-any (λ x. x.argument) test (select (λ x. same_name x.callee f) (kept_sites keep sites))
      ∙ select-any (λ x. same_name x.callee f) (λ x. test x.argument) (kept_sites keep sites)
      ∙ kept_any keep (λ x. same_name x.callee f && test x.argument) sites

  pub uncharacterised-is : (entering_restrictions f (kept_sites keep sites)).characterised ≡ not (any (uncharacterises keep f) sites)
  unfolding entering_restrictions uncharacterises is_listed is_plain
  uncharacterised-is = all_any restriction_is_characterisable (entering f (kept_sites keep sites)) ∙ ap not (entering-any (λ a. not (restriction_is_characterisable a)))

  -- A test that repeats pass alike.
  pub restrictions-any : (test : Terms → Bool) → ((a b : Terms) → same_configuration a b ≡ true → test a ≡ test b)
      → any test (entering_restrictions f (kept_sites keep sites)).restrictions ≡ any (λ x. restricts keep f x && test x.site.argument) sites
  unfolding entering_restrictions restricts is_listed is_plain
  restrictions-any test shared =
      firsts-any same_configuration test (select restriction_is_characterisable (entering f (kept_sites keep sites))) shared
      ∙ select-any restriction_is_characterisable test (entering f (kept_sites keep sites))
      ∙ entering-any (λ a. restriction_is_characterisable a && test a)
      ∙ ap (λ (g : Held → Bool). any g sites) (fun_ext (λ x. regroup (keep x.sentence) (is_call_of f x) (restriction_is_characterisable x.site.argument) (test x.site.argument)))
    where
      regroup : (a b c d : Bool) → (a && (b && (c && d))) ≡ ((a && (b && c)) && d)
      regroup true true c d = refl
      regroup true false c d = refl
      regroup false b c d = refl

  pub restricted-is : is_restricted (entering_restrictions f (kept_sites keep sites)).restrictions ≡ any (restricts keep f) sites
  unfolding is_restricted
  restricted-is = restrictions-any (λ a. true) (λ a b e. refl) ∙ ap (λ (g : Held → Bool). any g sites) (fun_ext (λ x. and-true (restricts keep f x)))

  -- "Disjoint from every restriction of its function": of repeats one verdict stands for all.
  pub disjoint_is : (p : Terms) → all (λ r. is_disjoint (patterns_overlap p r)) (entering_restrictions f (kept_sites keep sites)).restrictions ≡ not (any (meets keep f p) sites)
  unfolding meets is_met
  disjoint_is p =
      all_any (λ r. is_disjoint (patterns_overlap p r)) (entering_restrictions f (kept_sites keep sites)).restrictions
      ∙ ap not (restrictions-any (λ r. not (is_disjoint (patterns_overlap p r))) (λ a b e. ap (λ v. not (is_disjoint v)) (same-verdict p a b e)))

  pub standing_open : any (uncharacterises keep f) sites ≡ true → standing false (entering_restrictions f (kept_sites keep sites)) ≡ Standing.uncharacterised
  unfolding standing
  standing_open e =
      standing-uncharacterised (entering_restrictions f (kept_sites keep sites)).characterised (entering_restrictions f (kept_sites keep sites)).restrictions (uncharacterised-is ∙ ap not e)

  pub standing_passed : any (uncharacterises keep f) sites ≡ false → any (restricts keep f) sites ≡ false → standing false (entering_restrictions f (kept_sites keep sites)) ≡ Standing.passed_over
  unfolding standing
  standing_passed e h =
      standing_unrestricted (entering_restrictions f (kept_sites keep sites)).characterised (entering_restrictions f (kept_sites keep sites)).restrictions (uncharacterised-is ∙ ap not e) (restricted-is ∙ h)

  pub standing_judged : is_judged keep f sites ≡ true
      → standing false (entering_restrictions f (kept_sites keep sites)) ≡ Standing.judged_by (entering_restrictions f (kept_sites keep sites)).restrictions
  unfolding standing is_judged
  standing_judged e =
      let h = (and-eq-true_iff (not (any (uncharacterises keep f) sites)) (any (restricts keep f) sites)).0 e in
      standing-restricted (entering_restrictions f (kept_sites keep sites)).characterised (entering_restrictions f (kept_sites keep sites)).restrictions (uncharacterised-is ∙ h.0) (restricted-is ∙ h.1)

  asked_is : (p : Terms) → rejected (standing false (entering_restrictions f (kept_sites keep sites))) p ≡ is_rejected keep f sites p
  unfolding standing is_rejected is_judged
  asked_is p =
      standing-rejected (entering_restrictions f (kept_sites keep sites)).characterised (entering_restrictions f (kept_sites keep sites)).restrictions p
      ∙ ap₂ (λ (t u : Bool). t && u) (ap₂ (λ (t u : Bool). t && u) uncharacterised-is restricted-is) (disjoint_is p)

pub rejected-is : (alone : Bool) (keep : ℕ → Bool) (f : Name) (sites : List Held) (p : Terms)
    → rejected (standing alone (entering_restrictions f (kept_sites keep sites))) p ≡ (not alone && is_rejected keep f sites p)
unfolding standing rejected
rejected-is true keep f sites p = refl
rejected-is false keep f sites p = asked_is keep f sites p
