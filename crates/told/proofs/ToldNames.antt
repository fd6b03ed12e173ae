-- The uncharacterised functions are those of the first round: later rounds have fewer sites, and so add no name.
use Prim.Native.Nat.{ℕ, zero, suc, ◌+◌, ◌<◌}
use native.Mathlib.Omega.{arith}
use mathlib.Core.Path.{◌≡◌, refl, sym, ap, ap₂, fun_ext, ◌∙◌}
use mathlib.Core.Bool.{Bool, true, false, ◌&&◌, ◌||◌, not, cond, false≢true, and-eq-true_iff, or-true}
use mathlib.Core.List.{List, [], ◌∷◌, ◌++◌, flat_map}
use lib.Dec.{eqb}
use Rattle.program.specs.Syntax.{Name, Terms, Function, Program}
use Rattle.program.specs.Encode.{sentence_count}
use Rattle.patterns.specs.Names.{same_name}
use Rattle.patterns.proofs.Names.{same_name_refl, same_name_trans}
use Rattle.meaning.specs.Lists.{any, firsts}
use Rattle.meaning.specs.Sites.{Site}
use Rattle.meaning.specs.Restrictions.{entering_restrictions}
use Rattle.meaning.specs.Dispatch.{residual_dispatches_dynamically}
use Rattle.told.specs.Numbered.{Held, sites_of}
use Rattle.told.specs.Calls.{is_listed}
use Rattle.meaning.specs.Root.{root_place}
use Rattle.meaning.specs.Cleaning.{Standing, restricted, standing, change, changes, Round, round, is_root, rounds}
use Rattle.meaning.specs.CleanReport.{name_if, uncharacterised}
use Rattle.told.specs.Kept.{kept_function, kept_functions, kept_program}
use Rattle.told.specs.KeptSites.{kept_sites}
use Rattle.told.specs.Asked.{uncharacterises}
use Rattle.told.specs.History.{is_there, start_of, rounds_told, Told}
use Rattle.told.specs.ToldReport.{uncharacterised_names}
use Rattle.told.proofs.KeptSites.{kept-sites}
use Rattle.told.proofs.Asked.{uncharacterised-is}
use Rattle.told.proofs.History.{there-first, told-rounds}
use Rattle.told.proofs.ReportLists.{Among, firsts-append}

-- ---- one function

name_open : (t : Bool) (rs : List Terms) (f : Name) → name_if (cond t (restricted rs) Standing.uncharacterised) f ≡ cond (not t) (f ∷ []) []
unfolding name_if restricted
name_open true [] f = refl
name_open true (r ∷ rs) f = refl
name_open false rs f = refl

name-is : (alone : Bool) (keep : ℕ → Bool) (f : Name) (sites : List Held) → name_if (standing alone (entering_restrictions f (kept_sites keep sites))) f ≡ cond (not alone && any (uncharacterises keep f) sites) (f ∷ []) []
unfolding standing name_if
name-is true keep f sites = refl
name-is false keep f sites =
    name_open (entering_restrictions f (kept_sites keep sites)).characterised (entering_restrictions f (kept_sites keep sites)).restrictions f
    ∙ (ap (λ (t : Bool). cond (not t) (f ∷ []) []) (uncharacterised-is keep f sites) ∙ ap (λ (t : Bool). cond t (f ∷ []) []) (twice (any (uncharacterises keep f) sites)))
  where
    twice : (t : Bool) → not (not t) ≡ t
    twice true = refl
    twice false = refl

-- ---- all functions

-- The names that a round adds when these sentences are kept.
unfoldable uncharacterised_at : (ℕ → Bool) → ℕ → List Held → ℕ → List Function → List Name
uncharacterised_at keep root sites k [] = []
uncharacterised_at keep root sites k (x ∷ fs) = cond (not (eqb k root) && any (uncharacterises keep x.name) sites) (x.name ∷ []) [] ++ uncharacterised_at keep root sites (suc k) fs

uncharacterised-first : (root : ℕ) (sites : List Held) (k : ℕ) (fs : List Function) → uncharacterised_at (λ s. true) root sites k fs ≡ uncharacterised_names root sites k fs
unfolding uncharacterised_at uncharacterised_names
uncharacterised-first root sites k [] = refl
uncharacterised-first root sites k (x ∷ fs) = by (not (eqb k root) && any (uncharacterises (λ s. true) x.name) sites) (uncharacterised-first root sites (suc k) fs)
  where
    by : (t : Bool) {a b : List Name} → a ≡ b → cond t (x.name ∷ []) [] ++ a ≡ cond t (x.name ∷ b) b
    by true e = ap (λ (l : List Name). x.name ∷ l) e
    by false e = e

any-more : {A : Type 0} (p q : A → Bool) → ((x : A) → p x ≡ true → q x ≡ true) → (l : List A) → any p l ≡ true → any q l ≡ true
unfolding any
any-more p q h [] e = e
any-more p q h (x ∷ l) e = by (p x) (q x) (h x) (any p l) (any q l) (any-more p q h l) e
  where
    by : (t u : Bool) → (t ≡ true → u ≡ true) → (a b : Bool) → (a ≡ true → b ≡ true) → (t || a) ≡ true → (u || b) ≡ true
    by true u f a b g e = ap (λ (z : Bool). z || b) (f refl)
    by false u f a b g e = ap (λ (z : Bool). u || z) (g e) ∙ or-true u

opens_more : (keep : ℕ → Bool) (f : Name) (sites : List Held) → any (uncharacterises keep f) sites ≡ true → any (uncharacterises (λ s. true) f) sites ≡ true
unfolding uncharacterises
opens_more keep f sites = any-more (uncharacterises keep f) (uncharacterises (λ s. true) f) (λ x e. ((and-eq-true_iff (keep x.sentence) (is_listed false f x)).0 e).1) sites

uncharacterised-among : (keep : ℕ → Bool) (root : ℕ) (sites : List Held) (k : ℕ) (fs : List Function) → Among (uncharacterised_at keep root sites k fs) (uncharacterised_names root sites k fs)
unfolding uncharacterised_at uncharacterised_names any
uncharacterised-among keep root sites k [] test e = e
uncharacterised-among keep root sites k (x ∷ fs) test e =
    by (eqb k root) (any (uncharacterises keep x.name) sites) (any (uncharacterises (λ s. true) x.name) sites) (opens_more keep x.name sites) (uncharacterised_at keep root sites (suc k) fs) (uncharacterised_names root sites (suc k) fs)
    (uncharacterised-among keep root sites (suc k) fs test) e
  where
    later : (t u v : Bool) → (u ≡ true → v ≡ true) → (t || u) ≡ true → (t || v) ≡ true
    later true u v f e = refl
    later false u v f e = f e

    by : (r t u : Bool) → (t ≡ true → u ≡ true) → (a b : List Name) → (any test a ≡ true → any test b ≡ true) → any test (cond (not r && t) (x.name ∷ []) [] ++ a) ≡ true → any test (cond (not r && u) (x.name ∷ b) b) ≡ true
    by true t u f a b g e = g e
    by false true true f a b g e = later (test x.name) (any test a) (any test b) g e
    by false true false f a b g e = absurd (false≢true (f refl))
    by false false true f a b g e = ap (λ (z : Bool). test x.name || z) (g e) ∙ or-true (test x.name)
    by false false false f a b g e = g e

-- ---- all rounds

names_by : Round → List Name
names_by r = flat_map (λ c. name_if c.standing c.function.name) r.changes

module _ (w : Program) where
  names-functions : (keep : ℕ → Bool) (sites : List Held) (k i : ℕ) (fs : List Function)
      → flat_map (λ c. name_if c.standing c.function.name) (changes (is_root w) (kept_sites keep sites) k (kept_functions keep i fs)) ≡ uncharacterised_at keep (root_place w) sites k fs
  unfolding flat_map changes change kept_functions kept_function uncharacterised_at is_root
  names-functions keep sites k i [] = refl
  names-functions keep sites k i (f ∷ fs) = ap₂ (λ (a b : List Name). a ++ b) (name-is (eqb k (root_place w)) keep f.name sites) (names-functions keep sites (suc k) (i + sentence_count f.sentences) fs)

  names-round : (fell : ℕ → ℕ) (r : ℕ) → names_by (round (is_root w) (start_of w fell r)) ≡ uncharacterised_at (is_there fell r) (root_place w) (sites_of w) 0 w.functions
  unfolding names_by round start_of kept_program
  names-round fell r =
      ap (λ (l : List Site). flat_map (λ c. name_if c.standing c.function.name) (changes (is_root w) l 0 (kept_functions (is_there fell r) 0 w.functions))) (sym (kept-sites (is_there fell r) w))
      ∙ names-functions (is_there fell r) (sites_of w) 0 0 w.functions

  names-first : (fell : ℕ → ℕ) → names_by (round (is_root w) (start_of w fell 1)) ≡ uncharacterised_names (root_place w) (sites_of w) 0 w.functions
  names-first fell =
      names-round fell 1
      ∙ (ap (λ (keep : ℕ → Bool). uncharacterised_at keep (root_place w) (sites_of w) 0 w.functions) (fun_ext (there-first fell)) ∙ uncharacterised-first (root_place w) (sites_of w) 0 w.functions)

  among-append : (a b l : List Name) → Among a l → Among b l → Among (a ++ b) l
  unfolding any
  among-append [] b l f g test e = g test e
  among-append (x ∷ a) b l f g test e = by (test x) (any test (a ++ b)) (f test) (among-append a b l (λ t h. f t (ap (λ (z : Bool). t x || z) h ∙ or-true (t x))) g test) e
    where
      by : (t u : Bool) → ((t || any test a) ≡ true → any test l ≡ true) → (u ≡ true → any test l ≡ true) → (t || u) ≡ true → any test l ≡ true
      by true u p q e = p refl
      by false u p q e = q e

  names-later : (fell : ℕ → ℕ) (n r : ℕ) → Among (flat_map names_by (rounds_told w fell r n)) (uncharacterised_names (root_place w) (sites_of w) 0 w.functions)
  unfolding flat_map rounds_told any
  names-later fell zero r = λ test e. absurd (false≢true e)
  names-later fell (suc n) r =
      among-append (names_by (round (is_root w) (start_of w fell r))) (flat_map names_by (rounds_told w fell (suc r) n)) (uncharacterised_names (root_place w) (sites_of w) 0 w.functions)
      (λ test e. uncharacterised-among (is_there fell r) (root_place w) (sites_of w) 0 w.functions test (sym (ap (any test) (names-round fell r)) ∙ e)) (names-later fell n (suc r))

  names-rounds : (fell : ℕ → ℕ) (n : ℕ) → 0 < n → firsts same_name (flat_map names_by (rounds_told w fell 1 n)) ≡ firsts same_name (uncharacterised_names (root_place w) (sites_of w) 0 w.functions)
  unfolding flat_map rounds_told
  names-rounds fell zero h = absurd (omega (arith, h))
  names-rounds fell (suc n) h =
      ap (λ (l : List Name). firsts same_name (l ++ flat_map names_by (rounds_told w fell 2 n))) (names-first fell)
      ∙ firsts-append same_name same_name_refl same_name_trans (uncharacterised_names (root_place w) (sites_of w) 0 w.functions) (flat_map names_by (rounds_told w fell 2 n)) (names-later fell n 2)

pub told-uncharacterised : (w : Program) (fell : ℕ → ℕ) (n : ℕ) → Told w fell n → residual_dispatches_dynamically w ≡ false
    → uncharacterised (rounds w) ≡ firsts same_name (uncharacterised_names (root_place w) (sites_of w) 0 w.functions)
unfolding uncharacterised names_by
told-uncharacterised w fell n t static = ap (λ (l : List Round). firsts same_name (flat_map names_by l)) (told-rounds w fell n t static) ∙ names-rounds w fell n t.some
