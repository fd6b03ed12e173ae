-- Lists without repeats, as a loop can tell them: by what came before.
use mathlib.Core.Path.{◌≡◌, refl, sym, ap, ◌∙◌}
use mathlib.Core.Bool.{Bool, true, false, ◌||◌, cond, and-eq-true_iff, or-true}
use mathlib.Core.List.{List, [], ◌∷◌, ◌++◌, map}
use Rattle.program.specs.Syntax.{Name}
use Rattle.patterns.specs.Names.{eq_bytes, same_name}
use Rattle.patterns.proofs.Names.{eq_bytes_true, eq_bytes_refl, eq_bytes_trans, same_name_refl, same_name_trans}
use Rattle.meaning.specs.Lists.{any, firsts_after, firsts}
use Rattle.meaning.proofs.Earlier.{new_after, firsts_new}
use Rattle.meaning.specs.Text.{format_terms}
use Rattle.meaning.specs.CleanReport.{UndecidedSentence, UncoveredRestriction, same_undecided, same_uncovered, begins_with, dedup}
use Rattle.told.specs.ToldReport.{Fallen, same_fallen, runs_after}
use Rattle.told.proofs.Asked.{map-any}

-- ---- the first of each

-- The firsts of what is made of a list are made of its firsts, if the sameness goes along.
firsts_after-map : {A B : Type 0} (same : B → B → Bool) (g : A → B) (seen l : List A) → firsts_after same (map g seen) (map g l) ≡ map g (firsts_after (λ x y. same (g x) (g y)) seen l)
unfolding firsts_after
firsts_after-map same g seen [] = refl
firsts_after-map {A} {B} same g seen (x ∷ l) =
    ap (λ (t : Bool). cond t (firsts_after same (map g seen) (map g l)) (g x ∷ firsts_after same (g x ∷ map g seen) (map g l))) (map-any g (λ y. same y (g x)) seen)
    ∙ by (any (λ y. same (g y) (g x)) seen) (firsts_after (λ y z. same (g y) (g z)) seen l) (firsts_after (λ y z. same (g y) (g z)) (x ∷ seen) l) (firsts_after-map same g seen l) (firsts_after-map same g (x ∷ seen) l)
  where
    by : (t : Bool) (c d : List A) {a b : List B} → a ≡ map g c → b ≡ map g d → cond t a (g x ∷ b) ≡ map g (cond t c (x ∷ d))
    by true c d e f = e
    by false c d e f = ap (λ (m : List B). g x ∷ m) f

pub firsts-map : {A B : Type 0} (same : B → B → Bool) (g : A → B) (l : List A) → firsts same (map g l) ≡ map g (firsts (λ x y. same (g x) (g y)) l)
unfolding firsts
firsts-map same g l = firsts_after-map same g [] l

-- What passes a test in m, also passes it in l.
abbrev pub Among : {A : Type 0} → List A → List A → Type 0
Among m l = (test : _ → Bool) → any test m ≡ true → any test l ≡ true

module _ {A : Type 0} (same : A → A → Bool) (same_refl : (x : A) → same x x ≡ true) where
  or_left : (t u : Bool) → t ≡ true → (t || u) ≡ true
  or_left t u e = ap (λ (x : Bool). x || u) e

  or_right : (t u : Bool) → u ≡ true → (t || u) ≡ true
  or_right t u e = ap (λ (x : Bool). t || x) e ∙ or-true t

  nothing_new : (earlier m : List A) → Among m earlier → new_after same earlier m ≡ []
  unfolding new_after any
  nothing_new earlier [] h = refl
  nothing_new earlier (x ∷ m) h =
      ap (λ (t : Bool). cond t (new_after same (x ∷ earlier) m) (x ∷ new_after same (x ∷ earlier) m)) (h (λ y. same y x) (or_left (same x x) (any (λ y. same y x) m) (same_refl x)))
      ∙ nothing_new (x ∷ earlier) m (λ test e. or_right (test x) (any test earlier) (h test (or_right (test x) (any test m) e)))

  nothing-after : (earlier l m : List A) → ((test : A → Bool) → any test m ≡ true → (any test earlier || any test l) ≡ true) → new_after same earlier (l ++ m) ≡ new_after same earlier l
  unfolding new_after any
  nothing-after earlier [] m h = nothing_new earlier m (λ test e. by (any test earlier) (h test e))
    where
      by : (t : Bool) → (t || false) ≡ true → t ≡ true
      by true e = refl
      by false e = e
  nothing-after earlier (x ∷ l) m h =
      ap (λ (k : List A). cond (any (λ y. same y x) earlier) k (x ∷ k)) (nothing-after (x ∷ earlier) l m (λ test e. by (test x) (any test earlier) (any test l) (h test e)))
    where
      by : (t u v : Bool) → (u || (t || v)) ≡ true → ((t || u) || v) ≡ true
      by true u v e = refl
      by false u v e = e

  -- What was there before adds nothing.
  pub firsts-append : ((x y z : A) → same x y ≡ true → same y z ≡ true → same x z ≡ true) → (l m : List A) → Among m l → firsts same (l ++ m) ≡ firsts same l
  unfolding any
  firsts-append trans l m h =
      firsts_new same trans (l ++ m) (λ x k. same_refl x) ∙ (nothing-after [] l m h ∙ sym (firsts_new same trans l (λ x k. same_refl x)))

fallen_refl : (x : Fallen) → same_fallen x x ≡ true
unfolding same_fallen
fallen_refl x = (and-eq-true_iff (same_name x.function.name x.function.name) _).1 (same_name_refl x.function.name, eq_bytes_refl (format_terms x.sentence.pattern))

fallen_trans : (x y z : Fallen) → same_fallen x y ≡ true → same_fallen y z ≡ true → same_fallen x z ≡ true
unfolding same_fallen
fallen_trans x y z e f =
    let g = (and-eq-true_iff (same_name x.function.name y.function.name) (eq_bytes (format_terms x.sentence.pattern) (format_terms y.sentence.pattern))).0 e in
    let h = (and-eq-true_iff (same_name y.function.name z.function.name) (eq_bytes (format_terms y.sentence.pattern) (format_terms z.sentence.pattern))).0 f in
    (and-eq-true_iff (same_name x.function.name z.function.name) (eq_bytes (format_terms x.sentence.pattern) (format_terms z.sentence.pattern))).1 (
      same_name_trans x.function.name y.function.name z.function.name g.0 h.0,
      eq_bytes_trans (format_terms x.sentence.pattern) (format_terms y.sentence.pattern) (format_terms z.sentence.pattern) g.1 h.1,
    )

pub fallen_new : (l : List Fallen) → firsts same_fallen l ≡ new_after same_fallen [] l
fallen_new l = firsts_new same_fallen fallen_trans l (λ x m. fallen_refl x)

pub names_new : (l : List Name) → firsts same_name l ≡ new_after same_name [] l
names_new l = firsts_new same_name same_name_trans l (λ x m. same_name_refl x)

-- ---- neighbouring repeats

-- Neighbours that are the same are equal, so the first of a run is as good as the last.
module _ {A : Type 0} (same : A → A → Bool) (equal : (x y : A) → same x y ≡ true → x ≡ y) where
  dedup-after : (x : A) (l : List A) → dedup same (x ∷ l) ≡ x ∷ runs_after same (x ∷ []) l
  unfolding dedup begins_with runs_after any
  dedup-after x [] = refl
  dedup-after x (y ∷ l) = by (same x y) (equal x y) (dedup-after y l)
    where
      by : (t : Bool) → (t ≡ true → x ≡ y) → {a b : List A} → a ≡ y ∷ b → cond t a (x ∷ a) ≡ x ∷ cond (t || false) b (y ∷ b)
      by true e {a} {b} f = f ∙ ap (λ (z : A). z ∷ b) (sym (e refl))
      by false e f = ap (λ (m : List A). x ∷ m) f

  pub dedup_runs : (l : List A) → dedup same l ≡ runs_after same [] l
  unfolding dedup runs_after any
  dedup_runs [] = refl
  dedup_runs (x ∷ l) = dedup-after x l

undecided_equal : (x y : UndecidedSentence) → same_undecided x y ≡ true → x ≡ y
unfolding same_undecided
undecided_equal x y e =
    let h = (and-eq-true_iff (eq_bytes x.function y.function) (eq_bytes x.pattern y.pattern)).0 e in
    let f = eq_bytes_true x.function y.function h.0 in
    let p = eq_bytes_true x.pattern y.pattern h.1 in
    λ i. record { function = f i; pattern = p i }

uncovered_equal : (x y : UncoveredRestriction) → same_uncovered x y ≡ true → x ≡ y
unfolding same_uncovered
uncovered_equal x y e =
    let h = (and-eq-true_iff (eq_bytes x.function y.function) (eq_bytes x.input y.input)).0 e in
    let f = eq_bytes_true x.function y.function h.0 in
    let p = eq_bytes_true x.input y.input h.1 in
    λ i. record { function = f i; input = p i }

pub undecided-dedup : (l : List UndecidedSentence) → dedup same_undecided l ≡ runs_after same_undecided [] l
undecided-dedup = dedup_runs same_undecided undecided_equal

pub uncovered-dedup : (l : List UncoveredRestriction) → dedup same_uncovered l ≡ runs_after same_uncovered [] l
uncovered-dedup = dedup_runs same_uncovered uncovered_equal
