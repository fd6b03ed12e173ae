-- The search for an earlier sentence with the same text.
use Prim.Native.Nat.{◌+◌, ◌<◌, ℕ, ◌≤◌}
use native.Mathlib.Omega.{arith}
use mathlib.Core.Bool.{◌&&◌, Bool, false, not, true, ◌||◌}
use mathlib.Core.List.{List}
use mathlib.Core.Option.{some}
use mathlib.Core.Path.{ap, ap₂, refl, subst, sym, ◌∙◌, ◌≡◌}
use borrow.Author.Tests.{eq-eqb, eqb-false, eqb-true, le-ltb, lt-ltb, ne_eqb}
use lib.Dec.{eqb, ltb}
use lib.ListN.{get_elem?}
use Rattle.cleaning.proofs.Owned.{before_most}
use Rattle.cleaning.specs.Walks.{Owns}
use Rattle.program.specs.Sentences.{Sentence}
use Rattle.program.specs.Syntax.{Function, Program, Terms}
use Rattle.told.specs.Numbered.{sentences_before}
use Rattle.index.specs.declared.Plan.{Plan}
use Rattle.report.specs.Emitting.{Readable}
use Rattle.report.specs.Removed.{NonePrinting, prints}
use Rattle.program.proofs.Own.{own-counted}

-- ---- whether a sentence fell earlier

module _ (k t r s : ℕ) where
  pub early_never : k ≡ 0 → false ≡ (not (eqb k 0) && (ltb k r || (eqb k r && ltb t s)))
  early_never e = sym (ap (λ (u : Bool). not u && (ltb k r || (eqb k r && ltb t s))) (eq-eqb k 0 e))

  module _ (z : k ≡ 0 → ⊥) where
    pub early_round : k < r → true ≡ (not (eqb k 0) && (ltb k r || (eqb k r && ltb t s)))
    early_round h = sym (ap₂ (λ (u v : Bool). not u && (v || (eqb k r && ltb t s))) (ne_eqb k 0 z) (lt-ltb k r h))

    pub early_late : r ≤ k → (k ≡ r → ⊥) → false ≡ (not (eqb k 0) && (ltb k r || (eqb k r && ltb t s)))
    early_late h e =
        sym (ap₂ (λ (u v : Bool). not u && (v || (eqb k r && ltb t s))) (ne_eqb k 0 z) (le-ltb k r h) ∙ ap (λ (u : Bool). u && ltb t s) (ne_eqb k r e))

    pub early_same : r ≤ k → k ≡ r → ltb t s ≡ (not (eqb k 0) && (ltb k r || (eqb k r && ltb t s)))
    early_same h e =
        sym (ap₂ (λ (u v : Bool). not u && (v || (eqb k r && ltb t s))) (ne_eqb k 0 z) (le-ltb k r h) ∙ ap (λ (u : Bool). u && ltb t s) (eq-eqb k r e))

-- ---- a walk over numbers

module _ (fell : ℕ → ℕ) (r s : ℕ) (p : Terms) (xs : List Sentence) (from : ℕ) where
  pub none_first : (t : ℕ) → t ≤ from → NonePrinting fell r s p xs from t
  none_first t l = λ k u a b e. absurd (omega (arith, a, b, l))

  pub none-next : (t : ℕ) → NonePrinting fell r s p xs from t → ((u : Sentence) → get_elem? xs t ≡ some u → prints fell r s p t u.pattern ≡ false) → NonePrinting fell r s p xs from (t + 1)
  none-next t h g = λ k u a b e. by k u a b e (eqb k t) refl
    where
      by : (k : ℕ) (u : Sentence) → from ≤ k → k < t + 1 → get_elem? xs k ≡ some u → (v : Bool) → eqb k t ≡ v → prints fell r s p k u.pattern ≡ false
      by k u a b e true v = let z = eqb-true k t v in ap (λ (j : ℕ). prints fell r s p j u.pattern) z ∙ g u (ap (get_elem? xs) (sym z) ∙ e)
      by k u a b e false v = let z = eqb-false k t v in h k u a (omega (arith, b, z)) e

-- Of functions.
pub none-function : (fs : List Function) (P : ℕ → Function → Type 0) (g : ℕ) → ((h : ℕ) (v : Function) → h < g → get_elem? fs h ≡ some v → P h v) → ((v : Function) → get_elem? fs g ≡ some v → P g v)
    → (h : ℕ) (v : Function) → h < g + 1 → get_elem? fs h ≡ some v → P h v
none-function fs P g f n h v a e = by (eqb h g) refl
  where
    by : (t : Bool) → eqb h g ≡ t → P h v
    by true z = let q = eqb-true h g z in subst (λ (j : ℕ). P j v) (sym q) (n v (ap (get_elem? fs) (sym q) ∙ e))
    by false z = let q = eqb-false h g z in f h v (omega (arith, a, q)) e

-- ---- bounds

pub sentences-within : {b : List ℕ} {w : Program} {m : List ℕ} {p : Plan} → Readable b w m p → (f : ℕ) → sentences_before f w.functions ≤ p.sentences
sentences-within {b} {w} {m} {p} d f = omega (arith, before_most w.functions f, own-counted w.functions, d.indexed.sentences)

-- A sentence s of the f-th function x.
pub record Owned (w : Program) (f : ℕ) (x : Function) (s : ℕ) : Type 0 where
  pub sentence : Sentence
  pub owns : Owns w f x s sentence
