-- Document 01's numbers tell the case: a number that is no refusal's is 0.
use Prim.Native.Nat.{ℕ, ◌≤◌}
use native.Mathlib.Omega.{arith}
use mathlib.Core.Path.{◌≡◌, refl, sym, ap, subst, ◌∙◌}
use mathlib.Core.Logic.{◌⊎◌, inl, inr}
use mathlib.Core.List.{List, [], ◌∷◌, ◌++◌}
use lib.ListN.{length, length-append, length-drop, take, drop}
use Rattle.program.specs.Syntax.{Program}
use Rattle.program.specs.Sentences.{Sentence}
use Rattle.answers.specs.Answers.{OverlapAnswer}
use Rattle.answers.specs.Answers.{compare_patterns, overlap_answer, overlap_values}
use Rattle.answers.specs.CleanAnswers.{Lent, Left, written, clean_answer, clean_values}
use Rattle.answers.proofs.Exactly.{CleanRefuses, CleanAccepts, clean_refuses, clean_accepts, clean_case, clean_number, OverlapRefuses, OverlapAccepts, overlap_refuses, overlap_accepts, overlap_case, overlap_number}

module _ (image : List ℕ) (l : Lent) where
  pub clean_told : (clean_values (clean_answer image l).answer).number ≡ 0 → (w : Program) × CleanAccepts image l w
  unfolding clean_values
  clean_told e = by (clean_case image l)
    where
      by : ((n : ℕ) × (p : ℕ) × CleanRefuses image l n p) ⊎ ((w : Program) × CleanAccepts image l w) → (w : Program) × CleanAccepts image l w
      by (inl k) = let f = ap (λ (x : Left). (clean_values x.answer).number) (clean_refuses image l k.0 k.1 k.2) in let h = clean_number image l k.0 k.1 k.2 in absurd (omega (arith, e, f, h.0))
      by (inr k) = k

  pub clean_refused-told : (n p : ℕ) → 1 ≤ n → ((clean_values (clean_answer image l).answer).number ≡ n) × ((clean_values (clean_answer image l).answer).place ≡ p) → CleanRefuses image l n p
  unfolding clean_values
  clean_refused-told n p low e = by (clean_case image l)
    where
      by : ((m : ℕ) × (q : ℕ) × CleanRefuses image l m q) ⊎ ((w : Program) × CleanAccepts image l w) → CleanRefuses image l n p
      by (inl k) =
          let f = ap (λ (x : Left). (clean_values x.answer).number) (clean_refuses image l k.0 k.1 k.2) in
          let g = ap (λ (x : Left). (clean_values x.answer).place) (clean_refuses image l k.0 k.1 k.2) in
          subst (λ (m : ℕ). CleanRefuses image l m p) (sym f ∙ e.0) (subst (λ (q : ℕ). CleanRefuses image l k.0 q) (sym g ∙ e.1) k.2)
      by (inr k) = let f = ap (λ (x : Left). (clean_values x.answer).number) (clean_accepts image l k.0 k.1) in absurd (omega (arith, low, e.0, f))

module _ (image : List ℕ) (first second : ℕ) where
  pub overlap_told : (overlap_values (overlap_answer image first second)).number ≡ 0 → (x : Sentence) × (y : Sentence) × OverlapAccepts image first second x y
  unfolding overlap_values
  overlap_told e = by (overlap_case image first second)
    where
      some_number_lem : (n : ℕ) → (n ≡ 1) ⊎ ((4 ≤ n) × (n ≤ 11)) ⊎ (n ≡ 13) → 1 ≤ n
      some_number_lem n (inl h) = omega (arith, h)
      some_number_lem n (inr (inl h)) = omega (arith, h.0)
      some_number_lem n (inr (inr h)) = omega (arith, h)

      by : ((n : ℕ) × (p : ℕ) × OverlapRefuses image first second n p) ⊎ ((x : Sentence) × (y : Sentence) × OverlapAccepts image first second x y) → (x : Sentence) × (y : Sentence) × OverlapAccepts image first second x y
      by (inl k) =
          let f = ap (λ (x : OverlapAnswer). (overlap_values x).number) (overlap_refuses image first second k.0 k.1 k.2) in
          let h = some_number_lem k.0 (overlap_number image first second k.0 k.1 k.2) in
          absurd (omega (arith, e, f, h))
      by (inr k) = k

  pub overlap_refused-told : (n p : ℕ) → 1 ≤ n → ((overlap_values (overlap_answer image first second)).number ≡ n) × ((overlap_values (overlap_answer image first second)).place ≡ p) → OverlapRefuses image first second n p
  unfolding overlap_values compare_patterns
  overlap_refused-told n p low e = by (overlap_case image first second)
    where
      by : ((m : ℕ) × (q : ℕ) × OverlapRefuses image first second m q) ⊎ ((x : Sentence) × (y : Sentence) × OverlapAccepts image first second x y) → OverlapRefuses image first second n p
      by (inl k) =
          let f = ap (λ (x : OverlapAnswer). (overlap_values x).number) (overlap_refuses image first second k.0 k.1 k.2) in
          let g = ap (λ (x : OverlapAnswer). (overlap_values x).place) (overlap_refuses image first second k.0 k.1 k.2) in
          subst (λ (m : ℕ). OverlapRefuses image first second m p) (sym f ∙ e.0) (subst (λ (q : ℕ). OverlapRefuses image first second k.0 q) (sym g ∙ e.1) k.2)
      by (inr k) = let f = ap (λ (x : OverlapAnswer). (overlap_values x).number) (overlap_accepts image first second k.0 k.1 k.2) in absurd (omega (arith, low, e.0, f))

-- What is written at the start is found there again.
pub written_back : (s k : List ℕ) → take (length s) (s ++ drop (length s) k) ≡ s
written_back s k = go s (drop (length s) k)
  where
    go : (s r : List ℕ) → take (length s) (s ++ r) ≡ s
    go [] r = refl
    go (x ∷ s) r = ap (λ (t : List ℕ). x ∷ t) (go s r)

pub written-past : (s k : List ℕ) → drop (length s) (written s k) ≡ drop (length s) k
unfolding written
written-past s k = go s (drop (length s) k)
  where
    go : (s r : List ℕ) → drop (length s) (s ++ r) ≡ r
    go [] r = refl
    go (x ∷ s) r = go s r

pub written-length : (s k : List ℕ) → length s ≤ length k → length (written s k) ≡ length k
unfolding written
written-length s k h = let e = length-append s (drop (length s) k) in let f = length-drop (length s) k in omega (arith, h, e, f)
