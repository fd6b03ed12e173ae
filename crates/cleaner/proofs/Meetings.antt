-- What is left of two patterns, by the verdict of the search and the length that was counted.
use Prim.Native.Nat.{ℕ, ◌-◌, ◌<◌, ◌≤◌}
use native.Mathlib.Omega.{arith}
use mathlib.Core.Path.{◌≡◌, refl, sym, ap, ◌∙◌}
use mathlib.Core.List.{List, []}
use lib.ListN.{length}
use borrow.Author.Tests.{lt-ltb, le-ltb}
use Rattle.std.specs.Prelude.{Ok}
use Rattle.program.specs.Syntax.{Terms}
use Rattle.patterns.specs.declared.Verdict.{Verdict}
use Rattle.patterns.specs.declared.Verdict.TheVariants.{Disjoint, Overlap, Unknown}
use Rattle.patterns.specs.declared.Found.{Found}
use Rattle.patterns.specs.Marks.{put_expression}
use Rattle.patterns.specs.Search.{patterns_overlap, spent, sequence, start}
use Rattle.patterns.specs.Meet.{meet}
use Rattle.text.specs.Fill.{Emitted}
use Rattle.text.proofs.Fill.{filled-empty, filled-start}
use Rattle.answers.specs.CleanAnswers.{written}
use Rattle.answers.specs.ExpressionAnswers.{ExpressionLeft, expression_refused, refusing_expression, of_verdict, shared_expression, share_patterns}
use Rattle.cleaner.specs.Shared.{leaving}

-- Emitting into no bytes leaves none, and counts.
pub counted : (t : List ℕ) (r : ℕ) (last : List ℕ) → Emitted [] 0 t r last → (r ≡ length t) × (last ≡ [])
counted t r last e = (omega (arith, e.after), e.left ∙ filled-empty t 0)

not_overlap : (v : Verdict) → (v ≡ Overlap → ⊥) → (m : List ℕ) → (f : Verdict → List ℕ) → f Disjoint ≡ m → f Unknown ≡ m → f v ≡ m
not_overlap Disjoint h m f e g = e
not_overlap Overlap h m f e g = absurd (h refl)
not_overlap Unknown h m f e g = g

module _ (a b : Terms) (q : Found) (asked : q ≡ sequence start a b) (lent : List ℕ) where
  verdict-is : q.verdict ≡ patterns_overlap a b
  unfolding patterns_overlap
  verdict-is = ap (λ (z : Found). z.verdict) asked

  spent-is : 4096 - q.fuel ≡ spent a b
  unfolding spent
  spent-is = ap (λ (z : Found). 4096 - z.fuel) asked

  abbrev told : ℕ → List ℕ → ExpressionLeft
  told n bytes = leaving (Ok (record { verdict = q.verdict; spent = 4096 - q.fuel; length = n })) bytes

  fitting : (s : List ℕ) → shared_expression a b ≡ s → length s ≤ length lent → told (length s) (written s lent) ≡ share_patterns a b lent
  unfolding share_patterns
  fitting s e l =
      ap (λ (v : Verdict). leaving (Ok (record { verdict = v; spent = 4096 - q.fuel; length = length s })) (written s lent)) verdict-is
      ∙ ap (λ (n : ℕ). leaving (Ok (record { verdict = patterns_overlap a b; spent = n; length = length s })) (written s lent)) spent-is
      ∙ ap (λ (t : List ℕ). leaving (Ok (record { verdict = patterns_overlap a b; spent = spent a b; length = length t })) (written t lent)) (sym e)
      ∙ sym (rw (le-ltb (length lent) (length (shared_expression a b)) (omega (arith, l, ap length e))))

  pub nothing_shared : (q.verdict ≡ Overlap → ⊥) → told 0 lent ≡ share_patterns a b lent
  unfolding shared_expression of_verdict written
  nothing_shared h =
      let e : shared_expression a b ≡ [] = ap (λ (v : Verdict). of_verdict v (meet a b)) (sym verdict-is) ∙ not_overlap q.verdict h [] (λ v. of_verdict v (meet a b)) refl refl in
      fitting [] e (omega arith)

  module _ (h : q.verdict ≡ Overlap) where
    met : shared_expression a b ≡ put_expression (meet a b) []
    unfolding shared_expression of_verdict
    met = ap (λ (v : Verdict). of_verdict v (meet a b)) (sym verdict-is ∙ h)

    pub too_short : (n : ℕ) → n ≡ length (put_expression (meet a b) []) → length lent < n → leaving (expression_refused 17 0) lent ≡ share_patterns a b lent
    unfolding share_patterns refusing_expression
    too_short n e l = sym (rw (lt-ltb (length lent) (length (shared_expression a b)) (omega (arith, l, e, ap length met))))

    pub shared_written : (n : ℕ) (r : ℕ) (last : List ℕ) → n ≡ length (put_expression (meet a b) []) → (length lent < n → ⊥) → Emitted lent 0 (put_expression (meet a b) []) r last → told n last ≡ share_patterns a b lent
    unfolding written
    shared_written n r last e l w =
        let s = put_expression (meet a b) [] in
        ap (λ (k : ℕ). told k last) e ∙ ap (told (length s)) (w.left ∙ filled-start lent s (omega (arith, l, e))) ∙ fitting s met (omega (arith, l, e))
