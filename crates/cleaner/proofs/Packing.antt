-- The fields of each kind of answer: they fit, and they are packed as the answer is.
use Prim.Native.Nat.{ℕ, ◌+◌, ◌*◌, ◌<◌}
use mathlib.Core.Path.{◌≡◌, sym, ap, subst, ◌∙◌}
use mathlib.Core.List.{List}
use Rattle.std.specs.Prelude.{Ok, Err}
use Rattle.program.specs.declared.Refusal.{Refusal}
use Rattle.answers.specs.CleanAnswers.{CleanAnswer}
use Rattle.answers.specs.declared.Lengths.{Lengths}
use Rattle.answers.specs.declared.Comparison.{Comparison}
use Rattle.answers.specs.Answers.{OverlapAnswer, overlap_answer, verdict_number}
use Rattle.answers.specs.Packed.{packed, FieldsFit, clean_fields, overlap_fields, pack_clean, pack_overlap, CleanFits}
use Rattle.program.specs.Bytes.{Bytes}
use Rattle.answers.specs.declared.Sharing.{Sharing}
use Rattle.answers.specs.ExpressionAnswers.{ExpressionAnswer, expression_answer, expression_fields, pack_expression}
use Rattle.answers.proofs.Fitting.{OverlapFits, overlap_fits}
use Rattle.answers.proofs.SharedExpression.{ExpressionFits, expression-fits}

-- ---- Clean

pub cleaned_fits : (r : CleanAnswer) (l : Lengths) → CleanFits r → r ≡ Ok l → FieldsFit 0 l.output l.report
unfolding clean_fields
cleaned_fits r l h e = subst CleanFits e h

pub refusal-fits : (r : CleanAnswer) (f : Refusal) → CleanFits r → r ≡ Err f → FieldsFit f.number 0 f.place
unfolding clean_fields
refusal-fits r f h e = subst CleanFits e h

pub cleaned_packed : (r s : CleanAnswer) (l : Lengths) → r ≡ Ok l → r ≡ s → packed 0 l.output l.report ≡ pack_clean s
unfolding clean_fields
cleaned_packed r s l e q = ap pack_clean (sym e ∙ q)

pub refusal-packed : (r s : CleanAnswer) (f : Refusal) → r ≡ Err f → r ≡ s → packed f.number 0 f.place ≡ pack_clean s
unfolding clean_fields
refusal-packed r s f e q = ap pack_clean (sym e ∙ q)

-- ---- Overlap

module _ (image : List ℕ) (first second : ℕ) (r : OverlapAnswer) (is : r ≡ overlap_answer image first second) where
  answer-fits : OverlapFits r
  answer-fits = subst OverlapFits (sym is) (overlap_fits image first second)

  pub compared_fits : (c : Comparison) (v : ℕ) → v ≡ verdict_number c.verdict → r ≡ Ok c → FieldsFit 0 v c.spent
  unfolding overlap_fields
  compared_fits c v u e = subst (λ (n : ℕ). FieldsFit 0 n c.spent) (sym u) (subst OverlapFits e answer-fits)

  pub no_comparison_fits : (f : Refusal) → r ≡ Err f → FieldsFit f.number 0 f.place
  unfolding overlap_fields
  no_comparison_fits f e = subst OverlapFits e answer-fits

  pub compared_packed : (c : Comparison) (v : ℕ) → v ≡ verdict_number c.verdict → r ≡ Ok c → packed 0 v c.spent ≡ pack_overlap (overlap_answer image first second)
  unfolding overlap_fields
  compared_packed c v u e = ap (λ (n : ℕ). packed 0 n c.spent) u ∙ ap pack_overlap (sym e ∙ is)

  pub no_comparison_packed : (f : Refusal) → r ≡ Err f → packed f.number 0 f.place ≡ pack_overlap (overlap_answer image first second)
  unfolding overlap_fields
  no_comparison_packed f e = ap pack_overlap (sym e ∙ is)

-- ---- Overlap with an expression

module _ (image : List ℕ) (bytes : Bytes image) (first second : ℕ) (lent : List ℕ) (r : ExpressionAnswer) (is : r ≡ (expression_answer image first second lent).answer) where
  sharing_fits : ExpressionFits image bytes first second lent r
  sharing_fits = subst (ExpressionFits image bytes first second lent) (sym is) (expression-fits image bytes first second lent)

  pub shared_fits : (c : Sharing) (v : ℕ) → v ≡ verdict_number c.verdict → r ≡ Ok c → FieldsFit 0 (v + 4 * c.spent) c.length
  unfolding expression_fields
  shared_fits c v u e = subst (λ (n : ℕ). FieldsFit 0 (n + 4 * c.spent) c.length) (sym u) (subst (ExpressionFits image bytes first second lent) e sharing_fits)

  pub shared_small : (c : Sharing) (v : ℕ) → v ≡ verdict_number c.verdict → r ≡ Ok c → v + 4 * c.spent < 65536
  shared_small c v u e = (shared_fits c v u e).middle-fits

  pub no_sharing_fits : (f : Refusal) → r ≡ Err f → FieldsFit f.number 0 f.place
  unfolding expression_fields
  no_sharing_fits f e = subst (ExpressionFits image bytes first second lent) e sharing_fits

  pub shared_packed : (c : Sharing) (v : ℕ) → v ≡ verdict_number c.verdict → r ≡ Ok c → packed 0 (v + 4 * c.spent) c.length ≡ pack_expression (expression_answer image first second lent).answer
  unfolding expression_fields
  shared_packed c v u e = ap (λ (n : ℕ). packed 0 (n + 4 * c.spent) c.length) u ∙ ap pack_expression (sym e ∙ is)

  pub no_sharing_packed : (f : Refusal) → r ≡ Err f → packed f.number 0 f.place ≡ pack_expression (expression_answer image first second lent).answer
  unfolding expression_fields
  no_sharing_packed f e = ap pack_expression (sym e ∙ is)
