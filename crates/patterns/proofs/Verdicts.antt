-- The three verdicts told apart.
use mathlib.Core.Path.{◌≡◌, refl, sym, subst}
use mathlib.Core.Bool.{Bool, true, false, true≢false}
use lib.Dec.{T}
use Rattle.patterns.specs.declared.Verdict.{Verdict}
use Rattle.patterns.specs.declared.Verdict.TheVariants.{Disjoint, Overlap, Unknown}

abbrev pub eq_verdict : Verdict → Verdict → Bool
eq_verdict Disjoint Disjoint = true
eq_verdict Disjoint Overlap = false
eq_verdict Disjoint Unknown = false
eq_verdict Overlap Disjoint = false
eq_verdict Overlap Overlap = true
eq_verdict Overlap Unknown = false
eq_verdict Unknown Disjoint = false
eq_verdict Unknown Overlap = false
eq_verdict Unknown Unknown = true

pub eq_verdict_true : (v w : Verdict) → eq_verdict v w ≡ true → v ≡ w
eq_verdict_true Disjoint Disjoint e = refl
eq_verdict_true Disjoint Overlap e = absurd (true≢false (sym e))
eq_verdict_true Disjoint Unknown e = absurd (true≢false (sym e))
eq_verdict_true Overlap Disjoint e = absurd (true≢false (sym e))
eq_verdict_true Overlap Overlap e = refl
eq_verdict_true Overlap Unknown e = absurd (true≢false (sym e))
eq_verdict_true Unknown Disjoint e = absurd (true≢false (sym e))
eq_verdict_true Unknown Overlap e = absurd (true≢false (sym e))
eq_verdict_true Unknown Unknown e = refl

pub disjoint≢overlap : Disjoint ≡ Overlap → ⊥
disjoint≢overlap e = subst (λ (v : Verdict). T (eq_verdict Disjoint v)) e tt

pub disjoint≢unknown : Disjoint ≡ Unknown → ⊥
disjoint≢unknown e = subst (λ (v : Verdict). T (eq_verdict Disjoint v)) e tt

pub overlap≢unknown : Overlap ≡ Unknown → ⊥
overlap≢unknown e = subst (λ (v : Verdict). T (eq_verdict Overlap v)) e tt
