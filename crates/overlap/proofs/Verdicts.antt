-- What a comparison of verdicts says, as the code writes it.
use mathlib.Core.Path.{◌≡◌, refl, sym, ap}
use mathlib.Core.Bool.{true, false, not, true≢false}
use denote.Enum.Bare.{sameb}
use Rattle.patterns.specs.contracts.Verdict.{the_type}
use Rattle.patterns.specs.declared.Verdict.{Verdict}
use Rattle.patterns.specs.declared.Verdict.TheVariants.{Disjoint, Overlap, Unknown}
use Rattle.overlap.specs.Steps.{is_overlap, is_disjoint}

pub same-overlap : (v : Verdict) → sameb the_type v Overlap ≡ is_overlap v
same-overlap Disjoint = refl
same-overlap Overlap = refl
same-overlap Unknown = refl

pub same-disjoint : (v : Verdict) → sameb the_type v Disjoint ≡ is_disjoint v
same-disjoint Disjoint = refl
same-disjoint Overlap = refl
same-disjoint Unknown = refl

pub not-overlap : (v : Verdict) → not (sameb the_type v Overlap) ≡ true → is_overlap v ≡ false
not-overlap Disjoint e = refl
not-overlap Overlap e = absurd (true≢false (sym e))
not-overlap Unknown e = refl

pub is-overlap : (v : Verdict) → not (sameb the_type v Overlap) ≡ false → is_overlap v ≡ true
is-overlap Disjoint e = absurd (true≢false e)
is-overlap Overlap e = refl
is-overlap Unknown e = absurd (true≢false e)

pub not-disjoint : (v : Verdict) → not (sameb the_type v Disjoint) ≡ not (is_disjoint v)
not-disjoint v = ap not (same-disjoint v)
