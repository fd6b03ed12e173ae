-- What is left of a pattern where another is at its close.
use Prim.Native.Nat.{ℕ, ◌+◌}
use mathlib.Core.Path.{◌≡◌, ◌∙◌}
use mathlib.Core.List.{List}
use lib.ListN.{get_or}
use Rattle.program.specs.Encode.{put_terms}
use Rattle.program.specs.Limits.{Mode}
use Rattle.image.specs.Parts.{Passes, TermsAt, tail}
use Rattle.patterns.specs.declared.Verdict.TheVariants.{Disjoint, Overlap}
use Rattle.patterns.specs.Search.{View, leftover_overlap}
use Rattle.patterns.proofs.Unfold.{leftover_view}
use Rattle.rows.proofs.Readings.{part, is-empty, is-absorbing, one-head, next-at}

-- The terms from i on can stand for nothing exactly if all of them can.
pub record Leaving (s : List ℕ) (i : ℕ) (p : TermsAt Mode.pattern s) : Type 0 where
  pub there : TermsAt Mode.pattern (part s i)
  pub whole : leftover_overlap p.terms ≡ leftover_overlap there.terms

module _ {s : List ℕ} {i : ℕ} {p : TermsAt Mode.pattern s} (r : Leaving s i p) where
  pub leftover_next : get_or (part s i) 0 0 ≡ 6 → (n : ℕ) → Passes (part s i) n (put_terms (tail r.there.terms) r.there.rest) → Leaving s (i + n) p
  leftover_next m n h = record { there = next-at s i r.there n h; whole = r.whole ∙ leftover_view r.there.terms (View.absorbing (tail r.there.terms)) (is-absorbing r.there m) }

  pub leftover_all : get_or (part s i) 0 0 ≡ 15 → leftover_overlap p.terms ≡ Overlap
  leftover_all m = r.whole ∙ leftover_view r.there.terms View.nothing (is-empty r.there m)

  pub leftover_some : (get_or (part s i) 0 0 ≡ 15 → ⊥) → (get_or (part s i) 0 0 ≡ 6 → ⊥) → leftover_overlap p.terms ≡ Disjoint
  leftover_some m n = let h = one-head r.there m n in r.whole ∙ leftover_view r.there.terms (View.one h.0 (tail r.there.terms)) h.1
