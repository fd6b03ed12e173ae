-- One step by places of the body: which split it is, or which heads, and what stands behind them.
use Prim.Native.Nat.{ℕ, suc}
use mathlib.Core.Path.{◌≡◌, sym, ◌∙◌}
use mathlib.Core.Bool.{Bool, not}
use mathlib.Core.List.{List, [], ◌++◌}
use lib.ListN.{get_or, drop}
use Rattle.program.specs.Limits.{Mode}
use Rattle.image.specs.Parts.{TermsAt, tail}
use Rattle.rows.specs.Parts.{HeadAt}
use Rattle.rows.proofs.Readings.{is-empty, is_not_empty, is-absorbing, one-head, head_at}
use Rattle.overlap.proofs.Ways.{mark-at}
use Rattle.expression.specs.Walk.{meet_bytes, split_bytes, head_bytes}
use Rattle.expression.proofs.Meeting.{first_ends, second-ends, first-splits, second-splits, heads-meet}

module _ (b : List ℕ) (left right : ℕ) (swapped : Bool) (fuel : ℕ) (x : TermsAt Mode.pattern (drop left b)) (y : TermsAt Mode.pattern (drop right b)) where
  abbrev whole : List ℕ
  whole = meet_bytes swapped (suc fuel) x.terms y.terms

  pub left_closed : get_or b left 0 ≡ 15 → whole ≡ []
  left_closed m = first_ends swapped fuel x.terms y.terms (is-empty x (mark-at b left ∙ m))

  pub right_closed : get_or b right 0 ≡ 15 → whole ≡ []
  right_closed m = second-ends swapped fuel x.terms y.terms (is-empty y (mark-at b right ∙ m))

  pub left-splits : get_or b left 0 ≡ 6 → (get_or b right 0 ≡ 15 → ⊥) → whole ≡ split_bytes swapped fuel (tail x.terms) y.terms
  left-splits m n = first-splits swapped fuel x.terms y.terms (tail x.terms) (is-absorbing x (mark-at b left ∙ m)) (is_not_empty y (λ e. n (sym (mark-at b right) ∙ e)))

  module _ (m : get_or b left 0 ≡ 15 → ⊥) (n : get_or b left 0 ≡ 6 → ⊥) where
    pub left-head : HeadAt (drop left b)
    left-head = head_at x (λ e. m (sym (mark-at b left) ∙ e)) (λ e. n (sym (mark-at b left) ∙ e))

    pub right-splits : get_or b right 0 ≡ 6 → whole ≡ split_bytes (not swapped) fuel (tail y.terms) x.terms
    right-splits k =
        let h = one-head x (λ e. m (sym (mark-at b left) ∙ e)) (λ e. n (sym (mark-at b left) ∙ e)) in
        second-splits swapped fuel x.terms y.terms h.0 (tail x.terms) (tail y.terms) h.1 (is-absorbing y (mark-at b right ∙ k))

    module _ (k : get_or b right 0 ≡ 15 → ⊥) (l : get_or b right 0 ≡ 6 → ⊥) where
      pub right-head : HeadAt (drop right b)
      right-head = head_at y (λ e. k (sym (mark-at b right) ∙ e)) (λ e. l (sym (mark-at b right) ∙ e))

      pub heads-first : whole ≡ head_bytes swapped left-head.head right-head.head ++ meet_bytes swapped fuel (tail x.terms) (tail y.terms)
      unfolding left-head right-head
      heads-first = heads-meet swapped fuel x.terms y.terms left-head.head right-head.head (tail x.terms) (tail y.terms) left-head.is right-head.is
