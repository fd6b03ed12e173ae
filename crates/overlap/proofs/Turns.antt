-- The search one turn of its loops at a time: the invariant is that what is left answers as the whole.
use Prim.Native.Nat.{ℕ, suc, ◌-◌, ◌<◌, ◌≤◌}
use native.Mathlib.Omega.{arith}
use mathlib.Core.Path.{◌≡◌, refl, sym, ap, ◌∙◌}
use mathlib.Core.Bool.{true, false, true≢false}
use mathlib.Core.List.{List, [], ◌∷◌}
use lib.ListN.{get_or}
use Rattle.program.specs.Syntax.{s_kind, t_kind, e_kind, Terms, nil, symbol, variable, bracket, call, block}
use Rattle.program.specs.Encode.{put_terms}
use Rattle.program.specs.Limits.{Mode}
use Rattle.image.specs.Parts.{Passes, TermsAt, tail}
use Rattle.patterns.specs.declared.Verdict.{Verdict}
use Rattle.patterns.specs.declared.Verdict.TheVariants.{Disjoint, Overlap, Unknown}
use Rattle.patterns.specs.declared.Found.{Found}
use Rattle.patterns.specs.Search.{found, View, view, leftover_overlap, ends, after_split, splits_from, absorbing_split, overlap_of_terms, after_unknown, after_heads, sequence}
use Rattle.overlap.specs.Steps.{is_overlap, is_disjoint, remembered, behind}
use Rattle.patterns.proofs.Unfold.{no_fuel, absorbing-begins, one-begins, empty-first, empty-second, first_absorbs, second_absorbs, heads_compared}
use Rattle.patterns.proofs.Verdicts.{disjoint≢unknown}
use Rattle.rows.proofs.Readings.{part, is-empty, is_not_empty, is-absorbing, one-head, rest_at}

-- Verdicts behind verdicts.
behind-apart : (h v : Verdict) (f : ℕ) (tails : ℕ → Found) → (h ≡ Disjoint → ⊥) → is_disjoint v ≡ true → behind h (after_heads v f tails) ≡ found Disjoint f
behind-apart Disjoint v f tails n e = absurd (n refl)
behind-apart Overlap Disjoint f tails n e = refl
behind-apart Overlap Overlap f tails n e = absurd (true≢false (sym e))
behind-apart Overlap Unknown f tails n e = absurd (true≢false (sym e))
behind-apart Unknown Disjoint f tails n e = refl
behind-apart Unknown Overlap f tails n e = absurd (true≢false (sym e))
behind-apart Unknown Unknown f tails n e = absurd (true≢false (sym e))

unknown_twice : (v : Verdict) → after_unknown (after_unknown v) ≡ after_unknown v
unknown_twice Disjoint = refl
unknown_twice Overlap = refl
unknown_twice Unknown = refl

behind-both : (h v : Verdict) (f : ℕ) (tails : ℕ → Found) → (h ≡ Disjoint → ⊥) → is_disjoint v ≡ false → behind h (after_heads v f tails) ≡ behind (remembered h v) (tails f)
behind-both Disjoint v f tails n e = absurd (n refl)
behind-both Overlap Disjoint f tails n e = absurd (true≢false e)
behind-both Overlap Overlap f tails n e = refl
behind-both Overlap Unknown f tails n e = refl
behind-both Unknown Disjoint f tails n e = absurd (true≢false e)
behind-both Unknown Overlap f tails n e = refl
behind-both Unknown Unknown f tails n e = ap (λ (v : Verdict). found v (tails f).fuel) (unknown_twice (tails f).verdict)

still_going : (h v : Verdict) → (h ≡ Disjoint → ⊥) → remembered h v ≡ Disjoint → ⊥
still_going h Disjoint n e = n e
still_going h Overlap n e = n e
still_going h Unknown n e = disjoint≢unknown (sym e)

behind_unknown : (h : Verdict) (f : ℕ) → (h ≡ Disjoint → ⊥) → behind h (found Unknown f) ≡ found Unknown f
behind_unknown Disjoint f n = absurd (n refl)
behind_unknown Overlap f n = refl
behind_unknown Unknown f n = refl

-- The heads so far have been passed; the two sequences that x and y start with answer, behind them, as the whole.
pub record Reached (fuel : ℕ) (x y : List ℕ) (left : ℕ) (heads : Verdict) (p q : Terms) : Type 0 where
  pub first : TermsAt Mode.pattern x
  pub second : TermsAt Mode.pattern y
  pub going : heads ≡ Disjoint → ⊥
  pub whole : sequence fuel p q ≡ behind heads (sequence left first.terms second.terms)

less_one : (f : ℕ) → 0 < f → f ≡ suc (f - 1)
less_one f h = omega arith

module _ {fuel : ℕ} {x y : List ℕ} {left : ℕ} {heads : Verdict} {p q : Terms} (r : Reached fuel x y left heads p q) where
  abbrev a : Terms
  a = r.first.terms

  abbrev c : Terms
  c = r.second.terms

  pub reached_out : left ≤ 0 → sequence fuel p q ≡ found Unknown 0
  reached_out l =
      let z : left ≡ 0 = omega arith in
      r.whole ∙ ap (λ (f : ℕ). behind heads (sequence f a c)) z ∙ ap (behind heads) (no_fuel a c) ∙ behind_unknown heads 0 r.going

  module _ (l : 0 < left) where
    turn : (w : Found) → sequence (suc (left - 1)) a c ≡ w → sequence fuel p q ≡ behind heads w
    turn w e = r.whole ∙ ap (λ (f : ℕ). behind heads (sequence f a c)) (less_one left l) ∙ ap (behind heads) e

    pub first_closed : get_or x 0 0 ≡ 15 → sequence fuel p q ≡ behind heads (found (leftover_overlap c) (left - 1))
    first_closed m = turn _ (empty-first (left - 1) a c (is-empty r.first m))

    pub second_closed : get_or y 0 0 ≡ 15 → sequence fuel p q ≡ behind heads (found (leftover_overlap a) (left - 1))
    second_closed m = turn _ (empty-second (left - 1) a c (is-empty r.second m))

    pub first_split : get_or x 0 0 ≡ 6 → (get_or y 0 0 ≡ 15 → ⊥) → sequence fuel p q ≡ behind heads (absorbing_split sequence (left - 1) (tail a) c)
    first_split m n = turn _ (first_absorbs (left - 1) a c (tail a) (is-absorbing r.first m) (is_not_empty r.second n))

    pub second_split : (get_or x 0 0 ≡ 15 → ⊥) → (get_or x 0 0 ≡ 6 → ⊥) → get_or y 0 0 ≡ 6 → sequence fuel p q ≡ behind heads (absorbing_split sequence (left - 1) (tail c) a)
    second_split m n k =
        let h = one-head r.first m n in
        turn _ (second_absorbs (left - 1) a c (tail a) (tail c) h.0 h.1 (is-absorbing r.second k))

    -- Two heads, neither an `e.` variable nor a close, with the verdict v.
    module _ (m : get_or x 0 0 ≡ 15 → ⊥) (n : get_or x 0 0 ≡ 6 → ⊥) (m' : get_or y 0 0 ≡ 15 → ⊥) (n' : get_or y 0 0 ≡ 6 → ⊥)
        (v : Verdict) (e : v ≡ overlap_of_terms sequence (one-head r.first m n).0 (one-head r.second m' n').0) where
      compared : sequence fuel p q ≡ behind heads (after_heads v (left - 1) (λ g. sequence g (tail a) (tail c)))
      compared =
          let h = one-head r.first m n in
          let k = one-head r.second m' n' in
          turn _ (heads_compared (left - 1) a c (tail a) (tail c) h.0 k.0 h.1 k.1
          ∙ ap (λ (w : Verdict). after_heads w (left - 1) (λ g. sequence g (tail a) (tail c))) (sym e))

      pub heads-apart : is_disjoint v ≡ true → sequence fuel p q ≡ found Disjoint (left - 1)
      heads-apart h = compared ∙ behind-apart heads v (left - 1) _ r.going h

      pub heads-passed : is_disjoint v ≡ false → (i : ℕ) → Passes x i (put_terms (tail a) r.first.rest) → (j : ℕ) → Passes y j (put_terms (tail c) r.second.rest)
          → Reached fuel (part x i) (part y j) (left - 1) (remembered heads v) p q
      heads-passed h i d j k = record {
        first = rest_at r.first i d;
        second = rest_at r.second j k;
        going = still_going heads v r.going;
        whole = compared ∙ behind-both heads v (left - 1) _ r.going h;
      }

-- The splits so far have been tried; those from the tail x on, with the verdict so far, answer as all.
pub record Splitting (fuel : ℕ) (x : List ℕ) (left : ℕ) (verdict : Verdict) (p q : Terms) : Type 0 where
  pub there : TermsAt Mode.pattern x
  pub whole : absorbing_split sequence fuel p q ≡ splits_from sequence p (ends there.terms) verdict left

split_overlap : (f : ℕ) (r o : Terms) (os : List Terms) (v : Verdict) (q : Found) → q ≡ sequence f r o → is_overlap q.verdict ≡ true → splits_from sequence r (o ∷ os) v f ≡ q
unfolding splits_from
split_overlap f r o os v q e h =
    ap (λ (z : Found). after_split z.verdict z.fuel v (λ w g. splits_from sequence r os w g)) (sym e) ∙ go q.verdict refl h
  where
    go : (w : Verdict) → q.verdict ≡ w → is_overlap w ≡ true → after_split w q.fuel v (λ w g. splits_from sequence r os w g) ≡ q
    go Disjoint s h = absurd (true≢false (sym h))
    go Overlap s h = ap (λ (w : Verdict). found w q.fuel) (sym s)
    go Unknown s h = absurd (true≢false (sym h))

split_on : (f : ℕ) (r o : Terms) (os : List Terms) (v : Verdict) (q : Found) → q ≡ sequence f r o → is_overlap q.verdict ≡ false
    → splits_from sequence r (o ∷ os) v f ≡ splits_from sequence r os (remembered v q.verdict) q.fuel
unfolding splits_from
split_on f r o os v q e h =
    ap (λ (z : Found). after_split z.verdict z.fuel v (λ w g. splits_from sequence r os w g)) (sym e) ∙ go q.verdict h
  where
    go : (w : Verdict) → is_overlap w ≡ false → after_split w q.fuel v (λ w g. splits_from sequence r os w g) ≡ splits_from sequence r os (remembered v w) q.fuel
    go Disjoint h = refl
    go Overlap h = absurd (true≢false h)
    go Unknown h = refl

pub splitting_first : {x : List ℕ} (fuel : ℕ) (p : Terms) (there : TermsAt Mode.pattern x) → Splitting fuel x fuel Disjoint p there.terms
unfolding absorbing_split
splitting_first fuel p there = record { there = there; whole = refl }

pub ends-first : (t : Terms) → (os : List Terms) × (ends t ≡ t ∷ os)
unfolding ends
ends-first nil = ([], refl)
ends-first (symbol s x r) = (ends r, refl)
ends-first (variable s k n r) = (ends r, refl)
ends-first (bracket s i r) = (ends r, refl)
ends-first (call s f a r) = (ends r, refl)
ends-first (block s a b r) = (ends r, refl)

pub ends_last : (t : Terms) → view t ≡ View.nothing → ends t ≡ t ∷ []
unfolding ends view
ends_last nil e = refl
ends_last (symbol s x r) e = absurd (one-begins e)
ends_last (variable s s_kind n r) e = absurd (one-begins e)
ends_last (variable s t_kind n r) e = absurd (one-begins e)
ends_last (variable s e_kind n r) e = absurd (absorbing-begins e)
ends_last (bracket s i r) e = absurd (one-begins e)
ends_last (call s f a r) e = absurd (one-begins e)
ends_last (block s a b r) e = absurd (one-begins e)

pub ends_more : (t : Terms) → (view t ≡ View.nothing → ⊥) → ends t ≡ t ∷ ends (tail t)
unfolding ends view tail
ends_more nil h = absurd (h refl)
ends_more (symbol s x r) h = refl
ends_more (variable s k n r) h = refl
ends_more (bracket s i r) h = refl
ends_more (call s f a r) h = refl
ends_more (block s a b r) h = refl

-- z is the answer on the split at x.
module _ {fuel : ℕ} {x : List ℕ} {left : ℕ} {verdict : Verdict} {p q : Terms} (r : Splitting fuel x left verdict p q)
    (z : Found) (e : z ≡ sequence left p r.there.terms) where
  abbrev o : Terms
  o = r.there.terms

  from : (os : List Terms) → ends o ≡ o ∷ os → absorbing_split sequence fuel p q ≡ splits_from sequence p (o ∷ os) verdict left
  from os h = r.whole ∙ ap (λ (l : List Terms). splits_from sequence p l verdict left) h

  pub split_meets : is_overlap z.verdict ≡ true → absorbing_split sequence fuel p q ≡ z
  split_meets h =
      let f = ends-first o in
      from f.0 f.1 ∙ split_overlap left p o f.0 verdict z e h

  module _ (h : is_overlap z.verdict ≡ false) where
    pub split_ends : get_or x 0 0 ≡ 15 → absorbing_split sequence fuel p q ≡ found (remembered verdict z.verdict) z.fuel
    unfolding splits_from
    split_ends m = from [] (ends_last o (is-empty r.there m)) ∙ split_on left p o [] verdict z e h

    pub split_goes_on : (get_or x 0 0 ≡ 15 → ⊥) → (n : ℕ) → Passes x n (put_terms (tail o) r.there.rest) → Splitting fuel (part x n) z.fuel (remembered verdict z.verdict) p q
    split_goes_on m n k = record { there = rest_at r.there n k; whole = from (ends (tail o)) (ends_more o (is_not_empty r.there m)) ∙ split_on left p o (ends (tail o)) verdict z e h }
