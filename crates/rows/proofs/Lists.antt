-- Terms passed one by one, and listed by their places.
use Prim.Native.Nat.{ℕ, zero, suc, ◌+◌, ◌-◌, ◌<◌, ◌≤◌}
use native.Mathlib.Omega.{arith}
use mathlib.Core.Path.{◌≡◌, refl, sym, ap, ◌∙◌, subst}
use mathlib.Core.Bool.{Bool, true, false, cond}
use mathlib.Core.List.{List}
use lib.Dec.{eqb}
use lib.ListN.{length, get_or, set, length-set}
use lib.Seq.{get_or-set_same, get_or-set_other}
use borrow.Author.Tests.{eqb-true, eqb-false}
use Rattle.program.specs.Encode.{put_terms}
use Rattle.program.specs.Limits.{Mode}
use Rattle.image.specs.Parts.{Passes, TermsAt, tail}
use Rattle.image.proofs.Readings.{result-at}
use Rattle.program.specs.Syntax.{Terms}
use Rattle.patterns.specs.declared.Verdict.TheVariants.{Disjoint}
use Rattle.patterns.specs.Search.{View, view, leftover_overlap}
use Rattle.patterns.proofs.Unfold.{leftover_view}
use Rattle.rows.specs.Cells.{ended_both}
use Rattle.rows.specs.Rows.{read_at, behind_terms, closing, PatternFrom, Stands, Listed, Kept}
use Rattle.rows.proofs.Readings.{part, part_length, mark_in, inside, term_long}
use Rattle.rows.proofs.Places.{reading_part, place-empty, place-absorbing, place-one, place-next, next-is}

-- ---- what is left over

module _ {b : List ℕ} {q : ℕ} (s : PatternFrom b q) where
  pub place_in : q < length b
  place_in = inside b q s.pattern

  pub result-here : TermsAt Mode.result (part b q)
  result-here = result-at (reading_part s)

  pub leftover_absorbing : get_or b q 0 ≡ 6 → leftover_overlap (read_at b q) ≡ leftover_overlap (tail (read_at b q))
  leftover_absorbing m = leftover_view (read_at b q) (View.absorbing (tail (read_at b q))) (place-absorbing s m)

  pub leftover_one : (get_or b q 0 ≡ 15 → ⊥) → (get_or b q 0 ≡ 6 → ⊥) → leftover_overlap (read_at b q) ≡ Disjoint
  leftover_one m n = let h = place-one s m n in leftover_view (read_at b q) (View.one h.0 (tail (read_at b q))) h.1

  -- The word of a sequence from that of its tail.
  pub closing-next : (get_or b q 0 ≡ 15 → ⊥) → (w : ℕ) → w ≡ ended_both (leftover_overlap (tail (read_at b q))) → closing (get_or b q 0) w ≡ ended_both (leftover_overlap (read_at b q))
  unfolding closing
  closing-next m w e = go (eqb (get_or b q 0) 6) refl
    where
      go : (t : Bool) → eqb (get_or b q 0) 6 ≡ t → cond t w 327685 ≡ ended_both (leftover_overlap (read_at b q))
      go true h = e ∙ ap ended_both (sym (leftover_absorbing (eqb-true (get_or b q 0) 6 h)))
      go false h = sym (ap ended_both (leftover_one m (eqb-false (get_or b q 0) 6 h)))

  -- Past the first term.
  module _ (m : get_or b q 0 ≡ 15 → ⊥) (n : ℕ) (h : Passes (part b q) n (put_terms (tail (read_at b q)) s.pattern.rest)) where
    pub past_fits : (q + n ≤ length b) × (0 < n)
    past_fits = (omega (arith, h.fits, part_length b q, place_in), term_long (reading_part s) (λ e. m (sym (mark_in b q) ∙ e)) n h)

-- ---- a list of places

-- The terms of the pattern at p have been listed up to the entry k; what is left of it stands at q.
pub record Listing (b m : List ℕ) (p at k q : ℕ) : Type 0 where
  pub from : PatternFrom b q
  pub is : read_at b q ≡ behind_terms (k - at) (read_at b p)
  pub stands : (j : ℕ) → j < k - at → Stands b (get_or m (at + j) 0) (behind_terms j (read_at b p))

pub listing-first : (b m : List ℕ) (p at : ℕ) → PatternFrom b p → Listing b m p at at p
unfolding behind_terms
listing-first b m p at s =
    let z : at - at ≡ 0 = omega arith in
    record { from = s; is = ap (λ (n : ℕ). behind_terms n (read_at b p)) (sym z); stands = λ j l. absurd (omega (arith, l, z)) }

pub kept_set : (base : ℕ) (m : List ℕ) (k v : ℕ) → base ≤ k → Kept base m (set m k v)
kept_set base m k v l = record { length = length-set m k v; below = λ i h. get_or-set_other m k i v 0 (λ e. omega (arith, e, h, l)) }

module _ {b m : List ℕ} {p at k q : ℕ} (r : Listing b m p at k q) (o : get_or b q 0 ≡ 15 → ⊥) (l : at ≤ k) (room : k < length m) (n : ℕ)
    (h : Passes (part b q) n (put_terms (tail (read_at b q)) r.from.pattern.rest)) where
  pub listing-next : Listing b (set m k q) p at (k + 1) (q + n)
  unfolding behind_terms
  listing-next =
      let z : suc (k - at) ≡ k + 1 - at = omega (arith, l) in
      record {
        from = place-next r.from n h;
        is = next-is r.from n h ∙ ap tail r.is ∙ ap (λ (i : ℕ). behind_terms i (read_at b p)) z;
        stands = λ j i. go j (eqb j (k - at)) refl i;
      }
    where
      below_other : (j : ℕ) → (j ≡ k - at → ⊥) → j < k + 1 - at → j < k - at
      below_other j d i = omega (arith, d, i, l)

      go : (j : ℕ) (t : Bool) → eqb j (k - at) ≡ t → j < k + 1 - at → Stands b (get_or (set m k q) (at + j) 0) (behind_terms j (read_at b p))
      go j true e i =
          let d = eqb-true j (k - at) e in
          let f : at + j ≡ k = omega (arith, d, l) in
          let v : q ≡ get_or (set m k q) (at + j) 0 = sym (get_or-set_same m k q 0 room) ∙ ap (λ (u : ℕ). get_or (set m k q) u 0) (sym f) in
          subst (λ (u : ℕ). Stands b u (behind_terms j (read_at b p))) v (record { from = r.from; is = r.is ∙ ap (λ (u : ℕ). behind_terms u (read_at b p)) (sym d); further = o })
      go j false e i =
          let d = eqb-false j (k - at) e in
          let f : (at + j ≡ k → ⊥) = λ g. d (omega (arith, g, l)) in
          subst (λ (u : ℕ). Stands b u (behind_terms j (read_at b p))) (sym (get_or-set_other m k (at + j) q 0 f)) (r.stands j (below_other j d i))

pub listing-done : {b m : List ℕ} {p at k q : ℕ} → Listing b m p at k q → get_or b q 0 ≡ 15 → Listed b m at (k - at) (read_at b p)
listing-done {b} {m} {p} {at} {k} r e = record { stands = r.stands; ends = subst (λ (t : Terms). view t ≡ View.nothing) r.is (place-empty r.from e) }

-- The first of a list is the pattern that is listed, and there is one unless the pattern is empty.
pub first-listed : {b m : List ℕ} {at n : ℕ} {t : Terms} → Listed b m at n t → 0 < n → read_at b (get_or m at 0) ≡ t
unfolding behind_terms
first-listed {b} {m} {at} h l = let z : at ≡ at + 0 = omega arith in ap (λ (k : ℕ). read_at b (get_or m k 0)) z ∙ (h.stands 0 l).is

pub some-listed : {b m : List ℕ} {at n : ℕ} {t : Terms} → Listed b m at n t → (view t ≡ View.nothing → ⊥) → 0 < n
unfolding behind_terms
some-listed {n = n} {t = t} h d = go n h.ends
  where
    go : (k : ℕ) → view (behind_terms k t) ≡ View.nothing → 0 < k
    go zero e = absurd (d e)
    go (suc k) e = omega arith
