use Prim.Native.Nat.{ℕ, ◌-◌, ◌<◌}
use native.Mathlib.Omega.{arith}
use mathlib.Core.Path.{◌≡◌, sym, ap, ◌∙◌, subst, refl}
use mathlib.Core.List.{List}
use lib.ListN.{length, get_or}
use Rattle.program.specs.Encode.{put_terms}
use Rattle.program.specs.Limits.{Mode}
use Rattle.image.specs.Parts.{Passes, TermsAt, tail}
use Rattle.image.proofs.Readings.{result-at}
use Rattle.patterns.specs.declared.Verdict.{Verdict}
use Rattle.patterns.specs.Search.{found}
use Rattle.overlap.specs.Steps.{behind}
use Rattle.rows.proofs.Readings.{part, part_length, pattern-room, term_long, rest_at, head_at}
use Rattle.overlap.proofs.Turns.{Splitting, splitting_first, split_meets, split_ends, split_goes_on, Reached, reached_out, first_closed, second_closed, first_split, second_split, heads-apart, heads-passed}
use Rattle.overlap.proofs.Verdicts.{same-overlap, same-disjoint}
use Rattle.overlap.proofs.Tries.{not_none, not_stopped, still, ended-some, ended-verdict, ended-answers, behind-some, behind-answers}
use Rattle.std.proofs.lemmas.Option.{IfSome_then}
use Rattle.overlap.specs.declared.search.Limits.{Limits}
use Rattle.patterns.specs.declared.Found.{Found}
use Rattle.rows.proofs.Heads.{head-room, bracket-at, two-brackets}
use Rattle.patterns.proofs.Verdicts.{disjoint≢overlap}
use Rattle.overlap.proofs.search.+absorbing_split_overlap_of_terms_sequence.Goals as goal
use Rattle.overlap.proofs.search.+absorbing_split_overlap_of_terms_sequence.Goals.{overlap_of_terms-else-left-eq7-via-then-left-eq7+else-right-eq7, overlap_of_terms-else-left-eq7-via-else-left-eq7}

-- What is behind the first term is shorter.
shorter : {s : List ℕ} (p : TermsAt Mode.pattern s) → (get_or s 0 0 ≡ 15 → ⊥) → (n : ℕ) → Passes s n (put_terms (tail p.terms) p.rest) → length (part s n) < length s
shorter {s} p m n h = omega (arith, h.fits, term_long p m n h, part_length s n)

pub absorbing_split-loop-inner-init : goal.absorbing_split-loop-inner-init
absorbing_split-loop-inner-init t c = (omega arith, λ u v. splitting_first c.args.fuel u.terms v, refl)

-- A limit is met.
pub absorbing_split-returns-in_err-inner-clause-ends : goal.absorbing_split-returns-in_err-inner-clause-ends
absorbing_split-returns-in_err-inner-clause-ends t c = λ a. not_stopped (c.inside.ensures.endless (c.loop-inner.invariant.2 ∙ a)) c.in_err-inner.was

pub absorbing_split-sequence-requires : goal.absorbing_split-sequence-requires
absorbing_split-sequence-requires t c =
    (omega (arith, c.decreases, c.loop-inner.invariant.0), (c.requires.0, (c.loop-inner.invariant.1 c.requires.0 c.requires.1).there))

-- An end was not done.
pub absorbing_split-returns-in_err-t-clause-ends : goal.absorbing_split-returns-in_err-t-clause-ends
absorbing_split-returns-in_err-t-clause-ends t c = λ a. not_none (c.sequence.ensures.ends (ap (λ (l : Limits). l.deep) (still (c.inside.ensures.endless (c.loop-inner.invariant.2 ∙ a)) c.in_ok-inner.was) ∙ (c.loop-inner.invariant.2 ∙ a))) c.in_err-t.was

pub absorbing_split-returns-then-eq : goal.absorbing_split-returns-then-eq
absorbing_split-returns-then-eq t c = record {
  answers = λ u v.
      let r = c.loop-inner.invariant.1 u v in
      sym (split_meets r c.in_ok-t.t.found (c.in_ok-t.ensures.answers u r.there) (sym (c.eq.ensures ∙ same-overlap _) ∙ c.if-eq.true));
  ends = λ a. refl;
}

pub absorbing_split-bounds-x-0 : goal.absorbing_split-bounds-x-0
absorbing_split-bounds-x-0 t c =
    pattern-room (c.loop-inner.invariant.1 c.requires.0 c.requires.1).there

pub absorbing_split-returns-then-x-eq15 : goal.absorbing_split-returns-then-x-eq15
absorbing_split-returns-then-x-eq15 t c = record {
  answers = λ u v.
      let r = c.loop-inner.invariant.1 u v in
      ended-answers c.ended.ensures
      (ap (λ (w : Verdict). found w c.in_ok-t.t.found.fuel) c.remember-verdict.ensures
      ∙ sym (split_ends r c.in_ok-t.t.found (c.in_ok-t.ensures.answers u r.there) (sym (c.eq.ensures ∙ same-overlap _) ∙ c.if-eq.false) c.if-x-eq15.true));
  ends = λ a. ended-some c.ended.ensures;
}

pub absorbing_split-term_len-k-requires : goal.absorbing_split-term_len-k-requires
absorbing_split-term_len-k-requires t c =
    result-at (c.loop-inner.invariant.1 c.requires.0 c.requires.1).there

pub absorbing_split-slice_bounds-x-count : goal.absorbing_split-slice_bounds-x-count
absorbing_split-slice_bounds-x-count t c =
    (c.term_len-k.ensures Mode.pattern (c.loop-inner.invariant.1 c.requires.0 c.requires.1).there).fits

pub absorbing_split-slice_bounds-x-start : goal.absorbing_split-slice_bounds-x-start
absorbing_split-slice_bounds-x-start t c =
    (c.term_len-k.ensures Mode.pattern (c.loop-inner.invariant.1 c.requires.0 c.requires.1).there).fits

pub absorbing_split-slice_bounds-x-end : goal.absorbing_split-slice_bounds-x-end
absorbing_split-slice_bounds-x-end t c = omega arith

pub absorbing_split-loop-inner-smaller : goal.absorbing_split-loop-inner-smaller
absorbing_split-loop-inner-smaller t c =
    let p = (c.loop-inner.invariant.1 c.requires.0 c.requires.1).there in
    omega (arith, shorter p c.if-x-eq15.false c.term_len-k.result (c.term_len-k.ensures Mode.pattern p))

pub absorbing_split-loop-inner-preserved : goal.absorbing_split-loop-inner-preserved
absorbing_split-loop-inner-preserved t c =
    let i = c.term_len-k in (
      omega (arith, c.loop-inner.invariant.0, part_length c.loop-inner.x.now i.result),
      λ u v.
          let r = c.loop-inner.invariant.1 u v in
          subst (λ (w : Verdict). Splitting c.args.fuel (part c.loop-inner.x.now i.result) c.in_ok-t.t.found.fuel w u.terms v.terms) (sym c.remember-verdict.ensures)
          (split_goes_on r c.in_ok-t.t.found (c.in_ok-t.ensures.answers u r.there) (sym (c.eq.ensures ∙ same-overlap _) ∙ c.if-eq.false) c.if-x-eq15.false i.result (i.ensures Mode.pattern r.there)),
      c.loop-inner.invariant.2,
    )

pub overlap_of_terms-bounds-left-0 : goal.overlap_of_terms-bounds-left-0
overlap_of_terms-bounds-left-0 t c =
    omega (arith, head-room c.requires.0)

pub overlap_of_terms-bounds-right-0 : goal.overlap_of_terms-bounds-right-0
overlap_of_terms-bounds-right-0 t c =
    omega (arith, head-room c.requires.1)

-- A limit is met.
pub overlap_of_terms-returns-in_err-inner-clause-ends : goal.overlap_of_terms-returns-in_err-inner-clause-ends
overlap_of_terms-returns-in_err-inner-clause-ends t c = λ a. not_stopped (c.inside.ensures.endless a) c.in_err-inner.was

pub overlap_of_terms-slice_bounds-sequence-count : goal.overlap_of_terms-slice_bounds-sequence-count
overlap_of_terms-slice_bounds-sequence-count t c =
    omega (arith, head-room c.requires.0)

pub overlap_of_terms-slice_bounds-sequence-start : goal.overlap_of_terms-slice_bounds-sequence-start
overlap_of_terms-slice_bounds-sequence-start t c =
    omega (arith, head-room c.requires.0)

pub overlap_of_terms-slice_bounds-sequence-end : goal.overlap_of_terms-slice_bounds-sequence-end
overlap_of_terms-slice_bounds-sequence-end t c = omega arith

pub overlap_of_terms-slice_bounds-sequence-count-then-right-eq7 : goal.overlap_of_terms-slice_bounds-sequence-count-then-right-eq7
overlap_of_terms-slice_bounds-sequence-count-then-right-eq7 t c =
    omega (arith, head-room c.requires.1)

pub overlap_of_terms-slice_bounds-sequence-start-then-right-eq7 : goal.overlap_of_terms-slice_bounds-sequence-start-then-right-eq7
overlap_of_terms-slice_bounds-sequence-start-then-right-eq7 t c =
    omega (arith, head-room c.requires.1)

pub overlap_of_terms-slice_bounds-sequence-end-then-right-eq7 : goal.overlap_of_terms-slice_bounds-sequence-end-then-right-eq7
overlap_of_terms-slice_bounds-sequence-end-then-right-eq7 t c = omega arith

pub overlap_of_terms-sequence-requires : goal.overlap_of_terms-sequence-requires
overlap_of_terms-sequence-requires t c = (
  omega (arith, c.decreases, head-room c.requires.0, head-room c.requires.1, part_length c.args.left.now 9, part_length c.args.right.now 9),
  ((bracket-at c.requires.0 c.if-left-eq7.true).inner, (bracket-at c.requires.1 c.if-right-eq7.true).inner),
)

pub overlap_of_terms-returns-then-right-eq7 : goal.overlap_of_terms-returns-then-right-eq7
overlap_of_terms-returns-then-right-eq7 t c = record {
  answers = λ x y.
      let p = bracket-at x c.if-left-eq7.true in
      let q = bracket-at y c.if-right-eq7.true in
      IfSome_then c.sequence.result (c.sequence.ensures.answers p.inner q.inner) (λ r e. ap (λ (z : Found). z.verdict) e ∙ sym (two-brackets x y p q));
  ends = λ a. c.sequence.ensures.ends (ap (λ (l : Limits). l.deep) (still (c.inside.ensures.endless (a)) c.in_ok-inner.was) ∙ (a));
}

-- Not both are brackets.
pub overlap_of_terms-flat_verdict-requires : goal.overlap_of_terms-flat_verdict-requires
overlap_of_terms-flat_verdict-requires t c = (
  c.requires.0,
  c.requires.1,
  λ e g. elim c.else-left-eq7.branch [
    | overlap_of_terms-else-left-eq7-via-then-left-eq7+else-right-eq7 w ↦ w.if-right-eq7.false g
    | overlap_of_terms-else-left-eq7-via-else-left-eq7 w ↦ w.if-left-eq7.false e
  ],
)

pub overlap_of_terms-returns : goal.overlap_of_terms-returns
overlap_of_terms-returns t c = record { answers = λ x y. ended-verdict c.ended.ensures (c.flat_verdict.ensures x y); ends = λ a. ended-some c.ended.ensures }

pub sequence-loop-f-init : goal.sequence-loop-f-init
sequence-loop-f-init t c = (omega arith, λ u v. record { first = u; second = v; going = λ e. disjoint≢overlap (sym e); whole = refl }, refl)

pub sequence-bounds-x-0 : goal.sequence-bounds-x-0
sequence-bounds-x-0 t c =
    pattern-room (c.loop-f.invariant.1 c.requires.0 c.requires.1).first

pub sequence-bounds-y-0 : goal.sequence-bounds-y-0
sequence-bounds-y-0 t c =
    pattern-room (c.loop-f.invariant.1 c.requires.0 c.requires.1).second

-- One of the two is at its close.
pub sequence-leftover_overlap-requires : goal.sequence-leftover_overlap-requires
sequence-leftover_overlap-requires t c =
    (c.loop-f.invariant.1 c.requires.0 c.requires.1).second

pub sequence-returns-then-m-eq15 : goal.sequence-returns-then-m-eq15
sequence-returns-then-m-eq15 t c = record {
  answers = λ u v.
      let r = c.loop-f.invariant.1 u v in
      behind-answers c.loop-f.heads c.ended.result c.behind_heads.ensures _ _ (ended-answers c.ended.ensures refl)
      (ap (λ (w : Verdict). behind c.loop-f.heads (found w (c.loop-f.f - 1))) (c.leftover_overlap.ensures r.second) ∙ sym (first_closed r (omega (arith, c.loop-f-test.true)) c.if-m-eq15.true));
  ends = λ a. behind-some c.loop-f.heads c.ended.result c.behind_heads.ensures (ended-some c.ended.ensures);
}

pub sequence-leftover_overlap-requires-then-n-eq15 : goal.sequence-leftover_overlap-requires-then-n-eq15
sequence-leftover_overlap-requires-then-n-eq15 t c =
    (c.loop-f.invariant.1 c.requires.0 c.requires.1).first

pub sequence-returns-then-n-eq15 : goal.sequence-returns-then-n-eq15
sequence-returns-then-n-eq15 t c = record {
  answers = λ u v.
      let r = c.loop-f.invariant.1 u v in
      behind-answers c.loop-f.heads c.ended-then-n-eq15.result c.behind_heads-then-n-eq15.ensures _ _ (ended-answers c.ended-then-n-eq15.ensures refl)
      (ap (λ (w : Verdict). behind c.loop-f.heads (found w (c.loop-f.f - 1))) (c.leftover_overlap-then-n-eq15.ensures r.first) ∙ sym (second_closed r (omega (arith, c.loop-f-test.true)) c.if-n-eq15.true));
  ends = λ a. behind-some c.loop-f.heads c.ended-then-n-eq15.result c.behind_heads-then-n-eq15.ensures (ended-some c.ended-then-n-eq15.ensures);
}

-- The first is at an `e.` variable.
pub sequence-term_len-k-requires : goal.sequence-term_len-k-requires
sequence-term_len-k-requires t c =
    result-at (c.loop-f.invariant.1 c.requires.0 c.requires.1).first

pub sequence-slice_bounds-absorbing_split-count : goal.sequence-slice_bounds-absorbing_split-count
sequence-slice_bounds-absorbing_split-count t c =
    (c.term_len-k.ensures Mode.pattern (c.loop-f.invariant.1 c.requires.0 c.requires.1).first).fits

pub sequence-slice_bounds-absorbing_split-start : goal.sequence-slice_bounds-absorbing_split-start
sequence-slice_bounds-absorbing_split-start t c =
    (c.term_len-k.ensures Mode.pattern (c.loop-f.invariant.1 c.requires.0 c.requires.1).first).fits

pub sequence-slice_bounds-absorbing_split-end : goal.sequence-slice_bounds-absorbing_split-end
sequence-slice_bounds-absorbing_split-end t c = omega arith

pub sequence-absorbing_split-requires : goal.sequence-absorbing_split-requires
sequence-absorbing_split-requires t c =
    let g = c.loop-f.invariant.1 c.requires.0 c.requires.1 in
    let k = c.term_len-k in (
      omega (arith, c.decreases, c.loop-f.invariant.0, shorter g.first c.if-m-eq15.false k.result (k.ensures Mode.pattern g.first)),
      (rest_at g.first k.result (k.ensures Mode.pattern g.first), g.second),
    )

pub sequence-returns-then-m-eq6 : goal.sequence-returns-then-m-eq6
sequence-returns-then-m-eq6 t c = let k = c.term_len-k in record {
  answers = λ u v.
      let r = c.loop-f.invariant.1 u v in
      behind-answers c.loop-f.heads c.absorbing_split.result c.behind_heads-then-m-eq6.ensures _ _ (c.absorbing_split.ensures.answers (rest_at r.first k.result (k.ensures Mode.pattern r.first)) r.second)
      (sym (first_split r (omega (arith, c.loop-f-test.true)) c.if-m-eq6.true c.if-n-eq15.false));
  ends = λ a. behind-some c.loop-f.heads c.absorbing_split.result c.behind_heads-then-m-eq6.ensures (c.absorbing_split.ensures.ends (c.loop-f.invariant.2 ∙ a));
}

-- The second is.
pub sequence-term_len-l-requires : goal.sequence-term_len-l-requires
sequence-term_len-l-requires t c =
    result-at (c.loop-f.invariant.1 c.requires.0 c.requires.1).second

pub sequence-slice_bounds-absorbing_split-count-then-n-eq6 : goal.sequence-slice_bounds-absorbing_split-count-then-n-eq6
sequence-slice_bounds-absorbing_split-count-then-n-eq6 t c =
    (c.term_len-l.ensures Mode.pattern (c.loop-f.invariant.1 c.requires.0 c.requires.1).second).fits

pub sequence-slice_bounds-absorbing_split-start-then-n-eq6 : goal.sequence-slice_bounds-absorbing_split-start-then-n-eq6
sequence-slice_bounds-absorbing_split-start-then-n-eq6 t c =
    (c.term_len-l.ensures Mode.pattern (c.loop-f.invariant.1 c.requires.0 c.requires.1).second).fits

pub sequence-slice_bounds-absorbing_split-end-then-n-eq6 : goal.sequence-slice_bounds-absorbing_split-end-then-n-eq6
sequence-slice_bounds-absorbing_split-end-then-n-eq6 t c = omega arith

pub sequence-absorbing_split-requires-then-n-eq6 : goal.sequence-absorbing_split-requires-then-n-eq6
sequence-absorbing_split-requires-then-n-eq6 t c =
    let g = c.loop-f.invariant.1 c.requires.0 c.requires.1 in
    let k = c.term_len-l in (
      omega (arith, c.decreases, c.loop-f.invariant.0, shorter g.second c.if-n-eq15.false k.result (k.ensures Mode.pattern g.second)),
      (rest_at g.second k.result (k.ensures Mode.pattern g.second), g.first),
    )

pub sequence-returns-then-n-eq6 : goal.sequence-returns-then-n-eq6
sequence-returns-then-n-eq6 t c = let k = c.term_len-l in record {
  answers = λ u v.
      let r = c.loop-f.invariant.1 u v in
      behind-answers c.loop-f.heads c.absorbing_split-then-n-eq6.result c.behind_heads-then-n-eq6.ensures _ _ (c.absorbing_split-then-n-eq6.ensures.answers (rest_at r.second k.result (k.ensures Mode.pattern r.second)) r.first)
      (sym (second_split r (omega (arith, c.loop-f-test.true)) c.if-m-eq15.false c.if-m-eq6.false c.if-n-eq6.true));
  ends = λ a. behind-some c.loop-f.heads c.absorbing_split-then-n-eq6.result c.behind_heads-then-n-eq6.ensures (c.absorbing_split-then-n-eq6.ensures.ends (c.loop-f.invariant.2 ∙ a));
}

-- Neither is: the heads are compared.
pub sequence-overlap_of_terms-requires : goal.sequence-overlap_of_terms-requires
sequence-overlap_of_terms-requires t c =
    let g = c.loop-f.invariant.1 c.requires.0 c.requires.1 in (
      omega (arith, c.decreases, c.loop-f.invariant.0),
      (head_at g.first c.if-m-eq15.false c.if-m-eq6.false, head_at g.second c.if-n-eq15.false c.if-n-eq6.false),
    )

-- The comparison was not done.
pub sequence-returns-in_err-t-clause-ends : goal.sequence-returns-in_err-t-clause-ends
sequence-returns-in_err-t-clause-ends t c = λ a. not_none (c.overlap_of_terms.ensures.ends (c.loop-f.invariant.2 ∙ a)) c.in_err-t.was

pub sequence-returns-then-eq : goal.sequence-returns-then-eq
sequence-returns-then-eq t c = record {
  answers = λ u v.
      let r = c.loop-f.invariant.1 u v in
      let m = c.if-m-eq15.false in
      let n = c.if-m-eq6.false in
      let m' = c.if-n-eq15.false in
      let n' = c.if-n-eq6.false in
      ended-answers c.ended-then-eq.ensures
      (sym (heads-apart r (omega (arith, c.loop-f-test.true)) m n m' n' c.in_ok-t.t.found.verdict (c.in_ok-t.ensures.answers (head_at r.first m n) (head_at r.second m' n')) (sym (c.eq.ensures ∙ same-disjoint _) ∙ c.if-eq.true)));
  ends = λ a. ended-some c.ended-then-eq.ensures;
}

pub sequence-term_len-k-requires-in-loop-f : goal.sequence-term_len-k-requires-in-loop-f
sequence-term_len-k-requires-in-loop-f t c =
    result-at (c.loop-f.invariant.1 c.requires.0 c.requires.1).first

pub sequence-slice_bounds-x-count : goal.sequence-slice_bounds-x-count
sequence-slice_bounds-x-count t c =
    (c.term_len-k-in-loop-f.ensures Mode.pattern (c.loop-f.invariant.1 c.requires.0 c.requires.1).first).fits

pub sequence-slice_bounds-x-start : goal.sequence-slice_bounds-x-start
sequence-slice_bounds-x-start t c =
    (c.term_len-k-in-loop-f.ensures Mode.pattern (c.loop-f.invariant.1 c.requires.0 c.requires.1).first).fits

pub sequence-slice_bounds-x-end : goal.sequence-slice_bounds-x-end
sequence-slice_bounds-x-end t c = omega arith

pub sequence-term_len-l-requires-in-loop-f : goal.sequence-term_len-l-requires-in-loop-f
sequence-term_len-l-requires-in-loop-f t c =
    result-at (c.loop-f.invariant.1 c.requires.0 c.requires.1).second

pub sequence-slice_bounds-y-count : goal.sequence-slice_bounds-y-count
sequence-slice_bounds-y-count t c =
    (c.term_len-l-in-loop-f.ensures Mode.pattern (c.loop-f.invariant.1 c.requires.0 c.requires.1).second).fits

pub sequence-slice_bounds-y-start : goal.sequence-slice_bounds-y-start
sequence-slice_bounds-y-start t c =
    (c.term_len-l-in-loop-f.ensures Mode.pattern (c.loop-f.invariant.1 c.requires.0 c.requires.1).second).fits

pub sequence-slice_bounds-y-end : goal.sequence-slice_bounds-y-end
sequence-slice_bounds-y-end t c = omega arith

-- Past both heads.
pub sequence-loop-f-preserved : goal.sequence-loop-f-preserved
sequence-loop-f-preserved t c =
    let below : 0 < c.loop-f.f = omega (arith, c.loop-f-test.true) in
    let i = c.term_len-k-in-loop-f in
    let j = c.term_len-l-in-loop-f in
    let m = c.if-m-eq15.false in
    let n = c.if-m-eq6.false in
    let m' = c.if-n-eq15.false in
    let n' = c.if-n-eq6.false in (
      omega (arith, c.loop-f.invariant.0, part_length c.loop-f.x.now i.result, part_length c.loop-f.y.now j.result),
      λ u v.
          let r = c.loop-f.invariant.1 u v in
          subst (λ (w : Verdict). Reached c.args.fuel (part c.loop-f.x.now i.result) (part c.loop-f.y.now j.result) (c.loop-f.f - 1) w u.terms v.terms) (sym c.remember-heads.ensures)
          (heads-passed r below m n m' n' c.in_ok-t.t.found.verdict (c.in_ok-t.ensures.answers (head_at r.first m n) (head_at r.second m' n')) (sym (c.eq.ensures ∙ same-disjoint _) ∙ c.if-eq.false)
          i.result (i.ensures Mode.pattern r.first) j.result (j.ensures Mode.pattern r.second)),
      c.loop-f.invariant.2,
    )

-- Fuel has run out.
pub sequence-returns : goal.sequence-returns
sequence-returns t c = record { answers = λ u v. ended-answers c.ended-2.ensures (sym (reached_out (c.loop-f.invariant.1 u v) (omega (arith, c.loop-f-test.false)))); ends = λ a. ended-some c.ended-2.ensures }
