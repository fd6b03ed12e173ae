use Prim.Native.Nat.{ℕ, ◌+◌, ◌<◌, ◌-◌, suc}
use native.Mathlib.Omega.{arith}
use mathlib.Core.Path.{◌≡◌, refl, sym, ap, ◌∙◌, subst}
use mathlib.Core.Bool.{Bool}
use lib.ListN.{length, drop, get_or}
use Rattle.program.specs.Limits.{Mode}
use Rattle.program.specs.Encode.{put_terms}
use Rattle.image.specs.Parts.{Passes, TermsAt, tail}
use Rattle.image.proofs.Readings.{result-at}
use Rattle.rows.proofs.Readings.{part, inside, at_part, after_term, mark_in}
use Rattle.overlap.specs.Way.{Next, End, Way, in_turn}
use Rattle.overlap.proofs.Ways.{next_place, term-within, mark-at, inner_at, head_part, head_inside}
use Rattle.expression.specs.Walk.{Heads, head_bytes, meet_bytes}
use Rattle.expression.proofs.Freeing.{front_fits, whole-written}
use Rattle.expression.proofs.Walking.{stepped_as, stepped_first, stepped_on, stepped_short}
use Rattle.expression.proofs.Leading.{ahead-first, ahead-second, way_at_heads, in_turn-kept}
use Rattle.expression.proofs.Advancing.{left-splits, left-head, right-splits, right-head, heads-first, left_closed, right_closed}
use mathlib.Core.List.{List, [], ◌∷◌, ◌++◌}
use Rattle.rows.proofs.Places.{kept_same, kept_then, kept_less}
use Rattle.expression.proofs.Meeting.{meet-nothing}
use Rattle.program.specs.Bytes.{put32, put_span}
use Rattle.patterns.specs.Marks.{zero_span}
use Rattle.patterns.specs.Search.{start}
use Rattle.rows.proofs.Heads.{bracket-at}
use Rattle.text.proofs.Written.{both, same, count}
use Rattle.expression.proofs.Heads.{both-brackets, both_brackets_long}
use Rattle.expression.proofs.walk.+advance_meet_put_heads.Goals as goal
use Rattle.expression.proofs.walk.+advance_meet_put_heads.Goals.{put_heads-then-b-step-eq7+else-b-step-eq7-2, put_heads-else-b-step-eq7}

-- The place behind the first term at a place that is not a close.
behind : (b : List ℕ) (i : ℕ) (p : TermsAt Mode.pattern (drop i b)) → (get_or b i 0 ≡ 15 → ⊥) → (n : ℕ) → ((x : TermsAt Mode.pattern (part b i)) → Passes (part b i) n (put_terms (tail x.terms) x.rest)) → Next b i (i + n)
behind b i p m n d = next_place b i n p (term-within b i p (λ e. m (sym (mark_in b i) ∙ e)) n (d (at_part b i p))) (d (at_part b i p))

heads-inside : (b : List ℕ) (i j : ℕ) {swapped : Bool} {at : ℕ} → Heads (drop i b) (drop j b) swapped at → (i + 9 < length b) × (j + 9 < length b)
heads-inside b i j x = (head_inside b i x.first, head_inside b j x.second)

one_less : (f : ℕ) → 0 < f → f ≡ suc (f - 1)
one_less f h = omega arith

pub advance-slice_bounds-term_len-count : goal.advance-slice_bounds-term_len-count
advance-slice_bounds-term_len-count t c = omega (arith, inside c.args.b.now c.args.step.left c.requires.0.first)

pub advance-slice_bounds-term_len-start : goal.advance-slice_bounds-term_len-start
advance-slice_bounds-term_len-start t c = omega (arith, inside c.args.b.now c.args.step.left c.requires.0.first)

pub advance-slice_bounds-term_len-end : goal.advance-slice_bounds-term_len-end
advance-slice_bounds-term_len-end t c = omega arith

pub advance-term_len-requires : goal.advance-term_len-requires
advance-term_len-requires t c = result-at (at_part c.args.b.now c.args.step.left c.requires.0.first)

pub advance-overflow_add-i : goal.advance-overflow_add-i
advance-overflow_add-i t c = omega (arith, (behind c.args.b.now c.args.step.left c.requires.0.first c.requires.1 c.term_len.result (c.term_len.ensures Mode.pattern)).within)

pub advance-slice_bounds-term_len-count-2 : goal.advance-slice_bounds-term_len-count-2
advance-slice_bounds-term_len-count-2 t c = omega (arith, inside c.args.b.now c.args.step.right c.requires.0.second)

pub advance-slice_bounds-term_len-start-2 : goal.advance-slice_bounds-term_len-start-2
advance-slice_bounds-term_len-start-2 t c = omega (arith, inside c.args.b.now c.args.step.right c.requires.0.second)

pub advance-slice_bounds-term_len-end-2 : goal.advance-slice_bounds-term_len-end-2
advance-slice_bounds-term_len-end-2 t c = omega arith

pub advance-term_len-requires-2 : goal.advance-term_len-requires-2
advance-term_len-requires-2 t c = result-at (at_part c.args.b.now c.args.step.right c.requires.0.second)

pub advance-overflow_add-j : goal.advance-overflow_add-j
advance-overflow_add-j t c = omega (arith, (behind c.args.b.now c.args.step.right c.requires.0.second c.requires.2 c.term_len-2.result (c.term_len-2.ensures Mode.pattern)).within)

pub advance-bounds-b-step : goal.advance-bounds-b-step
advance-bounds-b-step t c = omega (arith, inside c.args.b.now c.args.step.left c.requires.0.first)

pub advance-absorb-requires : goal.advance-absorb-requires
advance-absorb-requires t c =
    let b = c.args.b.now in
    let p = c.requires in
    let x = p.0.first in (
      record {
        first = after_term b c.args.step.left c.term_len.result x (c.term_len.ensures Mode.pattern (at_part b c.args.step.left x));
        second = p.0.second;
        short = omega (arith, ap length (left-splits b c.args.step.left c.args.step.right c.args.step.swapped c.args.step.fuel x p.0.second c.if-b-step-eq6.true p.2), p.0.short);
      },
      p.3,
      omega (arith, p.4),
      ahead-first b c.args.room.now c.args.step.ends.next c.args.step.ends.known c.args.step.fuel c.args.step.left c.args.step.right _ p.5 c.if-b-step-eq6.true (behind b c.args.step.left x p.1 c.term_len.result (c.term_len.ensures Mode.pattern)),
      p.6,
    )

pub advance-returns-then-b-step-eq6 : goal.advance-returns-then-b-step-eq6
advance-returns-then-b-step-eq6 t c = record {
  steps = λ x y.
      let b = c.args.b.now in
      let i = after_term b c.args.step.left c.term_len.result x (c.term_len.ensures Mode.pattern (at_part b c.args.step.left x)) in
      stepped_as (left-splits b c.args.step.left c.args.step.right c.args.step.swapped c.args.step.fuel x y c.if-b-step-eq6.true c.requires.2) (omega arith) (c.absorb.ensures.steps i y);
  keeps = c.absorb.ensures.keeps;
}

pub advance-bounds-b-step-2 : goal.advance-bounds-b-step-2
advance-bounds-b-step-2 t c = omega (arith, inside c.args.b.now c.args.step.right c.requires.0.second)

pub advance-absorb-requires-then-b-step-eq6-2 : goal.advance-absorb-requires-then-b-step-eq6-2
advance-absorb-requires-then-b-step-eq6-2 t c =
    let b = c.args.b.now in
    let p = c.requires in
    let y = p.0.second in (
      record {
        first = after_term b c.args.step.right c.term_len-2.result y (c.term_len-2.ensures Mode.pattern (at_part b c.args.step.right y));
        second = p.0.first;
        short = omega (arith, ap length (right-splits b c.args.step.left c.args.step.right c.args.step.swapped c.args.step.fuel p.0.first y p.1 c.if-b-step-eq6.false c.if-b-step-eq6-2.true), p.0.short);
      },
      p.3,
      omega (arith, p.4),
      ahead-second b c.args.room.now c.args.step.ends.next c.args.step.ends.known c.args.step.fuel c.args.step.left c.args.step.right _ p.5 c.if-b-step-eq6.false c.if-b-step-eq6-2.true (behind b c.args.step.right y p.2 c.term_len-2.result (c.term_len-2.ensures Mode.pattern)),
      p.6,
    )

pub advance-returns-then-b-step-eq6-2 : goal.advance-returns-then-b-step-eq6-2
advance-returns-then-b-step-eq6-2 t c = record {
  steps = λ x y.
      let b = c.args.b.now in
      let j = after_term b c.args.step.right c.term_len-2.result y (c.term_len-2.ensures Mode.pattern (at_part b c.args.step.right y)) in
      stepped_as (right-splits b c.args.step.left c.args.step.right c.args.step.swapped c.args.step.fuel x y c.requires.1 c.if-b-step-eq6.false c.if-b-step-eq6-2.true) (omega arith) (c.absorb-then-b-step-eq6-2.ensures.steps j x);
  keeps = c.absorb-then-b-step-eq6-2.ensures.keeps;
}

pub advance-put_heads-requires : goal.advance-put_heads-requires
advance-put_heads-requires t c =
    let b = c.args.b.now in
    let p = c.requires in
    let x = p.0.first in
    let y = p.0.second in
    let u = left-head b c.args.step.left c.args.step.right c.args.step.swapped c.args.step.fuel x y p.1 c.if-b-step-eq6.false in
    let v = right-head b c.args.step.left c.args.step.right c.args.step.swapped c.args.step.fuel x y p.1 c.if-b-step-eq6.false p.2 c.if-b-step-eq6-2.false in (
      omega (arith, c.decreases),
      (
        record {
          first = u;
          second = v;
          short = front_fits c.args.out.now.filled (head_bytes c.args.step.swapped u.head v.head) (meet_bytes c.args.step.swapped c.args.step.fuel (tail x.terms) (tail y.terms)) (heads-first b c.args.step.left c.args.step.right c.args.step.swapped c.args.step.fuel x y p.1 c.if-b-step-eq6.false p.2 c.if-b-step-eq6-2.false) p.0.short;
        },
        p.3,
        p.6,
      ),
    )

pub advance-returns : goal.advance-returns
advance-returns t c =
    let b = c.args.b.now in
    let s = c.args.step in
    let p = c.requires in
    let k = c.term_len in
    let l = c.term_len-2 in
    record {
      steps = λ x y.
          let u = left-head b s.left s.right s.swapped s.fuel x y p.1 c.if-b-step-eq6.false in
          let v = right-head b s.left s.right s.swapped s.fuel x y p.1 c.if-b-step-eq6.false p.2 c.if-b-step-eq6-2.false in
          record {
            text = head_bytes s.swapped u.head v.head;
            wrote = c.put_heads.ensures.writes u v;
            first = after_term b s.left k.result x (k.ensures Mode.pattern (at_part b s.left x));
            second = after_term b s.right l.result y (l.ensures Mode.pattern (at_part b s.right y));
            is = heads-first b s.left s.right s.swapped s.fuel x y p.1 c.if-b-step-eq6.false p.2 c.if-b-step-eq6-2.false;
            further = omega arith;
            less = omega arith;
          };
      keeps = (
        record {
          way = way_at_heads s.fuel p.5 refl c.if-b-step-eq6.false c.if-b-step-eq6-2.false (behind b s.left p.0.first p.1 k.result (k.ensures Mode.pattern)) (behind b s.right p.0.second p.2 l.result (l.ensures Mode.pattern));
          is = refl;
        },
        c.put_heads.ensures.keeps,
      );
    }

pub meet-find_way-known-requires : goal.meet-find_way-known-requires
meet-find_way-known-requires t c = let p = c.requires in (p.0.first, p.0.second, p.1, p.3)

pub meet-loop-s-init : goal.meet-loop-s-init
meet-loop-s-init t c = (
  kept_same c.args.start.ends.next c.find_way-known.new.room,
  c.find_way-known.ensures.finds.0,
  omega (arith, c.find_way-known.ensures.finds.1, c.find_way-known.ensures.keeps.length),
  omega arith,
  λ p q. stepped_first c.args.b.now c.args.out.now c.args.start.left c.args.start.right c.args.start.fuel (record { next = c.args.start.ends.next; known = c.find_way-known.result }) c.args.start.swapped p q,
)

pub meet-bounds-b-s : goal.meet-bounds-b-s
meet-bounds-b-s t c = inside c.args.b.now c.loop-s.s.left (c.loop-s.invariant.4 c.requires.0.first c.requires.0.second).first

pub meet-shape_of-room-then-b-s-eq15 : goal.meet-shape_of-room-then-b-s-eq15
meet-shape_of-room-then-b-s-eq15 t c = (kept_then c.find_way-known.ensures.keeps c.loop-s.invariant.0).length

pub meet-returns-then-b-s-eq15 : goal.meet-returns-then-b-s-eq15
meet-returns-then-b-s-eq15 t c = record {
  writes = λ p q.
      let s = c.loop-s.invariant.4 p q in
      let e = one_less c.loop-s.s.fuel c.loop-s-test.true in
      whole-written c.args.out.now s.text s.wrote s.is
      (ap (λ (k : ℕ). meet_bytes c.loop-s.s.swapped k s.first.terms s.second.terms) e ∙ left_closed c.args.b.now c.loop-s.s.left c.loop-s.s.right c.loop-s.s.swapped (c.loop-s.s.fuel - 1) s.first s.second c.if-b-s-eq15.true);
  keeps = kept_then c.find_way-known.ensures.keeps c.loop-s.invariant.0;
}

pub meet-bounds-b-s-in-loop-s : goal.meet-bounds-b-s-in-loop-s
meet-bounds-b-s-in-loop-s t c = inside c.args.b.now c.loop-s.s.right (c.loop-s.invariant.4 c.requires.0.first c.requires.0.second).second

pub meet-shape_of-room-then-b-s-eq15-2 : goal.meet-shape_of-room-then-b-s-eq15-2
meet-shape_of-room-then-b-s-eq15-2 t c = (kept_then c.find_way-known.ensures.keeps c.loop-s.invariant.0).length

pub meet-returns-then-b-s-eq15-2 : goal.meet-returns-then-b-s-eq15-2
meet-returns-then-b-s-eq15-2 t c = record {
  writes = λ p q.
      let s = c.loop-s.invariant.4 p q in
      let e = one_less c.loop-s.s.fuel c.loop-s-test.true in
      whole-written c.args.out.now s.text s.wrote s.is
      (ap (λ (k : ℕ). meet_bytes c.loop-s.s.swapped k s.first.terms s.second.terms) e ∙ right_closed c.args.b.now c.loop-s.s.left c.loop-s.s.right c.loop-s.s.swapped (c.loop-s.s.fuel - 1) s.first s.second c.if-b-s-eq15-2.true);
  keeps = kept_then c.find_way-known.ensures.keeps c.loop-s.invariant.0;
}

pub meet-overflow_sub-s : goal.meet-overflow_sub-s
meet-overflow_sub-s t c = omega (arith, c.loop-s-test.true)

pub meet-advance-s-requires : goal.meet-advance-s-requires
meet-advance-s-requires t c =
    let b = c.args.b.now in
    let p = c.requires in
    let s = c.loop-s.invariant.4 c.requires.0.first c.requires.0.second in
    let e = one_less c.loop-s.s.fuel c.loop-s-test.true in (
      omega (arith, c.decreases, s.further, inside b c.loop-s.s.left s.first, inside b c.loop-s.s.right s.second, inside b c.args.start.left p.0.first, inside b c.args.start.right p.0.second),
      (record { first = s.first; second = s.second; short = stepped_short s e p.0.short }, c.if-b-s-eq15.false, c.if-b-s-eq15-2.false, p.1, omega (arith, s.less, p.2, c.loop-s-test.true), subst (λ (k : ℕ). Way b (in_turn c.loop-s.room c.loop-s.s.ends.next c.loop-s.s.ends.known []) k c.loop-s.s.left c.loop-s.s.right) e c.loop-s.invariant.1, c.loop-s.invariant.2),
    )

pub meet-loop-s-smaller : goal.meet-loop-s-smaller
meet-loop-s-smaller t c =
    let s = c.loop-s.invariant.4 c.requires.0.first c.requires.0.second in
    omega (arith, (c.advance-s.ensures.steps s.first s.second).less, c.loop-s-test.true)

pub meet-loop-s-preserved : goal.meet-loop-s-preserved
meet-loop-s-preserved t c =
    let k = c.advance-s.ensures.keeps.1 in
    let o = c.advance-s.ensures.keeps.0 in (
      kept_then c.loop-s.invariant.0 (kept_less c.loop-s.invariant.3 k),
      subst (λ (es : List End). Way c.args.b.now es c.advance-s.result.fuel c.advance-s.result.left c.advance-s.result.right) (in_turn-kept c.advance-s.result.ends.next c.advance-s.result.ends.known [] k (omega (arith, o.is))) o.way,
      omega (arith, o.is, c.loop-s.invariant.2, k.length),
      omega (arith, o.is, c.loop-s.invariant.3),
      λ p q. let s = c.loop-s.invariant.4 p q in stepped_on s (one_less c.loop-s.s.fuel c.loop-s-test.true) (c.advance-s.ensures.steps s.first s.second),
    )

pub meet-shape_of-room : goal.meet-shape_of-room
meet-shape_of-room t c = (kept_then c.find_way-known.ensures.keeps c.loop-s.invariant.0).length

pub meet-returns : goal.meet-returns
meet-returns t c = record {
  writes = λ p q.
      let s = c.loop-s.invariant.4 p q in
      let z : c.loop-s.s.fuel ≡ 0 = omega (arith, c.loop-s-test.false) in
      whole-written c.args.out.now s.text s.wrote s.is (ap (λ (k : ℕ). meet_bytes c.loop-s.s.swapped k s.first.terms s.second.terms) z ∙ meet-nothing c.loop-s.s.swapped s.first.terms s.second.terms);
  keeps = kept_then c.find_way-known.ensures.keeps c.loop-s.invariant.0;
}

pub put_heads-bounds-b-step : goal.put_heads-bounds-b-step
put_heads-bounds-b-step t c = omega (arith, head_inside c.args.b.now c.args.step.left c.requires.0.first)

pub put_heads-bounds-b-step-then-b-step-eq7 : goal.put_heads-bounds-b-step-then-b-step-eq7
put_heads-bounds-b-step-then-b-step-eq7 t c = omega (arith, head_inside c.args.b.now c.args.step.right c.requires.0.second)

pub put_heads-put_mark-requires : goal.put_heads-put_mark-requires
put_heads-put_mark-requires t c =
    let b = c.args.b.now in
    let p = c.requires.0 in
    omega (arith, both_brackets_long c.args.step.swapped p.first p.second (bracket-at p.first (mark-at b c.args.step.left ∙ c.if-b-step-eq7.true)) (bracket-at p.second (mark-at b c.args.step.right ∙ c.if-b-step-eq7-2.true)), p.short)

pub put_heads-overflow_add-inside-then-b-step-eq7-2 : goal.put_heads-overflow_add-inside-then-b-step-eq7-2
put_heads-overflow_add-inside-then-b-step-eq7-2 t c = omega (arith, heads-inside c.args.b.now c.args.step.left c.args.step.right c.requires.0, c.requires.1, c.requires.2)

pub put_heads-overflow_add-inside-then-b-step-eq7-2-2 : goal.put_heads-overflow_add-inside-then-b-step-eq7-2-2
put_heads-overflow_add-inside-then-b-step-eq7-2-2 t c = omega (arith, heads-inside c.args.b.now c.args.step.left c.args.step.right c.requires.0, c.requires.1, c.requires.2)

pub put_heads-overflow_add-inside : goal.put_heads-overflow_add-inside
put_heads-overflow_add-inside t c = omega (arith, heads-inside c.args.b.now c.args.step.left c.args.step.right c.requires.0, c.requires.1, c.requires.2)

pub put_heads-overflow_mul-inside : goal.put_heads-overflow_mul-inside
put_heads-overflow_mul-inside t c = omega (arith, heads-inside c.args.b.now c.args.step.left c.args.step.right c.requires.0, c.requires.1, c.requires.2)

pub put_heads-meet-requires : goal.put_heads-meet-requires
unfolding put_span put32
put_heads-meet-requires t c =
    let b = c.args.b.now in
    let p = c.requires.0 in
    let k = bracket-at p.first (mark-at b c.args.step.left ∙ c.if-b-step-eq7.true) in
    let l = bracket-at p.second (mark-at b c.args.step.right ∙ c.if-b-step-eq7-2.true) in (
      omega (arith, c.decreases, head_inside b c.args.step.left p.first, head_inside b c.args.step.right p.second),
      (
        record {
          first = inner_at b c.args.step.left k;
          second = inner_at b c.args.step.right l;
          short = omega (arith, ap count c.put_mark.ensures, both_brackets_long c.args.step.swapped p.first p.second k l, p.short);
        },
        c.requires.1,
        omega arith,
        c.requires.2,
      ),
    )

pub put_heads-put_byte-requires : goal.put_heads-put_byte-requires
unfolding put_span put32
put_heads-put_byte-requires t c =
    let b = c.args.b.now in
    let p = c.requires.0 in
    let k = bracket-at p.first (mark-at b c.args.step.left ∙ c.if-b-step-eq7.true) in
    let l = bracket-at p.second (mark-at b c.args.step.right ∙ c.if-b-step-eq7-2.true) in
    omega (arith, ap count (c.meet.ensures.writes (inner_at b c.args.step.left k) (inner_at b c.args.step.right l)), ap count c.put_mark.ensures, both_brackets_long c.args.step.swapped p.first p.second k l, p.short)

pub put_heads-returns-then-b-step-eq7-2 : goal.put_heads-returns-then-b-step-eq7-2
put_heads-returns-then-b-step-eq7-2 t c = record {
  writes = λ x y.
      let b = c.args.b.now in
      let k = bracket-at x (mark-at b c.args.step.left ∙ c.if-b-step-eq7.true) in
      let l = bracket-at y (mark-at b c.args.step.right ∙ c.if-b-step-eq7-2.true) in
      let i = meet_bytes c.args.step.swapped start k.inner.terms l.inner.terms in
      let w = c.args.out.now in
      same w (both-brackets c.args.step.swapped x y k l)
      (both w (7 ∷ put_span zero_span []) (i ++ (15 ∷ [])) c.put_mark.ensures (both _ i (15 ∷ []) (c.meet.ensures.writes (inner_at b c.args.step.left k) (inner_at b c.args.step.right l)) c.put_byte.ensures));
  keeps = c.meet.ensures.keeps;
}

pub put_heads-slice_bounds-put_head-count : goal.put_heads-slice_bounds-put_head-count
put_heads-slice_bounds-put_head-count t c = omega (arith, head_inside c.args.b.now c.args.step.left c.requires.0.first)

pub put_heads-slice_bounds-put_head-start : goal.put_heads-slice_bounds-put_head-start
put_heads-slice_bounds-put_head-start t c = omega (arith, head_inside c.args.b.now c.args.step.left c.requires.0.first)

pub put_heads-slice_bounds-put_head-end : goal.put_heads-slice_bounds-put_head-end
put_heads-slice_bounds-put_head-end t c = omega arith

pub put_heads-slice_bounds-put_head-count-2 : goal.put_heads-slice_bounds-put_head-count-2
put_heads-slice_bounds-put_head-count-2 t c = omega (arith, head_inside c.args.b.now c.args.step.right c.requires.0.second)

pub put_heads-slice_bounds-put_head-start-2 : goal.put_heads-slice_bounds-put_head-start-2
put_heads-slice_bounds-put_head-start-2 t c = omega (arith, head_inside c.args.b.now c.args.step.right c.requires.0.second)

pub put_heads-slice_bounds-put_head-end-2 : goal.put_heads-slice_bounds-put_head-end-2
put_heads-slice_bounds-put_head-end-2 t c = omega arith

pub put_heads-put_head-requires : goal.put_heads-put_head-requires
put_heads-put_head-requires t c =
    let b = c.args.b.now in
    let p = c.requires.0 in (
      record { first = head_part b c.args.step.left p.first; second = head_part b c.args.step.right p.second; short = p.short },
      λ e l. elim c.if-b-step-eq7.branch [ put_heads-then-b-step-eq7+else-b-step-eq7-2 w ↦ w.if-b-step-eq7-2.false (sym (mark_in b c.args.step.right) ∙ l) | put_heads-else-b-step-eq7 w ↦ w.if-b-step-eq7.false (sym (mark_in b c.args.step.left) ∙ e) ],
    )

pub put_heads-returns : goal.put_heads-returns
put_heads-returns t c = record { writes = λ x y. c.put_head.ensures (head_part c.args.b.now c.args.step.left x) (head_part c.args.b.now c.args.step.right y); keeps = kept_same _ c.args.room.now }
