use Prim.Native.Nat.{ℕ, ◌+◌, ◌-◌, ◌<◌}
use native.Mathlib.Omega.{arith}
use mathlib.Core.Path.{◌≡◌, sym, ◌∙◌}
use mathlib.Core.Bool.{true, false}
use mathlib.Core.List.{List}
use lib.ListN.{get_or, drop}
use Rattle.program.specs.Limits.{Mode}
use Rattle.program.specs.Encode.{put_terms}
use Rattle.image.specs.Parts.{Passes, tail}
use Rattle.image.proofs.Readings.{result-at}
use Rattle.patterns.specs.declared.Verdict.{Verdict}
use Rattle.patterns.specs.Search.{overlap_of_terms, sequence}
use Rattle.rows.specs.Parts.{HeadAt}
use Rattle.rows.proofs.Places.{kept_same, kept_then}
use Rattle.rows.proofs.Readings.{part, inside, at_part, mark_in, pattern-room}
use Rattle.overlap.specs.Steps.{is_overlap}
use Rattle.overlap.specs.Way.{Told, lead_of}
use Rattle.overlap.proofs.Ways.{term-within, Onward, onward_first, closed_first, closed_second, splits-first, splits-second, head-of_first, head-of-second, heads-end, heads-on}
use Rattle.overlap.proofs.Verdicts.{not-overlap, is-overlap}
use Rattle.overlap.proofs.way.walk_heads.Goals as goal

-- The mark of a part is that of the body at its place.
is : (b : List ℕ) (i m : ℕ) → get_or (part b i) 0 0 ≡ m → get_or b i 0 ≡ m
is b i m e = sym (mark_in b i) ∙ e

is-not : (b : List ℕ) (i m : ℕ) → (get_or (part b i) 0 0 ≡ m → ⊥) → get_or b i 0 ≡ m → ⊥
is-not b i m n e = n (mark_in b i ∙ e)

-- Two heads in turn, neither an `e.` variable nor a close by the marks of their parts.
module _ {b : List ℕ} {fuel p q f i j : ℕ} (o : Onward b fuel p q f i j) (l : 0 < f) (m : get_or (part b i) 0 0 ≡ 15 → ⊥) (n : get_or (part b i) 0 0 ≡ 6 → ⊥) where
  abbrev first_head : HeadAt (drop i b)
  first_head = head-of_first o l (is-not b i 15 m) (is-not b i 6 n)

  module _ (m' : get_or (part b j) 0 0 ≡ 15 → ⊥) (n' : get_or (part b j) 0 0 ≡ 6 → ⊥) where
    abbrev second_head : HeadAt (drop j b)
    second_head = head-of-second o l (is-not b i 15 m) (is-not b i 6 n) (is-not b j 15 m') (is-not b j 6 n')

    module _ (v : Verdict) (e : v ≡ overlap_of_terms sequence first_head.head second_head.head) where
      heads_told : is_overlap v ≡ false → Told b fuel p q (lead_of v (f - 1))
      heads_told h = heads-end o l (is-not b i 15 m) (is-not b i 6 n) (is-not b j 15 m') (is-not b j 6 n') v e h

      heads_passed : is_overlap v ≡ true → (s : ℕ) → Passes (part b i) s (put_terms (tail o.first.terms) o.first.rest) → (t : ℕ) → Passes (part b j) t (put_terms (tail o.second.terms) o.second.rest)
          → Onward b fuel p q (f - 1) (i + s) (j + t)
      heads_passed h s d t k =
          heads-on o l (is-not b i 15 m) (is-not b i 6 n) (is-not b j 15 m') (is-not b j 6 n') v e h
          s (term-within b i o.first m s d) d t (term-within b j o.second m' t k) k

pub loop-f-init : goal.loop-f-init
loop-f-init c = (kept_same c.args.from c.args.room.now, onward_first c.requires.0 c.requires.1)

pub slice_bounds-x-count : goal.slice_bounds-x-count
slice_bounds-x-count c = omega (arith, inside c.args.b.now c.loop-f.i c.loop-f.invariant.1.first)

pub slice_bounds-x-start : goal.slice_bounds-x-start
slice_bounds-x-start c = omega (arith, inside c.args.b.now c.loop-f.i c.loop-f.invariant.1.first)

pub slice_bounds-x-end : goal.slice_bounds-x-end
slice_bounds-x-end c = omega arith

pub slice_bounds-y-count : goal.slice_bounds-y-count
slice_bounds-y-count c = omega (arith, inside c.args.b.now c.loop-f.j c.loop-f.invariant.1.second)

pub slice_bounds-y-start : goal.slice_bounds-y-start
slice_bounds-y-start c = omega (arith, inside c.args.b.now c.loop-f.j c.loop-f.invariant.1.second)

pub slice_bounds-y-end : goal.slice_bounds-y-end
slice_bounds-y-end c = omega arith

pub bounds-x-0 : goal.bounds-x-0
bounds-x-0 c = pattern-room (at_part c.args.b.now c.loop-f.i c.loop-f.invariant.1.first)

pub bounds-y-0 : goal.bounds-y-0
bounds-y-0 c = pattern-room (at_part c.args.b.now c.loop-f.j c.loop-f.invariant.1.second)

pub leftover_overlap-requires : goal.leftover_overlap-requires
leftover_overlap-requires c = at_part c.args.b.now c.loop-f.j c.loop-f.invariant.1.second

pub shape_of-room-then-m-eq15 : goal.shape_of-room-then-m-eq15
shape_of-room-then-m-eq15 c = c.loop-f.invariant.0.length

-- One of the two is at its close.
pub returns-then-m-eq15 : goal.returns-then-m-eq15
returns-then-m-eq15 c =
    let b = c.args.b.now in
    let o = c.loop-f.invariant.1 in
    let v = c.leftover_overlap in record {
      tells = rw c.lead_of.ensures (closed_first o c.loop-f-test.true (is b c.loop-f.i 15 c.if-m-eq15.true) v.result (v.ensures (at_part b c.loop-f.j o.second)));
      keeps = c.loop-f.invariant.0;
    }

pub leftover_overlap-requires-then-n-eq15 : goal.leftover_overlap-requires-then-n-eq15
leftover_overlap-requires-then-n-eq15 c = at_part c.args.b.now c.loop-f.i c.loop-f.invariant.1.first

pub shape_of-room-then-n-eq15 : goal.shape_of-room-then-n-eq15
shape_of-room-then-n-eq15 c = c.loop-f.invariant.0.length

pub returns-then-n-eq15 : goal.returns-then-n-eq15
returns-then-n-eq15 c =
    let b = c.args.b.now in
    let o = c.loop-f.invariant.1 in
    let v = c.leftover_overlap-then-n-eq15 in record {
      tells = rw c.lead_of-then-n-eq15.ensures (closed_second o c.loop-f-test.true (is b c.loop-f.j 15 c.if-n-eq15.true) v.result (v.ensures (at_part b c.loop-f.i o.first)));
      keeps = c.loop-f.invariant.0;
    }

pub term_len-requires : goal.term_len-requires
term_len-requires c = result-at (at_part c.args.b.now c.loop-f.i c.loop-f.invariant.1.first)

pub overflow_add-k : goal.overflow_add-k
overflow_add-k c =
    let b = c.args.b.now in
    let p = c.loop-f.invariant.1.first in
    let k = c.term_len in
    omega (arith, term-within b c.loop-f.i p c.if-m-eq15.false k.result (k.ensures Mode.pattern (at_part b c.loop-f.i p)), c.requires.2)

pub term_len-requires-in-loop-f : goal.term_len-requires-in-loop-f
term_len-requires-in-loop-f c = result-at (at_part c.args.b.now c.loop-f.j c.loop-f.invariant.1.second)

pub overflow_add-l : goal.overflow_add-l
overflow_add-l c =
    let b = c.args.b.now in
    let p = c.loop-f.invariant.1.second in
    let k = c.term_len-in-loop-f in
    omega (arith, term-within b c.loop-f.j p c.if-n-eq15.false k.result (k.ensures Mode.pattern (at_part b c.loop-f.j p)), c.requires.2)

pub shape_of-room-then-m-eq6 : goal.shape_of-room-then-m-eq6
shape_of-room-then-m-eq6 c = c.loop-f.invariant.0.length

-- The first is at an `e.` variable, or the second.
pub returns-then-m-eq6 : goal.returns-then-m-eq6
returns-then-m-eq6 c =
    let b = c.args.b.now in
    let i = c.loop-f.i in
    let o = c.loop-f.invariant.1 in
    let n = c.term_len.result in
    let d = c.term_len.ensures Mode.pattern (at_part b i o.first) in record {
      tells = splits-first o c.loop-f-test.true n (term-within b i o.first c.if-m-eq15.false n d) d (is b i 6 c.if-m-eq6.true) (is-not b c.loop-f.j 15 c.if-n-eq15.false);
      keeps = c.loop-f.invariant.0;
    }

pub shape_of-room-then-n-eq6 : goal.shape_of-room-then-n-eq6
shape_of-room-then-n-eq6 c = c.loop-f.invariant.0.length

pub returns-then-n-eq6 : goal.returns-then-n-eq6
returns-then-n-eq6 c =
    let b = c.args.b.now in
    let i = c.loop-f.i in
    let j = c.loop-f.j in
    let o = c.loop-f.invariant.1 in
    let n = c.term_len-in-loop-f.result in
    let d = c.term_len-in-loop-f.ensures Mode.pattern (at_part b j o.second) in record {
      tells = splits-second o c.loop-f-test.true (is-not b i 15 c.if-m-eq15.false) (is-not b i 6 c.if-m-eq6.false) n (term-within b j o.second c.if-n-eq15.false n d) d (is b j 6 c.if-n-eq6.true);
      keeps = c.loop-f.invariant.0;
    }

pub heads_verdict-v-requires : goal.heads_verdict-v-requires
heads_verdict-v-requires c =
    let o = c.loop-f.invariant.1 in
    let l = c.loop-f-test.true in
    let m = c.if-m-eq15.false in
    let n = c.if-m-eq6.false in
    (first_head o l m n, second_head o l m n c.if-n-eq15.false c.if-n-eq6.false, c.requires.2)

pub shape_of-room-then-ne : goal.shape_of-room-then-ne
shape_of-room-then-ne c = let q = c.heads_verdict-v.ensures.keeps in q.length ∙ c.loop-f.invariant.0.length

pub returns-then-ne : goal.returns-then-ne
returns-then-ne c =
    let o = c.loop-f.invariant.1 in
    let l = c.loop-f-test.true in
    let m = c.if-m-eq15.false in
    let n = c.if-m-eq6.false in
    let m' = c.if-n-eq15.false in
    let n' = c.if-n-eq6.false in
    let v = c.heads_verdict-v in record {
      tells = rw c.lead_of-then-ne.ensures
          (heads_told o l m n m' n' v.result (v.ensures.answers (first_head o l m n) (second_head o l m n m' n')) (not-overlap _ (sym c.ne.ensures ∙ c.if-ne.true)));
      keeps = kept_then c.loop-f.invariant.0 v.ensures.keeps;
    }

pub loop-f-preserved : goal.loop-f-preserved
loop-f-preserved c =
    let b = c.args.b.now in
    let o = c.loop-f.invariant.1 in
    let l = c.loop-f-test.true in
    let m = c.if-m-eq15.false in
    let n = c.if-m-eq6.false in
    let m' = c.if-n-eq15.false in
    let n' = c.if-n-eq6.false in
    let v = c.heads_verdict-v in
    let i = c.term_len in
    let j = c.term_len-in-loop-f in (
      kept_then c.loop-f.invariant.0 v.ensures.keeps,
      heads_passed o l m n m' n' v.result (v.ensures.answers (first_head o l m n) (second_head o l m n m' n')) (is-overlap _ (sym c.ne.ensures ∙ c.if-ne.false))
          i.result (i.ensures Mode.pattern (at_part b c.loop-f.i o.first)) j.result (j.ensures Mode.pattern (at_part b c.loop-f.j o.second)),
    )

pub shape_of-room : goal.shape_of-room
shape_of-room c = c.loop-f.invariant.0.length

pub returns : goal.returns
returns c = record { tells = tt; keeps = c.loop-f.invariant.0 }
