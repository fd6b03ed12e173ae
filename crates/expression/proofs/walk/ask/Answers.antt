use Prim.Native.Nat.{◌+◌, ◌<◌, ◌≤◌}
use native.Mathlib.Omega.{arith}
use mathlib.Core.Path.{refl, sym, ◌∙◌}
use lib.ListN.{length}
use Rattle.program.specs.Limits.{Mode}
use Rattle.image.proofs.Readings.{result-at}
use Rattle.rows.proofs.Places.{kept_same, kept_then}
use Rattle.rows.proofs.Readings.{inside, at_part, pattern-room, next_fits}
use Rattle.expression.proofs.Walking.{absorbing-first, absorbing-meets, absorbing-fails, absorbing-short, absorbing-next}
use Rattle.overlap.proofs.Verdicts.{same-overlap}
use Rattle.expression.proofs.walk.ask.Goals as goal

pub loop-x-init : goal.loop-x-init
loop-x-init c = (kept_same c.args.step.ends.next c.args.room.now, λ x y. absorbing-first c.args.b.now c.args.out.now c.args.step.right c.args.step.fuel c.args.step.swapped x.terms y)

pub asked-q-requires : goal.asked-q-requires
asked-q-requires c =
    let w = (c.loop-x.invariant.1 c.requires.0.first c.requires.0.second) in
    (c.requires.0.first, w.there, c.requires.1, omega (arith, w.less, c.requires.2))

pub slice_bounds-x-count : goal.slice_bounds-x-count
slice_bounds-x-count c = omega (arith, inside c.args.b.now c.loop-x.right ((c.loop-x.invariant.1 c.requires.0.first c.requires.0.second)).there)

pub slice_bounds-x-start : goal.slice_bounds-x-start
slice_bounds-x-start c = omega (arith, inside c.args.b.now c.loop-x.right ((c.loop-x.invariant.1 c.requires.0.first c.requires.0.second)).there)

pub slice_bounds-x-end : goal.slice_bounds-x-end
slice_bounds-x-end c = omega arith

pub shape_of-room-then-eq : goal.shape_of-room-then-eq
shape_of-room-then-eq c = c.asked-q.ensures.keeps.length ∙ c.loop-x.invariant.0.length

pub returns-then-eq : goal.returns-then-eq
returns-then-eq c = record {
  steps = λ x y.
      let w = c.loop-x.invariant.1 x y in
      record {
        text = w.text;
        wrote = w.wrote;
        first = x;
        second = w.there;
        is = absorbing-meets w c.asked-q.result (c.asked-q.ensures.answers x w.there) (sym (c.eq.ensures ∙ same-overlap c.asked-q.result.verdict) ∙ c.if-eq.true);
        further = omega (arith, w.further);
        less = w.less;
      };
  keeps = (refl, refl, kept_then c.loop-x.invariant.0 c.asked-q.ensures.keeps);
}

pub bounds-x-0 : goal.bounds-x-0
bounds-x-0 c = pattern-room (at_part c.args.b.now c.loop-x.right ((c.loop-x.invariant.1 c.requires.0.first c.requires.0.second)).there)

pub shape_of-room-then-x-eq15 : goal.shape_of-room-then-x-eq15
shape_of-room-then-x-eq15 c = c.asked-q.ensures.keeps.length ∙ c.loop-x.invariant.0.length

pub returns-then-x-eq15 : goal.returns-then-x-eq15
returns-then-x-eq15 c = record {
  steps = λ x y.
      let w = c.loop-x.invariant.1 x y in
      record {
        text = w.text;
        wrote = w.wrote;
        first = x;
        second = w.there;
        is = absorbing-fails w c.asked-q.result (c.asked-q.ensures.answers x w.there) (sym (c.eq.ensures ∙ same-overlap c.asked-q.result.verdict) ∙ c.if-eq.false) c.if-x-eq15.true;
        further = omega (arith, w.further);
        less = omega arith;
      };
  keeps = (refl, refl, kept_then c.loop-x.invariant.0 c.asked-q.ensures.keeps);
}

pub put_free_term-requires : goal.put_free_term-requires
put_free_term-requires c =
    let w = (c.loop-x.invariant.1 c.requires.0.first c.requires.0.second) in (
      record {
        pattern = at_part c.args.b.now c.loop-x.right w.there;
        short = absorbing-short w c.asked-q.result (c.asked-q.ensures.answers c.requires.0.first w.there) (sym (c.eq.ensures ∙ same-overlap c.asked-q.result.verdict) ∙ c.if-eq.false) c.if-x-eq15.false c.requires.0.short;
      },
      c.if-x-eq15.false,
    )

pub term_len-right-requires : goal.term_len-right-requires
term_len-right-requires c = result-at (at_part c.args.b.now c.loop-x.right ((c.loop-x.invariant.1 c.requires.0.first c.requires.0.second)).there)

pub overflow_add-right : goal.overflow_add-right
overflow_add-right c =
    let both : (c.loop-x.right + c.term_len-right.result ≤ length c.args.b.now) × (0 < c.term_len-right.result) = let b = c.args.b.now in
    let w = (c.loop-x.invariant.1 c.requires.0.first c.requires.0.second) in
    let x = at_part b c.loop-x.right w.there in
    let f = next_fits b c.loop-x.right x c.if-x-eq15.false (omega (arith, inside b c.loop-x.right w.there)) c.term_len-right.result (c.term_len-right.ensures Mode.pattern x) in
    (f.0, f.1) in
    omega (
      arith,
      both.0,
    )

pub loop-x-smaller : goal.loop-x-smaller
loop-x-smaller c =
    let both : (c.loop-x.right + c.term_len-right.result ≤ length c.args.b.now) × (0 < c.term_len-right.result) = let b = c.args.b.now in
    let w = (c.loop-x.invariant.1 c.requires.0.first c.requires.0.second) in
    let x = at_part b c.loop-x.right w.there in
    let f = next_fits b c.loop-x.right x c.if-x-eq15.false (omega (arith, inside b c.loop-x.right w.there)) c.term_len-right.result (c.term_len-right.ensures Mode.pattern x) in
    (f.0, f.1) in
    omega (
      arith,
      both.0,
      both.1,
    )

pub loop-x-preserved : goal.loop-x-preserved
loop-x-preserved c =
    let b = c.args.b.now in (
      kept_then c.loop-x.invariant.0 c.asked-q.ensures.keeps,
      λ x y.
          let w = c.loop-x.invariant.1 x y in
          let p = at_part b c.loop-x.right w.there in
          absorbing-next w c.asked-q.result (c.asked-q.ensures.answers x w.there) (sym (c.eq.ensures ∙ same-overlap c.asked-q.result.verdict) ∙ c.if-eq.false) c.if-x-eq15.false c.term_len-right.result c.put_free_term.new.out (c.term_len-right.ensures Mode.pattern p) (c.put_free_term.ensures p),
    )
