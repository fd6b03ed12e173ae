use Prim.Native.Nat.{◌+◌, ◌<◌, ◌≤◌}
use native.Mathlib.Omega.{arith}
use lib.ListN.{length}
use Rattle.program.specs.Limits.{Mode}
use Rattle.image.proofs.Readings.{result-at}
use Rattle.rows.proofs.Readings.{first-at, pattern-room, next-at, next_fits}
use Rattle.overlap.proofs.terms.count_terms.Goals as goal

pub loop-x-init : goal.loop-x-init
loop-x-init c = (omega arith, omega arith, first-at c.requires)

pub slice_bounds-x-count : goal.slice_bounds-x-count
slice_bounds-x-count c = omega arith

pub slice_bounds-x-start : goal.slice_bounds-x-start
slice_bounds-x-start c = omega arith

pub slice_bounds-x-end : goal.slice_bounds-x-end
slice_bounds-x-end c = omega arith

pub bounds-x-0 : goal.bounds-x-0
bounds-x-0 c = pattern-room c.loop-x.invariant.2

pub returns-then-x-eq15 : goal.returns-then-x-eq15
returns-then-x-eq15 c = omega arith

pub term_len-i-requires : goal.term_len-i-requires
term_len-i-requires c = result-at c.loop-x.invariant.2

pub overflow_add-i : goal.overflow_add-i
overflow_add-i c =
    let both : (c.loop-x.i + c.term_len-i.result ≤ length c.args.s.now) × (0 < c.term_len-i.result) = let r = c.loop-x.invariant.2 in
    let f = next_fits c.args.s.now c.loop-x.i r c.if-x-eq15.false c.loop-x.invariant.0 c.term_len-i.result (c.term_len-i.ensures Mode.pattern r) in
    (f.0, f.1) in
    omega (
      arith,
      both,
    )

pub overflow_add-n : goal.overflow_add-n
overflow_add-n c =
    let both : (c.loop-x.i + c.term_len-i.result ≤ length c.args.s.now) × (0 < c.term_len-i.result) = let r = c.loop-x.invariant.2 in
    let f = next_fits c.args.s.now c.loop-x.i r c.if-x-eq15.false c.loop-x.invariant.0 c.term_len-i.result (c.term_len-i.ensures Mode.pattern r) in
    (f.0, f.1) in
    omega (
      arith,
      both,
    )

pub loop-x-smaller : goal.loop-x-smaller
loop-x-smaller c =
    let both : (c.loop-x.i + c.term_len-i.result ≤ length c.args.s.now) × (0 < c.term_len-i.result) = let r = c.loop-x.invariant.2 in
    let f = next_fits c.args.s.now c.loop-x.i r c.if-x-eq15.false c.loop-x.invariant.0 c.term_len-i.result (c.term_len-i.ensures Mode.pattern r) in
    (f.0, f.1) in
    omega (
      arith,
      both,
    )

pub loop-x-preserved : goal.loop-x-preserved
loop-x-preserved c =
    let both : (c.loop-x.i + c.term_len-i.result ≤ length c.args.s.now) × (0 < c.term_len-i.result) = let r = c.loop-x.invariant.2 in
    let f = next_fits c.args.s.now c.loop-x.i r c.if-x-eq15.false c.loop-x.invariant.0 c.term_len-i.result (c.term_len-i.ensures Mode.pattern r) in
    (f.0, f.1) in
    let both_2 : (c.loop-x.i + c.term_len-i.result ≤ length c.args.s.now) × (0 < c.term_len-i.result) = let r = c.loop-x.invariant.2 in
    let f = next_fits c.args.s.now c.loop-x.i r c.if-x-eq15.false c.loop-x.invariant.0 c.term_len-i.result (c.term_len-i.ensures Mode.pattern r) in
    (f.0, f.1) in
    let r = c.loop-x.invariant.2 in (
      both.0,
      omega (
        arith,
        both_2,
      ),
      next-at c.args.s.now c.loop-x.i r c.term_len-i.result (c.term_len-i.ensures Mode.pattern r),
    )
