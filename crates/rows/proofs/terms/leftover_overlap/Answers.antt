use Prim.Native.Nat.{◌+◌, ◌<◌, ◌≤◌}
use native.Mathlib.Omega.{arith}
use mathlib.Core.Path.{refl, sym}
use lib.ListN.{length}
use Rattle.program.specs.Limits.{Mode}
use Rattle.image.proofs.Readings.{result-at}
use Rattle.rows.proofs.Readings.{first-at, pattern-room, next_fits}
use Rattle.rows.proofs.Leaving.{Leaving, leftover_next, leftover_all, leftover_some}
use Rattle.rows.proofs.terms.leftover_overlap.Goals as goal

pub loop-x-init : goal.loop-x-init
loop-x-init c = (omega arith, λ p. record { there = first-at p; whole = refl })

pub slice_bounds-x-count : goal.slice_bounds-x-count
slice_bounds-x-count c = omega arith

pub slice_bounds-x-start : goal.slice_bounds-x-start
slice_bounds-x-start c = omega arith

pub slice_bounds-x-end : goal.slice_bounds-x-end
slice_bounds-x-end c = omega arith

pub bounds-x-0 : goal.bounds-x-0
bounds-x-0 c =
    let leaving : Leaving c.args.s.now c.loop-x.i c.requires = c.loop-x.invariant.1 c.requires in
    pattern-room leaving.there

pub returns-then-m-eq15 : goal.returns-then-m-eq15
returns-then-m-eq15 c p = sym (leftover_all (c.loop-x.invariant.1 p) c.if-m-eq15.true)

pub returns-then-m-ne6 : goal.returns-then-m-ne6
returns-then-m-ne6 c p = sym (leftover_some (c.loop-x.invariant.1 p) c.if-m-eq15.false c.if-m-ne6.true)

pub term_len-i-requires : goal.term_len-i-requires
term_len-i-requires c =
    let leaving : Leaving c.args.s.now c.loop-x.i c.requires = c.loop-x.invariant.1 c.requires in
    result-at leaving.there

pub overflow_add-i : goal.overflow_add-i
overflow_add-i c =
    let leaving : Leaving c.args.s.now c.loop-x.i c.requires = c.loop-x.invariant.1 c.requires in
    let both : (c.loop-x.i + c.term_len-i.result ≤ length c.args.s.now) × (0 < c.term_len-i.result) = let r = leaving.there in
    let f = next_fits c.args.s.now c.loop-x.i r c.if-m-eq15.false c.loop-x.invariant.0 c.term_len-i.result (c.term_len-i.ensures Mode.pattern r) in
    (f.0, f.1) in
    omega (
      arith,
      both,
    )

pub loop-x-smaller : goal.loop-x-smaller
loop-x-smaller c =
    let leaving : Leaving c.args.s.now c.loop-x.i c.requires = c.loop-x.invariant.1 c.requires in
    let both : (c.loop-x.i + c.term_len-i.result ≤ length c.args.s.now) × (0 < c.term_len-i.result) = let r = leaving.there in
    let f = next_fits c.args.s.now c.loop-x.i r c.if-m-eq15.false c.loop-x.invariant.0 c.term_len-i.result (c.term_len-i.ensures Mode.pattern r) in
    (f.0, f.1) in
    omega (
      arith,
      both,
    )

pub loop-x-preserved : goal.loop-x-preserved
loop-x-preserved c =
    let leaving : Leaving c.args.s.now c.loop-x.i c.requires = c.loop-x.invariant.1 c.requires in
    let both : (c.loop-x.i + c.term_len-i.result ≤ length c.args.s.now) × (0 < c.term_len-i.result) = let r = leaving.there in
    let f = next_fits c.args.s.now c.loop-x.i r c.if-m-eq15.false c.loop-x.invariant.0 c.term_len-i.result (c.term_len-i.ensures Mode.pattern r) in
    (f.0, f.1) in (
      both.0,
      λ p. let r = c.loop-x.invariant.1 p in leftover_next r c.if-m-ne6.false c.term_len-i.result (c.term_len-i.ensures Mode.pattern r.there),
    )
