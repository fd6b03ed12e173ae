use Prim.Native.Nat.{◌+◌, ◌<◌, ◌≤◌}
use native.Mathlib.Omega.{arith}
use mathlib.Core.Path.{refl, ap}
use lib.ListN.{length, length-set}
use Rattle.program.specs.Limits.{Mode}
use Rattle.patterns.specs.Search.{size}
use Rattle.rows.proofs.Places.{reading_part, next-is, kept_same, kept_then}
use Rattle.rows.proofs.Lists.{place_in, result-here, past_fits, kept_set, listing-first, listing-next, listing-done}
use Rattle.rows.proofs.Sizes.{place-size}
use Rattle.rows.proofs.terms.list_terms.Goals as goal

pub returns-then-room-at : goal.returns-then-room-at
returns-then-room-at c = record { lists = tt; keeps = kept_same c.args.at c.args.room.now; suffices = λ l e. omega (arith, l, c.if-room-at.true) }

pub loop-q-init : goal.loop-q-init
loop-q-init c = (omega arith, c.if-room-at.false, kept_same c.args.at c.args.room.now, listing-first c.args.b.now c.args.room.now c.args.p c.args.at c.requires.0, omega arith)

pub returns-then-room-k : goal.returns-then-room-k
returns-then-room-k c = let i = c.loop-q.invariant in record { lists = tt; keeps = i.2; suffices = λ l e. omega (arith, l, c.if-room-k.true, i.2.length, i.4, place-size i.3.from c.loop-q-test.true) }

pub term_len-q-requires : goal.term_len-q-requires
term_len-q-requires c = result-here c.loop-q.invariant.3.from

pub loop-q-smaller : goal.loop-q-smaller
loop-q-smaller c =
    let both : (c.loop-q.q + c.term_len-q.result ≤ length c.args.b.now) × (0 < c.term_len-q.result) = let s = c.loop-q.invariant.3.from in past_fits s c.loop-q-test.true c.term_len-q.result (c.term_len-q.ensures Mode.pattern (reading_part s)) in
    omega (arith, both)

pub loop-q-preserved : goal.loop-q-preserved
loop-q-preserved c =
    let below : c.loop-q.k < length c.loop-q.room = omega (arith, c.if-room-k.false, c.loop-q.invariant.2.length) in
    let i = c.loop-q.invariant in
    let m = c.loop-q.room in
    let k = c.loop-q.k in
    let q = c.loop-q.q in
    let r = below in (
      omega (arith, i.0),
      omega (arith, r, length-set m k q),
      kept_then i.2 (kept_set c.args.at m k q i.0),
      listing-next i.3 c.loop-q-test.true i.0 r c.term_len-q.result (c.term_len-q.ensures Mode.pattern (reading_part i.3.from)),
      omega (arith, i.4, place-size i.3.from c.loop-q-test.true, ap size (next-is i.3.from c.term_len-q.result (c.term_len-q.ensures Mode.pattern (reading_part i.3.from)))),
    )

pub returns : goal.returns
returns c = let i = c.loop-q.invariant in record { lists = (refl, omega (arith, i.0, i.1), listing-done i.3 c.loop-q-test.false); keeps = i.2; suffices = λ l e. cc }

pub bounds-b-q : goal.bounds-b-q
bounds-b-q c = place_in c.loop-q.invariant.3.from

pub overflow_cast-room : goal.overflow_cast-room
overflow_cast-room c = omega (arith, place_in c.loop-q.invariant.3.from, c.requires.1)

pub slice_bounds-term_len-count : goal.slice_bounds-term_len-count
slice_bounds-term_len-count c = omega (arith, place_in c.loop-q.invariant.3.from)

pub slice_bounds-term_len-start : goal.slice_bounds-term_len-start
slice_bounds-term_len-start c = omega (arith, place_in c.loop-q.invariant.3.from)

pub overflow_add-q : goal.overflow_add-q
overflow_add-q c =
    let both : (c.loop-q.q + c.term_len-q.result ≤ length c.args.b.now) × (0 < c.term_len-q.result) = let s = c.loop-q.invariant.3.from in past_fits s c.loop-q-test.true c.term_len-q.result (c.term_len-q.ensures Mode.pattern (reading_part s)) in
    omega (arith, both, c.requires.1)
