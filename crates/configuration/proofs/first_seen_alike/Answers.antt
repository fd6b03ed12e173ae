use Prim.Native.Nat.{◌+◌, ◌<◌, ◌≤◌}
use native.Mathlib.Omega.{arith}
use mathlib.Core.Path.{sym}
use lib.ListN.{length}
use Rattle.configuration.proofs.Scan.{part_length, scanning_first, scanning_end, one_part, two_part, first-met, second-met, token-moves, scanning-next}
use Rattle.configuration.proofs.Tokens.{token-passes, token-here}
use Rattle.configuration.proofs.first_seen_alike.Goals as goal
use Rattle.configuration.proofs.first_seen_alike.Goals.{After-token_len-y}

-- Past a token of each, and within b if y was.
moves : (c : After-token_len-y) → (0 < c.token_len-x.result) × (c.loop-x.y ≤ length c.args.b.now → c.loop-x.y + c.token_len-y.result ≤ length c.args.b.now)
moves c =
    let s = c.loop-x.invariant.1 c.requires.2 in
    let l = c.loop-x-test.true in
    let p = c.meets_name-p in
    let q = c.meets_name-q in
    let d = c.token_len-x in
    let k = c.token_len-y in
    let v = token-moves s l p.result q.result (p.ensures (one_part s l)) (q.ensures (two_part s l)) d.result k.result (token-passes (one_part s l) d.ensures) (token-passes (two_part s l) k.ensures) in
    (v.0, v.1)

pub loop-x-init : goal.loop-x-init
loop-x-init c = (omega arith, λ w. scanning_first _ _ w)

pub slice_bounds-s-count : goal.slice_bounds-s-count
slice_bounds-s-count c = omega (arith, c.loop-x-test.true, c.requires.0)

pub slice_bounds-s-start : goal.slice_bounds-s-start
slice_bounds-s-start c = omega (arith, c.loop-x-test.true, c.requires.0)

pub slice_bounds-s-end : goal.slice_bounds-s-end
slice_bounds-s-end c = omega arith

pub slice_bounds-t-count : goal.slice_bounds-t-count
slice_bounds-t-count c = omega (arith, c.loop-x.invariant.0)

pub slice_bounds-t-start : goal.slice_bounds-t-start
slice_bounds-t-start c = omega (arith, c.loop-x.invariant.0)

pub slice_bounds-t-end : goal.slice_bounds-t-end
slice_bounds-t-end c = omega arith

pub meets_name-p-requires : goal.meets_name-p-requires
meets_name-p-requires c = one_part (c.loop-x.invariant.1 c.requires.2) c.loop-x-test.true

pub meets_name-q-requires : goal.meets_name-q-requires
meets_name-q-requires c = two_part (c.loop-x.invariant.1 c.requires.2) c.loop-x-test.true

pub returns-then-p : goal.returns-then-p
returns-then-p c = λ w.
    let l = c.loop-x-test.true in
    let s = c.loop-x.invariant.1 w in
    let p = c.meets_name-p in
    let q = c.meets_name-q in
    sym (first-met s l p.result q.result (p.ensures (one_part s l)) (q.ensures (two_part s l)) c.if-p.true)

pub returns-then-q : goal.returns-then-q
returns-then-q c = λ w.
    let l = c.loop-x-test.true in
    let s = c.loop-x.invariant.1 w in
    let p = c.meets_name-p in
    let q = c.meets_name-q in
    sym (second-met s l p.result q.result (p.ensures (one_part s l)) (q.ensures (two_part s l)) c.if-p.false c.if-q.true)

pub token_len-x-requires : goal.token_len-x-requires
token_len-x-requires c = token-here (one_part (c.loop-x.invariant.1 c.requires.2) c.loop-x-test.true)

pub overflow_add-x : goal.overflow_add-x
overflow_add-x c =
    let s = c.loop-x.invariant.1 c.requires.2 in
    omega (arith, (token-passes (one_part s c.loop-x-test.true) c.token_len-x.ensures).fits, part_length c.args.a.now c.loop-x.x, c.loop-x-test.true, c.requires.0)

pub token_len-y-requires : goal.token_len-y-requires
token_len-y-requires c = token-here (two_part (c.loop-x.invariant.1 c.requires.2) c.loop-x-test.true)

pub overflow_add-y : goal.overflow_add-y
overflow_add-y c = omega (arith, (moves (goal.at.overflow_add-y c).After-token_len-y).1 c.loop-x.invariant.0)

pub loop-x-smaller : goal.loop-x-smaller
loop-x-smaller c = omega (arith, c.loop-x-test.true, (moves (goal.at.loop-x-smaller c).After-token_len-y).0)

pub loop-x-preserved : goal.loop-x-preserved
loop-x-preserved c =
    let l = c.loop-x-test.true in
    let p = c.meets_name-p in
    let q = c.meets_name-q in
    let d = c.token_len-x in
    let k = c.token_len-y in (
      (moves (goal.at.loop-x-preserved c).After-token_len-y).1 c.loop-x.invariant.0,
      λ w.
          let s = c.loop-x.invariant.1 w in
          scanning-next s l p.result q.result (p.ensures (one_part s l)) (q.ensures (two_part s l)) d.result k.result (token-passes (one_part s l) d.ensures) (token-passes (two_part s l) k.ensures) c.if-p.false c.if-q.false,
    )

pub returns : goal.returns
returns c = λ w. sym (scanning_end (c.loop-x.invariant.1 w) c.loop-x-test.false)
