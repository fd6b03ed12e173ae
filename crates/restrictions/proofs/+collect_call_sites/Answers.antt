use Prim.Native.Nat.{ℕ, ◌+◌, ◌<◌, ◌≤◌}
use native.Mathlib.Omega.{arith}
use mathlib.Core.Path.{◌≡◌, refl}
use mathlib.Core.List.{List}
use lib.ListN.{length, drop}
use Rattle.program.specs.Limits.{Mode}
use Rattle.rows.proofs.Readings.{part, part_length}
use Rattle.restrictions.specs.declared.Walk.{Walk}
use Rattle.restrictions.specs.Records.{RecordsAt, Collected}
use Rattle.restrictions.proofs.Stage.{to_go, less-on, less_in}
use Rattle.restrictions.proofs.Going.{Going, body_with, body_with_lem, part_of_body, going_first, going_within, going_length, stands, inner_reading, inner_room, inner_fits, descended, skipped, flat-part, flat_fits, flat_passed, call_part, call-space, argument-fits, call-passed, sentence-part, none_before, conditions-fits, result_fits, sentence-entered, inside-fits, lists-opened, going_done, resumed, resumed-less}
use Rattle.restrictions.proofs.+collect_call_sites.Goals as goal
use Rattle.restrictions.proofs.+collect_call_sites.Goals.{At-loop-lists, Then-m-lt12, Else-m-eq15, After-term_len-i, After-packed, After-call_argument-i, After-conditions_start, After-result_start-i}

-- At the loop's head.
module _ (t : ℕ) (c : At-loop-lists t) where
  -- Where the walk stands, in a body that has the part.
  here : Going (body_with c.args.at c.args.part.now) c.args.part.now c.args.sentence c.args.sites.now c.args.n c.loop-lists.sites c.loop-lists.i c.loop-lists.k c.loop-lists.lists c.loop-lists.next c.requires.2.reading
  here = c.loop-lists.invariant.2 (body_with c.args.at c.args.part.now) c.requires.2.reading (body_with_lem c.args.at c.args.part.now)

  -- Further on at the same stage there is less to do.
  less : {new : List ℕ} {j k q : ℕ} → ((b : List ℕ) (r : RecordsAt c.args.part.now) → drop c.args.at b ≡ c.args.part.now → Going b c.args.part.now c.args.sentence c.args.sites.now c.args.n new j k q c.loop-lists.next r)
      → c.loop-lists.i < j → to_go (length c.args.part.now) j c.loop-lists.next < to_go (length c.args.part.now) c.loop-lists.i c.loop-lists.next
  less {j = j} going l =
      let g = going (body_with c.args.at c.args.part.now) c.requires.2.reading (body_with_lem c.args.at c.args.part.now) in
      less-on (length c.args.part.now) (omega (arith, c.requires.0)) c.loop-lists.i j c.loop-lists.next l (omega (arith, going_within g)) (stands here) (stands g)

pub loop-lists-init : goal.loop-lists-init
loop-lists-init t c =
    (omega arith, λ l. omega arith, λ b r e. going_first _ _ _ r (omega (arith, c.requires.2.room)))

pub slice_bounds-x-count : goal.slice_bounds-x-count
slice_bounds-x-count t c = omega (arith, going_within (here t c))

pub slice_bounds-x-start : goal.slice_bounds-x-start
slice_bounds-x-start t c = omega (arith, going_within (here t c))

pub slice_bounds-x-end : goal.slice_bounds-x-end
slice_bounds-x-end t c = omega (arith, going_within (here t c))

pub bounds-x-0 : goal.bounds-x-0
bounds-x-0 t c = omega (arith, going_within (here t (goal.at.bounds-x-0 t c).At-loop-lists), part_length c.args.part.now c.loop-lists.i)

pub overflow_sub-lists : goal.overflow_sub-lists
overflow_sub-lists t c = omega (arith, c.if-lists-gt0.true)

pub overflow_add-i : goal.overflow_add-i
overflow_add-i t c = omega (arith, going_within (here t (goal.at.overflow_add-i t c).At-loop-lists), c.requires.0)

pub loop-lists-preserved-then-m-eq15 : goal.loop-lists-preserved-then-m-eq15
loop-lists-preserved-then-m-eq15 t c =
    let g = here t (goal.at.loop-lists-preserved-then-m-eq15 t c).At-loop-lists in
    (omega (arith, going_within g), λ o. omega arith, λ b r e. skipped (c.loop-lists.invariant.2 b r e) c.if-lists-gt0.true c.if-m-eq15.true)

pub loop-lists-smaller-then-m-eq15 : goal.loop-lists-smaller-then-m-eq15
loop-lists-smaller-then-m-eq15 t c =
    less t (goal.at.loop-lists-smaller-then-m-eq15 t c).At-loop-lists (loop-lists-preserved-then-m-eq15 t c).2 (omega arith)

pub overflow_add-at : goal.overflow_add-at
overflow_add-at t c = omega (arith, going_within (here t (goal.at.overflow_add-at t c).At-loop-lists), c.requires.0)

pub collect_call_sites-w-requires : goal.collect_call_sites-w-requires
collect_call_sites-w-requires t c =
    let g = here t (goal.at.collect_call_sites-w-requires t c).At-loop-lists in
    let l = c.if-lists-gt0.true in
    let p = part_length c.args.part.now c.loop-lists.i in
    (omega (arith, c.decreases, c.loop-lists.invariant.1 l, going_within g, p), (omega (arith, c.requires.0, going_within g, p), omega (arith, c.requires.1), record { reading = inner_reading g l; room = inner_room g l c.requires.2.room }))

-- A walk over the list at i ends further on, within the part.
inside : (t : ℕ) (c : Else-m-eq15 t) {new : List ℕ} {w : Walk}
    → ((b : List ℕ) (r : RecordsAt (part c.args.part.now c.loop-lists.i)) → drop (c.args.at + c.loop-lists.i) b ≡ part c.args.part.now c.loop-lists.i → Collected b (part c.args.part.now c.loop-lists.i) c.args.sentence c.loop-lists.sites c.loop-lists.k new w r)
    → (0 < w.at) × (c.loop-lists.i + w.at ≤ length c.args.part.now)
inside t c collected =
    let b = body_with c.args.at c.args.part.now in
    let g = here t (goal.at.overflow_add-at t c).At-loop-lists in
    let l = c.if-lists-gt0.true in
    inner_fits g l (collected b (inner_reading g l) (part_of_body b c.args.part.now c.args.at c.loop-lists.i (body_with_lem c.args.at c.args.part.now)))

pub overflow_add-i-else-m-eq15 : goal.overflow_add-i-else-m-eq15
overflow_add-i-else-m-eq15 t c =
    omega (arith, inside t (goal.at.overflow_add-i-else-m-eq15 t c).Else-m-eq15 c.collect_call_sites-w.ensures, c.requires.0)

pub loop-lists-preserved-else-m-eq15 : goal.loop-lists-preserved-else-m-eq15
loop-lists-preserved-else-m-eq15 t c =
    let l = c.if-lists-gt0.true in
    let w = c.collect_call_sites-w in
    let f = inside t (goal.at.loop-lists-preserved-else-m-eq15 t c).Else-m-eq15 w.ensures in
    (f.1, λ o. omega (arith, f), λ b r e. let g = c.loop-lists.invariant.2 b r e in descended g l (w.ensures b (inner_reading g l) (part_of_body b c.args.part.now c.args.at c.loop-lists.i e)))

pub loop-lists-smaller-else-m-eq15 : goal.loop-lists-smaller-else-m-eq15
loop-lists-smaller-else-m-eq15 t c =
    let n = goal.at.loop-lists-smaller-else-m-eq15 t c in
    less t n.At-loop-lists (loop-lists-preserved-else-m-eq15 t c).2 (omega (arith, inside t n.Else-m-eq15 c.collect_call_sites-w.ensures))

pub term_len-i-requires : goal.term_len-i-requires
term_len-i-requires t c = flat-part (here t (goal.at.term_len-i-requires t c).At-loop-lists) c.if-lists-gt0.false c.if-m-lt7.true

flat_inside : (t : ℕ) (c : After-term_len-i t) → (0 < c.term_len-i.result) × (c.loop-lists.i + c.term_len-i.result ≤ length c.args.part.now)
flat_inside t c =
    let g = here t (goal.at.overflow_add-i-then-m-lt7 t c).At-loop-lists in
    let u = c.if-lists-gt0.false in
    let m = c.if-m-lt7.true in
    flat_fits g u m c.term_len-i.result (c.term_len-i.ensures Mode.result (flat-part g u m))

pub overflow_add-i-then-m-lt7 : goal.overflow_add-i-then-m-lt7
overflow_add-i-then-m-lt7 t c = omega (arith, flat_inside t c, c.requires.0)

pub loop-lists-preserved-then-m-lt7 : goal.loop-lists-preserved-then-m-lt7
loop-lists-preserved-then-m-lt7 t c =
    let u = c.if-lists-gt0.false in
    let m = c.if-m-lt7.true in
    let x = c.term_len-i in
    let f = flat_inside t c in
    (f.1, λ l. omega (arith, f), λ b r e. let g = c.loop-lists.invariant.2 b r e in flat_passed g u m x.result (x.ensures Mode.result (flat-part g u m)))

pub loop-lists-smaller-then-m-lt7 : goal.loop-lists-smaller-then-m-lt7
loop-lists-smaller-then-m-lt7 t c =
    less t (goal.at.loop-lists-smaller-then-m-lt7 t c).At-loop-lists (loop-lists-preserved-then-m-lt7 t c).2 (omega (arith, flat_inside t c))

pub overflow_add-place : goal.overflow_add-place
overflow_add-place t c = omega (arith, going_within (here t (goal.at.overflow_add-place t c).At-loop-lists), c.requires.0)

pub packed-requires : goal.packed-requires
packed-requires t c = (omega (arith, going_within (here t (goal.at.packed-requires t c).At-loop-lists), c.requires.0), c.requires.1)

-- There is space for the call at i.
space : (t : ℕ) (c : After-packed t) → (c.loop-lists.k < length c.loop-lists.sites) × (length c.loop-lists.sites ≡ length c.args.sites.now)
space t c =
    let g = here t (goal.at.bounds-sites-k t c).At-loop-lists in
    (call-space g c.if-lists-gt0.false c.if-m-eq8.true c.requires.2.room, going_length g)

pub offset_bounds-sites-k : goal.offset_bounds-sites-k
offset_bounds-sites-k t c = omega (arith, space t c)

pub bounds-sites-k : goal.bounds-sites-k
bounds-sites-k t c = (space t c).0

pub overflow_add-k : goal.overflow_add-k
overflow_add-k t c = omega (arith, space t c)

pub call_argument-i-requires : goal.call_argument-i-requires
call_argument-i-requires t c = call_part (here t (goal.at.call_argument-i-requires t c).At-loop-lists) c.if-lists-gt0.false c.if-m-eq8.true

argument_inside : (t : ℕ) (c : After-call_argument-i t) → (0 < c.call_argument-i.result) × (c.loop-lists.i + c.call_argument-i.result ≤ length c.args.part.now)
argument_inside t c =
    let g = here t (goal.at.overflow_add-i-then-m-eq8 t c).At-loop-lists in
    let u = c.if-lists-gt0.false in
    let m = c.if-m-eq8.true in
    argument-fits g u m c.call_argument-i.result (c.call_argument-i.ensures (call_part g u m))

pub overflow_add-i-then-m-eq8 : goal.overflow_add-i-then-m-eq8
overflow_add-i-then-m-eq8 t c = omega (arith, argument_inside t c, c.requires.0)

pub loop-lists-preserved-then-m-eq8 : goal.loop-lists-preserved-then-m-eq8
loop-lists-preserved-then-m-eq8 t c =
    let u = c.if-lists-gt0.false in
    let m = c.if-m-eq8.true in
    let a = c.call_argument-i in
    let y = c.packed in
    let f = argument_inside t c in
    let s = space t (goal.at.loop-lists-preserved-then-m-eq8 t c).After-packed in
    (f.1, λ l. omega (arith, f), λ b r e. let g = c.loop-lists.invariant.2 b r e in call-passed g u m a.result (a.ensures (call_part g u m)) c.args.at y.result e y.ensures s.0)

pub loop-lists-smaller-then-m-eq8 : goal.loop-lists-smaller-then-m-eq8
loop-lists-smaller-then-m-eq8 t c =
    less t (goal.at.loop-lists-smaller-then-m-eq8 t c).At-loop-lists (loop-lists-preserved-then-m-eq8 t c).2 (omega (arith, argument_inside t c))

pub conditions_start-requires : goal.conditions_start-requires
conditions_start-requires t c = sentence-part (here t (goal.at.conditions_start-requires t c).At-loop-lists) c.if-lists-gt0.false c.if-m-eq10.true

pub overflow_add-next : goal.overflow_add-next
overflow_add-next t c =
    let g = here t (goal.at.overflow_add-next t c).At-loop-lists in
    let u = c.if-lists-gt0.false in
    let m = c.if-m-eq10.true in
    let y = c.conditions_start in
    omega (arith, conditions-fits g u m y.result (y.ensures (sentence-part g u m)), c.requires.0)

pub result_start-i-requires : goal.result_start-i-requires
result_start-i-requires t c = sentence-part (here t (goal.at.result_start-i-requires t c).At-loop-lists) c.if-lists-gt0.false c.if-m-eq10.true

result_inside : (t : ℕ) (c : After-result_start-i t) → (c.conditions_start.result < c.result_start-i.result) × (c.loop-lists.i + c.result_start-i.result ≤ length c.args.part.now)
result_inside t c =
    let g = here t (goal.at.overflow_add-i-then-m-eq10 t c).At-loop-lists in
    let u = c.if-lists-gt0.false in
    let m = c.if-m-eq10.true in
    let y = c.conditions_start in
    let a = c.result_start-i in
    result_fits g u m y.result (y.ensures (sentence-part g u m)) a.result (a.ensures (sentence-part g u m))

pub overflow_add-i-then-m-eq10 : goal.overflow_add-i-then-m-eq10
overflow_add-i-then-m-eq10 t c = omega (arith, result_inside t c, c.requires.0)

pub loop-lists-preserved-then-m-eq10 : goal.loop-lists-preserved-then-m-eq10
loop-lists-preserved-then-m-eq10 t c =
    let u = c.if-lists-gt0.false in
    let m = c.if-m-eq10.true in
    let y = c.conditions_start in
    let a = c.result_start-i in
    let f = result_inside t c in
    (f.1, λ l. omega (arith, f), λ b r e. let g = c.loop-lists.invariant.2 b r e in sentence-entered g u m y.result (y.ensures (sentence-part g u m)) a.result (a.ensures (sentence-part g u m)))

pub loop-lists-smaller-then-m-eq10 : goal.loop-lists-smaller-then-m-eq10
loop-lists-smaller-then-m-eq10 t c =
    let g = here t (goal.at.loop-lists-smaller-then-m-eq10 t c).At-loop-lists in
    let f = result_inside t c in
    rw (none_before g c.if-lists-gt0.false c.if-m-eq10.true) (less_in (length c.args.part.now) (omega (arith, c.requires.0)) c.loop-lists.i (c.loop-lists.i + c.result_start-i.result) (c.loop-lists.i + c.conditions_start.result) (omega (arith, f)) f.1 (omega (arith, f)))

lists_inside : (t : ℕ) (c : Then-m-lt12 t) → c.loop-lists.i + 9 ≤ length c.args.part.now
lists_inside t c =
    inside-fits (here t (goal.at.overflow_add-i-then-m-lt12 t c).At-loop-lists) c.if-lists-gt0.false c.if-m-lt7.false c.if-m-eq8.false c.if-m-eq10.false c.if-m-lt12.true

pub overflow_add-i-then-m-lt12 : goal.overflow_add-i-then-m-lt12
overflow_add-i-then-m-lt12 t c = omega (arith, lists_inside t c, c.requires.0)

pub loop-lists-preserved-then-m-lt12 : goal.loop-lists-preserved-then-m-lt12
loop-lists-preserved-then-m-lt12 t c =
    (lists_inside t (goal.at.loop-lists-preserved-then-m-lt12 t c).Then-m-lt12, λ l. omega arith, λ b r e. lists-opened (c.loop-lists.invariant.2 b r e) c.if-lists-gt0.false c.if-m-lt7.false c.if-m-eq8.false c.if-m-eq10.false c.if-m-lt12.true c.opened-lists.result c.opened-lists.ensures)

pub loop-lists-smaller-then-m-lt12 : goal.loop-lists-smaller-then-m-lt12
loop-lists-smaller-then-m-lt12 t c =
    less t (goal.at.loop-lists-smaller-then-m-lt12 t c).At-loop-lists (loop-lists-preserved-then-m-lt12 t c).2 (omega arith)

pub overflow_add-i-in_default : goal.overflow_add-i-in_default
overflow_add-i-in_default t c = omega (arith, going_within (here t (goal.at.overflow_add-i-in_default t c).At-loop-lists), c.requires.0)

pub shape_of-sites-in_default : goal.shape_of-sites-in_default
shape_of-sites-in_default t c = going_length (here t (goal.at.shape_of-sites-in_default t c).At-loop-lists)

pub returns-in_default : goal.returns-in_default
returns-in_default t c = λ b r e. going_done (c.loop-lists.invariant.2 b r e) c.if-lists-gt0.false c.if-m-lt12.false c.in_default.is refl refl

pub overflow_add-i-in-Some : goal.overflow_add-i-in-Some
overflow_add-i-in-Some t c = omega (arith, going_within (here t (goal.at.overflow_add-i-in-Some t c).At-loop-lists), c.requires.0)

pub loop-lists-preserved : goal.loop-lists-preserved
loop-lists-preserved t c =
    let g = here t (goal.at.loop-lists-preserved t c).At-loop-lists in
    let u = c.if-lists-gt0.false in
    let m = c.if-m-lt12.false in
    let n = c.in-Some in
    let v = c.after_conditions-next in
    (omega (arith, going_within (resumed g u m n.p n.is v.result v.ensures)), λ l. omega (arith, l, u), λ b r e. resumed (c.loop-lists.invariant.2 b r e) u m n.p n.is v.result v.ensures)

pub loop-lists-smaller : goal.loop-lists-smaller
loop-lists-smaller t c =
    let g = here t (goal.at.loop-lists-smaller t c).At-loop-lists in
    let n = c.in-Some in
    let v = c.after_conditions-next in
    resumed-less g c.if-lists-gt0.false c.if-m-lt12.false n.p n.is v.result v.ensures (omega (arith, c.requires.0))
