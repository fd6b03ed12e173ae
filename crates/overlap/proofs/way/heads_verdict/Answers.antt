-- `overlap::way::heads_verdict` meets its contract.
use native.Mathlib.Omega.{arith}
use mathlib.Core.Path.{sym, ap, ◌∙◌}
use Prim.Native.Nat.{◌+◌, ◌<◌}
use lib.ListN.{length}
use Rattle.patterns.specs.declared.Found.{Found}
use Rattle.rows.proofs.Readings.{mark_in}
use Rattle.rows.proofs.Places.{kept_same}
use Rattle.rows.proofs.Heads.{bracket-at, two-brackets}
use Rattle.overlap.proofs.Ways.{head_inside, inner_at, head_part, mark-at}
use Rattle.overlap.proofs.way.heads_verdict.Goals as goal
use Rattle.overlap.proofs.way.heads_verdict.Goals.{else-b-i-eq7-via-then-b-i-eq7+else-b-j-eq7, else-b-i-eq7-via-else-b-i-eq7}

pub bounds-b-i : goal.bounds-b-i
bounds-b-i c =
    let below : c.args.i + 9 < length c.args.b.now = head_inside c.args.b.now c.args.i c.requires.0 in
    omega (arith, below)

pub bounds-b-j : goal.bounds-b-j
bounds-b-j c =
    let below : c.args.j + 9 < length c.args.b.now = head_inside c.args.b.now c.args.j c.requires.1 in
    omega (arith, below)

pub overflow_add-i : goal.overflow_add-i
overflow_add-i c =
    let below : c.args.i + 9 < length c.args.b.now = head_inside c.args.b.now c.args.i c.requires.0 in
    omega (arith, below, c.requires.2)

pub overflow_add-j : goal.overflow_add-j
overflow_add-j c =
    let below : c.args.j + 9 < length c.args.b.now = head_inside c.args.b.now c.args.j c.requires.1 in
    omega (arith, below, c.requires.2)

-- What two brackets hold.
pub overlap_behind-requires : goal.overlap_behind-requires
overlap_behind-requires c =
    let b = c.args.b.now in (
      inner_at b c.args.i (bracket-at c.requires.0 (mark-at b c.args.i ∙ c.if-b-i-eq7.true)),
      inner_at b c.args.j (bracket-at c.requires.1 (mark-at b c.args.j ∙ c.if-b-j-eq7.true)),
      c.requires.2,
      omega arith,
    )

pub returns-then-b-j-eq7 : goal.returns-then-b-j-eq7
returns-then-b-j-eq7 c = let b = c.args.b.now in record {
  answers = λ x y.
      let k = bracket-at x (mark-at b c.args.i ∙ c.if-b-i-eq7.true) in
      let l = bracket-at y (mark-at b c.args.j ∙ c.if-b-j-eq7.true) in
      ap (λ (z : Found). z.verdict) (c.overlap_behind.ensures.answers (inner_at b c.args.i k) (inner_at b c.args.j l)) ∙ sym (two-brackets x y k l);
  keeps = c.overlap_behind.ensures.keeps;
}

pub slice_bounds-flat_verdict-count : goal.slice_bounds-flat_verdict-count
slice_bounds-flat_verdict-count c =
    let below : c.args.i + 9 < length c.args.b.now = head_inside c.args.b.now c.args.i c.requires.0 in
    omega (arith, below)

pub slice_bounds-flat_verdict-start : goal.slice_bounds-flat_verdict-start
slice_bounds-flat_verdict-start c =
    let below : c.args.i + 9 < length c.args.b.now = head_inside c.args.b.now c.args.i c.requires.0 in
    omega (arith, below)

pub slice_bounds-flat_verdict-count-2 : goal.slice_bounds-flat_verdict-count-2
slice_bounds-flat_verdict-count-2 c =
    let below : c.args.j + 9 < length c.args.b.now = head_inside c.args.b.now c.args.j c.requires.1 in
    omega (arith, below)

pub slice_bounds-flat_verdict-start-2 : goal.slice_bounds-flat_verdict-start-2
slice_bounds-flat_verdict-start-2 c =
    let below : c.args.j + 9 < length c.args.b.now = head_inside c.args.b.now c.args.j c.requires.1 in
    omega (arith, below)

-- Not both are brackets.
pub flat_verdict-requires : goal.flat_verdict-requires
flat_verdict-requires c =
    let b = c.args.b.now in
    let i = c.args.i in
    let j = c.args.j in (
      head_part b i c.requires.0,
      head_part b j c.requires.1,
      λ e l. elim c.else-b-i-eq7.branch [ else-b-i-eq7-via-then-b-i-eq7+else-b-j-eq7 w ↦ w.if-b-j-eq7.false (sym (mark_in b j) ∙ l) | else-b-i-eq7-via-else-b-i-eq7 w ↦ w.if-b-i-eq7.false (sym (mark_in b i) ∙ e) ],
    )

pub returns : goal.returns
returns c = let b = c.args.b.now in record { answers = λ x y. c.flat_verdict.ensures (head_part b c.args.i x) (head_part b c.args.j y); keeps = kept_same c.args.from c.args.room.now }
