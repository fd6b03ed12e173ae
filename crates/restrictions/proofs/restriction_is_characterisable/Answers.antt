use Prim.Native.Nat.{ℕ, ◌+◌, ◌<◌, ◌≤◌}
use native.Mathlib.Omega.{arith}
use mathlib.Core.Path.{◌≡◌, sym}
use lib.ListN.{length, get_or}
use Rattle.program.specs.Limits.{Mode}
use Rattle.rows.proofs.Readings.{part, part_length}
use Rattle.restrictions.proofs.Within.{within_first, within-terms, within-room, within-active, within-bracket, bracket-fits, within-last, within-close, within_flat, flat_fits}
use Rattle.restrictions.proofs.restriction_is_characterisable.Goals as goal
use Rattle.restrictions.proofs.restriction_is_characterisable.Goals.{in_default-via-then-m-lt7, in_default-via-else-m-lt7+else-m-lt10}

pub loop-closes-init : goal.loop-closes-init
loop-closes-init c = (omega arith, omega arith, λ t. within_first t)

pub slice_bounds-x-count : goal.slice_bounds-x-count
slice_bounds-x-count c = omega arith

pub slice_bounds-x-start : goal.slice_bounds-x-start
slice_bounds-x-start c = omega arith

pub slice_bounds-x-end : goal.slice_bounds-x-end
slice_bounds-x-end c = omega arith

pub bounds-x-0 : goal.bounds-x-0
bounds-x-0 c = within-room (c.loop-closes.invariant.2 c.requires)

pub overflow_add-closes : goal.overflow_add-closes
overflow_add-closes c = omega (arith, bracket-fits (c.loop-closes.invariant.2 c.requires) c.in-7.is c.loop-closes.invariant.0)

pub overflow_add-i : goal.overflow_add-i
overflow_add-i c = omega (arith, bracket-fits (c.loop-closes.invariant.2 c.requires) c.in-7.is c.loop-closes.invariant.0)

pub loop-closes-smaller-in-7 : goal.loop-closes-smaller-in-7
loop-closes-smaller-in-7 c = omega (arith, bracket-fits (c.loop-closes.invariant.2 c.requires) c.in-7.is c.loop-closes.invariant.0)

pub loop-closes-preserved-in-7 : goal.loop-closes-preserved-in-7
loop-closes-preserved-in-7 c = (bracket-fits (c.loop-closes.invariant.2 c.requires) c.in-7.is c.loop-closes.invariant.0, omega arith, λ t. within-bracket (c.loop-closes.invariant.2 t) c.in-7.is)

pub returns-in-8 : goal.returns-in-8
returns-in-8 c = λ t. sym (within-active (c.loop-closes.invariant.2 t) (omega arith) (omega arith))

pub returns-then-closes-eq1 : goal.returns-then-closes-eq1
returns-then-closes-eq1 c = λ t. sym (within-last (c.loop-closes.invariant.2 t) c.in-15.is c.if-closes-eq1.true)

pub overflow_sub-closes : goal.overflow_sub-closes
overflow_sub-closes c = omega (arith, (c.loop-closes.invariant.2 c.requires).count)

pub overflow_add-i-in-15 : goal.overflow_add-i-in-15
overflow_add-i-in-15 c = omega (arith, within-room (c.loop-closes.invariant.2 c.requires), part_length c.args.s.now c.loop-closes.i)

pub loop-closes-smaller-in-15 : goal.loop-closes-smaller-in-15
loop-closes-smaller-in-15 c = omega (arith, within-room (c.loop-closes.invariant.2 c.requires), part_length c.args.s.now c.loop-closes.i)

pub loop-closes-preserved-in-15 : goal.loop-closes-preserved-in-15
loop-closes-preserved-in-15 c = (omega (arith, within-room (c.loop-closes.invariant.2 c.requires), part_length c.args.s.now c.loop-closes.i), omega (arith, c.loop-closes.invariant.1, (c.loop-closes.invariant.2 c.requires).count), λ t. within-close (c.loop-closes.invariant.2 t) c.in-15.is c.if-closes-eq1.false)

pub term_len-i-requires : goal.term_len-i-requires
term_len-i-requires c = within-terms (c.loop-closes.invariant.2 c.requires)

-- Any other mark begins a flat term.
module _ (c : goal.After-term_len-i) where
  other : (k : ℕ) → 7 ≤ k → k < 10 → get_or (part c.args.s.now c.loop-closes.i) 0 0 ≡ k → ⊥
  other k l u = elim c.in_default.branch [ in_default-via-then-m-lt7 w ↦ λ e. omega arith | in_default-via-else-m-lt7+else-m-lt10 w ↦ λ e. omega arith ]

  open_still : get_or (part c.args.s.now c.loop-closes.i) 0 0 ≡ 15 → ⊥
  open_still = elim c.in_default.branch [ in_default-via-then-m-lt7 w ↦ λ e. omega arith | in_default-via-else-m-lt7+else-m-lt10 w ↦ λ e. omega arith ]

  n7 : get_or (part c.args.s.now c.loop-closes.i) 0 0 ≡ 7 → ⊥
  n7 = other 7 (omega arith) (omega arith)

  n8 : get_or (part c.args.s.now c.loop-closes.i) 0 0 ≡ 8 → ⊥
  n8 = other 8 (omega arith) (omega arith)

  n9 : get_or (part c.args.s.now c.loop-closes.i) 0 0 ≡ 9 → ⊥
  n9 = other 9 (omega arith) (omega arith)

  passed : (c.loop-closes.i + c.term_len-i.result ≤ length c.args.s.now) × (0 < c.term_len-i.result)
  passed =
      let w = c.loop-closes.invariant.2 c.requires in
      flat_fits w n7 n8 n9 open_still c.term_len-i.result (c.term_len-i.ensures Mode.result (within-terms w)) c.loop-closes.invariant.0

pub overflow_add-i-in_default : goal.overflow_add-i-in_default
overflow_add-i-in_default c = omega (arith, passed c)

pub loop-closes-smaller : goal.loop-closes-smaller
loop-closes-smaller c = omega (arith, passed c)

pub loop-closes-preserved : goal.loop-closes-preserved
loop-closes-preserved c = ((passed c).0, omega (arith, c.loop-closes.invariant.1), λ t. let w = c.loop-closes.invariant.2 t in within_flat w (n7 c) (n8 c) (n9 c) (open_still c) c.term_len-i.result (c.term_len-i.ensures Mode.result (within-terms w)))
