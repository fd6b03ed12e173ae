-- `image::part::term_len` meets its contract. Assumes nothing.
use native.Mathlib.Omega.{arith}
use Prim.Native.Nat.{ℕ, ◌-◌}
use mathlib.Core.Path.{ap}
use lib.ListN.{get_or}
use Rattle.image.proofs.Readings.{terms-room, term_room, term_code, term_name, term_close, term_passes}
use Rattle.image.proofs.Skip.{owed-some}
use Rattle.image.proofs.part.term_len.Goals as goal

pub bounds-s-0 : goal.bounds-s-0
bounds-s-0 c = terms-room c.requires

pub returns-in-1 : goal.returns-in-1
returns-in-1 c = term_code c.args.s.now c.in-1.is

pub bounds-s-9 : goal.bounds-s-9
bounds-s-9 c = let z = term_name c.args.s.now (λ e. omega arith) (omega arith) _ c.requires in omega (arith, z.fits)

pub returns-in-15 : goal.returns-in-15
returns-in-15 c = term_close c.args.s.now c.in-15.is

pub fields_of-w-requires : goal.fields_of-w-requires
fields_of-w-requires c = terms-room c.requires

pub overflow_sub-need : goal.overflow_sub-need
overflow_sub-need c = omega (arith, c.owed_after-need.ensures.0, owed-some (get_or c.args.s.now 0 0) 0 (λ e. omega arith))

pub past-requires : goal.past-requires
past-requires c =
    let z = term_room c.args.s.now c.requires in
    (omega (arith, z, c.fields_of-w.ensures.0), omega (arith, c.owed_after-need.ensures.1))

pub returns-in_default : goal.returns-in_default
returns-in_default c = rw c.from.ensures (term_name c.args.s.now (λ e. omega arith) (omega arith))

pub returns-in_default-2 : goal.returns-in_default-2
returns-in_default-2 c =
    term_passes c.args.s.now c.fields_of-w.result (c.owed_after-need.result - 1) c.past.result
    (λ e. omega arith) c.fields_of-w.ensures.0 (ap (λ (n : ℕ). n - 1) c.owed_after-need.ensures.0) c.past.ensures.0 c.past.ensures.1.1
