-- `cleaning::root::visibility_at` meets its contract. Assumes nothing.
use native.Mathlib.Omega.{arith}
use Rattle.cleaning.proofs.EntryPlace.{visibility-room, visibility-is}
use Rattle.cleaning.proofs.root.visibility_at.Goals as goal

pub overflow_add-v : goal.overflow_add-v
overflow_add-v c = omega (arith, visibility-room c.args.b.now c.args.p c.requires)

pub bounds-b-v : goal.bounds-b-v
bounds-b-v c = visibility-room c.args.b.now c.args.p c.requires

pub returns : goal.returns
returns c = λ x. visibility-is c.args.b.now c.args.p x
