-- `matching::bindings::Binding::write` meets its contract. Assumes nothing.
use native.Mathlib.Omega.{arith}
use Rattle.program.specs.Bytes.{put16}
use Rattle.matching.proofs.Held.{binding_emitted}
use Rattle.matching.proofs.bindings.Binding.write.Goals as goal

pub put_number-third-requires : goal.put_number-third-requires
unfolding put16
put_number-third-requires c = omega (arith, c.requires, c.put_number-second.ensures.after)

pub put_number-fourth-requires : goal.put_number-fourth-requires
unfolding put16
put_number-fourth-requires c = omega (arith, c.requires, c.put_number-second.ensures.after, c.put_number-third.ensures.after)

pub put_number-requires : goal.put_number-requires
unfolding put16
put_number-requires c = omega (arith, c.requires, c.put_number-second.ensures.after, c.put_number-third.ensures.after, c.put_number-fourth.ensures.after)

pub returns : goal.returns
returns c =
    let b = c.args.self in
    binding_emitted b.place b.from b.until b.end c.put_number-second.ensures c.put_number-third.ensures c.put_number-fourth.ensures c.put_number.ensures
