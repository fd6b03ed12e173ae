use mathlib.Core.List.{◌++◌}
use mathlib.Core.Path.{refl, ap, ◌∙◌}
use Prim.Native.Nat.{◌+◌}
use lib.ListN.{drop, take}
use Rattle.std.specs.Int.{to_le_bytes}
use Rattle.std.proofs.Common.{w32}
use Rattle.output.proofs.Writing.{stored_part, bytes32}
use Rattle.output.proofs.bytes.write32.Goals as goal

pub returns : goal.returns
returns c =
    let out = c.args.out.now in
    let at = c.args.at in
    stored_part out c.copy_from_slice.new.self (to_le_bytes w32 c.args.n) at 4 (c.copy_from_slice.ensures.after ∙ c.to_le_bytes.ensures) refl ∙ ap (λ k. take at out ++ k) (bytes32 c.args.n (drop (at + 4) out))
