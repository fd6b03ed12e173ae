-- `output::mark::keep_all` meets its contract. Assumes nothing.
use mathlib.Core.Path.{◌≡◌}
use Prim.Native.Nat.{ℕ, ◌*◌, ◌<◌}
use lib.Dec.{ltb}
use Rattle.told.specs.Kept.{is_kept}
use Rattle.output.proofs.mark.keep_all.Given as goal

abbrev pub invariant-loop-j : goal.invariant-loop-j
invariant-loop-j l = ((i : ℕ) → i < 32 * l.j → is_kept l.marks i ≡ ltb i l.n)
