-- `compare::token_name` meets its contract. Assumes nothing.
use Prim.Native.Nat.{ℕ, ◌+◌, ◌-◌}
use native.Mathlib.Omega.{arith}
use mathlib.Core.Path.{◌≡◌, ap, ◌∙◌}
use lib.ListN.{get_or, take, drop}
use Rattle.compare.specs.Letters.{token_name}
use Rattle.compare.proofs.token_name.Goals as goal

pub returns : goal.returns
unfolding token_name
returns c =
    let x = c.args.x.now in
    let e : 10 + get_or x 9 0 - 10 ≡ get_or x 9 0 = omega arith in
    ap (λ (n : ℕ). take (10 + n - 10) (drop 10 x)) c.from-end.ensures ∙ ap (λ (n : ℕ). take n (drop 10 x)) e
