-- `cleaning::walks::is_there` meets its contract. Assumes nothing.
use native.Mathlib.Omega.{arith}
use mathlib.Core.Path.{sym}
use Rattle.cleaning.specs.Indexed.{fell_of}
use Rattle.cleaning.proofs.Walking.{there_never, there-fell}
use Rattle.cleaning.proofs.walks.is_there.Goals as goal

pub returns-in-None : goal.returns-in-None
returns-in-None c =
    let a = c.args in
    there_never (fell_of a.plan a.work.now) a.round a.s c.in-None.ensures

pub returns-in-Some : goal.returns-in-Some
returns-in-Some c =
    let a = c.args in
    let e = c.in-Some.ensures in
    there-fell (fell_of a.plan a.work.now) a.round a.s c.in-Some.k (sym e.0) (λ z. omega (arith, z, e.1))
