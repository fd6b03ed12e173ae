-- `reader::at::At::turn_counted` meets its contract. Assumes nothing.
use native.Mathlib.Omega.{arith}
use mathlib.Core.Path.{refl}
use Rattle.reader.proofs.Turning.{counted_none, counted-some}
use Rattle.reader.proofs.at.At.turn_counted.Goals as goal

pub returns-in-0 : goal.returns-in-0
returns-in-0 c = counted_none _ _ c.args.self.now.inside c.in-0.is c.go.ensures

pub returns-in_default : goal.returns-in_default
returns-in_default c = counted-some _ _ c.args.self.now.inside _ (λ z. omega arith) refl c.go-in_default.ensures
