-- `index::names::Filing::function_named` meets its contract. Assumes nothing.
use Prim.Native.Nat.{◌+◌, ◌-◌, ◌≤◌}
use mathlib.Core.List.{List}
use Rattle.program.specs.Syntax.{Function}
use Rattle.index.specs.Tabled.{Tabled}
use Rattle.index.specs.Bucket.{Filed}
use Rattle.index.proofs.Buckets.{Sought}
use Rattle.index.proofs.names.Filing.function_named.Given as goal

abbrev pub invariant-loop-f : goal.invariant-loop-f
invariant-loop-f l = (l.f ≤ l.self.functions) × ((fs : List Function) → Tabled l.b l.work l.self.functions fs → Filed fs l.work l.self.at (l.self.at + l.self.functions) l.self.buckets 0 → Sought fs l.self.buckets l.name l.f)

abbrev pub decreases-loop-f : goal.decreases-loop-f
decreases-loop-f l = l.self.functions - l.f
