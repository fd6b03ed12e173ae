-- `index::names::Filing::file_functions` meets its contract. Assumes nothing.
use Prim.Native.Nat.{◌+◌}
use mathlib.Core.List.{List}
use Rattle.program.specs.Syntax.{Function}
use Rattle.index.specs.Tables.{Apart}
use Rattle.index.specs.Tabled.{Tabled}
use Rattle.index.specs.Bucket.{Filed}
use Rattle.index.proofs.names.Filing.file_functions.Given as goal

abbrev pub invariant-loop-f : goal.invariant-loop-f
invariant-loop-f l = Apart l.initial.work l.work l.self.at (l.self.at + l.self.functions + l.self.buckets) × ((fs : List Function) → Tabled l.b l.initial.work l.self.functions fs → Filed fs l.work l.self.at (l.self.at + l.self.functions) l.self.buckets l.f)
