-- `index::links::share_heads` meets its contract. Assumes nothing.
use Prim.Native.Nat.{◌+◌, ◌*◌}
use mathlib.Core.List.{List}
use Rattle.program.specs.Syntax.{Function}
use Rattle.told.specs.Numbered.{Held}
use Rattle.index.specs.Tables.{Apart}
use Rattle.index.specs.Tabled.{Tabled}
use Rattle.index.specs.Bucket.{Filed}
use Rattle.index.specs.Links.{FirstsHeaded}
use Rattle.index.proofs.Shared.{Sharing}
use Rattle.index.proofs.links.share_heads.Given as goal

abbrev pub invariant-loop-f : goal.invariant-loop-f
invariant-loop-f l = Apart l.initial.work l.work l.filing.functions (2 * l.filing.functions) × ((fs : List Function) (held : List Held) → Tabled l.b l.initial.work l.filing.functions fs → Filed fs l.initial.work l.filing.at (l.filing.at + l.filing.functions) l.filing.buckets 0 → FirstsHeaded fs held l.initial.work l.filing.functions 0 → Sharing fs held l.work l.filing.functions l.f)
