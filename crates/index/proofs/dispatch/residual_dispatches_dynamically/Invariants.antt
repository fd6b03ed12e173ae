-- `index::dispatch::residual_dispatches_dynamically` meets its contract. Assumes nothing.
use mathlib.Core.Path.{◌≡◌}
use mathlib.Core.Bool.{Bool}
use mathlib.Core.List.{List}
use lib.ListN.{length, drop}
use Rattle.meaning.specs.Lists.{any}
use Rattle.meaning.specs.Dispatch.{activates_acarried_call}
use Rattle.told.specs.Numbered.{Held}
use Rattle.index.specs.Tables.{SitesAt}
use Rattle.index.proofs.dispatch.residual_dispatches_dynamically.Given as goal

abbrev pub test : Held → Bool
test x = activates_acarried_call x.site.callee

abbrev pub invariant-loop-e : goal.invariant-loop-e
invariant-loop-e l = ((held : List Held) → SitesAt l.b held l.work l.calls → length held ≡ l.n → any test held ≡ any test (drop l.e-index held))
