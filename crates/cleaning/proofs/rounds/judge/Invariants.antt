-- `cleaning::rounds::judge` meets its contract. Assumes nothing.
use Prim.Native.Nat.{ℕ, suc, ◌+◌, ◌≤◌}
use mathlib.Core.Path.{◌≡◌}
use mathlib.Core.Bool.{Bool}
use mathlib.Core.List.{List}
use mathlib.Core.Option.{some}
use lib.ListN.{get_elem?}
use Rattle.program.specs.Syntax.{Function, Program}
use Rattle.index.specs.declared.Plan.{Plan}
use Rattle.index.specs.Layout.{witnesses}
use Rattle.told.specs.Numbered.{sentences_before}
use Rattle.told.specs.History.{is_there}
use Rattle.cleaning.specs.Indexed.{Indexed, fell_of}
use Rattle.cleaning.specs.Walks.{ColumnsApart, Witnessed}
use Rattle.cleaning.specs.RoundDone.{JudgedUpto}
use Rattle.cleaning.proofs.rounds.judge.Given as goal

-- The sentences below s are judged: for each program that the function may have been given.
abbrev pub Judging : List ℕ → List ℕ → List ℕ → Plan → ℕ → ℕ → ℕ → ℕ → ℕ → Bool → Type 0
Judging b old new p f first end round s met = (w : Program) (x : Function) → Indexed b w old p → get_elem? w.functions f ≡ some x → Witnessed (is_there (fell_of p old) round) w old p → first ≡ sentences_before f w.functions → end ≡ sentences_before (suc f) w.functions
    → Witnessed (is_there (fell_of p old) round) w new p × JudgedUpto w (is_there (fell_of p old) round) new p f x s met

abbrev pub invariant-loop-s : goal.invariant-loop-s
invariant-loop-s l = ColumnsApart l.plan l.initial.work l.work (witnesses l.plan + l.first) (witnesses l.plan + l.s) × (l.first ≤ l.s) × (l.s ≤ l.end) × Judging l.b l.initial.work l.work l.plan l.f l.first l.end l.round l.s l.met
