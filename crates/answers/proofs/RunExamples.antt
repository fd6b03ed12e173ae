-- Runs of small programs, by computation: the answer's numbers and the bytes left in the list.
use Prim.Native.Nat.{ℕ}
use mathlib.Core.Path.{◌≡◌, refl}
use mathlib.Core.List.{List, [], ◌∷◌}
use mathlib.Core.Option.{none, some}
use lib.ListN.{replicate}
use Rattle.program.specs.Syntax.{nil, empty, local, Conditions, Function, Program}
use Rattle.patterns.specs.Expression.{void}
use Rattle.patterns.proofs.Vocabulary.{char, s_var, e_var, apply, rule, define}
use Rattle.meaning.proofs.WatchComputing.{computing}
use Rattle.answers.specs.CleanAnswers.{written}
use Rattle.answers.specs.RunAnswers.{RunLeft, refusing_run, ending_number, stop_answer, ending_bytes, stop_bytes, ran_to, run_inputs, RunValues, run_values}

abbrev program : List Function → Program
program l = record { declarations = []; functions = l }

-- A lent list of so many bytes.
abbrev lends : ℕ → List ℕ
lends n = replicate n 7

abbrev ran : Program → ℕ → ℕ → RunLeft
ran w limit space = run_inputs w (some void) (some []) limit (lends space)

abbrev numbers : RunLeft → RunValues
numbers x = run_values x.answer

abbrev ends : ℕ → ℕ → RunValues
ends e n = record { number = 0; place = 0; ending = e; length = n }

abbrev refused : ℕ → ℕ → RunValues
refused n p = record { number = n; place = p; ending = 0; length = 0 }

-- `F { e.X = ; }`: the entry has 12 bytes, the sentence 23, and the close of the empty value is the 36th.
drops : Program
drops = program (define local "F" (rule (e_var "X" nil) Conditions.none nil empty) ∷ [])

ends_with_value : (numbers (ran drops 1 36) ≡ ends 0 35) × (numbers (ran drops 1 35) ≡ refused 16 35) × (numbers (ran drops 1 34) ≡ refused 16 12)
unfolding computing written refusing_run ending_number stop_answer ending_bytes stop_bytes ran_to run_inputs run_values drops
ends_with_value = (refl, refl, refl)

-- The list then: the events, the close, and a byte that was there before.
left_behind : (ran drops 1 37).events
    ≡ 8 ∷ 0 ∷ 0 ∷ 0 ∷ 0 ∷ 0 ∷ 0 ∷ 0 ∷ 0 ∷ 1 ∷ 70 ∷ 15 ∷ 10 ∷ 0 ∷ 0 ∷ 0 ∷ 0 ∷ 0 ∷ 0 ∷ 0 ∷ 0 ∷ 6 ∷ 0 ∷ 0 ∷ 0 ∷ 0 ∷ 0 ∷ 0 ∷ 0 ∷ 0 ∷ 1 ∷ 88 ∷ 15 ∷ 12 ∷ 15 ∷ 15 ∷ 7 ∷ []
unfolding computing written refusing_run ending_number stop_answer ending_bytes stop_bytes ran_to run_inputs run_values drops
left_behind = refl

-- Without functions there is no root, whatever the limit.
no-root : (numbers (ran (program []) 1 0) ≡ ends 1 0) × (numbers (ran (program []) 0 0) ≡ ends 1 0)
unfolding computing written refusing_run ending_number stop_answer ending_bytes stop_bytes ran_to run_inputs run_values
no-root = (refl, refl)

-- `F { = <Q>; }` with no answer: two entries of 12 bytes and a sentence of 24.
asks : Program
asks = program (define local "F" (rule nil Conditions.none (apply "Q" nil nil) empty) ∷ [])

no_answer : numbers (ran asks 9 99) ≡ ends 2 48
unfolding computing written refusing_run ending_number stop_answer ending_bytes stop_bytes ran_to run_inputs run_values asks
no_answer = refl

-- `F { 'A' = ; }` with an empty input.
needs : Program
needs = program (define local "F" (rule (char 65 nil) Conditions.none nil empty) ∷ [])

nothing-fits : numbers (ran needs 9 99) ≡ ends 3 12
unfolding computing written refusing_run ending_number stop_answer ending_bytes stop_bytes ran_to run_inputs run_values needs
nothing-fits = refl

-- `F { = s.X; }`
lacks : Program
lacks = program (define local "F" (rule nil Conditions.none (s_var "X" nil) empty) ∷ [])

unbound : numbers (ran lacks 9 99) ≡ ends 4 35
unfolding computing written refusing_run ending_number stop_answer ending_bytes stop_bytes ran_to run_inputs run_values lacks
unbound = refl

-- `F { = <F>; }`: 36 bytes a call.
loops : Program
loops = program (define local "F" (rule nil Conditions.none (apply "F" nil nil) empty) ∷ [])

limited : (numbers (ran loops 0 99) ≡ ends 5 0) × (numbers (ran loops 2 99) ≡ ends 5 72)
unfolding computing written refusing_run ending_number stop_answer ending_bytes stop_bytes ran_to run_inputs run_values loops
limited = (refl, refl)

-- 14 comes before the run, also with limit 0 and without functions, and changes nothing.
no-expression : (run_inputs (program []) none (some []) 0 (lends 2) ≡ refusing_run 14 0 (7 ∷ 7 ∷ [])) × (run_inputs drops (some void) none 0 (lends 2) ≡ refusing_run 14 0 (7 ∷ 7 ∷ []))
unfolding run_inputs
no-expression = (refl, refl)
