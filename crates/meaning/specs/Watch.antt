-- A run that is watched: document 02, request 1. It is the run of Run.antt, clause by clause, with one number more in its state, the weight; it ends as the run does, or earlier with refusal 15 or 16. The sentences quoted here are request 1's.
use Rattle.std.specs.Prelude.{ℕ, zero, suc, ◌+◌, ◌-◌, ◌*◌, Bool, cond, List, [], ◌∷◌, ◌++◌, ltb, length}
use Rattle.std.proofs.Math.Option.{Option, none, some}
use Rattle.program.specs.Syntax.{Name, Terms, nil, symbol, variable, bracket, call, block, Conditions, condition, Sentences, empty, sentence, Function, Program}
use Rattle.patterns.specs.Expression.{Expression, void, atom, group, ◌⧺◌}
use Rattle.meaning.specs.Root.{root}
use Rattle.meaning.specs.Match.{Bindings, value_of, matches}
use Rattle.meaning.specs.Spanless.{spanless, spanless_conditions}
use Rattle.meaning.specs.Run.{Event, entered, chosen, Ending, value, no_root, no_answer_left, nothing_fitting, variable_unbound, call_limit, sentences_of}
use Rattle.meaning.specs.Records.{bytes_of, event_bytes}

-- What a run may not pass: a weight is too heavy, so many bytes of a list are too long.
pub record Watch : Type 0 where
  pub heavy : ℕ → Bool
  pub long : ℕ → Bool

-- 15 is met when the weight passes 32,768 bytes; "16 is an event list longer than the lent slice", here of so many bytes.
unfoldable pub lent : ℕ → Watch
lent space = record { heavy = λ w. ltb 32768 w; long = λ n. ltb space n }

-- How a watched run stops: as the run ends, or with 15 or 16.
pub data Stop : Type 0 where
  ended : Ending → Stop
  too_heavy too_long : Stop

-- What a watched run has at any time: what the run has, and the weight: "the arguments, block arguments, condition values and part-built results of all calls entered and not yet answered, in marks with zero spans and 16 bytes more for each such call, open block and variable bound by a matched pattern".
pub record Load : Type 0 where
  pub calls : ℕ
  pub answers : List Expression
  pub events : List Event
  pub weight : ℕ

-- A part of a watched run gives something, or the run stops in it.
pub data Watched (A : Type 0) : Type 0 where
  gives : A → Load → Watched A
  stops : Stop → Load → Watched A

unfoldable pub and_then : {A B : Type 0} → Watched A → (A → Load → Watched B) → Watched B
and_then (gives a s) next = next a s
and_then (stops e s) next = stops e s

abbrev pub before : Expression → Watched Expression → Watched Expression
before u x = and_then x (λ v s. gives (u ⧺ v) s)

unfoldable pub note : Event → Load → Load
note e s = record { calls = s.calls; answers = s.answers; events = s.events ++ (e ∷ []); weight = s.weight }

-- The same with another weight.
unfoldable pub weighing : ℕ → Load → Load
weighing w s = record { calls = s.calls; answers = s.answers; events = s.events; weight = w }

unfoldable pub heavier : ℕ → Load → Load
heavier n s = weighing (s.weight + n) s

-- "16 bytes more for each [..] variable bound by a matched pattern": those of a match that were not bound before.
unfoldable pub bound_anew : Bindings → Bindings → ℕ
bound_anew m b = 16 * (length m - length b)

unfoldable pub bound : Option Expression → Load → Watched Expression
bound none s = stops (ended variable_unbound) s
bound (some v) s = gives v s

unfoldable pub or_next : Option Bindings → (Load → Watched (Option Bindings)) → Load → Watched (Option Bindings)
or_next none next s = next s
or_next (some b) next s = gives (some b) s

unfoldable pub first_of : List Bindings → (Bindings → Load → Watched (Option Bindings)) → Load → Watched (Option Bindings)
first_of [] test s = gives none s
first_of (b ∷ l) test s = and_then (test b s) (λ o s₁. or_next o (λ s₂. first_of l test s₂) s₁)

unfoldable pub if_fits : Option Bindings → (Bindings → Load → Watched Expression) → (Load → Watched Expression) → Load → Watched Expression
if_fits none result next s = next s
if_fits (some b) result next s = result b s

-- "if there is none, the next answer of the given list, and with none left the run ends" (document 01)
unfoldable pub answer_from : List Expression → Load → Watched Expression
answer_from [] s = stops (ended no_answer_left) s
answer_from (v ∷ l) s = gives v (record { calls = s.calls; answers = l; events = s.events; weight = s.weight })

-- What a call does, by its name and its argument.
abbrev pub Callee : Type 0
Callee = Name → Expression → Load → Watched Expression

module _ (watch : Watch) where
  -- So many bytes more, and the test: "counted at each term added (a bracket with its close, on opening) and at each entry".
  unfoldable pub adds : ℕ → Load → Watched (Unit {0})
  adds n s = cond (watch.heavy (s.weight + n)) (stops too_heavy s) (gives tt (heavier n s))

  -- The terms of a value, if it has any.
  unfoldable pub adds_value : Expression → Load → Watched (Unit {0})
  adds_value void s = gives tt s
  adds_value (atom x v) s = adds (bytes_of (atom x v)) s
  adds_value (group u v) s = adds (bytes_of (group u v)) s

  -- "a value handed on counts once, and nothing of a match, sentence, block or call that is left": the weight before the call or block, and the value.
  unfoldable pub hands_on : ℕ → Expression → Load → Watched (Unit {0})
  hands_on w v s = adds_value v (weighing w s)

  -- "16 is an event list longer than the lent slice"
  unfoldable pub tells : Event → Load → Watched (Unit {0})
  tells e s = cond (watch.long (event_bytes (s.events ++ (e ∷ [])))) (stops too_long s) (gives tt (note e s))

  module _ (callee : Callee) where
    unfoldable mutual
      pub evaluate : Terms → Bindings → Load → Watched Expression
      evaluate nil b s = gives void s
      evaluate (symbol t x r) b s = and_then (adds_value (atom x void) s) (λ _ s₁. before (atom x void) (evaluate r b s₁))
      evaluate (variable t k n r) b s = and_then (bound (value_of k n b) s) (λ u s₁. and_then (adds_value u s₁) (λ _ s₂. before u (evaluate r b s₂)))
      evaluate (bracket t i r) b s = and_then (adds_value (group void void) s) (λ _ s₁. and_then (evaluate i b s₁) (λ u s₂. before (group u void) (evaluate r b s₂)))
      evaluate (call t f a r) b s = and_then (evaluate a b s) (λ v s₁. and_then (callee f v s₁) (λ u s₂. and_then (hands_on s.weight u s₂) (λ _ s₃. before u (evaluate r b s₃))))
      evaluate (block t a c r) b s =
          and_then (evaluate a b s) (λ v s₁. and_then (choose c v b (heavier 16 s₁)) (λ u s₂. and_then (hands_on s.weight u s₂) (λ _ s₃. before u (evaluate r b s₃))))

      -- Each match tried has the weight that was there before its pattern was tried, and its own variables.
      pub hold : Conditions → Bindings → Load → Watched (Option Bindings)
      hold Conditions.none b s = gives (some b) s
      hold (condition t r p c) b s = and_then (evaluate r b s) (λ v s₁. first_of (matches p v b) (λ m s₂. hold c m (weighing (s₁.weight + bound_anew m b) s₂)) s₁)

      pub choose : Sentences → Expression → Bindings → Load → Watched Expression
      choose empty v b s = stops (ended nothing_fitting) s
      choose (sentence h p c r rest) v b s =
          and_then (first_of (matches p v b) (λ m s₁. hold c m (weighing (s.weight + bound_anew m b) s₁)) s) (λ o s₁.
          if_fits o (λ m s₂. and_then (tells (chosen (spanless p) (spanless_conditions c) (spanless r)) s₂) (λ _ s₃. evaluate r m s₃)) (λ s₂. choose rest v b (weighing s.weight s₂)) s₁)

  -- "at each entry before its event": the call limit, then 15, then 16, then the event.
  unfoldable pub entry_with : ℕ → Event → (Load → Watched Expression) → Load → Watched Expression
  entry_with zero e next s = stops (ended call_limit) s
  entry_with (suc n) e next s =
      and_then (adds 16 s) (λ _ s₁. and_then (tells e (record { calls = n; answers = s₁.answers; events = s₁.events; weight = s₁.weight })) (λ _ s₂. next s₂))

  unfoldable pub entry : Event → (Load → Watched Expression) → Load → Watched Expression
  entry e next s = entry_with s.calls e next s

  unfoldable pub body : Callee → Option Sentences → Expression → Load → Watched Expression
  body callee none v s = answer_from s.answers s
  body callee (some b) v s = choose callee b v [] s

  unfoldable pub enter_to : ℕ → Program → Callee
  enter_to zero p f v s = stops (ended call_limit) s
  enter_to (suc d) p f v s = entry (entered f v) (λ s₁. body (enter_to d p) (sentences_of f p.functions) v s₁) s

  -- As deep as calls can nest, so that the bound is never met.
  unfoldable pub enter : Program → Callee
  enter p f v s = enter_to s.calls p f v s

  unfoldable pub enter_root : Program → Option Function → Expression → Load → Watched Expression
  enter_root p none v s = stops (ended no_root) s
  enter_root p (some f) v s = entry (entered f.name v) (λ s₁. choose (enter p) f.sentences v [] s₁) s

  -- "Each answer ends with a close, and so does the root's value, which follows outside that length and falls under 16 too."
  unfoldable pub stop_of : Watched Expression → Stop
  stop_of (gives v s) = cond (watch.long (event_bytes s.events + (bytes_of v + 1))) too_long (ended (value v))
  stop_of (stops e s) = e

unfoldable pub events_of : Watched Expression → List Event
events_of (gives v s) = s.events
events_of (stops e s) = s.events

-- What a watched run comes to: the events told, and how it stopped.
pub record WatchedOutcome : Type 0 where
  pub events : List Event
  pub stop : Stop

unfoldable pub watched_outcome : Watch → Watched Expression → WatchedOutcome
watched_outcome watch x = record { events = events_of x; stop = stop_of watch x }

-- The watched run of a program; the input is the root's argument, and counts from the start.
unfoldable pub watched_run : Watch → Program → Expression → List Expression → ℕ → WatchedOutcome
watched_run watch p input answers limit = watched_outcome watch (enter_root watch p (root p) input (record { calls = limit; answers = answers; events = []; weight = bytes_of input }))
