-- The watched run as a machine with a stack, one small step after another, so that it can be paused after any event and holds all that is needed to go on. It does what the watched run does (MachineRun.antt).
use Prim.Native.Nat.{ℕ, zero, suc, ◌+◌}
use mathlib.Core.Path.{◌≡◌}
use mathlib.Core.List.{List, [], ◌∷◌}
use mathlib.Core.Option.{Option, none, some}
use Rattle.program.specs.Syntax.{Name, Terms, nil, symbol, variable, bracket, call, block, Conditions, condition, Sentences, empty, sentence, Function, Program}
use Rattle.patterns.specs.Expression.{Expression, void, atom, group, ◌⧺◌}
use Rattle.meaning.specs.Root.{root}
use Rattle.meaning.specs.Match.{Bindings, value_of, matches}
use Rattle.meaning.specs.Spanless.{spanless, spanless_conditions}
use Rattle.meaning.specs.Run.{Event, entered, chosen, no_root, nothing_fitting, variable_unbound, call_limit, sentences_of}
use Rattle.meaning.specs.Records.{bytes_of}
use Rattle.meaning.specs.Watch.{Watch, Stop, ended, Load, Watched, gives, stops, weighing, heavier, bound_anew, answer_from, adds, adds_value, hands_on, tells, stop_of, WatchedOutcome}

-- A place to come back to: the matches not yet tried, the conditions that follow them, the weight before their pattern was tried, and the bindings before it.
pub data Choice : Type 0 where
  choice : List Bindings → Conditions → ℕ → Bindings → Choice

-- A sentence being tried: its pattern, conditions and result, the sentences after it, the expression, the bindings around it, the weight before it was tried, and its choices, the last first.
pub data Attempt : Type 0 where
  attempt : Terms → Conditions → Terms → Sentences → Expression → Bindings → ℕ → List Choice → Attempt

-- What waits for an expression. Code waits with the part of its value that is built so far, the terms that follow, and its bindings; where a call's or block's value is awaited, with the weight before the call or block.
pub data Frame : Type 0 where
  in_bracket : Expression → Terms → Bindings → Frame
  in_value : ℕ → Expression → Terms → Bindings → Frame
  in_argument : Name → ℕ → Expression → Terms → Bindings → Frame
  in_block : Sentences → ℕ → Expression → Terms → Bindings → Frame
  in_condition : Terms → Conditions → Bindings → Attempt → Frame

-- What is done next: evaluate terms behind what is built so far, give an expression to the frame on top, enter a call, choose a sentence, go back to the last choice, test conditions.
pub data Task : Type 0 where
  builds : Terms → Bindings → Expression → Task
  hands : Expression → Task
  calls : Name → Expression → Task
  chooses : Sentences → Expression → Bindings → Task
  retries : Attempt → Task
  tests : Conditions → Bindings → Attempt → Task

pub data Machine : Type 0 where
  going : Task → List Frame → Load → Machine
  halted : Stop → Load → Machine

-- What is done once something was added or told.
unfoldable pub once : Watched (Unit {0}) → (Load → Machine) → Machine
once (gives a s) next = next s
once (stops e s) next = halted e s

unfoldable pub add_choice : Choice → Attempt → Attempt
add_choice x (attempt p c r l v b w xs) = attempt p c r l v b w (x ∷ xs)

-- Where a part of a watched run leaves the machine.
unfoldable pub continue : Watched Expression → List Frame → Machine
continue (gives v s) k = going (Task.hands v) k s
continue (stops e s) k = halted e s

unfoldable pub call_body : Option Sentences → Expression → List Frame → Load → Machine
call_body none v k s = continue (answer_from s.answers s) k
call_body (some b) v k s = going (Task.chooses b v []) k s

unfoldable pub choose_step : Sentences → Expression → Bindings → List Frame → Load → Machine
choose_step empty v b k s = halted (ended nothing_fitting) s
choose_step (sentence h p c r l) v b k s = going (Task.retries (attempt p c r l v b s.weight (choice (matches p v b) c s.weight b ∷ []))) k s

unfoldable pub retry_step : Attempt → List Frame → Load → Machine
retry_step (attempt p c r l v b w []) k s = going (Task.chooses l v b) k (weighing w s)
retry_step (attempt p c r l v b w (choice [] d u e ∷ xs)) k s = going (Task.retries (attempt p c r l v b w xs)) k s
retry_step (attempt p c r l v b w (choice (m ∷ ms) d u e ∷ xs)) k s = going (Task.tests d m (attempt p c r l v b w (choice ms d u e ∷ xs))) k (weighing (u + bound_anew m e) s)

-- A call less, behind the root's entry or a call's.
abbrev pub fewer : ℕ → Load → Load
fewer n s = record { calls = n; answers = s.answers; events = s.events; weight = s.weight }

module _ (watch : Watch) where
  unfoldable pub build_variable : Option Expression → Terms → Bindings → Expression → List Frame → Load → Machine
  build_variable none r b built k s = halted (ended variable_unbound) s
  build_variable (some u) r b built k s = once (adds_value watch u s) (λ s₁. going (Task.builds r b (built ⧺ u)) k s₁)

  unfoldable pub build_step : Terms → Bindings → Expression → List Frame → Load → Machine
  build_step nil b built k s = going (Task.hands built) k s
  build_step (symbol t x r) b built k s = once (adds_value watch (atom x void) s) (λ s₁. going (Task.builds r b (built ⧺ atom x void)) k s₁)
  build_step (variable t v n r) b built k s = build_variable (value_of v n b) r b built k s
  build_step (bracket t i r) b built k s = once (adds_value watch (group void void) s) (λ s₁. going (Task.builds i b void) (Frame.in_bracket built r b ∷ k) s₁)
  build_step (call t f a r) b built k s = going (Task.builds a b void) (Frame.in_argument f s.weight built r b ∷ k) s
  build_step (block t a c r) b built k s = going (Task.builds a b void) (Frame.in_block c s.weight built r b ∷ k) s

  unfoldable pub hand_step : List Frame → Expression → Load → Machine
  hand_step [] v s = halted (stop_of watch (gives v s)) s
  hand_step (Frame.in_bracket built r b ∷ k) v s = going (Task.builds r b (built ⧺ group v void)) k s
  hand_step (Frame.in_value w built r b ∷ k) v s = once (hands_on watch w v s) (λ s₁. going (Task.builds r b (built ⧺ v)) k s₁)
  hand_step (Frame.in_argument f w built r b ∷ k) v s = going (Task.calls f v) (Frame.in_value w built r b ∷ k) s
  hand_step (Frame.in_block c w built r b ∷ k) v s = going (Task.chooses c v b) (Frame.in_value w built r b ∷ k) (heavier 16 s)
  hand_step (Frame.in_condition p c b a ∷ k) v s = going (Task.retries (add_choice (choice (matches p v b) c s.weight b) a)) k s

  -- An entry: the call limit, then 15, then 16, then the event.
  unfoldable pub entry_step : ℕ → Event → (Load → Machine) → Load → Machine
  entry_step zero e next s = halted (ended call_limit) s
  entry_step (suc n) e next s = once (adds watch 16 s) (λ s₁. once (tells watch e (fewer n s₁)) next)

  unfoldable pub test_step : Conditions → Bindings → Attempt → List Frame → Load → Machine
  test_step Conditions.none m (attempt p c r l v b w xs) k s = once (tells watch (chosen (spanless p) (spanless_conditions c) (spanless r)) s) (λ s₁. going (Task.builds r m void) k s₁)
  test_step (condition t r p c) m a k s = going (Task.builds r m void) (Frame.in_condition p c m a ∷ k) s

  unfoldable pub step : Program → Machine → Machine
  step p (going (Task.builds t b built) k s) = build_step t b built k s
  step p (going (Task.hands v) k s) = hand_step k v s
  step p (going (Task.calls f v) k s) = entry_step s.calls (entered f v) (λ s₁. call_body (sentences_of f p.functions) v k s₁) s
  step p (going (Task.chooses l v b) k s) = choose_step l v b k s
  step p (going (Task.retries a) k s) = retry_step a k s
  step p (going (Task.tests c m a) k s) = test_step c m a k s
  step p (halted e s) = halted e s

  -- The machine at the start of a run, when the root is entered.
  unfoldable pub start_at : Option Function → Expression → Load → Machine
  start_at none v s = halted (ended no_root) s
  start_at (some f) v s = entry_step s.calls (entered f.name v) (λ s₁. going (Task.chooses f.sentences v []) [] s₁) s

  unfoldable pub start : Program → Expression → List Expression → ℕ → Machine
  start p input answers limit = start_at (root p) input (record { calls = limit; answers = answers; events = []; weight = bytes_of input })

  -- Some number of steps leads from one machine to another.
  pub data Reach (p : Program) (n : Machine) : Machine → Type 0 where
    here : {m : Machine} → m ≡ n → Reach p n m
    more : {m : Machine} → Reach p n (step p m) → Reach p n m

  -- A machine comes to a halt, with the events and the stop of an outcome.
  pub record Halts (p : Program) (m : Machine) (o : WatchedOutcome) : Type 0 where
    pub load : Load
    pub events : load.events ≡ o.events
    pub reached : Reach p (halted o.stop load) m

unfoldable pub events_of : Machine → List Event
events_of (going t k s) = s.events
events_of (halted e s) = s.events
