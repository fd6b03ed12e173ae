-- The machine can be paused after any event: a step adds one event at most, and wherever a run is paused it goes on to the same outcome.
use Prim.Native.Nat.{ℕ, zero, suc, ◌+◌}
use mathlib.Core.Path.{◌≡◌, refl, ap, subst}
use mathlib.Core.Logic.{◌⊎◌, inl, inr}
use mathlib.Core.Bool.{Bool, true, false, cond}
use mathlib.Core.List.{List, [], ◌∷◌, ◌++◌}
use mathlib.Core.Option.{Option, none, some}
use Rattle.program.specs.Syntax.{Terms, nil, symbol, variable, bracket, call, block, Conditions, condition, Sentences, empty, sentence, Program}
use Rattle.patterns.specs.Expression.{Expression, void, atom, group}
use Rattle.meaning.specs.Match.{Bindings, value_of}
use Rattle.meaning.specs.Run.{Event, entered, sentences_of}
use Rattle.meaning.specs.Records.{bytes_of, event_bytes}
use Rattle.meaning.specs.Watch.{Watch, Stop, Load, Watched, gives, stops, note, weighing, heavier, answer_from, adds, adds_value, hands_on, tells, watched_run}
use Rattle.meaning.proofs.Machine.{choice, Attempt, attempt, Frame, Task, Machine, going, halted, once, build_variable, build_step, hand_step, continue, call_body, fewer, entry_step, choose_step, retry_step, test_step, step, start, events_of, Reach, here, more, Halts}
use Rattle.meaning.proofs.MachineRun.{machine_run}

-- The second list is the first, or has one event more.
abbrev OneMore : List Event → List Event → Type 0
OneMore l k = (k ≡ l) ⊎ ((e : Event) × (k ≡ l ++ (e ∷ [])))

-- What was added leaves the events as they are; what was told adds one, or stops before it.
abbrev Quiet : List Event → Watched (Unit {0}) → Type 0
Quiet l (gives a s) = s.events ≡ l
Quiet l (stops e s) = s.events ≡ l

quiet_test : (t : Bool) (x y : Watched (Unit {0})) (l : List Event) → Quiet l x → Quiet l y → Quiet l (cond t x y)
quiet_test true x y l h k = h
quiet_test false x y l h k = k

module _ (watch : Watch) where
  adds_quiet : (n : ℕ) (s : Load) → Quiet s.events (adds watch n s)
  unfolding adds heavier weighing
  adds_quiet n s = quiet_test (watch.heavy (s.weight + n)) _ _ s.events refl refl

  value_quiet : (u : Expression) (s : Load) → Quiet s.events (adds_value watch u s)
  unfolding adds_value
  value_quiet void s = refl
  value_quiet (atom x v) s = adds_quiet (bytes_of (atom x v)) s
  value_quiet (group u v) s = adds_quiet (bytes_of (group u v)) s

  hands_quiet : (w : ℕ) (u : Expression) (s : Load) → Quiet s.events (hands_on watch w u s)
  unfolding hands_on weighing
  hands_quiet w u s = value_quiet u (weighing w s)

  once_quiet : (x : Watched (Unit {0})) (m : Load → Machine) (l : List Event) → Quiet l x → ((s : Load) → s.events ≡ l → OneMore l (events_of (m s))) → OneMore l (events_of (once x m))
  unfolding once events_of
  once_quiet (gives a s) m l h f = f s h
  once_quiet (stops e s) m l h f = inl h

  tells-adds : (e : Event) (s : Load) (m : Load → Machine) → ((s : Load) → events_of (m s) ≡ s.events) → OneMore s.events (events_of (once (tells watch e s) m))
  unfolding once tells note events_of
  tells-adds e s m f = by (watch.long (event_bytes (s.events ++ (e ∷ []))))
    where
      by : (t : Bool) → OneMore s.events (events_of (once (cond t (stops Stop.too_long s) (gives tt (note e s))) m))
      by true = inl refl
      by false = inr (e, f (note e s))

  entry-adds : (n : ℕ) (e : Event) (m : Load → Machine) (s : Load) → ((s : Load) → events_of (m s) ≡ s.events) → OneMore s.events (events_of (entry_step watch n e m s))
  unfolding entry_step events_of
  entry-adds zero e m s f = inl refl
  entry-adds (suc n) e m s f = once_quiet (adds watch 16 s) _ s.events (adds_quiet 16 s) (λ s₁ h. subst (λ (l : List Event). OneMore l (events_of (once (tells watch e (fewer n s₁)) m))) h (tells-adds e (fewer n s₁) m f))

  variable-adds : (o : Option Expression) (r : Terms) (b : Bindings) (u : Expression) (k : List Frame) (s : Load) → OneMore s.events (events_of (build_variable watch o r b u k s))
  unfolding build_variable events_of
  variable-adds none r b u k s = inl refl
  variable-adds (some v) r b u k s = once_quiet (adds_value watch v s) _ s.events (value_quiet v s) (λ s₁ h. inl h)

  build_adds : (t : Terms) (b : Bindings) (u : Expression) (k : List Frame) (s : Load) → OneMore s.events (events_of (build_step watch t b u k s))
  unfolding build_step events_of
  build_adds nil b u k s = inl refl
  build_adds (symbol t x r) b u k s = once_quiet (adds_value watch (atom x void) s) _ s.events (value_quiet (atom x void) s) (λ s₁ h. inl h)
  build_adds (variable t v n r) b u k s = variable-adds (value_of v n b) r b u k s
  build_adds (bracket t i r) b u k s = once_quiet (adds_value watch (group void void) s) _ s.events (value_quiet (group void void) s) (λ s₁ h. inl h)
  build_adds (call t f a r) b u k s = inl refl
  build_adds (block t a c r) b u k s = inl refl

  hand_adds : (k : List Frame) (v : Expression) (s : Load) → OneMore s.events (events_of (hand_step watch k v s))
  unfolding hand_step events_of heavier weighing
  hand_adds [] v s = inl refl
  hand_adds (Frame.in_bracket u r b ∷ k) v s = inl refl
  hand_adds (Frame.in_value w u r b ∷ k) v s = once_quiet (hands_on watch w v s) _ s.events (hands_quiet w v s) (λ s₁ h. inl h)
  hand_adds (Frame.in_argument f w u r b ∷ k) v s = inl refl
  hand_adds (Frame.in_block c w u r b ∷ k) v s = inl refl
  hand_adds (Frame.in_condition p c b a ∷ k) v s = inl refl

  answer-events : (l : List Expression) (s : Load) (k : List Frame) → events_of (continue (answer_from l s) k) ≡ s.events
  unfolding answer_from continue events_of
  answer-events [] s k = refl
  answer-events (v ∷ l) s k = refl

  body-events : (o : Option Sentences) (v : Expression) (k : List Frame) (s : Load) → events_of (call_body o v k s) ≡ s.events
  unfolding call_body events_of
  body-events none v k s = answer-events s.answers s k
  body-events (some b) v k s = refl

  choose-adds : (l : Sentences) (v : Expression) (b : Bindings) (k : List Frame) (s : Load) → OneMore s.events (events_of (choose_step l v b k s))
  unfolding choose_step events_of
  choose-adds empty v b k s = inl refl
  choose-adds (sentence h p c r l) v b k s = inl refl

  retry_adds : (a : Attempt) (k : List Frame) (s : Load) → OneMore s.events (events_of (retry_step a k s))
  unfolding retry_step events_of weighing
  retry_adds (attempt p c r l v b w []) k s = inl refl
  retry_adds (attempt p c r l v b w (choice [] d u e ∷ xs)) k s = inl refl
  retry_adds (attempt p c r l v b w (choice (m ∷ ms) d u e ∷ xs)) k s = inl refl

  test_adds : (c : Conditions) (m : Bindings) (a : Attempt) (k : List Frame) (s : Load) → OneMore s.events (events_of (test_step watch c m a k s))
  unfolding test_step events_of
  test_adds Conditions.none m (attempt p c r l v b w xs) k s = tells-adds _ s _ (λ s₁. refl)
  test_adds (condition t r p c) m a k s = inl refl

  pub step_adds : (p : Program) (m : Machine) → OneMore (events_of m) (events_of (step watch p m))
  unfolding step events_of
  step_adds p (going (Task.builds t b u) k s) = build_adds t b u k s
  step_adds p (going (Task.hands v) k s) = hand_adds k v s
  step_adds p (going (Task.calls f v) k s) = entry-adds s.calls (entered f v) _ s (λ s₁. body-events (sentences_of f p.functions) v k s₁)
  step_adds p (going (Task.chooses l v b) k s) = choose-adds l v b k s
  step_adds p (going (Task.retries a) k s) = retry_adds a k s
  step_adds p (going (Task.tests c m a) k s) = test_adds c m a k s
  step_adds p (halted e s) = inl refl

  -- A machine on the way to a halt comes to it.
  meet : {p : Program} {m l : Machine} (e : Stop) (s : Load) → Reach watch p (halted e s) l → Reach watch p m l → Reach watch p (halted e s) m
  unfolding step
  meet {p = p} e s r (here h) = subst (λ (x : Machine). Reach watch p (halted e s) x) h r
  meet {p = p} e s (here k) (more r) = meet e s (here (ap (step watch p) k)) r
  meet e s (more k) (more r) = meet e s k r

  pub paused_run : (p : Program) (input : Expression) (answers : List Expression) (limit : ℕ) (m : Machine) → Reach watch p m (start watch p input answers limit) → Halts watch p m (watched_run watch p input answers limit)
  paused_run p input answers limit m r =
      let h = machine_run watch p input answers limit in
      record { load = h.load; events = h.events; reached = meet (watched_run watch p input answers limit).stop h.load h.reached r }
