-- What a watched run has told is never too long, and neither is its value behind that.
use Prim.Native.Nat.{ℕ, zero, suc, ◌+◌}
use native.Mathlib.Omega.{arith}
use mathlib.Core.Path.{◌≡◌, refl, subst, ap}
use mathlib.Core.Bool.{Bool, true, false, cond}
use mathlib.Core.List.{List, [], ◌∷◌, ◌++◌}
use mathlib.Core.Option.{Option, none, some}
use Rattle.program.specs.Syntax.{Name, Terms, nil, symbol, variable, bracket, call, block, Conditions, condition, Sentences, empty, sentence, Function, Program}
use Rattle.patterns.specs.Expression.{Expression, void, atom, group, ◌⧺◌}
use Rattle.meaning.specs.Root.{root}
use Rattle.meaning.specs.Match.{Bindings, value_of, matches}
use Rattle.meaning.specs.Spanless.{spanless, spanless_conditions}
use Rattle.meaning.specs.Run.{Event, entered, chosen, Ending, value, no_root, no_answer_left, nothing_fitting, variable_unbound, call_limit, sentences_of}
use Rattle.meaning.specs.Records.{put_events, bytes_of, event_bytes}
use Rattle.meaning.specs.Watch.{Watch, Stop, ended, too_heavy, too_long, Load, Watched, gives, stops, and_then, note, weighing, heavier, bound_anew, bound, or_next, first_of, if_fits, answer_from, Callee, adds, adds_value, hands_on, tells, evaluate, hold, choose, entry_with, entry, body, enter_to, enter, enter_root, stop_of, events_of, watched_outcome, watched_run}

-- An ending other than the value.
abbrev EarlyEnding : Ending → Type 0
EarlyEnding (value v) = ⊥
EarlyEnding no_root = Unit {0}
EarlyEnding no_answer_left = Unit {0}
EarlyEnding nothing_fitting = Unit {0}
EarlyEnding variable_unbound = Unit {0}
EarlyEnding call_limit = Unit {0}

abbrev Early : Stop → Type 0
Early (ended e) = EarlyEnding e
Early too_heavy = Unit {0}
Early too_long = Unit {0}

abbrev is_ended : Stop → ℕ
is_ended (ended e) = 1
is_ended too_heavy = 0
is_ended too_long = 0

abbrev value_of_ending : Ending → Expression
value_of_ending (value v) = v
value_of_ending no_root = void
value_of_ending no_answer_left = void
value_of_ending nothing_fitting = void
value_of_ending variable_unbound = void
value_of_ending call_limit = void

abbrev value_in : Stop → Expression
value_in (ended e) = value_of_ending e
value_in too_heavy = void
value_in too_long = void

module _ (watch : Watch) where
  abbrev Fits : List Event → Type 0
  Fits l = watch.long (event_bytes l) ≡ false

  -- Wherever a part of a watched run leaves it; and where it stops, the run has no value yet.
  abbrev Told : {A : Type 0} → Watched A → Type 0
  Told (gives a s) = Fits s.events
  Told (stops e s) = Fits s.events × Early e

  then_told : {A B : Type 0} (x : Watched A) (k : A → Load → Watched B) → Told x → ((a : A) (s : Load) → Fits s.events → Told (k a s)) → Told (and_then x k)
  unfolding and_then
  then_told (gives a s) k h f = f a s h
  then_told (stops e s) k h f = h

  before-told : (u : Expression) (x : Watched Expression) → Told x → Told (and_then x (λ v s. gives (u ⧺ v) s))
  before-told u x h = then_told x _ h (λ v s k. k)

  adds-told : (n : ℕ) (s : Load) → Fits s.events → Told (adds watch n s)
  unfolding adds heavier weighing
  adds-told n s h = by (watch.heavy (s.weight + n))
    where
      by : (t : Bool) → Told (cond t (stops too_heavy s) (gives (tt {0}) (heavier n s)))
      by true = (h, tt)
      by false = h

  value-told : (u : Expression) (s : Load) → Fits s.events → Told (adds_value watch u s)
  unfolding adds_value
  value-told void s h = h
  value-told (atom x v) s h = adds-told (bytes_of (atom x v)) s h
  value-told (group u v) s h = adds-told (bytes_of (group u v)) s h

  hands_told : (w : ℕ) (u : Expression) (s : Load) → Fits s.events → Told (hands_on watch w u s)
  unfolding hands_on weighing
  hands_told w u s h = value-told u (weighing w s) h

  tells-told : (e : Event) (s : Load) → Fits s.events → Told (tells watch e s)
  unfolding tells note
  tells-told e s h = by (watch.long (event_bytes (s.events ++ (e ∷ [])))) refl
    where
      by : (t : Bool) → watch.long (event_bytes (s.events ++ (e ∷ []))) ≡ t → Told (cond t (stops too_long s) (gives (tt {0}) (note e s)))
      by true k = (h, tt)
      by false k = k

  bound-told : (o : Option Expression) (s : Load) → Fits s.events → Told (bound o s)
  unfolding bound
  bound-told none s h = (h, tt)
  bound-told (some v) s h = h

  next-told : (o : Option Bindings) (k : Load → Watched (Option Bindings)) (s : Load) → Fits s.events → ((s : Load) → Fits s.events → Told (k s)) → Told (or_next o k s)
  unfolding or_next
  next-told none k s h f = f s h
  next-told (some b) k s h f = h

  first-told : (l : List Bindings) (k : Bindings → Load → Watched (Option Bindings)) (s : Load) → Fits s.events → ((b : Bindings) (s : Load) → Fits s.events → Told (k b s)) → Told (first_of l k s)
  unfolding first_of
  first-told [] k s h f = h
  first-told (b ∷ l) k s h f = then_told (k b s) _ (f b s h) (λ o s₁ h₁. next-told o (λ s₂. first_of l k s₂) s₁ h₁ (λ s₂ h₂. first-told l k s₂ h₂ f))

  fits_told : (o : Option Bindings) (k : Bindings → Load → Watched Expression) (y : Load → Watched Expression) (s : Load) → Fits s.events
      → ((b : Bindings) (s : Load) → Fits s.events → Told (k b s)) → ((s : Load) → Fits s.events → Told (y s)) → Told (if_fits o k y s)
  unfolding if_fits
  fits_told none k y s h f g = g s h
  fits_told (some b) k y s h f g = f b s h

  abbrev CalleeTold : Callee → Type 0
  CalleeTold d = (f : Name) (v : Expression) (s : Load) → Fits s.events → Told (d f v s)

  module _ (d : Callee) (told : CalleeTold d) where
    mutual
      unfolding evaluate weighing heavier

      evaluate-told : (x : Terms) (b : Bindings) (s : Load) → Fits s.events → Told (evaluate watch d x b s)
      evaluate-told nil b s h = h
      evaluate-told (symbol i x r) b s h = then_told (adds_value watch (atom x void) s) _ (value-told (atom x void) s h) (λ _ s₁ h₁. before-told (atom x void) _ (evaluate-told r b s₁ h₁))
      evaluate-told (variable i k n r) b s h =
          then_told (bound (value_of k n b) s) _ (bound-told (value_of k n b) s h) (λ u s₁ h₁. then_told (adds_value watch u s₁) _ (value-told u s₁ h₁) (λ _ s₂ h₂. before-told u _ (evaluate-told r b s₂ h₂)))
      evaluate-told (bracket i j r) b s h =
          then_told (adds_value watch (group void void) s) _ (value-told (group void void) s h) (λ _ s₁ h₁.
          then_told (evaluate watch d j b s₁) _ (evaluate-told j b s₁ h₁) (λ u s₂ h₂. before-told (group u void) _ (evaluate-told r b s₂ h₂)))
      evaluate-told (call i f a r) b s h =
          then_told (evaluate watch d a b s) _ (evaluate-told a b s h) (λ v s₁ h₁.
          then_told (d f v s₁) _ (told f v s₁ h₁) (λ u s₂ h₂. then_told (hands_on watch s.weight u s₂) _ (hands_told s.weight u s₂ h₂) (λ _ s₃ h₃. before-told u _ (evaluate-told r b s₃ h₃))))
      evaluate-told (block i a e r) b s h =
          then_told (evaluate watch d a b s) _ (evaluate-told a b s h) (λ v s₁ h₁.
          then_told (choose watch d e v b (heavier 16 s₁)) _ (choose-told e v b (heavier 16 s₁) h₁) (λ u s₂ h₂.
          then_told (hands_on watch s.weight u s₂) _ (hands_told s.weight u s₂ h₂) (λ _ s₃ h₃. before-told u _ (evaluate-told r b s₃ h₃))))

      hold-told : (x : Conditions) (b : Bindings) (s : Load) → Fits s.events → Told (hold watch d x b s)
      hold-told Conditions.none b s h = h
      hold-told (condition i r p x) b s h =
          then_told (evaluate watch d r b s) _ (evaluate-told r b s h) (λ v s₁ h₁. first-told (matches p v b) _ s₁ h₁ (λ m s₂ h₂. hold-told x m (weighing (s₁.weight + bound_anew m b) s₂) h₂))

      choose-told : (x : Sentences) (v : Expression) (b : Bindings) (s : Load) → Fits s.events → Told (choose watch d x v b s)
      choose-told empty v b s h = (h, tt)
      choose-told (sentence i p x r l) v b s h =
          then_told (first_of (matches p v b) (λ m s₁. hold watch d x m (weighing (s.weight + bound_anew m b) s₁)) s) _
          (first-told (matches p v b) _ s h (λ m s₁ h₁. hold-told x m (weighing (s.weight + bound_anew m b) s₁) h₁)) (λ o s₁ h₁.
          fits_told o _ _ s₁ h₁
          (λ m s₂ h₂. then_told (tells watch (chosen (spanless p) (spanless_conditions x) (spanless r)) s₂) _ (tells-told _ s₂ h₂) (λ _ s₃ h₃. evaluate-told r m s₃ h₃))
          (λ s₂ h₂. choose-told l v b (weighing s.weight s₂) h₂))

  entry-told : (n : ℕ) (e : Event) (k : Load → Watched Expression) (s : Load) → Fits s.events → ((s : Load) → Fits s.events → Told (k s)) → Told (entry_with watch n e k s)
  unfolding entry_with
  entry-told zero e k s h f = (h, tt)
  entry-told (suc n) e k s h f = then_told (adds watch 16 s) _ (adds-told 16 s h) (λ _ s₁ h₁. then_told (tells watch e _) _ (tells-told e _ h₁) (λ _ s₂ h₂. f s₂ h₂))

  answer-told : (l : List Expression) (s : Load) → Fits s.events → Told (answer_from l s)
  unfolding answer_from
  answer-told [] s h = (h, tt)
  answer-told (v ∷ l) s h = h

  body-told : (d : Callee) → CalleeTold d → (o : Option Sentences) (v : Expression) (s : Load) → Fits s.events → Told (body watch d o v s)
  unfolding body
  body-told d told none v s h = answer-told s.answers s h
  body-told d told (some b) v s h = choose-told d told b v [] s h

  to_told : (n : ℕ) (p : Program) → CalleeTold (enter_to watch n p)
  unfolding enter_to entry
  to_told zero p f v s h = (h, tt)
  to_told (suc n) p f v s h = entry-told s.calls (entered f v) _ s h (λ s₁ h₁. body-told (enter_to watch n p) (to_told n p) (sentences_of f p.functions) v s₁ h₁)

  root_told : (p : Program) (o : Option Function) (v : Expression) (s : Load) → Fits s.events → Told (enter_root watch p o v s)
  unfolding enter_root entry enter
  root_told p none v s h = (h, tt)
  root_told p (some f) v s h = entry-told s.calls (entered f.name v) _ s h (λ s₁ h₁. choose-told (enter watch p) (λ g u s₂ h₂. to_told s₂.calls p g u s₂ h₂) f.sentences v [] s₁ h₁)

  events_fit : (x : Watched Expression) → Told x → Fits (events_of x)
  unfolding events_of
  events_fit (gives v s) h = h
  events_fit (stops e s) h = h.0

  -- No list that a run tells is too long, if an empty one is not.
  pub told-fits : (p : Program) (input : Expression) (answers : List Expression) (limit : ℕ) → watch.long 0 ≡ false → watch.long (event_bytes (watched_run watch p input answers limit).events) ≡ false
  unfolding watched_run watched_outcome event_bytes put_events
  told-fits p input answers limit h = events_fit _ (root_told p (root p) input (record { calls = limit; answers = answers; events = []; weight = bytes_of input }) h)

  value-fits : (x : Watched Expression) (v : Expression) → Told x → stop_of watch x ≡ ended (value v) → watch.long (event_bytes (events_of x) + (bytes_of v + 1)) ≡ false
  unfolding stop_of events_of
  value-fits (gives u s) v h e = by (watch.long (event_bytes s.events + (bytes_of u + 1))) refl e
    where
      by : (t : Bool) → watch.long (event_bytes s.events + (bytes_of u + 1)) ≡ t → cond t too_long (ended (value u)) ≡ ended (value v) → watch.long (event_bytes s.events + (bytes_of v + 1)) ≡ false
      by true k q = absurd (let y : ◌≡◌ {A = ℕ} 0 1 = ap (λ (z : Stop). is_ended z) q in omega arith)
      by false k q = subst (λ (z : Expression). watch.long (event_bytes s.events + (bytes_of z + 1)) ≡ false) (ap (λ (z : Stop). value_in z) q) k
  value-fits (stops d s) v h e = absurd (subst (λ (z : Stop). Early z) e h.1)

  -- The value fits behind the events, with its close.
  pub value_told_fits : (p : Program) (input : Expression) (answers : List Expression) (limit : ℕ) (v : Expression) → watch.long 0 ≡ false → (watched_run watch p input answers limit).stop ≡ ended (value v)
      → watch.long (event_bytes (watched_run watch p input answers limit).events + (bytes_of v + 1)) ≡ false
  unfolding watched_run watched_outcome event_bytes put_events
  value_told_fits p input answers limit v h e = value-fits _ v (root_told p (root p) input (record { calls = limit; answers = answers; events = []; weight = bytes_of input }) h) e
