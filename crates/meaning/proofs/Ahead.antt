-- A watched run ends as the run does, or 15 or 16 stops it, and then it has told the beginning of what the run tells.
use Prim.Native.Nat.{ℕ, zero, suc, ◌+◌}
use mathlib.Core.Path.{◌≡◌, refl, sym, subst, ap, ap₂, ◌∙◌}
use mathlib.Core.Logic.{◌⊎◌, inl, inr}
use mathlib.Core.Bool.{Bool, true, false, cond}
use mathlib.Core.List.{List, [], ◌∷◌, ◌++◌, append_assoc, append-nil}
use mathlib.Core.Option.{Option, none, some}
use Rattle.program.specs.Syntax.{Name, Terms, nil, symbol, variable, bracket, call, block, Conditions, condition, Sentences, empty, sentence, Function, Program}
use Rattle.patterns.specs.Expression.{Expression, void, atom, group, ◌⧺◌}
use Rattle.meaning.specs.Root.{root}
use Rattle.meaning.specs.Match.{Bindings, value_of, matches}
use Rattle.meaning.specs.Spanless.{spanless, spanless_conditions}
use Rattle.meaning.specs.Run as the-run
use Rattle.meaning.specs.Run.{Event, entered, chosen, Ending, value, State, Part, sentences_of, Outcome}
use Rattle.meaning.specs.Records.{bytes_of, event_bytes}
use Rattle.meaning.specs.Watch.{Watch, Stop, ended, too_heavy, too_long, Load, Watched, and_then, note, weighing, heavier, bound_anew, bound, or_next, first_of, if_fits, answer_from, Callee, adds, adds_value, hands_on, tells, evaluate, hold, choose, entry_with, entry, body, enter_to, enter, enter_root, stop_of, events_of, watched_outcome, watched_run}
use Rattle.meaning.proofs.Unwatched.{forget}

-- One list begins another.
pub record Begins (l m : List Event) : Type 0 where
  pub rest : List Event
  pub is : m ≡ l ++ rest

begins-itself : (l : List Event) → Begins l l
begins-itself l = record { rest = []; is = sym (append-nil l) }

begins-further : {l m n : List Event} → Begins l m → Begins m n → Begins l n
begins-further {l} h k = record { rest = h.rest ++ k.rest; is = k.is ∙ (ap (λ (x : List Event). x ++ k.rest) h.is ∙ append_assoc l h.rest k.rest) }

-- ---- the run tells more and more

abbrev Grows : {A : Type 0} → List Event → Part A → Type 0
Grows l (Part.gives a s) = Begins l s.events
Grows l (Part.ends e s) = Begins l s.events

further_grows : {A : Type 0} {l m : List Event} (x : Part A) → Begins l m → Grows m x → Grows l x
further_grows (Part.gives a s) h k = begins-further h k
further_grows (Part.ends e s) h k = begins-further h k

then_grows : {A B : Type 0} (l : List Event) (x : Part A) (k : A → State → Part B) → Grows l x → ((a : A) (s : State) → Grows s.events (k a s)) → Grows l (the-run.and_then x k)
unfolding the-run.and_then
then_grows l (Part.gives a s) k h f = further_grows (k a s) h (f a s)
then_grows l (Part.ends e s) k h f = h

before_grows : (l : List Event) (u : Expression) (x : Part Expression) → Grows l x → Grows l (the-run.and_then x (λ v s. Part.gives (u ⧺ v) s))
before_grows l u x h = then_grows l x _ h (λ v s. begins-itself s.events)

note_grows : {A : Type 0} (e : Event) (s : State) (k : State → Part A) → ((s : State) → Grows s.events (k s)) → Grows s.events (k (the-run.note e s))
unfolding the-run.note
note_grows e s k f = further_grows (k (the-run.note e s)) (record { rest = e ∷ []; is = refl }) (f (the-run.note e s))

bound_grows : (o : Option Expression) (s : State) → Grows s.events (the-run.bound o s)
unfolding the-run.bound
bound_grows none s = begins-itself s.events
bound_grows (some v) s = begins-itself s.events

next_grows : (o : Option Bindings) (k : State → Part (Option Bindings)) (s : State) → ((s : State) → Grows s.events (k s)) → Grows s.events (the-run.or_next o k s)
unfolding the-run.or_next
next_grows none k s f = f s
next_grows (some b) k s f = begins-itself s.events

first_grows : (l : List Bindings) (k : Bindings → State → Part (Option Bindings)) (s : State) → ((b : Bindings) (s : State) → Grows s.events (k b s)) → Grows s.events (the-run.first_of l k s)
unfolding the-run.first_of
first_grows [] k s f = begins-itself s.events
first_grows (b ∷ l) k s f = then_grows s.events (k b s) _ (f b s) (λ o s₁. next_grows o (λ s₂. the-run.first_of l k s₂) s₁ (λ s₂. first_grows l k s₂ f))

fits_grows : (o : Option Bindings) (k : Bindings → State → Part Expression) (y : State → Part Expression) (s : State)
    → ((b : Bindings) (s : State) → Grows s.events (k b s)) → ((s : State) → Grows s.events (y s)) → Grows s.events (the-run.if_fits o k y s)
unfolding the-run.if_fits
fits_grows none k y s f g = g s
fits_grows (some b) k y s f g = f b s

abbrev CalleeGrows : the-run.Callee → Type 0
CalleeGrows c = (f : Name) (v : Expression) (s : State) → Grows s.events (c f v s)

module _ (c : the-run.Callee) (grows : CalleeGrows c) where
  mutual
    unfolding the-run.evaluate

    evaluate_grows : (x : Terms) (b : Bindings) (s : State) → Grows s.events (the-run.evaluate c x b s)
    evaluate_grows nil b s = begins-itself s.events
    evaluate_grows (symbol i x r) b s = before_grows s.events (atom x void) _ (evaluate_grows r b s)
    evaluate_grows (variable i k n r) b s = then_grows s.events (the-run.bound (value_of k n b) s) _ (bound_grows (value_of k n b) s) (λ u s₁. before_grows s₁.events u _ (evaluate_grows r b s₁))
    evaluate_grows (bracket i j r) b s = then_grows s.events (the-run.evaluate c j b s) _ (evaluate_grows j b s) (λ u s₁. before_grows s₁.events (group u void) _ (evaluate_grows r b s₁))
    evaluate_grows (call i f a r) b s =
        then_grows s.events (the-run.evaluate c a b s) _ (evaluate_grows a b s) (λ v s₁. then_grows s₁.events (c f v s₁) _ (grows f v s₁) (λ u s₂. before_grows s₂.events u _ (evaluate_grows r b s₂)))
    evaluate_grows (block i a e r) b s =
        then_grows s.events (the-run.evaluate c a b s) _ (evaluate_grows a b s) (λ v s₁. then_grows s₁.events (the-run.choose c e v b s₁) _ (choose_grows e v b s₁) (λ u s₂. before_grows s₂.events u _ (evaluate_grows r b s₂)))

    hold_grows : (x : Conditions) (b : Bindings) (s : State) → Grows s.events (the-run.hold c x b s)
    hold_grows Conditions.none b s = begins-itself s.events
    hold_grows (condition i r p x) b s = then_grows s.events (the-run.evaluate c r b s) _ (evaluate_grows r b s) (λ v s₁. first_grows (matches p v b) _ s₁ (λ m s₂. hold_grows x m s₂))

    choose_grows : (x : Sentences) (v : Expression) (b : Bindings) (s : State) → Grows s.events (the-run.choose c x v b s)
    choose_grows empty v b s = begins-itself s.events
    choose_grows (sentence h p x r l) v b s =
        then_grows s.events (the-run.first_of (matches p v b) (λ m s₁. the-run.hold c x m s₁) s) _ (first_grows (matches p v b) _ s (λ m s₁. hold_grows x m s₁)) (λ o s₁.
        fits_grows o _ _ s₁ (λ m s₂. note_grows (chosen (spanless p) (spanless_conditions x) (spanless r)) s₂ (λ s₃. the-run.evaluate c r m s₃) (λ s₃. evaluate_grows r m s₃)) (λ s₂. choose_grows l v b s₂))

entry_grows : (n : ℕ) (e : Event) (k : State → Part Expression) (s : State) → ((s : State) → Grows s.events (k s)) → Grows s.events (the-run.entry_with n e k s)
unfolding the-run.entry_with
entry_grows zero e k s f = begins-itself s.events
entry_grows (suc n) e k s f = note_grows e (record { calls = n; answers = s.answers; events = s.events }) k f

answer_grows : (l : List Expression) (s : State) → Grows s.events (the-run.answer_from l s)
unfolding the-run.answer_from
answer_grows [] s = begins-itself s.events
answer_grows (v ∷ l) s = begins-itself s.events

body_grows : (c : the-run.Callee) → CalleeGrows c → (o : Option Sentences) (v : Expression) (s : State) → Grows s.events (the-run.body c o v s)
unfolding the-run.body
body_grows c h none v s = answer_grows s.answers s
body_grows c h (some b) v s = choose_grows c h b v [] s

to_grows : (n : ℕ) (p : Program) → CalleeGrows (the-run.enter_to n p)
unfolding the-run.enter_to the-run.entry
to_grows zero p f v s = begins-itself s.events
to_grows (suc n) p f v s = entry_grows s.calls (entered f v) _ s (λ s₁. body_grows (the-run.enter_to n p) (to_grows n p) (sentences_of f p.functions) v s₁)

enter_grows : (p : Program) → CalleeGrows (the-run.enter p)
unfolding the-run.enter
enter_grows p f v s = to_grows s.calls p f v s

-- ---- the watched run beside it

abbrev Stopped : {A : Type 0} → Part A → Stop → Load → Type 0
Stopped x (ended e) t = x ≡ Part.ends e (forget t)
Stopped x too_heavy t = Grows t.events x
Stopped x too_long t = Grows t.events x

-- The run is where the watched run is, or 15 or 16 has stopped that on the way.
abbrev Ahead : {A : Type 0} → Part A → Watched A → Type 0
Ahead x (Watched.gives b t) = x ≡ Part.gives b (forget t)
Ahead x (Watched.stops e t) = Stopped x e t

then_ahead : {A B : Type 0} (x : Part A) (y : Watched A) (k : A → State → Part B) (m : A → Load → Watched B) → Ahead x y → ((a : A) (t : Load) → Ahead (k a (forget t)) (m a t)) → ((a : A) (s : State) → Grows s.events (k a s))
    → Ahead (the-run.and_then x k) (and_then y m)
unfolding the-run.and_then and_then
then_ahead x (Watched.gives b t) k m h f g = subst (λ z. Ahead (the-run.and_then z k) (m b t)) (sym h) (f b t)
then_ahead x (Watched.stops (ended e) t) k m h f g = ap (λ z. the-run.and_then z k) h
then_ahead x (Watched.stops too_heavy t) k m h f g = then_grows t.events x k h g
then_ahead x (Watched.stops too_long t) k m h f g = then_grows t.events x k h g

module _ (watch : Watch) where
  adds-ahead : {A : Type 0} (k : State → Part A) (m : Unit {0} → Load → Watched A) (n : ℕ) (t : Load) → ((t : Load) → Ahead (k (forget t)) (m tt t)) → ((s : State) → Grows s.events (k s)) → Ahead (k (forget t)) (and_then (adds watch n t) m)
  unfolding and_then adds heavier weighing
  adds-ahead k m n t f g = by (watch.heavy (t.weight + n))
    where
      by : (h : Bool) → Ahead (k (forget t)) (and_then (cond h (Watched.stops too_heavy t) (Watched.gives (tt {0}) (heavier n t))) m)
      by true = g (forget t)
      by false = f (heavier n t)

  value-ahead : {A : Type 0} (k : State → Part A) (m : Unit {0} → Load → Watched A) (u : Expression) (t : Load) → ((t : Load) → Ahead (k (forget t)) (m tt t)) → ((s : State) → Grows s.events (k s)) → Ahead (k (forget t)) (and_then (adds_value watch u t) m)
  unfolding adds_value and_then
  value-ahead k m void t f g = f t
  value-ahead k m (atom x v) t f g = adds-ahead k m (bytes_of (atom x v)) t f g
  value-ahead k m (group u v) t f g = adds-ahead k m (bytes_of (group u v)) t f g

  hands_ahead : {A : Type 0} (k : State → Part A) (m : Unit {0} → Load → Watched A) (w : ℕ) (u : Expression) (t : Load) → ((t : Load) → Ahead (k (forget t)) (m tt t)) → ((s : State) → Grows s.events (k s)) → Ahead (k (forget t)) (and_then (hands_on watch w u t) m)
  unfolding hands_on weighing
  hands_ahead k m w u t f g = value-ahead k m u (weighing w t) f g

  tells-ahead : {A : Type 0} (k : State → Part A) (m : Unit {0} → Load → Watched A) (e : Event) (t : Load) → ((t : Load) → Ahead (k (forget t)) (m tt t)) → ((s : State) → Grows s.events (k s)) → Ahead (k (the-run.note e (forget t))) (and_then (tells watch e t) m)
  unfolding and_then tells note the-run.note
  tells-ahead k m e t f g = by (watch.long (event_bytes (t.events ++ (e ∷ []))))
    where
      by : (h : Bool) → Ahead (k (the-run.note e (forget t))) (and_then (cond h (Watched.stops too_long t) (Watched.gives (tt {0}) (note e t))) m)
      by true = note_grows e (forget t) k g
      by false = f (note e t)

  before-ahead : (u : Expression) (x : Part Expression) (y : Watched Expression) → Ahead x y → Ahead (the-run.and_then x (λ v s. Part.gives (u ⧺ v) s)) (and_then y (λ v s. Watched.gives (u ⧺ v) s))
  before-ahead u x y h = then_ahead x y _ _ h (λ v t. refl) (λ v s. begins-itself s.events)

  bound-ahead : (o : Option Expression) (t : Load) → Ahead (the-run.bound o (forget t)) (bound o t)
  unfolding the-run.bound bound
  bound-ahead none t = refl
  bound-ahead (some v) t = refl

  next-ahead : (o : Option Bindings) (k : State → Part (Option Bindings)) (m : Load → Watched (Option Bindings)) (t : Load) → ((t : Load) → Ahead (k (forget t)) (m t)) → Ahead (the-run.or_next o k (forget t)) (or_next o m t)
  unfolding the-run.or_next or_next
  next-ahead none k m t f = f t
  next-ahead (some b) k m t f = refl

  first-ahead : (l : List Bindings) (k : Bindings → State → Part (Option Bindings)) (m : Bindings → Load → Watched (Option Bindings)) (t : Load) → ((b : Bindings) (t : Load) → Ahead (k b (forget t)) (m b t)) → ((b : Bindings) (s : State) → Grows s.events (k b s))
      → Ahead (the-run.first_of l k (forget t)) (first_of l m t)
  unfolding the-run.first_of first_of
  first-ahead [] k m t f g = refl
  first-ahead (b ∷ l) k m t f g =
      then_ahead (k b (forget t)) (m b t) _ _ (f b t) (λ o t₁. next-ahead o (λ s. the-run.first_of l k s) (λ s. first_of l m s) t₁ (λ t₂. first-ahead l k m t₂ f g)) (λ o s₁. next_grows o (λ s. the-run.first_of l k s) s₁ (λ s₂. first_grows l k s₂ g))

  fits-ahead : (o : Option Bindings) (k : Bindings → State → Part Expression) (m : Bindings → Load → Watched Expression) (x : State → Part Expression) (y : Load → Watched Expression) (t : Load)
      → ((b : Bindings) (t : Load) → Ahead (k b (forget t)) (m b t)) → ((t : Load) → Ahead (x (forget t)) (y t)) → Ahead (the-run.if_fits o k x (forget t)) (if_fits o m y t)
  unfolding the-run.if_fits if_fits
  fits-ahead none k m x y t f g = g t
  fits-ahead (some b) k m x y t f g = f b t

  abbrev CalleeAhead : the-run.Callee → Callee → Type 0
  CalleeAhead c d = (f : Name) (v : Expression) (t : Load) → Ahead (c f v (forget t)) (d f v t)

  module _ (c : the-run.Callee) (d : Callee) (ahead : CalleeAhead c d) (grows : CalleeGrows c) where
    -- What follows a value u: the rest of the terms, behind it.
    rest_grows : (u : Expression) (r : Terms) (b : Bindings) (s : State) → Grows s.events (the-run.before u (the-run.evaluate c r b s))
    rest_grows u r b s = before_grows s.events u _ (evaluate_grows c grows r b s)

    mutual
      unfolding the-run.evaluate evaluate weighing heavier

      evaluate-ahead : (x : Terms) (b : Bindings) (t : Load) → Ahead (the-run.evaluate c x b (forget t)) (evaluate watch d x b t)
      evaluate-ahead nil b t = refl
      evaluate-ahead (symbol i x r) b t =
          value-ahead (λ s. the-run.before (atom x void) (the-run.evaluate c r b s)) _ (atom x void) t (λ t₁. before-ahead (atom x void) _ _ (evaluate-ahead r b t₁)) (λ s. rest_grows (atom x void) r b s)
      evaluate-ahead (variable i k n r) b t =
          then_ahead (the-run.bound (value_of k n b) (forget t)) (bound (value_of k n b) t) _ _ (bound-ahead (value_of k n b) t) (λ u t₁.
          value-ahead (λ s. the-run.before u (the-run.evaluate c r b s)) _ u t₁ (λ t₂. before-ahead u _ _ (evaluate-ahead r b t₂)) (λ s. rest_grows u r b s)) (λ u s. rest_grows u r b s)
      evaluate-ahead (bracket i j r) b t =
          value-ahead (λ s. the-run.and_then (the-run.evaluate c j b s) (λ u s₁. the-run.before (group u void) (the-run.evaluate c r b s₁))) _ (group void void) t (λ t₁.
          then_ahead (the-run.evaluate c j b (forget t₁)) (evaluate watch d j b t₁) _ _ (evaluate-ahead j b t₁) (λ u t₂. before-ahead (group u void) _ _ (evaluate-ahead r b t₂)) (λ u s. rest_grows (group u void) r b s))
          (λ s. then_grows s.events (the-run.evaluate c j b s) _ (evaluate_grows c grows j b s) (λ u s₁. rest_grows (group u void) r b s₁))
      evaluate-ahead (call i f a r) b t =
          then_ahead (the-run.evaluate c a b (forget t)) (evaluate watch d a b t) _ _ (evaluate-ahead a b t) (λ v t₁.
          then_ahead (c f v (forget t₁)) (d f v t₁) _ _ (ahead f v t₁) (λ u t₂.
          hands_ahead (λ s. the-run.before u (the-run.evaluate c r b s)) _ t.weight u t₂ (λ t₃. before-ahead u _ _ (evaluate-ahead r b t₃)) (λ s. rest_grows u r b s)) (λ u s. rest_grows u r b s))
          (λ v s. then_grows s.events (c f v s) _ (grows f v s) (λ u s₁. rest_grows u r b s₁))
      evaluate-ahead (block i a e r) b t =
          then_ahead (the-run.evaluate c a b (forget t)) (evaluate watch d a b t) _ _ (evaluate-ahead a b t) (λ v t₁.
          then_ahead (the-run.choose c e v b (forget t₁)) (choose watch d e v b (heavier 16 t₁)) _ _ (choose-ahead e v b (heavier 16 t₁)) (λ u t₂.
          hands_ahead (λ s. the-run.before u (the-run.evaluate c r b s)) _ t.weight u t₂ (λ t₃. before-ahead u _ _ (evaluate-ahead r b t₃)) (λ s. rest_grows u r b s)) (λ u s. rest_grows u r b s))
          (λ v s. then_grows s.events (the-run.choose c e v b s) _ (choose_grows c grows e v b s) (λ u s₁. rest_grows u r b s₁))

      hold-ahead : (x : Conditions) (b : Bindings) (t : Load) → Ahead (the-run.hold c x b (forget t)) (hold watch d x b t)
      hold-ahead Conditions.none b t = refl
      hold-ahead (condition i r p x) b t =
          then_ahead (the-run.evaluate c r b (forget t)) (evaluate watch d r b t) _ _ (evaluate-ahead r b t)
          (λ v t₁. first-ahead (matches p v b) (λ m s. the-run.hold c x m s) _ t₁ (λ m t₂. hold-ahead x m (weighing (t₁.weight + bound_anew m b) t₂)) (λ m s. hold_grows c grows x m s))
          (λ v s. first_grows (matches p v b) _ s (λ m s₁. hold_grows c grows x m s₁))

      choose-ahead : (x : Sentences) (v : Expression) (b : Bindings) (t : Load) → Ahead (the-run.choose c x v b (forget t)) (choose watch d x v b t)
      choose-ahead empty v b t = refl
      choose-ahead (sentence h p x r l) v b t =
          then_ahead (the-run.first_of (matches p v b) (λ m s. the-run.hold c x m s) (forget t)) _ _ _
          (first-ahead (matches p v b) (λ m s. the-run.hold c x m s) _ t (λ m t₁. hold-ahead x m (weighing (t.weight + bound_anew m b) t₁)) (λ m s. hold_grows c grows x m s)) (λ o t₁.
          fits-ahead o _ _ (λ s. the-run.choose c l v b s) _ t₁
          (λ m t₂. tells-ahead (λ s. the-run.evaluate c r m s) _ (chosen (spanless p) (spanless_conditions x) (spanless r)) t₂ (λ t₃. evaluate-ahead r m t₃) (λ s. evaluate_grows c grows r m s))
          (λ t₂. choose-ahead l v b (weighing t.weight t₂))) (λ o s₁.
          fits_grows o _ _ s₁ (λ m s₂. note_grows (chosen (spanless p) (spanless_conditions x) (spanless r)) s₂ (λ s₃. the-run.evaluate c r m s₃) (λ s₃. evaluate_grows c grows r m s₃)) (λ s₂. choose_grows c grows l v b s₂))

  entry-ahead : (n : ℕ) (e : Event) (k : State → Part Expression) (m : Load → Watched Expression) (t : Load) → ((t : Load) → Ahead (k (forget t)) (m t)) → ((s : State) → Grows s.events (k s)) → Ahead (the-run.entry_with n e k (forget t)) (entry_with watch n e m t)
  unfolding the-run.entry_with entry_with
  entry-ahead zero e k m t f g = refl
  entry-ahead (suc n) e k m t f g =
      adds-ahead (λ s. k (the-run.note e (record { calls = n; answers = s.answers; events = s.events }))) _ 16 t
      (λ t₁. tells-ahead k (λ _ s. m s) e (record { calls = n; answers = t₁.answers; events = t₁.events; weight = t₁.weight }) f g)
      (λ s. note_grows e (record { calls = n; answers = s.answers; events = s.events }) k g)

  answer-ahead : (l : List Expression) (t : Load) → Ahead (the-run.answer_from l (forget t)) (answer_from l t)
  unfolding the-run.answer_from answer_from
  answer-ahead [] t = refl
  answer-ahead (v ∷ l) t = refl

  body-ahead : (c : the-run.Callee) (d : Callee) → CalleeAhead c d → CalleeGrows c → (o : Option Sentences) (v : Expression) (t : Load) → Ahead (the-run.body c o v (forget t)) (body watch d o v t)
  unfolding the-run.body body
  body-ahead c d h g none v t = answer-ahead t.answers t
  body-ahead c d h g (some b) v t = choose-ahead c d h g b v [] t

  to_ahead : (n : ℕ) (p : Program) → CalleeAhead (the-run.enter_to n p) (enter_to watch n p)
  unfolding the-run.enter_to enter_to the-run.entry entry
  to_ahead zero p f v t = refl
  to_ahead (suc n) p f v t =
      entry-ahead t.calls (entered f v) _ _ t (λ t₁. body-ahead (the-run.enter_to n p) (enter_to watch n p) (to_ahead n p) (to_grows n p) (sentences_of f p.functions) v t₁)
      (λ s. body_grows (the-run.enter_to n p) (to_grows n p) (sentences_of f p.functions) v s)

  root-ahead : (p : Program) (o : Option Function) (v : Expression) (t : Load) → Ahead (the-run.enter_root p o v (forget t)) (enter_root watch p o v t)
  unfolding the-run.enter_root enter_root the-run.entry entry the-run.enter enter
  root-ahead p none v t = refl
  root-ahead p (some f) v t =
      entry-ahead t.calls (entered f.name v) _ _ t (λ t₁. choose-ahead (the-run.enter p) (enter watch p) (λ g u t₂. to_ahead t₂.calls p g u t₂) (enter_grows p) f.sentences v [] t₁)
      (λ s. choose_grows (the-run.enter p) (enter_grows p) f.sentences v [] s)

  abbrev Compare : Outcome → List Event → Stop → Type 0
  Compare o l (ended e) = (l ≡ o.events) × (e ≡ o.ending)
  Compare o l too_heavy = Begins l o.events
  Compare o l too_long = Begins l o.events

  grown_outcome : (x : Part Expression) (l : List Event) → Grows l x → Begins l (the-run.outcome x).events
  unfolding the-run.outcome
  grown_outcome (Part.gives a s) l h = h
  grown_outcome (Part.ends e s) l h = h

  outcome-ahead : (x : Part Expression) (y : Watched Expression) → Ahead x y → Compare (the-run.outcome x) (events_of y) (stop_of watch y)
  unfolding events_of stop_of the-run.outcome
  outcome-ahead x (Watched.gives v t) h = by (watch.long (event_bytes t.events + (bytes_of v + 1)))
    where
      by : (b : Bool) → Compare (the-run.outcome x) t.events (cond b too_long (ended (value v)))
      by true = subst (λ (z : Part Expression). Begins t.events (the-run.outcome z).events) (sym h) (begins-itself t.events)
      by false = (sym (ap (λ (z : Part Expression). (the-run.outcome z).events) h), sym (ap (λ (z : Part Expression). (the-run.outcome z).ending) h))
  outcome-ahead x (Watched.stops (ended e) t) h = (sym (ap (λ (z : Part Expression). (the-run.outcome z).events) h), sym (ap (λ (z : Part Expression). (the-run.outcome z).ending) h))
  outcome-ahead x (Watched.stops too_heavy t) h = grown_outcome x t.events h
  outcome-ahead x (Watched.stops too_long t) h = grown_outcome x t.events h

  module _ (p : Program) (input : Expression) (answers : List Expression) (limit : ℕ) where
    compared : Compare (the-run.run p input answers limit) (watched_run watch p input answers limit).events (watched_run watch p input answers limit).stop
    unfolding watched_run watched_outcome the-run.run
    compared = outcome-ahead _ _ (root-ahead p (root p) input (record { calls = limit; answers = answers; events = []; weight = bytes_of input }))

    -- Where neither 15 nor 16 is met, the events and the ending are the run's.
    pub ends_as_run : (e : Ending) → (watched_run watch p input answers limit).stop ≡ ended e → the-run.run p input answers limit ≡ record { events = (watched_run watch p input answers limit).events; ending = e }
    ends_as_run e h = let k = subst (Compare (the-run.run p input answers limit) (watched_run watch p input answers limit).events) h compared in ap₂ (λ (l : List Event) (d : Ending). record { events = l; ending = d }) (sym k.0) (sym k.1)

    -- Where one is met, the events before it begin the run's.
    pub begins-run : ((watched_run watch p input answers limit).stop ≡ too_heavy) ⊎ ((watched_run watch p input answers limit).stop ≡ too_long) → Begins (watched_run watch p input answers limit).events (the-run.run p input answers limit).events
    begins-run (inl h) = subst (Compare (the-run.run p input answers limit) (watched_run watch p input answers limit).events) h compared
    begins-run (inr h) = subst (Compare (the-run.run p input answers limit) (watched_run watch p input answers limit).events) h compared
