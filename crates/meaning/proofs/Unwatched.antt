-- A watched run that nothing stops is the run.
use Prim.Native.Nat.{ℕ, zero, suc, ◌+◌}
use mathlib.Core.Path.{◌≡◌, refl, sym, subst, ap, ap₂, ◌∙◌}
use mathlib.Core.Bool.{false}
use mathlib.Core.List.{List, [], ◌∷◌}
use mathlib.Core.Option.{Option, none, some}
use Rattle.program.specs.Syntax.{Name, Terms, nil, symbol, variable, bracket, call, block, Conditions, condition, Sentences, empty, sentence, Function, Program}
use Rattle.patterns.specs.Expression.{Expression, void, atom, group, ◌⧺◌}
use Rattle.meaning.specs.Root.{root}
use Rattle.meaning.specs.Match.{Bindings, value_of, matches}
use Rattle.meaning.specs.Spanless.{spanless, spanless_conditions}
use Rattle.meaning.specs.Run as the-run
use Rattle.meaning.specs.Run.{Event, entered, chosen, Ending, value, State, Part, sentences_of, Outcome}
use Rattle.meaning.specs.Records.{bytes_of}
use Rattle.meaning.specs.Watch.{Watch, Stop, ended, too_heavy, too_long, Load, Watched, and_then, note, weighing, heavier, bound_anew, bound, or_next, first_of, if_fits, answer_from, Callee, adds, adds_value, hands_on, tells, evaluate, hold, choose, entry_with, entry, body, enter_to, enter, enter_root, stop_of, events_of, WatchedOutcome, watched_outcome, watched_run}
use Rattle.meaning.proofs.Depth.{enter_unfolds}

-- Nothing is too heavy, nothing too long.
abbrev pub unwatched : Watch
unwatched = record { heavy = λ _. false; long = λ _. false }

-- What the run has of what a watched run has.
abbrev pub forget : Load → State
forget s = record { calls = s.calls; answers = s.answers; events = s.events }

abbrev SameStop : Ending → State → Stop → Load → Type 0
SameStop e s (ended f) t = (e ≡ f) × (s ≡ forget t)
SameStop e s too_heavy t = ⊥
SameStop e s too_long t = ⊥

-- A part of the run and one of the watched run come to the same.
abbrev Same : {A : Type 0} → Part A → Watched A → Type 0
Same (Part.gives a s) (Watched.gives b t) = (a ≡ b) × (s ≡ forget t)
Same (Part.gives a s) (Watched.stops e t) = ⊥
Same (Part.ends e s) (Watched.gives b t) = ⊥
Same (Part.ends e s) (Watched.stops f t) = SameStop e s f t

then_same : {A B : Type 0} (x : Part A) (y : Watched A) (k : A → State → Part B) (m : A → Load → Watched B) → Same x y → ((a : A) (t : Load) → Same (k a (forget t)) (m a t))
    → Same (the-run.and_then x k) (and_then y m)
unfolding the-run.and_then and_then
then_same (Part.gives a s) (Watched.gives b t) k m h f = subst (λ z. Same (k a z) (m b t)) (sym h.1) (subst (λ z. Same (k a (forget t)) (m z t)) h.0 (f a t))
then_same (Part.gives a s) (Watched.stops e t) k m h f = absurd h
then_same (Part.ends e s) (Watched.gives b t) k m h f = absurd h
then_same (Part.ends e s) (Watched.stops g t) k m h f = h

-- What is added, handed on or told stops nothing.
adds_then : {A : Type 0} (k : State → Part A) (m : Unit {0} → Load → Watched A) (u : Expression) (t : Load) → ((t : Load) → Same (k (forget t)) (m tt t)) → Same (k (forget t)) (and_then (adds_value unwatched u t) m)
unfolding and_then adds_value adds heavier weighing
adds_then k m void t f = f t
adds_then k m (atom x v) t f = f (heavier (bytes_of (atom x v)) t)
adds_then k m (group u v) t f = f (heavier (bytes_of (group u v)) t)

hands_then : {A : Type 0} (k : State → Part A) (m : Unit {0} → Load → Watched A) (w : ℕ) (u : Expression) (t : Load) → ((t : Load) → Same (k (forget t)) (m tt t)) → Same (k (forget t)) (and_then (hands_on unwatched w u t) m)
unfolding hands_on weighing
hands_then k m w u t f = adds_then k m u (weighing w t) f

tells_then : {A : Type 0} (k : State → Part A) (m : Unit {0} → Load → Watched A) (e : Event) (t : Load) → ((t : Load) → Same (k (forget t)) (m tt t)) → Same (k (the-run.note e (forget t))) (and_then (tells unwatched e t) m)
unfolding and_then tells note the-run.note
tells_then k m e t f = f (note e t)

before_same : (u : Expression) (x : Part Expression) (y : Watched Expression) → Same x y → Same (the-run.and_then x (λ v s. Part.gives (u ⧺ v) s)) (and_then y (λ v s. Watched.gives (u ⧺ v) s))
before_same u x y h = then_same x y _ _ h (λ v t. (refl, refl))

bound-same : (o : Option Expression) (t : Load) → Same (the-run.bound o (forget t)) (bound o t)
unfolding the-run.bound bound
bound-same none t = (refl, refl)
bound-same (some v) t = (refl, refl)

next-same : (o : Option Bindings) (k : State → Part (Option Bindings)) (m : Load → Watched (Option Bindings)) (t : Load) → ((t : Load) → Same (k (forget t)) (m t)) → Same (the-run.or_next o k (forget t)) (or_next o m t)
unfolding the-run.or_next or_next
next-same none k m t f = f t
next-same (some b) k m t f = (refl, refl)

first-same : (l : List Bindings) (k : Bindings → State → Part (Option Bindings)) (m : Bindings → Load → Watched (Option Bindings)) (t : Load) → ((b : Bindings) (t : Load) → Same (k b (forget t)) (m b t))
    → Same (the-run.first_of l k (forget t)) (first_of l m t)
unfolding the-run.first_of first_of
first-same [] k m t f = (refl, refl)
first-same (b ∷ l) k m t f = then_same (k b (forget t)) (m b t) _ _ (f b t) (λ o t₁. next-same o (λ s. the-run.first_of l k s) (λ s. first_of l m s) t₁ (λ t₂. first-same l k m t₂ f))

fits-same : (o : Option Bindings) (k : Bindings → State → Part Expression) (m : Bindings → Load → Watched Expression) (x : State → Part Expression) (y : Load → Watched Expression) (t : Load)
    → ((b : Bindings) (t : Load) → Same (k b (forget t)) (m b t)) → ((t : Load) → Same (x (forget t)) (y t)) → Same (the-run.if_fits o k x (forget t)) (if_fits o m y t)
unfolding the-run.if_fits if_fits
fits-same none k m x y t f g = g t
fits-same (some b) k m x y t f g = f b t

abbrev SameCallee : the-run.Callee → Callee → Type 0
SameCallee c d = (f : Name) (v : Expression) (t : Load) → Same (c f v (forget t)) (d f v t)

module _ (c : the-run.Callee) (d : Callee) (same : SameCallee c d) where
  mutual
    unfolding the-run.evaluate evaluate weighing heavier

    evaluate-same : (x : Terms) (b : Bindings) (t : Load) → Same (the-run.evaluate c x b (forget t)) (evaluate unwatched d x b t)
    evaluate-same nil b t = (refl, refl)
    evaluate-same (symbol i x r) b t =
        adds_then (λ s. the-run.before (atom x void) (the-run.evaluate c r b s)) _ (atom x void) t (λ t₁. before_same (atom x void) _ _ (evaluate-same r b t₁))
    evaluate-same (variable i k n r) b t =
        then_same (the-run.bound (value_of k n b) (forget t)) (bound (value_of k n b) t) _ _ (bound-same (value_of k n b) t) (λ u t₁.
        adds_then (λ s. the-run.before u (the-run.evaluate c r b s)) _ u t₁ (λ t₂. before_same u _ _ (evaluate-same r b t₂)))
    evaluate-same (bracket i j r) b t =
        adds_then (λ s. the-run.and_then (the-run.evaluate c j b s) (λ u s₁. the-run.before (group u void) (the-run.evaluate c r b s₁))) _ (group void void) t (λ t₁.
        then_same (the-run.evaluate c j b (forget t₁)) (evaluate unwatched d j b t₁) _ _ (evaluate-same j b t₁) (λ u t₂. before_same (group u void) _ _ (evaluate-same r b t₂)))
    evaluate-same (call i f a r) b t =
        then_same (the-run.evaluate c a b (forget t)) (evaluate unwatched d a b t) _ _ (evaluate-same a b t) (λ v t₁.
        then_same (c f v (forget t₁)) (d f v t₁) _ _ (same f v t₁) (λ u t₂.
        hands_then (λ s. the-run.before u (the-run.evaluate c r b s)) _ t.weight u t₂ (λ t₃. before_same u _ _ (evaluate-same r b t₃))))
    evaluate-same (block i a e r) b t =
        then_same (the-run.evaluate c a b (forget t)) (evaluate unwatched d a b t) _ _ (evaluate-same a b t) (λ v t₁.
        then_same (the-run.choose c e v b (forget t₁)) (choose unwatched d e v b (heavier 16 t₁)) _ _ (choose-same e v b (heavier 16 t₁)) (λ u t₂.
        hands_then (λ s. the-run.before u (the-run.evaluate c r b s)) _ t.weight u t₂ (λ t₃. before_same u _ _ (evaluate-same r b t₃))))

    hold-same : (x : Conditions) (b : Bindings) (t : Load) → Same (the-run.hold c x b (forget t)) (hold unwatched d x b t)
    hold-same Conditions.none b t = (refl, refl)
    hold-same (condition i r p x) b t =
        then_same (the-run.evaluate c r b (forget t)) (evaluate unwatched d r b t) _ _ (evaluate-same r b t) (λ v t₁.
        first-same (matches p v b) (λ m s. the-run.hold c x m s) _ t₁ (λ m t₂. hold-same x m (weighing (t₁.weight + bound_anew m b) t₂)))

    choose-same : (x : Sentences) (v : Expression) (b : Bindings) (t : Load) → Same (the-run.choose c x v b (forget t)) (choose unwatched d x v b t)
    choose-same empty v b t = (refl, refl)
    choose-same (sentence h p x r l) v b t =
        then_same (the-run.first_of (matches p v b) (λ m s. the-run.hold c x m s) (forget t)) _ _ _
        (first-same (matches p v b) (λ m s. the-run.hold c x m s) _ t (λ m t₁. hold-same x m (weighing (t.weight + bound_anew m b) t₁))) (λ o t₁.
        fits-same o _ _ (λ s. the-run.choose c l v b s) _ t₁
        (λ m t₂. tells_then (λ s. the-run.evaluate c r m s) _ (chosen (spanless p) (spanless_conditions x) (spanless r)) t₂ (λ t₃. evaluate-same r m t₃))
        (λ t₂. choose-same l v b (weighing t.weight t₂)))

-- ---- entries

entry-same : (n : ℕ) (e : Event) (k : State → Part Expression) (m : Load → Watched Expression) (t : Load) → ((t : Load) → Same (k (forget t)) (m t)) → Same (the-run.entry_with n e k (forget t)) (entry_with unwatched n e m t)
unfolding the-run.entry_with entry_with adds heavier weighing and_then tells note the-run.note
entry-same zero e k m t f = (refl, refl)
entry-same (suc n) e k m t f = f _

answer-same : (l : List Expression) (t : Load) → Same (the-run.answer_from l (forget t)) (answer_from l t)
unfolding the-run.answer_from answer_from
answer-same [] t = (refl, refl)
answer-same (v ∷ l) t = (refl, refl)

body_same : (c : the-run.Callee) (d : Callee) → SameCallee c d → (o : Option Sentences) (v : Expression) (t : Load) → Same (the-run.body c o v (forget t)) (body unwatched d o v t)
unfolding the-run.body body
body_same c d h none v t = answer-same t.answers t
body_same c d h (some b) v t = choose-same c d h b v [] t

to_same : (n : ℕ) (p : Program) → SameCallee (the-run.enter_to n p) (enter_to unwatched n p)
unfolding the-run.enter_to enter_to the-run.entry entry
to_same zero p f v t = (refl, refl)
to_same (suc n) p f v t = entry-same t.calls (entered f v) _ _ t (λ t₁. body_same (the-run.enter_to n p) (enter_to unwatched n p) (to_same n p) (sentences_of f p.functions) v t₁)

enter-same : (p : Program) → SameCallee (the-run.enter p) (enter unwatched p)
unfolding the-run.enter enter
enter-same p f v t = to_same t.calls p f v t

-- The bound on nested calls is no limit of its own: a call does what its body says, with calls for callees.
same_once : {A : Type 0} (x z : Part A) (y : Watched A) → Same x y → Same z y → x ≡ z
same_once (Part.gives a s) (Part.gives c r) (Watched.gives b t) h k = ap₂ (λ (v : _) (w : State). Part.gives v w) (h.0 ∙ sym k.0) (h.1 ∙ sym k.1)
same_once (Part.gives a s) (Part.ends e r) (Watched.gives b t) h k = absurd k
same_once (Part.gives a s) z (Watched.stops e t) h k = absurd h
same_once (Part.ends e s) z (Watched.gives b t) h k = absurd h
same_once (Part.ends e s) (Part.gives c r) (Watched.stops f t) h k = absurd k
same_once (Part.ends e s) (Part.ends g r) (Watched.stops (ended f) t) h k = ap₂ (λ (x : Ending) (w : State). Part.ends x w) (h.0 ∙ sym k.0) (h.1 ∙ sym k.1)
same_once (Part.ends e s) (Part.ends g r) (Watched.stops too_heavy t) h k = absurd h
same_once (Part.ends e s) (Part.ends g r) (Watched.stops too_long t) h k = absurd h

pub run_unfolds : (p : Program) (f : Name) (v : Expression) (s : State) → the-run.enter p f v s ≡ the-run.entry (entered f v) (λ s₁. the-run.body (the-run.enter p) (sentences_of f p.functions) v s₁) s
unfolding the-run.entry entry
run_unfolds p f v s =
    let t : Load = record { calls = s.calls; answers = s.answers; events = s.events; weight = 0 } in
    same_once _ _ (enter unwatched p f v t) (enter-same p f v t)
    (subst (λ (y : Watched Expression). Same (the-run.entry_with s.calls (entered f v) (λ s₁. the-run.body (the-run.enter p) (sentences_of f p.functions) v s₁) s) y) (sym (enter_unfolds unwatched p f v t))
    (entry-same s.calls (entered f v) _ _ t (λ t₁. body_same (the-run.enter p) (enter unwatched p) (enter-same p) (sentences_of f p.functions) v t₁)))

root-same : (p : Program) (o : Option Function) (v : Expression) (t : Load) → Same (the-run.enter_root p o v (forget t)) (enter_root unwatched p o v t)
unfolding the-run.enter_root enter_root the-run.entry entry
root-same p none v t = (refl, refl)
root-same p (some f) v t = entry-same t.calls (entered f.name v) _ _ t (λ t₁. choose-same (the-run.enter p) (enter unwatched p) (enter-same p) f.sentences v [] t₁)

abbrev plainly : Outcome → WatchedOutcome
plainly o = record { events = o.events; stop = ended o.ending }

outcome-same : (x : Part Expression) (y : Watched Expression) → Same x y → watched_outcome unwatched y ≡ plainly (the-run.outcome x)
unfolding watched_outcome events_of stop_of the-run.outcome
outcome-same (Part.gives a s) (Watched.gives b t) h = ap₂ (λ (l : List Event) (v : Expression). record { events = l; stop = ended (value v) }) (sym (ap (λ (z : State). z.events) h.1)) (sym h.0)
outcome-same (Part.gives a s) (Watched.stops e t) h = absurd h
outcome-same (Part.ends e s) (Watched.gives b t) h = absurd h
outcome-same (Part.ends e s) (Watched.stops (ended f) t) h = ap₂ (λ (l : List Event) (g : Ending). record { events = l; stop = ended g }) (sym (ap (λ (z : State). z.events) h.1)) (sym h.0)
outcome-same (Part.ends e s) (Watched.stops too_heavy t) h = absurd h
outcome-same (Part.ends e s) (Watched.stops too_long t) h = absurd h

-- The events of the run, and its ending.
pub unwatched_run : (p : Program) (input : Expression) (answers : List Expression) (limit : ℕ)
    → watched_run unwatched p input answers limit ≡ record { events = (the-run.run p input answers limit).events; stop = ended (the-run.run p input answers limit).ending }
unfolding watched_run the-run.run
unwatched_run p input answers limit = outcome-same _ _ (root-same p (root p) input (record { calls = limit; answers = answers; events = []; weight = bytes_of input }))
