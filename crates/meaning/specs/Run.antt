-- A run of a program: document 01, "A run", each sentence of it quoted at what renders it. Three are rendered below this crate or in its other files:
-- "An expression holds symbols and brackets." is overlap's `Expression`; "Root: first Entry function, else the first." is cleaning's `root`; how a pattern matches is in Match.antt.
use Rattle.std.specs.Prelude.{ℕ, zero, suc, cond, List, [], ◌∷◌, ◌++◌}
use Rattle.std.proofs.Math.Option.{Option, none, some}
use Rattle.program.specs.Syntax.{Name, Terms, nil, symbol, variable, bracket, call, block, Conditions, condition, Sentences, empty, sentence, Function, Program}
use Rattle.patterns.specs.Names.{same_name}
use Rattle.patterns.specs.Expression.{Expression, void, atom, group, ◌⧺◌}
use Rattle.meaning.specs.Root.{root}
use Rattle.meaning.specs.Match.{Bindings, value_of, matches}
use Rattle.meaning.specs.Spanless.{spanless, spanless_conditions}

-- "Events: each call entered with its argument; each sentence of a function or block chosen once its conditions hold, named by its pattern, conditions and result without spans, never by position."
pub data Event : Type 0 where
  entered : Name → Expression → Event
  chosen : Terms → Conditions → Terms → Event

-- "The endings are six: the root's value, no root, no answer left, nothing fitting, variable unbound, call limit."
pub data Ending : Type 0 where
  value : Expression → Ending
  no_root no_answer_left nothing_fitting variable_unbound call_limit : Ending

-- What a run has at any time: how many calls it may still enter, the answers not yet taken, its events.
pub record State : Type 0 where
  pub calls : ℕ
  pub answers : List Expression
  pub events : List Event

-- A part of a run gives something, or the run ends in it.
pub data Part (A : Type 0) : Type 0 where
  gives : A → State → Part A
  ends : Ending → State → Part A

unfoldable pub and_then : {A B : Type 0} → Part A → (A → State → Part B) → Part B
and_then (gives a s) next = next a s
and_then (ends e s) next = ends e s

-- An expression, and behind it the one that a part of a run gives.
abbrev pub before : Expression → Part Expression → Part Expression
before u x = and_then x (λ v s. gives (u ⧺ v) s)

unfoldable pub note : Event → State → State
note e s = record { calls = s.calls; answers = s.answers; events = s.events ++ (e ∷ []) }

-- "a variable unbound when evaluation reaches it in a result or argument, ends it earlier"
unfoldable pub bound : Option Expression → State → Part Expression
bound none s = ends variable_unbound s
bound (some v) s = gives v s

-- The first of some matches that passes a test, as the test leaves it.
unfoldable pub or_next : Option Bindings → (State → Part (Option Bindings)) → State → Part (Option Bindings)
or_next none next s = next s
or_next (some b) next s = gives (some b) s

unfoldable pub first_of : List Bindings → (Bindings → State → Part (Option Bindings)) → State → Part (Option Bindings)
first_of [] test s = gives none s
first_of (b ∷ l) test s = and_then (test b s) (λ o s₁. or_next o (λ s₂. first_of l test s₂) s₁)

unfoldable pub if_fits : Option Bindings → (Bindings → State → Part Expression) → (State → Part Expression) → State → Part Expression
if_fits none result next s = next s
if_fits (some b) result next s = result b s

-- What a call does, by its name and its argument.
abbrev pub Callee : Type 0
Callee = Name → Expression → State → Part Expression

module _ (callee : Callee) where
  unfoldable mutual
    -- "Arguments are evaluated first, left to right." "A block does the same with the bindings around it."
    pub evaluate : Terms → Bindings → State → Part Expression
    evaluate nil b s = gives void s
    evaluate (symbol t x r) b s = before (atom x void) (evaluate r b s)
    evaluate (variable t k n r) b s = and_then (bound (value_of k n b) s) (λ u s₁. before u (evaluate r b s₁))
    evaluate (bracket t i r) b s = and_then (evaluate i b s) (λ u s₁. before (group u void) (evaluate r b s₁))
    evaluate (call t f a r) b s = and_then (evaluate a b s) (λ v s₁. and_then (callee f v s₁) (λ u s₂. before u (evaluate r b s₂)))
    evaluate (block t a c r) b s = and_then (evaluate a b s) (λ v s₁. and_then (choose c v b s₁) (λ u s₂. before u (evaluate r b s₂)))

    -- "A condition evaluates its result and matches its pattern with bindings kept; failure moves to the next match before it."
    pub hold : Conditions → Bindings → State → Part (Option Bindings)
    hold Conditions.none b s = gives (some b) s
    hold (condition t r p c) b s = and_then (evaluate r b s) (λ v s₁. first_of (matches p v b) (λ b₁ s₂. hold c b₁ s₂) s₁)

    -- "Sentences are tried in order"; "nothing fitting [..] ends it earlier".
    pub choose : Sentences → Expression → Bindings → State → Part Expression
    choose empty v b s = ends nothing_fitting s
    choose (sentence h p c r rest) v b s =
        and_then (first_of (matches p v b) (λ b₁ s₁. hold c b₁ s₁) s) (λ o s₁.
        if_fits o (λ b₁ s₂. evaluate r b₁ (note (chosen (spanless p) (spanless_conditions c) (spanless r)) s₂)) (λ s₂. choose rest v b s₂) s₁)

-- An entry: "Call limit n ends the run before entry n + 1."
unfoldable pub entry_with : ℕ → Event → (State → Part Expression) → State → Part Expression
entry_with zero e next s = ends call_limit s
entry_with (suc n) e next s = next (note e (record { calls = n; answers = s.answers; events = s.events }))

unfoldable pub entry : Event → (State → Part Expression) → State → Part Expression
entry e next s = entry_with s.calls e next s

-- "if there is none, the next answer of the given list, and with none left the run ends"
unfoldable pub answer_from : List Expression → State → Part Expression
answer_from [] s = ends no_answer_left s
answer_from (v ∷ l) s = gives v (record { calls = s.calls; answers = l; events = s.events })

-- "A call takes the first function of that name, case ignored".
unfoldable pub sentences_of : Name → List Function → Option Sentences
sentences_of f [] = none
sentences_of f (g ∷ gs) = cond (same_name f g.name) (some g.sentences) (sentences_of f gs)

unfoldable pub body : Callee → Option Sentences → Expression → State → Part Expression
body callee none v s = answer_from s.answers s
body callee (some b) v s = choose callee b v [] s

-- A call, at most d of them one in another. "A call's event bears its name as called"; "a call to a function that the show lacks, even when no answer is left for it", counts as a call too.
unfoldable pub enter_to : ℕ → Program → Callee
enter_to zero p f v s = ends call_limit s
enter_to (suc d) p f v s = entry (entered f v) (λ s₁. body (enter_to d p) (sentences_of f p.functions) v s₁) s

-- A call. As many as may still be entered is as deep as calls can nest, so that the bound is never met (proofs/Unwatched.antt).
unfoldable pub enter : Program → Callee
enter p f v s = enter_to s.calls p f v s

-- "The run enters the root (by place, not name) with the input; without functions it ends, no root." "The root's entry counts as a call", and its event bears the root's name "as defined".
unfoldable pub enter_root : Program → Option Function → Expression → State → Part Expression
enter_root p none v s = ends no_root s
enter_root p (some f) v s = entry (entered f.name v) (λ s₁. choose (enter p) f.sentences v [] s₁) s

-- What a run comes to. "Events, endings and values are the same only if every symbol and name is spelled alike": if they are equal.
pub record Outcome : Type 0 where
  pub events : List Event
  pub ending : Ending

-- "The run ends with the root's value", or earlier.
unfoldable pub outcome : Part Expression → Outcome
outcome (gives v s) = record { events = s.events; ending = value v }
outcome (ends e s) = record { events = s.events; ending = e }

-- The run of a program with an input, a list of answers and a call limit, "begun with nothing bound and no answer taken".
unfoldable pub run : Program → Expression → List Expression → ℕ → Outcome
run p input answers limit = outcome (enter_root p (root p) input (record { calls = limit; answers = answers; events = [] }))
