-- A run's answer: when it is refused, what stands in the lent list then and otherwise, and that the numbers tell the case.
use Prim.Native.Nat.{ℕ, ◌+◌, ◌≤◌}
use native.Mathlib.Omega.{arith}
use mathlib.Core.Path.{◌≡◌, refl, sym, ap, subst, ◌∙◌}
use mathlib.Core.Logic.{◌⊎◌, inl, inr}
use mathlib.Core.Bool.{Bool, true, false}
use mathlib.Core.List.{List, [], ◌∷◌, ◌++◌, append_assoc}
use mathlib.Core.Option.{Option, none, some}
use lib.Dec.{ltb}
use lib.ListN.{length, take, drop, length-append}
use borrow.Author.Tests.{ltb-false, le-ltb}
use Rattle.std.specs.Prelude.{Ok}
use Rattle.program.specs.Syntax.{Program}
use Rattle.program.specs.Decode.{Answer, sized, decode}
use Rattle.patterns.specs.Expression.{Expression}
use Rattle.patterns.specs.Marks.{put_expression}
use Rattle.patterns.proofs.Marks.{expression-splits}
use Rattle.meaning.specs.Run.{Event, Ending, value, no_root, no_answer_left, nothing_fitting, variable_unbound, call_limit}
use Rattle.meaning.specs.Records.{put_events, bytes_of, event_bytes}
use Rattle.meaning.specs.Inputs.{input_of, answers_of}
use Rattle.meaning.specs.Watch.{Stop, ended, too_heavy, too_long, WatchedOutcome, lent, watched_run}
use Rattle.meaning.specs.Cleaning.{clean_residual_program}
use Rattle.meaning.proofs.SameRun.{same_watched}
use Rattle.meaning.proofs.Space.{told-fits, value_told_fits}
use Rattle.meaning.proofs.Told.{events-splits, events-length}
use Rattle.answers.specs.RunAnswers.{RunAnswer}
use Rattle.answers.specs.CleanAnswers.{written}
use Rattle.answers.specs.RunAnswers.{RunLeft, run_refused, refusing_run, ending_number, stop_answer, ending_bytes, stop_bytes, ran_to, run_inputs, run_of, run_answer, run_values}
use Rattle.answers.proofs.Exactly.{ImageRefuses, image_refused, image_number, ImageCase, image_case}

module _ (image input answers : List ℕ) where
  -- Nothing is refused before the run: the image is w's, the input v's, and the answers are l's.
  pub record Runs (w : Program) (v : Expression) (l : List Expression) : Type 0 where
    pub accepted : decode image ≡ Answer.accepted w
    pub input-is : input_of input ≡ some v
    pub answers_are : answers_of answers ≡ some l

  module _ (limit : ℕ) (events : List ℕ) where
    -- The run, watched by the lent list.
    abbrev pub outcome : Program → Expression → List Expression → WatchedOutcome
    outcome w v l = watched_run (lent (length events)) w v l limit

    -- The refusals, each on its condition where no earlier one holds; 15 and 16 at their place in the run.
    pub data RunRefuses : ℕ → ℕ → Type 0 where
      by_1 : sized image ≡ false → RunRefuses 1 0
      by_4_to_11 : {n p : ℕ} → sized image ≡ true → ImageRefuses image n p → RunRefuses n p
      by-14 : {w : Program} → decode image ≡ Answer.accepted w → (input_of input ≡ none) ⊎ (answers_of answers ≡ none) → RunRefuses 14 0
      by-15 : {w : Program} {v : Expression} {l : List Expression} → Runs w v l → (outcome w v l).stop ≡ too_heavy → RunRefuses 15 (event_bytes (outcome w v l).events)
      by-16 : {w : Program} {v : Expression} {l : List Expression} → Runs w v l → (outcome w v l).stop ≡ too_long → RunRefuses 16 (event_bytes (outcome w v l).events)

    -- The run ends in one of the six ways.
    pub record RunEnds (w : Program) (v : Expression) (l : List Expression) (e : Ending) : Type 0 where
      pub runs : Runs w v l
      pub ends : (outcome w v l).stop ≡ ended e

    pub run_as : (w : Program) (v : Expression) (l : List Expression) → Runs w v l → run_answer image input answers limit events ≡ ran_to (outcome w v l) events
    unfolding run_answer run_of run_inputs
    run_as w v l h = rw (h.accepted, h.input-is, h.answers_are)

    second_none : (w : Program) (a : Option Expression) (b : Option (List Expression)) → b ≡ none → run_inputs w a b limit events ≡ refusing_run 14 0 events
    unfolding run_inputs
    second_none w none b e = refl
    second_none w (some v) b e = rw e

    -- What is answered, and what is left of the list, before the run.
    pub run_refused-before : (n p : ℕ) → RunRefuses n p → n ≤ 14 → run_answer image input answers limit events ≡ record { answer = run_refused n p; events = events }
    unfolding refusing_run run_answer
    run_refused-before _ _ (RunRefuses.by_1 h) s = unfold decode run_of in rw h
    run_refused-before n p (RunRefuses.by_4_to_11 h k) s = unfold run_of in rw (image_refused image n p h k)
    run_refused-before _ _ (RunRefuses.by-14 e (inl h)) s = unfold run_of run_inputs in rw (e, h)
    run_refused-before _ _ (RunRefuses.by-14 {w} e (inr h)) s = unfold run_of in rw e (second_none w (input_of input) (answers_of answers) h)
    run_refused-before _ _ (RunRefuses.by-15 h k) s = absurd (omega (arith, s))
    run_refused-before _ _ (RunRefuses.by-16 h k) s = absurd (omega (arith, s))

    abbrev number : ℕ
    number = (run_values (run_answer image input answers limit events).answer).number

    abbrev place : ℕ
    place = (run_values (run_answer image input answers limit events).answer).place

    pub run_refuses : (n p : ℕ) → RunRefuses n p → (run_answer image input answers limit events).answer ≡ run_refused n p
    unfolding ran_to stop_answer
    run_refuses _ _ (RunRefuses.by_1 h) = ap (λ (x : RunLeft). x.answer) (run_refused-before 1 0 (RunRefuses.by_1 h) (omega arith))
    run_refuses n p (RunRefuses.by_4_to_11 h k) = ap (λ (x : RunLeft). x.answer) (run_refused-before n p (RunRefuses.by_4_to_11 h k) (omega (arith, (image_number image n p k).1)))
    run_refuses _ _ (RunRefuses.by-14 e h) = ap (λ (x : RunLeft). x.answer) (run_refused-before 14 0 (RunRefuses.by-14 e h) (omega arith))
    run_refuses _ _ (RunRefuses.by-15 {w} {v} {l} h k) = ap (λ (x : RunLeft). x.answer) (run_as w v l h) ∙ rw k
    run_refuses _ _ (RunRefuses.by-16 {w} {v} {l} h k) = ap (λ (x : RunLeft). x.answer) (run_as w v l h) ∙ rw k

    pub run_ends : (w : Program) (v : Expression) (l : List Expression) (e : Ending) → RunEnds w v l e → (run_answer image input answers limit events).answer ≡ Ok (record { ending = ending_number e; length = event_bytes (outcome w v l).events })
    unfolding ran_to stop_answer
    run_ends w v l e h = ap (λ (x : RunLeft). x.answer) (run_as w v l h.runs) ∙ rw h.ends

    -- Every call is one of these.
    abbrev RunCase : Type 0
    RunCase = ((n : ℕ) × (p : ℕ) × RunRefuses n p) ⊎ ((w : Program) × (v : Expression) × (l : List Expression) × (e : Ending) × RunEnds w v l e)

    pub run-case : RunCase
    run-case = sizing (sized image) refl
      where
        stopping : (w : Program) (v : Expression) (l : List Expression) → Runs w v l → (s : Stop) → (outcome w v l).stop ≡ s → RunCase
        stopping w v l h (ended e) k = inr (w, v, l, e, record { runs = h; ends = k })
        stopping w v l h too_heavy k = inl (15, event_bytes (outcome w v l).events, RunRefuses.by-15 h k)
        stopping w v l h too_long k = inl (16, event_bytes (outcome w v l).events, RunRefuses.by-16 h k)

        answering : (w : Program) → decode image ≡ Answer.accepted w → (v : Expression) → input_of input ≡ some v → (b : Option (List Expression)) → answers_of answers ≡ b → RunCase
        answering w e v i none k = inl (14, 0, RunRefuses.by-14 e (inr k))
        answering w e v i (some l) k = stopping w v l (record { accepted = e; input-is = i; answers_are = k }) (outcome w v l).stop refl

        inputting : (w : Program) → decode image ≡ Answer.accepted w → (a : Option Expression) → input_of input ≡ a → RunCase
        inputting w e none k = inl (14, 0, RunRefuses.by-14 e (inl k))
        inputting w e (some v) k = answering w e v k (answers_of answers) refl

        decoding : sized image ≡ true → ImageCase image → RunCase
        decoding h (inl k) = inl (k.0, k.1, RunRefuses.by_4_to_11 h k.2)
        decoding h (inr k) = inputting k.0 k.1 (input_of input) refl

        sizing : (t : Bool) → sized image ≡ t → RunCase
        sizing true h = decoding h (image_case image h)
        sizing false h = inl (1, 0, RunRefuses.by_1 h)

    -- There is no other number.
    pub run-number : (n p : ℕ) → RunRefuses n p → (n ≡ 1) ⊎ ((4 ≤ n) × (n ≤ 11)) ⊎ ((14 ≤ n) × (n ≤ 16))
    run-number _ _ (RunRefuses.by_1 h) = inl refl
    run-number n p (RunRefuses.by_4_to_11 h k) = inr (inl (image_number image n p k))
    run-number _ _ (RunRefuses.by-14 e h) = inr (inr (omega arith, omega arith))
    run-number _ _ (RunRefuses.by-15 h k) = inr (inr (omega arith, omega arith))
    run-number _ _ (RunRefuses.by-16 h k) = inr (inr (omega arith, omega arith))

    some_number_lem : (n : ℕ) → (n ≡ 1) ⊎ ((4 ≤ n) × (n ≤ 11)) ⊎ ((14 ≤ n) × (n ≤ 16)) → 1 ≤ n
    some_number_lem n (inl h) = omega (arith, h)
    some_number_lem n (inr (inl h)) = omega (arith, h.0)
    some_number_lem n (inr (inr h)) = omega (arith, h.0)

    refused-number : (n p : ℕ) → RunRefuses n p → (number ≡ n) × (place ≡ p)
    unfolding run_values
    refused-number n p h = (ap (λ (x : RunAnswer). (run_values x).number) (run_refuses n p h), ap (λ (x : RunAnswer). (run_values x).place) (run_refuses n p h))

    ended-number : (w : Program) (v : Expression) (l : List Expression) (e : Ending) → RunEnds w v l e → number ≡ 0
    unfolding run_values
    ended-number w v l e h = ap (λ (x : RunAnswer). (run_values x).number) (run_ends w v l e h)

    pub run-told : (n p : ℕ) → 1 ≤ n → ((number ≡ n) × (place ≡ p) → RunRefuses n p) × (RunRefuses n p → (number ≡ n) × (place ≡ p))
    run-told n p low = (λ e. by e run-case, refused-number n p)
      where
        by : (number ≡ n) × (place ≡ p) → RunCase → RunRefuses n p
        by e (inl k) = let h = refused-number k.0 k.1 k.2 in subst (λ (z : ℕ). RunRefuses n z) (sym h.1 ∙ e.1) (subst (λ (z : ℕ). RunRefuses z k.1) (sym h.0 ∙ e.0) k.2)
        by e (inr k) = absurd (omega (arith, low, e.0, ended-number k.0 k.1 k.2 k.3 k.4))

    pub run_zero : ((number ≡ 0) → (w : Program) × (v : Expression) × (l : List Expression) × (e : Ending) × RunEnds w v l e) × ((w : Program) × (v : Expression) × (l : List Expression) × (e : Ending) × RunEnds w v l e → number ≡ 0)
    run_zero = (λ e. by e run-case, λ k. ended-number k.0 k.1 k.2 k.3 k.4)
      where
        by : number ≡ 0 → RunCase → (w : Program) × (v : Expression) × (l : List Expression) × (e : Ending) × RunEnds w v l e
        by e (inl k) = absurd (omega (arith, e, (refused-number k.0 k.1 k.2).0, some_number_lem k.0 (run-number k.0 k.1 k.2)))
        by e (inr k) = k

    -- ---- what is written

    module _ (w : Program) (v : Expression) (l : List Expression) (runs : Runs w v l) where
      -- The bytes of the events, and behind them those of the value.
      abbrev pub bytes : List ℕ
      bytes = put_events (outcome w v l).events (stop_bytes (outcome w v l).stop)

      pub run-wrote : (run_answer image input answers limit events).events ≡ written bytes events
      unfolding ran_to
      run-wrote = ap (λ (x : RunLeft). x.events) (run_as w v l runs)

      nothing-is-short : ltb (length events) 0 ≡ false
      nothing-is-short = le-ltb (length events) 0 (omega arith)

      bytes-length : length bytes ≡ event_bytes (outcome w v l).events + length (stop_bytes (outcome w v l).stop)
      bytes-length = events-length (outcome w v l).events (stop_bytes (outcome w v l).stop)

      value-length : (u : Expression) → length (put_expression u (15 ∷ [])) ≡ bytes_of u + 1
      unfolding bytes_of
      value-length u = ap length (expression-splits u (15 ∷ [])) ∙ length-append (put_expression u []) (15 ∷ [])

      events-short : event_bytes (outcome w v l).events ≤ length events
      unfolding lent
      events-short = ltb-false (length events) (event_bytes (outcome w v l).events) (told-fits (lent (length events)) w v l limit nothing-is-short)

      -- "16 is an event list longer than the lent slice", the value and its close among it: else all of it fits.
      pub bytes_fit : length bytes ≤ length events
      unfolding stop_bytes ending_bytes lent
      bytes_fit = by (outcome w v l).stop refl
        where
          only-events : (k : List ℕ) → stop_bytes (outcome w v l).stop ≡ k → length k ≡ 0 → length bytes ≤ length events
          only-events k e z = omega (arith, bytes-length, events-short, ap length e, z)

          early : (e : Ending) → (outcome w v l).stop ≡ ended e → ending_bytes e ≡ [] → length bytes ≤ length events
          early e h z = only-events [] (ap stop_bytes h ∙ z) refl

          ending : (e : Ending) → (outcome w v l).stop ≡ ended e → length bytes ≤ length events
          ending (value u) h =
              let f = ltb-false (length events) (event_bytes (outcome w v l).events + (bytes_of u + 1)) (value_told_fits (lent (length events)) w v l limit u nothing-is-short h) in
              omega (arith, bytes-length, ap length (ap stop_bytes h), value-length u, f)
          ending no_root h = early no_root h refl
          ending no_answer_left h = early no_answer_left h refl
          ending nothing_fitting h = early nothing_fitting h refl
          ending variable_unbound h = early variable_unbound h refl
          ending call_limit h = early call_limit h refl

          by : (s : Stop) → (outcome w v l).stop ≡ s → length bytes ≤ length events
          by (ended e) h = ending e h
          by too_heavy h = only-events [] (ap stop_bytes h) refl
          by too_long h = only-events [] (ap stop_bytes h) refl

-- ---- the list, part by part

take-first : (a b : List ℕ) → take (length a) (a ++ b) ≡ a
take-first [] b = refl
take-first (x ∷ a) b = ap (λ (l : List ℕ). x ∷ l) (take-first a b)

drop-first : (a b : List ℕ) → drop (length a) (a ++ b) ≡ b
drop-first [] b = refl
drop-first (x ∷ a) b = drop-first a b

-- What is written begins with the events.
behind-events : (l : List Event) (k lent : List ℕ) → written (put_events l k) lent ≡ put_events l [] ++ (k ++ drop (length (put_events l k)) lent)
unfolding written
behind-events l k lent = ap (λ (x : List ℕ). x ++ drop (length (put_events l k)) lent) (events-splits l k) ∙ append_assoc (put_events l []) k (drop (length (put_events l k)) lent)

pub events-first : (l : List Event) (k lent : List ℕ) → take (event_bytes l) (written (put_events l k) lent) ≡ put_events l []
unfolding event_bytes
events-first l k lent = ap (take (length (put_events l []))) (behind-events l k lent) ∙ take-first (put_events l []) (k ++ drop (length (put_events l k)) lent)

-- The value and its close stand behind them.
pub value-behind : (l : List Event) (u : Expression) (s : Stop) → s ≡ ended (value u) → (lent : List ℕ) → take (bytes_of u + 1) (drop (event_bytes l) (written (put_events l (stop_bytes s)) lent)) ≡ put_expression u (15 ∷ [])
unfolding event_bytes bytes_of stop_bytes ending_bytes
value-behind l u s h lent =
    let k = put_expression u (15 ∷ []) in
    let r = drop (length (put_events l k)) lent in
    let n = ap length (expression-splits u (15 ∷ [])) ∙ length-append (put_expression u []) (15 ∷ []) in
    ap (λ (z : Stop). take (length (put_expression u []) + 1) (drop (length (put_events l [])) (written (put_events l (stop_bytes z)) lent))) h
    ∙ (ap (λ (z : List ℕ). take (length (put_expression u []) + 1) (drop (length (put_events l [])) z)) (behind-events l k lent)
    ∙ (ap (take (length (put_expression u []) + 1)) (drop-first (put_events l []) (k ++ r)) ∙ (ap (λ (m : ℕ). take m (k ++ r)) (sym n) ∙ take-first k r)))

-- A cleaned program's run leaves what the raw one's does.
pub same_inputs : (w : Program) (a : Option Expression) (b : Option (List Expression)) (limit : ℕ) (events : List ℕ) → run_inputs (clean_residual_program w) a b limit events ≡ run_inputs w a b limit events
unfolding run_inputs
same_inputs w none b limit events = refl
same_inputs w (some v) none limit events = refl
same_inputs w (some v) (some l) limit events = ap (λ (o : WatchedOutcome). ran_to o events) (same_watched (lent (length events)) w v l limit)
