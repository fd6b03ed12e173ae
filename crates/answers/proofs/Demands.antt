-- What the entry points promise, one page: each promise is a theorem, proved by citing.
-- The code meets these definitions, with no `requires`: `cleaner::overlap` ensures `result ≡ overlap_answer image first second` for every image and numbers, and `cleaner::clean` ensures that its answer and the three lent slices at exit are those of `clean_answer image lent`, for every image and every lent length. `cleaner::overlap_expression` ensures that its answer and the lent slice at exit are those of `expression_answer image first second lent`. Under the C names `showclean_clean`, `showclean_overlap` and `showclean_overlap_expression` ensure that the number returned is `pack_clean`, `pack_overlap` and `pack_expression` of the same answers.
use Prim.Native.Nat.{ℕ, ◌+◌, ◌*◌, ◌/◌, ◌%◌, ◌<◌, ◌≤◌}
use native.Mathlib.Omega.{arith}
use mathlib.Core.Path.{◌≡◌, refl, sym, ap, subst, ◌∙◌}
use mathlib.Core.Logic.{◌↔◌, ◌⊎◌, inl, inr}
use mathlib.Core.Bool.{cond}
use mathlib.Core.List.{List, [], ◌∷◌}
use lib.Dec.{eqb}
use lib.ListN.{length, take, drop}
use Rattle.program.specs.Syntax.{Terms, Program}
use Rattle.program.specs.Bytes.{Bytes}
use Rattle.program.specs.Encode.{encode}
use Rattle.program.specs.Limits.{Valid}
use Rattle.program.specs.Decode.{Answer, decode}
use Rattle.program.specs.Sentences.{Sentence}
use Rattle.program.proofs.RoundTrip.{decodes, decode-encode, encode-decode}
use Rattle.program.proofs.Own.{numbered-valid}
use Rattle.patterns.specs.declared.Verdict.TheVariants.{Disjoint, Overlap, Unknown}
use Rattle.patterns.specs.Expression.{Expression}
use Rattle.patterns.specs.Marks.{put_expression}
use Rattle.patterns.specs.Fresh.{Fresh}
use Rattle.patterns.specs.Search.{patterns_overlap, start, spent}
use Rattle.patterns.specs.Dry.{Dry}
use Rattle.patterns.proofs.Plain.{Plain, valid-plain}
use Rattle.patterns.proofs.Marks.{Coded, one-expression}
use Rattle.patterns.specs.Meet.{meet}
use Rattle.patterns.proofs.Disjoint.{disjoint_sound}
use Rattle.patterns.proofs.Overlap.{overlap_sound}
use Rattle.patterns.proofs.Unknown.{unknown_dry}
use Rattle.meaning.specs.Cleaning.{rounds, clean_residual_program}
use Rattle.meaning.specs.CleanReport.{clean_report}
use Rattle.meaning.specs.Report.{format_clean_report}
use Rattle.meaning.specs.Run as the-run
use Rattle.meaning.proofs.Fewer.{cleaned_valid}
use Rattle.meaning.proofs.Compared.{Compares, compares_plain}
use Rattle.meaning.specs.Counted.{dropped_in_all, functions_with_any}
use Rattle.meaning.specs.Records.{put_events, bytes_of, event_bytes}
use Rattle.meaning.specs.Inputs.{input_of, answers_of}
use Rattle.meaning.specs.Watch.{Watch, ended, too_heavy, too_long, WatchedOutcome, lent, watched_run}
use Rattle.meaning.proofs.SameRun.{same-run, same_watched}
use Rattle.meaning.proofs.Unwatched.{unwatched, unwatched_run as without-watch}
use Rattle.meaning.proofs.Ahead.{Begins, ends_as_run, begins-run}
use Rattle.meaning.proofs.Bound.{all_rounds_few, all_dropped_add_up}
use Rattle.meaning.proofs.Twice.{clean_twice, twice_removed, twice_rounds}
use Rattle.answers.specs.CleanAnswers.{CleanAnswer}
use Rattle.answers.specs.Answers.{OverlapAnswer}
use Rattle.answers.specs.Answers.{compare_patterns, overlap_answer, comparison_values, verdict_number, overlap_values}
use Rattle.answers.specs.CleanAnswers.{Lent, Left, cleaned_to, zeroed, written, clean_answer, CleanValues, clean_values}
use Rattle.answers.specs.Packed.{clean_fields, overlap_fields, pack_clean, pack_overlap, CleanFits}
use Rattle.answers.specs.ExpressionAnswers.{ExpressionLeft, shared_expression, of_verdict, expression_answer, ExpressionValues, expression_values, expression_fields, pack_expression}
use Rattle.answers.specs.RunAnswers.{RunLeft, ending_number, stop_bytes, run_of, run_answer, RunValues, run_values}
use Rattle.answers.proofs.Fitting.{Unpacks, unpacks, overlap_fits}
use Rattle.answers.proofs.Exactly.{CleanRefuses, CleanAccepts, untouched, clean_refuses, clean_accepts, clean_case, clean_number, OverlapRefuses, OverlapAccepts, overlap_refuses, overlap_accepts, overlap_number}
use Rattle.answers.proofs.SharedExpression.{ExpressionRefuses, ExpressionAccepts, expression_refuses, expression_accepts, expression-number, expression-told, expression_zero, expression-fits, meeting_coded, overlap_shared}
use Rattle.answers.proofs.RunExactly.{Runs, RunRefuses, RunEnds, run_refused-before, run_ends, run-number, run-told, run_zero, run-wrote, bytes_fit, events-first, value-behind, same_inputs}
use Rattle.answers.proofs.Numbers.{clean_told, clean_refused-told, overlap_told, overlap_refused-told, written_back, written-past, written-length}

-- ---- Demand 1: "an accepted answer or one of refusals 1 to 13, each on its listed condition and on no other. A refusal writes nothing into the output or the report."

-- Document 01's numbers for what Clean answers: 0 or the refusal, its place, the two lengths.
abbrev pub clean_numbers : List ℕ → Lent → CleanValues
clean_numbers image l = clean_values (clean_answer image l).answer

module _ (image : List ℕ) (l : Lent) where
  -- Number n with place p comes exactly if n's condition holds and no earlier one does (`CleanRefuses` lists them).
  pub clean_refused_lem : (n p : ℕ) → 1 ≤ n → (((clean_numbers image l).number ≡ n) × ((clean_numbers image l).place ≡ p)) ↔ CleanRefuses image l n p
  clean_refused_lem n p h = (clean_refused-told image l n p h, λ k. (ap (λ (x : Left). (clean_values x.answer).number) (clean_refuses image l n p k) ∙ unfold clean_values in refl, ap (λ (x : Left). (clean_values x.answer).place) (clean_refuses image l n p k) ∙ unfold clean_values in refl))

  -- 0 comes exactly if no condition holds.
  pub clean_accepted : ((clean_numbers image l).number ≡ 0) ↔ ((w : Program) × CleanAccepts image l w)
  clean_accepted = (clean_told image l, λ k. ap (λ (x : Left). (clean_values x.answer).number) (clean_accepts image l k.0 k.1) ∙ unfold clean_values in refl)

  -- There is no other answer; Clean never gives 13.
  pub clean_numbers_lem : (clean_numbers image l).number ≤ 12
  unfolding clean_values
  clean_numbers_lem = by (clean_case image l)
    where
      by : ((n : ℕ) × (p : ℕ) × CleanRefuses image l n p) ⊎ ((w : Program) × CleanAccepts image l w) → (clean_numbers image l).number ≤ 12
      by (inl k) = let e = ap (λ (x : Left). (clean_values x.answer).number) (clean_refuses image l k.0 k.1 k.2) in let h = clean_number image l k.0 k.1 k.2 in omega (arith, e, h.1)
      by (inr k) = let e = ap (λ (x : Left). (clean_values x.answer).number) (clean_accepts image l k.0 k.1) in omega (arith, e)

  -- "A refusal [..] changes no lent memory, with one exception at 12": work becomes zero.
  pub refusal_writes_nothing : (n p : ℕ) → CleanRefuses image l n p → (clean_answer image l).lent ≡ record { output = l.output; work = cond (eqb n 12) (zeroed l.work) l.work; report = l.report }
  unfolding untouched
  refusal_writes_nothing n p h = ap (λ (x : Left). x.lent) (clean_refuses image l n p h)

module _ (image : List ℕ) (first second : ℕ) where
  -- The same of Overlap.
  pub overlap_refused_lem : (n p : ℕ) → 1 ≤ n → (((overlap_values (overlap_answer image first second)).number ≡ n) × ((overlap_values (overlap_answer image first second)).place ≡ p)) ↔ OverlapRefuses image first second n p
  overlap_refused_lem n p h = (
    overlap_refused-told image first second n p h,
    λ k.
        (ap (λ (x : OverlapAnswer). (overlap_values x).number) (overlap_refuses image first second n p k) ∙ unfold overlap_values in refl, ap (λ (x : OverlapAnswer). (overlap_values x).place) (overlap_refuses image first second n p k) ∙ unfold overlap_values in refl),
  )

  pub overlap_accepted : ((overlap_values (overlap_answer image first second)).number ≡ 0) ↔ ((x : Sentence) × (y : Sentence) × OverlapAccepts image first second x y)
  overlap_accepted = (overlap_told image first second, λ k. ap (λ (x : OverlapAnswer). (overlap_values x).number) (overlap_accepts image first second k.0 k.1 k.2) ∙ unfold overlap_values compare_patterns in refl)

  -- "Overlap never gives 2, 3 or 12."
  pub overlap_numbers : (n p : ℕ) → OverlapRefuses image first second n p → (n ≡ 1) ⊎ ((4 ≤ n) × (n ≤ 11)) ⊎ (n ≡ 13)
  overlap_numbers = overlap_number image first second

-- An image is accepted as a program exactly if it is the program's encoding and the program is within the limits.
pub accepted_images : (image : List ℕ) (w : Program) → Bytes image → (decode image ≡ Answer.accepted w) ↔ ((image ≡ encode w) × Valid w)
accepted_images = decodes

-- An answer in one number, as the C names give it: number, middle and rest are found again in it, since they fit their bits. `showclean_clean` ensures `CleanFits` of Clean's answer, and an answer of Overlap always fits.
pub clean_unpacks : (r : CleanAnswer) → CleanFits r → Unpacks (pack_clean r) (clean_fields r)
clean_unpacks r h = unpacks (clean_fields r) h

pub overlap_unpacks : (image : List ℕ) (first second : ℕ) → Unpacks (pack_overlap (overlap_answer image first second)) (overlap_fields (overlap_answer image first second))
overlap_unpacks image first second = unpacks (overlap_fields (overlap_answer image first second)) (overlap_fits image first second)

-- ---- Demand 2: "On every accepted image the cleaned show and each report line equal those of `clean_residual_program` and `format_clean_report`."

-- The definitions mirror the Rust: the kept sentences encoded again, and the text. "work is then zero, and bytes past the lengths are unchanged."
pub cleaned : (image : List ℕ) (l : Lent) (w : Program) → CleanAccepts image l w
    → clean_answer image l
    ≡ record { answer = cleaned_to (length (encode (clean_residual_program w))) (length (format_clean_report (clean_report w))); lent = record { output = written (encode (clean_residual_program w)) l.output; work = zeroed l.work; report = written (format_clean_report (clean_report w)) l.report } }
cleaned = clean_accepts

-- "bytes past the lengths are unchanged": n bytes are written into a slice that has as many.
pub past_the_lengths : (s lent : List ℕ) → length s ≤ length lent → (drop (length s) (written s lent) ≡ drop (length s) lent) × (length (written s lent) ≡ length lent)
past_the_lengths s lent h = (written-past s lent, written-length s lent h)

-- "It returns 0, the verdict, and the entries spent by the outermost pair."
pub answered : (image : List ℕ) (first second : ℕ) (x y : Sentence) → OverlapAccepts image first second x y
    → overlap_values (overlap_answer image first second) ≡ comparison_values (verdict_number (patterns_overlap x.pattern y.pattern)) (spent x.pattern y.pattern)
unfolding overlap_values compare_patterns
answered image first second x y h = ap overlap_values (overlap_accepts image first second x y h)

-- "With each variable occurrence read as a fresh variable, Disjoint comes only if no expression matches both patterns, Overlap only if one does, Unknown only where a 4,096-entry fuel ran out."
pub record Means (a b : Terms) : Type 0 where
  pub disjoint : patterns_overlap a b ≡ Disjoint → (v : Expression) → Fresh a v → Fresh b v → ⊥
  pub overlap : patterns_overlap a b ≡ Overlap → (v : Expression) × Fresh a v × Fresh b v
  pub unknown : (patterns_overlap a b ≡ Unknown) ↔ Dry start a b

means : (a b : Terms) → Plain a → Plain b → Means a b
means a b h k = record { disjoint = disjoint_sound a b; overlap = λ e. let m = overlap_sound a b h k e in (meet a b, m.0, m.1); unknown = unknown_dry a b h k }

module _ (image : List ℕ) (bytes : Bytes image) where
  -- Of two sentences that Overlap compares.
  pub overlap_means : (first second : ℕ) (x y : Sentence) → OverlapAccepts image first second x y → Means x.pattern y.pattern
  overlap_means first second x y c =
      let v = (encode-decode image c.program bytes c.accepted).1.0.1 in
      means x.pattern y.pattern (valid-plain x.pattern 0 (numbered-valid c.program.functions v first x c.first-is)) (valid-plain y.pattern 0 (numbered-valid c.program.functions v second y c.second_is))

  -- Of every pair that Clean compares: a sentence's pattern and a restriction of its function, in any round or for the final lists.
  pub clean_means : (w : Program) → decode image ≡ Answer.accepted w → (p t : Terms) → Compares w p t → Means p t
  clean_means w e p t c = let h = compares_plain w (encode-decode image w bytes e).1 p t c in means p t h.0 h.1

-- ---- Demand 3: raw and cleaned have the same run, "one claim about the whole event lists and endings of two runs with the same input, answer list and call limit: one of the accepted image's show and one of the show that Clean wrote from it".

-- An answer accepts one program.
accepted_once : {p q : Program} → Answer.accepted p ≡ Answer.accepted q → p ≡ q
accepted_once {p} e = ap program e
  where
    program : Answer → Program
    program (Answer.refused n k) = p
    program (Answer.accepted q) = q

-- The bytes that Clean wrote: those of the output slice, up to the length returned.
abbrev pub wrote : List ℕ → Lent → List ℕ
wrote image l = take (clean_numbers image l).output (clean_answer image l).lent.output

wrote_cleaned : (image : List ℕ) (l : Lent) (w : Program) → CleanAccepts image l w → wrote image l ≡ encode (clean_residual_program w)
unfolding clean_values written
wrote_cleaned image l w accepts = ap (λ (x : Left). take (clean_values x.answer).output x.lent.output) (clean_accepts image l w accepts) ∙ written_back (encode (clean_residual_program w)) l.output

module _ (image : List ℕ) (bytes : Bytes image) (l : Lent) (w : Program) (accepts : CleanAccepts image l w) where
  -- They are an accepted image, of the cleaned program.
  pub wrote_accepted : decode (wrote image l) ≡ Answer.accepted (clean_residual_program w)
  wrote_accepted = ap decode (wrote_cleaned image l w accepts) ∙ decode-encode (clean_residual_program w) (cleaned_valid w (encode-decode image w bytes accepts.accepted).1)

  -- Whatever program they are accepted as, its run is the raw program's: events, ending and value.
  pub same_runs : (q : Program) → decode (wrote image l) ≡ Answer.accepted q → (input : Expression) (answers : List Expression) (limit : ℕ) → the-run.run q input answers limit ≡ the-run.run w input answers limit
  same_runs q e input answers limit = ap (λ (p : Program). the-run.run p input answers limit) (accepted_once (sym e ∙ wrote_accepted)) ∙ same-run w input answers limit

  -- Document 02, request 1: "so a cleaned and an uncleaned show leave the same list". Watched in the same way, both tell the same events and stop alike: with one of the six endings, with 15 or with 16.
  pub same_lists : (q : Program) → decode (wrote image l) ≡ Answer.accepted q → (watch : Watch) (input : Expression) (answers : List Expression) (limit : ℕ) → watched_run watch q input answers limit ≡ watched_run watch w input answers limit
  same_lists q e watch input answers limit = ap (λ (p : Program). watched_run watch p input answers limit) (accepted_once (sym e ∙ wrote_accepted)) ∙ same_watched watch w input answers limit

-- A watched run that nothing stops is the run.
pub unwatched_run : (w : Program) (input : Expression) (answers : List Expression) (limit : ℕ)
    → watched_run unwatched w input answers limit ≡ record { events = (the-run.run w input answers limit).events; stop = ended (the-run.run w input answers limit).ending }
unwatched_run = without-watch

-- ---- Document 02: "Show that cleaning a cleaned show gives the same bytes back, with no sentence removed and rounds at most 1."

module _ (image : List ℕ) (bytes : Bytes image) (l : Lent) (w : Program) (accepts : CleanAccepts image l w) where
  -- What Clean wrote, lent to Clean again, whatever else is lent then.
  pub cleaned_again : (k : Lent) (q : Program) → CleanAccepts (wrote image l) k q → wrote (wrote image l) k ≡ wrote image l
  cleaned_again k q again =
      let same : q ≡ clean_residual_program w = accepted_once (sym again.accepted ∙ wrote_accepted image bytes l w accepts) in
      wrote_cleaned (wrote image l) k q again ∙ (ap (λ (p : Program). encode (clean_residual_program p)) same ∙ (ap encode (clean_twice w) ∙ sym (wrote_cleaned image l w accepts)))

  pub no_sentence_removed : (clean_report (clean_residual_program w)).removed ≡ []
  no_sentence_removed = twice_removed w

  pub one_round_at_most : (clean_report (clean_residual_program w)).rounds ≤ 1
  unfolding clean_report
  one_round_at_most = twice_rounds w

-- "rounds never exceed 1 plus the sentences before less the functions that have any"
pub rounds_bounded : (w : Program) → (clean_report w).rounds + functions_with_any w.functions ≤ 1 + (clean_report w).sentences_before
unfolding clean_report
rounds_bounded w = let h = all_rounds_few w in omega (arith, h)

-- "sentences before equal those after plus those dropped round by round"
pub sentences_add_up : (w : Program) → (clean_report w).sentences_before ≡ (clean_report w).sentences_after + dropped_in_all (rounds w)
unfolding clean_report
sentences_add_up w = all_dropped_add_up w

-- ---- Document 02: "A new entry point takes what Overlap takes, returns its answer and the length written, and writes, for an Overlap verdict, one expression that matches both patterns with every variable occurrence read as fresh."

module _ (image : List ℕ) (first second : ℕ) (lent : List ℕ) where
  abbrev pub expression_numbers : ExpressionValues
  expression_numbers = expression_values (expression_answer image first second lent).answer

  -- Number n with place p comes exactly if n's condition holds and no earlier one does: Overlap's, and then "Refusal 17, after 13, is a lent slice shorter than the expression."
  pub expression-refused : (n p : ℕ) → 1 ≤ n → ((expression_numbers.number ≡ n) × (expression_numbers.place ≡ p)) ↔ ExpressionRefuses image first second lent n p
  expression-refused n p h = let k = expression-told image first second lent n p h in (k.0, k.1)

  pub expression-accepted : (expression_numbers.number ≡ 0) ↔ ((x : Sentence) × (y : Sentence) × ExpressionAccepts image first second lent x y)
  expression-accepted = let k = expression_zero image first second lent in (k.0, k.1)

  pub expression_numbers_lem : (n p : ℕ) → ExpressionRefuses image first second lent n p → (n ≡ 1) ⊎ ((4 ≤ n) × (n ≤ 11)) ⊎ ((n ≡ 13) ⊎ (n ≡ 17))
  expression_numbers_lem = expression-number image first second lent

  -- A refusal writes nothing.
  pub expression_refusal_writes_nothing : (n p : ℕ) → ExpressionRefuses image first second lent n p → (expression_answer image first second lent).lent ≡ lent
  expression_refusal_writes_nothing n p h = ap (λ (x : ExpressionLeft). x.lent) (expression_refuses image first second lent n p h)

  module _ (x y : Sentence) (accepts : ExpressionAccepts image first second lent x y) where
    -- "returns its answer and the length written"
    pub expression_answered : expression_numbers ≡ record { number = 0; place = 0; verdict = verdict_number (patterns_overlap x.pattern y.pattern); spent = spent x.pattern y.pattern; length = length (shared_expression x.pattern y.pattern) }
    unfolding expression_values
    expression_answered = ap (λ (z : ExpressionLeft). expression_values z.answer) (expression_accepts image first second lent x y accepts)

    -- The bytes up to that length, and those past it, which are unchanged.
    abbrev pub wrote_expression : List ℕ
    wrote_expression = take expression_numbers.length (expression_answer image first second lent).lent

    wrote_shared : wrote_expression ≡ shared_expression x.pattern y.pattern
    unfolding expression_values written
    wrote_shared = ap (λ (z : ExpressionLeft). take (expression_values z.answer).length z.lent) (expression_accepts image first second lent x y accepts) ∙ written_back (shared_expression x.pattern y.pattern) lent

    pub expression-past : drop expression_numbers.length (expression_answer image first second lent).lent ≡ drop expression_numbers.length lent
    unfolding expression_values
    expression-past =
        let e = expression_accepts image first second lent x y accepts in
        ap (λ (z : ExpressionLeft). drop (expression_values z.answer).length z.lent) e ∙ (written-past (shared_expression x.pattern y.pattern) lent ∙ sym (ap (λ (z : ExpressionLeft). drop (expression_values z.answer).length lent) e))

    -- "Disjoint and Unknown write nothing."
    pub nothing_written : (patterns_overlap x.pattern y.pattern ≡ Disjoint) ⊎ (patterns_overlap x.pattern y.pattern ≡ Unknown) → wrote_expression ≡ []
    unfolding shared_expression of_verdict
    nothing_written (inl e) = wrote_shared ∙ rw e
    nothing_written (inr e) = wrote_shared ∙ rw e

    -- For Overlap the bytes are those of the meeting; read back as any expression, that is the meeting, and both patterns match it.
    module _ (bytes : Bytes image) (overlaps : patterns_overlap x.pattern y.pattern ≡ Overlap) where
      pub expression-wrote : (wrote_expression ≡ put_expression (meet x.pattern y.pattern) []) × Coded (meet x.pattern y.pattern)
      expression-wrote = (wrote_shared ∙ overlap_shared x.pattern y.pattern overlaps, meeting_coded image bytes first second x y accepts.compares)

      pub expression-means : (v : Expression) → Coded v → wrote_expression ≡ put_expression v [] → (v ≡ meet x.pattern y.pattern) × Fresh x.pattern v × Fresh y.pattern v
      expression-means v h e =
          let w = accepts.compares.program in
          let valid = (encode-decode image w bytes accepts.compares.accepted).1.0.1 in
          let m = overlap_sound x.pattern y.pattern (valid-plain x.pattern 0 (numbered-valid w.functions valid first x accepts.compares.first-is)) (valid-plain y.pattern 0 (numbered-valid w.functions valid second y accepts.compares.second_is)) overlaps in
          let same : v ≡ meet x.pattern y.pattern = one-expression v (meet x.pattern y.pattern) h expression-wrote.1 (sym e ∙ expression-wrote.0) in
          (same, subst (λ (z : Expression). Fresh x.pattern z) (sym same) m.0, subst (λ (z : Expression). Fresh y.pattern z) (sym same) m.1)

-- In one number: "bits 8 and 9 the verdict, 10 to 23 the entries spent", the rest as of the others.
pub expression_unpacks : (image : List ℕ) → Bytes image → (first second : ℕ) (lent : List ℕ) → Unpacks (pack_expression (expression_answer image first second lent).answer) (expression_fields (expression_answer image first second lent).answer)
expression_unpacks image bytes first second lent = unpacks (expression_fields (expression_answer image first second lent).answer) (expression-fits image bytes first second lent)

-- Where the middle holds the verdict v and the entries spent s, they are found again in it.
pub expression-middle : (v s : ℕ) → v < 4 → ((v + 4 * s) % 4 ≡ v) × ((v + 4 * s) / 4 ≡ s)
expression-middle v s h = (omega (arith, h), omega (arith, h))

-- ---- Document 02, request 1: "It writes the event list of document 01's run and returns its length and the ending"; "Demand 1 lists every refusal added from here on."

module _ (image input answers : List ℕ) (limit : ℕ) (events : List ℕ) where
  abbrev pub run_numbers : RunValues
  run_numbers = run_values (run_answer image input answers limit events).answer

  -- Number n with place p comes exactly if n's condition holds and no earlier one does (`RunRefuses` lists them); 0 comes exactly if the run ends in one of the six ways.
  pub run-refused : (n p : ℕ) → 1 ≤ n → ((run_numbers.number ≡ n) × (run_numbers.place ≡ p)) ↔ RunRefuses image input answers limit events n p
  run-refused n p h = let k = run-told image input answers limit events n p h in (k.0, k.1)

  pub run-ended : (run_numbers.number ≡ 0) ↔ ((w : Program) × (v : Expression) × (l : List Expression) × (e : the-run.Ending) × RunEnds image input answers limit events w v l e)
  run-ended = let k = run_zero image input answers limit events in (k.0, k.1)

  pub run_numbers_lem : (n p : ℕ) → RunRefuses image input answers limit events n p → (n ≡ 1) ⊎ ((4 ≤ n) × (n ≤ 11)) ⊎ ((14 ≤ n) × (n ≤ 16))
  run_numbers_lem = run-number image input answers limit events

  -- A refusal before the run writes nothing.
  pub run_refusal_writes_nothing : (n p : ℕ) → RunRefuses image input answers limit events n p → n ≤ 14 → (run_answer image input answers limit events).events ≡ events
  run_refusal_writes_nothing n p h s = ap (λ (x : RunLeft). x.events) (run_refused-before image input answers limit events n p h s)

  module _ (w : Program) (v : Expression) (l : List Expression) (runs : Runs image input answers w v l) where
    -- The run that is watched by the lent list, and how many bytes its events have.
    abbrev pub watched : WatchedOutcome
    watched = watched_run (lent (length events)) w v l limit

    abbrev pub told : ℕ
    told = event_bytes watched.events

    pub run_answered : (e : the-run.Ending) → watched.stop ≡ ended e → run_numbers ≡ record { number = 0; place = 0; ending = ending_number e; length = told }
    unfolding run_values
    run_answered e h = ap run_values (run_ends image input answers limit events w v l e (record { runs = runs; ends = h }))

    -- The events are document 01's run's, and so is the ending; where 15 or 16 is met, those before it begin the run's.
    pub run_is_the_run : (e : the-run.Ending) → watched.stop ≡ ended e → the-run.run w v l limit ≡ record { events = watched.events; ending = e }
    run_is_the_run e h = ends_as_run (lent (length events)) w v l limit e h

    pub run_begins_the_run : (watched.stop ≡ too_heavy) ⊎ (watched.stop ≡ too_long) → Begins watched.events (the-run.run w v l limit).events
    run_begins_the_run h = begins-run (lent (length events)) w v l limit h

    -- The list at exit: the events, "those before it" at 15 and 16 too; then the root's value and its close; the rest as it was.
    abbrev pub left : List ℕ
    left = (run_answer image input answers limit events).events

    wrote_all : left ≡ written (put_events watched.events (stop_bytes watched.stop)) events
    wrote_all = run-wrote image input answers limit events w v l runs

    pub run_wrote_events : take told left ≡ put_events watched.events []
    run_wrote_events = ap (take told) wrote_all ∙ events-first watched.events (stop_bytes watched.stop) events

    pub run_wrote_value : (u : Expression) → watched.stop ≡ ended (the-run.value u) → take (bytes_of u + 1) (drop told left) ≡ put_expression u (15 ∷ [])
    run_wrote_value u h = ap (λ (x : List ℕ). take (bytes_of u + 1) (drop told x)) wrote_all ∙ value-behind watched.events u watched.stop h events

    pub run_wrote_no_more : (length left ≡ length events) × (drop (length (put_events watched.events (stop_bytes watched.stop))) left ≡ drop (length (put_events watched.events (stop_bytes watched.stop))) events)
    run_wrote_no_more =
        let s = put_events watched.events (stop_bytes watched.stop) in
        (ap length wrote_all ∙ written-length s events (bytes_fit image input answers limit events w v l runs), ap (drop (length s)) wrote_all ∙ written-past s events)

-- "so a cleaned and an uncleaned show leave the same list": what Clean wrote, run in place of the image, gives the same answer and leaves the same list, refusals included.
pub same-answers : (image : List ℕ) → Bytes image → (lends : Lent) (w : Program) → CleanAccepts image lends w → (input answers : List ℕ) (limit : ℕ) (events : List ℕ)
    → run_answer (wrote image lends) input answers limit events ≡ run_answer image input answers limit events
unfolding run_answer run_of
same-answers image bytes lends w accepts input answers limit events = rw (wrote_accepted image bytes lends w accepts, accepts.accepted) (same_inputs w (input_of input) (answers_of answers) limit events)
