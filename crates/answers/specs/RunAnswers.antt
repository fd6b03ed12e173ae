-- Document 02, request 1: "A new engine takes an accepted image, an input expression written in image marks, a list of answers for functions the show lacks, and a call limit. It writes the event list of document 01's run and returns its length and the ending".
use Rattle.std.specs.Prelude.{ℕ, List, [], ◌∷◌, length, Result, Ok, Err}
use Rattle.std.proofs.Math.Option.{Option, none, some}
use Rattle.program.specs.Syntax.{Program}
use Rattle.program.specs.Decode.{Answer, decode}
use Rattle.patterns.specs.Expression.{Expression}
use Rattle.patterns.specs.Marks.{put_expression}
use Rattle.meaning.specs.Run.{Ending, value, no_root, no_answer_left, nothing_fitting, variable_unbound, call_limit}
use Rattle.meaning.specs.Records.{put_events, event_bytes}
use Rattle.meaning.specs.Inputs.{input_of, answers_of}
use Rattle.meaning.specs.Watch.{Stop, ended, too_heavy, too_long, WatchedOutcome, lent, watched_run}
use Rattle.program.specs.declared.Refusal.{Refusal}
use Rattle.answers.specs.declared.Ran.{Ran}
use Rattle.answers.specs.CleanAnswers.{written}
use Rattle.answers.specs.Packed.{Fields, fields, pack_fields}

-- What the engine answers: the ending and the length of the events, or a refusal.
abbrev pub RunAnswer : Type 0
RunAnswer = Result Ran Refusal

-- The answer, and what is in the lent list then.
pub record RunLeft : Type 0 where
  pub answer : RunAnswer
  pub events : List ℕ

abbrev pub run_refused : ℕ → ℕ → RunAnswer
run_refused n p = Err (record { number = n; place = p })

-- A refusal before the run "changes no lent memory" (document 01).
unfoldable pub refusing_run : ℕ → ℕ → List ℕ → RunLeft
refusing_run n p events = record { answer = run_refused n p; events = events }

-- "the ending, 0 to 5 in document 01's order"
unfoldable pub ending_number : Ending → ℕ
ending_number (value v) = 0
ending_number no_root = 1
ending_number no_answer_left = 2
ending_number nothing_fitting = 3
ending_number variable_unbound = 4
ending_number call_limit = 5

-- "returns its length and the ending"; "the earlier of 15 and 16 in the run is returned, its place the length of the events before it".
unfoldable pub stop_answer : Stop → ℕ → RunAnswer
stop_answer (ended e) n = Ok (record { ending = ending_number e; length = n })
stop_answer too_heavy n = run_refused 15 n
stop_answer too_long n = run_refused 16 n

unfoldable pub ending_bytes : Ending → List ℕ
ending_bytes (value v) = put_expression v (15 ∷ [])
ending_bytes no_root = []
ending_bytes no_answer_left = []
ending_bytes nothing_fitting = []
ending_bytes variable_unbound = []
ending_bytes call_limit = []

-- What stands behind the events: "Each answer ends with a close, and so does the root's value, which follows outside that length".
unfoldable pub stop_bytes : Stop → List ℕ
stop_bytes (ended e) = ending_bytes e
stop_bytes too_heavy = []
stop_bytes too_long = []

-- The events are written, those before 15 or 16 too, and the value; bytes past them are unchanged.
unfoldable pub ran_to : WatchedOutcome → List ℕ → RunLeft
ran_to o events = record { answer = stop_answer o.stop (event_bytes o.events); events = written (put_events o.events (stop_bytes o.stop)) events }

-- "Refusal 14 is an input or answer that is no sequence [..], checked after the image and before the run"; its place is 0.
unfoldable pub run_inputs : Program → Option Expression → Option (List Expression) → ℕ → List ℕ → RunLeft
run_inputs w none answers limit events = refusing_run 14 0 events
run_inputs w (some v) none limit events = refusing_run 14 0 events
run_inputs w (some v) (some l) limit events = ran_to (watched_run (lent (length events)) w v l limit) events

unfoldable pub run_of : Answer → List ℕ → List ℕ → ℕ → List ℕ → RunLeft
run_of (Answer.refused n p) input answers limit events = refusing_run n p events
run_of (Answer.accepted w) input answers limit events = run_inputs w (input_of input) (answers_of answers) limit events

-- The entry point on any bytes, limit and lent list: refusals 1, 4 to 11, 14 in this order, then the run.
unfoldable pub run_answer : List ℕ → List ℕ → List ℕ → ℕ → List ℕ → RunLeft
run_answer image input answers limit events = run_of (decode image) input answers limit events

-- The numbers: 0 or the refusal, its place, the ending, the length of the events.
pub record RunValues : Type 0 where
  pub number : ℕ
  pub place : ℕ
  pub ending : ℕ
  pub length : ℕ

unfoldable pub run_values : RunAnswer → RunValues
run_values (Ok r) = record { number = 0; place = 0; ending = r.ending; length = r.length }
run_values (Err f) = record { number = f.number; place = f.place; ending = 0; length = 0 }

-- In one number of 64 bits, as the C name gives it: bits 8 to 23 the ending, 24 to 63 the length of the events or the place.
unfoldable pub run_fields : RunAnswer → Fields
run_fields (Ok r) = fields 0 r.ending r.length
run_fields (Err f) = fields f.number 0 f.place

abbrev pub pack_run : RunAnswer → ℕ
pack_run r = pack_fields (run_fields r)
