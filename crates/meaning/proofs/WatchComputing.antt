-- One name for all that computes in an example of a watched run.
use Rattle.program.specs.Bytes.{put32, put_span, put_name}
use Rattle.program.specs.Encode.{put_symbol, kind_mark, put_head, put_terms}
use Rattle.patterns.specs.Marks.{zero_span, put_expression}
use Rattle.meaning.specs.Records.{put_event, put_events, bytes_of, event_bytes}
use Rattle.meaning.specs.Watch.{lent, and_then, note, weighing, heavier, bound_anew, bound, or_next, first_of, if_fits, answer_from, adds, adds_value, hands_on, tells, evaluate, entry_with, entry, body, enter_to, enter, enter_root, stop_of, events_of, watched_outcome, watched_run}
use Rattle.meaning.proofs.RunComputing as the-run

unfoldable pub computing : Unit {0}
unfolding the-run.computing put32 put_span put_name put_symbol kind_mark put_head put_terms zero_span put_expression put_event put_events bytes_of event_bytes lent and_then note weighing heavier bound_anew bound or_next first_of if_fits answer_from adds adds_value hands_on tells evaluate entry_with entry body enter_to enter enter_root stop_of events_of watched_outcome watched_run
computing = tt
