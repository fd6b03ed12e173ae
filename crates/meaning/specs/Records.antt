-- Events and values in bytes: document 02, request 1, "An event is an image record with zero spans". Each writer takes the bytes that follow.
use Rattle.std.specs.Prelude.{ℕ, List, [], ◌∷◌, length}
use Rattle.program.specs.Bytes.{put_span, put_name}
use Rattle.program.specs.Encode.{put_head, put_terms, put_conditions}
use Rattle.patterns.specs.Expression.{Expression}
use Rattle.patterns.specs.Marks.{zero_span, put_expression}
use Rattle.meaning.specs.Spanless.{no_head}
use Rattle.meaning.specs.Run.{Event, entered, chosen}

-- "a call record with its argument's value, or the sentence's record with mark 10": what a sentence's event names has no spans already.
unfoldable pub put_event : Event → List ℕ → List ℕ
put_event (entered f v) k = 8 ∷ put_span zero_span (put_name f (put_expression v (15 ∷ k)))
put_event (chosen p c r) k = put_head no_head (put_terms p (put_conditions c (12 ∷ put_terms r k)))

unfoldable pub put_events : List Event → List ℕ → List ℕ
put_events [] k = k
put_events (e ∷ l) k = put_event e (put_events l k)

-- "in marks with zero spans": how many bytes an expression takes, without a close.
unfoldable pub bytes_of : Expression → ℕ
bytes_of v = length (put_expression v [])

-- "It writes the event list [..] and returns its length"
unfoldable pub event_bytes : List Event → ℕ
event_bytes l = length (put_events l [])
