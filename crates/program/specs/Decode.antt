-- What an image is: a program, or the refusal with its number and place.
-- "Order: 1, 2, 3, 4; then 5 to 10 at the earliest place, lower number first at one place; then 11": refusals 2 and 3 come from other arguments, so 1 stands apart.
use Rattle.std.specs.Prelude.{ℕ, ◌+◌, ◌-◌, Bool, false, List, length, take, leb, eqb}
use Rattle.program.specs.Syntax.{Program}
use Rattle.program.specs.Bytes.{get16, get32}
use Rattle.program.specs.Encode.{put_functions, own_sentence_count}
use Rattle.program.specs.Limits.{pick}
use Rattle.program.specs.Automaton.{Stack, Read, run}

pub data Answer : Type 0 where
  refused : ℕ → ℕ → Answer
  accepted : Program → Answer

-- "The trailer is the last 12 bytes"
abbrev pub body_length : List ℕ → ℕ
body_length s = length s - 12

-- Its four fields.
abbrev pub to_body : List ℕ → ℕ
to_body s = get32 s (body_length s)

abbrev pub to_functions : List ℕ → ℕ
to_functions s = get32 s (body_length s + 4)

abbrev pub function_field : List ℕ → ℕ
function_field s = get16 s (body_length s + 8)

abbrev pub sentence_field : List ℕ → ℕ
sentence_field s = get16 s (body_length s + 10)

-- "1: image below 12 or above 32,768 bytes."
unfoldable pub sized : List ℕ → Bool
sized s = pick (leb 12 (length s)) (leb (length s) 32768) false

-- "4: trailer's first field is not the image length less 12, or its second exceeds its first."
unfoldable pub pointed : List ℕ → Bool
pointed s = pick (eqb (to_body s) (body_length s)) (leb (to_functions s) (to_body s)) false

-- "11: trailer's second field or counts do not agree with the body."
unfoldable pub agrees : List ℕ → Program → Bool
agrees s w =
    pick (eqb (to_functions s) (length (put_functions w.functions)))
    (pick (eqb (function_field s) (length w.functions)) (eqb (sentence_field s) (own_sentence_count w.functions)) false)
    false

-- "The place is 0 unless stated."
unfoldable pub settled : List ℕ → Read Program → Answer
settled s (Read.refused n l) = Answer.refused n (body_length s - l)
settled s (Read.value w) = pick (agrees s w) (Answer.accepted w) (Answer.refused 11 0)

-- Refusals 4 to 11.
unfoldable pub decode_sized : List ℕ → Answer
decode_sized s = pick (pointed s) (settled s (run Stack.body 0 (take (body_length s) s))) (Answer.refused 4 0)

unfoldable pub decode : List ℕ → Answer
decode s = pick (sized s) (decode_sized s) (Answer.refused 1 0)
