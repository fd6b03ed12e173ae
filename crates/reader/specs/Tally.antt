-- What reading a whole body comes to: a refusal with its place, or the counts that the trailer has to agree with.
use Rattle.std.specs.Prelude.{ℕ, zero, suc, ◌+◌, ◌-◌, ◌≤◌, ◌<◌, ◌≡◌, List, length, get_or, drop, eqb, Option, Some, None, Result, Ok, Err}
use Rattle.program.specs.Syntax.{Program}
use Rattle.program.specs.Encode.{put_functions, sentence_count, own_sentence_count}
use Rattle.program.specs.Limits.{pick}
use Rattle.program.specs.Automaton.{Stack, Values, Read, run}
use Rattle.program.specs.declared.Refusal.{Refusal}
use Rattle.reader.specs.Steps.{refusal, frame_on, pushed, bottom, functions_after, DoesAt, Does}
use Rattle.reader.specs.declared.turns.Frame.{Frame}
use Rattle.reader.specs.declared.turns.Frames.{Frames}
use Rattle.reader.specs.declared.turns.Push.{Push}
use Rattle.reader.specs.declared.check.Counts.{Counts}
use Rattle.reader.specs.declared.flat.Spot.{Spot}
use Rattle.program.specs.Decode.{Answer}

abbrev pub counts : ℕ → ℕ → ℕ → Counts
counts f s d = record { functions = f; sentences = s; first = d }

-- `first` is how far the first function's mark lies before the body's end, 0 if there is none
unfoldable pub tally_of : ℕ → Read Program → Result Counts Refusal
tally_of l (Read.refused n k) = Err (refusal n (l - k))
tally_of l (Read.value w) = Ok (counts (length w.functions) (own_sentence_count w.functions) (length (put_functions w.functions)))

-- The stack that n frames are, with k functions passed.
abbrev pub stack_of : ℕ → List Frame → ℕ → Stack
stack_of k s zero = bottom k
stack_of k s (suc n) = frame_on (get_or s n (Frame.Result 0)) (stack_of k s n)

-- The frame on top of n, if there is one.
abbrev pub top_of : List Frame → ℕ → Option Frame
top_of s zero = None
top_of s (suc n) = Some (get_or s n (Frame.Result 0))

-- The first r frames of t are the first n of s with the frames f on them.
pub record Stored (s : List Frame) (n : ℕ) (f : Frames) (t : List Frame) (r : ℕ) : Type 0 where
  pub keeps : length t ≡ length s
  pub low : r ≤ n + 3
  pub is : (k : ℕ) → stack_of k t r ≡ pushed f (stack_of k s n)

-- A turn at the frame on top, or below all frames, with k functions passed.
abbrev pub TurnDoes : List ℕ → ℕ → ℕ → Option Frame → Result Push Refusal → Type 0
TurnDoes b p k None r = DoesAt b p (bottom k) (bottom (functions_after (get_or b p 0) k)) r
TurnDoes b p k (Some e) r = Does b p e r

-- What the byte m adds to the counts, at the frame on top or below all frames.
abbrev pub function_one : Option Frame → ℕ → ℕ
function_one None m = pick (eqb m 18) 1 0
function_one (Some e) m = 0

abbrev pub own_sentence : Frame → ℕ → ℕ
own_sentence (Frame.Sentences zero) m = pick (eqb m 10) 1 0
own_sentence _ m = 0

abbrev pub sentence_one : Option Frame → ℕ → ℕ
sentence_one None m = 0
sentence_one (Some e) m = own_sentence e m

-- `left` bytes are left from m on, and k functions are passed
abbrev pub first_next : Option Frame → ℕ → ℕ → ℕ → ℕ → ℕ
first_next None m zero left f = pick (eqb m 18) left f
first_next None m (suc k) left f = f
first_next (Some e) m k left f = f

-- An image's answer without its program.
unfoldable pub checked_of : Answer → Result (Unit {0}) Refusal
checked_of (Answer.refused n p) = Err (refusal n p)
checked_of (Answer.accepted w) = Ok tt

-- The counts after a turn at the byte m.
abbrev pub advanced : Counts → Option Frame → ℕ → ℕ → Counts
advanced c e m left = counts (c.functions + function_one e m) (c.sentences + sentence_one e m) (first_next e m c.functions left c.first)

-- The answer where no byte of l is left, with n frames on the stack.
abbrev pub tally_end : ℕ → Counts → ℕ → Result Counts Refusal
tally_end zero c l = Ok c
tally_end (suc n) c l = Err (refusal 5 l)

-- What is left of the counts in the values to come.
abbrev pub functions_in : (x : Stack) → Values x → ℕ
functions_in Stack.any v = 0
functions_in Stack.body v = length v.functions
functions_in Stack.functions v = length v
functions_in (Stack.terms m d x) v = functions_in x v.1
functions_in (Stack.conditions d x) v = functions_in x v.1.1
functions_in (Stack.name g x) v = functions_in x v.1
functions_in (Stack.names n x) v = functions_in x v.1
functions_in (Stack.code x) v = functions_in x v.1
functions_in (Stack.visibility x) v = functions_in x v.1
functions_in (Stack.counted x) v = functions_in x v.1
functions_in (Stack.sentences d x) v = functions_in x v.1

abbrev pub sentences_in : (x : Stack) → Values x → ℕ
sentences_in Stack.any v = 0
sentences_in Stack.body v = own_sentence_count v.functions
sentences_in Stack.functions v = own_sentence_count v
sentences_in (Stack.terms m d x) v = sentences_in x v.1
sentences_in (Stack.conditions d x) v = sentences_in x v.1.1
sentences_in (Stack.name g x) v = sentences_in x v.1
sentences_in (Stack.names n x) v = sentences_in x v.1
sentences_in (Stack.code x) v = sentences_in x v.1
sentences_in (Stack.visibility x) v = sentences_in x v.1
sentences_in (Stack.counted x) v = sentences_in x v.1
sentences_in (Stack.sentences zero x) v = sentence_count v.0 + sentences_in x v.1
sentences_in (Stack.sentences (suc d) x) v = sentences_in x v.1

-- The first function, f where it is passed.
abbrev pub first_in : (x : Stack) → ℕ → Values x → ℕ
first_in Stack.any f v = f
first_in Stack.body f v = length (put_functions v.functions)
first_in Stack.functions f v = f
first_in (Stack.terms m d x) f v = first_in x f v.1
first_in (Stack.conditions d x) f v = first_in x f v.1.1
first_in (Stack.name g x) f v = first_in x f v.1
first_in (Stack.names n x) f v = first_in x f v.1
first_in (Stack.code x) f v = first_in x f v.1
first_in (Stack.visibility x) f v = first_in x f v.1
first_in (Stack.counted x) f v = first_in x f v.1
first_in (Stack.sentences d x) f v = first_in x f v.1

-- The tally, with nf functions and ns sentences passed.
abbrev pub tally_in : (x : Stack) → ℕ → ℕ → ℕ → ℕ → Read (Values x) → Result Counts Refusal
tally_in x l nf ns f (Read.refused n k) = Err (refusal n (l - k))
tally_in x l nf ns f (Read.value v) = Ok (counts (nf + functions_in x v) (ns + sentences_in x v) (first_in x f v))

-- Reading y from p on comes to the same tally as reading x from r on.
pub record Alike (b : List ℕ) (p : ℕ) (y : Stack) (r : ℕ) (x : Stack) : Type 0 where
  pub is : (nf ns f : ℕ) → tally_in y (length b) nf ns f (run y 0 (drop p b)) ≡ tally_in x (length b) nf ns f (run x 0 (drop r b))

-- What y has above x stands from p to r, before another byte; nothing is said where no r is known.
abbrev pub Ends : List ℕ → ℕ → Stack → Option ℕ → Stack → Type 0
Ends b p y None x = Unit {0}
Ends b p y (Some r) x = (p < r) × (r < length b) × Alike b p y r x

-- From p with n of the frames s, reading has come to a spot.
pub record Stops (b : List ℕ) (s : List Frame) (n p : ℕ) (r : Spot) : Type 0 where
  pub few : r.n ≤ n
  pub ahead : p ≤ r.at
  pub within : r.at < length b
  pub is : (k : ℕ) → Alike b p (stack_of k s n) r.at (stack_of k s r.n)
