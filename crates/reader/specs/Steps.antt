-- The automaton's turns as the reader makes them: a place is counted from the start of the body.
use Rattle.std.specs.Prelude.{ℕ, zero, suc, ◌+◌, ◌-◌, ◌≤◌, ◌<◌, ◌≡◌, Bool, true, false, List, length, get_or, drop, ltb, leb, eqb, Result, Ok, Err}
use Rattle.program.specs.Bytes.{get32}
use Rattle.program.specs.Limits.{pick, Mode, scalar}
use Rattle.program.specs.Automaton.{Stack, Values, Scan, scan, Turn, turn}
use Rattle.program.specs.declared.Refusal.{Refusal}
use Rattle.reader.specs.declared.turns.Frame.{Frame}
use Rattle.reader.specs.declared.turns.Frames.{Frames}
use Rattle.reader.specs.declared.turns.Push.{Push}

-- A refusal with its place.
abbrev pub refusal : ℕ → ℕ → Refusal
refusal n p = record { number = n; place = p }

unfoldable pub refusal_of : ℕ → Scan → Result (Unit {0}) Refusal
refusal_of l (Scan.refuse n k) = Err (refusal n (l - k))
refusal_of l Scan.good = Ok tt

-- What is wrong with the span at p.
unfoldable pub span_refusal : List ℕ → ℕ → Result (Unit {0}) Refusal
span_refusal b p =
    pick (ltb (length b) (p + 8)) (Err (refusal 5 (length b)))
    (pick (ltb (get32 b (p + 4)) (get32 b p)) (Err (refusal 8 p)) (Ok tt))

-- What is wrong with the name at p, or with the number.
unfoldable pub name_refusal : List ℕ → ℕ → Bool → Result (Unit {0}) Refusal
name_refusal b p g =
    pick (ltb 0 (get_or b p 0))
    (pick (leb (get_or b p 0) 63) (refusal_of (length b) (scan g (get_or b p 0) (drop (p + 1) b))) (Err (refusal 6 p)))
    (Err (refusal 6 p))

-- What is wrong with the code at p.
unfoldable pub code_refusal : List ℕ → ℕ → Result (Unit {0}) Refusal
code_refusal b p =
    pick (ltb (length b) (p + 4)) (Err (refusal 5 (length b)))
    (pick (scalar (get32 b p)) (Ok tt) (Err (refusal 7 p)))

abbrev pub push : ℕ → Frames → Push
push to f = record { to = to; frames = f }

-- With no refusal, go on.
unfoldable pub step_of : Result (Unit {0}) Refusal → Push → Result Push Refusal
step_of (Ok u) g = Ok g
step_of (Err f) g = Err f

unfoldable pub span_step : List ℕ → ℕ → Frames → Result Push Refusal
span_step b p f = step_of (span_refusal b (p + 1)) (push (p + 9) f)

unfoldable pub name_step : List ℕ → ℕ → Bool → Frames → Result Push Refusal
name_step b p g f = step_of (name_refusal b p g) (push (p + 1 + get_or b p 0) f)

-- A frame of the stack on x.
abbrev pub frame_on : Frame → Stack → Stack
frame_on (Frame.Result d) x = Stack.terms Mode.result d x
frame_on (Frame.Pattern d) x = Stack.terms Mode.pattern d x
frame_on (Frame.Conditions d) x = Stack.conditions d x
frame_on (Frame.Sentences d) x = Stack.sentences d x
frame_on Frame.Name x = Stack.name false x
frame_on Frame.Number x = Stack.name true x
frame_on (Frame.Names n) x = Stack.names n x
frame_on Frame.Code x = Stack.code x
frame_on Frame.Visibility x = Stack.visibility x
frame_on Frame.Counted x = Stack.counted x

-- The frame of terms at a mode.
abbrev pub terms_frame : Mode → ℕ → Frame
terms_frame Mode.result d = Frame.Result d
terms_frame Mode.pattern d = Frame.Pattern d

pub record TermsAt (e : Frame) : Type 0 where
  pub mode : Mode
  pub depth : ℕ
  pub is : e ≡ terms_frame mode depth

-- Frames on x.
abbrev pub pushed : Frames → Stack → Stack
pushed Frames.Nothing x = x
pushed (Frames.One e) x = frame_on e x
pushed (Frames.Two e f) x = frame_on f (frame_on e x)
pushed (Frames.Three e f g) x = frame_on g (frame_on f (frame_on e x))

-- At p, with the stack y, the automaton refuses as f says.
pub record Refuses (b : List ℕ) (p : ℕ) (y : Stack) (f : Refusal) : Type 0 where
  pub within : f.place ≤ length b
  pub is : turn y (get_or b p 0) (drop (suc p) b) ≡ Turn.refuse f.number (length b - f.place)

-- It goes on as g says, with g's frames on x.
pub record Goes (b : List ℕ) (p : ℕ) (y x : Stack) (g : Push) : Type 0 where
  pub ahead : p < g.to
  pub within : g.to ≤ length b
  pub make : Values (pushed g.frames x) → Values y
  pub is : turn y (get_or b p 0) (drop (suc p) b) ≡ Turn.go (pushed g.frames x) (g.to - suc p) make

abbrev pub DoesAt : List ℕ → ℕ → Stack → Stack → Result Push Refusal → Type 0
DoesAt b p y x (Err f) = Refuses b p y f
DoesAt b p y x (Ok g) = Goes b p y x g

-- With the frame e on top, whatever lies below.
abbrev pub Does : List ℕ → ℕ → Frame → Result Push Refusal → Type 0
Does b p e r = (x : Stack) → DoesAt b p (frame_on e x) x r

-- What lies below all frames, with n functions passed: declarations and functions, or functions only.
abbrev pub bottom : ℕ → Stack
bottom zero = Stack.body
bottom (suc n) = Stack.functions

-- So many functions are passed after the mark m.
abbrev pub functions_after : ℕ → ℕ → ℕ
functions_after m n = n + pick (eqb m 18) 1 0
