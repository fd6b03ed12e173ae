-- The removed sentences as loops tell them: one that fell is listed unless an earlier one has the same function name and text.
use Rattle.std.specs.Prelude.{ℕ, suc, ◌+◌, ◌*◌, ◌≤◌, ◌<◌, ◌≡◌, Bool, true, false, ◌&&◌, ◌||◌, not, cond, eqb, ltb, length}
use mathlib.Core.List.{List, [], ◌∷◌, map, flat_map}
use Rattle.std.proofs.Math.Option.{some}
use Rattle.std.proofs.Math.ListN.{get_elem?}
use Rattle.program.specs.Syntax.{Name, Terms, Function, Program}
use Rattle.program.specs.Sentences.{Sentence}
use Rattle.patterns.specs.Names.{eq_bytes, same_name}
use Rattle.meaning.specs.Lists.{any, select}
use Rattle.index.specs.declared.Plan.{Plan}
use Rattle.told.specs.Numbered.{sentences_before}
use Rattle.meaning.specs.Text.{Text, format_terms}
use Rattle.told.specs.History.{Told}
use Rattle.cleaning.specs.Indexed.{fell_of}
use Rattle.cleaning.specs.Walks.{Owns}
use Rattle.told.specs.ToldReport.{Fallen, fallen_from, removed_of, same_fallen}
use Rattle.text.specs.declared.writer.Writer.{Writer}
use Rattle.text.specs.Written.{written}
use Rattle.meaning.specs.Report.{removed_line}
use Rattle.report.specs.Emitting.{Readable, Decided}

-- By round, and within a round by number.
unfoldable pub is_earlier : ℕ → ℕ → Fallen → Bool
is_earlier r s u = ltb u.round r || (eqb u.round r && ltb u.number s)

-- "Removed sentences are listed once per function name (case ignored) and pattern text".
unfoldable pub is_repeated : Program → (ℕ → ℕ) → ℕ → Fallen → Bool
is_repeated w fell n z = any (λ u. is_earlier z.round z.number u && same_fallen u z) (fallen_from w fell 1 n)

-- ---- the same over functions and numbers

-- The sentence t with the pattern q fell, earlier than the sentence s with the pattern p in round r, and has the same text.
unfoldable pub prints : (ℕ → ℕ) → ℕ → ℕ → Terms → ℕ → Terms → Bool
prints fell r s p t q = (not (eqb (fell t) 0) && (ltb (fell t) r || (eqb (fell t) r && ltb t s))) && eq_bytes (format_terms q) (format_terms p)

-- A sentence from a number up to another one that does.
pub record Printing (fell : ℕ → ℕ) (r s : ℕ) (p : Terms) (xs : List Sentence) (from upto : ℕ) : Type 0 where
  pub number : ℕ
  pub sentence : Sentence
  pub is : get_elem? xs number ≡ some sentence
  pub later : from ≤ number
  pub before : number < upto
  pub printed : prints fell r s p number sentence.pattern ≡ true

abbrev pub NonePrinting : (ℕ → ℕ) → ℕ → ℕ → Terms → List Sentence → ℕ → ℕ → Type 0
NonePrinting fell r s p xs from upto = (t : ℕ) (u : Sentence) → from ≤ t → t < upto → get_elem? xs t ≡ some u → prints fell r s p t u.pattern ≡ false

-- The answer to whether there is one.
pub record PrintedIn (fell : ℕ → ℕ) (r s : ℕ) (p : Terms) (xs : List Sentence) (from upto : ℕ) (answer : Bool) : Type 0 where
  pub yes : answer ≡ true → Printing fell r s p xs from upto
  pub no : answer ≡ false → NonePrinting fell r s p xs from upto

-- The same of the function named g, if its name is f.
pub record RepeatedIn (fell : ℕ → ℕ) (r s : ℕ) (f : Name) (p : Terms) (g : Name) (xs : List Sentence) (from upto : ℕ) (answer : Bool) : Type 0 where
  pub yes : answer ≡ true → (same_name g f ≡ true) × Printing fell r s p xs from upto
  pub no : answer ≡ false → same_name g f ≡ true → NonePrinting fell r s p xs from upto

-- ---- lines

-- Those of l that are listed, where n rounds have been told.
unfoldable pub listed_of : Program → (ℕ → ℕ) → ℕ → List Fallen → List Fallen
listed_of w fell n l = select (λ z. not (is_repeated w fell n z)) l

-- Their lines.
unfoldable pub lines_of : Program → (ℕ → ℕ) → ℕ → List Fallen → Text
lines_of w fell n l = flat_map removed_line (map (removed_of w fell) (listed_of w fell n l))

-- These have been put to the writing end v, after so many others, which leaves it as u.
pub record Listed (w : Program) (fell : ℕ → ℕ) (n : ℕ) (l : List Fallen) (v : Writer) (count : ℕ) (u : Writer) (counted : ℕ) : Type 0 where
  pub text : u ≡ written v (lines_of w fell n l)
  pub told : counted ≡ count + length (listed_of w fell n l)

-- The entries of w, of which n rounds have been told, and which sentences are undecided.
pub record Removing (b : List ℕ) (w : Program) (m : List ℕ) (p : Plan) (n : ℕ) : Type 0 where
  pub readable : Readable b w m p
  pub told : Told w (fell_of p m) n
  pub below : (s : ℕ) → fell_of p m s < suc n
  pub decided : Decided b m p

pub record SomeRemoving (b m : List ℕ) (p : Plan) (n : ℕ) : Type 0 where
  pub program : Program
  pub removing : Removing b program m p n

-- The same of some rounds, for who does not go through them all.
pub record SomeRounds (b m : List ℕ) (p : Plan) : Type 0 where
  pub program : Program
  pub rounds : ℕ
  pub removing : Removing b program m p rounds

-- And the sentence s of the f-th function.
pub record SomeRemoval (b m : List ℕ) (p : Plan) (f s : ℕ) : Type 0 where
  pub program : Program
  pub rounds : ℕ
  pub removing : Removing b program m p rounds
  pub function : Function
  pub sentence : Sentence
  pub owns : Owns program f function s sentence

-- The sentence s of the function x, if it fell in round r.
unfoldable pub fallen_at : (ℕ → ℕ) → ℕ → Function → ℕ → Sentence → List Fallen
fallen_at fell r x s y = cond (eqb (fell s) r) (record { round = r; function = x; number = s; sentence = y } ∷ []) []

-- No removed line is longer: a name and a pattern are at most 32768 bytes each, and there are fewer than 8192 restrictions.
abbrev pub longest : ℕ
longest = 300000000

-- The lines of the f-th function's sentences, each at most that long.
pub record WithinFunction (w : Program) (f at count after counted : ℕ) : Type 0 where
  pub place : after + sentences_before f w.functions * longest ≤ at + sentences_before (suc f) w.functions * longest
  pub many : counted + sentences_before f w.functions ≤ count + sentences_before (suc f) w.functions
