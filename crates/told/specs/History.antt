-- The rounds told by numbers: for each sentence the round in which it fell, 0 if it never did.
use Rattle.std.specs.Prelude.{ℕ, zero, suc, ◌+◌, ◌<◌, ◌≤◌, ◌≡◌, Bool, false, true, ◌&&◌, ◌||◌, not, cond, List, [], ◌∷◌, eqb, leb}
use Rattle.program.specs.Syntax.{Name, Terms, Sentences, empty, sentence, Function, Program}
use Rattle.program.specs.Encode.{sentence_count, own_sentence_count}
use Rattle.program.specs.Sentences.{Sentence, own_sentences}
use Rattle.told.specs.Numbered.{Held, held_sites}
use Rattle.meaning.specs.Root.{root_place}
use Rattle.meaning.specs.Cleaning.{Round, round, is_root}
use Rattle.told.specs.Kept.{kept_program}
use Rattle.told.specs.Asked.{is_rejected}

-- Whether the sentence s is there when round r begins.
unfoldable pub is_there : (ℕ → ℕ) → ℕ → ℕ → Bool
is_there fell r s = eqb (fell s) 0 || leb r (fell s)

-- No round has this number, since numbers of rounds have 12 bits: what is there then never fell.
abbrev pub after_all : ℕ
after_all = 4096

-- Whether one of the sentences that are there, the first of them number i, is not rejected.
unfoldable pub some_accepted : (Terms → Bool) → (ℕ → Bool) → ℕ → Sentences → Bool
some_accepted reject keep i empty = false
some_accepted reject keep i (sentence h p c r b) = (keep i && not (reject p)) || some_accepted reject keep (suc i) b

-- What is there next: not what is rejected, unless all are.
abbrev pub SentencesLeft : (Terms → Bool) → Bool → (ℕ → Bool) → (ℕ → Bool) → ℕ → Sentences → Type 0
SentencesLeft reject some keep next i empty = Unit {0}
SentencesLeft reject some keep next i (sentence h p c r b) = (next i ≡ (keep i && not (reject p && some))) × SentencesLeft reject some keep next (suc i) b

-- "It passes over the root [..] and drops each sentence that is Disjoint from every restriction of its function."
unfoldable pub rejects : ℕ → (ℕ → Bool) → List Held → ℕ → Name → Terms → Bool
rejects root keep sites k f p = not (eqb k root) && is_rejected keep f sites p

-- The same for functions, the first of them at place k with the first sentence i.
abbrev pub FunctionsLeft : ℕ → (ℕ → Bool) → (ℕ → Bool) → List Held → ℕ → ℕ → List Function → Type 0
FunctionsLeft root keep next sites k i [] = Unit {0}
FunctionsLeft root keep next sites k i (f ∷ fs) =
    SentencesLeft (rejects root keep sites k f.name) (some_accepted (rejects root keep sites k f.name) keep i f.sentences) keep next i f.sentences
    × FunctionsLeft root keep next sites (suc k) (i + sentence_count f.sentences) fs

-- Round r does to w what the numbers say.
abbrev pub RoundTold : Program → (ℕ → ℕ) → ℕ → Type 0
RoundTold w fell r = FunctionsLeft (root_place w) (is_there fell r) (is_there fell (suc r)) (held_sites 0 (own_sentences w.functions)) 0 0 w.functions

-- The program when round r begins.
unfoldable pub start_of : Program → (ℕ → ℕ) → ℕ → Program
start_of w fell r = kept_program (is_there fell r) w

-- n rounds, the first of them r.
unfoldable pub rounds_told : Program → (ℕ → ℕ) → ℕ → ℕ → List Round
rounds_told w fell r zero = []
rounds_told w fell r (suc n) = round (is_root w) (start_of w fell r) ∷ rounds_told w fell (suc r) n

-- The sentences with a number that passes a test, the first of them number i.
unfoldable pub numbered : (ℕ → Bool) → ℕ → Sentences → List Sentence
numbered test i empty = []
numbered test i (sentence h p c r b) = cond (test i) (record { head = h; pattern = p; conditions = c; result = r } ∷ numbered test (suc i) b) (numbered test (suc i) b)

-- Whether one of n numbers from i on passes a test.
unfoldable pub some_number : (ℕ → Bool) → ℕ → ℕ → Bool
some_number test i zero = false
some_number test i (suc n) = test i || some_number test (suc i) n

-- Some sentence falls in round r.
abbrev pub some_fell : Program → (ℕ → ℕ) → ℕ → Bool
some_fell w fell r = some_number (λ s. is_there fell r s && not (is_there fell (suc r) s)) 0 (own_sentence_count w.functions)

-- The numbers tell the rounds of w, of which there are n: each but the last drops something.
pub record Told (w : Program) (fell : ℕ → ℕ) (n : ℕ) : Type 0 where
  pub some : 0 < n
  pub round : (q : ℕ) → 0 < q → q ≤ n → RoundTold w fell q
  pub falls : (q : ℕ) → 0 < q → q < n → some_fell w fell q ≡ true
  pub last : some_fell w fell n ≡ false
