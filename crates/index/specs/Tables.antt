-- Functions, sentences and call sites as entries of work: "a record's name is handed back as the image's own bytes", so an entry only says where its record stands.
use Rattle.std.specs.Prelude.{ℕ, ◌+◌, ◌/◌, ◌%◌, ◌<◌, ◌≡◌, List, length, get_or, drop}
use Rattle.std.proofs.Math.Option.{some}
use Rattle.std.proofs.Math.ListN.{get_elem?}
use Rattle.program.specs.Syntax.{Function}
use Rattle.program.specs.Sentences.{Sentence}
use Rattle.image.specs.Parts.{SentenceAt, FunctionAt}
use Rattle.told.specs.Numbered.{Held, sentences_before}
use Rattle.restrictions.specs.Entries.{Entry}

-- The entry of the function x, whose first sentence has the number k: its place, 15 bits, and above it k, 12 bits.
pub record FunctionEntry (b : List ℕ) (e : ℕ) (x : Function) (k : ℕ) : Type 0 where
  pub stands : FunctionAt (drop (e % 32768) b)
  pub is : stands.function ≡ x
  pub first : e / 32768 % 4096 ≡ k

-- The entry of the sentence x: its place, 15 bits.
pub record SentenceEntry (b : List ℕ) (e : ℕ) (x : Sentence) : Type 0 where
  pub stands : SentenceAt (drop (e % 32768) b)
  pub is : stands.sentence ≡ x

-- The entries from `at` on are those of the functions of b, the sentences, the sites.
pub record FunctionsIn (b : List ℕ) (fs : List Function) (m : List ℕ) (at : ℕ) : Type 0 where
  pub entry : (f : ℕ) (x : Function) → get_elem? fs f ≡ some x → FunctionEntry b (get_or m (at + f) 0) x (sentences_before f fs)

pub record SentencesIn (b : List ℕ) (xs : List Sentence) (m : List ℕ) (at : ℕ) : Type 0 where
  pub entry : (s : ℕ) (x : Sentence) → get_elem? xs s ≡ some x → SentenceEntry b (get_or m (at + s) 0) x

pub record SitesAt (b : List ℕ) (xs : List Held) (m : List ℕ) (at : ℕ) : Type 0 where
  pub entry : (i : ℕ) (x : Held) → get_elem? xs i ≡ some x → Entry b (get_or m (at + i) 0) x

-- Entries are the same but for those from `from` up to `end`.
pub record Apart (old new : List ℕ) (from end : ℕ) : Type 0 where
  pub length : length new ≡ length old
  pub before : (k : ℕ) → k < from → get_or new k 0 ≡ get_or old k 0
  pub after : (k : ℕ) → (k < end → ⊥) → get_or new k 0 ≡ get_or old k 0
