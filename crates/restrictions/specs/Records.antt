-- What stands in an image up to a close, be it terms, the sentences of a block or of a function, or the conditions of a sentence.
use Rattle.std.specs.Prelude.{ℕ, ◌+◌, ◌≤◌, ◌≡◌, List, ◌∷◌, length, drop}
use Rattle.program.specs.Syntax.{Terms, Conditions, Sentences}
use Rattle.program.specs.Encode.{put_terms, put_conditions, put_sentences}
use Rattle.program.specs.Limits.{Mode, ValidTerms, ValidConditions, ValidSentences}
use Rattle.meaning.specs.Sites.{Site, collect_call_sites, condition_sites, sentence_sites}
use Rattle.told.specs.Numbered.{held_by}
use Rattle.restrictions.specs.Entries.{Appended}
use Rattle.restrictions.specs.declared.Walk.{Walk}

pub data Records : Type 0 where
  terms : Terms → Records
  conditions : Conditions → Records
  sentences : Sentences → Records

-- The mark of a sentence's result closes its conditions.
unfoldable pub put_records : Records → List ℕ → List ℕ
put_records (terms t) k = put_terms t k
put_records (conditions c) k = put_conditions c (12 ∷ k)
put_records (sentences b) k = put_sentences b k

unfoldable pub record_sites : Records → List Site
record_sites (terms t) = collect_call_sites t
record_sites (conditions c) = condition_sites c
record_sites (sentences b) = sentence_sites b

abbrev pub ValidRecords : Records → Type 0
ValidRecords (terms t) = ValidTerms t Mode.result 0
ValidRecords (conditions c) = ValidConditions c 0
ValidRecords (sentences b) = ValidSentences b 0

pub record RecordsAt (s : List ℕ) : Type 0 where
  pub records : Records
  pub rest : List ℕ
  pub is : s ≡ put_records records rest
  pub valid : ValidRecords records

-- Records stand at the start of s, and m entries have room for their sites from n on.
pub record RoomFor (s : List ℕ) (n m : ℕ) : Type 0 where
  pub reading : RecordsAt s
  pub room : n + length (record_sites reading.records) ≤ m

-- The sites of these records have been written, in the sentence k, as places of the body b, and the walk is past them in the part s.
pub record Collected (b s : List ℕ) (k : ℕ) (old : List ℕ) (n : ℕ) (new : List ℕ) (w : Walk) (r : RecordsAt s) : Type 0 where
  pub appended : Appended b old n w.count new (held_by k (record_sites r.records))
  pub left : drop w.at s ≡ r.rest
  pub fits : w.at ≤ length s
