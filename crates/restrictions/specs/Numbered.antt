-- Sites with the numbers of the functions' sentences that hold them, and room for them.
use Rattle.std.specs.Prelude.{ℕ, ◌+◌, ◌≤◌, ◌≡◌, List, length, drop}
use Rattle.image.specs.Parts.{SentenceAt, FunctionsAt}
use Rattle.meaning.specs.Sites.{function_sites}
use Rattle.told.specs.Numbered.{held_by, own_sites}
use Rattle.restrictions.specs.Entries.{Appended}
use Rattle.restrictions.specs.declared.Walk.{Walk}

-- m entries have room, from n on, for the sites of what stands in b at a place.
pub record RoomForSentence (b : List ℕ) (at n m : ℕ) : Type 0 where
  pub reading : SentenceAt (drop at b)
  pub room : n + length (own_sites reading.sentence) ≤ m

pub record RoomForFunctions (b : List ℕ) (at n m : ℕ) : Type 0 where
  pub reading : FunctionsAt (drop at b)
  pub room : n + length (function_sites reading.functions) ≤ m

-- The sites of the sentence have been written, in the sentence k, and the walk is past it.
pub record SentenceCollected (b : List ℕ) (at k : ℕ) (old : List ℕ) (n : ℕ) (new : List ℕ) (w : Walk) (x : SentenceAt (drop at b)) : Type 0 where
  pub appended : Appended b old n w.count new (held_by k (own_sites x.sentence))
  pub left : drop w.at b ≡ x.rest
  pub fits : w.at ≤ length b
