-- The walk over functions, item by item: a function's head, a sentence, a close.
use Rattle.std.specs.Prelude.{ℕ, ◌≡◌, Bool, true, cond, List, ◌∷◌, get_or, eqb}
use Rattle.program.specs.Encode.{put_sentences}
use Rattle.image.specs.Parts.{SentenceAt, FunctionAt}

-- What stands at the start of s.
pub data Item (s : List ℕ) : Type 0 where
  head : FunctionAt s → Item s
  own : SentenceAt s → Item s
  close : (rest : List ℕ) → s ≡ 15 ∷ rest → Item s

-- What comes after it.
abbrev pub after : (s : List ℕ) → Item s → List ℕ
after s (Item.head f) = put_sentences f.function.sentences f.rest
after s (Item.own x) = x.rest
after s (Item.close k e) = k

unfoldable pub is_sentence : List ℕ → Bool
is_sentence s = eqb (get_or s 0 0) 10

-- An item is written unless it is the sentence i and not kept.
unfoldable pub is_written : (ℕ → Bool) → ℕ → List ℕ → Bool
is_written keep i s = cond (is_sentence s) (keep i) true

-- 1 for a sentence, and 1 for a sentence that is kept
unfoldable pub sentence_one : List ℕ → ℕ
sentence_one s = cond (is_sentence s) 1 0

unfoldable pub kept_one : (ℕ → Bool) → ℕ → List ℕ → ℕ
kept_one keep i s = cond (is_sentence s) (cond (keep i) 1 0) 0
