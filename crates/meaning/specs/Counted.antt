-- What document 02's request on cleaning twice counts.
use Rattle.std.specs.Prelude.{ℕ, ◌+◌, List, [], ◌∷◌, length}
use Rattle.program.specs.Syntax.{Sentences, empty, sentence, Function}
use Rattle.meaning.specs.Cleaning.{Change, Round}

-- The number of sentences that a round drops.
unfoldable pub dropped_count : List Change → ℕ
dropped_count [] = 0
dropped_count (c ∷ l) = length c.dropped + dropped_count l

-- "those dropped round by round"
unfoldable pub dropped_in_all : List Round → ℕ
dropped_in_all [] = 0
dropped_in_all (r ∷ l) = dropped_count r.changes + dropped_in_all l

-- "the functions that have any": one for a function with a sentence
unfoldable pub has_any : Sentences → ℕ
has_any empty = 0
has_any (sentence h p c r b) = 1

unfoldable pub functions_with_any : List Function → ℕ
functions_with_any [] = 0
functions_with_any (f ∷ fs) = has_any f.sentences + functions_with_any fs
