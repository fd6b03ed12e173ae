-- A program with some of its functions' own sentences left out: what Clean writes.
use Rattle.std.specs.Prelude.{ℕ, suc, ◌+◌, ◌/◌, ◌%◌, ◌^◌, Bool, cond, List, [], ◌∷◌, get_or, eqb}
use Rattle.program.specs.Syntax.{Sentences, empty, sentence, Function, Program}
use Rattle.program.specs.Encode.{sentence_count}

-- "The kept marks are one bit a sentence": bit i of words of 32.
unfoldable pub is_kept : List ℕ → ℕ → Bool
is_kept marks i = eqb (get_or marks (i / 32) 0 / 2 ^ (i % 32) % 2) 1

-- Sentences in file order, the first of them number i.
unfoldable pub kept_sentences : (ℕ → Bool) → ℕ → Sentences → Sentences
kept_sentences keep i empty = empty
kept_sentences keep i (sentence h p c r b) = cond (keep i) (sentence h p c r (kept_sentences keep (suc i) b)) (kept_sentences keep (suc i) b)

unfoldable pub kept_function : (ℕ → Bool) → ℕ → Function → Function
kept_function keep i f = record { span = f.span; visibility = f.visibility; name = f.name; sentences = kept_sentences keep i f.sentences }

unfoldable pub kept_functions : (ℕ → Bool) → ℕ → List Function → List Function
kept_functions keep i [] = []
kept_functions keep i (f ∷ fs) = kept_function keep i f ∷ kept_functions keep (i + sentence_count f.sentences) fs

unfoldable pub kept_program : (ℕ → Bool) → Program → Program
kept_program keep w = record { declarations = w.declarations; functions = kept_functions keep 0 w.functions }
