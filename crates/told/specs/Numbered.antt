-- Sentences and call sites by their numbers.
use Rattle.std.specs.Prelude.{ℕ, zero, suc, ◌+◌, List, [], ◌∷◌, ◌++◌}
use Rattle.program.specs.Syntax.{Function, Program}
use Rattle.program.specs.Encode.{sentence_count}
use Rattle.program.specs.Sentences.{Sentence, own_sentences}
use Rattle.meaning.specs.Sites.{Site, collect_call_sites, condition_sites}

-- A site, and the number of the function's sentence that holds it: "a site of the function's sentence that holds the block".
pub record Held : Type 0 where
  pub sentence : ℕ
  pub site : Site

unfoldable pub held_by : ℕ → List Site → List Held
held_by k [] = []
held_by k (x ∷ xs) = record { sentence = k; site = x } ∷ held_by k xs

-- "Sites per sentence: pattern, result, then each condition's result and pattern"
unfoldable pub own_sites : Sentence → List Site
own_sites x = collect_call_sites x.pattern ++ (collect_call_sites x.result ++ condition_sites x.conditions)

-- "functions' sentences in file order": those of xs are numbered from k on.
unfoldable pub held_sites : ℕ → List Sentence → List Held
held_sites k [] = []
held_sites k (x ∷ xs) = held_by k (own_sites x) ++ held_sites (suc k) xs

-- How many sentences the functions before the f-th have.
unfoldable pub sentences_before : ℕ → List Function → ℕ
sentences_before zero fs = 0
sentences_before (suc f) [] = 0
sentences_before (suc f) (x ∷ fs) = sentence_count x.sentences + sentences_before f fs

-- The call sites of a program with the numbers of their sentences.
abbrev pub sites_of : Program → List Held
sites_of w = held_sites 0 (own_sentences w.functions)
