-- The sentences of a program's functions, one by one.
use Rattle.std.specs.Prelude.{List, [], ◌∷◌, ◌++◌}
use Rattle.program.specs.Syntax.{Head, Terms, Conditions, Sentences, empty, sentence, Function}

-- One sentence by itself.
pub record Sentence : Type 0 where
  pub head : Head
  pub pattern : Terms
  pub conditions : Conditions
  pub result : Terms

-- "functions' sentences in file order, from 0"
unfoldable pub sentence_list : Sentences → List Sentence
sentence_list empty = []
sentence_list (sentence h p c r b) = record { head = h; pattern = p; conditions = c; result = r } ∷ sentence_list b

unfoldable pub own_sentences : List Function → List Sentence
own_sentences [] = []
own_sentences (f ∷ fs) = sentence_list f.sentences ++ own_sentences fs
