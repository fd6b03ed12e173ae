-- Document 01's worked program and the empty one, cleaned by computation; and terms as text.
use mathlib.Core.Path.{◌≡◌, refl}
use mathlib.Core.List.{[], ◌∷◌, ◌++◌}
use Rattle.patterns.specs.Ascii.{ascii}
use Rattle.program.specs.Syntax.{nil, none, empty, local, entry, Program}
use Rattle.meaning.specs.Cleaning.{clean_residual_program}
use Rattle.meaning.specs.Text.{format_terms}
use Rattle.patterns.proofs.Vocabulary.{char, word, num, t_var, e_var, br, apply, rule, define}
use Rattle.meaning.proofs.CleaningComputing.{computing}

-- `$ENTRY Go { e.X = <F 'A' e.X>; }` and `F { 'A' e.Y = e.Y; (e.Z) = 'B'; }`
abbrev pub worked : Program
worked = record {
  declarations = [];
  functions =
      define entry "Go" (rule (e_var "X" nil) none (apply "F" (char 65 (e_var "X" nil)) nil) empty)
      ∷ define local "F" (rule (char 65 (e_var "Y" nil)) none (e_var "Y" nil) (rule (br (e_var "Z" nil) nil) none (char 66 nil) empty))
      ∷ [];
}

-- The same without the sentence `(e.Z) = 'B'`.
abbrev pub worked_cleaned : Program
worked_cleaned = record {
  declarations = [];
  functions =
      define entry "Go" (rule (e_var "X" nil) none (apply "F" (char 65 (e_var "X" nil)) nil) empty)
      ∷ define local "F" (rule (char 65 (e_var "Y" nil)) none (e_var "Y" nil) empty)
      ∷ [];
}

worked_cleaned_lem : clean_residual_program worked ≡ worked_cleaned
unfolding computing
worked_cleaned_lem = refl

-- What the 12-byte image of zeros holds.
abbrev pub nothing : Program
nothing = record { declarations = []; functions = [] }

nothing_cleaned : clean_residual_program nothing ≡ nothing
unfolding computing
nothing_cleaned = refl

-- Quotes, characters of one to four bytes in UTF-8, brackets, words, numbers, variables.
spelled : format_terms (char 39 (char 34 (char 233 (char 8364 (char 128512 (br nil (word "Ab" (num "007" (br (t_var "a" (e_var "B" nil)) nil)))))))))
    ≡ ascii "\"'\" '\"' '" ++ ((195 ∷ 169 ∷ []) ++ (ascii "' '" ++ ((226 ∷ 130 ∷ 172 ∷ []) ++ (ascii "' '" ++ ((240 ∷ 159 ∷ 152 ∷ 128 ∷ []) ++ ascii "' () Ab 007 (t.a e.B)")))))
unfolding computing
spelled = refl
