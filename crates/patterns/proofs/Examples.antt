-- Repeats by computation.
use mathlib.Core.Path.{◌≡◌, refl}
use mathlib.Core.Bool.{true, false}
use Rattle.program.specs.Syntax.{character, nil, symbol}
use Rattle.patterns.specs.Names.{lower, caseless, eq_bytes}
use Rattle.patterns.specs.Symbols.{eq_symbol}
use Rattle.patterns.specs.Ascii.{ascii}
use Rattle.patterns.specs.Equality.{eq_kind, eq_span, eq_terms}
use Rattle.patterns.specs.Configuration.{position, seen_with, names_after, canonical_from, canonical_configuration, same_configuration}
use Rattle.patterns.proofs.Vocabulary.{char, word, s_var, e_var, br}

unfoldable computing : Unit {0}
unfolding lower caseless eq_bytes eq_symbol ascii eq_kind eq_span eq_terms position seen_with names_after canonical_from canonical_configuration same_configuration
computing = tt

-- "variable names are numbered by first appearance (case ignored"
renamed : same_configuration (s_var "X" (e_var "Y" (s_var "x" nil))) (s_var "A" (e_var "B" (s_var "A" nil))) ≡ true
unfolding computing
renamed = refl

other_order : same_configuration (s_var "X" (e_var "Y" (s_var "x" nil))) (s_var "A" (e_var "B" (s_var "B" nil))) ≡ false
unfolding computing
other_order = refl

-- "one numbering for all kinds": `s.X e.X` has one name, `s.X e.Y` two.
one_numbering : same_configuration (s_var "X" (e_var "X" nil)) (s_var "X" (e_var "Y" nil)) ≡ false
unfolding computing
one_numbering = refl

-- A name met in a bracket counts after it.
through_brackets : same_configuration (br (s_var "X" nil) (s_var "X" nil)) (br (s_var "Y" nil) (s_var "Z" nil)) ≡ false
unfolding computing
through_brackets = refl

-- "identifiers by exact spelling, **spans included**"
spelling : same_configuration (word "Abc" nil) (word "ABC" nil) ≡ false
unfolding computing
spelling = refl

spans : same_configuration (char 65 nil) (symbol (record { start = 0; end = 1 }) (character 65) nil) ≡ false
unfolding computing
spans = refl
