-- The text of one term: the Rust's `format_term`; its `format_terms` joins such texts by spaces.
use Rattle.std.specs.Prelude.{ℕ, cond, [], ◌++◌, eqb}
use Rattle.program.specs.Syntax.{Terms, nil, symbol, variable, bracket, call, block}
use Rattle.patterns.specs.Ascii.{ascii}
use Rattle.meaning.specs.Text.{Text, format_symbol, format_kind, gap, format_terms}

-- The first term of a sequence.
unfoldable pub format_term : Terms → Text
format_term nil = []
format_term (symbol s x r) = format_symbol x
format_term (variable s k n r) = format_kind k ++ n
format_term (bracket s i r) = ascii "(" ++ (format_terms i ++ ascii ")")
format_term (call s f a r) = ascii "<" ++ (f ++ (gap a ++ (format_terms a ++ ascii ">")))
format_term (block s a b r) = []

-- A space, unless the mark that follows is the close.
unfoldable pub gap_before : ℕ → Text
gap_before m = cond (eqb m 15) [] (ascii " ")

-- The letter of a variable's kind, by its mark: "4 `s.`, 5 `t.`, 6 `e.` variable".
unfoldable pub kind_letter : ℕ → ℕ
kind_letter m = cond (eqb m 4) 115 (cond (eqb m 5) 116 101)
