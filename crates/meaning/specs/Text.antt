-- Terms as text: the Rust's `format_terms` and `format_term`.
use Rattle.std.specs.Prelude.{ℕ, ◌+◌, ◌/◌, ◌%◌, cond, List, [], ◌∷◌, ◌++◌, eqb, ltb}
use Rattle.program.specs.Syntax.{Symbol, character, identifier, number, Kind, s_kind, t_kind, e_kind, Terms, nil, symbol, variable, bracket, call, block}
use Rattle.patterns.specs.Ascii.{ascii}

abbrev pub Text : Type 0
Text = List ℕ

-- "Characters above 127 are printed in UTF-8": one to four bytes.
unfoldable pub utf8 : ℕ → Text
utf8 c =
    cond (ltb c 128) (c ∷ [])
    (cond (ltb c 2048) ((192 + c / 64) ∷ (128 + c % 64) ∷ [])
    (cond (ltb c 65536) ((224 + c / 4096) ∷ (128 + c / 64 % 64) ∷ (128 + c % 64) ∷ [])
    ((240 + c / 262144) ∷ (128 + c / 4096 % 64) ∷ (128 + c / 64 % 64) ∷ (128 + c % 64) ∷ [])))

-- "a `'` is printed between double quotes", any other character between single ones.
unfoldable pub quote : ℕ → Text
quote c = cond (eqb c 39) (ascii "\"") (ascii "'")

unfoldable pub format_symbol : Symbol → Text
format_symbol (character c) = quote c ++ (utf8 c ++ quote c)
format_symbol (identifier n) = n
format_symbol (number n) = n

unfoldable pub format_kind : Kind → Text
format_kind s_kind = ascii "s."
format_kind t_kind = ascii "t."
format_kind e_kind = ascii "e."

-- A space before a term that follows another one.
unfoldable pub gap : Terms → Text
gap nil = []
gap (symbol s x r) = ascii " "
gap (variable s k n r) = ascii " "
gap (bracket s i r) = ascii " "
gap (call s f a r) = ascii " "
gap (block s a b r) = ascii " "

-- The Rust prints no block here, and none reaches this place: patterns and restrictions have none.
unfoldable pub format_terms : Terms → Text
format_terms nil = []
format_terms (symbol s x r) = format_symbol x ++ (gap r ++ format_terms r)
format_terms (variable s k n r) = format_kind k ++ (n ++ (gap r ++ format_terms r))
format_terms (bracket s i r) = ascii "(" ++ (format_terms i ++ (ascii ")" ++ (gap r ++ format_terms r)))
format_terms (call s f a r) = ascii "<" ++ (f ++ (gap a ++ (format_terms a ++ (ascii ">" ++ (gap r ++ format_terms r)))))
format_terms (block s a b r) = []
