-- The text of terms letter by letter, as the Rust's `format_terms` prints it. A token is a symbol, a variable, a bracket's beginning or a close; it stands at the start of s and is known by its mark.
use Rattle.std.specs.Prelude.{ℕ, ◌+◌, ◌-◌, ◌≤◌, ◌<◌, ◌≡◌, Bool, true, cond, List, [], ◌∷◌, ◌++◌, eqb, ltb, length, get_or, take, drop, Option, Some, None}
use mathlib.Core.List.{flatten}
use Rattle.program.specs.Syntax.{character}
use Rattle.program.specs.Bytes.{get32}
use Rattle.program.specs.Limits.{Mode}
use Rattle.image.specs.Parts.{TermsAt, token_length, closes_after}
use Rattle.patterns.specs.Ascii.{ascii}
use Rattle.patterns.specs.Names.{eq_bytes}
use Rattle.meaning.specs.Text.{Text, format_symbol, format_terms}
use Rattle.text.specs.FormatTerm.{gap_before, kind_letter}
use Rattle.compare.specs.declared.LetterAt.{LetterAt}

-- "A name is a length byte and its bytes": the bytes of the token's name.
unfoldable pub token_name : List ℕ → Text
token_name s = take (get_or s 9 0) (drop 10 s)

-- What the token prints.
unfoldable pub token_text : List ℕ → Text
token_text s =
    cond (eqb (get_or s 0 0) 1) (format_symbol (character (get32 s 9)))
    (cond (ltb (get_or s 0 0) 4) (token_name s)
    (cond (ltb (get_or s 0 0) 7) (kind_letter (get_or s 0 0) ∷ 46 ∷ token_name s)
    (cond (eqb (get_or s 0 0) 7) (ascii "(") (ascii ")"))))

-- The space between two terms: none behind a bracket's beginning, and none before a close.
unfoldable pub token_gap : List ℕ → Text
token_gap s = cond (eqb (get_or s 0 0) 7) [] (gap_before (get_or s (token_length s) 0))

-- The token's letters, the space behind it among them.
unfoldable pub letters : List ℕ → Text
letters s = token_text s ++ token_gap s

-- A token at the start of s with another one behind it.
pub record TokenIn (s : List ℕ) : Type 0 where
  pub within : token_length s < length s
  pub low : get_or s 0 0 ≡ 1 → get32 s 9 ≤ 1114111

-- What stands from i on.
abbrev pub part : List ℕ → ℕ → List ℕ
part s i = take (length s - i) (drop i s)

-- Letter k of the token at i.
pub record StandsIn (s : List ℕ) (i k : ℕ) : Type 0 where
  pub within : i ≤ length s
  pub token : TokenIn (part s i)
  pub inside : k < length (letters (part s i))

-- It is the token's last.
abbrev pub is_last : List ℕ → ℕ → ℕ → Bool
is_last s i k = eqb (k + 1) (length (letters (part s i)))

-- Two tokens of n bytes print the same by themselves.
abbrev pub SameContent : List ℕ → List ℕ → Option ℕ → Type 0
SameContent x y (Some n) = (token_text x ≡ token_text y) × (n ≡ token_length x) × (n ≡ token_length y)
SameContent x y None = Unit {0}

-- They print the same, and the same mark stands behind both.
abbrev pub SameLetters : List ℕ → List ℕ → Option ℕ → Type 0
SameLetters x y (Some n) = (letters x ≡ letters y) × (n ≡ token_length x) × (n ≡ token_length y) × (get_or x n 0 ≡ get_or y n 0)
SameLetters x y None = Unit {0}

-- From the start of s on c closes are to come. The texts are the letters of the tokens before the last close, and rest stands behind it.
abbrev pub Walk : ℕ → List Text → List ℕ → List ℕ → Type 0
Walk c [] s rest = (s ≡ 15 ∷ rest) × (c ≡ 1)
Walk c (x ∷ ls) s rest = TokenIn s × (x ≡ letters s) × (0 < length x) × (get_or s 0 0 ≡ 15 → 1 < c) × Walk (closes_after (get_or s 0 0) c) ls (drop (token_length s) s) rest

-- What is to come from the token at i on.
pub record Coming (s rest : List ℕ) (i c : ℕ) : Type 0 where
  pub texts : List Text
  pub walk : Walk c texts (part s i) rest
  pub some : 0 < c

-- The texts of t and u are the same exactly if those from the token at i on are.
pub record SameBefore {a b : List ℕ} (t : TermsAt Mode.pattern a) (u : TermsAt Mode.pattern b) (i c : ℕ) : Type 0 where
  pub one : Coming a t.rest i c
  pub two : Coming b u.rest i c
  pub whole : eq_bytes (format_terms t.terms) (format_terms u.terms) ≡ eq_bytes (flatten one.texts) (flatten two.texts)

-- The texts are the same before a letter, or throughout.
abbrev pub DifferFrom : {a b : List ℕ} → TermsAt Mode.pattern a → TermsAt Mode.pattern b → Option LetterAt → Type 0
DifferFrom t u (Some r) = (r.nth ≡ 0) × SameBefore t u r.token r.closes
DifferFrom t u None = eq_bytes (format_terms t.terms) (format_terms u.terms) ≡ true
