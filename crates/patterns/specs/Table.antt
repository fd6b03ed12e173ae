-- "Marked to be proved (C is character, N number)": cases 1 to 11 of the overlap verdict as one table, and the two longer ones. "Case 7 becomes Overlap." (document 02, 3)
use Rattle.std.specs.Prelude.{ℕ, zero, suc, ◌≡◌, List, [], ◌∷◌}
use Prim.Native.Char.{Char, code}
use Prim.Native.String.{String}
use Rattle.program.specs.Syntax.{Span, character, identifier, number, Kind, s_kind, t_kind, e_kind, Terms, nil, symbol, variable, bracket}
use Rattle.patterns.specs.Ascii.{ascii}
use Rattle.patterns.specs.declared.Verdict.{Verdict}
use Rattle.patterns.specs.declared.Verdict.TheVariants.{Disjoint, Overlap, Unknown}
use Rattle.patterns.specs.Search.{patterns_overlap, spent}

-- Terms at no place in particular, each in front of the rest.
unfoldable pub nowhere : Span
nowhere = record { start = 0; end = 0 }

unfoldable pub char : Char → Terms → Terms
char c r = symbol nowhere (character (code c)) r

unfoldable pub ident : String → Terms → Terms
ident n r = symbol nowhere (identifier (ascii n)) r

unfoldable pub digits : String → Terms → Terms
digits n r = symbol nowhere (number (ascii n)) r

unfoldable pub var : Kind → String → Terms → Terms
var k n r = variable nowhere k (ascii n) r

-- `()`
unfoldable pub empty-bracket : Terms
empty-bracket = bracket nowhere nil nil

-- `e.1 e.2 e.3` C'B', and a number of C'A'
unfoldable pub three_then_b : Terms
three_then_b = var e_kind "1" (var e_kind "2" (var e_kind "3" (char "B" nil)))

unfoldable pub before_a : ℕ → Terms → Terms
before_a zero r = r
before_a (suc n) r = char "A" (before_a n r)

abbrev pub letters_a : ℕ → Terms
letters_a n = before_a n nil

pub record Case : Type 0 where
  pub first : Terms
  pub second : Terms
  pub verdict : Verdict
  pub entries : ℕ

abbrev pub case : Terms → Terms → Verdict → ℕ → Case
case a b v n = record { first = a; second = b; verdict = v; entries = n }

unfoldable pub table : List Case
table =
    case nil nil Overlap 1 ∷
    case nil (var e_kind "X" nil) Overlap 1 ∷
    case nil (var s_kind "X" nil) Disjoint 1 ∷
    case (var s_kind "X" nil) empty-bracket Disjoint 1 ∷
    case (var t_kind "X" nil) empty-bracket Overlap 2 ∷
    case (var s_kind "X" (var s_kind "X" nil)) (char "A" (char "B" nil)) Overlap 3 ∷
    case (digits "007" nil) (digits "7" nil) Overlap 2 ∷
    case (digits "1" nil) (char "1" nil) Disjoint 1 ∷
    case (ident "Abc" nil) (ident "ABC" nil) Overlap 2 ∷
    case (char "a" nil) (char "A" nil) Disjoint 1 ∷
    case three_then_b (letters_a 10) Disjoint 352 ∷
    []

-- "With 26 C'A' in case 11: Disjoint, spent 4,032. With 27: Unknown, spent 4,096."
unfoldable pub longer : List Case
longer = case three_then_b (letters_a 26) Disjoint 4032 ∷ case three_then_b (letters_a 27) Unknown 4096 ∷ []

-- "A bracket pair starts a fresh 4,096": one that runs out of it leaves the pair around it Unknown, but for tails or a later split that settle the verdict.
unfoldable pub nested : List Case
nested =
    case (before_a 70 (bracket nowhere three_then_b nil)) (before_a 70 (bracket nowhere (letters_a 26) nil)) Disjoint 71 ∷
    case (bracket nowhere three_then_b nil) (bracket nowhere (letters_a 27) nil) Unknown 2 ∷
    case (bracket nowhere three_then_b (char "A" nil)) (bracket nowhere (letters_a 27) (char "B" nil)) Disjoint 2 ∷
    case (var e_kind "1" (bracket nowhere three_then_b (var e_kind "2" nil))) (bracket nowhere (letters_a 27) (var t_kind "3" nil)) Overlap 7 ∷
    []

-- Each case's verdict and the entries that it spends.
abbrev pub Holds : List Case → Type 0
Holds [] = Unit {0}
Holds (k ∷ ks) = (patterns_overlap k.first k.second ≡ k.verdict) × (spent k.first k.second ≡ k.entries) × Holds ks
