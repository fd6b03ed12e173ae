-- Free patterns, term by term, and the numbers that their places need.
use Rattle.std.specs.Prelude.{ℕ, ◌+◌, ◌-◌, ◌≤◌, ◌≡◌, List, [], length, take, drop}
use Rattle.program.specs.Syntax.{Symbol, Terms}
use Rattle.program.specs.Encode.{put_symbol}
use Rattle.program.specs.Limits.{Mode}
use Rattle.image.specs.Parts.{TermsAt}
use Rattle.patterns.specs.Expression.{Expression, void}
use Rattle.patterns.specs.Marks.{zero_span, put_expression}
use Rattle.patterns.specs.Search.{View, view}
use Rattle.patterns.specs.Meet.{free, free_one}
use Rattle.symbols.specs.Parts.{SymbolAt}
use Rattle.text.specs.Fill.{limit}

-- The first term of a sequence, free.
unfoldable pub free_view : View → Expression
free_view View.nothing = void
free_view (View.absorbing r) = void
free_view (View.one x r) = free_one x

abbrev pub free_bytes : Terms → List ℕ
free_bytes a = put_expression (free a) []

abbrev pub first_bytes : Terms → List ℕ
first_bytes a = put_expression (free_view (view a)) []

-- A pattern at the start of s which can be written free from `at` on, or its first term.
pub record FreeAt (s : List ℕ) (at : ℕ) : Type 0 where
  pub pattern : TermsAt Mode.pattern s
  pub short : at + length (free_bytes pattern.terms) ≤ limit

pub record FirstAt (s : List ℕ) (at : ℕ) : Type 0 where
  pub pattern : TermsAt Mode.pattern s
  pub short : at + length (first_bytes pattern.terms) ≤ limit

-- The same of a symbol.
pub record SymbolFits (s : List ℕ) (at : ℕ) : Type 0 where
  pub first : SymbolAt s
  pub short : at + length (put_symbol zero_span first.symbol []) ≤ limit

-- Where a symbol ends, and what stands there behind its span.
pub record Ends (s : List ℕ) (x : Symbol) (r : ℕ) : Type 0 where
  pub past : 9 ≤ r
  pub within : r ≤ length s
  pub long : r ≡ length (put_symbol zero_span x [])
  pub fields : take (r - 9) (drop 9 s) ≡ drop 9 (put_symbol zero_span x [])
