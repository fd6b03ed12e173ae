-- A symbol in an image: "the rest of a pattern is the same image from a later byte".
use Rattle.std.specs.Prelude.{ℕ, ◌≡◌, List}
use Rattle.program.specs.Syntax.{Span, Symbol}
use Rattle.program.specs.Encode.{put_symbol}
use Rattle.program.specs.Limits.{ValidSymbol}

-- s begins with a symbol, mark and span included.
pub record SymbolAt (s : List ℕ) : Type 0 where
  pub span : Span
  pub symbol : Symbol
  pub rest : List ℕ
  pub is : s ≡ put_symbol span symbol rest
  pub valid : ValidSymbol symbol
