-- A variable in an image: "the rest of a pattern is the same image from a later byte".
use Rattle.std.specs.Prelude.{ℕ, ◌≡◌, List, ◌∷◌}
use Rattle.program.specs.Syntax.{Name, Span, Kind}
use Rattle.program.specs.Bytes.{put_span, put_name}
use Rattle.program.specs.Encode.{kind_mark}

-- s begins with a variable, mark and span included.
pub record VariableAt (s : List ℕ) : Type 0 where
  pub span : Span
  pub kind : Kind
  pub name : Name
  pub rest : List ℕ
  pub is : s ≡ kind_mark kind ∷ put_span span (put_name name rest)
