-- Document 02, requests 1 and 5: an expression "written in image marks" with zero spans. Its terms' records one after another; nothing closes the last.
use Rattle.std.specs.Prelude.{ℕ, List, ◌∷◌}
use Rattle.program.specs.Syntax.{Span}
use Rattle.program.specs.Bytes.{put_span}
use Rattle.program.specs.Encode.{put_symbol}
use Rattle.patterns.specs.Expression.{Expression, void, atom, group}

-- "spans are zero"
unfoldable pub zero_span : Span
zero_span = record { start = 0; end = 0 }

-- The writer takes the bytes that follow, as those of a program do: "7 bracket (terms, close)".
unfoldable pub put_expression : Expression → List ℕ → List ℕ
put_expression void k = k
put_expression (atom x v) k = put_symbol zero_span x (put_expression v k)
put_expression (group u v) k = 7 ∷ put_span zero_span (put_expression u (15 ∷ put_expression v k))
