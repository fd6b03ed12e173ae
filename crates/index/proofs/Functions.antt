-- A function's name by its bytes.
use Prim.Native.Nat.{ℕ, ◌+◌, ◌<◌}
use native.Mathlib.Omega.{arith}
use mathlib.Core.Path.{◌≡◌, sym, ap, ◌∙◌}
use mathlib.Core.List.{List}
use lib.ListN.{length, drop, length-drop}
use lib.Seq.{drop-drop}
use Rattle.program.specs.Bytes.{put32, put_span, put_name}
use Rattle.program.specs.Encode.{put_sentences, put_function}
use Rattle.image.specs.Parts.{NameAt, FunctionAt}
use Rattle.symbols.proofs.Parts.{part_rest}
use Rattle.rows.proofs.Readings.{part}

module _ (b : List ℕ) (p : ℕ) (x : FunctionAt (drop p b)) where
  pub function-room : p + 10 < length b
  unfolding put_function put_span put32 put_name
  function-room = omega (arith, ap length x.is, length-drop p b)

  pub name-is : part b (p + 10) ≡ put_name x.function.name (put_sentences x.function.sentences x.rest)
  unfolding put_function put_span put32
  name-is = part_rest b (p + 10) ∙ (sym (drop-drop 10 p b) ∙ ap (drop 10) x.is)

  abbrev pub name-at : NameAt (part b (p + 10))
  name-at = record { name = x.function.name; rest = put_sentences x.function.sentences x.rest; is = name-is }
