-- The bytes of a text, so that a name can be read where a definition or a table has one.
use Prim.Native.Char.{code}
use Prim.Native.String.{String, [] as no_text, ◌∷◌ as ◌then◌}
use Rattle.std.specs.Prelude.{[], ◌∷◌}
use Rattle.program.specs.Syntax.{Name}

unfoldable pub ascii : String → Name
ascii no_text = []
ascii (◌then◌ c s) = code c ∷ ascii s
