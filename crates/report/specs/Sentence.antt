-- The beginning of a line about a sentence.
use Rattle.std.specs.Prelude.{◌++◌}
use Rattle.program.specs.Syntax.{Name}
use Rattle.patterns.specs.Ascii.{ascii}
use Rattle.meaning.specs.Text.{Text}

-- The function's name and the pattern's text between braces, after two spaces.
unfoldable pub sentence_text : Name → Text → Text
sentence_text f p = ascii "  " ++ (f ++ (ascii " {" ++ (p ++ ascii "}")))
