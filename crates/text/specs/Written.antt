-- The report's writing end: "which holds the lent text and how much is filled".
use Rattle.std.specs.Prelude.{◌+◌, length}
use denote.Ref.{at_last}
use Rattle.meaning.specs.Text.{Text}
use Rattle.text.specs.Fill.{filled}
use Rattle.text.specs.declared.writer.Writer.{Writer}

-- A writer once a text is written: the same lent bytes with the text behind what was filled, and its length more.
abbrev pub written : Writer → Text → Writer
written w t = record { text = at_last w.text (filled w.text.now w.filled t); filled = w.filled + length t }
