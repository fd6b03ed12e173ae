use native.Mathlib.Omega.{arith}
use mathlib.Core.Path.{sym, ap, ◌∙◌}
use lib.ListN.{length}
use Rattle.program.specs.Syntax.{character}
use Rattle.symbols.proofs.Parts.{symbol-room}
use Rattle.meaning.specs.Text.{format_symbol}
use Rattle.text.proofs.Written.{same}
use Rattle.text.proofs.Leaves.{code_in, name_in}
use Rattle.text.proofs.writer.Writer.format_symbol.Goals as goal

pub bounds-s-0 : goal.bounds-s-0
bounds-s-0 c = omega (arith, symbol-room c.requires.0)

pub read32-requires : goal.read32-requires
read32-requires c = (code_in c.requires.0 c.if-s-eq1.true).room

pub format_character-requires : goal.format_character-requires
format_character-requires c =
    let x = code_in c.requires.0 c.if-s-eq1.true in
    (omega (arith, c.read32.ensures, x.stands, x.low), omega (arith, x.room))

pub returns-then-s-eq1 : goal.returns-then-s-eq1
returns-then-s-eq1 c = λ x.
    let y = code_in x c.if-s-eq1.true in
    same c.args.self.now (ap format_symbol (ap character (c.read32.ensures ∙ y.stands) ∙ sym y.is)) c.format_character.ensures

pub slice_bounds-name_part-count : goal.slice_bounds-name_part-count
slice_bounds-name_part-count c = omega (arith, symbol-room c.requires.0)

pub slice_bounds-name_part-start : goal.slice_bounds-name_part-start
slice_bounds-name_part-start c = omega (arith, symbol-room c.requires.0)

pub name_part-requires : goal.name_part-requires
name_part-requires c = (name_in c.requires.0 c.if-s-eq1.false).name

pub put_bytes-requires : goal.put_bytes-requires
put_bytes-requires c =
    let x = name_in c.requires.0 c.if-s-eq1.false in
    omega (arith, ap length (c.name_part.ensures x.name), x.fits)

pub returns : goal.returns
returns c = λ x.
    let y = name_in x c.if-s-eq1.false in
    same c.args.self.now (c.name_part.ensures y.name ∙ y.text) c.put_bytes.ensures
