-- `configuration::same_spelling` meets its contract. Assumes nothing.
use native.Mathlib.Omega.{arith}
use mathlib.Core.Path.{◌∙◌, ap₂}
use lib.Dec.{eqb}
use Rattle.patterns.specs.Names.{eq_bytes}
use Rattle.symbols.proofs.Compared.{bytes_equal}
use Rattle.symbols.proofs.Parts.{symbol-room}
use Rattle.configuration.proofs.Spans.{characters_spelled, characters_room, names_in, part_name}
use Rattle.configuration.proofs.same_spelling.Goals as goal

pub bounds-a-0 : goal.bounds-a-0
bounds-a-0 c = omega (arith, symbol-room c.requires.0)

pub read32-requires : goal.read32-requires
read32-requires c = (characters_room c.requires.0 c.requires.1 c.requires.2 c.if-a-eq1.true).0

pub read32-requires-then-a-eq1 : goal.read32-requires-then-a-eq1
read32-requires-then-a-eq1 c = (characters_room c.requires.0 c.requires.1 c.requires.2 c.if-a-eq1.true).1

pub returns-then-a-eq1 : goal.returns-then-a-eq1
returns-then-a-eq1 c = λ x y. ap₂ eqb c.read32.ensures c.read32-then-a-eq1.ensures ∙ characters_spelled x y c.requires.2 c.if-a-eq1.true

pub slice_bounds-name_part-count : goal.slice_bounds-name_part-count
slice_bounds-name_part-count c = omega (arith, symbol-room c.requires.0)

pub slice_bounds-name_part-start : goal.slice_bounds-name_part-start
slice_bounds-name_part-start c = omega (arith, symbol-room c.requires.0)

pub name_part-requires : goal.name_part-requires
name_part-requires c = part_name c.args.a.now (names_in c.requires.0 c.requires.1 c.requires.2 c.if-a-eq1.false).one

pub slice_bounds-name_part-count-else-a-eq1 : goal.slice_bounds-name_part-count-else-a-eq1
slice_bounds-name_part-count-else-a-eq1 c = omega (arith, symbol-room c.requires.1)

pub slice_bounds-name_part-start-else-a-eq1 : goal.slice_bounds-name_part-start-else-a-eq1
slice_bounds-name_part-start-else-a-eq1 c = omega (arith, symbol-room c.requires.1)

pub name_part-requires-else-a-eq1 : goal.name_part-requires-else-a-eq1
name_part-requires-else-a-eq1 c = part_name c.args.b.now (names_in c.requires.0 c.requires.1 c.requires.2 c.if-a-eq1.false).two

pub returns-else-a-eq1 : goal.returns-else-a-eq1
returns-else-a-eq1 c = λ x y.
    let n = names_in x y c.requires.2 c.if-a-eq1.false in
    c.eq.ensures ∙ (bytes_equal _ _ ∙ (ap₂ eq_bytes (c.name_part.ensures (part_name c.args.a.now n.one)) (c.name_part-else-a-eq1.ensures (part_name c.args.b.now n.two)) ∙ n.same))
