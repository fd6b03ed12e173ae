-- `symbols::same_symbol` meets its contract: each answer follows the marks.
use native.Mathlib.Omega.{arith}
use mathlib.Core.Path.{sym, ap₂, ◌∙◌}
use lib.Dec.{eqb}
use Rattle.program.specs.Syntax.{Name}
use Rattle.patterns.specs.Names.{eq_bytes, same_name}
use Rattle.patterns.specs.Symbols.{significant}
use Rattle.symbols.proofs.Parts.{part_rest, symbol-room, two_sorts, code_at, codes_compared, identifier-at, number_at, named-at, identifiers_compared, numbers_compared}
use Rattle.symbols.proofs.same_symbol.Goals as goal

pub bounds-a-0 : goal.bounds-a-0
bounds-a-0 c = omega (arith, symbol-room c.requires.0)

pub bounds-b-0 : goal.bounds-b-0
bounds-b-0 c = omega (arith, symbol-room c.requires.1)

pub returns-then-m-b : goal.returns-then-m-b
returns-then-m-b c x y = sym (two_sorts x y c.if-m-b.true)

pub read32-requires : goal.read32-requires
read32-requires c = (code_at c.requires.0 c.in-1.is).room

pub read32-requires-in-1 : goal.read32-requires-in-1
read32-requires-in-1 c = (code_at c.requires.1 (sym c.if-m-b.false ∙ c.in-1.is)).room

pub returns-in-1 : goal.returns-in-1
returns-in-1 c x y =
    ap₂ eqb c.read32.ensures c.read32-in-1.ensures
    ∙ codes_compared (code_at x c.in-1.is) (code_at y (sym c.if-m-b.false ∙ c.in-1.is))

pub slice_bounds-name_part-count : goal.slice_bounds-name_part-count
slice_bounds-name_part-count c = omega (arith, symbol-room c.requires.0)

pub slice_bounds-name_part-start : goal.slice_bounds-name_part-start
slice_bounds-name_part-start c = omega (arith, symbol-room c.requires.0)

pub name_part-requires : goal.name_part-requires
name_part-requires c = rw part_rest (named-at c.requires.0 (λ e. omega arith))

pub slice_bounds-name_part-count-in-2 : goal.slice_bounds-name_part-count-in-2
slice_bounds-name_part-count-in-2 c = omega (arith, symbol-room c.requires.1)

pub slice_bounds-name_part-start-in-2 : goal.slice_bounds-name_part-start-in-2
slice_bounds-name_part-start-in-2 c = omega (arith, symbol-room c.requires.1)

pub name_part-requires-in-2 : goal.name_part-requires-in-2
name_part-requires-in-2 c = rw part_rest (named-at c.requires.1 (λ e. omega arith))

pub returns-in-2 : goal.returns-in-2
returns-in-2 c x y =
    let n = identifier-at x c.in-2.is in
    let m = identifier-at y (sym c.if-m-b.false ∙ c.in-2.is) in
    c.same_name.ensures
    ∙ ap₂ same_name ((rw part_rest at c.name_part.ensures) n.name) ((rw part_rest at c.name_part-in-2.ensures) m.name)
    ∙ identifiers_compared n m

pub slice_bounds-name_part-count-in_default : goal.slice_bounds-name_part-count-in_default
slice_bounds-name_part-count-in_default c = omega (arith, symbol-room c.requires.0)

pub slice_bounds-name_part-start-in_default : goal.slice_bounds-name_part-start-in_default
slice_bounds-name_part-start-in_default c = omega (arith, symbol-room c.requires.0)

pub name_part-requires-in_default : goal.name_part-requires-in_default
name_part-requires-in_default c = rw part_rest (named-at c.requires.0 (λ e. omega arith))

pub slice_bounds-name_part-count-in_default-2 : goal.slice_bounds-name_part-count-in_default-2
slice_bounds-name_part-count-in_default-2 c = omega (arith, symbol-room c.requires.1)

pub slice_bounds-name_part-start-in_default-2 : goal.slice_bounds-name_part-start-in_default-2
slice_bounds-name_part-start-in_default-2 c = omega (arith, symbol-room c.requires.1)

pub name_part-requires-in_default-2 : goal.name_part-requires-in_default-2
name_part-requires-in_default-2 c = rw part_rest (named-at c.requires.1 (λ e. omega arith))

pub returns-in_default : goal.returns-in_default
returns-in_default c x y =
    let n = number_at x (λ e. omega arith) (λ e. omega arith) in
    let m = number_at y (λ e. omega arith) (λ e. omega arith) in
    c.same_number.ensures
    ∙ ap₂ (λ (n m : Name). eq_bytes (significant n) (significant m)) ((rw part_rest at c.name_part-in_default.ensures) n.name) ((rw part_rest at c.name_part-in_default-2.ensures) m.name)
    ∙ numbers_compared n m
