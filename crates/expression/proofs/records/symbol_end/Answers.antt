-- `expression::records::symbol_end` meets its contract. Assumes nothing.
use native.Mathlib.Omega.{arith}
use mathlib.Core.Path.{refl}
use Rattle.symbols.proofs.Parts.{symbol-room}
use Rattle.expression.proofs.Symbols.{code-end, name-end}
use Rattle.expression.proofs.records.symbol_end.Goals as goal

pub bounds-s-0 : goal.bounds-s-0
bounds-s-0 c = omega (arith, symbol-room c.requires)

pub returns-then-s-eq1 : goal.returns-then-s-eq1
returns-then-s-eq1 c = λ x. code-end x c.if-s-eq1.true

pub bounds-s-9 : goal.bounds-s-9
bounds-s-9 c = omega (arith, symbol-room c.requires)

pub overflow_cast-result : goal.overflow_cast-result
overflow_cast-result c = omega (arith, c.type_inv.s 9)

pub overflow_add-result : goal.overflow_add-result
overflow_add-result c = omega (arith, c.type_inv.s 9)

pub returns : goal.returns
returns c = λ x. name-end x c.if-s-eq1.false _ refl
