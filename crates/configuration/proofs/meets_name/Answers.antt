-- `configuration::meets_name` meets its contract. Assumes nothing.
use native.Mathlib.Omega.{arith}
use mathlib.Core.Path.{sym, ap, ◌∙◌}
use mathlib.Core.List.{List}
use Prim.Native.Nat.{ℕ}
use Rattle.patterns.specs.Names.{caseless, same_name}
use Rattle.configuration.proofs.Tokens.{pattern-room, variable-room, variable-name, name_meets, meets-none}
use Rattle.configuration.proofs.meets_name.Goals as goal

pub bounds-s-0 : goal.bounds-s-0
bounds-s-0 c = pattern-room c.requires

pub slice_bounds-name_part-count : goal.slice_bounds-name_part-count
slice_bounds-name_part-count c = omega (arith, variable-room c.requires (omega arith) (omega arith))

pub slice_bounds-name_part-start : goal.slice_bounds-name_part-start
slice_bounds-name_part-start c = omega (arith, variable-room c.requires (omega arith) (omega arith))

pub name_part-requires : goal.name_part-requires
name_part-requires c = variable-name c.requires (omega arith) (omega arith)

pub returns-in-4-to-6 : goal.returns-in-4-to-6
returns-in-4-to-6 c = λ t. c.same_name.ensures ∙ (ap (λ (l : List ℕ). same_name l c.args.name.now) (c.name_part.ensures (variable-name t (omega arith) (omega arith))) ∙ sym (name_meets t (omega arith) (omega arith) c.args.name.now))

pub returns-in_default : goal.returns-in_default
returns-in_default c = λ t. sym (meets-none t (λ l u. omega arith) (caseless c.args.name.now))

pub returns-in_default-2 : goal.returns-in_default-2
returns-in_default-2 c = λ t. sym (meets-none t (λ l u. omega arith) (caseless c.args.name.now))
