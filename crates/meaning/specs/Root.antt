-- "Root: first Entry function, else the first."
use Rattle.std.specs.Prelude.{ℕ, zero, suc, List, [], ◌∷◌, map}
use Rattle.std.proofs.Math.Option
use Rattle.std.proofs.Math.Option.{Option, none, some, get_or}
use Rattle.std.proofs.Math.ListN.{get_elem?}
use Rattle.program.specs.Syntax.{Visibility, local, entry, Function, Program}

-- The place of the first Entry.
unfoldable pub entry_place : List Visibility → Option ℕ
entry_place [] = none
entry_place (entry ∷ l) = some zero
entry_place (local ∷ l) = Option.map suc (entry_place l)

unfoldable pub root_place : Program → ℕ
root_place p = get_or (entry_place (map (λ f. f.visibility) p.functions)) zero

unfoldable pub root : Program → Option Function
root p = get_elem? p.functions (root_place p)
