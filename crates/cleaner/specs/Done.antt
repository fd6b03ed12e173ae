-- Work when the rounds of a program are done.
use Rattle.std.specs.Prelude.{ℕ, ◌≡◌, ◌&&◌, List, eqb, ltb}
use Rattle.program.specs.Syntax.{Program}
use Rattle.index.specs.declared.Plan.{Plan}
use Rattle.meaning.specs.Root.{root_place}
use Rattle.told.specs.Kept.{is_kept}
use Rattle.cleaning.specs.Indexed.{fell_of}
use Rattle.report.specs.Removed.{Removing}
use Rattle.cleaner.specs.Delivery.{marks_in}

-- n rounds have been told, the root's place is known, and the sentences that never fell are marked.
pub record Done (b : List ℕ) (w : Program) (m : List ℕ) (p : Plan) (root n : ℕ) : Type 0 where
  pub removing : Removing b w m p n
  pub root_is : root ≡ root_place w
  pub marked : (s : ℕ) → is_kept (marks_in p m) s ≡ (ltb s p.sentences && eqb (fell_of p m s) 0)
