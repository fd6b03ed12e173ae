-- The entries behind the columns of work, which searches use as they like: "a part of work in Clean".
use Rattle.std.specs.Prelude.{ℕ, ◌<◌, ◌≡◌, List, length, get_or}
use Rattle.index.specs.declared.Plan.{Plan}
use Rattle.index.specs.Layout.{room}

-- Verdicts have been asked: the columns are as they were.
pub record Used (p : Plan) (old new : List ℕ) : Type 0 where
  pub length : length new ≡ length old
  pub columns : (k : ℕ) → k < room p → get_or new k 0 ≡ get_or old k 0
