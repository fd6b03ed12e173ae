-- An accepted image whose rounds are done.
use Rattle.std.specs.Prelude.{ℕ, ◌-◌, ◌<◌, ◌≡◌, false, ◌&&◌, List, eqb, ltb, take, drop}
use Rattle.program.specs.Decode.{body_length}
use Rattle.image.specs.Parts.{Accepted}
use Rattle.meaning.specs.Dispatch.{residual_dispatches_dynamically}
use Rattle.index.specs.declared.Plan.{Plan}
use Rattle.index.specs.Layout.{marks, calls}
use Rattle.meaning.specs.Root.{root_place}
use Rattle.told.specs.Kept.{is_kept}
use Rattle.cleaning.specs.Indexed.{fell_of}
use Rattle.report.specs.Removed.{Removing}

-- The words of marks in work.
abbrev pub marks_in : Plan → List ℕ → List ℕ
marks_in p m = take (calls p - marks p) (drop (marks p) m)

-- n rounds have been told, and the sentences that never fell are marked.
pub record Delivery (image : List ℕ) (a : Accepted image) (m : List ℕ) (p : Plan) (root n : ℕ) : Type 0 where
  pub removing : Removing (take (body_length image) image) a.program m p n
  pub static : residual_dispatches_dynamically a.program ≡ false
  pub root_is : root ≡ root_place a.program
  pub marked : (s : ℕ) → is_kept (marks_in p m) s ≡ (ltb s p.sentences && eqb (fell_of p m s) 0)

pub record SomeDelivery (image m : List ℕ) (p : Plan) (root n : ℕ) : Type 0 where
  pub accepted : Accepted image
  pub delivery : Delivery image accepted m p root n
  pub few : n < 4096
