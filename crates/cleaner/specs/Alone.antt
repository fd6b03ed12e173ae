-- An accepted image whose program is left alone.
use Rattle.std.specs.Prelude.{ℕ, ◌<◌, ◌≡◌, true, List, length}
use Rattle.program.specs.Encode.{own_sentence_count}
use Rattle.image.specs.Parts.{Accepted}
use Rattle.meaning.specs.Dispatch.{residual_dispatches_dynamically}

pub record SomeAlone (image : List ℕ) (functions sentences : ℕ) : Type 0 where
  pub accepted : Accepted image
  pub dynamic : residual_dispatches_dynamically accepted.program ≡ true
  pub functions_are : length accepted.program.functions ≡ functions
  pub sentences_are : own_sentence_count accepted.program.functions ≡ sentences
  pub few-functions : functions < 100000000000000000
  pub few-sentences : sentences < 100000000000000000
