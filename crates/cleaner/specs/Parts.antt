-- The pattern of a sentence that stands at p of a body.
use Rattle.std.specs.Prelude.{ℕ, ◌+◌, ◌≤◌, ◌≡◌, List, length, drop}
use Rattle.program.specs.Syntax.{Terms}
use Rattle.program.specs.Encode.{put_terms}
use Rattle.program.specs.Limits.{Mode, ValidTerms}

pub record PatternFrom (b : List ℕ) (p : ℕ) : Type 0 where
  pub terms : Terms
  pub rest : List ℕ
  pub within : p + 9 ≤ length b
  pub is : drop (p + 9) b ≡ put_terms terms rest
  pub valid : ValidTerms terms Mode.pattern 0
