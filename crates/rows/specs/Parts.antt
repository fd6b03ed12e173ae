-- Tails of a body: "the rest of a pattern is the same image from a later byte".
use Rattle.std.specs.Prelude.{ℕ, ◌-◌, ◌≤◌, ◌≡◌, List, length, drop}
use Rattle.program.specs.Syntax.{Terms}
use Rattle.program.specs.Limits.{Mode}
use Rattle.image.specs.Parts.{TermsAt}
use Rattle.patterns.specs.Search.{One, View, view}

-- Where a tail starts: its length tells.
abbrev pub place_of : List ℕ → List ℕ → ℕ
place_of b s = length b - length s

pub record TailOf (b s : List ℕ) : Type 0 where
  pub fits : length s ≤ length b
  pub is : s ≡ drop (place_of b s) b

-- A pattern that begins with a term other than an `e.` variable.
pub record HeadAt (s : List ℕ) : Type 0 where
  pub pattern : TermsAt Mode.pattern s
  pub head : One
  pub rest : Terms
  pub is : view pattern.terms ≡ View.one head rest

-- A pattern at the start of a tail.
pub record PatternIn (b s : List ℕ) : Type 0 where
  pub tail : TailOf b s
  pub pattern : TermsAt Mode.pattern s
