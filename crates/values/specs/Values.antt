-- Expressions in marks: what stands at the start of some bytes, with whatever spans.
use Rattle.std.specs.Prelude.{ℕ, ◌+◌, ◌≤◌, ◌≡◌, Bool, true, false, List, length, drop, Option as Found, Some, None}
use Rattle.std.proofs.Math.Option.{Option, none, some}
use Rattle.patterns.specs.Expression.{Expression, void, atom, group}
use Rattle.meaning.specs.Records.{bytes_of}
use Rattle.meaning.specs.Inputs.{Token, Reading, first_token, tokens, input_of}
use Rattle.meaning.proofs.Inputs.{tokens_of}
use Rattle.meaning.proofs.Tokens.{Closed}

-- Whether there is something.
unfoldable pub is_read : {A : Type 0} → Option A → Bool
is_read none = false
is_read (some a) = true

pub record TokenAt (s : List ℕ) : Type 0 where
  pub reading : Reading
  pub is : first_token s ≡ some reading

-- An expression that is the whole of s.
pub record ValueAt (s : List ℕ) : Type 0 where
  pub expression : Expression
  pub is : input_of s ≡ some expression

-- An expression at the start of s, up to the end or to a close that no bracket of it opened.
pub record LevelAt (s : List ℕ) : Type 0 where
  pub level : Expression
  pub behind : List Token
  pub is : tokens s ≡ some (tokens_of level behind)
  pub ends : Closed behind

-- Where it ends.
pub record Ends (s : List ℕ) (v : Expression) (k : List Token) (r : ℕ) : Type 0 where
  pub bytes : r ≡ bytes_of v
  pub within : r ≤ length s
  pub left : tokens (drop r s) ≡ some k

-- An expression without its first term.
unfoldable pub rest_of : Expression → Expression
rest_of void = void
rest_of (atom x v) = v
rest_of (group u v) = v

-- A place in an expression's bytes: what is left from there on, if the other expression's terms come first.
abbrev pub FrontOf : Expression → Option Expression → Found ℕ → Type 0
FrontOf v none None = Unit {0}
FrontOf v none (Some j) = ⊥
FrontOf v (some w) None = ⊥
FrontOf v (some w) (Some j) = j + bytes_of w ≡ bytes_of v
