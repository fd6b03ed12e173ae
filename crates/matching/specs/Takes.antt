-- What a new variable of the pattern takes first of the value, and what is left.
use Rattle.std.specs.Prelude.{ℕ, ◌-◌, ◌≤◌, ◌≡◌, List, [], ◌∷◌, ◌++◌, take, drop, Option, Some, None}
use Rattle.program.specs.Syntax.{Kind, s_kind, t_kind, e_kind, variable}
use Rattle.patterns.specs.Expression.{Expression}
use Rattle.patterns.specs.Fresh.{Fits}
use Rattle.patterns.specs.Marks.{put_expression}
use Rattle.meaning.specs.Match.{Bindings}
use Rattle.meaning.proofs.Inputs.{ValidExpression}
use Rattle.meaning.proofs.Matching.{pair, bound, matches_all}
use Rattle.meaning.proofs.Searching.{Site, site, further}
use Rattle.matching.specs.Pairs.{put_behind, VariablePair}

-- The matches in which it takes more: an `e.` variable only.
unfoldable pub further_if : Kind → Site → Expression → Expression → List Bindings
further_if s_kind c t w = []
further_if t_kind c t w = []
further_if e_kind c t w = further c t w

-- It takes the value up to e first.
pub record Takes (body work : List ℕ) (p v end : ℕ) (q : VariablePair body work p v end) (b : Bindings) (e : ℕ) : Type 0 where
  pub taken : Expression
  pub left : Expression
  pub ordered : v ≤ e
  pub within : e ≤ end
  pub is : take (e - v) (drop v work) ≡ put_expression taken []
  pub behind : take (end - e) (drop e work) ≡ put_expression left (put_behind q.more)
  pub fits : Fits q.kind taken
  pub valid-taken : ValidExpression taken
  pub valid-left : ValidExpression left
  pub same :
      matches_all (pair (variable q.span q.kind q.name q.behind) q.value ∷ q.more) b
      ≡ matches_all (pair q.behind left ∷ q.more) (bound q.kind q.name taken ∷ b) ++ further_if q.kind (site q.name q.behind q.more b) taken left

abbrev pub TakesUntil : (body work : List ℕ) (p v end : ℕ) → VariablePair body work p v end → Bindings → Option ℕ → Type 0
TakesUntil body work p v end q b (Some e) = Takes body work p v end q b e
TakesUntil body work p v end q b None = matches_all (pair (variable q.span q.kind q.name q.behind) q.value ∷ q.more) b ≡ []
