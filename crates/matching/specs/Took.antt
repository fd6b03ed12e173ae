-- A choice that took one term more.
use Rattle.std.specs.Prelude.{ℕ, ◌≡◌, List, ◌∷◌, ◌++◌}
use Rattle.patterns.specs.Expression.{Expression}
use Rattle.meaning.proofs.Matching.{pair, matches_all}
use Rattle.meaning.proofs.Searching.{Site, Choice, choice, bindings_at, remaining}
use Rattle.matching.specs.declared.steps.Place.{Place}
use Rattle.matching.specs.Bindings.{RunAt}
use Rattle.matching.specs.Pairs.{PairsAt}
use Rattle.matching.specs.Choices.{ChoicesAt}

-- Its binding, at a place of the new state, has another value; the search goes on behind its variable.
pub record Took (body new rest : List ℕ) (top frame stop : ℕ) (cs : List Choice) (at : ℕ) (r : Place) : Type 0 where
  pub site : Site
  pub taken : Expression
  pub left : Expression
  pub others : List Choice
  pub run : RunAt body new top frame (bindings_at site taken) at
  pub choices : ChoicesAt body new rest top stop (bindings_at site taken) at (choice site taken left ∷ others)
  pub pairs : PairsAt body new r.p r.v r.end rest (pair site.behind left) site.pending
  pub same : remaining cs ≡ matches_all (pair site.behind left ∷ site.pending) (bindings_at site taken) ++ remaining (choice site taken left ∷ others)
