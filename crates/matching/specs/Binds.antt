-- A new variable bound in the state.
use Rattle.std.specs.Prelude.{ℕ, ◌+◌, ◌≤◌, ◌≡◌, List, [], ◌∷◌, ◌++◌, Option, Some, None}
use Rattle.program.specs.Syntax.{Kind, s_kind, t_kind, e_kind, variable}
use Rattle.patterns.specs.Expression.{Expression}
use Rattle.patterns.specs.Fresh.{Fits}
use Rattle.meaning.specs.Match.{Bindings}
use Rattle.meaning.proofs.Matching.{pair, bound, matches_all}
use Rattle.meaning.proofs.Searching.{Choice, choice, site}
use Rattle.matching.specs.declared.steps.Place.{Place}
use Rattle.matching.specs.Bindings.{RunAt}
use Rattle.matching.specs.Pairs.{PairsAt, VariablePair}
use Rattle.matching.specs.Choices.{ChoicesAt}
use Rattle.matching.specs.Takes.{further_if}

-- An `e.` variable is a choice, others are none.
unfoldable pub add_choice : Kind → Choice → List Choice → List Choice
add_choice s_kind c cs = cs
add_choice t_kind c cs = cs
add_choice e_kind c cs = c ∷ cs

-- The variable's binding stands at `low` of the new state, and what is left stands at two places.
pub record Binds (body work new : List ℕ) (top frame low p v end : ℕ) (q : VariablePair body work p v end) (b : Bindings) (next until : ℕ) : Type 0 where
  pub taken : Expression
  pub left : Expression
  pub fits : Fits q.kind taken
  pub run : RunAt body new top frame (bound q.kind q.name taken ∷ b) low
  pub at : PairsAt body new next until end q.rest (pair q.behind left) q.more
  pub same :
      matches_all (pair (variable q.span q.kind q.name q.behind) q.value ∷ q.more) b
      ≡ matches_all (pair q.behind left ∷ q.more) (bound q.kind q.name taken ∷ b) ++ further_if q.kind (site q.name q.behind q.more b) taken left
  pub choices :
      (stop : ℕ) (cs : List Choice) → low + 8 ≤ stop → ChoicesAt body work q.rest top stop b (low + 8) cs
      → ChoicesAt body new q.rest top stop (bound q.kind q.name taken ∷ b) low (add_choice q.kind (choice (site q.name q.behind q.more b) taken left) cs)

abbrev pub BindsAs : (body work new : List ℕ) (top frame low p v end : ℕ) → VariablePair body work p v end → Bindings → Option Place → Type 0
BindsAs body work new top frame low p v end q b (Some r) = (r.end ≡ end) × Binds body work new top frame low p v end q b r.p r.v
BindsAs body work new top frame low p v end q b None = (new ≡ work) × (matches_all (pair (variable q.span q.kind q.name q.behind) q.value ∷ q.more) b ≡ [])
