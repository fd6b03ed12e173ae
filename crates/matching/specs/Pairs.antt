-- A pattern of the body and a value of the state, read in step: two places stand for a list of pairs, since brackets are entered in both.
use Rattle.std.specs.Prelude.{ℕ, ◌-◌, ◌≤◌, ◌≡◌, List, [], ◌∷◌, length, take, drop, Option, Some, None}
use Rattle.program.specs.Syntax.{Span, Name, Kind, Terms, variable}
use Rattle.program.specs.Encode.{put_terms}
use Rattle.program.specs.Limits.{Mode, ValidTerms}
use Rattle.patterns.specs.Expression.{Expression}
use Rattle.patterns.specs.Marks.{put_expression}
use Rattle.meaning.specs.Match.{Bindings}
use Rattle.meaning.proofs.Inputs.{ValidExpression}
use Rattle.meaning.proofs.Matching.{Pair, pair, matches_all}
use Rattle.matching.specs.Bindings.{HoldsAt}
use Rattle.matching.specs.declared.steps.Met.{Met}
use Rattle.matching.specs.declared.steps.Place.{Place}

-- The patterns of pairs, each with its close.
unfoldable pub put_patterns : List Pair → List ℕ → List ℕ
put_patterns [] k = k
put_patterns (x ∷ l) k = put_terms x.pattern (put_patterns l k)

-- The expressions of pairs behind another, each behind a close.
unfoldable pub put_behind : List Pair → List ℕ
put_behind [] = []
put_behind (x ∷ l) = 15 ∷ put_expression x.value (put_behind l)

abbrev pub ValidPair : Pair → Type 0
ValidPair x = ValidTerms x.pattern Mode.pattern 0 × ValidExpression x.value

abbrev pub ValidPairs : List Pair → Type 0
ValidPairs [] = Unit {0}
ValidPairs (x ∷ l) = ValidPair x × ValidPairs l

-- The pair x at two places, then those of l: the pattern from p on, before `rest`; the value from v on, up to `end`.
pub record PairsAt (body work : List ℕ) (p v end : ℕ) (rest : List ℕ) (x : Pair) (l : List Pair) : Type 0 where
  pub pattern : drop p body ≡ put_terms x.pattern (put_patterns l rest)
  pub value : take (end - v) (drop v work) ≡ put_expression x.value (put_behind l)
  pub ordered : v ≤ end
  pub within : end ≤ length work
  pub valid : ValidPair x
  pub valid-more : ValidPairs l

-- Some pairs stand at two places.
pub record SomePairs (body work : List ℕ) (p v end : ℕ) : Type 0 where
  pub rest : List ℕ
  pub first : Pair
  pub more : List Pair
  pub at : PairsAt body work p v end rest first more

-- What one token of the pattern comes to: on at two places with the same matches, the one match, or none.
pub record Onward (body work : List ℕ) (p v end : ℕ) (rest : List ℕ) (x : Pair) (l : List Pair) : Type 0 where
  pub first : Pair
  pub more : List Pair
  pub at : PairsAt body work p v end rest first more
  pub same : (b : Bindings) → matches_all (x ∷ l) b ≡ matches_all (first ∷ more) b

abbrev pub Meets : List ℕ → List ℕ → ℕ → List ℕ → Pair → List Pair → Option Met → Type 0
Meets body work end rest x l (Some (Met.On r)) = (r.end ≡ end) × Onward body work r.p r.v end rest x l
Meets body work end rest x l (Some (Met.Matched p)) = (drop p body ≡ rest) × ((b : Bindings) → matches_all (x ∷ l) b ≡ b ∷ [])
Meets body work end rest x l None = (b : Bindings) → matches_all (x ∷ l) b ≡ []

-- A variable of the pattern at two places, and what is left to match behind it.
pub record VariablePair (body work : List ℕ) (p v end : ℕ) : Type 0 where
  pub span : Span
  pub kind : Kind
  pub name : Name
  pub behind : Terms
  pub value : Expression
  pub more : List Pair
  pub rest : List ℕ
  pub at : PairsAt body work p v end rest (pair (variable span kind name behind) value) more

-- What one step comes to with the bindings b, which become d: on at two places, or no match.
pub record OnwardWith (body work : List ℕ) (p v end : ℕ) (rest : List ℕ) (x : Pair) (l : List Pair) (b d : Bindings) : Type 0 where
  pub first : Pair
  pub more : List Pair
  pub at : PairsAt body work p v end rest first more
  pub same : matches_all (x ∷ l) b ≡ matches_all (first ∷ more) d

abbrev pub MeetsWith : List ℕ → List ℕ → ℕ → List ℕ → Pair → List Pair → Bindings → Bindings → Option Place → Type 0
MeetsWith body work end rest x l b d (Some r) = (r.end ≡ end) × OnwardWith body work r.p r.v end rest x l b d
MeetsWith body work end rest x l b d None = matches_all (x ∷ l) b ≡ []

-- The value of a known variable, by the place of its binding.
pub record Held (work : List ℕ) (top at : ℕ) : Type 0 where
  pub value : Expression
  pub is : HoldsAt work top at value
