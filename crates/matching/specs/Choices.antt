-- The choices that bound `e.` variables are: each may take more of the value that its pattern meets.
use Rattle.std.specs.Prelude.{ℕ, ◌+◌, ◌-◌, ◌<◌, ◌≤◌, ◌≡◌, ◌⊎◌, Bool, ◌&&◌, not, List, [], ◌∷◌, ◌++◌, eqb, length, get_or, take, drop, Option, Some, None}
use Rattle.program.specs.Syntax.{Kind, s_kind, t_kind, e_kind}
use Rattle.program.specs.Bytes.{get16}
use Rattle.program.specs.Encode.{put_terms}
use Rattle.patterns.specs.Expression.{void}
use Rattle.patterns.specs.Marks.{put_expression}
use Rattle.meaning.specs.Match.{Binding, Bindings}
use Rattle.meaning.proofs.Matching.{pair}
use Rattle.meaning.proofs.Searching.{Choice, remaining, further}
use Rattle.matching.specs.Bindings.{VariableAt, RunAt}
use Rattle.matching.specs.Pairs.{put_patterns, put_behind, ValidPair, ValidPairs}

-- The binding x at a place, before which b was bound, is the choice c.
pub record ChoiceAt (body work rest : List ℕ) (top at : ℕ) (x : Binding) (b : Bindings) (c : Choice) : Type 0 where
  pub name : c.site.name ≡ x.name
  pub before : c.site.before ≡ b
  pub taken : c.taken ≡ x.value
  pub pattern : (w : VariableAt (drop (get16 work at) body)) → w.rest ≡ put_terms c.site.behind (put_patterns c.site.pending rest)
  pub value : take (get16 work (at + 6) - get16 work (at + 4)) (drop (get16 work (at + 4)) work) ≡ put_expression c.left (put_behind c.site.pending)
  pub ordered : get16 work (at + 4) ≤ get16 work (at + 6)
  pub within : get16 work (at + 6) ≤ top
  pub valid : ValidPair (pair c.site.behind c.left)
  pub valid-more : ValidPairs c.site.pending

-- An `e.` variable is the newest choice, others are none.
abbrev pub ByKind : Kind → (Choice → Type 0) → (List Choice → Type 0) → List Choice → Type 0
ByKind s_kind P R cs = R cs
ByKind t_kind P R cs = R cs
ByKind e_kind P R cs = (c : Choice) × (ds : List Choice) × (cs ≡ c ∷ ds) × P c × R ds

-- The choices of the bindings from a place up to `stop`, the newest first.
abbrev pub ChoicesAt : List ℕ → List ℕ → List ℕ → ℕ → ℕ → Bindings → ℕ → List Choice → Type 0
ChoicesAt body work rest top stop [] at cs = (at ≡ stop) × (cs ≡ [])
ChoicesAt body work rest top stop (x ∷ b) at cs = ((at ≡ stop) × (cs ≡ [])) ⊎ ((at + 8 ≤ stop) × ByKind x.kind (ChoiceAt body work rest top at x b) (ChoicesAt body work rest top stop b (at + 8)) cs)

-- Bindings and their choices.
pub record SomeChoices (body work : List ℕ) (top frame stop at : ℕ) : Type 0 where
  pub rest : List ℕ
  pub bindings : Bindings
  pub run : RunAt body work top frame bindings at
  pub choices : List Choice
  pub is : ChoicesAt body work rest top stop bindings at choices

-- Whether the binding at a place is an `e.` variable's that can take a term more: told by its mark, and by what stands where its value ends.
unfoldable pub can_take : List ℕ → List ℕ → ℕ → Bool
can_take body work at = eqb (get_or body (get16 work at) 0) 6 && (not (eqb (get16 work (at + 4)) (get16 work (at + 6))) && not (eqb (get_or work (get16 work (at + 4)) 0) 15))

-- What is asked to tell it.
pub record Readable (body work : List ℕ) (at : ℕ) : Type 0 where
  pub place : get16 work at < length body
  pub room : at + 8 ≤ length work
  pub end : get_or body (get16 work at) 0 ≡ 6 → (get16 work (at + 4) ≤ get16 work (at + 6)) × (get16 work (at + 6) ≤ length work)

-- The newest choice that can take more, with the matches still to come; where there is none, none is left.
pub record Newest (body work rest : List ℕ) (top frame stop : ℕ) (cs : List Choice) (at : ℕ) : Type 0 where
  pub first : Binding
  pub more : Bindings
  pub run : RunAt body work top frame (first ∷ more) at
  pub kind : first.kind ≡ e_kind
  pub choice : Choice
  pub others : List Choice
  pub here : ChoiceAt body work rest top at first more choice
  pub behind : ChoicesAt body work rest top stop more (at + 8) others
  pub some_left : choice.left ≡ void → ⊥
  pub same : remaining cs ≡ further choice.site choice.taken choice.left ++ remaining others

abbrev pub NewestAt : List ℕ → List ℕ → List ℕ → ℕ → ℕ → ℕ → List Choice → Option ℕ → Type 0
NewestAt body work rest top frame stop cs None = remaining cs ≡ []
NewestAt body work rest top frame stop cs (Some r) = (r < stop) × Newest body work rest top frame stop cs r

pub record SomeNewest (body work : List ℕ) (top frame stop at : ℕ) : Type 0 where
  pub rest : List ℕ
  pub choices : List Choice
  pub is : Newest body work rest top frame stop choices at
