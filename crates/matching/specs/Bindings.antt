-- Bindings in the bytes of a run's state: each is four numbers of 16 bits, the newest lowest.
use Rattle.std.specs.Prelude.{ℕ, ◌+◌, ◌-◌, ◌≤◌, ◌≡◌, false, List, [], ◌∷◌, take, drop, Option as Found, Some, None}
use Rattle.std.proofs.Math.Option.{Option, none, some}
use Rattle.program.specs.Syntax.{Span, Name, Kind}
use Rattle.program.specs.Bytes.{put_span, put_name, put16, get16}
use Rattle.program.specs.Encode.{kind_mark}
use Rattle.program.specs.Limits.{ValidName}
use Rattle.patterns.specs.Expression.{Expression}
use Rattle.patterns.specs.Marks.{put_expression}
use Rattle.meaning.specs.Match.{Binding, Bindings}
use Rattle.meaning.proofs.Inputs.{ValidExpression}

-- s begins with a variable of a pattern, mark and span included.
pub record VariableAt (s : List ℕ) : Type 0 where
  pub span : Span
  pub kind : Kind
  pub name : Name
  pub rest : List ℕ
  pub is : s ≡ kind_mark kind ∷ put_span span (put_name name rest)
  pub valid : ValidName false name

-- The place of the variable in the body, where its value begins and ends, and where the expression ends that its pattern meets.
unfoldable pub put_binding : ℕ → ℕ → ℕ → ℕ → List ℕ → List ℕ
put_binding place from until end k = put16 place (put16 from (put16 until (put16 end k)))

-- The four numbers at a place.
pub record Numbers (work : List ℕ) (at a b c d : ℕ) : Type 0 where
  pub place : get16 work at ≡ a
  pub from : get16 work (at + 2) ≡ b
  pub until : get16 work (at + 4) ≡ c
  pub end : get16 work (at + 6) ≡ d

-- The value of the binding at a place: all values lie below `top`.
pub record HoldsAt (work : List ℕ) (top at : ℕ) (u : Expression) : Type 0 where
  pub ordered : get16 work (at + 2) ≤ get16 work (at + 4)
  pub within : get16 work (at + 4) ≤ top
  pub is : take (get16 work (at + 4) - get16 work (at + 2)) (drop (get16 work (at + 2)) work) ≡ put_expression u []
  pub valid : ValidExpression u

pub record BindingAt (body work : List ℕ) (top at : ℕ) (x : Binding) : Type 0 where
  pub variable : VariableAt (drop (get16 work at) body)
  pub kind : variable.kind ≡ x.kind
  pub name : variable.name ≡ x.name
  pub holds : HoldsAt work top at x.value

-- Bindings one after another, from a place up to `frame`.
abbrev pub RunAt : List ℕ → List ℕ → ℕ → ℕ → Bindings → ℕ → Type 0
RunAt body work top frame [] at = at ≡ frame
RunAt body work top frame (x ∷ b) at = (at + 8 ≤ frame) × BindingAt body work top at x × RunAt body work top frame b (at + 8)

pub record Run (body work : List ℕ) (top frame at : ℕ) : Type 0 where
  pub bindings : Bindings
  pub is : RunAt body work top frame bindings at

-- A place is that of the binding which holds a value; there is none for no value.
abbrev pub Known : List ℕ → ℕ → ℕ → Found ℕ → Option Expression → Type 0
Known work top frame None none = Unit {0}
Known work top frame None (some u) = ⊥
Known work top frame (Some r) none = ⊥
Known work top frame (Some r) (some u) = (r + 8 ≤ frame) × HoldsAt work top r u
