-- Matching a pattern with an expression: all matches, in the order in which a run tries them.
use Rattle.std.specs.Prelude.{Bool, true, false, ◌&&◌, cond}
use mathlib.Core.List.{List, [], ◌∷◌, map, flat_map}
use Rattle.std.proofs.Math.Option.{Option, none, some}
use Rattle.program.specs.Syntax.{Name, Kind, s_kind, t_kind, e_kind, Terms, nil, symbol, variable, bracket, call, block}
use Rattle.patterns.specs.Names.{same_name}
use Rattle.patterns.specs.Symbols.{same_symbol}
use Rattle.patterns.specs.Equality.{eq_kind}
use Rattle.patterns.specs.Expression.{Expression, void, atom, group}

-- A variable that is bound, with its value.
pub record Binding : Type 0 where
  pub kind : Kind
  pub name : Name
  pub value : Expression

abbrev pub Bindings : Type 0
Bindings = List Binding

-- "a variable is its kind and caseless name"
unfoldable pub is_variable : Kind → Name → Binding → Bool
is_variable k n x = eq_kind k x.kind && same_name n x.name

unfoldable pub value_of : Kind → Name → Bindings → Option Expression
value_of k n [] = none
value_of k n (x ∷ b) = cond (is_variable k n x) (some x.value) (value_of k n b)

-- "Equal symbols are as above": two expressions with equal symbols at the same places.
unfoldable pub same_expression : Expression → Expression → Bool
same_expression void void = true
same_expression void (atom y w) = false
same_expression void (group j w) = false
same_expression (atom x v) void = false
same_expression (atom x v) (atom y w) = same_symbol x y && same_expression v w
same_expression (atom x v) (group j w) = false
same_expression (group i v) void = false
same_expression (group i v) (atom y w) = false
same_expression (group i v) (group j w) = same_expression i j && same_expression v w

-- The bindings once a variable meets an expression, if it may: "where it repeats it keeps the value first bound, as spelled there".
unfoldable pub meets : Option Expression → Kind → Name → Expression → Bindings → List Bindings
meets none k n v b = (record { kind = k; name = n; value = v } ∷ b) ∷ []
meets (some u) k n v b = cond (same_expression u v) (b ∷ []) []

unfoldable pub bind : Kind → Name → Expression → Bindings → List Bindings
bind k n v b = meets (value_of k n b) k n v b

-- An expression in two parts.
pub record Split : Type 0 where
  pub front : Expression
  pub rest : Expression

-- All splits, the shortest front first.
unfoldable pub splits : Expression → List Split
splits void = record { front = void; rest = void } ∷ []
splits (atom x v) = record { front = void; rest = atom x v } ∷ map (λ c. record { front = atom x c.front; rest = c.rest }) (splits v)
splits (group i v) = record { front = void; rest = group i v } ∷ map (λ c. record { front = group i c.front; rest = c.rest }) (splits v)

-- "matches with the leftmost `e.` shortest first": the bindings that each leaves. A call or a block is no pattern.
unfoldable pub matches : Terms → Expression → Bindings → List Bindings
matches nil void b = b ∷ []
matches nil (atom x w) b = []
matches nil (group u w) b = []
matches (symbol s a p) void b = []
matches (symbol s a p) (atom x w) b = cond (same_symbol a x) (matches p w b) []
matches (symbol s a p) (group u w) b = []
matches (variable s s_kind n p) void b = []
matches (variable s s_kind n p) (atom x w) b = flat_map (λ c. matches p w c) (bind s_kind n (atom x void) b)
matches (variable s s_kind n p) (group u w) b = []
matches (variable s t_kind n p) void b = []
matches (variable s t_kind n p) (atom x w) b = flat_map (λ c. matches p w c) (bind t_kind n (atom x void) b)
matches (variable s t_kind n p) (group u w) b = flat_map (λ c. matches p w c) (bind t_kind n (group u void) b)
matches (variable s e_kind n p) v b = flat_map (λ x. flat_map (λ c. matches p x.rest c) (bind e_kind n x.front b)) (splits v)
matches (bracket s i p) void b = []
matches (bracket s i p) (atom x w) b = []
matches (bracket s i p) (group u w) b = flat_map (λ c. matches p w c) (matches i u b)
matches (call s f a p) v b = []
matches (block s a c p) v b = []
