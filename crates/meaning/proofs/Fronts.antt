-- Whether an expression begins with terms equal to another's, told on trees and token by token.
use Prim.Native.Nat.{ℕ}
use native.Mathlib.Omega.{arith}
use mathlib.Core.Path.{◌≡◌, refl, sym, ap, ◌∙◌}
use mathlib.Core.Bool.{Bool, true, false, ◌&&◌, cond}
use mathlib.Core.List.{List, [], ◌∷◌}
use mathlib.Core.Option.{Option, none, some}
use Rattle.program.specs.Syntax.{Symbol}
use Rattle.patterns.specs.Symbols.{same_symbol}
use Rattle.patterns.specs.Expression.{Expression, void, atom, group, ◌⧺◌}
use Rattle.meaning.specs.Match.{same_expression}
use Rattle.meaning.specs.Inputs.{Token}
use Rattle.meaning.proofs.Inputs.{tokens_of}
use Rattle.meaning.proofs.Tokens.{Closed}

-- What is left of w behind terms equal to u's, if it begins with such.
unfoldable pub rest_after : Expression → Expression → Option Expression
rest_after void w = some w
rest_after (atom x u) void = none
rest_after (atom x u) (atom y w) = cond (same_symbol x y) (rest_after u w) none
rest_after (atom x u) (group j w) = none
rest_after (group i u) void = none
rest_after (group i u) (atom y w) = none
rest_after (group i u) (group j w) = cond (same_expression i j) (rest_after u w) none

unfoldable pub nothing_left : Option Expression → Bool
nothing_left none = false
nothing_left (some void) = true
nothing_left (some (atom x v)) = false
nothing_left (some (group u v)) = false

and_left : (t : Bool) (o : Option Expression) (b : Bool) → b ≡ nothing_left o → (t && b) ≡ nothing_left (cond t o none)
unfolding nothing_left
and_left true o b e = e
and_left false o b e = refl

-- Two expressions are the same exactly if nothing is left of one behind the other's terms.
pub same-is : (u v : Expression) → same_expression u v ≡ nothing_left (rest_after u v)
unfolding same_expression rest_after nothing_left
same-is void void = refl
same-is void (atom y w) = refl
same-is void (group j w) = refl
same-is (atom x v) void = refl
same-is (atom x v) (atom y w) = and_left (same_symbol x y) (rest_after v w) (same_expression v w) (same-is v w)
same-is (atom x v) (group j w) = refl
same-is (group i v) void = refl
same-is (group i v) (atom y w) = refl
same-is (group i v) (group j w) = and_left (same_expression i j) (rest_after v w) (same_expression v w) (same-is v w)

-- What is left stands behind a front that is the same.
pub record FrontIs (u w r : Expression) : Type 0 where
  pub front : Expression
  pub whole : w ≡ front ⧺ r
  pub same : same_expression u front ≡ true

both : {a b : Bool} → a ≡ true → b ≡ true → (a && b) ≡ true
both {a} {b} h k = ap (λ (t : Bool). t && b) h ∙ k

pub front-is : (u w r : Expression) → rest_after u w ≡ some r → FrontIs u w r
unfolding rest_after same_expression ◌⧺◌
front-is void w r e = record { front = void; whole = cc; same = refl }
front-is (atom x u) void r e = absurd (let z : ◌≡◌ {A = ℕ} 0 1 = cc in omega arith)
front-is (atom x u) (atom y w) r e = by (same_symbol x y) refl (front-is u w r) e
  where
    by : (t : Bool) → same_symbol x y ≡ t → (rest_after u w ≡ some r → FrontIs u w r) → cond t (rest_after u w) none ≡ some r → FrontIs (atom x u) (atom y w) r
    by true f h e = let k = h e in record { front = atom y k.front; whole = ap (atom y) k.whole; same = both f k.same }
    by false f h e = absurd (let z : ◌≡◌ {A = ℕ} 0 1 = cc in omega arith)
front-is (atom x u) (group j w) r e = absurd (let z : ◌≡◌ {A = ℕ} 0 1 = cc in omega arith)
front-is (group i u) void r e = absurd (let z : ◌≡◌ {A = ℕ} 0 1 = cc in omega arith)
front-is (group i u) (atom y w) r e = absurd (let z : ◌≡◌ {A = ℕ} 0 1 = cc in omega arith)
front-is (group i u) (group j w) r e = by (same_expression i j) refl (front-is u w r) e
  where
    by : (t : Bool) → same_expression i j ≡ t → (rest_after u w ≡ some r → FrontIs u w r) → cond t (rest_after u w) none ≡ some r → FrontIs (group i u) (group j w) r
    by true f h e = let k = h e in record { front = group j k.front; whole = ap (group j) k.whole; same = both f k.same }
    by false f h e = absurd (let z : ◌≡◌ {A = ℕ} 0 1 = cc in omega arith)

-- ---- token by token

unfoldable pub same_token : Token → Token → Bool
same_token (Token.symbol x) (Token.symbol y) = same_symbol x y
same_token (Token.symbol x) Token.opening = false
same_token (Token.symbol x) Token.closing = false
same_token Token.opening (Token.symbol y) = false
same_token Token.opening Token.opening = true
same_token Token.opening Token.closing = false
same_token Token.closing (Token.symbol y) = false
same_token Token.closing Token.opening = false
same_token Token.closing Token.closing = true

-- The tokens of l behind as many that are the same as ts.
unfoldable pub in_step : List Token → List Token → Option (List Token)
in_step [] l = some l
in_step (t ∷ ts) [] = none
in_step (t ∷ ts) (x ∷ l) = cond (same_token t x) (in_step ts l) none

unfoldable step_behind : List Token → Option Expression → List Token → Option (List Token)
step_behind ts none k = none
step_behind ts (some r) k = in_step ts (tokens_of r k)

behind_if : (t : Bool) (ts k : List Token) (o : Option Expression) {p : Option (List Token)} → p ≡ step_behind ts o k → cond t p none ≡ step_behind ts (cond t o none) k
unfolding step_behind
behind_if true ts k o e = e
behind_if false ts k o e = refl

-- Inside a bracket a close must be met by a close.
inside : (o : Option Expression) (ts k : List Token) {p : Option (List Token)} → in_step ts k ≡ p → step_behind (Token.closing ∷ ts) o (Token.closing ∷ k) ≡ cond (nothing_left o) p none
unfolding step_behind nothing_left in_step same_token tokens_of
inside none ts k e = refl
inside (some void) ts k e = e
inside (some (atom x v)) ts k e = refl
inside (some (group u v)) ts k e = refl

step_symbol_closed : (x : Symbol) (ts k : List Token) → Closed k → in_step (Token.symbol x ∷ ts) k ≡ none
unfolding in_step same_token
step_symbol_closed x ts [] h = refl
step_symbol_closed x ts (Token.symbol y ∷ k) h = absurd h
step_symbol_closed x ts (Token.opening ∷ k) h = absurd h
step_symbol_closed x ts (Token.closing ∷ k) h = refl

step_opening_closed : (ts k : List Token) → Closed k → in_step (Token.opening ∷ ts) k ≡ none
unfolding in_step same_token
step_opening_closed ts [] h = refl
step_opening_closed ts (Token.symbol y ∷ k) h = absurd h
step_opening_closed ts (Token.opening ∷ k) h = absurd h
step_opening_closed ts (Token.closing ∷ k) h = refl

steps : (u w : Expression) (ts k : List Token) → Closed k → in_step (tokens_of u ts) (tokens_of w k) ≡ step_behind ts (rest_after u w) k
unfolding tokens_of rest_after in_step same_token step_behind
steps void w ts k h = refl
steps (atom x u) void ts k h = step_symbol_closed x (tokens_of u ts) k h
steps (atom x u) (atom y w) ts k h = behind_if (same_symbol x y) ts k (rest_after u w) (steps u w ts k h)
steps (atom x u) (group j w) ts k h = refl
steps (group i u) void ts k h = step_opening_closed (tokens_of i (Token.closing ∷ tokens_of u ts)) k h
steps (group i u) (atom y w) ts k h = refl
steps (group i u) (group j w) ts k h =
    steps i j (Token.closing ∷ tokens_of u ts) (Token.closing ∷ tokens_of w k) tt
    ∙ (inside (rest_after i j) (tokens_of u ts) (tokens_of w k) (steps u w ts k h)
    ∙ (ap (λ (t : Bool). cond t (step_behind ts (rest_after u w) k) none) (sym (same-is i j)) ∙ behind_if (same_expression i j) ts k (rest_after u w) refl))

unfoldable pub tokens_if : Option Expression → List Token → Option (List Token)
tokens_if none k = none
tokens_if (some r) k = some (tokens_of r k)

ends_step : (o : Option Expression) (k : List Token) → step_behind [] o k ≡ tokens_if o k
unfolding step_behind tokens_if in_step
ends_step none k = refl
ends_step (some r) k = refl

-- An expression's tokens in step with another's lead to what is left of it.
pub front_in_step : (u w : Expression) (k : List Token) → Closed k → in_step (tokens_of u []) (tokens_of w k) ≡ tokens_if (rest_after u w) k
front_in_step u w k h = steps u w [] k h ∙ ends_step (rest_after u w) k
