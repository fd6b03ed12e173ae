-- The parts that a search goes on with are smaller than what it is given.
use Prim.Native.Nat.{ℕ, zero, suc, ◌+◌, ◌<◌, ◌≤◌}
use native.Mathlib.Omega.{arith}
use native.Mathlib.Nat.{le_refl, le_trans}
use mathlib.Core.List.{List, [], ◌∷◌}
use Rattle.program.specs.Syntax.{s_kind, t_kind, e_kind, Terms, nil, symbol, variable, bracket, call, block}
use Rattle.patterns.specs.Search.{One, View, view, ends, size}

abbrev pub one_size : One → ℕ
one_size (One.literal x) = 0
one_size One.any-symbol = 0
one_size One.any_term = 0
one_size One.no-pattern = 0
one_size (One.brackets i) = size i

-- What a view holds is smaller than n.
abbrev pub Below : ℕ → View → Type 0
Below n View.nothing = Unit {0}
Below n (View.absorbing r) = size r < n
Below n (View.one o r) = one_size o + size r < n

pub view-below : (a : Terms) → Below (size a) (view a)
unfolding view size
view-below nil = tt
view-below (symbol s x r) = omega arith
view-below (variable s s_kind n r) = omega arith
view-below (variable s t_kind n r) = omega arith
view-below (variable s e_kind n r) = omega arith
view-below (bracket s i r) = omega arith
view-below (call s f a r) = omega arith
view-below (block s a b r) = omega arith

-- Every element of a list is of size at most n.
abbrev pub AllWithin : ℕ → List Terms → Type 0
AllWithin n [] = Unit {0}
AllWithin n (o ∷ os) = (size o ≤ n) × AllWithin n os

within-later : (n m : ℕ) (os : List Terms) → n ≤ m → AllWithin n os → AllWithin m os
within-later n m [] l h = tt
within-later n m (o ∷ os) l h = (le_trans h.0 l, within-later n m os l h.1)

pub ends-within : (a : Terms) → AllWithin (size a) (ends a)
unfolding ends size
ends-within nil = (le_refl 0, tt)
ends-within (symbol s x r) = (le_refl _, within-later (size r) _ (ends r) (omega arith) (ends-within r))
ends-within (variable s k n r) = (le_refl _, within-later (size r) _ (ends r) (omega arith) (ends-within r))
ends-within (bracket s i r) = (le_refl _, within-later (size r) _ (ends r) (omega arith) (ends-within r))
ends-within (call s f a r) = (le_refl _, within-later (size r) _ (ends r) (omega arith) (ends-within r))
ends-within (block s a b r) = (le_refl _, within-later (size r) _ (ends r) (omega arith) (ends-within r))

-- Induction on the sizes of two sequences.
pub by_size : (P : Terms → Terms → Type 0) → ((n : ℕ) → ((a b : Terms) → size a + size b < n → P a b) → (a b : Terms) → size a + size b < suc n → P a b) → (a b : Terms) → P a b
by_size P step a b = below (suc (size a + size b)) a b (le_refl _)
  where
    below : (n : ℕ) (a b : Terms) → size a + size b < n → P a b
    below zero a b l = absurd (omega arith)
    below (suc n) a b l = step n (below n) a b l
