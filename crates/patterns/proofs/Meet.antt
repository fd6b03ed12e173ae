-- The meeting of two patterns unfolds as the search does: the bound on its depth is never met.
use Prim.Native.Nat.{ℕ, zero, suc, ◌+◌, ◌<◌}
use native.Mathlib.Omega.{arith}
use mathlib.Core.Path.{◌≡◌, refl, ap, ap₂}
use mathlib.Core.Bool.{Bool, not}
use mathlib.Core.List.{List, [], ◌∷◌}
use Rattle.program.specs.Syntax.{character, identifier, s_kind, t_kind, e_kind, Terms, nil, bracket}
use Rattle.patterns.specs.Expression.{Expression, void, atom, group, ◌⧺◌}
use Rattle.patterns.specs.Search.{One, View, view, ends, start, size, sequence, leftover_overlap, splits_from, absorbing_split, literal_overlap, overlap_of_terms, entered, enter, search_to}
use Rattle.patterns.specs.Meet.{letter, free, free_one, before, Meeting, if_overlap, meet_splits, meet_of_terms, meet_entered, meet_enter, meet_to, meet_sequence, meet}
use Rattle.patterns.specs.Ascii.{ascii}
use Rattle.patterns.specs.Names.{lower, caseless, eq_bytes}
use Rattle.patterns.specs.Symbols.{key, eq_symbol, same_symbol}
use Rattle.patterns.specs.Table.{nowhere, char, ident, var}
use Rattle.patterns.proofs.Size.{one_size, Below, view-below, AllWithin, ends-within}

abbrev Agree : ℕ → Meeting → Meeting → Type 0
Agree n one other = (c : Bool) (f : ℕ) (a b : Terms) → size a + size b < n → one c f a b ≡ other c f a b

module _ (n : ℕ) (one other : Meeting) (agree : Agree n one other) where
  splits_agree : (os : List Terms) (m : ℕ) (c : Bool) (r : Terms) (f : ℕ) → AllWithin m os → size r + m < n → meet_splits one c r os f ≡ meet_splits other c r os f
  unfolding meet_splits
  splits_agree [] m c r f h l = refl
  splits_agree (o ∷ os) m c r f h l =
      ap₂ (λ (v w : Expression). if_overlap (sequence f r o).verdict v (before (view o) w)) (agree c f r o (omega (arith, h.0))) (splits_agree os m c r (sequence f r o).fuel h.1 l)

  terms_agree : (c : Bool) (x y : One) → one_size x + one_size y < n → meet_of_terms one c x y ≡ meet_of_terms other c x y
  unfolding meet_of_terms
  terms_agree c (One.literal x) (One.literal y) l = refl
  terms_agree c (One.literal x) One.any-symbol l = refl
  terms_agree c (One.literal x) One.any_term l = refl
  terms_agree c (One.literal x) One.no-pattern l = refl
  terms_agree c (One.literal x) (One.brackets j) l = refl
  terms_agree c One.any-symbol y l = refl
  terms_agree c One.any_term y l = refl
  terms_agree c One.no-pattern y l = refl
  terms_agree c (One.brackets i) (One.literal y) l = refl
  terms_agree c (One.brackets i) One.any-symbol l = refl
  terms_agree c (One.brackets i) One.any_term l = refl
  terms_agree c (One.brackets i) One.no-pattern l = refl
  terms_agree c (One.brackets i) (One.brackets j) l = ap (λ (v : Expression). group v void) (agree c start i j l)

  entered_agree : (c : Bool) (x y : View) (a b : Terms) (f : ℕ) → size a + size b < suc n → Below (size a) x → Below (size b) y
      → meet_entered one c x y a b f ≡ meet_entered other c x y a b f
  unfolding meet_entered
  entered_agree c View.nothing y a b f l h k = refl
  entered_agree c (View.absorbing r) View.nothing a b f l h k = refl
  entered_agree c (View.absorbing r) (View.absorbing s) a b f l h k = splits_agree (ends b) (size b) c r f (ends-within b) (omega arith)
  entered_agree c (View.absorbing r) (View.one y s) a b f l h k = splits_agree (ends b) (size b) c r f (ends-within b) (omega arith)
  entered_agree c (View.one x r) View.nothing a b f l h k = refl
  entered_agree c (View.one x r) (View.absorbing s) a b f l h k = splits_agree (ends a) (size a) (not c) s f (ends-within a) (omega arith)
  entered_agree c (View.one x r) (View.one y s) a b f l h k = ap₂ ◌⧺◌ (terms_agree c x y (omega arith)) (agree c f r s (omega arith))

  enter_agree : (c : Bool) (f : ℕ) (a b : Terms) → size a + size b < suc n → meet_enter one c f a b ≡ meet_enter other c f a b
  unfolding meet_enter
  enter_agree c zero a b l = refl
  enter_agree c (suc f) a b l = entered_agree c (view a) (view b) a b f l (view-below a) (view-below b)

depth : (d e : ℕ) (c : Bool) (f : ℕ) (a b : Terms) → size a + size b < d → size a + size b < e → meet_to d c f a b ≡ meet_to e c f a b
unfolding meet_to
depth zero e c f a b l m = absurd (omega arith)
depth (suc d) zero c f a b l m = absurd (omega arith)
depth (suc d) (suc e) c f a b l m =
    enter_agree (size a + size b) (meet_to d) (meet_to e) (λ z g i j k. depth d e z g i j (omega arith) (omega arith)) c f a b (omega arith)

pub unfold_meet : (c : Bool) (f : ℕ) (a b : Terms) → meet_sequence c f a b ≡ meet_enter meet_sequence c f a b
unfolding meet_sequence meet_to
unfold_meet c f a b =
    enter_agree (size a + size b) (meet_to (size a + size b)) meet_sequence
    (λ z g i j k. depth (size a + size b) (suc (size i + size j)) z g i j k (omega arith)) c f a b (omega arith)

-- "identifiers and numbers are spelled as in the first pattern", also where the second sequence has become the first; a bracket beats `t.`, and what is free inside it is the character A.
pub meet_examples :
    (meet (ident "Abc" (var e_kind "Y" nil)) (var e_kind "X" (ident "ABC" nil)) ≡ atom (identifier (ascii "Abc")) void)
    × (meet (var e_kind "X" (ident "ABC" nil)) (ident "Abc" (var e_kind "Y" nil)) ≡ atom (identifier (ascii "ABC")) void)
    × (meet (var t_kind "X" (var e_kind "Y" nil)) (bracket nowhere (var s_kind "Z" nil) (char "B" nil)) ≡ group (atom (character 65) void) (atom (character 66) void))
unfolding meet meet_sequence meet_to meet_enter meet_entered meet_splits meet_of_terms before free_one free letter ◌⧺◌ sequence search_to size enter entered view absorbing_split splits_from ends leftover_overlap overlap_of_terms literal_overlap same_symbol key eq_symbol eq_bytes caseless lower char ident var nowhere ascii
meet_examples = (refl, refl, refl)
