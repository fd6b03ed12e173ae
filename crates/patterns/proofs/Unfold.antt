-- The depth of `search_to` never matters, so that the search is one entry of itself.
use Prim.Native.Nat.{ℕ, zero, suc, ◌+◌, ◌<◌}
use native.Mathlib.Omega.{arith}
use mathlib.Core.Path.{◌≡◌, refl, sym, ap, ap₂, fun_ext, ◌∙◌, subst}
use mathlib.Core.List.{List, [], ◌∷◌}
use Rattle.program.specs.Syntax.{s_kind, t_kind, e_kind, Terms, nil, symbol, variable, bracket, call, block}
use Rattle.patterns.specs.declared.Verdict.{Verdict}
use Rattle.patterns.specs.declared.Verdict.TheVariants.{Disjoint, Overlap, Unknown}
use Rattle.patterns.specs.declared.Found.{Found}
use Rattle.patterns.specs.Search.{found, Searching, One, View, view, leftover_overlap, ends, after_split, splits_from, absorbing_split, overlap_of_terms, start, after_heads, entered, enter, size, search_to, sequence}
use Rattle.patterns.proofs.Size.{one_size, Below, view-below, AllWithin, ends-within}

-- The two answer alike on sequences whose sizes are together below n.
abbrev Agree : ℕ → Searching → Searching → Type 0
Agree n search other = (f : ℕ) (a b : Terms) → size a + size b < n → search f a b ≡ other f a b

module _ (n : ℕ) (search other : Searching) (agree : Agree n search other) where
  splits_agree : (os : List Terms) (m : ℕ) (r : Terms) (v : Verdict) (f : ℕ) → AllWithin m os → size r + m < n → splits_from search r os v f ≡ splits_from other r os v f
  unfolding splits_from
  splits_agree [] m r v f h l = refl
  splits_agree (o ∷ os) m r v f h l =
      ap₂ (λ (q : Found) (next : Verdict → ℕ → Found). after_split q.verdict q.fuel v next) (agree f r o (omega (arith, h.0)))
      (fun_ext (λ w. fun_ext (λ g. splits_agree os m r w g h.1 l)))

  split_agree : (f : ℕ) (r b : Terms) → size r + size b < n → absorbing_split search f r b ≡ absorbing_split other f r b
  unfolding absorbing_split
  split_agree f r b l = splits_agree (ends b) (size b) r Disjoint f (ends-within b) l

  terms_agree : (x y : One) → one_size x + one_size y < n → overlap_of_terms search x y ≡ overlap_of_terms other x y
  unfolding overlap_of_terms
  terms_agree (One.literal x) (One.literal y) l = refl
  terms_agree (One.literal x) One.any-symbol l = refl
  terms_agree (One.literal x) One.any_term l = refl
  terms_agree (One.literal x) One.no-pattern l = refl
  terms_agree (One.literal x) (One.brackets j) l = refl
  terms_agree One.any-symbol (One.literal y) l = refl
  terms_agree One.any-symbol One.any-symbol l = refl
  terms_agree One.any-symbol One.any_term l = refl
  terms_agree One.any-symbol One.no-pattern l = refl
  terms_agree One.any-symbol (One.brackets j) l = refl
  terms_agree One.any_term (One.literal y) l = refl
  terms_agree One.any_term One.any-symbol l = refl
  terms_agree One.any_term One.any_term l = refl
  terms_agree One.any_term One.no-pattern l = refl
  terms_agree One.any_term (One.brackets j) l = refl
  terms_agree One.no-pattern y l = refl
  terms_agree (One.brackets i) (One.literal y) l = refl
  terms_agree (One.brackets i) One.any-symbol l = refl
  terms_agree (One.brackets i) One.any_term l = refl
  terms_agree (One.brackets i) One.no-pattern l = refl
  terms_agree (One.brackets i) (One.brackets j) l = ap (λ (q : Found). q.verdict) (agree start i j l)

  entered_agree : (x y : View) (a b : Terms) (f : ℕ) → size a + size b < suc n → Below (size a) x → Below (size b) y → entered search x y a b f ≡ entered other x y a b f
  unfolding entered
  entered_agree View.nothing View.nothing a b f l h k = refl
  entered_agree View.nothing (View.absorbing s) a b f l h k = refl
  entered_agree View.nothing (View.one y s) a b f l h k = refl
  entered_agree (View.absorbing r) View.nothing a b f l h k = refl
  entered_agree (View.absorbing r) (View.absorbing s) a b f l h k = split_agree f r b (omega arith)
  entered_agree (View.absorbing r) (View.one y s) a b f l h k = split_agree f r b (omega arith)
  entered_agree (View.one x r) View.nothing a b f l h k = refl
  entered_agree (View.one x r) (View.absorbing s) a b f l h k = split_agree f s a (omega arith)
  entered_agree (View.one x r) (View.one y s) a b f l h k =
      ap₂ (λ (w : Verdict) (tails : ℕ → Found). after_heads w f tails) (terms_agree x y (omega arith)) (fun_ext (λ g. agree g r s (omega arith)))

  enter_agree : (f : ℕ) (a b : Terms) → size a + size b < suc n → enter search f a b ≡ enter other f a b
  unfolding enter
  enter_agree zero a b l = refl
  enter_agree (suc f) a b l = entered_agree (view a) (view b) a b f l (view-below a) (view-below b)

-- Any depth above the sizes gives the same.
depth : (d e f : ℕ) (a b : Terms) → size a + size b < d → size a + size b < e → search_to d f a b ≡ search_to e f a b
unfolding search_to
depth zero e f a b l m = absurd (omega arith)
depth (suc d) zero f a b l m = absurd (omega arith)
depth (suc d) (suc e) f a b l m =
    enter_agree (size a + size b) (search_to d) (search_to e) (λ g i j k. depth d e g i j (omega arith) (omega arith)) f a b (omega arith)

pub unfold_sequence : (f : ℕ) (a b : Terms) → sequence f a b ≡ enter sequence f a b
unfolding sequence search_to
unfold_sequence f a b =
    enter_agree (size a + size b) (search_to (size a + size b)) sequence
    (λ g i j k. depth (size a + size b) (suc (size i + size j)) g i j k (omega arith)) f a b (omega arith)

-- The same for fuel 0 and for fuel to spend.
pub no_fuel : (a b : Terms) → sequence 0 a b ≡ found Unknown 0
unfolding enter
no_fuel a b = unfold_sequence 0 a b

pub spend_one : (f : ℕ) (a b : Terms) → sequence (suc f) a b ≡ entered sequence (view a) (view b) a b f
unfolding enter
spend_one f a b = unfold_sequence (suc f) a b

-- A sequence that is not empty.
abbrev Begins : View → Type 0
Begins View.nothing = ⊥
Begins (View.absorbing r) = Unit {0}
Begins (View.one x r) = Unit {0}

pub absorbing-begins : {r : Terms} → View.absorbing r ≡ View.nothing → ⊥
absorbing-begins e = subst Begins e tt

pub one-begins : {x : One} {r : Terms} → View.one x r ≡ View.nothing → ⊥
one-begins e = subst Begins e tt

-- What is left over, by what a sequence begins with.
abbrev LeftoverBy : View → Verdict → Type 0
LeftoverBy View.nothing v = v ≡ Overlap
LeftoverBy (View.absorbing r) v = v ≡ leftover_overlap r
LeftoverBy (View.one x r) v = v ≡ Disjoint

leftover_by : (a : Terms) → LeftoverBy (view a) (leftover_overlap a)
unfolding view leftover_overlap
leftover_by nil = refl
leftover_by (symbol s x r) = refl
leftover_by (variable s s_kind n r) = refl
leftover_by (variable s t_kind n r) = refl
leftover_by (variable s e_kind n r) = refl
leftover_by (bracket s i r) = refl
leftover_by (call s f a r) = refl
leftover_by (block s a b r) = refl

pub leftover_view : (a : Terms) (x : View) → view a ≡ x → LeftoverBy x (leftover_overlap a)
leftover_view a x e = subst (λ (y : View). LeftoverBy y (leftover_overlap a)) e (leftover_by a)

-- The same by what the sequences begin with.
by_views : (f : ℕ) (a b : Terms) (x y : View) → view a ≡ x → view b ≡ y → sequence (suc f) a b ≡ entered sequence x y a b f
by_views f a b x y ea eb = spend_one f a b ∙ ap₂ (λ (z w : View). entered sequence z w a b f) ea eb

pub empty-first : (f : ℕ) (a b : Terms) → view a ≡ View.nothing → sequence (suc f) a b ≡ found (leftover_overlap b) f
unfolding entered
empty-first f a b e = go (view b) refl
  where
    go : (y : View) → view b ≡ y → sequence (suc f) a b ≡ found (leftover_overlap b) f
    go View.nothing h = by_views f a b View.nothing View.nothing e h ∙ ap (λ (v : Verdict). found v f) (sym (leftover_view b View.nothing h))
    go (View.absorbing s) h = by_views f a b View.nothing (View.absorbing s) e h
    go (View.one y s) h = by_views f a b View.nothing (View.one y s) e h

pub empty-second : (f : ℕ) (a b : Terms) → view b ≡ View.nothing → sequence (suc f) a b ≡ found (leftover_overlap a) f
unfolding entered
empty-second f a b e = go (view a) refl
  where
    go : (x : View) → view a ≡ x → sequence (suc f) a b ≡ found (leftover_overlap a) f
    go View.nothing h = by_views f a b View.nothing View.nothing h e ∙ ap (λ (v : Verdict). found v f) (sym (leftover_view a View.nothing h))
    go (View.absorbing r) h = by_views f a b (View.absorbing r) View.nothing h e
    go (View.one x r) h = by_views f a b (View.one x r) View.nothing h e

pub first_absorbs : (f : ℕ) (a b r : Terms) → view a ≡ View.absorbing r → (view b ≡ View.nothing → ⊥) → sequence (suc f) a b ≡ absorbing_split sequence f r b
unfolding entered
first_absorbs f a b r e n = go (view b) refl
  where
    go : (y : View) → view b ≡ y → sequence (suc f) a b ≡ absorbing_split sequence f r b
    go View.nothing h = absurd (n h)
    go (View.absorbing s) h = by_views f a b (View.absorbing r) (View.absorbing s) e h
    go (View.one y s) h = by_views f a b (View.absorbing r) (View.one y s) e h

pub second_absorbs : (f : ℕ) (a b r s : Terms) (x : One) → view a ≡ View.one x r → view b ≡ View.absorbing s → sequence (suc f) a b ≡ absorbing_split sequence f s a
unfolding entered
second_absorbs f a b r s x e h = by_views f a b (View.one x r) (View.absorbing s) e h

pub heads_compared : (f : ℕ) (a b r s : Terms) (x y : One) → view a ≡ View.one x r → view b ≡ View.one y s
    → sequence (suc f) a b ≡ after_heads (overlap_of_terms sequence x y) f (λ g. sequence g r s)
unfolding entered
heads_compared f a b r s x y e h = by_views f a b (View.one x r) (View.one y s) e h
