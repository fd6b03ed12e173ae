-- "Disjoint comes only if no expression matches both patterns" (demand 2).
use Prim.Native.Nat.{ℕ, zero, suc, ◌+◌}
use mathlib.Core.Path.{◌≡◌, sym, ap, ◌∙◌, subst}
use mathlib.Core.Logic.{◌⊎◌, inl, inr, ⊎_elim}
use mathlib.Core.Bool.{Bool, true, false}
use mathlib.Core.List.{List, [], ◌∷◌}
use lib.Dec.{T}
use Rattle.program.specs.Syntax.{Symbol, s_kind, t_kind, e_kind, Terms, nil, symbol, variable, bracket, call, block}
use Rattle.patterns.specs.Symbols.{key, same_symbol}
use Rattle.patterns.proofs.Tests.{is_true, holds}
use Rattle.patterns.proofs.Symbols.{same_symbol_iff}
use Rattle.patterns.specs.declared.Verdict.{Verdict}
use Rattle.patterns.specs.declared.Verdict.TheVariants.{Disjoint, Overlap, Unknown}
use Rattle.patterns.specs.declared.Found.{Found}
use Rattle.patterns.specs.Expression.{Expression, void}
use Rattle.patterns.specs.Fresh.{Fresh}
use Rattle.patterns.specs.Search.{Searching, One, View, view, leftover_overlap, ends, after_split, splits_from, absorbing_split, literal_overlap, start, overlap_of_terms, after_unknown, after_heads, entered, enter, size, search_to, sequence, patterns_overlap}
use Rattle.patterns.proofs.Expression.{void-atom, void-group, atom-group, atom-symbol, group_inside, void-right, void_term, same-front, same_rest}
use Rattle.patterns.proofs.Fresh.{OneFits, one_term, FreshView, fresh-view, Some, some_end}

abbrev IsDisjoint : Verdict → Type 0
IsDisjoint Disjoint = Unit {0}
IsDisjoint Overlap = ⊥
IsDisjoint Unknown = ⊥

-- A search whose Disjoint is right.
abbrev Sound : Searching → Type 0
Sound search = (f : ℕ) (a b : Terms) (v : Expression) → IsDisjoint (search f a b).verdict → Fresh a v → Fresh b v → ⊥

-- Nothing matches a pattern only if its leftover is no Disjoint.
leftover_sound : (a : Terms) → IsDisjoint (leftover_overlap a) → Fresh a void → ⊥
unfolding Fresh leftover_overlap
leftover_sound nil d f = d
leftover_sound (symbol s x r) d f = void-atom f.2
leftover_sound (variable s s_kind n r) d f = void_term f.0 f.1 (inl f.3) f.2
leftover_sound (variable s t_kind n r) d f = void_term f.0 f.1 f.3 f.2
leftover_sound (variable s e_kind n r) d f = leftover_sound r d (subst (λ (w : Expression). Fresh r w) (void-right f.0 f.1 f.2) f.4)
leftover_sound (bracket s i r) d f = void-group f.2
leftover_sound (call s g a r) d f = f
leftover_sound (block s a b r) d f = f

nothing_sound : (a : Terms) (v : Expression) → IsDisjoint (leftover_overlap a) → v ≡ void → Fresh a v → ⊥
nothing_sound a v d e f = leftover_sound a d (subst (λ (w : Expression). Fresh a w) e f)

literal_sound : (t : Bool) → T t → IsDisjoint (literal_overlap t) → ⊥
unfolding literal_overlap
literal_sound true h d = d
literal_sound false h d = h

-- Two literals that one symbol matches are equal.
literals_meet : (a b x y : Symbol) → T (same_symbol a x) → T (same_symbol b y) → x ≡ y → T (same_symbol a b)
literals_meet a b x y h k e =
    let l = (same_symbol_iff a x).0 (is_true (same_symbol a x) h) in
    let m = (same_symbol_iff b y).0 (is_true (same_symbol b y) k) in
    holds (same_symbol a b) ((same_symbol_iff a b).1 (l ∙ ap key e ∙ sym m))

-- Disjoint heads or Disjoint tails.
heads_disjoint : (w : Verdict) (f : ℕ) (tails : ℕ → Found) → IsDisjoint (after_heads w f tails).verdict → IsDisjoint w ⊎ IsDisjoint (tails f).verdict
heads_disjoint Disjoint f tails d = inl tt
heads_disjoint Overlap f tails d = inr d
heads_disjoint Unknown f tails d = inr (tails_disjoint (tails f).verdict d)
  where
    tails_disjoint : (w : Verdict) → IsDisjoint (after_unknown w) → IsDisjoint w
    tails_disjoint Disjoint d = tt
    tails_disjoint Overlap d = d
    tails_disjoint Unknown d = d

-- A split that is Disjoint in the end was so here and is so from here on.
split_disjoint : (w : Verdict) (f : ℕ) (v : Verdict) (next : Verdict → ℕ → Found) (R : Type 0) → IsDisjoint (after_split w f v next).verdict
    → ((u : Verdict) (g : ℕ) → IsDisjoint (next u g).verdict → IsDisjoint u × R) → IsDisjoint v × IsDisjoint w × R
split_disjoint Disjoint f v next R d h = let k = h v f d in (k.0, tt, k.1)
split_disjoint Overlap f v next R d h = absurd d
split_disjoint Unknown f v next R d h = absurd (h Unknown f d).0

module _ (search : Searching) (sound : Sound search) where
  terms_sound : (x y : One) (h : Expression) → IsDisjoint (overlap_of_terms search x y) → OneFits x h → OneFits y h → ⊥
  unfolding overlap_of_terms
  terms_sound (One.literal a) (One.literal b) h d f g = literal_sound (same_symbol a b) (literals_meet a b f.0 g.0 f.2 g.2 (atom-symbol (sym f.1 ∙ g.1))) d
  terms_sound (One.literal a) One.any-symbol h d f g = d
  terms_sound (One.literal a) One.any_term h d f g = d
  terms_sound (One.literal a) One.no-pattern h d f g = d
  terms_sound (One.literal a) (One.brackets j) h d f g = atom-group (sym f.1 ∙ g.1)
  terms_sound One.any-symbol (One.literal b) h d f g = d
  terms_sound One.any-symbol One.any-symbol h d f g = d
  terms_sound One.any-symbol One.any_term h d f g = d
  terms_sound One.any-symbol One.no-pattern h d f g = d
  terms_sound One.any-symbol (One.brackets j) h d f g = atom-group (sym f.1 ∙ g.1)
  terms_sound One.any_term (One.literal b) h d f g = d
  terms_sound One.any_term One.any-symbol h d f g = d
  terms_sound One.any_term One.any_term h d f g = d
  terms_sound One.any_term One.no-pattern h d f g = d
  terms_sound One.any_term (One.brackets j) h d f g = d
  terms_sound One.no-pattern y h d f g = f
  terms_sound (One.brackets i) (One.literal b) h d f g = atom-group (sym g.1 ∙ f.1)
  terms_sound (One.brackets i) One.any-symbol h d f g = atom-group (sym g.1 ∙ f.1)
  terms_sound (One.brackets i) One.any_term h d f g = d
  terms_sound (One.brackets i) One.no-pattern h d f g = d
  terms_sound (One.brackets i) (One.brackets j) h d f g =
      sound start i j f.0 d f.2 (subst (λ (u : Expression). Fresh j u) (group_inside (sym g.1 ∙ f.1)) g.2)

  splits_sound : (os : List Terms) (r : Terms) (w : Expression) (v : Verdict) (f : ℕ) → Fresh r w → IsDisjoint (splits_from search r os v f).verdict
      → IsDisjoint v × (Some (λ (o : Terms). Fresh o w) os → ⊥)
  unfolding splits_from
  splits_sound [] r w v f g d = (d, λ s. s)
  splits_sound (o ∷ os) r w v f g d =
      let k = split_disjoint (search f r o).verdict (search f r o).fuel v (λ u e. splits_from search r os u e) (Some (λ (o : Terms). Fresh o w) os → ⊥) d (λ u e. splits_sound os r w u e g) in
      (k.0, λ s. ⊎_elim (λ x. sound f r o w k.1 g x) (λ x. k.2 x) s)

  split_sound : (r b : Terms) (v : Expression) (f : ℕ) → IsDisjoint (absorbing_split search f r b).verdict → FreshView (View.absorbing r) v → Fresh b v → ⊥
  unfolding absorbing_split
  split_sound r b v f d g h = (splits_sound (ends b) r g.1 Disjoint f g.3 d).1 (some_end b g.0 g.1 v g.2 h)

  pair_sound : (x y : One) (r s : Terms) (v : Expression) (f : ℕ) → IsDisjoint (after_heads (overlap_of_terms search x y) f (λ g. search g r s)).verdict
      → FreshView (View.one x r) v → FreshView (View.one y s) v → ⊥
  pair_sound x y r s v f d g h =
      let t = one_term x g.0 g.3 in
      let u = one_term y h.0 h.3 in
      let e = sym h.2 ∙ g.2 in
      ⊎_elim (λ k. terms_sound x y g.0 k g.3 (subst (λ (z : Expression). OneFits y z) (same-front h.0 h.1 g.0 g.1 u t e) h.3))
      (λ k. sound f r s g.1 k g.4 (subst (λ (z : Expression). Fresh s z) (same_rest h.0 h.1 g.0 g.1 u t e) h.4))
      (heads_disjoint (overlap_of_terms search x y) f (λ g. search g r s) d)

  entered_sound : (x y : View) (a b : Terms) (v : Expression) (f : ℕ) → IsDisjoint (entered search x y a b f).verdict → FreshView x v → FreshView y v → Fresh a v → Fresh b v → ⊥
  unfolding entered
  entered_sound View.nothing View.nothing a b v f d g h ga hb = d
  entered_sound View.nothing (View.absorbing s) a b v f d g h ga hb = nothing_sound b v d g hb
  entered_sound View.nothing (View.one y s) a b v f d g h ga hb = nothing_sound b v d g hb
  entered_sound (View.absorbing r) View.nothing a b v f d g h ga hb = nothing_sound a v d h ga
  entered_sound (View.absorbing r) (View.absorbing s) a b v f d g h ga hb = split_sound r b v f d g hb
  entered_sound (View.absorbing r) (View.one y s) a b v f d g h ga hb = split_sound r b v f d g hb
  entered_sound (View.one x r) View.nothing a b v f d g h ga hb = nothing_sound a v d h ga
  entered_sound (View.one x r) (View.absorbing s) a b v f d g h ga hb = split_sound s a v f d h ga
  entered_sound (View.one x r) (View.one y s) a b v f d g h ga hb = pair_sound x y r s v f d g h

  enter_sound : Sound (enter search)
  unfolding enter
  enter_sound zero a b v d g h = d
  enter_sound (suc f) a b v d g h = entered_sound (view a) (view b) a b v f d (fresh-view a v g) (fresh-view b v h) g h

sound_to : (d : ℕ) → Sound (search_to d)
unfolding search_to
sound_to zero f a b v d g h = d
sound_to (suc d) f a b v e g h = enter_sound (search_to d) (sound_to d) f a b v e g h

-- With any fuel.
pub sequence_sound : (f : ℕ) (a b : Terms) → (sequence f a b).verdict ≡ Disjoint → (v : Expression) → Fresh a v → Fresh b v → ⊥
unfolding sequence
sequence_sound f a b e v = sound_to (suc (size a + size b)) f a b v (subst IsDisjoint (sym e) tt)

pub disjoint_sound : (a b : Terms) → patterns_overlap a b ≡ Disjoint → (v : Expression) → Fresh a v → Fresh b v → ⊥
unfolding patterns_overlap
disjoint_sound a b e = sequence_sound start a b e
