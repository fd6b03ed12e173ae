-- "Overlap only if one does" (demand 2): where the verdict is Overlap, `meet` is an expression that matches both patterns.
use Prim.Native.Nat.{ℕ, zero, suc, ◌+◌, ◌<◌}
use native.Mathlib.Omega.{arith}
use mathlib.Core.Path.{◌≡◌, refl, sym, ap, ◌∙◌, subst}
use mathlib.Core.Bool.{Bool, true, false, not}
use mathlib.Core.Logic.{inl, inr}
use mathlib.Core.List.{List, [], ◌∷◌}
use Rattle.program.specs.Syntax.{Symbol, s_kind, t_kind, e_kind, Terms, nil, symbol, variable, bracket, call, block}
use Rattle.patterns.specs.Symbols.{same_symbol}
use Rattle.patterns.proofs.Tests.{holds}
use Rattle.patterns.proofs.Symbols.{same_symbol_refl, same_symbol_sym}
use Rattle.patterns.specs.declared.Verdict.{Verdict}
use Rattle.patterns.specs.declared.Verdict.TheVariants.{Disjoint, Overlap, Unknown}
use Rattle.patterns.specs.declared.Found.{Found}
use Rattle.patterns.specs.Expression.{Expression, void, atom, ◌⧺◌}
use Rattle.patterns.specs.Fresh.{Fresh}
use Rattle.patterns.proofs.Plain.{Plain, PlainOne, PlainView, view-plain}
use Rattle.patterns.specs.Search.{One, View, view, leftover_overlap, ends, after_split, splits_from, absorbing_split, literal_overlap, start, overlap_of_terms, after_unknown, after_heads, entered, enter, size, sequence, patterns_overlap}
use Rattle.patterns.specs.Meet.{letter, free, free_one, before, if_overlap, meet_splits, of_first, meet_of_terms, meet_entered, meet_enter, meet_sequence, meet}
use Rattle.patterns.proofs.Meet.{unfold_meet}
use Rattle.patterns.proofs.Size.{one_size, Below, view-below, by_size}
use Rattle.patterns.proofs.Unfold.{unfold_sequence}
use Rattle.patterns.proofs.Expression.{⧺_assoc}
use Rattle.patterns.proofs.Fresh.{OneFits, FreshView, view-fresh}

-- What holds where the verdict is Overlap.
abbrev IfOverlap : Verdict → Type 0 → Type 0
IfOverlap Disjoint P = Unit {0}
IfOverlap Overlap P = P
IfOverlap Unknown P = Unit {0}

map_overlap : (w : Verdict) (P Q : Type 0) → (P → Q) → IfOverlap w P → IfOverlap w Q
map_overlap Disjoint P Q k h = tt
map_overlap Overlap P Q k h = k h
map_overlap Unknown P Q k h = tt

abbrev Both : Terms → Terms → Expression → Type 0
Both a b v = Fresh a v × Fresh b v

-- What a pattern becomes by itself matches it.
free-fresh : (a : Terms) → Plain a → Fresh a (free a)
unfolding Fresh free ◌⧺◌
free-fresh nil h = refl
free-fresh (symbol s x r) h = (x, free r, refl, holds (same_symbol x x) (same_symbol_refl x), free-fresh r h)
free-fresh (variable s s_kind n r) h = (atom letter void, free r, refl, (letter, refl), free-fresh r h)
free-fresh (variable s t_kind n r) h = (atom letter void, free r, refl, inl (letter, refl), free-fresh r h)
free-fresh (variable s e_kind n r) h = (void, free r, refl, tt, free-fresh r h)
free-fresh (bracket s i r) h = (free i, free r, refl, free-fresh i h.0, free-fresh r h.1)
free-fresh (call s f a r) h = absurd h
free-fresh (block s a b r) h = absurd h

literal-fits : (x : Symbol) → OneFits (One.literal x) (atom x void)
literal-fits x = (x, refl, holds (same_symbol x x) (same_symbol_refl x))

free-fits : (x : One) → PlainOne x → OneFits x (free_one x)
unfolding free_one
free-fits (One.literal x) h = literal-fits x
free-fits One.any-symbol h = (letter, refl)
free-fits One.any_term h = inl (letter, refl)
free-fits One.no-pattern h = absurd h
free-fits (One.brackets i) h = (free i, refl, free-fresh i h)

leftover_met : (a : Terms) → IfOverlap (leftover_overlap a) (Fresh a void)
unfolding Fresh leftover_overlap ◌⧺◌
leftover_met nil = refl
leftover_met (symbol s x r) = tt
leftover_met (variable s s_kind n r) = tt
leftover_met (variable s t_kind n r) = tt
leftover_met (variable s e_kind n r) = map_overlap (leftover_overlap r) (Fresh r void) _ (λ f. (void, void, refl, tt, f)) (leftover_met r)
leftover_met (bracket s i r) = tt
leftover_met (call s f a r) = tt
leftover_met (block s a b r) = tt

-- A term in front of an expression that is cut stands in front of its first part.
before_joins : (x : View) (u w : Expression) → before x (u ⧺ w) ≡ before x u ⧺ w
unfolding before
before_joins View.nothing u w = refl
before_joins (View.absorbing r) u w = refl
before_joins (View.one x r) u w = sym (⧺_assoc (free_one x) u w)

-- `e.` in front of r, against b: what both match.
abbrev Absorbed : Terms → Terms → Expression → Type 0
Absorbed r b v = FreshView (View.absorbing r) v × Fresh b v

-- The calls on smaller sequences.
abbrev Met : Terms → Terms → Type 0
Met a b = (c : Bool) (f : ℕ) → Plain a → Plain b → IfOverlap (sequence f a b).verdict (Both a b (meet_sequence c f a b))

module _ (n : ℕ) (met : (a b : Terms) → size a + size b < n → Met a b) where
  -- One split, and then those after it.
  split_met : (c : Bool) (r o p : Terms) (os : List Terms) (v : Verdict) (f : ℕ) → size r + size o < n → Plain r → Plain o
      → ((e : Expression) → Fresh p e → Fresh o (before (view o) e))
      → ((w : Verdict) (g : ℕ) → IfOverlap w ⊥ → IfOverlap (splits_from sequence r os w g).verdict (Absorbed r p (meet_splits meet_sequence c r os g)))
      → IfOverlap v ⊥ → IfOverlap (splits_from sequence r (o ∷ os) v f).verdict (Absorbed r o (meet_splits meet_sequence c r (o ∷ os) f))
  unfolding splits_from meet_splits ◌⧺◌
  split_met c r o p os v f l hr ho grow later k = go (sequence f r o).verdict (met r o l c f hr ho)
    where
      x : Expression
      x = meet_sequence c f r o

      g : ℕ
      g = (sequence f r o).fuel

      y : Expression
      y = meet_splits meet_sequence c r os g

      wider : Absorbed r p y → Absorbed r o (before (view o) y)
      wider m =
          ((before (view o) m.0.0, m.0.1, ap (before (view o)) m.0.2 ∙ before_joins (view o) m.0.0 m.0.1, m.0.3), grow y m.1)

      go : (w : Verdict) → IfOverlap w (Both r o x)
          → IfOverlap (after_split w g v (λ u h. splits_from sequence r os u h)).verdict (Absorbed r o (if_overlap w x (before (view o) y)))
      go Disjoint h = map_overlap (splits_from sequence r os v g).verdict (Absorbed r p y) _ wider (later v g k)
      go Overlap h = ((void, x, refl, h.0), h.1)
      go Unknown h = map_overlap (splits_from sequence r os Unknown g).verdict (Absorbed r p y) _ wider (later Unknown g tt)

  splits-met : (b r : Terms) (c : Bool) (v : Verdict) (f : ℕ) → size r + size b < n → Plain r → Plain b → IfOverlap v ⊥
      → IfOverlap (splits_from sequence r (ends b) v f).verdict (Absorbed r b (meet_splits meet_sequence c r (ends b) f))
  unfolding ends size Fresh view before free_one ◌⧺◌ splits_from
  splits-met nil r c v f l hr hb k = split_met c r nil nil [] v f l hr hb (λ e h. h) (λ w g h. map_overlap w ⊥ _ (λ z. absurd z) h) k
  splits-met (symbol s x b) r c v f l hr hb k =
      split_met c r (symbol s x b) b (ends b) v f l hr hb (λ e h. (x, e, refl, holds (same_symbol x x) (same_symbol_refl x), h)) (λ w g h. splits-met b r c w g (omega arith) hr hb h) k
  splits-met (variable s s_kind m b) r c v f l hr hb k =
      split_met c r (variable s s_kind m b) b (ends b) v f l hr hb (λ e h. (atom letter void, e, refl, (letter, refl), h)) (λ w g h. splits-met b r c w g (omega arith) hr hb h) k
  splits-met (variable s t_kind m b) r c v f l hr hb k =
      split_met c r (variable s t_kind m b) b (ends b) v f l hr hb (λ e h. (atom letter void, e, refl, inl (letter, refl), h)) (λ w g h. splits-met b r c w g (omega arith) hr hb h) k
  splits-met (variable s e_kind m b) r c v f l hr hb k =
      split_met c r (variable s e_kind m b) b (ends b) v f l hr hb (λ e h. (void, e, refl, tt, h)) (λ w g h. splits-met b r c w g (omega arith) hr hb h) k
  splits-met (bracket s i b) r c v f l hr hb k =
      split_met c r (bracket s i b) b (ends b) v f l hr hb (λ e h. (free i, e, refl, free-fresh i hb.0, h)) (λ w g h. splits-met b r c w g (omega arith) hr hb.1 h) k
  splits-met (call s g a b) r c v f l hr hb k = absurd hb
  splits-met (block s a q b) r c v f l hr hb k = absurd hb

  absorbing-met : (c : Bool) (f : ℕ) (r b : Terms) → size r + size b < n → Plain r → Plain b
      → IfOverlap (absorbing_split sequence f r b).verdict (Absorbed r b (meet_splits meet_sequence c r (ends b) f))
  unfolding absorbing_split
  absorbing-met c f r b l hr hb = splits-met b r c Disjoint f l hr hb tt

  -- Two heads.
  literals_met : (c : Bool) (x y : Symbol) (t : Bool) → same_symbol x y ≡ t
      → IfOverlap (literal_overlap t) (OneFits (One.literal x) (atom (of_first c x y) void) × OneFits (One.literal y) (atom (of_first c x y) void))
  unfolding literal_overlap
  literals_met false x y true e = (literal-fits x, (x, refl, holds (same_symbol y x) (same_symbol_sym y x ∙ e)))
  literals_met true x y true e = ((y, refl, holds (same_symbol x y) e), literal-fits y)
  literals_met c x y false e = tt

  terms-met : (c : Bool) (x y : One) → one_size x + one_size y < n → PlainOne x → PlainOne y
      → IfOverlap (overlap_of_terms sequence x y) (OneFits x (meet_of_terms meet_sequence c x y) × OneFits y (meet_of_terms meet_sequence c x y))
  unfolding overlap_of_terms meet_of_terms free_one
  terms-met c (One.literal x) (One.literal y) l hx hy = literals_met c x y (same_symbol x y) refl
  terms-met c (One.literal x) One.any-symbol l hx hy = (literal-fits x, (x, refl))
  terms-met c (One.literal x) One.any_term l hx hy = (literal-fits x, inl (x, refl))
  terms-met c (One.literal x) One.no-pattern l hx hy = tt
  terms-met c (One.literal x) (One.brackets j) l hx hy = tt
  terms-met c One.any-symbol (One.literal y) l hx hy = ((y, refl), literal-fits y)
  terms-met c One.any-symbol One.any-symbol l hx hy = ((letter, refl), (letter, refl))
  terms-met c One.any-symbol One.any_term l hx hy = ((letter, refl), inl (letter, refl))
  terms-met c One.any-symbol One.no-pattern l hx hy = tt
  terms-met c One.any-symbol (One.brackets j) l hx hy = tt
  terms-met c One.any_term (One.literal y) l hx hy = (inl (y, refl), literal-fits y)
  terms-met c One.any_term One.any-symbol l hx hy = (inl (letter, refl), (letter, refl))
  terms-met c One.any_term One.any_term l hx hy = (inl (letter, refl), inl (letter, refl))
  terms-met c One.any_term One.no-pattern l hx hy = tt
  terms-met c One.any_term (One.brackets j) l hx hy = (inr (free j, refl), (free j, refl, free-fresh j hy))
  terms-met c One.no-pattern y l hx hy = absurd hx
  terms-met c (One.brackets i) (One.literal y) l hx hy = tt
  terms-met c (One.brackets i) One.any-symbol l hx hy = tt
  terms-met c (One.brackets i) One.any_term l hx hy = ((free i, refl, free-fresh i hx), inr (free i, refl))
  terms-met c (One.brackets i) One.no-pattern l hx hy = tt
  terms-met c (One.brackets i) (One.brackets j) l hx hy =
      map_overlap (sequence start i j).verdict (Both i j (meet_sequence c start i j)) _ (λ m. ((meet_sequence c start i j, refl, m.0), (meet_sequence c start i j, refl, m.1))) (met i j l c start hx hy)

  heads-met : (w : Verdict) (f : ℕ) (tails : ℕ → Found) (P Q R : Type 0) → IfOverlap w P → IfOverlap (tails f).verdict Q → (P → Q → R) → IfOverlap (after_heads w f tails).verdict R
  heads-met Disjoint f tails P Q R h k j = tt
  heads-met Overlap f tails P Q R h k j = map_overlap (tails f).verdict Q R (j h) k
  heads-met Unknown f tails P Q R h k j = never (tails f).verdict
    where
      never : (w : Verdict) → IfOverlap (after_unknown w) R
      never Disjoint = tt
      never Overlap = tt
      never Unknown = tt

  -- ha and hb: what fits a view of a sequence matches the sequence.
  entered-met : (c : Bool) (x y : View) (a b : Terms) (f : ℕ) → size a + size b < suc n → Below (size a) x → Below (size b) y → Plain a → Plain b → PlainView x → PlainView y
      → ((e : Expression) → FreshView x e → Fresh a e) → ((e : Expression) → FreshView y e → Fresh b e)
      → IfOverlap (entered sequence x y a b f).verdict (Both a b (meet_entered meet_sequence c x y a b f))
  unfolding entered meet_entered
  entered-met c View.nothing View.nothing a b f l k m pa pb px py ha hb = (ha void refl, hb void refl)
  entered-met c View.nothing (View.absorbing s) a b f l k m pa pb px py ha hb = map_overlap (leftover_overlap b) (Fresh b void) _ (λ g. (ha void refl, g)) (leftover_met b)
  entered-met c View.nothing (View.one y s) a b f l k m pa pb px py ha hb = map_overlap (leftover_overlap b) (Fresh b void) _ (λ g. (ha void refl, g)) (leftover_met b)
  entered-met c (View.absorbing r) View.nothing a b f l k m pa pb px py ha hb = map_overlap (leftover_overlap a) (Fresh a void) _ (λ g. (g, hb void refl)) (leftover_met a)
  entered-met c (View.absorbing r) (View.absorbing s) a b f l k m pa pb px py ha hb =
      map_overlap (absorbing_split sequence f r b).verdict _ _ (λ g. (ha _ g.0, g.1)) (absorbing-met c f r b (omega arith) px pb)
  entered-met c (View.absorbing r) (View.one y s) a b f l k m pa pb px py ha hb =
      map_overlap (absorbing_split sequence f r b).verdict _ _ (λ g. (ha _ g.0, g.1)) (absorbing-met c f r b (omega arith) px pb)
  entered-met c (View.one x r) View.nothing a b f l k m pa pb px py ha hb = map_overlap (leftover_overlap a) (Fresh a void) _ (λ g. (g, hb void refl)) (leftover_met a)
  entered-met c (View.one x r) (View.absorbing s) a b f l k m pa pb px py ha hb =
      map_overlap (absorbing_split sequence f s a).verdict _ _ (λ g. (g.1, hb _ g.0)) (absorbing-met (not c) f s a (omega arith) py pa)
  entered-met c (View.one x r) (View.one y s) a b f l k m pa pb px py ha hb =
      let h = meet_of_terms meet_sequence c x y in
      let t = meet_sequence c f r s in
      heads-met (overlap_of_terms sequence x y) f (λ g. sequence g r s) (OneFits x h × OneFits y h) (Both r s t) _ (terms-met c x y (omega arith) px.0 py.0) (met r s (omega arith) c f px.1 py.1)
      (λ p q. (ha (h ⧺ t) (h, t, refl, p.0, q.0), hb (h ⧺ t) (h, t, refl, p.1, q.1)))

  enter-met : (c : Bool) (f : ℕ) (a b : Terms) → size a + size b < suc n → Plain a → Plain b → IfOverlap (enter sequence f a b).verdict (Both a b (meet_enter meet_sequence c f a b))
  unfolding enter meet_enter
  enter-met c zero a b l pa pb = tt
  enter-met c (suc f) a b l pa pb = entered-met c (view a) (view b) a b f l (view-below a) (view-below b) pa pb (view-plain a pa) (view-plain b pb) (view-fresh a) (view-fresh b)

-- With any fuel, and whichever of the two came first.
pub sequence-met : (a b : Terms) → Met a b
sequence-met = by_size Met step
  where
    step : (n : ℕ) → ((a b : Terms) → size a + size b < n → Met a b) → (a b : Terms) → size a + size b < suc n → Met a b
    step n met a b l c f pa pb = rw (unfold_sequence f a b, unfold_meet c f a b) (enter-met n met c f a b l pa pb)

pub overlap_sound : (a b : Terms) → Plain a → Plain b → patterns_overlap a b ≡ Overlap → Fresh a (meet a b) × Fresh b (meet a b)
unfolding patterns_overlap meet
overlap_sound a b pa pb e = subst (λ (w : Verdict). IfOverlap w (Both a b (meet_sequence false start a b))) e (sequence-met a b false start pa pb)
