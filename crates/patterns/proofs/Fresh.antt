-- Fresh instances by what a pattern begins with, and by the ends of a pattern.
use mathlib.Core.Path.{◌≡◌, refl, sym, ap, ◌∙◌}
use mathlib.Core.Logic.{◌⊎◌, inl, inr, ⊎_elim}
use mathlib.Core.List.{List, [], ◌∷◌}
use lib.Dec.{T}
use Rattle.program.specs.Syntax.{Symbol, s_kind, t_kind, e_kind, Terms, nil, symbol, variable, bracket, call, block}
use Rattle.patterns.specs.Symbols.{same_symbol}
use Rattle.patterns.specs.Expression.{Expression, void, atom, group, ◌⧺◌}
use Rattle.patterns.specs.Fresh.{IsTerm, Fresh}
use Rattle.patterns.specs.Search.{One, View, view, ends}
use Rattle.patterns.proofs.Expression.{void-right, cut, one_cut}

-- What a term that stands for exactly one term matches.
abbrev pub OneFits : One → Expression → Type 0
OneFits (One.literal a) h = (x : Symbol) × (h ≡ atom x void) × T (same_symbol a x)
OneFits One.any-symbol h = (x : Symbol) × (h ≡ atom x void)
OneFits One.any_term h = IsTerm h
OneFits One.no-pattern h = ⊥
OneFits (One.brackets i) h = (u : Expression) × (h ≡ group u void) × Fresh i u

pub one_term : (o : One) (h : Expression) → OneFits o h → IsTerm h
one_term (One.literal a) h f = inl (f.0, f.1)
one_term One.any-symbol h f = inl f
one_term One.any_term h f = f
one_term One.no-pattern h f = absurd f
one_term (One.brackets i) h f = inr (f.0, f.1)

abbrev pub FreshView : View → Expression → Type 0
FreshView View.nothing v = v ≡ void
FreshView (View.absorbing r) v = (u : Expression) × (w : Expression) × (v ≡ u ⧺ w) × Fresh r w
FreshView (View.one o r) v = (h : Expression) × (w : Expression) × (v ≡ h ⧺ w) × OneFits o h × Fresh r w

pub fresh-view : (a : Terms) (v : Expression) → Fresh a v → FreshView (view a) v
unfolding Fresh view ◌⧺◌
fresh-view nil v f = f
fresh-view (symbol s x r) v f = (atom f.0 void, f.1, f.2, (f.0, refl, f.3), f.4)
fresh-view (variable s s_kind n r) v f = f
fresh-view (variable s t_kind n r) v f = f
fresh-view (variable s e_kind n r) v f = (f.0, f.1, f.2, f.4)
fresh-view (bracket s i r) v f = (group f.0 void, f.1, f.2, (f.0, refl, f.3), f.4)
fresh-view (call s g a r) v f = absurd f
fresh-view (block s a b r) v f = absurd f

pub view-fresh : (a : Terms) (v : Expression) → FreshView (view a) v → Fresh a v
unfolding Fresh view ◌⧺◌
view-fresh nil v f = f
view-fresh (symbol s x r) v f = (f.3.0, f.1, f.2 ∙ ap (λ (u : Expression). u ⧺ f.1) f.3.1, f.3.2, f.4)
view-fresh (variable s s_kind n r) v f = f
view-fresh (variable s t_kind n r) v f = f
view-fresh (variable s e_kind n r) v f = (f.0, f.1, f.2, tt, f.3)
view-fresh (bracket s i r) v f = (f.3.0, f.1, f.2 ∙ ap (λ (u : Expression). u ⧺ f.1) f.3.1, f.3.2, f.4)
view-fresh (call s g a r) v f = absurd f.3
view-fresh (block s a b r) v f = absurd f.3

-- Some element of a list.
abbrev pub Some : (Terms → Type 0) → List Terms → Type 0
Some P [] = ⊥
Some P (o ∷ os) = P o ⊎ Some P os

-- The end of an expression that matches a pattern matches an end of the pattern.
end-one : (P Q : Type 0) (u w h k : Expression) → IsTerm h → u ⧺ w ≡ h ⧺ k → (w ≡ h ⧺ k → P) → ((m : Expression) → k ≡ m ⧺ w → Q) → P ⊎ Q
end-one P Q u w h k t e f g = ⊎_elim (λ a. inl (f a)) (λ b. inr (g b.0 b.1)) (one_cut u w h k t e)

pub some_end : (a : Terms) (u w v : Expression) → v ≡ u ⧺ w → Fresh a v → Some (λ (r : Terms). Fresh r w) (ends a)
unfolding Fresh ends ◌⧺◌
some_end nil u w v e f = inl (void-right u w (sym f ∙ e))
some_end (symbol s x r) u w v e f =
    end-one _ _ u w (atom f.0 void) f.1 (inl (f.0, refl)) (sym e ∙ f.2) (λ q. (f.0, f.1, q, f.3, f.4)) (λ m q. some_end r m w f.1 q f.4)
some_end (variable s s_kind n r) u w v e f =
    end-one _ _ u w f.0 f.1 (inl f.3) (sym e ∙ f.2) (λ q. (f.0, f.1, q, f.3, f.4)) (λ m q. some_end r m w f.1 q f.4)
some_end (variable s t_kind n r) u w v e f =
    end-one _ _ u w f.0 f.1 f.3 (sym e ∙ f.2) (λ q. (f.0, f.1, q, f.3, f.4)) (λ m q. some_end r m w f.1 q f.4)
some_end (variable s e_kind n r) u w v e f =
    ⊎_elim (λ c. inr (some_end r c.0 w f.1 c.2 f.4)) (λ c. inl (c.0, f.1, c.2, tt, f.4)) (cut u w f.0 f.1 (sym e ∙ f.2))
some_end (bracket s i r) u w v e f =
    end-one _ _ u w (group f.0 void) f.1 (inr (f.0, refl)) (sym e ∙ f.2) (λ q. (f.0, f.1, q, f.3, f.4)) (λ m q. some_end r m w f.1 q f.4)
some_end (call s g a r) u w v e f = absurd f
some_end (block s a b r) u w v e f = absurd f
