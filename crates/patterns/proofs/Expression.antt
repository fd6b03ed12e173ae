-- Laws of expressions: their three forms told apart, and the ways to cut one in two.
use mathlib.Core.Path.{◌≡◌, refl, sym, ap, ◌∙◌, subst}
use mathlib.Core.Logic.{◌⊎◌, inl, inr}
use Rattle.program.specs.Syntax.{Symbol, character}
use Rattle.patterns.specs.Expression.{Expression, void, atom, group, ◌⧺◌}
use Rattle.patterns.specs.Fresh.{IsTerm}

abbrev IsVoid : Expression → Type 0
IsVoid void = Unit {0}
IsVoid (atom x v) = ⊥
IsVoid (group i v) = ⊥

abbrev IsAtom : Expression → Type 0
IsAtom void = ⊥
IsAtom (atom x v) = Unit {0}
IsAtom (group i v) = ⊥

pub void-atom : {x : Symbol} {v : Expression} → void ≡ atom x v → ⊥
void-atom e = subst IsVoid e tt

pub void-group : {i v : Expression} → void ≡ group i v → ⊥
void-group e = subst IsVoid e tt

pub atom-group : {x : Symbol} {v i w : Expression} → atom x v ≡ group i w → ⊥
atom-group e = subst IsAtom e tt

-- The parts of a first term, and what follows it.
symbol_of_lem : Expression → Symbol
symbol_of_lem void = character 0
symbol_of_lem (atom x v) = x
symbol_of_lem (group i v) = character 0

inside_of : Expression → Expression
inside_of void = void
inside_of (atom x v) = void
inside_of (group i v) = i

rest_of : Expression → Expression
rest_of void = void
rest_of (atom x v) = v
rest_of (group i v) = v

pub atom-symbol : {x y : Symbol} {v w : Expression} → atom x v ≡ atom y w → x ≡ y
unfolding symbol_of_lem
atom-symbol e = ap symbol_of_lem e

pub atom-rest : {x y : Symbol} {v w : Expression} → atom x v ≡ atom y w → v ≡ w
unfolding rest_of
atom-rest e = ap rest_of e

pub group_inside : {i j v w : Expression} → group i v ≡ group j w → i ≡ j
unfolding inside_of
group_inside e = ap inside_of e

pub group-rest : {i j v w : Expression} → group i v ≡ group j w → v ≡ w
unfolding rest_of
group-rest e = ap rest_of e

-- What is joined to make nothing is nothing.
pub void-right : (u w : Expression) → void ≡ u ⧺ w → w ≡ void
unfolding ◌⧺◌
void-right void w e = sym e
void-right (atom x u) w e = absurd (void-atom e)
void-right (group i u) w e = absurd (void-group e)

pub ⧺_void : (u : Expression) → u ⧺ void ≡ u
unfolding ◌⧺◌
⧺_void void = refl
⧺_void (atom x u) = ap (atom x) (⧺_void u)
⧺_void (group i u) = ap (group i) (⧺_void u)

pub ⧺_assoc : (u v w : Expression) → (u ⧺ v) ⧺ w ≡ u ⧺ (v ⧺ w)
unfolding ◌⧺◌
⧺_assoc void v w = refl
⧺_assoc (atom x u) v w = ap (atom x) (⧺_assoc u v w)
⧺_assoc (group i u) v w = ap (group i) (⧺_assoc u v w)

-- Two ways to cut one expression: the first cut comes after the second, or before it.
abbrev pub Cut : Expression → Expression → Expression → Expression → Type 0
Cut u w h k = ((m : Expression) × (u ≡ h ⧺ m) × (k ≡ m ⧺ w)) ⊎ ((m : Expression) × (h ≡ u ⧺ m) × (w ≡ m ⧺ k))

cut_atom : (x y : Symbol) (u w h k : Expression) → x ≡ y → Cut u w h k → Cut (atom x u) w (atom y h) k
unfolding ◌⧺◌
cut_atom x y u w h k e (inl c) = inl (c.0, cc, c.2)
cut_atom x y u w h k e (inr c) = inr (c.0, cc, c.2)

cut_group : (i j u w h k : Expression) → i ≡ j → Cut u w h k → Cut (group i u) w (group j h) k
unfolding ◌⧺◌
cut_group i j u w h k e (inl c) = inl (c.0, cc, c.2)
cut_group i j u w h k e (inr c) = inr (c.0, cc, c.2)

pub cut : (u w h k : Expression) → u ⧺ w ≡ h ⧺ k → Cut u w h k
unfolding ◌⧺◌
cut void w h k e = inr (h, refl, e)
cut (atom x u) w void k e = inl (atom x u, refl, sym e)
cut (atom x u) w (atom y h) k e = cut_atom x y u w h k (atom-symbol e) (cut u w h k (atom-rest e))
cut (atom x u) w (group j h) k e = absurd (atom-group e)
cut (group i u) w void k e = inl (group i u, refl, sym e)
cut (group i u) w (atom y h) k e = absurd (atom-group (sym e))
cut (group i u) w (group j h) k e = cut_group i j u w h k (group_inside e) (cut u w h k (group-rest e))

-- One term and what follows it.
front : Expression → Expression
front void = void
front (atom x v) = atom x void
front (group i v) = group i void

term_front : (h k : Expression) → IsTerm h → front (h ⧺ k) ≡ h
unfolding front ◌⧺◌
term_front h k (inl t) = rw t.1
term_front h k (inr t) = rw t.1

term_rest : (h k : Expression) → IsTerm h → rest_of (h ⧺ k) ≡ k
unfolding rest_of ◌⧺◌
term_rest h k (inl t) = rw t.1
term_rest h k (inr t) = rw t.1

pub same-front : (h k h' k' : Expression) → IsTerm h → IsTerm h' → h ⧺ k ≡ h' ⧺ k' → h ≡ h'
same-front h k h' k' t t' e = sym (term_front h k t) ∙ ap front e ∙ term_front h' k' t'

pub same_rest : (h k h' k' : Expression) → IsTerm h → IsTerm h' → h ⧺ k ≡ h' ⧺ k' → k ≡ k'
same_rest h k h' k' t t' e = sym (term_rest h k t) ∙ ap rest_of e ∙ term_rest h' k' t'

pub void_term : (h k : Expression) → IsTerm h → void ≡ h ⧺ k → ⊥
unfolding ◌⧺◌
void_term h k (inl t) e = void-atom (rw t.1 at e)
void_term h k (inr t) e = void-group (rw t.1 at e)

-- A cut stands in front of one term, or behind it.
pub one_cut : (u w h k : Expression) → IsTerm h → u ⧺ w ≡ h ⧺ k → (w ≡ h ⧺ k) ⊎ ((m : Expression) × (k ≡ m ⧺ w))
unfolding ◌⧺◌ rest_of
one_cut void w h k t e = inl e
one_cut (atom x u) w h k t e = inr (u, sym (ap rest_of e ∙ term_rest h k t))
one_cut (group i u) w h k t e = inr (u, sym (ap rest_of e ∙ term_rest h k t))
