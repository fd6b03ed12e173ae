-- The meeting of two patterns by what they begin with, and splits one end at a time.
use Prim.Native.Nat.{ℕ, suc}
use mathlib.Core.Path.{◌≡◌, refl, sym, ap, ap₂, ◌∙◌}
use mathlib.Core.Bool.{Bool, not, true, false, true≢false}
use mathlib.Core.List.{List, [], ◌∷◌, ◌++◌}
use Rattle.program.specs.Syntax.{s_kind, t_kind, e_kind, Terms, nil, symbol, variable, bracket, call, block}
use Rattle.image.specs.Parts.{tail}
use Rattle.patterns.specs.declared.Verdict.{Verdict}
use Rattle.patterns.specs.declared.Verdict.TheVariants.{Disjoint, Overlap, Unknown}
use Rattle.patterns.specs.declared.Found.{Found}
use Rattle.patterns.specs.Expression.{Expression, void, ◌⧺◌}
use Rattle.patterns.specs.Marks.{put_expression}
use Rattle.patterns.specs.Search.{One, View, view, ends, sequence}
use Rattle.patterns.specs.Meet.{free, free_one, before, if_overlap, meet_splits, meet_of_terms, meet_entered, meet_enter, meet_sequence}
use Rattle.patterns.proofs.Meet.{unfold_meet}
use Rattle.patterns.proofs.Marks.{joined_bytes}
use Rattle.patterns.proofs.Unfold.{absorbing-begins, one-begins}
use Rattle.overlap.specs.Steps.{is_overlap}
use Rattle.overlap.proofs.Turns.{ends-first, ends_last, ends_more}
use Rattle.expression.specs.Free.{free_view, free_bytes, first_bytes}
use Rattle.expression.specs.Walk.{meet_bytes, split_bytes, head_bytes}

-- ---- free patterns

-- The first term, and then the rest.
pub free_unfolds : (a : Terms) → free a ≡ free_view (view a) ⧺ free (tail a)
unfolding free view free_view free_one tail ◌⧺◌
free_unfolds nil = refl
free_unfolds (symbol s x r) = refl
free_unfolds (variable s s_kind n r) = refl
free_unfolds (variable s t_kind n r) = refl
free_unfolds (variable s e_kind n r) = refl
free_unfolds (bracket s i r) = refl
free_unfolds (call s f a r) = refl
free_unfolds (block s a b r) = refl

pub free_bytes_lem : (a : Terms) → free_bytes a ≡ first_bytes a ++ free_bytes (tail a)
free_bytes_lem a = ap (λ (v : Expression). put_expression v []) (free_unfolds a) ∙ joined_bytes (free_view (view a)) (free (tail a))

pub free-nothing : (a : Terms) → view a ≡ View.nothing → free_bytes a ≡ []
unfolding free view put_expression
free-nothing nil e = refl
free-nothing (symbol s x r) e = absurd (one-begins e)
free-nothing (variable s s_kind n r) e = absurd (one-begins e)
free-nothing (variable s t_kind n r) e = absurd (one-begins e)
free-nothing (variable s e_kind n r) e = absurd (absorbing-begins e)
free-nothing (bracket s i r) e = absurd (one-begins e)
free-nothing (call s f a r) e = absurd (one-begins e)
free-nothing (block s a b r) e = absurd (one-begins e)

-- ---- the meeting by views

pub meet-nothing : (c : Bool) (a b : Terms) → meet_bytes c 0 a b ≡ []
unfolding meet_enter put_expression
meet-nothing c a b = ap (λ (v : Expression). put_expression v []) (unfold_meet c 0 a b)

module _ (c : Bool) (f : ℕ) (a b : Terms) where
  by_views : (x y : View) → view a ≡ x → view b ≡ y → meet_sequence c (suc f) a b ≡ meet_entered meet_sequence c x y a b f
  unfolding meet_enter
  by_views x y e h = unfold_meet c (suc f) a b ∙ ap₂ (λ (v w : View). meet_entered meet_sequence c v w a b f) e h

  bytes : {v w : Expression} → v ≡ w → put_expression v [] ≡ put_expression w []
  bytes e = ap (λ (v : Expression). put_expression v []) e

  pub first_ends : view a ≡ View.nothing → meet_bytes c (suc f) a b ≡ []
  unfolding meet_entered put_expression
  first_ends e = bytes (by_views View.nothing (view b) e refl)

  pub second-ends : view b ≡ View.nothing → meet_bytes c (suc f) a b ≡ []
  unfolding meet_entered put_expression
  second-ends e = bytes (go (view a) refl)
    where
      go : (x : View) → view a ≡ x → meet_sequence c (suc f) a b ≡ void
      go View.nothing h = by_views View.nothing View.nothing h e
      go (View.absorbing r) h = by_views (View.absorbing r) View.nothing h e
      go (View.one x r) h = by_views (View.one x r) View.nothing h e

  pub first-splits : (r : Terms) → view a ≡ View.absorbing r → (view b ≡ View.nothing → ⊥) → meet_bytes c (suc f) a b ≡ split_bytes c f r b
  unfolding meet_entered
  first-splits r e n = bytes (go (view b) refl)
    where
      go : (y : View) → view b ≡ y → meet_sequence c (suc f) a b ≡ meet_splits meet_sequence c r (ends b) f
      go View.nothing h = absurd (n h)
      go (View.absorbing s) h = by_views (View.absorbing r) (View.absorbing s) e h
      go (View.one y s) h = by_views (View.absorbing r) (View.one y s) e h

  pub second-splits : (x : One) (r s : Terms) → view a ≡ View.one x r → view b ≡ View.absorbing s → meet_bytes c (suc f) a b ≡ split_bytes (not c) f s a
  unfolding meet_entered
  second-splits x r s e h = bytes (by_views (View.one x r) (View.absorbing s) e h)

  pub heads-meet : (x y : One) (r s : Terms) → view a ≡ View.one x r → view b ≡ View.one y s → meet_bytes c (suc f) a b ≡ head_bytes c x y ++ meet_bytes c f r s
  unfolding meet_entered
  heads-meet x y r s e h = bytes (by_views (View.one x r) (View.one y s) e h) ∙ joined_bytes (meet_of_terms meet_sequence c x y) (meet_sequence c f r s)

-- ---- splits

before_joins : (x : View) (v : Expression) → before x v ≡ free_view x ⧺ v
unfolding before free_view ◌⧺◌
before_joins View.nothing v = refl
before_joins (View.absorbing r) v = refl
before_joins (View.one x r) v = refl

if_overlaps : (w : Verdict) (u v : Expression) → is_overlap w ≡ true → if_overlap w u v ≡ u
if_overlaps Disjoint u v h = absurd (true≢false (sym h))
if_overlaps Overlap u v h = refl
if_overlaps Unknown u v h = absurd (true≢false (sym h))

if_not : (w : Verdict) (u v : Expression) → is_overlap w ≡ false → if_overlap w u v ≡ v
if_not Disjoint u v h = refl
if_not Overlap u v h = absurd (true≢false h)
if_not Unknown u v h = refl

module _ (c : Bool) (f : ℕ) (r o : Terms) (q : Found) (asked : q ≡ sequence f r o) where
  from : (os : List Terms) → ends o ≡ o ∷ os → meet_splits meet_sequence c r (ends o) f ≡ if_overlap q.verdict (meet_sequence c f r o) (before (view o) (meet_splits meet_sequence c r os q.fuel))
  unfolding meet_splits
  from os e =
      ap (λ (l : List Terms). meet_splits meet_sequence c r l f) e
      ∙ ap (λ (z : Found). if_overlap z.verdict (meet_sequence c f r o) (before (view o) (meet_splits meet_sequence c r os z.fuel))) (sym asked)

  -- This end meets the rest.
  pub split_meets : is_overlap q.verdict ≡ true → split_bytes c f r o ≡ meet_bytes c f r o
  split_meets h =
      let e = ends-first o in
      ap (λ (v : Expression). put_expression v []) (from e.0 e.1 ∙ if_overlaps q.verdict _ _ h)

  module _ (h : is_overlap q.verdict ≡ false) where
    -- It does not, and it was the last.
    pub split_fails : view o ≡ View.nothing → split_bytes c f r o ≡ []
    unfolding meet_splits put_expression before
    split_fails e =
        ap (λ (v : Expression). put_expression v []) (from [] (ends_last o e) ∙ if_not q.verdict _ _ h ∙ ap (λ (x : View). before x void) e)

    -- It does not: the variable takes its first term.
    pub split_takes : (view o ≡ View.nothing → ⊥) → split_bytes c f r o ≡ first_bytes o ++ split_bytes c q.fuel r (tail o)
    split_takes n =
        let rest = meet_splits meet_sequence c r (ends (tail o)) q.fuel in
        ap (λ (v : Expression). put_expression v []) (from (ends (tail o)) (ends_more o n) ∙ if_not q.verdict _ _ h ∙ before_joins (view o) rest) ∙ joined_bytes (free_view (view o)) rest
