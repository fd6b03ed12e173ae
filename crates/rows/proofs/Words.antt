-- Cells of two sequences in both orders, by what the sequences begin with.
use Prim.Native.Nat.{ℕ, ◌+◌, ◌-◌, ◌/◌, ◌%◌, ◌<◌, ◌≤◌}
use native.Mathlib.Omega.{arith}
use mathlib.Core.Path.{◌≡◌, refl, sym, ap, ◌∙◌, subst}
use mathlib.Core.Bool.{Bool, true, false, cond}
use mathlib.Core.List.{List, [], ◌∷◌}
use lib.Dec.{eqb, ltb}
use borrow.Author.Tests.{ltb-false}
use Rattle.program.specs.Syntax.{s_kind, t_kind, e_kind, Terms, nil, symbol, variable, bracket, call, block}
use Rattle.image.specs.Parts.{tail}
use Rattle.patterns.specs.declared.Verdict.{Verdict}
use Rattle.patterns.specs.declared.Verdict.TheVariants.{Disjoint, Overlap, Unknown}
use Rattle.patterns.specs.declared.Found.{Found}
use Rattle.patterns.specs.Search.{found, One, View, view, leftover_overlap, ends, after_split, splits_from, absorbing_split, start, overlap_of_terms, sequence}
use Rattle.patterns.proofs.Unfold.{no_fuel, absorbing-begins, one-begins, empty-first, empty-second, first_absorbs, second_absorbs, heads_compared}
use Rattle.rows.specs.Cells.{code_of, Cell, stopped, spent, behind_of, ends_of, low, high, both, ended_both, PairTold, SplitsTold}
use Rattle.rows.specs.Rows.{HeadsTold}
use Rattle.rows.proofs.Costs.{too_little, enough, either}
use Rattle.rows.proofs.Cells.{spent_cell, ended_cell, behind_cell, ends_cell}

-- A cell is below 65,536.
small : {s : ℕ → Found} {n : ℕ} → Cell s n → n < 65536
small c = omega (arith, c.few)

pub low-both : (c d : ℕ) → c < 65536 → low (both c d) ≡ c
low-both c d l = omega arith

pub high-both : (c d : ℕ) → c < 65536 → high (both c d) ≡ d
high-both c d l = omega arith

pub pair-both : {x y : Terms} {c d : ℕ} → Cell (λ f. sequence f x y) c → Cell (λ f. sequence f y x) d → PairTold x y (both c d)
pair-both {x} {y} {c} {d} k h = record {
  first = subst (λ (n : ℕ). Cell (λ f. sequence f x y) n) (sym (low-both c d (small k))) k;
  second = subst (λ (n : ℕ). Cell (λ f. sequence f y x) n) (sym (high-both c d (small k))) h;
}

pub splits-both : {x y : Terms} {c d : ℕ} → Cell (λ f. absorbing_split sequence f x y) c → Cell (λ f. absorbing_split sequence f y x) d → SplitsTold x y (both c d)
splits-both {x} {y} {c} {d} k h = record {
  first = subst (λ (n : ℕ). Cell (λ f. absorbing_split sequence f x y) n) (sym (low-both c d (small k))) k;
  second = subst (λ (n : ℕ). Cell (λ f. absorbing_split sequence f y x) n) (sym (high-both c d (small k))) h;
}

pub turned_told : {x y : Terms} {w : ℕ} → PairTold x y w → PairTold y x (both (high w) (low w))
turned_told t = pair-both t.second t.first

-- One of the two is empty.
module _ (x y : Terms) where
  pub closed_first : view x ≡ View.nothing → PairTold x y (ended_both (leftover_overlap y))
  closed_first e =
      pair-both (ended_cell (λ f. sequence f x y) (leftover_overlap y) (no_fuel x y) (λ f l. empty-first f x y e))
      (ended_cell (λ f. sequence f y x) (leftover_overlap y) (no_fuel y x) (λ f l. empty-second f y x e))

  pub closed_second : view y ≡ View.nothing → PairTold x y (ended_both (leftover_overlap x))
  closed_second e =
      pair-both (ended_cell (λ f. sequence f x y) (leftover_overlap x) (no_fuel x y) (λ f l. empty-second f x y e))
      (ended_cell (λ f. sequence f y x) (leftover_overlap x) (no_fuel y x) (λ f l. empty-first f y x e))

  -- An `e.` variable of the first, or of the second alone.
  first_takes : view x ≡ View.absorbing (tail x) → (view y ≡ View.nothing → ⊥) → {n : ℕ} → Cell (λ f. absorbing_split sequence f (tail x) y) n → Cell (λ f. sequence f x y) (spent n)
  first_takes e h k = spent_cell (λ f. sequence f x y) (λ f. absorbing_split sequence f (tail x) y) (no_fuel x y) (λ f l. first_absorbs f x y (tail x) e h) k

  second_takes : (p : One) → view x ≡ View.one p (tail x) → view y ≡ View.absorbing (tail y) → {n : ℕ} → Cell (λ f. absorbing_split sequence f (tail y) x) n → Cell (λ f. sequence f x y) (spent n)
  second_takes p e h k = spent_cell (λ f. sequence f x y) (λ f. absorbing_split sequence f (tail y) x) (no_fuel x y) (λ f l. second_absorbs f x y (tail x) (tail y) p e h) k

  -- Two heads, and then the tails.
  heads-first : (p q : One) → view x ≡ View.one p (tail x) → view y ≡ View.one q (tail y) → (h : ℕ) → h % 4 ≡ code_of (overlap_of_terms sequence p q)
      → {n : ℕ} → Cell (λ f. sequence f (tail x) (tail y)) n → Cell (λ f. sequence f x y) (behind_of h n)
  heads-first p q e g h c k =
      behind_cell (λ f. sequence f x y) (λ f. sequence f (tail x) (tail y)) (overlap_of_terms sequence p q) (no_fuel x y) (λ f l. heads_compared f x y (tail x) (tail y) p q e g) h c k

-- The pair by what x and y begin with, from the cells beside it: that of both tails, those of the splits.
module _ {x y : Terms} where
  pub absorbing-both : {below right : ℕ} → view x ≡ View.absorbing (tail x) → view y ≡ View.absorbing (tail y) → SplitsTold (tail x) y below → SplitsTold x (tail y) right
      → PairTold x y (both (spent (low below)) (spent (high right)))
  absorbing-both e h s t = pair-both (first_takes x y e (λ q. absorbing-begins (sym h ∙ q)) s.first) (first_takes y x h (λ q. absorbing-begins (sym e ∙ q)) t.second)

  pub absorbing-first : {below : ℕ} (q : One) → view x ≡ View.absorbing (tail x) → view y ≡ View.one q (tail y) → SplitsTold (tail x) y below → PairTold x y (both (spent (low below)) (spent (low below)))
  absorbing-first q e h s = pair-both (first_takes x y e (λ z. one-begins (sym h ∙ z)) s.first) (second_takes y x q h e s.first)

  pub absorbing-second : {right : ℕ} (p : One) → view x ≡ View.one p (tail x) → view y ≡ View.absorbing (tail y) → SplitsTold x (tail y) right → PairTold x y (both (spent (high right)) (spent (high right)))
  absorbing-second p e h t = pair-both (second_takes x y p e h t.second) (first_takes y x h (λ z. one-begins (sym e ∙ z)) t.second)

  pub heads-both : {w diagonal : ℕ} (p q : One) → view x ≡ View.one p (tail x) → view y ≡ View.one q (tail y) → HeadsTold x y w → PairTold (tail x) (tail y) diagonal
      → PairTold x y (both (behind_of (low w) (low diagonal)) (behind_of (high w) (high diagonal)))
  heads-both {w} p q e h k d = pair-both (heads-first x y p q e h (low w) (k.first p q e h) d.first) (heads-first y x q p h e (high w) (k.second p q e h) d.second)

-- ---- splits

ends_last : (t : Terms) → view t ≡ View.nothing → ends t ≡ t ∷ []
unfolding ends view
ends_last nil e = refl
ends_last (symbol s x r) e = absurd (one-begins e)
ends_last (variable s s_kind n r) e = absurd (one-begins e)
ends_last (variable s t_kind n r) e = absurd (one-begins e)
ends_last (variable s e_kind n r) e = absurd (absorbing-begins e)
ends_last (bracket s i r) e = absurd (one-begins e)
ends_last (call s f a r) e = absurd (one-begins e)
ends_last (block s a b r) e = absurd (one-begins e)

ends_more : (t : Terms) → (view t ≡ View.nothing → ⊥) → ends t ≡ t ∷ ends (tail t)
unfolding ends view tail
ends_more nil h = absurd (h refl)
ends_more (symbol s x r) h = refl
ends_more (variable s k n r) h = refl
ends_more (bracket s i r) h = refl
ends_more (call s f a r) h = refl
ends_more (block s a b r) h = refl

same_cell : {s : ℕ → Found} (t : ℕ → Found) {n : ℕ} → ((f : ℕ) → t f ≡ s f) → Cell s n → Cell t n
same_cell t e c = record { verdict = c.verdict; code = c.code; few = c.few; out = c.out; answers = λ f l. e f ∙ c.answers f l }

one_end : (v : Verdict) (g : ℕ) → after_split v g Disjoint (λ w h. found w h) ≡ found v g
one_end Disjoint g = refl
one_end Overlap g = refl
one_end Unknown g = refl

module _ (x y : Terms) where
  -- The last end: nothing.
  pub last_end : view y ≡ View.nothing → {n : ℕ} → Cell (λ f. sequence f x y) n → Cell (λ f. absorbing_split sequence f x y) n
  unfolding absorbing_split splits_from
  last_end e k =
      same_cell (λ f. absorbing_split sequence f x y) (λ f. ap (λ (l : List Terms). splits_from sequence x l Disjoint f) (ends_last y e) ∙ one_end (sequence f x y).verdict (sequence f x y).fuel) k

  -- An end, and then the later ones.
  pub more-ends : (view y ≡ View.nothing → ⊥) → {n m : ℕ} → Cell (λ f. sequence f x y) n → Cell (λ f. absorbing_split sequence f x (tail y)) m → Cell (λ f. absorbing_split sequence f x y) (ends_of n m)
  unfolding absorbing_split
  more-ends h {n} {m} k j =
      same_cell (λ f. absorbing_split sequence f x y) (λ f. ap (λ (l : List Terms). splits_from sequence x l Disjoint f) (ends_more y h)) (ends_cell x y (ends (tail y)) n m k j)

-- No later ends, of no cost and Disjoint, change nothing.
no-ends : {s : ℕ → Found} {n : ℕ} → Cell s n → ends_of n 1 ≡ n
unfolding ends_of stopped
no-ends {s} {n} c = let e : n + 1 - 1 ≡ n = omega arith in rw e (go (eqb (n % 4) 2) (ltb n 16388) refl)
  where
    last : (v : Verdict) → n % 4 ≡ code_of v → v ≡ Unknown → n % 4 ≡ 3
    last v e u = e ∙ ap code_of u

    go : (t u : Bool) → ltb n 16388 ≡ u → cond t n (cond u n 16391) ≡ n
    go true u e = refl
    go false true e = refl
    go false false e =
        let l : 16388 ≤ n = ltb-false n 16388 e in
        let m : n % 4 ≡ 3 = last c.verdict c.code (c.out (omega (arith, l))) in
        omega (arith, l, m, c.few)

module _ {x y : Terms} {s : ℕ} (k : PairTold x y s) where
  pub ends-both : {right below : ℕ} → (view x ≡ View.nothing → ⊥) → (view y ≡ View.nothing → ⊥) → SplitsTold x (tail y) right → SplitsTold (tail x) y below
      → SplitsTold x y (both (ends_of (low s) (low right)) (ends_of (high s) (high below)))
  ends-both e h t u = splits-both (more-ends x y h k.first t.first) (more-ends y x e k.second u.second)

  -- Against an empty first, or an empty second: of the other there are no later ends.
  pub ends_row : {right : ℕ} → view x ≡ View.nothing → (view y ≡ View.nothing → ⊥) → SplitsTold x (tail y) right → SplitsTold x y (both (ends_of (low s) (low right)) (ends_of (high s) 1))
  ends_row e h t = splits-both (more-ends x y h k.first t.first) (subst (λ (n : ℕ). Cell (λ f. absorbing_split sequence f y x) n) (sym (no-ends k.second)) (last_end y x e k.second))

  pub ends_column : {below : ℕ} → (view x ≡ View.nothing → ⊥) → view y ≡ View.nothing → SplitsTold (tail x) y below → SplitsTold x y (both (ends_of (low s) 1) (ends_of (high s) (high below)))
  ends_column e h u = splits-both (subst (λ (n : ℕ). Cell (λ f. absorbing_split sequence f x y) n) (sym (no-ends k.first)) (last_end x y h k.first)) (more-ends y x e k.second u.second)

  pub ends_corner : view x ≡ View.nothing → view y ≡ View.nothing → SplitsTold x y s
  ends_corner e h = record { first = last_end x y h k.first; second = last_end y x e k.second }

-- ---- the verdict in a cell

pub cell_verdict : (i j : Terms) {n : ℕ} → Cell (λ f. sequence f i j) n → n % 4 ≡ code_of (sequence start i j).verdict
cell_verdict i j {n} c =
    c.code
    ∙ ap code_of
    (either start (n / 4) (λ l. c.out l ∙ sym (ap (λ (q : Found). q.verdict) (c.answers start (omega arith) ∙ too_little (n / 4) c.verdict start l)))
    (λ g e. sym (ap (λ (q : Found). q.verdict) (c.answers start (omega arith) ∙ enough (n / 4) c.verdict start g e))))
