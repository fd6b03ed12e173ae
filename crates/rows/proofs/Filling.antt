-- A row from the row below it, place by place, and a table row by row.
use Prim.Native.Nat.{ℕ, zero, suc, ◌+◌, ◌-◌, ◌*◌, ◌<◌, ◌≤◌}
use native.Mathlib.Omega.{arith}
use mathlib.Core.Path.{◌≡◌, refl, sym, ap, ◌∙◌, subst}
use mathlib.Core.Bool.{Bool, true, false}
use mathlib.Core.List.{List}
use lib.Dec.{eqb}
use lib.ListN.{length, get_or, set, length-set}
use lib.Seq.{get_or-set_same, get_or-set_other}
use borrow.Author.Tests.{eqb-true, eqb-false}
use Rattle.program.specs.Syntax.{Terms}
use Rattle.image.specs.Parts.{tail}
use Rattle.patterns.specs.Search.{View, view, leftover_overlap, size}
use Rattle.patterns.proofs.Unfold.{leftover_view}
use Rattle.rows.specs.Cells.{ends_of, low, high, both, ended_both, PairTold, SplitsTold}
use Rattle.rows.specs.Rows.{read_at, listed_at, behind_terms, closing, Stands, Listed, Kept, Cells, Row, Lies, Beside, Above, Lists, RoomFor, RowRoom, TableRoom}
use Rattle.rows.proofs.Words.{turned_told, closed_first, closed_second, ends-both, ends_row, ends_column, ends_corner}
use Rattle.rows.proofs.Sizes.{stands-size, listed-size, inside_size}
use Rattle.rows.proofs.Places.{place-some, kept_same, kept_then, kept_less}
use Rattle.rows.proofs.Lists.{closing-next, kept_set, first-listed, some-listed}

-- ---- entries

-- Two words at an entry.
abbrev pub words : List ℕ → ℕ → ℕ → ℕ → List ℕ
words m at s t = set (set m at s) (at + 1) t

module _ (m : List ℕ) (at s t : ℕ) (l : at + 1 < length m) where
  first_word : get_or (words m at s t) at 0 ≡ s
  first_word = get_or-set_other (set m at s) (at + 1) at t 0 (λ e. omega (arith, e)) ∙ get_or-set_same m at s 0 (omega (arith, l))

  second_word : get_or (words m at s t) (at + 1) 0 ≡ t
  second_word = get_or-set_same (set m at s) (at + 1) t 0 (omega (arith, l, length-set m at s))

other_words : (m : List ℕ) (at s t k : ℕ) → (k ≡ at → ⊥) → (k ≡ at + 1 → ⊥) → get_or (words m at s t) k 0 ≡ get_or m k 0
other_words m at s t k d e = get_or-set_other (set m at s) (at + 1) k t 0 e ∙ get_or-set_other m at k s 0 d

kept_words : (base : ℕ) (m : List ℕ) (at s t : ℕ) → base ≤ at → Kept base m (words m at s t)
kept_words base m at s t l = kept_then (kept_set base m at s l) (kept_set base (set m at s) (at + 1) t (omega (arith, l)))

pub listed_kept : {b m new : List ℕ} {at n base : ℕ} {t : Terms} → at + n ≤ base → Kept base m new → Listed b m at n t → Listed b new at n t
listed_kept {b} {m} {new} {at} {n} {base} {t} l k h = record {
  stands = λ j i. subst (λ (q : ℕ). Stands b q (behind_terms j t)) (sym (k.below (at + j) (omega (arith, l, i)))) (h.stands j i);
  ends = h.ends;
}

abbrev At : List ℕ → ℕ → ℕ → Terms → Terms → Type 0
At m row j x y = Cells x (behind_terms j y) (get_or m (row + 2 * j) 0) (get_or m (row + 2 * j + 1) 0)

same_at : (m new : List ℕ) (row j : ℕ) (x y : Terms) → get_or new (row + 2 * j) 0 ≡ get_or m (row + 2 * j) 0 → get_or new (row + 2 * j + 1) 0 ≡ get_or m (row + 2 * j + 1) 0 → At m row j x y → At new row j x y
same_at m new row j x y d e h = record {
  pair = subst (λ (w : ℕ). PairTold x (behind_terms j y) w) (sym d) h.pair;
  splits = subst (λ (w : ℕ). SplitsTold x (behind_terms j y) w) (sym e) h.splits;
}

row_kept : (m new : List ℕ) (row top lo hi : ℕ) (x y : Terms) → Kept top m new → row + 2 * hi ≤ top → Row m row lo hi x y → Row new row lo hi x y
row_kept m new row top lo hi x y k l h j a b =
    same_at m new row j x y (k.below (row + 2 * j) (omega (arith, b, l))) (k.below (row + 2 * j + 1) (omega (arith, b, l))) (h j a b)

-- Two words of the row at i: all else of the row is as it was.
module _ (m : List ℕ) (row i s t : ℕ) (l : row + 2 * i + 1 < length m) (x y : Terms) where
  abbrev new : List ℕ
  new = words m (row + 2 * i) s t

  row_other : (j : ℕ) → (j ≡ i → ⊥) → At m row j x y → At new row j x y
  row_other j d h =
      same_at m new row j x y (other_words m (row + 2 * i) s t (row + 2 * j) (λ e. d (omega (arith, e))) (λ e. omega (arith, e)))
      (other_words m (row + 2 * i) s t (row + 2 * j + 1) (λ e. omega (arith, e)) (λ e. d (omega (arith, e)))) h

  row_here : Cells x (behind_terms i y) s t → At new row i x y
  row_here h = record {
    pair = subst (λ (w : ℕ). PairTold x (behind_terms i y) w) (sym (first_word m (row + 2 * i) s t l)) h.pair;
    splits = subst (λ (w : ℕ). SplitsTold x (behind_terms i y) w) (sym (second_word m (row + 2 * i) s t l)) h.splits;
  }

  row_longer : (lo hi : ℕ) → lo ≡ suc i → Cells x (behind_terms i y) s t → Row m row lo hi x y → Row new row i hi x y
  row_longer lo hi q c h j a b = go (eqb j i) refl
    where
      go : (u : Bool) → eqb j i ≡ u → At new row j x y
      go true e = subst (λ (k : ℕ). At new row k x y) (sym (eqb-true j i e)) (row_here c)
      go false e = let d = eqb-false j i e in row_other j d (h j (omega (arith, a, d, q)) b)

  row_shorter : (hi : ℕ) → hi ≡ suc i → Row m row 0 hi x y → Row new row 0 i x y
  row_shorter hi q h j a b = row_other j (λ e. omega (arith, e, b)) (h j a (omega (arith, b, q)))

-- One term less.
pub behind_step : (j : ℕ) (y : Terms) → 0 < j → tail (behind_terms (j - 1) y) ≡ behind_terms j y
unfolding behind_terms
behind_step zero y l = absurd (omega arith)
behind_step (suc i) y l = let z : suc i - 1 ≡ i = omega arith in ap (λ (n : ℕ). tail (behind_terms n y)) z

one_less : (j : ℕ) → 0 < j → j ≡ suc (j - 1)
one_less j l = omega arith

stood : {b : List ℕ} {q : ℕ} {t : Terms} → Stands b q t → (view t ≡ View.nothing → ⊥)
stood {b} {q} {t} s = subst (λ (u : Terms). view u ≡ View.nothing → ⊥) s.is (place-some s.from s.further)

-- The term in turn of a list.
pub in_turn_lem : {b m now : List ℕ} {at n base : ℕ} {t : Terms} (j q : ℕ) → at + n ≤ base → Kept base m now → Listed b m at n t → 0 < j → j ≤ n → q ≡ get_or now (at + (j - 1)) 0 → Stands b q (behind_terms (j - 1) t)
in_turn_lem {b} {m} {now} {at} {n} {base} {t} j q f k h l i e =
    subst (λ (u : ℕ). Stands b u (behind_terms (j - 1) t)) (sym (e ∙ k.below (at + (j - 1)) (omega (arith, f, i, l)))) (h.stands (j - 1) (omega (arith, l, i)))

-- ---- the word at the close

-- What is left over of a tail, from that of the tail behind its first term.
pub word_next : {b : List ℕ} (t : Terms) (j q w : ℕ) → 0 < j → Stands b q (behind_terms (j - 1) t) → w ≡ ended_both (leftover_overlap (behind_terms j t))
    → closing (get_or b q 0) w ≡ ended_both (leftover_overlap (behind_terms (j - 1) t))
word_next {b} t j q w l s e =
    closing-next s.from s.further w (e ∙ ap (λ (u : Terms). ended_both (leftover_overlap u)) (sym (behind_step j t l) ∙ ap tail (sym s.is)))
    ∙ ap (λ (u : Terms). ended_both (leftover_overlap u)) s.is

word-last : (t : Terms) → view t ≡ View.nothing → 393222 ≡ ended_both (leftover_overlap t)
word-last t e = sym (ap ended_both (leftover_view t View.nothing e))

-- ---- the row of nothing

pub record Closing (b m now : List ℕ) (n row j s t : ℕ) (y : Terms) : Type 0 where
  pub kept : Kept row m now
  pub within : j ≤ n
  pub word : s ≡ ended_both (leftover_overlap (behind_terms j y))
  pub splits : (x : Terms) → view x ≡ View.nothing → SplitsTold x (behind_terms j y) t
  pub done : (x : Terms) → view x ≡ View.nothing → Row now row j n x y

pub corner : (x y : Terms) → view x ≡ View.nothing → view y ≡ View.nothing → SplitsTold x y 393222
corner x y d e = subst (λ (w : ℕ). SplitsTold x y w) (sym (word-last y e)) (ends_corner (closed_first x y d) d e)

pub closing-first : {b m : List ℕ} {ys n row : ℕ} {y : Terms} → Lies b m ys n row y → Closing b m m n row n 393222 393222 y
closing-first {b} {m} {ys} {n} {row} {y} h = record {
  kept = kept_same row m;
  within = omega arith;
  word = word-last (behind_terms n y) h.listed.ends;
  splits = λ x e. corner x (behind_terms n y) e h.listed.ends;
  done = λ x e j a i. absurd (omega (arith, a, i));
}

-- A turn: q is the place of the term in turn, w and u the new words.
module _ {b m now : List ℕ} {ys n row j s t : ℕ} {y : Terms} (h : Lies b m ys n row y) (r : Closing b m now n row j s t y) (l : 0 < j) (q : ℕ) (e : q ≡ get_or now (ys + (j - 1)) 0) where
  pub closing-stands : Stands b q (behind_terms (j - 1) y)
  closing-stands = in_turn_lem j q h.before r.kept h.listed l r.within e

  pub closing-turn : (w u : ℕ) → w ≡ closing (get_or b q 0) s → u ≡ both (ends_of (low w) (low t)) (ends_of (high w) 1) → (new : List ℕ) → new ≡ words now (row + 2 * (j - 1)) w u → Closing b m new n row (j - 1) w u y
  closing-turn w u d c new f =
      let k = closing-stands in
      let i : w ≡ ended_both (leftover_overlap (behind_terms (j - 1) y)) = d ∙ word_next y j q s l k r.word in
      let room : row + 2 * (j - 1) + 1 < length now = omega (arith, h.fits, r.within, r.kept.length, l) in
      let splits : (x : Terms) → view x ≡ View.nothing → SplitsTold x (behind_terms (j - 1) y) u = λ x o.
      subst (λ (v : ℕ). SplitsTold x (behind_terms (j - 1) y) v) (sym c)
      (ends_row (subst (λ (v : ℕ). PairTold x (behind_terms (j - 1) y) v) (sym i) (closed_first x (behind_terms (j - 1) y) o)) o (stood k)
      (subst (λ (v : Terms). SplitsTold x v t) (sym (behind_step j y l)) (r.splits x o))) in
      record {
        kept = kept_then r.kept (subst (λ (v : List ℕ). Kept row now v) (sym f) (kept_words row now (row + 2 * (j - 1)) w u (omega arith)));
        within = omega (arith, r.within);
        word = i;
        splits = splits;
        done = λ x o. subst (λ (v : List ℕ). Row v row (j - 1) n x y) (sym f)
            (row_longer now row (j - 1) w u room x y j n (one_less j l)
            (record { pair = subst (λ (v : ℕ). PairTold x (behind_terms (j - 1) y) v) (sym i) (closed_first x (behind_terms (j - 1) y) o); splits = splits x o }) (r.done x o));
      }

pub closing-done : {b m now : List ℕ} {n row j s t : ℕ} {y : Terms} → Closing b m now n row j s t y → j ≤ 0 → (x : Terms) → view x ≡ View.nothing → Row now row 0 n x y
closing-done {b} {m} {now} {n} {row} {j} {s} {t} {y} r l x e = let z : j ≡ 0 = omega (arith, l) in subst (λ (i : ℕ). Row now row i n x y) z (r.done x e)

-- ---- a row over the row of the tail behind

-- The cells from j on are those of the tail at p, the others still those of the tail behind its first term.
pub record Filling (b m now : List ℕ) (p n row j diagonal right : ℕ) (y : Terms) : Type 0 where
  pub kept : Kept row m now
  pub within : j ≤ n
  pub done : Row now row j n (read_at b p) y
  pub below : Row now row 0 j (tail (read_at b p)) y
  pub diagonal_told : PairTold (tail (read_at b p)) (behind_terms j y) diagonal
  pub right-told : SplitsTold (read_at b p) (behind_terms j y) right

pub filling_first : {b m : List ℕ} {p ys n row beneath side : ℕ} {y : Terms} → Above b m p ys n row beneath side y → Filling b m m p n row n beneath side y
filling_first {b} {m} {p} {ys} {n} {row} h = record {
  kept = kept_same row m;
  within = omega arith;
  done = λ j a i. absurd (omega (arith, a, i));
  below = h.below;
  diagonal_told = h.beneath_told;
  right-told = h.side_told;
}

-- A turn: q is the place of the term in turn, `under` and `below` are the words that stand there.
module _ {b m now : List ℕ} {p ys n row beneath side j d t : ℕ} {y : Terms} (h : Above b m p ys n row beneath side y) (r : Filling b m now p n row j d t y) (l : 0 < j)
    (q under below : ℕ) (e : q ≡ get_or now (ys + (j - 1)) 0) (f : under ≡ get_or now (row + 2 * (j - 1)) 0) (g : below ≡ get_or now (row + 2 * (j - 1) + 1) 0) where
  abbrev x : Terms
  x = read_at b p

  abbrev z : Terms
  z = behind_terms (j - 1) y

  pub filling_stands : Stands b q z
  filling_stands = in_turn_lem j q h.lies.before r.kept h.lies.listed l r.within e

  under_told : Cells (tail x) z under below
  under_told =
      let k = r.below (j - 1) (omega arith) (omega (arith, l)) in
      record { pair = subst (λ (w : ℕ). PairTold (tail x) z w) (sym f) k.pair; splits = subst (λ (w : ℕ). SplitsTold (tail x) z w) (sym g) k.splits }

  right-here : SplitsTold x (tail z) t
  right-here = subst (λ (v : Terms). SplitsTold x v t) (sym (behind_step j y l)) r.right-told

  pub filling_beside : Beside b p q d below t
  filling_beside =
      let s = filling_stands in
      record {
        few = h.few;
        first = h.from;
        second = s.from;
        first_some = h.some;
        second-some = s.further;
        diagonal_told = subst (λ (v : Terms). PairTold (tail x) v d) (sym (ap tail s.is ∙ behind_step j y l)) r.diagonal_told;
        below-told = subst (λ (v : Terms). SplitsTold (tail x) v below) (sym s.is) under_told.splits;
        right-told = subst (λ (v : Terms). SplitsTold x (tail v) t) (sym s.is) right-here;
      }

  pub filling_room : RowRoom b m p ys n row → RoomFor b (length now) (row + 2 * n) p q
  filling_room k =
      subst (λ (u : ℕ). RoomFor b (length now) (row + 2 * n) p u) (sym (e ∙ r.kept.below (ys + (j - 1)) (omega (arith, h.lies.before, r.within, l))))
      (subst (λ (u : ℕ). RoomFor b u (row + 2 * n) p (get_or m (ys + (j - 1)) 0)) (sym r.kept.length) (k (j - 1) (omega (arith, r.within, l))))

  -- The pair in turn has the word w, the splits the word u, and both have been put into the row.
  pub filling_turn : (w u : ℕ) → PairTold x (read_at b q) w → u ≡ both (ends_of (low w) (low t)) (ends_of (high w) (high below)) → (mid : List ℕ) → Kept (row + 2 * n) now mid
      → (new : List ℕ) → new ≡ words mid (row + 2 * (j - 1)) w u → Filling b m new p n row (j - 1) under u y
  filling_turn w u c i mid k new o =
      let s = filling_stands in
      let pair : PairTold x z w = subst (λ (v : Terms). PairTold x v w) s.is c in
      let splits : SplitsTold x z u = subst (λ (v : ℕ). SplitsTold x z v) (sym i) (ends-both pair (place-some h.from h.some) (stood s) right-here under_told.splits) in
      let room : row + 2 * (j - 1) + 1 < length mid = omega (arith, h.lies.fits, r.within, r.kept.length, k.length, l) in
      let more : Row mid row j n x y = row_kept now mid row (row + 2 * n) j n x y k (omega arith) r.done in
      let less : Row mid row 0 j (tail x) y = row_kept now mid row (row + 2 * n) 0 j (tail x) y k (omega (arith, r.within)) r.below in
      record {
        kept = kept_then r.kept (kept_then (kept_less (omega arith) k) (subst (λ (v : List ℕ). Kept row mid v) (sym o) (kept_words row mid (row + 2 * (j - 1)) w u (omega arith))));
        within = omega (arith, r.within);
        done = subst (λ (v : List ℕ). Row v row (j - 1) n x y) (sym o) (row_longer mid row (j - 1) w u room x y j n (one_less j l) (record { pair = pair; splits = splits }) more);
        below = subst (λ (v : List ℕ). Row v row 0 (j - 1) (tail x) y) (sym o) (row_shorter mid row (j - 1) w u room (tail x) y j (one_less j l) less);
        diagonal_told = under_told.pair;
        right-told = splits;
      }

pub filling_done : {b m now : List ℕ} {p n row j d t : ℕ} {y : Terms} → Filling b m now p n row j d t y → j ≤ 0 → Row now row 0 n (read_at b p) y
filling_done {b} {m} {now} {p} {n} {row} {j} {d} {t} {y} r l = let i : j ≡ 0 = omega (arith, l) in subst (λ (k : ℕ). Row now row k n (read_at b p) y) i r.done

-- ---- a table, row by row

-- The row of what the first list leaves behind i terms, and the cells at the close.
pub record Tabling (b m now : List ℕ) (a n row i beneath side : ℕ) (x y : Terms) : Type 0 where
  pub kept : Kept row m now
  pub within : i ≤ a
  pub told : Row now row 0 n (behind_terms i x) y
  pub word : beneath ≡ ended_both (leftover_overlap (behind_terms i x))
  pub side_told : SplitsTold (behind_terms i x) (behind_terms n y) side

-- The lists, once entries from the row on have changed.
module _ {b m now : List ℕ} {xs a ys n row : ℕ} (h : Lists b m xs a ys n row) (k : Kept row m now) where
  pub listed-first : listed_at b m xs ≡ listed_at b now xs
  listed-first = ap (read_at b) (sym (k.below xs (omega (arith, h.some.0, h.before.0))))

  pub listed_now : listed_at b m ys ≡ listed_at b now ys
  listed_now = ap (read_at b) (sym (k.below ys (omega (arith, h.some.1, h.before.1))))

  pub lists_kept : Lists b now xs a ys n row
  lists_kept = record {
    few = h.few;
    first = subst (λ (t : Terms). Listed b now xs a t) listed-first (listed_kept h.before.0 k h.first);
    second = subst (λ (t : Terms). Listed b now ys n t) listed_now (listed_kept h.before.1 k h.second);
    some = h.some;
    before = h.before;
    within = omega (arith, h.within, k.length);
  }

  pub told-before : (w : ℕ) → PairTold (listed_at b now xs) (listed_at b now ys) w → PairTold (listed_at b m xs) (listed_at b m ys) w
  told-before w t = subst (λ (u : Terms). PairTold u (listed_at b m ys) w) (sym listed-first) (subst (λ (u : Terms). PairTold (listed_at b now xs) u w) (sym listed_now) t)

  pub room-kept : TableRoom b m xs a ys n row → TableRoom b now xs a ys n row
  room-kept t = (
    omega (arith, t.0, k.length),
    λ i l j g c d.
        let e = k.below (xs + i) (omega (arith, l, h.before.0)) in
        let f = k.below (ys + j) (omega (arith, g, h.before.1)) in
        subst (λ (u : ℕ). RoomFor b (length now) (row + 2 * n) u (get_or now (ys + j) 0)) (sym e)
        (subst (λ (u : ℕ). RoomFor b (length now) (row + 2 * n) (get_or m (xs + i) 0) u) (sym f)
        (subst (λ (u : ℕ). RoomFor b u (row + 2 * n) (get_or m (xs + i) 0) (get_or m (ys + j) 0)) (sym k.length) (t.1 i l j g))) c d,
  )

-- Two entries for each term of two lists, from `base` on, are enough for a table of them.
pub lists_room : {b m : List ℕ} {xs a ys n row : ℕ} → Lists b m xs a ys n row → (base : ℕ) → n ≤ a → row ≤ base + a + n
    → base + 2 * (size (listed_at b m xs) + size (listed_at b m ys)) ≤ length m → TableRoom b m xs a ys n row
lists_room h base l e f = (
  omega (arith, l, e, f, listed-size h.first, listed-size h.second),
  λ i u j v c d. omega (arith, l, e, f, inside_size h.first i u c, inside_size h.second j v d),
)

pub lists_lie : {b m : List ℕ} {xs a ys n row : ℕ} → Lists b m xs a ys n row → row + 2 * n ≤ length m → Lies b m ys n row (listed_at b m ys)
lists_lie h l = record { listed = h.second; before = h.before.1; fits = l }

module _ {b m now : List ℕ} {xs a ys n row : ℕ} (h : Lists b m xs a ys n row) where
  pub tabling_first : Kept row m now → ((x : Terms) → view x ≡ View.nothing → Row now row 0 n x (listed_at b m ys))
      → Tabling b m now a n row a 393222 393222 (listed_at b m xs) (listed_at b m ys)
  tabling_first k r =
      let e = h.first.ends in
      record { kept = k; within = omega arith; told = r (behind_terms a (listed_at b m xs)) e; word = word-last (behind_terms a (listed_at b m xs)) e; side_told = corner (behind_terms a (listed_at b m xs)) (behind_terms n (listed_at b m ys)) e h.second.ends }

  module _ {i beneath side : ℕ} (r : Tabling b m now a n row i beneath side (listed_at b m xs) (listed_at b m ys)) (l : 0 < i) (fits : row + 2 * n ≤ length m) (p : ℕ) (e : p ≡ get_or now (xs + (i - 1)) 0) where
    abbrev u : Terms
    u = behind_terms (i - 1) (listed_at b m xs)

    abbrev v : Terms
    v = behind_terms n (listed_at b m ys)

    pub tabling_stands : Stands b p u
    tabling_stands = in_turn_lem i p h.before.0 r.kept h.first l r.within e

    pub tabling_size : size (read_at b p) ≤ size (listed_at b m xs)
    tabling_size = stands-size (i - 1) (listed_at b m xs) tabling_stands

    -- The cells at the close: w of the pair, g of the splits.
    module _ (w g : ℕ) (d : w ≡ closing (get_or b p 0) beneath) (f : g ≡ both (ends_of (low w) 1) (ends_of (high w) (high side))) where
      word-here : w ≡ ended_both (leftover_overlap u)
      word-here = d ∙ word_next (listed_at b m xs) i p beneath l tabling_stands r.word

      side-here : SplitsTold u v g
      side-here =
          subst (λ (k : ℕ). SplitsTold u v k) (sym f)
          (ends_column (subst (λ (k : ℕ). PairTold u v k) (sym word-here) (closed_second u v h.second.ends)) (stood tabling_stands) h.second.ends
          (subst (λ (t : Terms). SplitsTold t v side) (sym (behind_step i (listed_at b m xs) l)) r.side_told))

      pub tabling-above : Above b now p ys n row beneath g (listed_at b now ys)
      tabling-above =
          let s = tabling_stands in
          let tails : behind_terms i (listed_at b m xs) ≡ tail (read_at b p) = sym (ap tail s.is ∙ behind_step i (listed_at b m xs) l) in
          subst (λ (y : Terms). Above b now p ys n row beneath g y) (listed_now h r.kept)
          (record {
            few = h.few;
            lies = record { listed = listed_kept h.before.1 r.kept h.second; before = h.before.1; fits = omega (arith, fits, r.kept.length) };
            from = s.from;
            some = s.further;
            below = subst (λ (t : Terms). Row now row 0 n t (listed_at b m ys)) tails r.told;
            beneath_told = subst (λ (t : Terms). PairTold t v beneath) tails
                (subst (λ (k : ℕ). PairTold (behind_terms i (listed_at b m xs)) v k) (sym r.word) (closed_second (behind_terms i (listed_at b m xs)) v h.second.ends));
            side_told = subst (λ (t : Terms). SplitsTold t v g) (sym s.is) side-here;
          })

      pub tabling-turn : (new : List ℕ) → Kept row now new → Row new row 0 n (read_at b p) (listed_at b now ys) → Tabling b m new a n row (i - 1) w g (listed_at b m xs) (listed_at b m ys)
      tabling-turn new k o =
          let s = tabling_stands in
          record {
            kept = kept_then r.kept k;
            within = omega (arith, r.within);
            told = subst (λ (y : Terms). Row new row 0 n u y) (sym (listed_now h r.kept)) (subst (λ (t : Terms). Row new row 0 n t (listed_at b now ys)) s.is o);
            word = word-here;
            side_told = side-here;
          }

  pub tabling_done : {i beneath side : ℕ} → Tabling b m now a n row i beneath side (listed_at b m xs) (listed_at b m ys) → i ≤ 0 → (w : ℕ) → w ≡ get_or now row 0 → PairTold (listed_at b m xs) (listed_at b m ys) w
  unfolding behind_terms
  tabling_done {i} {beneath} {side} r l w e =
      let o : i ≡ 0 = omega (arith, l) in
      let c = subst (λ (k : ℕ). Row now row 0 n (behind_terms k (listed_at b m xs)) (listed_at b m ys)) o r.told 0 (omega arith) h.some.1 in
      let q : row + 2 * 0 ≡ row = omega arith in
      subst (λ (k : ℕ). PairTold (listed_at b m xs) (listed_at b m ys) k) (ap (λ (k : ℕ). get_or now k 0) q ∙ sym e) c.pair

-- ---- two patterns listed one behind the other

-- x and y, n terms from `from` on and i from `at` on, with room for a row behind them: either may have it.
pub record Both (b m : List ℕ) (from n at i : ℕ) (x y : Terms) : Type 0 where
  pub first-is : listed_at b m from ≡ x
  pub second_is : listed_at b m at ≡ y
  pub lists : Lists b m from n at i (at + i)
  pub turned : Lists b m at i from n (at + i)

pub both-listed : {b old m : List ℕ} {from n at i : ℕ} {x y : Terms} → length b ≤ 32768 → Listed b old from n x → Kept (from + n) old m
    → (at ≤ from + n) × (from + n ≤ at + i) × (at + i ≤ length m) × Listed b m at i y → (view x ≡ View.nothing → ⊥) → (view y ≡ View.nothing → ⊥) → Both b m from n at i x y
both-listed {b} {old} {m} {from} {n} {at} {i} {x} {y} f g k h d e =
    let first : Listed b m from n x = listed_kept (omega arith) k g in
    let a : 0 < n = some-listed first d in
    let c : 0 < i = some-listed h.3 e in
    let j : listed_at b m from ≡ x = first-listed first a in
    let l : listed_at b m at ≡ y = first-listed h.3 c in
    let u : Listed b m from n (listed_at b m from) = subst (λ (t : Terms). Listed b m from n t) (sym j) first in
    let v : Listed b m at i (listed_at b m at) = subst (λ (t : Terms). Listed b m at i t) (sym l) h.3 in
    let o : at + i ≤ at + i = omega arith in
    record {
      first-is = j;
      second_is = l;
      lists = record { few = f; first = u; second = v; some = (a, c); before = (h.1, o); within = h.2 };
      turned = record { few = f; first = v; second = u; some = (c, a); before = (o, h.1); within = h.2 };
    }

module _ {b m : List ℕ} {from n at i : ℕ} {x y : Terms} (k : Both b m from n at i x y) where
  pub both_told : (w : ℕ) → PairTold (listed_at b m from) (listed_at b m at) w → PairTold x y w
  both_told w t = subst (λ (u : Terms). PairTold u y w) k.first-is (subst (λ (u : Terms). PairTold (listed_at b m from) u w) k.second_is t)

  -- In the other order.
  pub both_turned : (w r : ℕ) → r ≡ both (high w) (low w) → PairTold (listed_at b m at) (listed_at b m from) w → PairTold x y r
  both_turned w r e t = both_told r (subst (λ (u : ℕ). PairTold (listed_at b m from) (listed_at b m at) u) (sym e) (turned_told t))
