-- A row of cells in the room, and what it stands on: the terms of two patterns by their places.
use Rattle.std.specs.Prelude.{ℕ, zero, suc, ◌+◌, ◌*◌, ◌%◌, ◌<◌, ◌≤◌, ◌≡◌, cond, List, eqb, length, drop, get_or}
use Rattle.program.specs.Syntax.{Terms, nil}
use Rattle.program.specs.Limits.{Mode}
use Rattle.program.specs.Automaton.{Stack, Read, run}
use Rattle.image.specs.Parts.{TermsAt, tail}
use Rattle.patterns.specs.Search.{One, View, view, overlap_of_terms, size, sequence}
use Rattle.rows.specs.Cells.{code_of, low, high, PairTold, SplitsTold}

-- The terms at the start of s, if some stand there.
abbrev pub first_read : Read (Terms × List ℕ) → Terms
first_read (Read.refused n l) = nil
first_read (Read.value v) = v.0

unfoldable pub terms_of : List ℕ → Terms
terms_of s = first_read (run (Stack.terms Mode.result 0 Stack.any) 0 s)

-- The terms at a place of the body.
abbrev pub read_at : List ℕ → ℕ → Terms
read_at b p = terms_of (drop p b)

-- What is left of a sequence behind so many terms.
unfoldable pub behind_terms : ℕ → Terms → Terms
behind_terms zero t = t
behind_terms (suc n) t = tail (behind_terms n t)

-- A pattern stands at the place p.
pub record PatternFrom (b : List ℕ) (p : ℕ) : Type 0 where
  pub pattern : TermsAt Mode.pattern (drop p b)

-- A term stands there, the first of t.
pub record Stands (b : List ℕ) (p : ℕ) (t : Terms) : Type 0 where
  pub from : PatternFrom b p
  pub is : read_at b p ≡ t
  pub further : get_or b p 0 ≡ 15 → ⊥

-- Both orders of an empty sequence and one that begins with the mark m, from those of its tail.
unfoldable pub closing : ℕ → ℕ → ℕ
closing m w = cond (eqb m 6) w 327685

-- Two heads at places, neither an `e.` variable, and not both brackets.
pub record Flat (b : List ℕ) (p q : ℕ) : Type 0 where
  pub first : PatternFrom b p
  pub second : PatternFrom b q
  pub first_one : (get_or b p 0 ≡ 15 → ⊥) × (get_or b p 0 ≡ 6 → ⊥)
  pub second-one : (get_or b q 0 ≡ 15 → ⊥) × (get_or b q 0 ≡ 6 → ⊥)
  pub apart : get_or b p 0 ≡ 7 → get_or b q 0 ≡ 7 → ⊥

-- The n terms of t, by their places, at the entries from `at` on.
pub record Listed (b m : List ℕ) (at n : ℕ) (t : Terms) : Type 0 where
  pub stands : (j : ℕ) → j < n → Stands b (get_or m (at + j) 0) (behind_terms j t)
  pub ends : view (behind_terms n t) ≡ View.nothing

-- Entries below `base` are as they were.
pub record Kept (base : ℕ) (old new : List ℕ) : Type 0 where
  pub length : length new ≡ length old
  pub below : (k : ℕ) → k < base → get_or new k 0 ≡ get_or old k 0

-- The cells of x against what y leaves behind j terms, for j from `lo` up to `hi`, at two entries each.
pub record Cells (x y : Terms) (s t : ℕ) : Type 0 where
  pub pair : PairTold x y s
  pub splits : SplitsTold x y t

abbrev pub Row : List ℕ → ℕ → ℕ → ℕ → Terms → Terms → Type 0
Row m row lo hi x y = (j : ℕ) → lo ≤ j → j < hi → Cells x (behind_terms j y) (get_or m (row + 2 * j) 0) (get_or m (row + 2 * j + 1) 0)

-- The verdict on two heads, in both orders.
pub record HeadsTold (x y : Terms) (w : ℕ) : Type 0 where
  pub first : (p q : One) → view x ≡ View.one p (tail x) → view y ≡ View.one q (tail y) → low w % 4 ≡ code_of (overlap_of_terms sequence p q)
  pub second : (p q : One) → view x ≡ View.one p (tail x) → view y ≡ View.one q (tail y) → high w % 4 ≡ code_of (overlap_of_terms sequence q p)

-- The pattern whose terms are listed from an entry on.
abbrev pub listed_at : List ℕ → List ℕ → ℕ → Terms
listed_at b m at = read_at b (get_or m at 0)

-- The terms of a pattern are listed, and the row for them lies behind.
pub record Lies (b m : List ℕ) (ys n row : ℕ) (y : Terms) : Type 0 where
  pub listed : Listed b m ys n y
  pub before : ys + n ≤ row
  pub fits : row + 2 * n ≤ length m

-- What the pair at p and q is made of: both begin with a term, and the cells beside it are known.
pub record Beside (b : List ℕ) (p q diagonal below right : ℕ) : Type 0 where
  pub few : length b ≤ 32768
  pub first : PatternFrom b p
  pub second : PatternFrom b q
  pub first_some : get_or b p 0 ≡ 15 → ⊥
  pub second-some : get_or b q 0 ≡ 15 → ⊥
  pub diagonal_told : PairTold (tail (read_at b p)) (tail (read_at b q)) diagonal
  pub below-told : SplitsTold (tail (read_at b p)) (read_at b q) below
  pub right-told : SplitsTold (read_at b p) (tail (read_at b q)) right

-- What a row is made of, for a tail at p that begins with a term: the row of the tail behind it, and the cells at the close.
pub record Above (b m : List ℕ) (p ys n row beneath side : ℕ) (y : Terms) : Type 0 where
  pub few : length b ≤ 32768
  pub lies : Lies b m ys n row y
  pub from : PatternFrom b p
  pub some : get_or b p 0 ≡ 15 → ⊥
  pub below : Row m row 0 n (tail (read_at b p)) y
  pub beneath_told : PairTold (tail (read_at b p)) (behind_terms n y) beneath
  pub side_told : SplitsTold (read_at b p) (behind_terms n y) side

-- What a table is made of: two lists of terms, and where its row begins.
pub record Lists (b m : List ℕ) (xs a ys n row : ℕ) : Type 0 where
  pub few : length b ≤ 32768
  pub first : Listed b m xs a (listed_at b m xs)
  pub second : Listed b m ys n (listed_at b m ys)
  pub some : (0 < a) × (0 < n)
  pub before : (xs + a ≤ row) × (ys + n ≤ row)
  pub within : row ≤ length m

-- What two brackets hold, at p and at q, has room behind `top`: two entries for each of its terms.
abbrev pub RoomFor : List ℕ → ℕ → ℕ → ℕ → ℕ → Type 0
RoomFor b room top p q = get_or b p 0 ≡ 7 → get_or b q 0 ≡ 7 → top + 2 * (size (read_at b (p + 9)) + size (read_at b (q + 9))) ≤ room

-- That of every pair of brackets of a row, and of a table.
abbrev pub RowRoom : List ℕ → List ℕ → ℕ → ℕ → ℕ → ℕ → Type 0
RowRoom b m p ys n row = (j : ℕ) → j < n → RoomFor b (length m) (row + 2 * n) p (get_or m (ys + j) 0)

abbrev pub TableRoom : List ℕ → List ℕ → ℕ → ℕ → ℕ → ℕ → ℕ → Type 0
TableRoom b m xs a ys n row = (row + 2 * n ≤ length m) × ((i : ℕ) → i < a → RowRoom b m (get_or m (xs + i) 0) ys n row)
