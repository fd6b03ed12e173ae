-- Two heads in an image by their marks: which verdict they have.
use Prim.Native.Nat.{ℕ, suc, ◌<◌, ◌≤◌, zero-le}
use native.Mathlib.Omega.{arith}
use mathlib.Core.Path.{◌≡◌, refl, sym, ap, ap₂, ◌∙◌, subst}
use mathlib.Core.List.{List}
use lib.ListN.{length, drop, get_or}
use Rattle.program.specs.Syntax.{character, identifier, number, s_kind, t_kind, e_kind, Terms, nil, symbol, variable, bracket, call, block}
use Rattle.program.specs.Bytes.{put32, put_span}
use Rattle.program.specs.Encode.{put_terms}
use Rattle.program.specs.Limits.{Mode, ValidTerms}
use Rattle.image.specs.Parts.{TermsAt}
use Rattle.image.proofs.Readings.{fewer_around}
use Rattle.patterns.specs.Symbols.{same_symbol}
use Rattle.symbols.specs.Parts.{SymbolAt}
use Rattle.symbols.proofs.Parts.{part_rest}
use Rattle.patterns.specs.declared.Verdict.TheVariants.{Disjoint, Overlap}
use Rattle.patterns.specs.Search.{One, View, view, literal_overlap, start, overlap_of_terms, sequence}
use Rattle.rows.specs.Parts.{HeadAt}
use Rattle.rows.proofs.Readings.{part, head_mark, view_mark, pattern-mark, term_room}

-- What stands in the bytes of a head; no call and no block stands in a pattern.
abbrev HeadBytes : List ℕ → One → Type 0
HeadBytes s (One.literal x) = (y : SymbolAt s) × (x ≡ y.symbol)
HeadBytes s One.any-symbol = Unit {0}
HeadBytes s One.any_term = Unit {0}
HeadBytes s One.no-pattern = ⊥
HeadBytes s (One.brackets i) = (p : TermsAt Mode.pattern (part s 9)) × (i ≡ p.terms)

abbrev ViewBytes : List ℕ → View → Type 0
ViewBytes s View.nothing = Unit {0}
ViewBytes s (View.absorbing r) = Unit {0}
ViewBytes s (View.one x r) = HeadBytes s x

view-bytes : (s k : List ℕ) (a : Terms) (d : ℕ) → s ≡ put_terms a k → ValidTerms a Mode.pattern d → ViewBytes s (view a)
unfolding view put_terms put_span put32
view-bytes s k nil d e h = tt
view-bytes s k (symbol p x r) d e h = (record { span = p; symbol = x; rest = put_terms r k; is = e; valid = h.1 }, refl)
view-bytes s k (variable p s_kind n r) d e h = tt
view-bytes s k (variable p t_kind n r) d e h = tt
view-bytes s k (variable p e_kind n r) d e h = tt
view-bytes s k (bracket p i r) d e h =
    (record { terms = i; rest = put_terms r k; is = part_rest s 9 ∙ ap (drop 9) e; valid = fewer_around i Mode.pattern (suc d) 0 zero-le h.2 }, refl)
view-bytes s k (call p f a r) d e h = absurd h.2
view-bytes s k (block p a b r) d e h = absurd h.2

module _ {s : List ℕ} (x : HeadAt s) where
  head_bytes_lem : HeadBytes s x.head
  head_bytes_lem = subst (ViewBytes s) x.is (view-bytes s x.pattern.rest x.pattern.terms 0 x.pattern.is x.pattern.valid)

  pub head-mark : get_or s 0 0 ≡ head_mark x.head
  head-mark = pattern-mark x.pattern ∙ ap view_mark x.is

mark-low : (s : List ℕ) (x : One) → HeadBytes s x → (head_mark x < 8) × (0 < head_mark x)
mark-low s (One.literal (character c)) h = (omega arith, omega arith)
mark-low s (One.literal (identifier n)) h = (omega arith, omega arith)
mark-low s (One.literal (number n)) h = (omega arith, omega arith)
mark-low s One.any-symbol h = (omega arith, omega arith)
mark-low s One.any_term h = (omega arith, omega arith)
mark-low s One.no-pattern h = absurd h
mark-low s (One.brackets i) h = (omega arith, omega arith)

pub head-room : {s : List ℕ} → HeadAt s → 9 < length s
head-room {s} x = term_room x.pattern (λ e. omega (arith, e, head-mark x, mark-low s x.head (head_bytes_lem x)))

-- A bracket, and what it holds.
pub record BracketAt {s : List ℕ} (x : HeadAt s) : Type 0 where
  pub inner : TermsAt Mode.pattern (part s 9)
  pub is : x.head ≡ One.brackets inner.terms

pub bracket-at : {s : List ℕ} (x : HeadAt s) → get_or s 0 0 ≡ 7 → BracketAt x
bracket-at {s} x m = go x.head refl (head_bytes_lem x) (sym (head-mark x) ∙ m)
  where
    go : (y : One) → x.head ≡ y → HeadBytes s y → head_mark y ≡ 7 → BracketAt x
    go (One.literal (character c)) e h k = absurd (omega arith)
    go (One.literal (identifier n)) e h k = absurd (omega arith)
    go (One.literal (number n)) e h k = absurd (omega arith)
    go One.any-symbol e h k = absurd (omega arith)
    go One.any_term e h k = absurd (omega arith)
    go One.no-pattern e h k = absurd h
    go (One.brackets i) e h k = record { inner = h.0; is = e ∙ ap One.brackets h.1 }

-- A literal, and its symbol.
pub record LiteralAt {s : List ℕ} (x : HeadAt s) : Type 0 where
  pub symbol : SymbolAt s
  pub is : x.head ≡ One.literal symbol.symbol

pub literal-at : {s : List ℕ} (x : HeadAt s) → get_or s 0 0 ≤ 3 → LiteralAt x
literal-at {s} x m = go x.head refl (head_bytes_lem x) (subst (λ (n : ℕ). n ≤ 3) (head-mark x) m)
  where
    go : (y : One) → x.head ≡ y → HeadBytes s y → head_mark y ≤ 3 → LiteralAt x
    go (One.literal a) e h k = record { symbol = h.0; is = e ∙ ap One.literal h.1 }
    go One.any-symbol e h k = absurd (omega arith)
    go One.any_term e h k = absurd (omega arith)
    go One.no-pattern e h k = absurd h
    go (One.brackets i) e h k = absurd (omega arith)

-- The verdict where one is a bracket, by the other's mark.
bracket-low : (i : Terms) (y : One) → head_mark y < 5 → (overlap_of_terms sequence (One.brackets i) y ≡ Disjoint) × (overlap_of_terms sequence y (One.brackets i) ≡ Disjoint)
unfolding overlap_of_terms
bracket-low i (One.literal a) l = (refl, refl)
bracket-low i One.any-symbol l = (refl, refl)
bracket-low i One.any_term l = absurd (omega arith)
bracket-low i One.no-pattern l = absurd (omega arith)
bracket-low i (One.brackets j) l = absurd (omega arith)

bracket-high : (i : Terms) (y : One) → 5 ≤ head_mark y → head_mark y < 7 → (overlap_of_terms sequence (One.brackets i) y ≡ Overlap) × (overlap_of_terms sequence y (One.brackets i) ≡ Overlap)
unfolding overlap_of_terms
bracket-high i (One.literal (character c)) l m = absurd (omega arith)
bracket-high i (One.literal (identifier n)) l m = absurd (omega arith)
bracket-high i (One.literal (number n)) l m = absurd (omega arith)
bracket-high i One.any-symbol l m = absurd (omega arith)
bracket-high i One.any_term l m = (refl, refl)
bracket-high i One.no-pattern l m = absurd (omega arith)
bracket-high i (One.brackets j) l m = absurd (omega arith)

-- And where one is a variable and the other no bracket.
against_symbol : (y : One) → head_mark y < 7 → (overlap_of_terms sequence One.any-symbol y ≡ Overlap) × (overlap_of_terms sequence y One.any-symbol ≡ Overlap)
unfolding overlap_of_terms
against_symbol (One.literal a) l = (refl, refl)
against_symbol One.any-symbol l = (refl, refl)
against_symbol One.any_term l = (refl, refl)
against_symbol One.no-pattern l = absurd (omega arith)
against_symbol (One.brackets j) l = absurd (omega arith)

against_term : (y : One) → head_mark y < 7 → (overlap_of_terms sequence One.any_term y ≡ Overlap) × (overlap_of_terms sequence y One.any_term ≡ Overlap)
unfolding overlap_of_terms
against_term (One.literal a) l = (refl, refl)
against_term One.any-symbol l = (refl, refl)
against_term One.any_term l = (refl, refl)
against_term One.no-pattern l = absurd (omega arith)
against_term (One.brackets j) l = absurd (omega arith)

against_variable : (x y : One) → 3 < head_mark x → head_mark x < 7 → head_mark y < 7 → (overlap_of_terms sequence x y ≡ Overlap) × (overlap_of_terms sequence y x ≡ Overlap)
against_variable (One.literal (character c)) y l m n = absurd (omega arith)
against_variable (One.literal (identifier b)) y l m n = absurd (omega arith)
against_variable (One.literal (number b)) y l m n = absurd (omega arith)
against_variable One.any-symbol y l m n = against_symbol y n
against_variable One.any_term y l m n = against_term y n
against_variable One.no-pattern y l m n = absurd (omega arith)
against_variable (One.brackets j) y l m n = absurd (omega arith)

module _ {a b : List ℕ} (x : HeadAt a) (y : HeadAt b) where
  low_x : head_mark x.head < 8
  low_x = (mark-low a x.head (head_bytes_lem x)).0

  low_y : head_mark y.head < 8
  low_y = (mark-low b y.head (head_bytes_lem y)).0

  pub two-brackets : (m : BracketAt x) (n : BracketAt y) → overlap_of_terms sequence x.head y.head ≡ (sequence start m.inner.terms n.inner.terms).verdict
  unfolding overlap_of_terms
  two-brackets m n = ap₂ (overlap_of_terms sequence) m.is n.is

  pub first_bracket_low : get_or a 0 0 ≡ 7 → get_or b 0 0 < 5 → overlap_of_terms sequence x.head y.head ≡ Disjoint
  first_bracket_low m n = ap (λ (z : One). overlap_of_terms sequence z y.head) (bracket-at x m).is ∙ (bracket-low _ y.head (omega (arith, head-mark y, n))).0

  pub first_bracket_high : get_or a 0 0 ≡ 7 → (get_or b 0 0 ≡ 7 → ⊥) → 5 ≤ get_or b 0 0 → overlap_of_terms sequence x.head y.head ≡ Overlap
  first_bracket_high m k n =
      ap (λ (z : One). overlap_of_terms sequence z y.head) (bracket-at x m).is ∙ (bracket-high _ y.head (omega (arith, head-mark y, n)) (omega (arith, head-mark y, k, low_y))).0

  pub second_bracket_low : get_or b 0 0 ≡ 7 → get_or a 0 0 < 5 → overlap_of_terms sequence x.head y.head ≡ Disjoint
  second_bracket_low m n = ap (overlap_of_terms sequence x.head) (bracket-at y m).is ∙ (bracket-low _ x.head (omega (arith, head-mark x, n))).1

  pub second_bracket_high : get_or b 0 0 ≡ 7 → (get_or a 0 0 ≡ 7 → ⊥) → 5 ≤ get_or a 0 0 → overlap_of_terms sequence x.head y.head ≡ Overlap
  second_bracket_high m k n =
      ap (overlap_of_terms sequence x.head) (bracket-at y m).is ∙ (bracket-high _ x.head (omega (arith, head-mark x, n)) (omega (arith, head-mark x, k, low_x))).1

  module _ (m : get_or a 0 0 ≡ 7 → ⊥) (n : get_or b 0 0 ≡ 7 → ⊥) where
    pub first-variable : 3 < get_or a 0 0 → overlap_of_terms sequence x.head y.head ≡ Overlap
    first-variable h =
        (against_variable x.head y.head (omega (arith, head-mark x, h)) (omega (arith, head-mark x, m, low_x)) (omega (arith, head-mark y, n, low_y))).0

    pub second-variable : 3 < get_or b 0 0 → overlap_of_terms sequence x.head y.head ≡ Overlap
    second-variable h =
        (against_variable y.head x.head (omega (arith, head-mark y, h)) (omega (arith, head-mark y, n, low_y)) (omega (arith, head-mark x, m, low_x))).1

  pub two_literals : (m : LiteralAt x) (n : LiteralAt y) → overlap_of_terms sequence x.head y.head ≡ literal_overlap (same_symbol m.symbol.symbol n.symbol.symbol)
  unfolding overlap_of_terms
  two_literals m n = ap₂ (overlap_of_terms sequence) m.is n.is
