-- Two heads at places of a body, in both orders.
use Prim.Native.Nat.{ℕ, ◌%◌, ◌<◌}
use native.Mathlib.Omega.{arith}
use mathlib.Core.Path.{◌≡◌, refl, sym, ap, ◌∙◌}
use mathlib.Core.List.{List}
use lib.ListN.{get_or}
use Rattle.image.specs.Parts.{tail}
use Rattle.patterns.specs.declared.Verdict.{Verdict}
use Rattle.patterns.specs.Search.{One, View, view, literal_overlap, overlap_of_terms, sequence}
use Rattle.patterns.proofs.Symbols.{same_symbol_sym}
use Rattle.rows.specs.Parts.{HeadAt}
use Rattle.rows.specs.Cells.{code_of, both, low, high}
use Rattle.rows.specs.Rows.{read_at, Flat, HeadsTold}
use Rattle.rows.proofs.Readings.{part, head_mark, mark_in, head_at}
use Rattle.rows.proofs.Heads.{head-mark}
use Rattle.rows.proofs.Cells.{code-low}
use Rattle.rows.proofs.Words.{low-both, high-both}
use Rattle.rows.proofs.Places.{reading_part}

small-code : (v : Verdict) → code_of v % 4 ≡ code_of v
small-code v = omega (arith, code-low v)

-- Unless both are brackets, the verdict is the same in both orders.
turned : (x y : One) → (head_mark x ≡ 7 → head_mark y ≡ 7 → ⊥) → overlap_of_terms sequence x y ≡ overlap_of_terms sequence y x
unfolding overlap_of_terms
turned (One.literal a) (One.literal b) h = ap literal_overlap (same_symbol_sym a b)
turned (One.literal a) One.any-symbol h = refl
turned (One.literal a) One.any_term h = refl
turned (One.literal a) One.no-pattern h = refl
turned (One.literal a) (One.brackets j) h = refl
turned One.any-symbol (One.literal b) h = refl
turned One.any-symbol One.any-symbol h = refl
turned One.any-symbol One.any_term h = refl
turned One.any-symbol One.no-pattern h = refl
turned One.any-symbol (One.brackets j) h = refl
turned One.any_term (One.literal b) h = refl
turned One.any_term One.any-symbol h = refl
turned One.any_term One.any_term h = refl
turned One.any_term One.no-pattern h = refl
turned One.any_term (One.brackets j) h = refl
turned One.no-pattern (One.literal b) h = refl
turned One.no-pattern One.any-symbol h = refl
turned One.no-pattern One.any_term h = refl
turned One.no-pattern One.no-pattern h = refl
turned One.no-pattern (One.brackets j) h = refl
turned (One.brackets i) (One.literal b) h = refl
turned (One.brackets i) One.any-symbol h = refl
turned (One.brackets i) One.any_term h = refl
turned (One.brackets i) One.no-pattern h = refl
turned (One.brackets i) (One.brackets j) h = absurd (h refl refl)

module _ {b : List ℕ} {p q : ℕ} (k : Flat b p q) where
  -- The same verdict in both orders.
  Alike : Verdict → Type 0
  Alike v = (x : HeadAt (part b p)) (y : HeadAt (part b q)) → (overlap_of_terms sequence x.head y.head ≡ v) × (overlap_of_terms sequence y.head x.head ≡ v)

  at_first : (x : One) → view (read_at b p) ≡ View.one x (tail (read_at b p)) → HeadAt (part b p)
  at_first x e = record { pattern = reading_part k.first; head = x; rest = tail (read_at b p); is = e }

  at_second : (y : One) → view (read_at b q) ≡ View.one y (tail (read_at b q)) → HeadAt (part b q)
  at_second y e = record { pattern = reading_part k.second; head = y; rest = tail (read_at b q); is = e }

  told : (v : Verdict) (w : ℕ) → w ≡ both (code_of v) (code_of v) → Alike v → HeadsTold (read_at b p) (read_at b q) w
  unfolding Alike at_first at_second
  told v w i a =
      let j : code_of v < 65536 = omega (arith, code-low v) in
      let c : low w ≡ code_of v = ap low i ∙ low-both (code_of v) (code_of v) j in
      let d : high w ≡ code_of v = ap high i ∙ high-both (code_of v) (code_of v) j in
      let l : low w % 4 ≡ code_of v = ap (λ (n : ℕ). n % 4) c ∙ small-code v in
      let h : high w % 4 ≡ code_of v = ap (λ (n : ℕ). n % 4) d ∙ small-code v in
      record {
        first = λ x y d e. l ∙ ap code_of (sym (a (at_first x d) (at_second y e)).0);
        second = λ x y d e. h ∙ ap code_of (sym (a (at_first x d) (at_second y e)).1);
      }

  m : get_or (part b p) 0 0 ≡ get_or b p 0
  m = mark_in b p

  n : get_or (part b q) 0 0 ≡ get_or b q 0
  n = mark_in b q

  pub first-head : HeadAt (part b p)
  first-head = head_at (reading_part k.first) (λ e. k.first_one.0 (sym m ∙ e)) (λ e. k.first_one.1 (sym m ∙ e))

  pub second-head : HeadAt (part b q)
  second-head = head_at (reading_part k.second) (λ e. k.second-one.0 (sym n ∙ e)) (λ e. k.second-one.1 (sym n ∙ e))

  pub not-both : get_or (part b p) 0 0 ≡ 7 → get_or (part b q) 0 0 ≡ 7 → ⊥
  not-both e g = k.apart (sym m ∙ e) (sym n ∙ g)

  -- A verdict that is that of the heads, once in each order.
  pub heads-told : (v : Verdict) → ((x : HeadAt (part b p)) (y : HeadAt (part b q)) → v ≡ overlap_of_terms sequence x.head y.head) → HeadsTold (read_at b p) (read_at b q) (both (code_of v) (code_of v))
  unfolding Alike
  heads-told v f =
      told v (both (code_of v) (code_of v)) refl (λ x y. (sym (f x y), turned y.head x.head (λ e g. not-both (head-mark x ∙ g) (head-mark y ∙ e)) ∙ sym (f x y)))
