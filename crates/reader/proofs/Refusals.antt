-- The cases of a refusal, as the reader meets them.
use Prim.Native.Nat.{ℕ, suc, ◌+◌, ◌-◌, ◌≤◌, ◌<◌}
use native.Mathlib.Omega.{arith}
use mathlib.Core.Path.{◌≡◌, refl, ◌∙◌}
use mathlib.Core.Logic.{◌⊎◌, inl, inr}
use mathlib.Core.Bool.{Bool, true, false}
use mathlib.Core.List.{List}
use native.Mathlib.Nat.{add-zero, sub-zero}
use lib.ListN.{length, get_or, drop, length-drop, drop_of_length-le}
use lib.Seq.{drop-cons}
use lib.Dec.{ltb}
use borrow.Author.Tests.{ltb-true, ltb-false}
use Rattle.std.specs.Prelude.{Ok, Err}
use Rattle.program.specs.Bytes.{get32}
use Rattle.program.specs.Limits.{pick, allowed, scalar}
use Rattle.program.specs.Automaton.{Scan, scan}
use Rattle.reader.specs.Steps.{refusal, refusal_of, code_refusal}
use Rattle.program.specs.declared.Refusal.{Refusal}

-- The scan of n bytes from p on, when i of them are passed.
module _ (b : List ℕ) (p n : ℕ) (g : Bool) where
  pub record Passed (i : ℕ) : Type 0 where
    pub is : scan g n (drop p b) ≡ scan g (n - i) (drop (p + i) b)

  pub scan-start : Passed 0
  scan-start = record { is = rw (sub-zero n, add-zero p) }

  module _ (i : ℕ) (l : i < n) where
    one_left : n - i ≡ suc (n - (i + 1))
    one_left = omega arith

    pub scan_cut : length b - p ≤ i → Passed i → Err (refusal 5 (length b)) ≡ refusal_of (length b) (scan g n (drop p b))
    unfolding scan refusal_of
    scan_cut h e = rw (e.is, one_left, drop_of_length-le b {i = p + i} (omega arith), sub-zero (length b))

    scan_step : p + i < length b → scan g (n - i) (drop (p + i) b) ≡ pick (allowed g (get_or b (p + i) 0)) (scan g (n - (i + 1)) (drop (p + (i + 1)) b)) (Scan.refuse 6 (length b - (p + i)))
    unfolding scan
    scan_step h =
        let q : p + (i + 1) ≡ suc (p + i) = omega arith in
        let r : suc (length (drop (suc (p + i)) b)) ≡ length b - (p + i) = omega (arith, length-drop (suc (p + i)) b) in
        rw (one_left, drop-cons b (p + i) 0 h, r, q)

    pub scan-wrong : p + i < length b → {t : Bool} → t ≡ allowed g (get_or b (p + i) 0) → t ≡ false → Passed i → Err (refusal 6 (p + i)) ≡ refusal_of (length b) (scan g n (drop p b))
    unfolding refusal_of
    scan-wrong h q z e =
        let r : length b - (length b - (p + i)) ≡ p + i = omega arith in
        rw (e.is, scan_step h, ← q, z, r)

    pub scan-more : p + i < length b → {t : Bool} → t ≡ allowed g (get_or b (p + i) 0) → t ≡ true → Passed i → Passed (i + 1)
    scan-more h q z e = record { is = e.is ∙ (scan_step h ∙ rw (← q, z)) }

  pub scan_fine : (i : ℕ) → n ≤ i → Passed i → Ok tt ≡ refusal_of (length b) (scan g n (drop p b))
  unfolding scan refusal_of
  scan_fine i h e =
      let q : n - i ≡ 0 = omega arith in
      rw (e.is, q)

module _ (b : List ℕ) (p : ℕ) where
  -- A code without a refusal stands whole, and a character may have it.
  pub code-good : {u : Unit {0}} → Ok u ≡ code_refusal b p → (p + 4 ≤ length b) × (scalar (get32 b p) ≡ true)
  unfolding code_refusal
  code-good {u} q = by (ltb (length b) (p + 4)) (scalar (get32 b p)) refl refl q
    where
      by : (s t : Bool) → ltb (length b) (p + 4) ≡ s → scalar (get32 b p) ≡ t → Ok u ≡ pick s (Err (refusal 5 (length b))) (pick t (Ok (tt {0})) (Err (refusal 7 p))) → (p + 4 ≤ length b) × (scalar (get32 b p) ≡ true)
      by true t e f z = cc
      by false true e f z = (ltb-false (length b) (p + 4) e, f)
      by false false e f z = cc

  -- One with a refusal is cut off, or no character's.
  pub code_bad : {f : Refusal} → Err f ≡ code_refusal b p → ((length b < p + 4) × (f ≡ refusal 5 (length b))) ⊎ ((p + 4 ≤ length b) × (scalar (get32 b p) ≡ false) × (f ≡ refusal 7 p))
  unfolding code_refusal
  code_bad {f} q = by (ltb (length b) (p + 4)) (scalar (get32 b p)) refl refl q
    where
      by : (s t : Bool) → ltb (length b) (p + 4) ≡ s → scalar (get32 b p) ≡ t → Err f ≡ pick s (Err (refusal 5 (length b))) (pick t (Ok (tt {0})) (Err (refusal 7 p))) → ((length b < p + 4) × (f ≡ refusal 5 (length b))) ⊎ ((p + 4 ≤ length b) × (scalar (get32 b p) ≡ false) × (f ≡ refusal 7 p))
      by true t u v z = inl (ltb-true (length b) (p + 4) u, (cc))
      by false true u v z = cc
      by false false u v z = inr (ltb-false (length b) (p + 4) u, v, (cc))
