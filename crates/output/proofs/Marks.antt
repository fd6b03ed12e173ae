-- The kept marks.
use Prim.Native.Nat.{ℕ, zero, suc, ◌+◌, ◌-◌, ◌*◌, ◌/◌, ◌%◌, ◌^◌, ◌≤◌, ◌<◌}
use native.Mathlib.Omega.{arith}
use native.Mathlib.Nat.{zero-div, div-one, div-div-eq-div-mul, pow-suc, mul_comm, one-mul, mod-lt, mod-eq_of_lt}
use mathlib.Core.Path.{◌≡◌, refl, sym, ap, ◌∙◌}
use mathlib.Core.Bool.{Bool, true, false, cond}
use mathlib.Core.List.{List}
use lib.ListN.{length, get_or, set, get_or-eq_default}
use lib.Seq.{get_or-set_same, get_or-set_other}
use lib.Dec.{eqb, ltb}
use lib.Pow.{pow-lt, pow_pos}
use borrow.Author.Tests.{eqb-true, eqb-false, eq-eqb, ne_eqb, ltb-true, ltb-false, lt-ltb, le-ltb}
use Rattle.told.specs.Kept.{is_kept}
use Rattle.output.specs.Marks.{WithoutBit, BitsBelow}

-- past the words no mark is set
pub kept_out : (marks : List ℕ) (i : ℕ) → length marks ≤ i / 32 → is_kept marks i ≡ false
unfolding is_kept
kept_out marks i h =
    let e : get_or marks (i / 32) 0 ≡ 0 = get_or-eq_default marks 0 h in
    ap (λ (w : ℕ). eqb (w / 2 ^ (i % 32) % 2) 1) e ∙ ap (λ (w : ℕ). eqb (w % 2) 1) (zero-div (2 ^ (i % 32)))

-- a bit of a word is a lower bit of its half
halved : (w k : ℕ) → w / 2 ^ suc k ≡ w / 2 / 2 ^ k
halved w k = ap (λ (m : ℕ). w / m) (pow-suc 2 k ∙ mul_comm (2 ^ k) 2) ∙ sym (div-div-eq-div-mul w 2 (2 ^ k))

pub bit-within : (k w : ℕ) → w / 2 ^ k % 2 ≡ 1 → 2 ^ k ≤ w
bit-within zero w h = let e : w / 2 ^ 0 ≡ w = div-one w in omega (arith, h, e)
bit-within (suc k) w h =
    let p : 2 ^ suc k ≡ 2 ^ k * 2 = pow-suc 2 k in
    let l : 2 ^ k ≤ w / 2 = bit-within k (w / 2) (ap (λ (n : ℕ). n % 2) (sym (halved w k)) ∙ h) in
    omega (arith, p, l)

-- taking 2 ^ (k + 1) off a word takes 2 ^ k off its half, and leaves its lowest bit
half_less : (k w : ℕ) → 2 ^ k ≤ w / 2 → (w - 2 ^ suc k) / 2 ≡ w / 2 - 2 ^ k
half_less k w l = let p : 2 ^ suc k ≡ 2 ^ k * 2 = pow-suc 2 k in omega (arith, p, l)

low-less : (k w : ℕ) → 2 ^ k ≤ w / 2 → (w - 2 ^ suc k) % 2 ≡ w % 2
low-less k w l = let p : 2 ^ suc k ≡ 2 ^ k * 2 = pow-suc 2 k in omega (arith, p, l)

bit-off : (k w : ℕ) → w / 2 ^ k % 2 ≡ 1 → (w - 2 ^ k) / 2 ^ k % 2 ≡ 0
bit-off zero w h =
    let e : w / 2 ^ 0 ≡ w = div-one w in
    let f : (w - 2 ^ 0) / 2 ^ 0 ≡ w - 1 = div-one (w - 1) in
    omega (arith, h, e, f)
bit-off (suc k) w h =
    let g : w / 2 / 2 ^ k % 2 ≡ 1 = ap (λ (n : ℕ). n % 2) (sym (halved w k)) ∙ h in
    ap (λ (n : ℕ). n % 2) (halved (w - 2 ^ suc k) k ∙ ap (λ (n : ℕ). n / 2 ^ k) (half_less k w (bit-within k (w / 2) g))) ∙ bit-off k (w / 2) g

bit-other : (k j w : ℕ) → w / 2 ^ k % 2 ≡ 1 → (j ≡ k → ⊥) → (w - 2 ^ k) / 2 ^ j % 2 ≡ w / 2 ^ j % 2
bit-other zero zero w h n = absurd (n refl)
bit-other zero (suc j) w h n =
    let e : w / 2 ^ 0 ≡ w = div-one w in
    let f : (w - 2 ^ 0) / 2 ≡ w / 2 = omega (arith, h, e) in
    ap (λ (m : ℕ). m % 2) (halved (w - 2 ^ 0) j ∙ (ap (λ (m : ℕ). m / 2 ^ j) f ∙ sym (halved w j)))
bit-other (suc k) zero w h n =
    let g : w / 2 / 2 ^ k % 2 ≡ 1 = ap (λ (n : ℕ). n % 2) (sym (halved w k)) ∙ h in
    ap (λ (m : ℕ). m % 2) (div-one (w - 2 ^ suc k)) ∙ (low-less k w (bit-within k (w / 2) g) ∙ ap (λ (m : ℕ). m % 2) (sym (div-one w)))
bit-other (suc k) (suc j) w h n =
    let g : w / 2 / 2 ^ k % 2 ≡ 1 = ap (λ (n : ℕ). n % 2) (sym (halved w k)) ∙ h in
    ap (λ (m : ℕ). m % 2) (halved (w - 2 ^ suc k) j ∙ ap (λ (m : ℕ). m / 2 ^ j) (half_less k w (bit-within k (w / 2) g)))
    ∙ (bit-other k j (w / 2) g (λ e. n (ap suc e)) ∙ ap (λ (m : ℕ). m % 2) (sym (halved w j)))

pub bit_cleared : (w k : ℕ) → w / 2 ^ k % 2 ≡ 1 → WithoutBit w k (w - 2 ^ k)
bit_cleared w k h = record { off = bit-off k w h; other = λ j n. bit-other k j w h n }

pub bit_clear : (w k : ℕ) → (w / 2 ^ k % 2 ≡ 1 → ⊥) → WithoutBit w k w
bit_clear w k n = record { off = let l : w / 2 ^ k % 2 < 2 = mod-lt (w / 2 ^ k) (omega arith) in by (w / 2 ^ k % 2) l n; other = λ j m. refl }
  where
    by : (b : ℕ) → b < 2 → (b ≡ 1 → ⊥) → b ≡ 0
    by zero l n = refl
    by (suc zero) l n = absurd (n refl)
    by (suc (suc b)) l n = absurd (omega arith)

-- a word stored without a bit clears that bit's mark and no other
pub mark_cleared : (marks : List ℕ) (i r : ℕ) → i / 32 < length marks → WithoutBit (get_or marks (i / 32) 0) (i % 32) r → is_kept (set marks (i / 32) r) i ≡ false
unfolding is_kept
mark_cleared marks i r h c =
    ap (λ (w : ℕ). eqb (w / 2 ^ (i % 32) % 2) 1) (get_or-set_same marks (i / 32) r 0 h) ∙ ap (λ (b : ℕ). eqb b 1) c.off

pub mark-other : (marks : List ℕ) (i r : ℕ) → i / 32 < length marks → WithoutBit (get_or marks (i / 32) 0) (i % 32) r → (j : ℕ) → (j ≡ i → ⊥) → is_kept (set marks (i / 32) r) j ≡ is_kept marks j
unfolding is_kept
mark-other marks i r h c j n = by (eqb (j / 32) (i / 32)) refl
  where
    by : (b : Bool) → eqb (j / 32) (i / 32) ≡ b → is_kept (set marks (i / 32) r) j ≡ is_kept marks j
    by true e =
        let q : j / 32 ≡ i / 32 = eqb-true (j / 32) (i / 32) e in
        let d : j % 32 ≡ i % 32 → ⊥ = λ f. n (omega (arith, q, f)) in
        ap (λ (k : ℕ). eqb (get_or (set marks (i / 32) r) k 0 / 2 ^ (j % 32) % 2) 1) q
        ∙ (ap (λ (w : ℕ). eqb (w / 2 ^ (j % 32) % 2) 1) (get_or-set_same marks (i / 32) r 0 h)
        ∙ (ap (λ (b : ℕ). eqb b 1) (c.other (j % 32) d)
        ∙ ap (λ (k : ℕ). eqb (get_or marks k 0 / 2 ^ (j % 32) % 2) 1) (sym q)))
    by false e = ap (λ (w : ℕ). eqb (w / 2 ^ (j % 32) % 2) 1) (get_or-set_other marks (i / 32) (j / 32) r 0 (eqb-false (j / 32) (i / 32) e))

-- a bit of a word of 32
pub one_shifted : (k : ℕ) → k < 32 → 1 * 2 ^ k % 4294967296 ≡ 2 ^ k
one_shifted k h = ap (λ (n : ℕ). n % 4294967296) (one-mul (2 ^ k)) ∙ mod-eq_of_lt (pow-lt {i = k} {j = 32} h)

ltb_suc : (j k : ℕ) → ltb (suc j) (suc k) ≡ ltb j k
ltb_suc j k = by (ltb j k) refl
  where
    by : (t : Bool) → ltb j k ≡ t → ltb (suc j) (suc k) ≡ t
    by true e = lt-ltb (suc j) (suc k) (omega (arith, ltb-true j k e))
    by false e = le-ltb (suc j) (suc k) (omega (arith, ltb-false j k e))

-- the bits of 2 ^ k - 1: the lowest k
bits_of_ones : (k j : ℕ) → (2 ^ k - 1) / 2 ^ j % 2 ≡ cond (ltb j k) 1 0
bits_of_ones zero j = ap (λ (n : ℕ). n % 2) (zero-div (2 ^ j)) ∙ ap (λ (b : Bool). cond b 1 0) (sym (le-ltb j 0 (omega arith)))
bits_of_ones (suc k) zero =
    let p : 2 ^ suc k ≡ 2 ^ k * 2 = pow-suc 2 k in
    let o : 0 < 2 ^ k = pow_pos k in
    let e : (2 ^ suc k - 1) % 2 ≡ 1 = omega (arith, p, o) in
    ap (λ (n : ℕ). n % 2) (div-one (2 ^ suc k - 1)) ∙ (e ∙ ap (λ (b : Bool). cond b 1 0) (sym (lt-ltb 0 (suc k) (omega arith))))
bits_of_ones (suc k) (suc j) =
    let p : 2 ^ suc k ≡ 2 ^ k * 2 = pow-suc 2 k in
    let o : 0 < 2 ^ k = pow_pos k in
    let e : (2 ^ suc k - 1) / 2 ≡ 2 ^ k - 1 = omega (arith, p, o) in
    ap (λ (n : ℕ). n % 2) (halved (2 ^ suc k - 1) j ∙ ap (λ (n : ℕ). n / 2 ^ j) e) ∙ (bits_of_ones k j ∙ ap (λ (b : Bool). cond b 1 0) (sym (ltb_suc j k)))

pub below_none : (n first : ℕ) → n ≤ first → BitsBelow n first 0
below_none n first l = record { bit = λ k h. ap (λ (m : ℕ). m % 2) (zero-div (2 ^ k)) ∙ ap (λ (b : Bool). cond b 1 0) (sym (le-ltb (first + k) n (omega (arith, l)))) }

pub below-some : (n first : ℕ) → first < n → BitsBelow n first (2 ^ (n - first) - 1)
below-some n first l = record { bit = λ k h. bits_of_ones (n - first) k ∙ ap (λ (b : Bool). cond b 1 0) (shifted k) }
  where
    shifted : (k : ℕ) → ltb k (n - first) ≡ ltb (first + k) n
    shifted k = by (ltb k (n - first)) refl
      where
        by : (t : Bool) → ltb k (n - first) ≡ t → t ≡ ltb (first + k) n
        by true e = sym (lt-ltb (first + k) n (omega (arith, ltb-true k (n - first) e)))
        by false e = sym (le-ltb (first + k) n (omega (arith, ltb-false k (n - first) e)))

pub below_all : (n first : ℕ) → 32 ≤ n - first → BitsBelow n first 4294967295
below_all n first l = record { bit = λ k h. bits_of_ones 32 k ∙ (ap (λ (b : Bool). cond b 1 0) (lt-ltb k 32 h ∙ sym (lt-ltb (first + k) n (omega (arith, l, h))))) }

-- one more word of marks
bit_set : (b : Bool) (m : ℕ) → m ≡ cond b 1 0 → eqb m 1 ≡ b
bit_set true m e = eq-eqb m 1 e
bit_set false m e = ne_eqb m 1 (λ q. absurd (let z : 0 ≡ 1 = sym e ∙ q in omega (arith, z)))

pub marks-turn : (marks : List ℕ) (n j r : ℕ) → j < length marks → ((i : ℕ) → i < 32 * j → is_kept marks i ≡ ltb i n) → BitsBelow n (32 * j) r
    → (i : ℕ) → i < 32 * (j + 1) → is_kept (set marks j r) i ≡ ltb i n
unfolding is_kept
marks-turn marks n j r l h d i u = by (eqb (i / 32) j) refl
  where
    by : (t : Bool) → eqb (i / 32) j ≡ t → is_kept (set marks j r) i ≡ ltb i n
    by true e =
        let q : i / 32 ≡ j = eqb-true (i / 32) j e in
        let z : 32 * j + i % 32 ≡ i = omega (arith, q) in
        ap (λ (k : ℕ). eqb (get_or (set marks j r) k 0 / 2 ^ (i % 32) % 2) 1) q
        ∙ (ap (λ (w : ℕ). eqb (w / 2 ^ (i % 32) % 2) 1) (get_or-set_same marks j r 0 l)
        ∙ (bit_set (ltb (32 * j + i % 32) n) (r / 2 ^ (i % 32) % 2) (d.bit (i % 32) (mod-lt i (omega arith))) ∙ ap (λ (k : ℕ). ltb k n) z))
    by false e =
        let q : i / 32 ≡ j → ⊥ = eqb-false (i / 32) j e in
        ap (λ (w : ℕ). eqb (w / 2 ^ (i % 32) % 2) 1) (get_or-set_other marks j (i / 32) r 0 q) ∙ h i (below q)
      where
        below : (i / 32 ≡ j → ⊥) → i < 32 * j
        below q = omega (arith, u, q)

pub marks-end : (marks : List ℕ) (n : ℕ) → n ≤ 32 * length marks → ((i : ℕ) → i < 32 * length marks → is_kept marks i ≡ ltb i n) → (i : ℕ) → is_kept marks i ≡ ltb i n
marks-end marks n l h i = by (ltb i (32 * length marks)) refl
  where
    by : (t : Bool) → ltb i (32 * length marks) ≡ t → is_kept marks i ≡ ltb i n
    by true e = h i (ltb-true i (32 * length marks) e)
    by false e =
        let q : 32 * length marks ≤ i = ltb-false i (32 * length marks) e in
        kept_out marks i (omega (arith, q)) ∙ sym (le-ltb i n (omega (arith, l, q)))
