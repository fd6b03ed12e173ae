-- Cells from cells: an entry more, tails behind heads, one end of a split and then the later ones.
use Prim.Native.Nat.{ℕ, zero, suc, ◌+◌, ◌-◌, ◌/◌, ◌%◌, ◌<◌, ◌≤◌}
use native.Mathlib.Omega.{arith}
use mathlib.Core.Path.{◌≡◌, refl, sym, ap, ◌∙◌, subst}
use mathlib.Core.Bool.{Bool, true, false, cond}
use mathlib.Core.List.{List, [], ◌∷◌}
use lib.Dec.{eqb, ltb}
use borrow.Author.Tests.{ltb-true, ltb-false, eq-eqb, ne_eqb}
use Rattle.program.specs.Syntax.{Terms}
use Rattle.patterns.specs.declared.Verdict.{Verdict}
use Rattle.patterns.specs.declared.Verdict.TheVariants.{Disjoint, Overlap, Unknown}
use Rattle.patterns.specs.declared.Found.{Found}
use Rattle.patterns.specs.Search.{found, after_split, splits_from, after_unknown, after_heads, sequence}
use Rattle.patterns.proofs.Fuel.{splits_without}
use Rattle.rows.specs.Cells.{costing, code_of, CellTold, Cell, stopped, spent, unsure, behind_of, ends_of}
use Rattle.rows.proofs.Costs.{too_little, enough, either}

pub cell_told : {s : ℕ → Found} {n : ℕ} → Cell s n → CellTold s n
cell_told c = (c.verdict, c.code, c.few, c.answers)

pub code-low : (v : Verdict) → (code_of v < 4) × (0 < code_of v)
code-low Disjoint = (omega arith, omega arith)
code-low Overlap = (omega arith, omega arith)
code-low Unknown = (omega arith, omega arith)

-- A cell whose cost has not stopped yet.
record Wide (s : ℕ → Found) (n : ℕ) : Type 0 where
  pub verdict : Verdict
  pub code : n % 4 ≡ code_of verdict
  pub answers : (f : ℕ) → f ≤ 4096 → s f ≡ costing (n / 4) verdict f

wide : {s : ℕ → Found} {n : ℕ} → Cell s n → Wide s n
wide c = record { verdict = c.verdict; code = c.code; answers = c.answers }

stopping : {s : ℕ → Found} {n : ℕ} → Wide s n → Cell s (stopped n)
unfolding stopped
stopping {s} {n} w = go (ltb n 16388) refl
  where
    go : (t : Bool) → ltb n 16388 ≡ t → Cell s (cond t n 16391)
    go true e =
        let l = ltb-true n 16388 e in
        record { verdict = w.verdict; code = w.code; few = omega (arith, l); out = λ h. absurd (omega (arith, h, l)); answers = w.answers }
    go false e =
        let l = ltb-false n 16388 e in
        record {
          verdict = Unknown;
          code = refl;
          few = omega arith;
          out = λ h. refl;
          answers = λ f m. w.answers f m ∙ too_little (n / 4) w.verdict f (omega (arith, l, m)) ∙ sym (too_little 4097 Unknown f (omega (arith, m)));
        }

-- An entry, and then what t answers.
module _ (s t : ℕ → Found) (z : s 0 ≡ found Unknown 0) (e : (f : ℕ) → f ≤ 4096 → s (suc f) ≡ t f) where
  entered : (c : ℕ) (v : Verdict) → ((f : ℕ) → f ≤ 4096 → t f ≡ costing c v f) → (f : ℕ) → f ≤ 4096 → s f ≡ costing (suc c) v f
  entered c v k zero l = z ∙ sym (too_little (suc c) v 0 (omega arith))
  entered c v k (suc f) l =
      e f (omega (arith, l)) ∙ k f (omega (arith, l))
      ∙ either f c (λ h. too_little c v f h ∙ sym (too_little (suc c) v (suc f) (omega (arith, h))))
      (λ g q. enough c v f g q ∙ sym (enough (suc c) v (suc f) g (omega (arith, q))))

  entry : {n : ℕ} → Wide t n → Wide s (n + 4)
  entry {n} k =
      let more : suc (n / 4) ≡ (n + 4) / 4 = omega arith in
      record { verdict = k.verdict; code = omega (arith, k.code); answers = λ f l. entered (n / 4) k.verdict k.answers f l ∙ ap (λ (d : ℕ). costing d k.verdict f) more }

  pub spent_cell : {n : ℕ} → Cell t n → Cell s (spent n)
  spent_cell k = stopping (entry (wide k))

-- An entry that ends it.
free : (v : Verdict) → Wide (λ f. found v f) (code_of v)
free v =
    let z : code_of v / 4 ≡ 0 = omega (arith, code-low v) in
    record { verdict = v; code = omega (arith, code-low v); answers = λ f l. sym (enough (code_of v / 4) v f f (omega (arith, z))) }

pub ended_cell : (s : ℕ → Found) (v : Verdict) → s 0 ≡ found Unknown 0 → ((f : ℕ) → f ≤ 4096 → s (suc f) ≡ found v f) → Cell s (4 + code_of v)
ended_cell s v z e =
    let w = entry s (λ f. found v f) z e (free v) in
    let q : code_of v + 4 ≡ 4 + code_of v = omega arith in
    let one : (4 + code_of v) / 4 ≡ 1 = omega (arith, code-low v) in
    let k = subst (λ (n : ℕ). Wide s n) q w in
    record { verdict = k.verdict; code = k.code; few = omega (arith, one); out = λ h. absurd (omega (arith, h, one)); answers = k.answers }

-- Tails behind heads that are Unknown.
abbrev doubt : Found → Found
doubt q = found (after_unknown q.verdict) q.fuel

doubted : {t : ℕ → Found} {n : ℕ} → Wide t n → Wide (λ f. doubt (t f)) (unsure n)
unfolding unsure
doubted {t} {n} k = go k.verdict k.code k.answers
  where
    by : (v : Verdict) (m : ℕ) → m / 4 ≡ n / 4 → ((f : ℕ) → f ≤ 4096 → t f ≡ costing (n / 4) v f) → (f : ℕ) → f ≤ 4096 → doubt (t f) ≡ costing (m / 4) (after_unknown v) f
    by v m q h f l =
        ap doubt (h f l)
        ∙ either f (n / 4) (λ e. ap doubt (too_little (n / 4) v f e) ∙ sym (too_little (m / 4) (after_unknown v) f (omega (arith, e, q))))
        (λ g e. ap doubt (enough (n / 4) v f g e) ∙ sym (enough (m / 4) (after_unknown v) f g (omega (arith, e, q))))

    go : (v : Verdict) → n % 4 ≡ code_of v → ((f : ℕ) → f ≤ 4096 → t f ≡ costing (n / 4) v f) → Wide (λ f. doubt (t f)) (unsure n)
    go Disjoint c h =
        subst (λ (b : Bool). Wide (λ f. doubt (t f)) (cond b (n + 1) n)) (sym (ne_eqb (n % 4) 2 (λ e. omega (arith, e, c))))
        (record { verdict = Disjoint; code = c; answers = by Disjoint n refl h })
    go Overlap c h =
        subst (λ (b : Bool). Wide (λ f. doubt (t f)) (cond b (n + 1) n)) (sym (eq-eqb (n % 4) 2 c))
        (record { verdict = Unknown; code = omega (arith, c); answers = by Overlap (n + 1) (omega (arith, c)) h })
    go Unknown c h =
        subst (λ (b : Bool). Wide (λ f. doubt (t f)) (cond b (n + 1) n)) (sym (ne_eqb (n % 4) 2 (λ e. omega (arith, e, c))))
        (record { verdict = Unknown; code = c; answers = by Unknown n refl h })

-- Heads of the verdict v, then the tails t.
pub behind_cell : (s t : ℕ → Found) (v : Verdict) → s 0 ≡ found Unknown 0 → ((f : ℕ) → f ≤ 4096 → s (suc f) ≡ after_heads v f t) → (h : ℕ) → h % 4 ≡ code_of v
    → {n : ℕ} → Cell t n → Cell s (behind_of h n)
unfolding behind_of
behind_cell s t v z e h c {n} k = subst (λ (m : ℕ). Cell s (cond (eqb m 1) 5 (stopped (cond (eqb m 3) (unsure n) n + 4)))) (sym c) (go v e)
  where
    go : (v : Verdict) → ((f : ℕ) → f ≤ 4096 → s (suc f) ≡ after_heads v f t) → Cell s (cond (eqb (code_of v) 1) 5 (stopped (cond (eqb (code_of v) 3) (unsure n) n + 4)))
    go Disjoint e = ended_cell s Disjoint z e
    go Overlap e = stopping (entry s t z e (wide k))
    go Unknown e = stopping (entry s (λ f. doubt (t f)) z e (doubted (wide k)))

-- Ends of a split behind one that is Unknown: nothing but Overlap is sure.
abbrev remembering : Verdict → Verdict
remembering Disjoint = Unknown
remembering Overlap = Overlap
remembering Unknown = Unknown

abbrev remember : Found → Found
remember q = found (remembering q.verdict) q.fuel

remember_twice : (v : Verdict) → remembering (remembering v) ≡ remembering v
remember_twice Disjoint = refl
remember_twice Overlap = refl
remember_twice Unknown = refl

later_unknown : (os : List Terms) (r : Terms) (f : ℕ) → splits_from sequence r os Unknown f ≡ remember (splits_from sequence r os Disjoint f)
unfolding splits_from
later_unknown [] r f = refl
later_unknown (o ∷ os) r f = go (sequence f r o).verdict (sequence f r o).fuel (λ g. later_unknown os r g)
  where
    go : (v : Verdict) (g : ℕ) → ((g : ℕ) → splits_from sequence r os Unknown g ≡ remember (splits_from sequence r os Disjoint g))
        → after_split v g Unknown (λ w h. splits_from sequence r os w h) ≡ remember (after_split v g Disjoint (λ w h. splits_from sequence r os w h))
    go Disjoint g k = k g
    go Overlap g k = refl
    go Unknown g k = k g ∙ ap (λ (v : Verdict). found v (splits_from sequence r os Disjoint g).fuel) (sym (remember_twice (splits_from sequence r os Disjoint g).verdict)) ∙ ap remember (sym (k g))

-- The end o, with a cell s, and then the ends os, with a cell t.
module _ (r o : Terms) (os : List Terms) (n m : ℕ) where
  abbrev after : Found → Found
  after q = after_split q.verdict q.fuel Disjoint (λ w h. splits_from sequence r os w h)

  abbrev Ending : ℕ → Type 0
  Ending k = Cell (λ f. after (sequence f r o)) k

  -- Both are searched: the costs add.
  sum : (v x : Verdict) (k : ℕ) → ((f : ℕ) → f ≤ 4096 → sequence f r o ≡ costing (n / 4) v f) → ((f : ℕ) → f ≤ 4096 → after (found v f) ≡ costing (m / 4) x f)
      → k % 4 ≡ code_of x → k / 4 ≡ n / 4 + m / 4 → Ending (stopped k)
  sum v x k h j c q = stopping (record { verdict = x; code = c; answers = by })
    where
      by : (f : ℕ) → f ≤ 4096 → after (sequence f r o) ≡ costing (k / 4) x f
      by f l =
          either f (n / 4) (λ e. ap after (h f l ∙ too_little (n / 4) v f e) ∙ splits_without os r ∙ sym (too_little (k / 4) x f (omega (arith, e, q))))
          (λ g p. ap after (h f l ∙ enough (n / 4) v f g p) ∙ j g (omega (arith, p, l))
          ∙ either g (m / 4) (λ e. too_little (m / 4) x g e ∙ sym (too_little (k / 4) x f (omega (arith, p, e, q))))
          (λ d e. enough (m / 4) x g d e ∙ sym (enough (k / 4) x f d (omega (arith, p, e, q)))))

  -- Overlap ends it.
  met : ((f : ℕ) → f ≤ 4096 → sequence f r o ≡ costing (n / 4) Overlap f) → (f : ℕ) → f ≤ 4096 → after (sequence f r o) ≡ costing (n / 4) Overlap f
  met h f l =
      either f (n / 4) (λ e. ap after (h f l ∙ too_little (n / 4) Overlap f e) ∙ splits_without os r ∙ sym (too_little (n / 4) Overlap f e))
      (λ g e. ap after (h f l ∙ enough (n / 4) Overlap f g e) ∙ sym (enough (n / 4) Overlap f g e))

  -- Behind an end that is Unknown.
  unknown_later : (x : Verdict) → ((f : ℕ) → f ≤ 4096 → splits_from sequence r os Disjoint f ≡ costing (m / 4) x f) → (f : ℕ) → f ≤ 4096
      → splits_from sequence r os Unknown f ≡ costing (m / 4) (remembering x) f
  unknown_later x h f l =
      later_unknown os r f ∙ ap remember (h f l)
      ∙ either f (m / 4) (λ e. ap remember (too_little (m / 4) x f e) ∙ sym (too_little (m / 4) (remembering x) f e))
      (λ g e. ap remember (enough (m / 4) x f g e) ∙ sym (enough (m / 4) (remembering x) f g e))

  abbrev Numbered : ℕ → ℕ → Type 0
  Numbered a b = Ending (cond (eqb a 2) n (stopped (cond (eqb b 1) (n + m - 1) (n - a + m))))

  both_ends : (v x : Verdict) → n % 4 ≡ code_of v → m % 4 ≡ code_of x → ((f : ℕ) → f ≤ 4096 → sequence f r o ≡ costing (n / 4) v f)
      → n / 4 ≤ 4097 → (4096 < n / 4 → v ≡ Unknown)
      → ((f : ℕ) → f ≤ 4096 → splits_from sequence r os Disjoint f ≡ costing (m / 4) x f) → Numbered (code_of v) (code_of x)
  both_ends Disjoint Disjoint c d h l u j = sum Disjoint Disjoint (n + m - 1) h j (omega (arith, c, d)) (omega (arith, c, d))
  both_ends Disjoint Overlap c d h l u j = sum Disjoint Overlap (n - 1 + m) h j (omega (arith, c, d)) (omega (arith, c, d))
  both_ends Disjoint Unknown c d h l u j = sum Disjoint Unknown (n - 1 + m) h j (omega (arith, c, d)) (omega (arith, c, d))
  both_ends Overlap x c d h l u j = record { verdict = Overlap; code = c; few = l; out = u; answers = met h }
  both_ends Unknown Disjoint c d h l u j = sum Unknown Unknown (n + m - 1) h (unknown_later Disjoint j) (omega (arith, c, d)) (omega (arith, c, d))
  both_ends Unknown Overlap c d h l u j = sum Unknown Overlap (n - 3 + m) h (unknown_later Overlap j) (omega (arith, c, d)) (omega (arith, c, d))
  both_ends Unknown Unknown c d h l u j = sum Unknown Unknown (n - 3 + m) h (unknown_later Unknown j) (omega (arith, c, d)) (omega (arith, c, d))

  pub ends_cell : Cell (λ f. sequence f r o) n → Cell (λ f. splits_from sequence r os Disjoint f) m → Cell (λ f. splits_from sequence r (o ∷ os) Disjoint f) (ends_of n m)
  unfolding splits_from ends_of
  ends_cell s t =
      rw (s.code, t.code) (both_ends s.verdict t.verdict s.code t.code s.answers s.few s.out t.answers)
