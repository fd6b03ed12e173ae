-- Laws of ways and of the open splits that lead to them.
use Prim.Native.Nat.{ℕ, suc, ◌+◌, ◌-◌, ◌*◌, ◌<◌, ◌≤◌}
use native.Mathlib.Omega.{arith}
use mathlib.Core.Path.{◌≡◌, refl, sym, ap, ap₂, ◌∙◌, subst}
use mathlib.Core.Bool.{true, false, true≢false}
use mathlib.Core.List.{List, [], ◌∷◌}
use mathlib.Core.Logic.{⊎_elim}
use lib.ListN.{length, get_or, drop, set, length-set, length-drop}
use lib.Seq.{get_or-set_same, get_or-set_other, drop-drop, get_or-drop}
use Rattle.program.specs.Syntax.{Terms}
use Rattle.program.specs.Encode.{put_terms}
use Rattle.program.specs.Limits.{Mode}
use Rattle.image.specs.Parts.{Passes, TermsAt, tail}
use Rattle.image.proofs.Readings.{one-reading}
use Rattle.patterns.specs.declared.Verdict.{Verdict}
use Rattle.patterns.specs.declared.Verdict.TheVariants.{Disjoint, Overlap, Unknown}
use Rattle.patterns.specs.declared.Found.{Found}
use Rattle.patterns.specs.Search.{found, One, View, view, leftover_overlap, ends, after_split, splits_from, absorbing_split, overlap_of_terms, after_heads, sequence}
use Rattle.patterns.proofs.Unfold.{empty-first, empty-second, first_absorbs, second_absorbs, heads_compared}
use Rattle.patterns.proofs.Fuel.{fuel-falls}
use Rattle.symbols.proofs.Parts.{part_rest}
use Rattle.rows.specs.Parts.{HeadAt}
use Rattle.rows.specs.Rows.{Kept}
use Rattle.rows.proofs.Places.{kept_same}
use Rattle.rows.proofs.Readings.{part, inside, at_part, mark_in, is-empty, is_not_empty, is-absorbing, one-head, place_after, after_term, next_fits}
use Rattle.rows.proofs.Heads.{BracketAt, head-room}
use Rattle.overlap.specs.declared.way.Turn.{Turn}
use Rattle.overlap.specs.Steps.{is_overlap}
use Rattle.overlap.specs.Way.{End, Next, Fails, fails-none, fails_more, Way, way-any, way-heads, way-first, way-second, end_at, in_turn, Leads, Trail, trail-start, trail_open, Apart, Met, Failing, lead_of, Told, Turned, Goes, GoesWith, height_of, split_at, Opened}
use Rattle.overlap.proofs.Turns.{ends-first, ends_last, ends_more}

-- ---- readings

pub same-terms : {s : List ℕ} (x y : TermsAt Mode.pattern s) → x.terms ≡ y.terms
same-terms x y = (one-reading x y).0

pub mark_of : (b : List ℕ) (i m : ℕ) → get_or b i 0 ≡ m → get_or (part b i) 0 0 ≡ m
mark_of b i m e = mark_in b i ∙ e

pub mark_not : (b : List ℕ) (i m : ℕ) → (get_or b i 0 ≡ m → ⊥) → get_or (part b i) 0 0 ≡ m → ⊥
mark_not b i m n e = n (sym (mark_in b i) ∙ e)

-- The mark of what stands at a place.
pub mark-at : (b : List ℕ) (i : ℕ) → get_or (drop i b) 0 0 ≡ get_or b i 0
mark-at b i = get_or-drop i b 0 0 ∙ ap (λ (k : ℕ). get_or b k 0) (omega arith)

-- What a bracket at a place holds.
abbrev pub inner_at : (b : List ℕ) (i : ℕ) {x : HeadAt (drop i b)} → BracketAt x → TermsAt Mode.pattern (drop (i + 9) b)
inner_at b i k = record { terms = k.inner.terms; rest = k.inner.rest; is = sym (part_rest (drop i b) 9 ∙ drop-drop 9 i b) ∙ k.inner.is; valid = k.inner.valid }

-- A head at a place stands at the start of the part from there.
abbrev pub head_part : (b : List ℕ) (i : ℕ) → HeadAt (drop i b) → HeadAt (part b i)
head_part b i x = record { pattern = at_part b i x.pattern; head = x.head; rest = x.rest; is = x.is }

pub head_inside : (b : List ℕ) (i : ℕ) → HeadAt (drop i b) → i + 9 < length b
head_inside b i x = omega (arith, head-room x, length-drop i b)

-- The term at i has n bytes.
pub next_place : (b : List ℕ) (i n : ℕ) (x : TermsAt Mode.pattern (drop i b)) → i + n ≤ length b → Passes (part b i) n (put_terms (tail x.terms) x.rest) → Next b i (i + n)
next_place b i n x l p = record { there = x; is = place_after b i n x p; within = l }

-- ---- one end of a split

ends-apart : (p q : Terms) (g h : ℕ) (os : List Terms) → sequence g p q ≡ found Disjoint h → splits_from sequence p (q ∷ os) Disjoint g ≡ splits_from sequence p os Disjoint h
unfolding splits_from
ends-apart p q g h os e = ap (λ (z : Found). after_split z.verdict z.fuel Disjoint (λ w f. splits_from sequence p os w f)) e

ends-met : (p q : Terms) (g : ℕ) (os : List Terms) → is_overlap (sequence g p q).verdict ≡ true → is_overlap (splits_from sequence p (q ∷ os) Disjoint g).verdict ≡ true
unfolding splits_from
ends-met p q g os h = go (sequence g p q).verdict h
  where
    go : (v : Verdict) → is_overlap v ≡ true → is_overlap (after_split v (sequence g p q).fuel Disjoint (λ w f. splits_from sequence p os w f)).verdict ≡ true
    go Disjoint e = absurd (true≢false (sym e))
    go Overlap e = refl
    go Unknown e = absurd (true≢false (sym e))

not_met : (q : Found) (h : ℕ) → q ≡ found Disjoint h → is_overlap q.verdict ≡ false
not_met q h e = ap (λ (z : Found). is_overlap z.verdict) e

module _ {b : List ℕ} {f i j k l g : ℕ} (s : Leads b f i j k l g) where
  -- The end in turn meets the rest.
  pub leads_met : Met b g k l → Met b f i j
  leads_met m x y =
      let e = ends-first s.second.terms in
      ap (λ (z : Found). is_overlap z.verdict) (s.whole x y ∙ ap (λ (os : List Terms). splits_from sequence s.first.terms os Disjoint g) e.1)
      ∙ ends-met s.first.terms s.second.terms g e.0 (m s.first s.second)

  pub leads_way : Met b g k l → (es : List End) → Way b es g k l → Way b (record { place = l; fuel = g } ∷ es) f i j
  leads_way m es w = s.way (record { place = l; fuel = g }) es fails-none s.second (m s.first s.second) w

  module _ (h : ℕ) (a : Apart b g k l h) where
    falls : h ≤ g
    falls = omega (arith, fuel-falls g s.first.terms s.second.terms, ap (λ (z : Found). z.fuel) (a s.first s.second))

    -- It was the last one.
    pub leads_apart : get_or b l 0 ≡ 15 → Apart b f i j h
    unfolding splits_from
    leads_apart m x y =
        s.whole x y
        ∙ ap (λ (os : List Terms). splits_from sequence s.first.terms os Disjoint g) (ends_last s.second.terms (is-empty (at_part b l s.second) (mark_of b l 15 m)))
        ∙ ends-apart s.first.terms s.second.terms g h [] (a s.first s.second)

    -- Another follows.
    pub leads_next : (get_or b l 0 ≡ 15 → ⊥) → (n : ℕ) → Passes (part b l) n (put_terms (tail s.second.terms) s.second.rest) → Leads b f i j k (l + n) h
    unfolding next_place
    leads_next m n p =
        let r = next_fits b l (at_part b l s.second) (mark_not b l 15 m) (omega (arith, inside b l s.second)) n p in
        let t = a s.first s.second in
        record {
          first = s.first;
          second = after_term b l n s.second p;
          less = omega (arith, s.less, falls);
          whole = λ x y. s.whole x y
              ∙ ap (λ (os : List Terms). splits_from sequence s.first.terms os Disjoint g) (ends_more s.second.terms (is_not_empty (at_part b l s.second) (mark_not b l 15 m)))
              ∙ ends-apart s.first.terms s.second.terms g h (ends (tail s.second.terms)) t;
          way = λ e es c q u w. s.way e es
              (fails_more (next_place b l n s.second r.0 p) m (omega (arith, r.1)) (not_met (sequence g s.first.terms s.second.terms) h t)
              (subst (λ (d : ℕ). Fails b s.first.terms e d (l + n)) (sym (ap (λ (z : Found). z.fuel) t)) c))
              q u w;
        }

-- ---- all open splits

pub trail-kept : {b m o : List ℕ} {from fuel p q n f i j : ℕ} → Kept (from + 3 * n) m o → Trail b m from fuel p q n f i j → Trail b o from fuel p q n f i j
trail-kept k trail-start = trail-start
trail-kept {from = from} k (trail_open {n = n} t s ek el eg) =
    trail_open (trail-kept (record { length = k.length; below = λ i l. k.below i (omega (arith, l)) }) t) s
    (ek ∙ sym (k.below (from + 3 * n) (omega arith)))
    (el ∙ sym (k.below (from + 3 * n + 1) (omega arith)))
    (eg ∙ sym (k.below (from + 3 * n + 2) (omega arith)))

-- Where the patterns in turn meet, the ends in turn are a way.
pub trail-way : {b m : List ℕ} {from fuel p q n f i j : ℕ} → Trail b m from fuel p q n f i j → Met b f i j → (es : List End) → Way b es f i j → Way b (in_turn m from n es) fuel p q
unfolding in_turn
trail-way trail-start h es w = w
trail-way {b = b} {m = m} {from = from} (trail_open {n = n} {f = f} {i = i} {j = j} {g = g} {k = k} {l = l} t s ek el eg) h es w =
    trail-way t (leads_met s h) (end_at m (from + 3 * n) ∷ es)
    (subst (λ (e : End). Way b (e ∷ es) f i j) (ap₂ (λ (x y : ℕ). record { place = x; fuel = y }) el eg) (leads_way s h es w))

-- The split that was opened last.
pub record Last (b m : List ℕ) (from fuel p q n g k l : ℕ) : Type 0 where
  pub left : ℕ
  pub right : ℕ
  pub before : ℕ
  pub trail : Trail b m from fuel p q n before left right
  pub leads : Leads b before left right k l g
  pub rest-is : k ≡ get_or m (from + 3 * n) 0
  pub other-is : l ≡ get_or m (from + 3 * n + 1) 0
  pub fuel-is : g ≡ get_or m (from + 3 * n + 2) 0

pub trail-last : {b m : List ℕ} {from fuel p q t g k l : ℕ} (n : ℕ) → Trail b m from fuel p q t g k l → t ≡ suc n → Last b m from fuel p q n g k l
trail-last n trail-start e = absurd (omega (arith, e))
trail-last {b = b} {m = m} {from = from} {fuel = fuel} {p = p} {q = q} {g = g} {k = k} {l = l} n (trail_open {n = d} t s ek el eg) e =
    let z : d ≡ n = omega (arith, e) in
    subst (λ (h : ℕ). Last b m from fuel p q h g k l) z (record { left = _; right = _; before = _; trail = t; leads = s; rest-is = ek; other-is = el; fuel-is = eg })

-- ---- heads in turn

-- The place behind the first term of a pattern is in the body.
pub term-within : (b : List ℕ) (i : ℕ) (p : TermsAt Mode.pattern (drop i b)) → (get_or (part b i) 0 0 ≡ 15 → ⊥) → (n : ℕ) → Passes (part b i) n (put_terms (tail p.terms) p.rest) → i + n ≤ length b
term-within b i p m n d = (next_fits b i (at_part b i p) m (omega (arith, inside b i p)) n d).0

-- The search at i and j answers as the whole, and a way from there is a way of the whole.
pub record Onward (b : List ℕ) (fuel p q f i j : ℕ) : Type 0 where
  pub first : TermsAt Mode.pattern (drop i b)
  pub second : TermsAt Mode.pattern (drop j b)
  pub less : f ≤ fuel
  pub whole : (x : TermsAt Mode.pattern (drop p b)) (y : TermsAt Mode.pattern (drop q b)) → sequence fuel x.terms y.terms ≡ sequence f first.terms second.terms
  pub way : (es : List End) → Way b es f i j → Way b es fuel p q

pub onward_first : {b : List ℕ} {fuel p q : ℕ} → TermsAt Mode.pattern (drop p b) → TermsAt Mode.pattern (drop q b) → Onward b fuel p q fuel p q
onward_first {fuel = fuel} x y = record { first = x; second = y; less = omega arith; whole = λ u v. ap₂ (λ (s t : Terms). sequence fuel s t) (same-terms u x) (same-terms v y); way = λ es w. w }

less_one : (f : ℕ) → 0 < f → f ≡ suc (f - 1)
less_one f h = omega arith

-- An answer that is known.
pub told-answer : (b : List ℕ) (f i j : ℕ) (v : Verdict) (g : ℕ) → ((x : TermsAt Mode.pattern (drop i b)) (y : TermsAt Mode.pattern (drop j b)) → sequence f x.terms y.terms ≡ found v g) → g < f → Told b f i j (lead_of v g)
told-answer b f i j Disjoint g a l = (a, l)
told-answer b f i j Overlap g a l = λ x y. ap (λ (z : Found). is_overlap z.verdict) (a x y)
told-answer b f i j Unknown g a l = tt

module _ {b : List ℕ} {fuel p q f i j : ℕ} (o : Onward b fuel p q f i j) (l : 0 < f) where
  abbrev a : Terms
  a = o.first.terms

  abbrev c : Terms
  c = o.second.terms

  turn : (w : Found) → sequence (suc (f - 1)) a c ≡ w → (x : TermsAt Mode.pattern (drop p b)) (y : TermsAt Mode.pattern (drop q b)) → sequence fuel x.terms y.terms ≡ w
  turn w e x y = o.whole x y ∙ ap (λ (g : ℕ). sequence g a c) (less_one f l) ∙ e

  under : f - 1 < fuel
  under = omega (arith, o.less, l)

  pub closed_first : get_or b i 0 ≡ 15 → (v : Verdict) → v ≡ leftover_overlap c → Told b fuel p q (lead_of v (f - 1))
  closed_first m v e =
      told-answer b fuel p q v (f - 1) (λ x y. turn (found (leftover_overlap c) (f - 1)) (empty-first (f - 1) a c (is-empty (at_part b i o.first) (mark_of b i 15 m))) x y ∙ ap (λ (w : Verdict). found w (f - 1)) (sym e)) under

  pub closed_second : get_or b j 0 ≡ 15 → (v : Verdict) → v ≡ leftover_overlap a → Told b fuel p q (lead_of v (f - 1))
  closed_second m v e =
      told-answer b fuel p q v (f - 1) (λ x y. turn (found (leftover_overlap a) (f - 1)) (empty-second (f - 1) a c (is-empty (at_part b j o.second) (mark_of b j 15 m))) x y ∙ ap (λ (w : Verdict). found w (f - 1)) (sym e)) under

  onto : (es : List End) → Way b es (suc (f - 1)) i j → Way b es fuel p q
  onto es w = o.way es (subst (λ (g : ℕ). Way b es g i j) (sym (less_one f l)) w)

  module _ (n : ℕ) (within : i + n ≤ length b) (d : Passes (part b i) n (put_terms (tail a) o.first.rest)) where
    pub splits-first : get_or b i 0 ≡ 6 → (get_or b j 0 ≡ 15 → ⊥) → Leads b fuel p q (i + n) j (f - 1)
    unfolding absorbing_split
    splits-first m k = record {
      first = after_term b i n o.first d;
      second = o.second;
      less = under;
      whole = turn (absorbing_split sequence (f - 1) (tail a) c) (first_absorbs (f - 1) a c (tail a) (is-absorbing (at_part b i o.first) (mark_of b i 6 m)) (is_not_empty (at_part b j o.second) (mark_not b j 15 k)));
      way = λ e es h q u w. onto (e ∷ es) (way-first m (next_place b i n o.first within d) (record { rest = after_term b i n o.first d; end = q; fails = h; meets = u }) w);
    }

  module _ (mi : get_or b i 0 ≡ 15 → ⊥) (ni : get_or b i 0 ≡ 6 → ⊥) where
    abbrev x : (h : One) × (view a ≡ View.one h (tail a))
    x = one-head (at_part b i o.first) (mark_not b i 15 mi) (mark_not b i 6 ni)

    pub splits-second : (n : ℕ) → j + n ≤ length b → Passes (part b j) n (put_terms (tail c) o.second.rest) → get_or b j 0 ≡ 6 → Leads b fuel p q (j + n) i (f - 1)
    unfolding absorbing_split
    splits-second n within d m = record {
      first = after_term b j n o.second d;
      second = o.first;
      less = under;
      whole = turn (absorbing_split sequence (f - 1) (tail c) a) (second_absorbs (f - 1) a c (tail a) (tail c) x.0 x.1 (is-absorbing (at_part b j o.second) (mark_of b j 6 m)));
      way = λ e es h q u w. onto (e ∷ es) (way-second ni m (next_place b j n o.second within d) (record { rest = after_term b j n o.second d; end = q; fails = h; meets = u }) w);
    }

    pub head-of_first : HeadAt (drop i b)
    head-of_first = record { pattern = o.first; head = x.0; rest = tail a; is = x.1 }

    module _ (mj : get_or b j 0 ≡ 15 → ⊥) (nj : get_or b j 0 ≡ 6 → ⊥) where
      abbrev y : (h : One) × (view c ≡ View.one h (tail c))
      y = one-head (at_part b j o.second) (mark_not b j 15 mj) (mark_not b j 6 nj)

      pub head-of-second : HeadAt (drop j b)
      head-of-second = record { pattern = o.second; head = y.0; rest = tail c; is = y.1 }

      module _ (v : Verdict) (e : v ≡ overlap_of_terms sequence head-of_first.head head-of-second.head) where
        compared : sequence (suc (f - 1)) a c ≡ after_heads v (f - 1) (λ g. sequence g (tail a) (tail c))
        unfolding head-of_first head-of-second
        compared =
            heads_compared (f - 1) a c (tail a) (tail c) x.0 y.0 x.1 y.1
            ∙ ap (λ (w : Verdict). after_heads w (f - 1) (λ g. sequence g (tail a) (tail c))) (sym e)

        -- The heads do not meet for sure.
        pub heads-end : is_overlap v ≡ false → Told b fuel p q (lead_of v (f - 1))
        heads-end h = go v compared h
          where
            go : (w : Verdict) → sequence (suc (f - 1)) a c ≡ after_heads w (f - 1) (λ g. sequence g (tail a) (tail c)) → is_overlap w ≡ false → Told b fuel p q (lead_of w (f - 1))
            go Disjoint r n = (turn (found Disjoint (f - 1)) r, under)
            go Overlap r n = absurd (true≢false n)
            go Unknown r n = tt

        pub heads-on : is_overlap v ≡ true → (n : ℕ) → i + n ≤ length b → Passes (part b i) n (put_terms (tail a) o.first.rest) → (k : ℕ) → j + k ≤ length b → Passes (part b j) k (put_terms (tail c) o.second.rest)
            → Onward b fuel p q (f - 1) (i + n) (j + k)
        heads-on h n wi d k wj t = record {
          first = after_term b i n o.first d;
          second = after_term b j k o.second t;
          less = omega (arith, o.less);
          whole = turn (sequence (f - 1) (tail a) (tail c)) (compared ∙ go v h);
          way = λ es w. onto es (way-heads ni nj (next_place b i n o.first wi d) (next_place b j k o.second wj t) w);
        }
          where
            go : (w : Verdict) → is_overlap w ≡ true → after_heads w (f - 1) (λ g. sequence g (tail a) (tail c)) ≡ sequence (f - 1) (tail a) (tail c)
            go Disjoint e = absurd (true≢false (sym e))
            go Overlap e = refl
            go Unknown e = absurd (true≢false (sym e))

-- ---- a split in the room

module _ (m : List ℕ) (t i j f : ℕ) where
  pub split_kept : Kept t m (split_at m t i j f)
  split_kept = record {
    length = length-set (set (set m t i) (t + 1) j) (t + 2) f ∙ length-set (set m t i) (t + 1) j ∙ length-set m t i;
    below = λ k l. get_or-set_other (set (set m t i) (t + 1) j) (t + 2) k f 0 (λ e. omega (arith, e, l)) ∙ get_or-set_other (set m t i) (t + 1) k j 0 (λ e. omega (arith, e, l)) ∙ get_or-set_other m t k i 0 (λ e. omega (arith, e, l));
  }

  module _ (l : t + 3 ≤ length m) where
    split_rest : i ≡ get_or (split_at m t i j f) t 0
    split_rest = sym (get_or-set_other (set (set m t i) (t + 1) j) (t + 2) t f 0 (λ e. omega (arith, e)) ∙ get_or-set_other (set m t i) (t + 1) t j 0 (λ e. omega (arith, e)) ∙ get_or-set_same m t i 0 (omega (arith, l)))

    split_other : j ≡ get_or (split_at m t i j f) (t + 1) 0
    split_other = sym (get_or-set_other (set (set m t i) (t + 1) j) (t + 2) (t + 1) f 0 (λ e. omega (arith, e)) ∙ get_or-set_same (set m t i) (t + 1) j 0 (omega (arith, l, length-set m t i)))

    split_fuel : f ≡ get_or (split_at m t i j f) (t + 2) 0
    split_fuel = sym (get_or-set_same (set (set m t i) (t + 1) j) (t + 2) f 0 (omega (arith, l, length-set m t i, length-set (set m t i) (t + 1) j)))

-- One split more.
pub trail_more : {b m : List ℕ} {from fuel p q n f i j : ℕ} (k l g : ℕ) → from + 3 * n + 3 ≤ length m → Trail b m from fuel p q n f i j → Leads b f i j k l g
    → Trail b (split_at m (from + 3 * n) k l g) from fuel p q (suc n) g k l
trail_more {m = m} {from = from} {n = n} k l g r t s =
    let at = from + 3 * n in
    trail_open (trail-kept (split_kept m at k l g) t) s (split_rest m at k l g r) (split_other m at k l g r) (split_fuel m at k l g r)

moved : (b : List ℕ) (i k : ℕ) → i ≡ k → TermsAt Mode.pattern (drop k b) → TermsAt Mode.pattern (drop i b)
moved b i k e x = subst (λ (n : ℕ). TermsAt Mode.pattern (drop n b)) (sym e) x

-- What the length of the first term at a place says.
abbrev pub Past : List ℕ → ℕ → ℕ → Type 0
Past b size j = (x : TermsAt Mode.pattern (drop j b)) → Passes (part b j) size (put_terms (tail x.terms) x.rest)

module _ {b m : List ℕ} {from fuel p q n g : ℕ} (s : Failing b m from fuel p q n g) (k : ℕ) (e : n ≡ suc k) where
  abbrev last : Last b m from fuel p q k s.from-fuel s.left s.right
  last = trail-last k s.trail e

  module _ (rest : ℕ) (er : rest ≡ get_or m (from + 3 * k) 0) where
    rest-place : rest ≡ s.left
    rest-place = er ∙ sym last.rest-is

    pub failing-rest : TermsAt Mode.pattern (drop rest b)
    failing-rest = moved b rest s.left rest-place last.leads.first

  module _ (other : ℕ) (eo : other ≡ get_or m (from + 3 * k + 1) 0) where
    other_place : other ≡ s.right
    other_place = eo ∙ sym last.other-is

    pub failing-other : TermsAt Mode.pattern (drop other b)
    failing-other = moved b other s.right other_place last.leads.second

    -- It has no end left.
    pub failing-last : get_or b other 0 ≡ 15 → Failing b m from fuel p q k g
    failing-last c = record {
      left = last.left;
      right = last.right;
      from-fuel = last.before;
      trail = last.trail;
      apart = leads_apart last.leads g s.apart (ap (λ (i : ℕ). get_or b i 0) (sym other_place) ∙ c);
    }

    -- It goes on with the next.
    pub failing-next : (rest : ℕ) → rest ≡ get_or m (from + 3 * k) 0 → from + 3 * k + 3 ≤ length m → (get_or b other 0 ≡ 15 → ⊥) → (size : ℕ) → Past b size other
        → Trail b (split_at m (from + 3 * k) rest (other + size) g) from fuel p q n g rest (other + size)
    failing-next rest er r c size past =
        subst (λ (h : ℕ). Trail b (split_at m (from + 3 * k) rest (other + size) g) from fuel p q h g rest (other + size)) (sym e)
        (trail_more rest (other + size) g r last.trail
        (subst (λ (i : ℕ). Leads b last.before last.left last.right i (other + size) g) (sym (rest-place rest er))
        (subst (λ (j : ℕ). (get_or b j 0 ≡ 15 → ⊥) → Past b size j → Leads b last.before last.left last.right s.left (j + size) g) (sym other_place)
        (λ c d. leads_next last.leads g s.apart c size (d last.leads.second)) c past)))

-- ---- after a turn

-- The fuel that was left is less.
pub goes_less : (b : List ℕ) (f g : ℕ) (r : Turn) → g < f → GoesWith b g r → Goes b f r
goes_less b f g (Turn.On s) l h = (h.0, omega (arith, h.1, l))
goes_less b f g (Turn.Ended n) l h = tt

-- A split was opened, or there was no room for it.
module _ (b m new : List ℕ) (from n f i j rest other g : ℕ) (r : Turn) (s : Leads b f i j rest other g) (o : Opened m from n rest other g r new) where
  pub opened_turned : (fuel p q : ℕ) → Trail b m from fuel p q n f i j → Turned b new from fuel p q r
  unfolding in_turn
  opened_turned fuel p q t =
      ⊎_elim {C = Turned b new from fuel p q r}
      (λ c. subst (λ (u : Turn). Turned b new from fuel p q u) (sym c.0)
      (subst (λ (l : List ℕ). Trail b l from fuel p q (n + 1) g rest other) (sym c.1)
      (subst (λ (k : ℕ). Trail b (split_at m (from + 3 * n) rest other g) from fuel p q k g rest other) (omega arith) (trail_more rest other g c.2 t s))))
      (λ c. subst (λ (u : Turn). Turned b new from fuel p q u) (sym c.0) way-any)
      o

  pub opened_goes : Goes b f r
  opened_goes =
      ⊎_elim {C = Goes b f r}
      (λ c. subst (λ (u : Turn). Goes b f u) (sym c.0) (record { first = s.first; second = s.second }, s.less))
      (λ c. subst (λ (u : Turn). Goes b f u) (sym c.0) tt)
      o

  pub opened_fits : from + 3 * n ≤ length m → from + 3 * height_of r ≤ length m
  opened_fits l =
      ⊎_elim {C = from + 3 * height_of r ≤ length m}
      (λ c. omega (arith, ap height_of c.0, c.2))
      (λ c. omega (arith, ap height_of c.0, l))
      o

  pub opened_kept : Kept (from + 3 * n) m new
  opened_kept =
      ⊎_elim {C = Kept (from + 3 * n) m new}
      (λ c. subst (λ (l : List ℕ). Kept (from + 3 * n) m l) (sym c.1) (split_kept m (from + 3 * n) rest other g))
      (λ c. subst (λ (l : List ℕ). Kept (from + 3 * n) m l) (sym c.1) (kept_same (from + 3 * n) m))
      o
