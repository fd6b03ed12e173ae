-- Fuel that goes in and comes back: it never grows; a pair that comes to an entry with fuel 0 is Unknown with nothing left; any other answers alike with more fuel.
use Prim.Native.Nat.{ℕ, zero, suc, ◌+◌, ◌<◌, ◌≤◌}
use native.Mathlib.Omega.{arith}
use native.Mathlib.Nat.{le_refl, le_trans}
use mathlib.Core.Path.{◌≡◌, refl, sym, ap, ◌∙◌}
use mathlib.Core.List.{List, [], ◌∷◌}
use Rattle.program.specs.Syntax.{Terms}
use Rattle.patterns.specs.declared.Verdict.{Verdict}
use Rattle.patterns.specs.declared.Verdict.TheVariants.{Disjoint, Overlap, Unknown}
use Rattle.patterns.specs.declared.Found.{Found}
use Rattle.patterns.specs.Search.{found, Searching, View, view, ends, after_split, splits_from, absorbing_split, start, overlap_of_terms, after_unknown, after_heads, entered, enter, size, search_to, sequence, spent}
use Rattle.patterns.proofs.Starved.{Starved, starved_entry, starved_tails, starved_first, starved_second, StarvedSplits, starved_here, starved_later}
use Rattle.patterns.proofs.Size.{Below, view-below, AllWithin, ends-within, by_size}
use Rattle.patterns.proofs.Unfold.{spend_one, no_fuel, absorbing-begins, one-begins, first_absorbs, second_absorbs, heads_compared}
use Rattle.patterns.proofs.Verdicts.{disjoint≢overlap, disjoint≢unknown, overlap≢unknown}

-- No more fuel comes back than went in.
abbrev Spends : Searching → Type 0
Spends search = (f : ℕ) (a b : Terms) → (search f a b).fuel ≤ f

module _ (search : Searching) (spends : Spends search) where
  splits_spend : (os : List Terms) (r : Terms) (v : Verdict) (f : ℕ) → (splits_from search r os v f).fuel ≤ f
  unfolding splits_from
  splits_spend [] r v f = le_refl f
  splits_spend (o ∷ os) r v f = go (search f r o).verdict (search f r o).fuel (spends f r o) (λ u g. splits_spend os r u g)
    where
      go : (w : Verdict) (g : ℕ) → g ≤ f → ((u : Verdict) (g : ℕ) → (splits_from search r os u g).fuel ≤ g)
          → (after_split w g v (λ u e. splits_from search r os u e)).fuel ≤ f
      go Disjoint g l k = le_trans (k v g) l
      go Overlap g l k = l
      go Unknown g l k = le_trans (k Unknown g) l

  heads_spend : (w : Verdict) (f : ℕ) (r s : Terms) → (after_heads w f (λ g. search g r s)).fuel ≤ f
  heads_spend Disjoint f r s = le_refl f
  heads_spend Overlap f r s = spends f r s
  heads_spend Unknown f r s = spends f r s

  entered_spend : (x y : View) (a b : Terms) (f : ℕ) → (entered search x y a b f).fuel ≤ f
  unfolding entered absorbing_split
  entered_spend View.nothing View.nothing a b f = le_refl f
  entered_spend View.nothing (View.absorbing s) a b f = le_refl f
  entered_spend View.nothing (View.one y s) a b f = le_refl f
  entered_spend (View.absorbing r) View.nothing a b f = le_refl f
  entered_spend (View.absorbing r) (View.absorbing s) a b f = splits_spend (ends b) r Disjoint f
  entered_spend (View.absorbing r) (View.one y s) a b f = splits_spend (ends b) r Disjoint f
  entered_spend (View.one x r) View.nothing a b f = le_refl f
  entered_spend (View.one x r) (View.absorbing s) a b f = splits_spend (ends a) s Disjoint f
  entered_spend (View.one x r) (View.one y s) a b f = heads_spend (overlap_of_terms search x y) f r s

  enter_spends : Spends (enter search)
  unfolding enter
  enter_spends zero a b = le_refl 0
  enter_spends (suc f) a b = omega (arith, entered_spend (view a) (view b) a b f)

spends_to : (d : ℕ) → Spends (search_to d)
unfolding search_to
spends_to zero f a b = le_refl f
spends_to (suc d) f a b = enter_spends (search_to d) (spends_to d) f a b

pub fuel-falls : (f : ℕ) (a b : Terms) → (sequence f a b).fuel ≤ f
unfolding sequence
fuel-falls f a b = spends_to (suc (size a + size b)) f a b

-- An entry spends 1.
pub sequence_spends : (f : ℕ) (a b : Terms) → (sequence (suc f) a b).fuel ≤ f
sequence_spends f a b = omega (arith, ap (λ (q : Found). q.fuel) (spend_one f a b), entered_spend sequence fuel-falls (view a) (view b) a b f)

pub spent_and_left : (a b : Terms) → spent a b + (sequence start a b).fuel ≡ start
unfolding spent
spent_and_left a b = omega (arith, fuel-falls start a b)

-- A pair that comes to an entry with fuel 0.
pub splits_without : (os : List Terms) (r : Terms) → splits_from sequence r os Unknown 0 ≡ found Unknown 0
unfolding splits_from
splits_without [] r = refl
splits_without (o ∷ os) r = ap (λ (q : Found). after_split q.verdict q.fuel Unknown (λ u e. splits_from sequence r os u e)) (no_fuel r o) ∙ splits_without os r

after-heads : (w : Verdict) (f : ℕ) (tails : ℕ → Found) → (w ≡ Disjoint → ⊥) → tails f ≡ found Unknown 0 → after_heads w f tails ≡ found Unknown 0
after-heads Disjoint f tails h e = absurd (h refl)
after-heads Overlap f tails h e = e
after-heads Unknown f tails h e = ap (λ (q : Found). found (after_unknown q.verdict) q.fuel) e

after_split_lem : (w : Verdict) (f : ℕ) (v : Verdict) (next : Verdict → ℕ → Found) → (w ≡ Overlap → ⊥) → ((u : Verdict) → next u f ≡ found Unknown 0)
    → after_split w f v next ≡ found Unknown 0
after_split_lem Disjoint f v next h k = k v
after_split_lem Overlap f v next h k = absurd (h refl)
after_split_lem Unknown f v next h k = k Unknown

mutual
  unfolding splits_from absorbing_split

  pub starved_unknown : {f : ℕ} {a b : Terms} → Starved f a b → sequence f a b ≡ found Unknown 0
  starved_unknown (starved_entry {a = a} {b = b}) = no_fuel a b
  starved_unknown (starved_tails {f = f} {a = a} {b = b} {r = r} {s = s} {x = x} {y = y} ea eb h d) =
      heads_compared f a b r s x y ea eb ∙ after-heads (overlap_of_terms sequence x y) f (λ g. sequence g r s) h (starved_unknown d)
  starved_unknown (starved_first {f = f} {a = a} {b = b} {r = r} ea h d) = first_absorbs f a b r ea h ∙ splits_starved d Disjoint
  starved_unknown (starved_second {f = f} {a = a} {b = b} {r = r} {s = s} {x = x} ea eb d) = second_absorbs f a b r s x ea eb ∙ splits_starved d Disjoint

  splits_starved : {f : ℕ} {r : Terms} {os : List Terms} → StarvedSplits f r os → (v : Verdict) → splits_from sequence r os v f ≡ found Unknown 0
  splits_starved (starved_here {f = f} {r = r} {o = o} {os = os} d) v =
      ap (λ (q : Found). after_split q.verdict q.fuel v (λ u e. splits_from sequence r os u e)) (starved_unknown d) ∙ splits_without os r
  splits_starved (starved_later {f = f} {r = r} {o = o} {os = os} h d) v =
      after_split_lem (sequence f r o).verdict (sequence f r o).fuel v (λ u e. splits_from sequence r os u e) h (λ u. splits_starved d u)

-- Any other pair.
abbrev more : ℕ → Found → Found
more k q = found q.verdict (k + q.fuel)

abbrev Grows : Terms → Terms → Type 0
Grows a b = (f k : ℕ) → (Starved f a b → ⊥) → sequence (k + f) a b ≡ more k (sequence f a b)

-- k more fuel before an entry is k more after it.
plus_suc : (k f : ℕ) → k + suc f ≡ suc (k + f)
plus_suc k f = omega arith

module _ (n k : ℕ) (grows : (a b : Terms) → size a + size b < n → Grows a b) where
  splits_grow : (os : List Terms) (m : ℕ) (r : Terms) (v : Verdict) (f : ℕ) → AllWithin m os → size r + m < n → (StarvedSplits f r os → ⊥)
      → splits_from sequence r os v (k + f) ≡ more k (splits_from sequence r os v f)
  unfolding splits_from
  splits_grow [] m r v f h l z = refl
  splits_grow (o ∷ os) m r v f h l z =
      ap (λ (q : Found). after_split q.verdict q.fuel v (λ u e. splits_from sequence r os u e)) (grows r o (omega (arith, h.0)) f k (λ d. z (starved_here d)))
      ∙ go (sequence f r o).verdict refl (λ u d. splits_grow os m r u (sequence f r o).fuel h.1 l d)
    where
      g : ℕ
      g = (sequence f r o).fuel

      go : (w : Verdict) → (sequence f r o).verdict ≡ w → ((u : Verdict) → (StarvedSplits g r os → ⊥) → splits_from sequence r os u (k + g) ≡ more k (splits_from sequence r os u g))
          → after_split w (k + g) v (λ u e. splits_from sequence r os u e) ≡ more k (after_split w g v (λ u e. splits_from sequence r os u e))
      go Disjoint e later = later v (λ d. z (starved_later (λ q. disjoint≢overlap (sym e ∙ q)) d))
      go Overlap e later = refl
      go Unknown e later = later Unknown (λ d. z (starved_later (λ q. overlap≢unknown (sym q ∙ e)) d))

  split_grows : (f : ℕ) (r b : Terms) → size r + size b < n → (StarvedSplits f r (ends b) → ⊥) → absorbing_split sequence (k + f) r b ≡ more k (absorbing_split sequence f r b)
  unfolding absorbing_split
  split_grows f r b l h = splits_grow (ends b) (size b) r Disjoint f (ends-within b) l h

  heads_grow : (w : Verdict) (f : ℕ) (r s : Terms) → ((w ≡ Disjoint → ⊥) → sequence (k + f) r s ≡ more k (sequence f r s))
      → after_heads w (k + f) (λ g. sequence g r s) ≡ more k (after_heads w f (λ g. sequence g r s))
  heads_grow Disjoint f r s h = refl
  heads_grow Overlap f r s h = h (λ e. disjoint≢overlap (sym e))
  heads_grow Unknown f r s h = ap (λ (q : Found). found (after_unknown q.verdict) q.fuel) (h (λ e. disjoint≢unknown (sym e)))

  entered_grows : (x y : View) (a b : Terms) (f : ℕ) → size a + size b < suc n → Below (size a) x → Below (size b) y → view a ≡ x → view b ≡ y → (Starved (suc f) a b → ⊥)
      → entered sequence x y a b (k + f) ≡ more k (entered sequence x y a b f)
  unfolding entered
  entered_grows View.nothing View.nothing a b f l h m ea eb z = refl
  entered_grows View.nothing (View.absorbing s) a b f l h m ea eb z = refl
  entered_grows View.nothing (View.one y s) a b f l h m ea eb z = refl
  entered_grows (View.absorbing r) View.nothing a b f l h m ea eb z = refl
  entered_grows (View.absorbing r) (View.absorbing s) a b f l h m ea eb z = split_grows f r b (omega arith) (λ d. z (starved_first ea (λ e. absorbing-begins (sym eb ∙ e)) d))
  entered_grows (View.absorbing r) (View.one y s) a b f l h m ea eb z = split_grows f r b (omega arith) (λ d. z (starved_first ea (λ e. one-begins (sym eb ∙ e)) d))
  entered_grows (View.one x r) View.nothing a b f l h m ea eb z = refl
  entered_grows (View.one x r) (View.absorbing s) a b f l h m ea eb z = split_grows f s a (omega arith) (λ d. z (starved_second ea eb d))
  entered_grows (View.one x r) (View.one y s) a b f l h m ea eb z =
      heads_grow (overlap_of_terms sequence x y) f r s (λ w. grows r s (omega arith) f k (λ d. z (starved_tails ea eb w d)))

pub more-fuel : (a b : Terms) (f k : ℕ) → (Starved f a b → ⊥) → sequence (k + f) a b ≡ found (sequence f a b).verdict (k + (sequence f a b).fuel)
more-fuel = by_size Grows step
  where
    step : (n : ℕ) → ((a b : Terms) → size a + size b < n → Grows a b) → (a b : Terms) → size a + size b < suc n → Grows a b
    step n grows a b l zero k h = absurd (h starved_entry)
    step n grows a b l (suc f) k h =
        ap (λ (g : ℕ). sequence g a b) (plus_suc k f) ∙ spend_one (k + f) a b
        ∙ entered_grows n k grows (view a) (view b) a b f l (view-below a) (view-below b) refl refl h ∙ ap (more k) (sym (spend_one f a b))
