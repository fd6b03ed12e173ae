-- Unknown exactly where the search ran dry.
use Prim.Native.Nat.{ℕ, zero, suc, ◌+◌, ◌<◌}
use native.Mathlib.Omega.{arith}
use mathlib.Core.Path.{◌≡◌, refl, sym, ap, ◌∙◌, subst}
use mathlib.Core.Logic.{◌↔◌}
use mathlib.Core.Bool.{Bool, true, false}
use mathlib.Core.List.{List, [], ◌∷◌}
use Rattle.program.specs.Syntax.{s_kind, t_kind, e_kind, Terms, nil, symbol, variable, bracket, call, block}
use Rattle.patterns.specs.Symbols.{same_symbol}
use Rattle.patterns.specs.declared.Verdict.{Verdict}
use Rattle.patterns.specs.declared.Verdict.TheVariants.{Disjoint, Overlap, Unknown}
use Rattle.patterns.specs.declared.Found.{Found}
use Rattle.patterns.proofs.Plain.{Plain, PlainOne, PlainView, view-plain, AllPlain, ends-plain}
use Rattle.patterns.specs.Search.{One, View, view, leftover_overlap, ends, after_split, splits_from, absorbing_split, literal_overlap, start, overlap_of_terms, after_unknown, after_heads, entered, enter, size, sequence, patterns_overlap}
use Rattle.patterns.specs.Dry.{Dry, dry_entry, dry_heads, dry_tails, dry_first, dry_second, DrySplits, dry_here, dry_later}
use Rattle.patterns.proofs.Size.{one_size, Below, view-below, AllWithin, ends-within, by_size}
use Rattle.patterns.proofs.Unfold.{unfold_sequence, no_fuel, absorbing-begins, one-begins, first_absorbs, second_absorbs, heads_compared}
use Rattle.patterns.proofs.Verdicts.{disjoint≢overlap, disjoint≢unknown, overlap≢unknown}

-- What holds where the verdict is Unknown.
abbrev IfUnknown : Verdict → Type 0 → Type 0
IfUnknown Disjoint P = Unit {0}
IfUnknown Overlap P = Unit {0}
IfUnknown Unknown P = P

map_unknown : (w : Verdict) (P Q : Type 0) → (P → Q) → IfUnknown w P → IfUnknown w Q
map_unknown Disjoint P Q k h = tt
map_unknown Overlap P Q k h = tt
map_unknown Unknown P Q k h = k h

if_unknown : (w : Verdict) (P : Type 0) → (w ≡ Unknown → P) → IfUnknown w P
if_unknown Disjoint P k = tt
if_unknown Overlap P k = tt
if_unknown Unknown P k = k refl

literal_known : (t : Bool) (P : Type 0) → IfUnknown (literal_overlap t) P
unfolding literal_overlap
literal_known true P = tt
literal_known false P = tt

leftover_known : (a : Terms) (P : Type 0) → IfUnknown (leftover_overlap a) P
unfolding leftover_overlap
leftover_known nil P = tt
leftover_known (symbol s x r) P = tt
leftover_known (variable s s_kind n r) P = tt
leftover_known (variable s t_kind n r) P = tt
leftover_known (variable s e_kind n r) P = leftover_known r P
leftover_known (bracket s i r) P = tt
leftover_known (call s f a r) P = tt
leftover_known (block s a b r) P = tt

-- The calls on smaller sequences.
abbrev Dries : Terms → Terms → Type 0
Dries a b = (f : ℕ) → Plain a → Plain b → IfUnknown (sequence f a b).verdict (Dry f a b)

-- Two heads that are brackets and run dry.
abbrev DryHeads : One → One → Type 0
DryHeads x y = (i : Terms) × (j : Terms) × (x ≡ One.brackets i) × (y ≡ One.brackets j) × Dry start i j

module _ (n : ℕ) (dries : (a b : Terms) → size a + size b < n → Dries a b) where
  splits_dry : (os : List Terms) (m : ℕ) (r : Terms) (f : ℕ) → AllWithin m os → size r + m < n → Plain r → AllPlain os
      → IfUnknown (splits_from sequence r os Disjoint f).verdict (DrySplits f r os)
  unfolding splits_from
  splits_dry [] m r f h l pr po = tt
  splits_dry (o ∷ os) m r f h l pr po =
      go (sequence f r o).verdict refl (dries r o (omega (arith, h.0)) f pr po.0) (splits_dry os m r (sequence f r o).fuel h.1 l pr po.1)
    where
      g : ℕ
      g = (sequence f r o).fuel

      go : (w : Verdict) → (sequence f r o).verdict ≡ w → IfUnknown w (Dry f r o) → IfUnknown (splits_from sequence r os Disjoint g).verdict (DrySplits g r os)
          → IfUnknown (after_split w g Disjoint (λ u e. splits_from sequence r os u e)).verdict (DrySplits f r (o ∷ os))
      go Disjoint e d k = map_unknown (splits_from sequence r os Disjoint g).verdict (DrySplits g r os) (DrySplits f r (o ∷ os)) (λ s. dry_later (λ q. disjoint≢overlap (sym e ∙ q)) s) k
      go Overlap e d k = tt
      go Unknown e d k =
          if_unknown (splits_from sequence r os Unknown g).verdict (DrySplits f r (o ∷ os)) (λ u. dry_here d (λ q. overlap≢unknown (sym q ∙ u)))

  split_dry : (f : ℕ) (r b : Terms) → size r + size b < n → Plain r → Plain b → IfUnknown (absorbing_split sequence f r b).verdict (DrySplits f r (ends b))
  unfolding absorbing_split
  split_dry f r b l pr pb = splits_dry (ends b) (size b) r f (ends-within b) l pr (ends-plain b pb)

  terms_dry : (x y : One) → one_size x + one_size y < n → PlainOne x → PlainOne y → IfUnknown (overlap_of_terms sequence x y) (DryHeads x y)
  unfolding overlap_of_terms
  terms_dry (One.literal x) (One.literal y) l px py = literal_known (same_symbol x y) _
  terms_dry (One.literal x) One.any-symbol l px py = tt
  terms_dry (One.literal x) One.any_term l px py = tt
  terms_dry (One.literal x) One.no-pattern l px py = absurd py
  terms_dry (One.literal x) (One.brackets j) l px py = tt
  terms_dry One.any-symbol (One.literal y) l px py = tt
  terms_dry One.any-symbol One.any-symbol l px py = tt
  terms_dry One.any-symbol One.any_term l px py = tt
  terms_dry One.any-symbol One.no-pattern l px py = absurd py
  terms_dry One.any-symbol (One.brackets j) l px py = tt
  terms_dry One.any_term (One.literal y) l px py = tt
  terms_dry One.any_term One.any-symbol l px py = tt
  terms_dry One.any_term One.any_term l px py = tt
  terms_dry One.any_term One.no-pattern l px py = absurd py
  terms_dry One.any_term (One.brackets j) l px py = tt
  terms_dry One.no-pattern y l px py = absurd px
  terms_dry (One.brackets i) (One.literal y) l px py = tt
  terms_dry (One.brackets i) One.any-symbol l px py = tt
  terms_dry (One.brackets i) One.any_term l px py = tt
  terms_dry (One.brackets i) One.no-pattern l px py = absurd py
  terms_dry (One.brackets i) (One.brackets j) l px py =
      map_unknown (sequence start i j).verdict (Dry start i j) (DryHeads (One.brackets i) (One.brackets j)) (λ d. (i, j, refl, refl, d)) (dries i j l start px py)

  heads_dry : (a b r s : Terms) (x y : One) (f : ℕ) (w : Verdict) → view a ≡ View.one x r → view b ≡ View.one y s → overlap_of_terms sequence x y ≡ w → IfUnknown w (DryHeads x y)
      → (t : Verdict) → (sequence f r s).verdict ≡ t → IfUnknown t (Dry f r s) → IfUnknown (after_heads w f (λ g. sequence g r s)).verdict (Dry (suc f) a b)
  heads_dry a b r s x y f Disjoint ea eb e d t u k = tt
  heads_dry a b r s x y f Overlap ea eb e d t u k =
      subst (λ (v : Verdict). IfUnknown v (Dry (suc f) a b)) (sym u)
      (map_unknown t (Dry f r s) (Dry (suc f) a b) (λ z. dry_tails ea eb (λ q. disjoint≢overlap (sym q ∙ e)) z) k)
  heads_dry a b r s x y f Unknown ea eb e d t u k = subst (λ (v : Verdict). IfUnknown (after_unknown v) (Dry (suc f) a b)) (sym u) (go t u)
    where
      dry : ((sequence f r s).verdict ≡ Disjoint → ⊥) → Dry (suc f) a b
      dry h = dry_heads (ea ∙ ap (λ (z : One). View.one z r) d.2) (eb ∙ ap (λ (z : One). View.one z s) d.3) d.4 h

      go : (t : Verdict) → (sequence f r s).verdict ≡ t → IfUnknown (after_unknown t) (Dry (suc f) a b)
      go Disjoint v = tt
      go Overlap v = dry (λ q. disjoint≢overlap (sym q ∙ v))
      go Unknown v = dry (λ q. disjoint≢unknown (sym q ∙ v))

  entered_dry : (x y : View) (a b : Terms) (f : ℕ) → size a + size b < suc n → Below (size a) x → Below (size b) y → Plain a → Plain b → PlainView x → PlainView y
      → view a ≡ x → view b ≡ y → IfUnknown (entered sequence x y a b f).verdict (Dry (suc f) a b)
  unfolding entered
  entered_dry View.nothing View.nothing a b f l h k pa pb px py ea eb = tt
  entered_dry View.nothing (View.absorbing s) a b f l h k pa pb px py ea eb = leftover_known b _
  entered_dry View.nothing (View.one y s) a b f l h k pa pb px py ea eb = leftover_known b _
  entered_dry (View.absorbing r) View.nothing a b f l h k pa pb px py ea eb = leftover_known a _
  entered_dry (View.absorbing r) (View.absorbing s) a b f l h k pa pb px py ea eb =
      map_unknown (absorbing_split sequence f r b).verdict (DrySplits f r (ends b)) (Dry (suc f) a b) (λ d. dry_first ea (λ e. absorbing-begins (sym eb ∙ e)) d) (split_dry f r b (omega arith) px pb)
  entered_dry (View.absorbing r) (View.one y s) a b f l h k pa pb px py ea eb =
      map_unknown (absorbing_split sequence f r b).verdict (DrySplits f r (ends b)) (Dry (suc f) a b) (λ d. dry_first ea (λ e. one-begins (sym eb ∙ e)) d) (split_dry f r b (omega arith) px pb)
  entered_dry (View.one x r) View.nothing a b f l h k pa pb px py ea eb = leftover_known a _
  entered_dry (View.one x r) (View.absorbing s) a b f l h k pa pb px py ea eb =
      map_unknown (absorbing_split sequence f s a).verdict (DrySplits f s (ends a)) (Dry (suc f) a b) (λ d. dry_second ea eb d) (split_dry f s a (omega arith) py pa)
  entered_dry (View.one x r) (View.one y s) a b f l h k pa pb px py ea eb =
      heads_dry a b r s x y f (overlap_of_terms sequence x y) ea eb refl (terms_dry x y (omega arith) px.0 py.0) (sequence f r s).verdict refl (dries r s (omega arith) f px.1 py.1)

  enter_dry : (f : ℕ) (a b : Terms) → size a + size b < suc n → Plain a → Plain b → IfUnknown (enter sequence f a b).verdict (Dry f a b)
  unfolding enter
  enter_dry zero a b l pa pb = dry_entry
  enter_dry (suc f) a b l pa pb = entered_dry (view a) (view b) a b f l (view-below a) (view-below b) pa pb (view-plain a pa) (view-plain b pb) refl refl

sequence_dries : (a b : Terms) → Dries a b
sequence_dries = by_size Dries step
  where
    step : (n : ℕ) → ((a b : Terms) → size a + size b < n → Dries a b) → (a b : Terms) → size a + size b < suc n → Dries a b
    step n dries a b l f pa pb = rw (unfold_sequence f a b) (enter_dry n dries f a b l pa pb)

-- The other way: each step of `Dry` keeps the verdict Unknown.
not_both : (w : Verdict) → (w ≡ Disjoint → ⊥) → (w ≡ Overlap → ⊥) → w ≡ Unknown
not_both Disjoint d o = absurd (d refl)
not_both Overlap d o = absurd (o refl)
not_both Unknown d o = refl

unknown_stays : (os : List Terms) (r : Terms) (f : ℕ) → (splits_from sequence r os Unknown f).verdict ≡ Disjoint → ⊥
unfolding splits_from
unknown_stays [] r f e = disjoint≢unknown (sym e)
unknown_stays (o ∷ os) r f e = go (sequence f r o).verdict (sequence f r o).fuel (λ g. unknown_stays os r g) e
  where
    go : (w : Verdict) (g : ℕ) → ((g : ℕ) → (splits_from sequence r os Unknown g).verdict ≡ Disjoint → ⊥)
        → (after_split w g Unknown (λ u e. splits_from sequence r os u e)).verdict ≡ Disjoint → ⊥
    go Disjoint g k e = k g e
    go Overlap g k e = disjoint≢overlap (sym e)
    go Unknown g k e = k g e

after_unknown_lem : (w : Verdict) → (w ≡ Disjoint → ⊥) → after_unknown w ≡ Unknown
after_unknown_lem Disjoint h = absurd (h refl)
after_unknown_lem Overlap h = refl
after_unknown_lem Unknown h = refl

after-heads : (w : Verdict) (f : ℕ) (tails : ℕ → Found) → (w ≡ Disjoint → ⊥) → (tails f).verdict ≡ Unknown → (after_heads w f tails).verdict ≡ Unknown
after-heads Disjoint f tails h e = absurd (h refl)
after-heads Overlap f tails h e = e
after-heads Unknown f tails h e = ap after_unknown e

after_split_lem : (w : Verdict) (f : ℕ) (v : Verdict) (next : Verdict → ℕ → Found) → (w ≡ Overlap → ⊥) → ((u : Verdict) → (next u f).verdict ≡ Unknown)
    → (after_split w f v next).verdict ≡ Unknown
after_split_lem Disjoint f v next h k = k v
after_split_lem Overlap f v next h k = absurd (h refl)
after_split_lem Unknown f v next h k = k Unknown

mutual
  unfolding splits_from absorbing_split overlap_of_terms

  dry_unknown : {f : ℕ} {a b : Terms} → Dry f a b → (sequence f a b).verdict ≡ Unknown
  dry_unknown (dry_entry {a = a} {b = b}) = ap (λ (q : Found). q.verdict) (no_fuel a b)
  dry_unknown (dry_heads {f = f} {a = a} {b = b} {r = r} {s = s} {i = i} {j = j} ea eb d h) =
      ap (λ (q : Found). q.verdict) (heads_compared f a b r s (One.brackets i) (One.brackets j) ea eb)
      ∙ ap (λ (w : Verdict). (after_heads w f (λ g. sequence g r s)).verdict) (dry_unknown d)
      ∙ after_unknown_lem (sequence f r s).verdict h
  dry_unknown (dry_tails {f = f} {a = a} {b = b} {r = r} {s = s} {x = x} {y = y} ea eb h d) =
      ap (λ (q : Found). q.verdict) (heads_compared f a b r s x y ea eb) ∙ after-heads (overlap_of_terms sequence x y) f (λ g. sequence g r s) h (dry_unknown d)
  dry_unknown (dry_first {f = f} {a = a} {b = b} {r = r} ea h d) = ap (λ (q : Found). q.verdict) (first_absorbs f a b r ea h) ∙ splits_unknown d Disjoint
  dry_unknown (dry_second {f = f} {a = a} {b = b} {r = r} {s = s} {x = x} ea eb d) = ap (λ (q : Found). q.verdict) (second_absorbs f a b r s x ea eb) ∙ splits_unknown d Disjoint

  splits_unknown : {f : ℕ} {r : Terms} {os : List Terms} → DrySplits f r os → (v : Verdict) → (splits_from sequence r os v f).verdict ≡ Unknown
  splits_unknown (dry_here {f = f} {r = r} {o = o} {os = os} d h) v =
      ap (λ (w : Verdict). (after_split w (sequence f r o).fuel v (λ u e. splits_from sequence r os u e)).verdict) (dry_unknown d)
      ∙ not_both (splits_from sequence r os Unknown (sequence f r o).fuel).verdict (unknown_stays os r (sequence f r o).fuel) h
  splits_unknown (dry_later {f = f} {r = r} {o = o} {os = os} h d) v = after_split_lem (sequence f r o).verdict (sequence f r o).fuel v (λ u e. splits_from sequence r os u e) h (λ u. splits_unknown d u)

-- For any fuel: a part of the search is Unknown exactly if it ran dry.
pub sequence_unknown : (f : ℕ) (a b : Terms) → Plain a → Plain b → ((sequence f a b).verdict ≡ Unknown) ↔ Dry f a b
sequence_unknown f a b pa pb = (λ e. subst (λ (w : Verdict). IfUnknown w (Dry f a b)) e (sequence_dries a b f pa pb), dry_unknown)

pub unknown_dry : (a b : Terms) → Plain a → Plain b → (patterns_overlap a b ≡ Unknown) ↔ Dry start a b
unfolding patterns_overlap
unknown_dry a b pa pb = sequence_unknown start a b pa pb
