-- "Unknown only where a 4,096-entry fuel ran out" (demand 2): that the search comes to an entry with fuel 0, its own or one of a bracket pair on its way, and that nothing which it reads besides settles the verdict.
use Rattle.std.specs.Prelude.{ℕ, zero, suc, ◌≡◌, List, ◌∷◌}
use Rattle.program.specs.Syntax.{Terms}
use Rattle.patterns.specs.declared.Verdict.TheVariants.{Disjoint, Overlap, Unknown}
use Rattle.patterns.specs.Search.{One, View, view, ends, splits_from, start, overlap_of_terms, sequence}

mutual
  pub data Dry : ℕ → Terms → Terms → Type 0 where
    -- an entry with fuel 0
    dry_entry : {a b : Terms} → Dry zero a b
    -- two brackets that run dry from their own 4,096, before tails that are not Disjoint
    dry_heads : {f : ℕ} {a b r s i j : Terms} → view a ≡ View.one (One.brackets i) r → view b ≡ View.one (One.brackets j) s → Dry start i j
        → ((sequence f r s).verdict ≡ Disjoint → ⊥) → Dry (suc f) a b
    -- tails that run dry, behind heads that are not Disjoint
    dry_tails : {f : ℕ} {a b r s : Terms} {x y : One} → view a ≡ View.one x r → view b ≡ View.one y s → (overlap_of_terms sequence x y ≡ Disjoint → ⊥)
        → Dry f r s → Dry (suc f) a b
    -- a split that runs dry, of the first sequence's `e.` or of the second's
    dry_first : {f : ℕ} {a b r : Terms} → view a ≡ View.absorbing r → (view b ≡ View.nothing → ⊥) → DrySplits f r (ends b) → Dry (suc f) a b
    dry_second : {f : ℕ} {a b r s : Terms} {x : One} → view a ≡ View.one x r → view b ≡ View.absorbing s → DrySplits f s (ends a) → Dry (suc f) a b

  -- One of the splits runs dry, and none is an Overlap.
  pub data DrySplits : ℕ → Terms → List Terms → Type 0 where
    dry_here : {f : ℕ} {r o : Terms} {os : List Terms} → Dry f r o → ((splits_from sequence r os Unknown (sequence f r o).fuel).verdict ≡ Overlap → ⊥)
        → DrySplits f r (o ∷ os)
    dry_later : {f : ℕ} {r o : Terms} {os : List Terms} → ((sequence f r o).verdict ≡ Overlap → ⊥) → DrySplits (sequence f r o).fuel r os
        → DrySplits f r (o ∷ os)
