-- "An entry with fuel 0 answers Unknown": that the search on a pair of sequences, from a fuel, comes to such an entry of this same pair; bracket pairs have a fuel of their own.
use Prim.Native.Nat.{ℕ, zero, suc}
use mathlib.Core.Path.{◌≡◌}
use mathlib.Core.List.{List, ◌∷◌}
use Rattle.program.specs.Syntax.{Terms}
use Rattle.patterns.specs.declared.Verdict.TheVariants.{Disjoint, Overlap}
use Rattle.patterns.specs.Search.{One, View, view, ends, overlap_of_terms, sequence}

mutual
  pub data Starved : ℕ → Terms → Terms → Type 0 where
    -- the entry itself
    starved_entry : {a b : Terms} → Starved zero a b
    -- an entry on the tails, which are read if the heads are not Disjoint
    starved_tails : {f : ℕ} {a b r s : Terms} {x y : One} → view a ≡ View.one x r → view b ≡ View.one y s → (overlap_of_terms sequence x y ≡ Disjoint → ⊥)
        → Starved f r s → Starved (suc f) a b
    -- an entry on a split, of the first sequence's `e.` or of the second's
    starved_first : {f : ℕ} {a b r : Terms} → view a ≡ View.absorbing r → (view b ≡ View.nothing → ⊥) → StarvedSplits f r (ends b) → Starved (suc f) a b
    starved_second : {f : ℕ} {a b r s : Terms} {x : One} → view a ≡ View.one x r → view b ≡ View.absorbing s → StarvedSplits f s (ends a) → Starved (suc f) a b

  -- The same of the splits: on the first of them, or on a later one if the first is no Overlap, with the fuel that it leaves.
  pub data StarvedSplits : ℕ → Terms → List Terms → Type 0 where
    starved_here : {f : ℕ} {r o : Terms} {os : List Terms} → Starved f r o → StarvedSplits f r (o ∷ os)
    starved_later : {f : ℕ} {r o : Terms} {os : List Terms} → ((sequence f r o).verdict ≡ Overlap → ⊥) → StarvedSplits (sequence f r o).fuel r os
        → StarvedSplits f r (o ∷ os)
