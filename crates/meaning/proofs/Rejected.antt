-- What a round rejects: only sentences Disjoint from every restriction of a characterised function, and nothing of one that it leaves alone.
use mathlib.Core.Path.{◌≡◌, refl}
use mathlib.Core.Bool.{Bool, true, false, false≢true, cond}
use mathlib.Core.List.{List, [], ◌∷◌, Memᴰ}
use Rattle.program.specs.Syntax.{Terms}
use Rattle.patterns.specs.declared.Verdict.{Verdict}
use Rattle.patterns.specs.declared.Verdict.TheVariants.{Disjoint, Overlap, Unknown}
use Rattle.patterns.specs.Search.{patterns_overlap}
use Rattle.meaning.specs.Restrictions.{EnteringRestrictions}
use Rattle.meaning.proofs.Lists.{all-at}
use Rattle.meaning.specs.Cleaning.{is_disjoint, Standing, restricted, standing, rejected}

disjoint_is : (w : Verdict) → is_disjoint w ≡ true → w ≡ Disjoint
unfolding is_disjoint
disjoint_is Disjoint e = refl
disjoint_is Overlap e = absurd (false≢true e)
disjoint_is Unknown e = absurd (false≢true e)

-- Disjoint from each of some restrictions.
abbrev pub DisjointFrom : List Terms → Terms → Type 0
DisjointFrom l p = (r : Terms) → Memᴰ r l → patterns_overlap p r ≡ Disjoint

restricted-rejects : (l : List Terms) (p : Terms) → rejected (restricted l) p ≡ true → DisjointFrom l p
unfolding restricted rejected
restricted-rejects [] p e r m = absurd (false≢true e)
restricted-rejects (x ∷ l) p e r m = disjoint_is (patterns_overlap p r) (all-at (λ y. is_disjoint (patterns_overlap p y)) (x ∷ l) r e m)

standing-rejects : (t : Bool) (l : List Terms) (p : Terms) → rejected (cond t (restricted l) Standing.uncharacterised) p ≡ true → (t ≡ true) × DisjointFrom l p
unfolding rejected
standing-rejects true l p e = (refl, restricted-rejects l p e)
standing-rejects false l p e = absurd (false≢true e)

pub rejected-only : (alone : Bool) (e : EnteringRestrictions) (p : Terms) → rejected (standing alone e) p ≡ true → (alone ≡ false) × (e.characterised ≡ true) × DisjointFrom e.restrictions p
unfolding standing rejected
rejected-only true e p h = absurd (false≢true h)
rejected-only false e p h = let k = standing-rejects e.characterised e.restrictions p h in (refl, k.0, k.1)
