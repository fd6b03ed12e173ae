-- The two heads of an entry, by numbers.
use Prim.Native.Nat.{ℕ, ◌<◌}
use native.Mathlib.Omega.{arith}
use mathlib.Core.Path.{◌≡◌, ◌∙◌}
use mathlib.Core.Bool.{true, false, not}
use Rattle.index.specs.Links.{list_head, is_plain_list, first_of, with_first}
use Rattle.index.specs.declared.table.Kind.{Kind}
use Rattle.index.specs.declared.table.Kind.TheVariants.{Plain, Other}
use Rattle.index.specs.declared.table.Heads.{Heads}

-- The heads that an entry holds, by their list.
pub first_head : (k : Kind) (h : Heads) (e : ℕ) → h.plain ≡ list_head true e → h.other ≡ list_head false e → first_of k h ≡ list_head (is_plain_list k) e
first_head Plain h e p o = p
first_head Other h e p o = o

-- The entry r holds the heads h with another first.
pub replaced-head : (k : Kind) (h : Heads) (e i r : ℕ) → h.plain ≡ list_head true e → h.other ≡ list_head false e → list_head true r ≡ (with_first k h i).plain → list_head false r ≡ (with_first k h i).other → (list_head (is_plain_list k) r ≡ i) × (list_head (not (is_plain_list k)) r ≡ list_head (not (is_plain_list k)) e)
replaced-head Plain h e i r p o a b = (a, b ∙ o)
replaced-head Other h e i r p o a b = (b, a ∙ p)

-- Heads that fit, with another one that does.
pub heads-fit : (k : Kind) (h : Heads) (i : ℕ) → i < 8192 → h.plain < 8192 → h.other < 524288 → ((with_first k h i).plain < 8192) × ((with_first k h i).other < 524288)
heads-fit Plain h i l p o = (l, o)
heads-fit Other h i l p o = (p, omega (arith, l))

pub head_below : (k : Kind) (h : Heads) → h.plain < 8192 → h.other < 524288 → first_of k h < 524288
head_below Plain h p o = omega (arith, p)
head_below Other h p o = o
