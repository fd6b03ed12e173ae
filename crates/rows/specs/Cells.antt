-- What is known of a search on two sequences, as one number: its cost and its verdict, from which the answer for every fuel follows.
use Rattle.std.specs.Prelude.{ℕ, ◌+◌, ◌-◌, ◌*◌, ◌/◌, ◌%◌, ◌<◌, ◌≤◌, ◌≡◌, cond, eqb, ltb}
use Rattle.program.specs.Syntax.{Terms}
use Rattle.patterns.specs.declared.Verdict.{Verdict}
use Rattle.patterns.specs.declared.Verdict.TheVariants.{Disjoint, Overlap, Unknown}
use Rattle.patterns.specs.declared.Found.{Found}
use Rattle.patterns.specs.Search.{found, absorbing_split, sequence}

-- A search that ends at a cost with a verdict: alike from every larger fuel, and out of fuel from every smaller one.
unfoldable pub costing : ℕ → Verdict → ℕ → Found
costing c v f = cond (ltb f c) (found Unknown 0) (found v (f - c))

-- The number of a verdict.
abbrev pub code_of : Verdict → ℕ
code_of Disjoint = 1
code_of Overlap = 2
code_of Unknown = 3

-- A cell: four times a cost, which stops at 4,097, and a verdict's number. No search starts with more fuel than 4,096.
abbrev pub CellTold : (ℕ → Found) → ℕ → Type 0
CellTold s n = (v : Verdict) × (n % 4 ≡ code_of v) × (n / 4 ≤ 4097) × ((f : ℕ) → f ≤ 4096 → s f ≡ costing (n / 4) v f)

-- The same by names, and that a cost which stopped is that of Unknown.
pub record Cell (s : ℕ → Found) (n : ℕ) : Type 0 where
  pub verdict : Verdict
  pub code : n % 4 ≡ code_of verdict
  pub few : n / 4 ≤ 4097
  pub out : 4096 < n / 4 → verdict ≡ Unknown
  pub answers : (f : ℕ) → f ≤ 4096 → s f ≡ costing (n / 4) verdict f

-- ---- what the code's small functions answer

-- A cost above 4,096 stops at 4,097.
unfoldable pub stopped : ℕ → ℕ
stopped n = cond (ltb n 16388) n 16391

-- One entry more.
abbrev pub spent : ℕ → ℕ
spent c = stopped (c + 4)

-- Tails behind heads that are Unknown: Overlap becomes Unknown.
unfoldable pub unsure : ℕ → ℕ
unsure c = cond (eqb (c % 4) 2) (c + 1) c

-- An entry: heads of a verdict, then the tails.
unfoldable pub behind_of : ℕ → ℕ → ℕ
behind_of h c = cond (eqb (h % 4) 1) 5 (stopped (cond (eqb (h % 4) 3) (unsure c) c + 4))

-- One end of a split, then the later ones: Overlap ends it, costs add, Unknown is remembered.
unfoldable pub ends_of : ℕ → ℕ → ℕ
ends_of s t = cond (eqb (s % 4) 2) s (stopped (cond (eqb (t % 4) 1) (s + t - 1) (s - s % 4 + t)))

-- Two cells in one number: that of a pair, and that of the pair in the other order.
abbrev pub low : ℕ → ℕ
low w = w % 65536

abbrev pub high : ℕ → ℕ
high w = w / 65536

abbrev pub both : ℕ → ℕ → ℕ
both c d = c + 65536 * d

-- Both orders of two sequences of which one is empty: one entry, and what is left over of the other.
abbrev pub ended_both : Verdict → ℕ
ended_both v = both (4 + code_of v) (4 + code_of v)

-- Two sequences in both orders.
pub record PairTold (x y : Terms) (w : ℕ) : Type 0 where
  pub first : Cell (λ f. sequence f x y) (low w)
  pub second : Cell (λ f. sequence f y x) (high w)

-- An `e.` variable before each of them, which takes from the other.
pub record SplitsTold (x y : Terms) (w : ℕ) : Type 0 where
  pub first : Cell (λ f. absorbing_split sequence f x y) (low w)
  pub second : Cell (λ f. absorbing_split sequence f y x) (high w)
