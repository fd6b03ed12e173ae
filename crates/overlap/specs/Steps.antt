-- What the code's small functions answer, and what an answer of the cycle says.
use Rattle.std.specs.Prelude.{ℕ, ◌≡◌, Bool, true, false, Option, None, Some, IfSome}
use Rattle.patterns.specs.declared.Verdict.{Verdict}
use Rattle.patterns.specs.declared.Verdict.TheVariants.{Disjoint, Overlap, Unknown}
use Rattle.patterns.specs.declared.Found.{Found}
use Rattle.patterns.specs.Search.{found, after_unknown}
use Rattle.overlap.specs.declared.search.Limits.{Limits}
use Rattle.overlap.specs.declared.search.Tried.{Tried}

abbrev pub is_overlap : Verdict → Bool
is_overlap Disjoint = false
is_overlap Overlap = true
is_overlap Unknown = false

abbrev pub is_disjoint : Verdict → Bool
is_disjoint Disjoint = true
is_disjoint Overlap = false
is_disjoint Unknown = false

-- The verdict so far, and then another: Unknown is remembered.
abbrev pub remembered : Verdict → Verdict → Verdict
remembered v Disjoint = v
remembered v Overlap = v
remembered v Unknown = Unknown

-- The verdict on the tails, behind heads with a verdict; and the whole answer.
abbrev pub behind_verdict : Verdict → Verdict → Verdict
behind_verdict Disjoint v = Disjoint
behind_verdict Overlap v = v
behind_verdict Unknown v = after_unknown v

abbrev pub behind : Verdict → Found → Found
behind h q = found (behind_verdict h q.verdict) q.fuel

-- A search that has ended, and one behind heads: where a limit was met on the tails, there is no answer.
abbrev pub tried : Verdict → ℕ → ℕ → Tried
tried v f e = record { found = found v f; entries = e }

abbrev pub behind_tried : Verdict → Option Tried → Option Tried
behind_tried h None = None
behind_tried h (Some t) = Some (record { found = behind h t.found; entries = t.entries })

-- An answer is the search's; where there is none, nothing is said. For two heads the verdict is all there is.
abbrev pub Answers : Option Tried → Found → Type 0
Answers r q = IfSome r (λ t. t.found ≡ q)

abbrev pub Says : Option Tried → Verdict → Type 0
Says r v = IfSome r (λ t. t.found.verdict ≡ v)

-- No limit, which is a depth that no search has.
abbrev pub Endless : Limits → Type 0
Endless l = l.deep ≡ 4294967295
