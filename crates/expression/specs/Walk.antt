-- What two patterns meet in, as it is walked: a step writes some of it, and leaves two patterns that meet in the rest.
use Rattle.std.specs.Prelude.{ℕ, zero, suc, ◌+◌, ◌*◌, ◌≤◌, ◌≡◌, Bool, List, [], ◌++◌, length, drop}
use Rattle.program.specs.Syntax.{Terms}
use Rattle.program.specs.Limits.{Mode}
use Rattle.image.specs.Parts.{TermsAt}
use Rattle.patterns.specs.Marks.{put_expression}
use Rattle.patterns.specs.Search.{One, ends}
use Rattle.patterns.specs.Meet.{meet_splits, meet_of_terms, meet_sequence}
use Rattle.rows.specs.Parts.{HeadAt}
use Rattle.overlap.specs.Way.{End, Taken, Way, end_at, in_turn}
use Rattle.text.specs.Fill.{limit}
use Rattle.text.specs.Written.{written}
use Rattle.text.specs.declared.writer.Writer.{Writer}
use Rattle.expression.specs.declared.walk.Step.{Step}

abbrev pub meet_bytes : Bool → ℕ → Terms → Terms → List ℕ
meet_bytes swapped fuel a b = put_expression (meet_sequence swapped fuel a b) []

abbrev pub split_bytes : Bool → ℕ → Terms → Terms → List ℕ
split_bytes swapped fuel rest other = put_expression (meet_splits meet_sequence swapped rest (ends other) fuel) []

abbrev pub head_bytes : Bool → One → One → List ℕ
head_bytes swapped x y = put_expression (meet_of_terms meet_sequence swapped x y) []

-- Two patterns at places of a body; what they meet in can be written from `at` on.
pub record Meets (b : List ℕ) (left right : ℕ) (swapped : Bool) (fuel at : ℕ) : Type 0 where
  pub first : TermsAt Mode.pattern (drop left b)
  pub second : TermsAt Mode.pattern (drop right b)
  pub short : at + length (meet_bytes swapped fuel first.terms second.terms) ≤ limit

-- The same of a split: what follows an `e.` variable, and what that takes from.
pub record Splits (b : List ℕ) (rest other : ℕ) (swapped : Bool) (fuel at : ℕ) : Type 0 where
  pub first : TermsAt Mode.pattern (drop rest b)
  pub second : TermsAt Mode.pattern (drop other b)
  pub short : at + length (split_bytes swapped fuel first.terms second.terms) ≤ limit

-- The same of two heads.
pub record Heads (s t : List ℕ) (swapped : Bool) (at : ℕ) : Type 0 where
  pub first : HeadAt s
  pub second : HeadAt t
  pub short : at + length (head_bytes swapped first.head second.head) ≤ limit

-- Some of the bytes have been written; the patterns that are left, no earlier, meet in the rest.
pub record Stepped (b : List ℕ) (before : Writer) (from fuel : ℕ) (whole : List ℕ) (r : Step) (after : Writer) : Type 0 where
  pub text : List ℕ
  pub wrote : after ≡ written before text
  pub first : TermsAt Mode.pattern (drop r.left b)
  pub second : TermsAt Mode.pattern (drop r.right b)
  pub is : whole ≡ text ++ meet_bytes r.swapped r.fuel first.terms second.terms
  pub further : from ≤ r.left + r.right
  pub less : r.fuel ≤ fuel

-- ---- ends that are known

abbrev pub end_of : ℕ → ℕ → End
end_of place fuel = record { place = place; fuel = fuel }

-- What a step leaves takes the ends that stand in the room m up to `top`.
pub record Onwards (b m : List ℕ) (top : ℕ) (r : Step) : Type 0 where
  pub way : Way b (in_turn m r.ends.next r.ends.known []) r.fuel r.left r.right
  pub is : r.ends.next + 3 * r.ends.known ≡ top

-- The split in turn takes the first of them.
abbrev pub Ahead : List ℕ → List ℕ → ℕ → ℕ → ℕ → ℕ → ℕ → Type 0
Ahead b m next zero rest other fuel = Unit {0}
Ahead b m next (suc n) rest other fuel =
    Taken b rest other fuel (end_at m next) × Way b (in_turn m (next + 3) n []) (end_at m next).fuel rest (end_at m next).place

-- Some split takes this end, and what it makes up can be written from `at` on.
pub record Follows (b : List ℕ) (other end at : ℕ) : Type 0 where
  pub rest : ℕ
  pub fuel : ℕ
  pub left : ℕ
  pub swapped : Bool
  pub splits : Splits b rest other swapped fuel at
  pub taken : Taken b rest other fuel (end_of end left)

-- The terms before the end have been written; what meets there makes up the rest.
pub record Followed (b : List ℕ) (before : Writer) (other : ℕ) (whole : List ℕ) (swapped : Bool) (p : Terms) (e : End) (after : Writer) : Type 0 where
  pub text : List ℕ
  pub wrote : after ≡ written before text
  pub there : TermsAt Mode.pattern (drop e.place b)
  pub is : whole ≡ text ++ meet_bytes swapped e.fuel p there.terms
  pub further : other ≤ e.place
