-- The undecided sentences as loops tell them.
use Rattle.std.specs.Prelude.{ℕ, Bool, ◌&&◌, not, cond, List, [], ◌∷◌, map, Option}
use Rattle.program.specs.Syntax.{Function, Program}
use Rattle.program.specs.Sentences.{Sentence}
use Rattle.meaning.specs.Lists.{any}
use Rattle.told.specs.Numbered.{Held}
use Rattle.meaning.specs.Text.{format_terms}
use Rattle.meaning.specs.CleanReport.{UndecidedSentence}
use Rattle.told.specs.ToldReport.{overlaps}
use Rattle.text.specs.declared.writer.Writer.{Writer}
use Rattle.report.specs.declared.listing.Candidate.{Candidate}
use Rattle.report.specs.Listing.{Named, Listing}

abbrev pub undecided_one : Function → Sentence → UndecidedSentence
undecided_one x y = record { function = x.name; pattern = format_terms y.pattern }

-- The sentence y, number s, of x is a candidate if it is there and no restriction gives it Overlap.
unfoldable pub undecided_at : (ℕ → Bool) → List Held → Function → ℕ → Sentence → List UndecidedSentence
undecided_at keep sites x s y = cond (keep s && not (any (overlaps keep x.name y.pattern) sites)) (undecided_one x y ∷ []) []

abbrev pub undecided_named : UndecidedSentence → Named
undecided_named x = record { name = x.function; text = x.pattern }

-- From one writing end, count and last candidate to another; a text stands between " {" and "}".
abbrev pub Undecided : List ℕ → Program → List UndecidedSentence → (v : Writer) (count : ℕ) (last : Option Candidate) (u : Writer) (counted : ℕ) (next : Option Candidate) → Type 0
Undecided b w l v count last u counted next = Listing (32 ∷ 123 ∷ []) (125 ∷ 10 ∷ []) b w (map undecided_named l) v count last u counted next
