-- The uncovered restrictions as loops tell them.
use Rattle.std.specs.Prelude.{ℕ, ◌≡◌, Bool, ◌&&◌, cond, List, [], ◌∷◌, map, drop, Option}
use Rattle.program.specs.Syntax.{Terms, Function, Program}
use Rattle.program.specs.Limits.{Mode}
use Rattle.image.specs.Parts.{TermsAt}
use Rattle.program.specs.Sentences.{Sentence}
use Rattle.patterns.specs.Search.{patterns_overlap}
use Rattle.meaning.specs.Lists.{all}
use Rattle.told.specs.Numbered.{Held}
use Rattle.meaning.specs.Cleaning.{is_disjoint}
use Rattle.meaning.specs.Text.{format_terms}
use Rattle.meaning.specs.CleanReport.{UncoveredRestriction}
use Rattle.told.specs.History.{numbered}
use Rattle.report.specs.Leading.{is_leading}
use Rattle.text.specs.declared.writer.Writer.{Writer}
use Rattle.report.specs.declared.listing.Candidate.{Candidate}
use Rattle.report.specs.Listing.{Named, Listing}

-- The terms r stand at n of b, as a pattern.
pub record ArgumentAt (b : List ℕ) (n : ℕ) (r : Terms) : Type 0 where
  pub reading : TermsAt Mode.pattern (drop n b)
  pub is : reading.terms ≡ r

abbrev pub uncovered_one : Function → Held → UncoveredRestriction
uncovered_one x y = record { function = x.name; input = format_terms y.site.argument }

-- "a restriction is uncovered if it is Disjoint from every sentence": of x, whose first sentence is number k.
unfoldable pub is_uncovered : (ℕ → Bool) → Function → ℕ → Terms → Bool
is_uncovered keep x k r = all (λ (z : Sentence). is_disjoint (patterns_overlap z.pattern r)) (numbered keep k x.sentences)

-- The site y at i is a candidate if it leads and is uncovered.
unfoldable pub uncovered_at : (ℕ → Bool) → List Held → Function → ℕ → ℕ → Held → List UncoveredRestriction
uncovered_at keep sites x k i y = cond (is_leading keep x.name sites i y && is_uncovered keep x k y.site.argument) (uncovered_one x y ∷ []) []

abbrev pub uncovered_named : UncoveredRestriction → Named
uncovered_named x = record { name = x.function; text = x.input }

-- From one writing end, count and last candidate to another; a text stands behind " <- ".
abbrev pub Uncovered : List ℕ → Program → List UncoveredRestriction → (v : Writer) (count : ℕ) (last : Option Candidate) (u : Writer) (counted : ℕ) (next : Option Candidate) → Type 0
Uncovered b w l v count last u counted next = Listing (32 ∷ 60 ∷ 45 ∷ 32 ∷ []) (10 ∷ []) b w (map uncovered_named l) v count last u counted next
