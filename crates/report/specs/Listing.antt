-- A list of the report as loops tell it: "undecided and uncovered lose neighbouring repeats only", so each candidate is held to the one before.
use Rattle.std.specs.Prelude.{ℕ, suc, ◌+◌, ◌≡◌, Bool, ◌&&◌, Option, None, Some, length, drop}
use mathlib.Core.List.{List, [], ◌∷◌, ◌++◌, flat_map}
use Rattle.std.proofs.Math.Option.{some}
use Rattle.std.proofs.Math.ListN.{get_elem?}
use Rattle.program.specs.Syntax.{Name, Terms, Function, Program}
use Rattle.program.specs.Limits.{Mode}
use Rattle.image.specs.Parts.{TermsAt}
use Rattle.patterns.specs.Names.{eq_bytes}
use Rattle.meaning.specs.Text.{Text, format_terms}
use Rattle.told.specs.ToldReport.{runs_after}
use Rattle.text.specs.declared.writer.Writer.{Writer}
use Rattle.text.specs.Written.{written}
use Rattle.report.specs.declared.listing.Candidate.{Candidate}

-- The last of the candidates l, or the one before them, if there is none.
unfoldable pub last_of : {A : Type 0} → List A → List A → List A
last_of last [] = last
last_of last (x ∷ l) = last_of (x ∷ []) l

-- What each element of a list gives, the first of them number i.
unfoldable pub each_from : {A C : Type 0} → (ℕ → A → List C) → ℕ → List A → List C
each_from each i [] = []
each_from each i (x ∷ l) = each i x ++ each_from each (suc i) l

-- What the line of a candidate tells: a function's name, and the text of a pattern or an argument.
pub record Named : Type 0 where
  pub name : Name
  pub text : Text

abbrev pub named : Function → Terms → Named
named x r = record { name = x.name; text = format_terms r }

unfoldable pub same_named : Named → Named → Bool
same_named x y = eq_bytes x.name y.name && eq_bytes x.text y.text

unfoldable pub named_line : (before after : Text) → Named → Text
named_line before after x = 32 ∷ 32 ∷ (x.name ++ (before ++ (x.text ++ after)))

-- The candidate c is of the function x, and the terms r stand at its place of the body b.
pub record Stands (b : List ℕ) (w : Program) (c : Candidate) (x : Function) (r : Terms) : Type 0 where
  pub function : get_elem? w.functions c.function ≡ some x
  pub reading : TermsAt Mode.pattern (drop c.terms b)
  pub is : reading.terms ≡ r

-- What the candidate tells, if there is one.
pub data StandsFor (b : List ℕ) (w : Program) : Option Candidate → List Named → Type 0 where
  nothing : StandsFor b w None []
  candidate : {c : Candidate} {x : Function} {r : Terms} → Stands b w c x r → StandsFor b w (Some c) (named x r ∷ [])

abbrev pub SomeStands : List ℕ → Program → Option Candidate → Type 0
SomeStands b w last = (z : List Named) × StandsFor b w last z

-- The candidates l after `last` have been told to the writing end v, which leaves it as u: a line for the first of each run, with `before` and `after` around its text, and `next` is the last.
pub record Listing (before after : Text) (b : List ℕ) (w : Program) (l : List Named) (v : Writer) (count : ℕ) (last : Option Candidate) (u : Writer) (counted : ℕ) (next : Option Candidate) : Type 0 where
  pub text : (z : List Named) → StandsFor b w last z → u ≡ written v (flat_map (named_line before after) (runs_after same_named z l))
  pub told : (z : List Named) → StandsFor b w last z → counted ≡ count + length (runs_after same_named z l)
  pub is : (z : List Named) → StandsFor b w last z → StandsFor b w next (last_of z l)
