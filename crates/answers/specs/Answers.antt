-- What the entry points answer, as document 01 says it: its numbers and values for every case.
use Rattle.std.specs.Prelude.{ℕ, List, Result, Ok, Err}
use Rattle.std.proofs.Math.Option.{Option, none, some}
use Rattle.std.proofs.Math.ListN.{get_elem?}
use Rattle.program.specs.Syntax.{Terms, Program}
use Rattle.program.specs.Decode.{Answer, decode}
use Rattle.program.specs.Sentences.{Sentence, own_sentences}
use Rattle.patterns.specs.declared.Verdict.{Verdict}
use Rattle.patterns.specs.declared.Verdict.TheVariants.{Disjoint, Overlap, Unknown}
use Rattle.patterns.specs.Search.{patterns_overlap, spent}
use Rattle.program.specs.declared.Refusal.{Refusal}
use Rattle.answers.specs.declared.Comparison.{Comparison}

-- What Overlap answers: the verdict and the entries spent, or a refusal.
abbrev pub OverlapAnswer : Type 0
OverlapAnswer = Result Comparison Refusal

-- A refusal, as the code has it.
abbrev pub overlap_refused : ℕ → ℕ → OverlapAnswer
overlap_refused n p = Err (record { number = n; place = p })

-- "the verdict, and the entries spent by the outermost pair"
unfoldable pub compare_patterns : Terms → Terms → OverlapAnswer
compare_patterns a b = Ok (record { verdict = patterns_overlap a b; spent = spent a b })

-- "13 (overlap): a sentence number not below the sentence count."
unfoldable pub compare_found : Option Sentence → Option Sentence → OverlapAnswer
compare_found none y = overlap_refused 13 0
compare_found (some x) none = overlap_refused 13 0
compare_found (some x) (some y) = compare_patterns x.pattern y.pattern

-- "two sentence numbers (functions' sentences in file order, from 0)"
unfoldable pub compare_sentences : Program → ℕ → ℕ → OverlapAnswer
compare_sentences w i j = compare_found (get_elem? (own_sentences w.functions) i) (get_elem? (own_sentences w.functions) j)

unfoldable pub overlap_of : Answer → ℕ → ℕ → OverlapAnswer
overlap_of (Answer.refused n p) i j = overlap_refused n p
overlap_of (Answer.accepted w) i j = compare_sentences w i j

-- Overlap on any bytes and numbers: "Order: 1, [..] 4; then 5 to 10 [..]; then 11, 13".
unfoldable pub overlap_answer : List ℕ → ℕ → ℕ → OverlapAnswer
overlap_answer image first second = overlap_of (decode image) first second

-- Document 01's numbers: what is returned first, 0 or the refusal, then the place, the verdict and the entries spent.
pub record OverlapValues : Type 0 where
  pub number : ℕ
  pub place : ℕ
  pub verdict : ℕ
  pub spent : ℕ

-- "A refusal returns its number and a place".
abbrev pub refusal_values : ℕ → ℕ → OverlapValues
refusal_values n p = record { number = n; place = p; verdict = 0; spent = 0 }

-- "It returns 0, the verdict, and the entries spent by the outermost pair."
abbrev pub comparison_values : ℕ → ℕ → OverlapValues
comparison_values v n = record { number = 0; place = 0; verdict = v; spent = n }

unfoldable pub verdict_number : Verdict → ℕ
verdict_number Disjoint = 0
verdict_number Overlap = 1
verdict_number Unknown = 2

unfoldable pub overlap_values : OverlapAnswer → OverlapValues
overlap_values (Ok c) = comparison_values (verdict_number c.verdict) c.spent
overlap_values (Err r) = refusal_values r.number r.place
