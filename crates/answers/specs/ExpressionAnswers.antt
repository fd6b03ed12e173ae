-- Document 02, request 5: "A new entry point takes what Overlap takes, returns its answer and the length written, and writes, for an Overlap verdict, one expression that matches both patterns".
use Rattle.std.specs.Prelude.{ℕ, ◌+◌, ◌*◌, cond, List, [], ltb, length, Result, Ok, Err}
use Rattle.std.proofs.Math.Option.{Option, none, some}
use Rattle.std.proofs.Math.ListN.{get_elem?}
use Rattle.program.specs.Syntax.{Terms, Program}
use Rattle.program.specs.Decode.{Answer, decode}
use Rattle.program.specs.Sentences.{Sentence, own_sentences}
use Rattle.patterns.specs.declared.Verdict.{Verdict}
use Rattle.patterns.specs.declared.Verdict.TheVariants.{Disjoint, Overlap, Unknown}
use Rattle.patterns.specs.Expression.{Expression}
use Rattle.patterns.specs.Marks.{put_expression}
use Rattle.patterns.specs.Search.{patterns_overlap, spent}
use Rattle.patterns.specs.Meet.{meet}
use Rattle.program.specs.declared.Refusal.{Refusal}
use Rattle.answers.specs.declared.Sharing.{Sharing}
use Rattle.answers.specs.Answers.{verdict_number}
use Rattle.answers.specs.CleanAnswers.{written}
use Rattle.answers.specs.Packed.{Fields, fields, pack_fields}

-- The same with the length of the expression.
abbrev pub ExpressionAnswer : Type 0
ExpressionAnswer = Result Sharing Refusal

-- The answer, and what is in the lent slice then.
pub record ExpressionLeft : Type 0 where
  pub answer : ExpressionAnswer
  pub lent : List ℕ

abbrev pub expression_refused : ℕ → ℕ → ExpressionAnswer
expression_refused n p = Err (record { number = n; place = p })

-- A refusal "changes no lent memory" (document 01).
unfoldable pub refusing_expression : ℕ → ℕ → List ℕ → ExpressionLeft
refusing_expression n p lent = record { answer = expression_refused n p; lent = lent }

-- "for an Overlap verdict, one expression [..]. Disjoint and Unknown write nothing."
unfoldable pub of_verdict : Verdict → Expression → List ℕ
of_verdict Disjoint v = []
of_verdict Overlap v = put_expression v []
of_verdict Unknown v = []

-- What two patterns make the entry point write.
unfoldable pub shared_expression : Terms → Terms → List ℕ
shared_expression a b = of_verdict (patterns_overlap a b) (meet a b)

-- "returns its answer and the length written"; "Refusal 17 [..] is a lent slice shorter than the expression." Bytes past the length are unchanged.
unfoldable pub share_patterns : Terms → Terms → List ℕ → ExpressionLeft
share_patterns a b lent =
    cond (ltb (length lent) (length (shared_expression a b))) (refusing_expression 17 0 lent)
    (record {
      answer = Ok (record { verdict = patterns_overlap a b; spent = spent a b; length = length (shared_expression a b) });
      lent = written (shared_expression a b) lent;
    })

-- "takes what Overlap takes": 13 is Overlap's. "Refusal 17, after 13".
unfoldable pub share_found : Option Sentence → Option Sentence → List ℕ → ExpressionLeft
share_found none y lent = refusing_expression 13 0 lent
share_found (some x) none lent = refusing_expression 13 0 lent
share_found (some x) (some y) lent = share_patterns x.pattern y.pattern lent

unfoldable pub share_sentences : Program → ℕ → ℕ → List ℕ → ExpressionLeft
share_sentences w i j lent = share_found (get_elem? (own_sentences w.functions) i) (get_elem? (own_sentences w.functions) j) lent

unfoldable pub share_of : Answer → ℕ → ℕ → List ℕ → ExpressionLeft
share_of (Answer.refused n p) i j lent = refusing_expression n p lent
share_of (Answer.accepted w) i j lent = share_sentences w i j lent

-- The entry point on any bytes, numbers and lent slice: refusals 1, 4 to 11, 13, 17 in this order.
unfoldable pub expression_answer : List ℕ → ℕ → ℕ → List ℕ → ExpressionLeft
expression_answer image first second lent = share_of (decode image) first second lent

-- The numbers: 0 or the refusal, its place, the verdict, the entries spent, the length written.
pub record ExpressionValues : Type 0 where
  pub number : ℕ
  pub place : ℕ
  pub verdict : ℕ
  pub spent : ℕ
  pub length : ℕ

unfoldable pub expression_values : ExpressionAnswer → ExpressionValues
expression_values (Ok c) = record { number = 0; place = 0; verdict = verdict_number c.verdict; spent = c.spent; length = c.length }
expression_values (Err r) = record { number = r.number; place = r.place; verdict = 0; spent = 0; length = 0 }

-- In one number of 64 bits, as the C name gives it: bits 8 and 9 the verdict, 10 to 23 the entries spent, 24 to 63 the length or the place.
unfoldable pub expression_fields : ExpressionAnswer → Fields
expression_fields (Ok c) = fields 0 (verdict_number c.verdict + 4 * c.spent) c.length
expression_fields (Err f) = fields f.number 0 f.place

abbrev pub pack_expression : ExpressionAnswer → ℕ
pack_expression r = pack_fields (expression_fields r)
