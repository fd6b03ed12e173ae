-- What Clean answers and leaves, on any bytes and any lent lengths.
use Rattle.std.specs.Prelude.{ℕ, ◌+◌, ◌/◌, cond, List, ◌++◌, map, ltb, length, drop, Result, Ok, Err}
use Rattle.program.specs.Encode.{encode}
use Rattle.program.specs.Decode.{Answer, sized, decode}
use Rattle.meaning.specs.Cleaning.{clean_residual_program}
use Rattle.meaning.specs.CleanReport.{clean_report}
use Rattle.meaning.specs.Text.{Text}
use Rattle.meaning.specs.Report.{format_clean_report}
use Rattle.program.specs.declared.Refusal.{Refusal}
use Rattle.answers.specs.declared.Lengths.{Lengths}

-- What Clean answers: both lengths, or a refusal.
abbrev pub CleanAnswer : Type 0
CleanAnswer = Result Lengths Refusal

-- "Clean takes an image, an output, a work slice of 32-bit entries and a report."
pub record Lent : Type 0 where
  pub output : List ℕ
  pub work : List ℕ
  pub report : List ℕ

abbrev pub lending : List ℕ → List ℕ → List ℕ → Lent
lending output work report = record { output = output; work = work; report = report }

-- The answer, and what is in the lent slices then.
pub record Left : Type 0 where
  pub answer : CleanAnswer
  pub lent : Lent

abbrev pub clean_refused : ℕ → ℕ → CleanAnswer
clean_refused n p = Err (record { number = n; place = p })

abbrev pub cleaned_to : ℕ → ℕ → CleanAnswer
cleaned_to n m = Ok (record { output = n; report = m })

-- "A refusal returns its number and a place, and changes no lent memory".
unfoldable pub refusing : ℕ → ℕ → Lent → Left
refusing n p l = record { answer = clean_refused n p; lent = l }

-- "work is then zero"
unfoldable pub zeroed : List ℕ → List ℕ
zeroed work = map (λ x. 0) work

-- The bytes of a text or an image, and "bytes past the lengths are unchanged".
unfoldable pub written : List ℕ → List ℕ → List ℕ
written s lent = s ++ drop (length s) lent

-- "12: report text longer than the report. The place is the length needed; work becomes zero." Else "It returns 0 with both lengths written".
unfoldable pub writing : List ℕ → Text → Lent → Left
writing image text l =
    cond (ltb (length l.report) (length text)) (record {
      answer = clean_refused 12 (length text);
      lent = record { output = l.output; work = zeroed l.work; report = l.report };
    })
    (record {
      answer = cleaned_to (length image) (length text);
      lent = record { output = written image l.output; work = zeroed l.work; report = written text l.report };
    })

-- Refusals 4 to 11, or what the Rust answers.
unfoldable pub clean_decoded : Answer → Lent → Left
clean_decoded (Answer.refused n p) l = refusing n p l
clean_decoded (Answer.accepted w) l = writing (encode (clean_residual_program w)) (format_clean_report (clean_report w)) l

-- "the image length divided by 4, rounded up"
unfoldable pub entries_for : List ℕ → ℕ
entries_for image = (length image + 3) / 4

-- "2: output shorter than the image. 3: work has fewer entries than the image length divided by 4, rounded up." "Order: 1, 2, 3, 4".
unfoldable pub clean_answer : List ℕ → Lent → Left
clean_answer image l =
    cond (sized image)
    (cond (ltb (length l.output) (length image)) (refusing 2 0 l) (cond (ltb (length l.work) (entries_for image)) (refusing 3 0 l) (clean_decoded (decode image) l)))
    (refusing 1 0 l)

-- Document 01's numbers: what is returned first, 0 or the refusal, then the place, and the two lengths.
pub record CleanValues : Type 0 where
  pub number : ℕ
  pub place : ℕ
  pub output : ℕ
  pub report : ℕ

unfoldable pub clean_values : CleanAnswer → CleanValues
clean_values (Ok n) = record { number = 0; place = 0; output = n.output; report = n.report }
clean_values (Err r) = record { number = r.number; place = r.place; output = 0; report = 0 }
