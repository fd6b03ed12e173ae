-- What the parts of Clean's code leave, for an accepted image.
use Rattle.std.specs.Prelude.{ℕ, ◌<◌, ◌≡◌, List, length}
use Rattle.program.specs.Syntax.{Program}
use Rattle.program.specs.Encode.{encode}
use Rattle.meaning.specs.Cleaning.{clean_residual_program}
use Rattle.meaning.specs.CleanReport.{clean_report}
use Rattle.meaning.specs.Report.{format_clean_report}
use Rattle.answers.specs.CleanAnswers.{CleanAnswer}
use Rattle.answers.specs.CleanAnswers.{lending, Lent, Left, writing}

-- The image and the text of w, written into what is lent.
abbrev pub writing_of : Program → Lent → Left
writing_of w l = writing (encode (clean_residual_program w)) (format_clean_report (clean_report w)) l

-- Answer, output and report are those of Clean on w; `work` stands for any.
pub record Wrote (w : Program) (output report : List ℕ) (answer : CleanAnswer) (output' report' : List ℕ) : Type 0 where
  pub answers : (work : List ℕ) → answer ≡ (writing_of w (lending output work report)).answer
  pub outputs : (work : List ℕ) → output' ≡ (writing_of w (lending output work report)).lent.output
  pub reports : (work : List ℕ) → report' ≡ (writing_of w (lending output work report)).lent.report
  -- Its length fits 40 bits.
  pub short : length (format_clean_report (clean_report w)) < 1099511627776
