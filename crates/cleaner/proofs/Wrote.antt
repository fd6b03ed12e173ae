-- What is written when the text fits, and what is left when it does not.
use Prim.Native.Nat.{ℕ, ◌+◌, ◌≤◌, ◌<◌}
use native.Mathlib.Omega.{arith}
use mathlib.Core.Path.{◌≡◌, sym, ap, ap₂, ◌∙◌, subst}
use mathlib.Core.Bool.{true}
use mathlib.Core.List.{List, [], ◌++◌}
use lib.ListN.{length, drop}
use lib.Seq.{paste, take-length}
use borrow.Author.Tests.{lt-ltb, le-ltb}
use Rattle.program.specs.Syntax.{Program}
use Rattle.program.specs.Encode.{encode}
use Rattle.image.specs.Parts.{Accepted}
use Rattle.program.specs.Bytes.{Bytes}
use Rattle.program.proofs.RoundTrip.{encode-decode}
use Rattle.meaning.specs.Dispatch.{residual_dispatches_dynamically}
use Rattle.told.proofs.ToldReport.{dynamic_cleaned}
use Rattle.meaning.specs.Cleaning.{clean_residual_program}
use Rattle.meaning.specs.CleanReport.{clean_report}
use Rattle.meaning.specs.Text.{Text}
use Rattle.text.specs.Fill.{Emitted}
use Rattle.meaning.specs.Report.{format_clean_report}
use Rattle.text.proofs.Fill.{filled-start, filled-empty}
use Rattle.answers.specs.CleanAnswers.{Left, clean_refused, cleaned_to, zeroed, written, writing, lending}
use Rattle.cleaner.specs.Writing.{writing_of, Wrote}

-- The cleaned image and the text of w, whatever they are told by.
module _ (w : Program) (image : List ℕ) (text : Text) (image-is : encode (clean_residual_program w) ≡ image) (text-is : format_clean_report (clean_report w) ≡ text) (text-short : length text < 1099511627776) (output report : List ℕ) where
  told : (work : List ℕ) → writing_of w (lending output work report) ≡ writing image text (lending output work report)
  told work = ap₂ (λ (i : List ℕ) (t : Text). writing i t (lending output work report)) image-is text-is

  too_long_lem : (work : List ℕ) → length report < length text → writing image text (lending output work report) ≡ record { answer = clean_refused 12 (length text); lent = record { output = output; work = zeroed work; report = report } }
  unfolding writing
  too_long_lem work l = rw (lt-ltb (length report) (length text) l)

  fits : (work : List ℕ) → length text ≤ length report → writing image text (lending output work report) ≡ record { answer = cleaned_to (length image) (length text); lent = record { output = written image output; work = zeroed work; report = written text report } }
  unfolding writing
  fits work l = rw (le-ltb (length report) (length text) l)

  pub wrote_nothing : (n : ℕ) → n ≡ length text → length report < n → (report' : List ℕ) → report' ≡ report → Wrote w output report (clean_refused 12 n) output report'
  wrote_nothing n e l report' f = record {
    answers = λ work. ap (clean_refused 12) e ∙ sym (ap (λ (x : Left). x.answer) (told work ∙ too_long_lem work (omega (arith, e, l))));
    outputs = λ work. sym (ap (λ (x : Left). x.lent.output) (told work ∙ too_long_lem work (omega (arith, e, l))));
    reports = λ work. f ∙ sym (ap (λ (x : Left). x.lent.report) (told work ∙ too_long_lem work (omega (arith, e, l))));
    short = omega (arith, text-short, ap length text-is);
  }

  pub wrote_all : (n m : ℕ) → n ≡ length image → m ≡ length text → m ≤ length report → (output' report' : List ℕ) → output' ≡ written image output → report' ≡ written text report → Wrote w output report (cleaned_to n m) output' report'
  wrote_all n m d e l output' report' f g = record {
    answers = λ work. ap₂ cleaned_to d e ∙ sym (ap (λ (x : Left). x.answer) (told work ∙ fits work (omega (arith, e, l))));
    outputs = λ work. f ∙ sym (ap (λ (x : Left). x.lent.output) (told work ∙ fits work (omega (arith, e, l))));
    reports = λ work. g ∙ sym (ap (λ (x : Left). x.lent.report) (told work ∙ fits work (omega (arith, e, l))));
    short = omega (arith, text-short, ap length text-is);
  }

-- A text emitted from the start on, where there is room for it.
pub emitted-written : (report report' : List ℕ) (text : Text) (m : ℕ) → Emitted report 0 text m report' → length text ≤ length report → report' ≡ written text report
unfolding written
emitted-written report report' text m e l = e.left ∙ filled-start report text l

-- Nothing is written into no lent bytes.
pub emitted-none : (report part : List ℕ) (text : Text) (m : ℕ) → Emitted [] 0 text m part → part ++ report ≡ report
emitted-none report part text m e = ap (λ (l : List ℕ). l ++ report) (e.left ∙ filled-empty text 0)

pub emitted-whole : (report lent report' : List ℕ) (text : Text) (m : ℕ) → lent ≡ report → Emitted lent 0 text m report' → length text ≤ length report → report' ≡ written text report
emitted-whole report lent report' text m f e l = emitted-written report report' text m (subst (λ (x : List ℕ). Emitted x 0 text m report') f e) l

pub pasted_whole : (image output : List ℕ) → paste output 0 (drop 0 image) (length image) ≡ written image output
unfolding written
pasted_whole image output =
    let e : 0 + length image ≡ length image = omega arith in
    ap₂ (λ (s : List ℕ) (n : ℕ). s ++ drop n output) (take-length image) e

pub whole_length : {n m : ℕ} → n ≡ 0 + m → n ≡ m
whole_length e = omega (arith, e)

pub whole-fits : {n m k : ℕ} → n ≡ 0 + m → n ≤ k → m ≤ k
whole-fits e l = omega (arith, e, l)

-- "Any `Mu` or `Up` call: same bytes out".
pub same_image : (image : List ℕ) → Bytes image → (a : Accepted image) → residual_dispatches_dynamically a.program ≡ true → encode (clean_residual_program a.program) ≡ image
same_image image bytes a d = ap encode (dynamic_cleaned a.program d) ∙ sym (encode-decode image a.program bytes a.is).0
