-- How Clean ends: on each refusal, and where the image is accepted.
use Prim.Native.Nat.{ℕ, suc, ◌+◌, ◌/◌, ◌≤◌, ◌<◌}
use native.Mathlib.Omega.{arith}
use mathlib.Core.Path.{◌≡◌, refl, sym, ap, ap₂, subst, ◌∙◌}
use mathlib.Core.Logic.{◌⊎◌, inl, inr}
use mathlib.Core.Bool.{Bool, true, false, cond}
use mathlib.Core.List.{List, [], ◌∷◌}
use lib.Dec.{ltb}
use lib.ListN.{length, get_or}
use borrow.Author.Tests.{le-leb, lt-leb, le-ltb}
use Rattle.std.specs.Int.{div_ceil}
use Rattle.program.specs.Decode.{Answer, sized, decode}
use Rattle.image.specs.Parts.{Accepted}
use Rattle.program.specs.Encode.{encode}
use Rattle.program.specs.Bytes.{Bytes}
use Rattle.meaning.specs.Cleaning.{clean_residual_program}
use Rattle.meaning.specs.CleanReport.{clean_report}
use Rattle.meaning.specs.Report.{format_clean_report}
use Rattle.answers.specs.CleanAnswers.{CleanAnswer, Lent, Left, clean_refused, cleaned_to, refusing, written, zeroed, writing, clean_decoded, entries_for, clean_answer, lending}
use Rattle.answers.specs.Packed.{clean_fields, CleanFits}
use Rattle.program.proofs.RoundTrip.{decode-encode, encode-decode}
use Rattle.meaning.proofs.Fewer.{cleaned_valid}
use Rattle.answers.proofs.Fitting.{refused-small, accepted-small}
use Rattle.cleaner.specs.Writing.{writing_of, Wrote}
use Rattle.answers.proofs.Exactly.{CleanRefuses, untouched, clean_refuses}

sized-short : (image : List ℕ) → length image < 12 → sized image ≡ false
unfolding sized
sized-short image l = rw (lt-leb 12 (length image) l)

sized-long : (image : List ℕ) → 32768 < length image → sized image ≡ false
unfolding sized
sized-long image l = rw (le-leb 12 (length image) (omega (arith, l)), lt-leb (length image) 32768 l)

pub sized-right : (image : List ℕ) → 12 ≤ length image → length image ≤ 32768 → sized image ≡ true
unfolding sized
sized-right image l k = rw (le-leb 12 (length image) l, le-leb (length image) 32768 k)

-- All that Clean leaves, in four equations, and that its answer fits 64 bits.
pub record Ended (image output work report : List ℕ) (answer : CleanAnswer) (output' work' report' : List ℕ) : Type 0 where
  pub answered : answer ≡ (clean_answer image (lending output work report)).answer
  pub outputs : output' ≡ (clean_answer image (lending output work report)).lent.output
  pub works : work' ≡ (clean_answer image (lending output work report)).lent.work
  pub reports : report' ≡ (clean_answer image (lending output work report)).lent.report
  pub fits : CleanFits answer

refused-fits : (n p : ℕ) → n < 256 → p < 1099511627776 → CleanFits (clean_refused n p)
unfolding clean_fields
refused-fits n p h k = record { number_fits = h; middle-fits = omega arith; rest-fits = k }

-- An image and a text that fit, written or refused.
writing-fits : (image text : List ℕ) (l : Lent) → length image < 65536 → length text < 1099511627776 → CleanFits (writing image text l).answer
unfolding writing clean_fields
writing-fits image text l h k = by (ltb (length l.report) (length text))
  where
    by : (t : Bool)
        → CleanFits (cond {A = Left} t (record { answer = clean_refused 12 (length text); lent = record { output = l.output; work = zeroed l.work; report = l.report } })
        (record { answer = cleaned_to (length image) (length text); lent = record { output = written image l.output; work = zeroed l.work; report = written text l.report } })).answer
    by true = record { number_fits = omega arith; middle-fits = omega arith; rest-fits = k }
    by false = record { number_fits = omega arith; middle-fits = h; rest-fits = k }

cleared : (image text output work report : List ℕ) → (writing image text (lending output work report)).lent.work ≡ zeroed work
unfolding writing
cleared image text output work report = by (ltb (length report) (length text))
  where
    by : (t : Bool)
        → (cond {A = Left} t (record { answer = clean_refused 12 (length text); lent = record { output = output; work = zeroed work; report = report } })
        (record { answer = cleaned_to (length image) (length text); lent = record { output = written image output; work = zeroed work; report = written text report } })).lent.work ≡ zeroed work
    by true = refl
    by false = refl

module _ (image output work report : List ℕ) where
  ended-refusing : (n p : ℕ) → n < 256 → p < 1099511627776 → clean_answer image (lending output work report) ≡ refusing n p (lending output work report) → Ended image output work report (clean_refused n p) output work report
  unfolding refusing
  ended-refusing n p h k e = record {
    answered = sym (ap (λ (x : Left). x.answer) e);
    outputs = sym (ap (λ (x : Left). x.lent.output) e);
    works = sym (ap (λ (x : Left). x.lent.work) e);
    reports = sym (ap (λ (x : Left). x.lent.report) e);
    fits = refused-fits n p h k;
  }

  ended-short : length image < 12 → Ended image output work report (clean_refused 1 0) output work report
  unfolding refusing untouched
  ended-short l = ended-refusing 1 0 (omega arith) (omega arith) (clean_refuses image (lending output work report) 1 0 (CleanRefuses.by_1 (sized-short image l)))

  ended-long : 32768 < length image → Ended image output work report (clean_refused 1 0) output work report
  unfolding refusing untouched
  ended-long l = ended-refusing 1 0 (omega arith) (omega arith) (clean_refuses image (lending output work report) 1 0 (CleanRefuses.by_1 (sized-long image l)))

  pub ended_size : (length image < 12) ⊎ ((12 ≤ length image) × (32768 < length image)) → Ended image output work report (clean_refused 1 0) output work report
  ended_size (inl l) = ended-short l
  ended_size (inr l) = ended-long l.1

  module _ (least : 12 ≤ length image) (most : length image ≤ 32768) where
    pub ended-output : length output < length image → Ended image output work report (clean_refused 2 0) output work report
    unfolding refusing untouched
    ended-output l = ended-refusing 2 0 (omega arith) (omega arith) (clean_refuses image (lending output work report) 2 0 (CleanRefuses.by_2 (sized-right image least most) l))

    module _ (enough : length image ≤ length output) where
      pub ended-work : length work < (length image + 3) / 4 → Ended image output work report (clean_refused 3 0) output work report
      unfolding entries_for refusing untouched
      ended-work l = ended-refusing 3 0 (omega arith) (omega arith) (clean_refuses image (lending output work report) 3 0 (CleanRefuses.by_3 (sized-right image least most) enough l))

      module _ (entries : (length image + 3) / 4 ≤ length work) where
        decoded : clean_answer image (lending output work report) ≡ clean_decoded (decode image) (lending output work report)
        unfolding clean_answer entries_for
        decoded = rw (sized-right image least most, le-ltb (length output) (length image) enough, le-ltb (length work) ((length image + 3) / 4) entries)

        pub ended-refused : (n p : ℕ) → decode image ≡ Answer.refused n p → Ended image output work report (clean_refused n p) output work report
        unfolding clean_decoded
        ended-refused n p e = let f = refused-small image n p e in ended-refusing n p f.0 (omega (arith, f.1)) (decoded ∙ ap (λ (x : Answer). clean_decoded x (lending output work report)) e)

        accepted-is : (a : Accepted image) → clean_answer image (lending output work report) ≡ writing_of a.program (lending output work report)
        unfolding clean_decoded
        accepted-is a = decoded ∙ ap (λ (x : Answer). clean_decoded x (lending output work report)) a.is

        pub ended-accepted : Bytes image → (a : Accepted image) (answer : CleanAnswer) (output' work' report' : List ℕ) → Wrote a.program output report answer output' report' → work' ≡ zeroed work → Ended image output work report answer output' work' report'
        ended-accepted bytes a answer output' work' report' w z = record {
          answered = w.answers work ∙ sym (ap (λ (x : Left). x.answer) (accepted-is a));
          outputs = w.outputs work ∙ sym (ap (λ (x : Left). x.lent.output) (accepted-is a));
          works = z ∙ (sym (cleared (encode (clean_residual_program a.program)) (format_clean_report (clean_report a.program)) output work report) ∙ sym (ap (λ (x : Left). x.lent.work) (accepted-is a)));
          reports = w.reports work ∙ sym (ap (λ (x : Left). x.lent.report) (accepted-is a));
          fits = subst CleanFits (sym (w.answers work)) (writing-fits _ _ (lending output work report) (omega (arith, accepted-small _ _ (decode-encode (clean_residual_program a.program) (cleaned_valid a.program (encode-decode image a.program bytes a.is).1)))) w.short);
        }

-- Entries are counted with the last bytes rounded up.
pub rounded_up : (n : ℕ) → div_ceil n 4 ≡ (n + 3) / 4
rounded_up n = omega arith

-- Work whose every entry is zero.
pub all_zero : (work work' : List ℕ) → length work' ≡ length work → ((k : ℕ) → k < length work → get_or work' k 0 ≡ 0) → work' ≡ zeroed work
unfolding zeroed
all_zero [] [] e h = refl
all_zero [] (y ∷ m) e h = absurd (omega (arith, e))
all_zero (x ∷ l) [] e h = absurd (omega (arith, e))
all_zero (x ∷ l) (y ∷ m) e h = ap₂ (λ (z : ℕ) (r : List ℕ). z ∷ r) (h 0 (omega arith)) (all_zero l m (omega (arith, e)) (λ k u. h (suc k) (omega (arith, u))))
