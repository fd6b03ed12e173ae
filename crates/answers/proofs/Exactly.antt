-- When the entry points refuse, and when not: every call is one of the cases, and each case has its answer.
use Prim.Native.Nat.{ℕ, ◌-◌, ◌<◌, ◌≤◌}
use native.Mathlib.Omega.{arith}
use mathlib.Core.Path.{◌≡◌, refl, sym, ap, subst, ◌∙◌}
use mathlib.Core.Logic.{◌⊎◌, inl, inr}
use mathlib.Core.Bool.{Bool, true, false, cond}
use mathlib.Core.List.{List, [], ◌∷◌}
use mathlib.Core.Option.{Option, none, some}
use lib.Dec.{ltb, eqb}
use lib.ListN.{length, take, get_elem?}
use borrow.Author.Tests.{ltb-true, ltb-false, lt-ltb, le-ltb, eqb-true}
use Rattle.program.specs.Syntax.{Program}
use Rattle.program.specs.Encode.{put_functions, own_sentence_count, encode}
use Rattle.program.specs.Limits.{pick}
use Rattle.program.specs.Automaton.{Stack, Read, run}
use Rattle.program.specs.Decode.{Answer, body_length, to_functions, function_field, sentence_field, sized, pointed, agrees, settled, decode_sized, decode}
use Rattle.program.specs.Sentences.{Sentence, own_sentences}
use Rattle.program.proofs.Listed.{refusals_listed}
use Rattle.program.proofs.Own.{own-counted}
use Rattle.meaning.specs.Cleaning.{clean_residual_program}
use Rattle.meaning.specs.CleanReport.{clean_report}
use Rattle.meaning.specs.Report.{format_clean_report}
use Rattle.answers.specs.Answers.{overlap_refused, compare_patterns, compare_found, compare_sentences, overlap_of, overlap_answer}
use Rattle.answers.specs.CleanAnswers.{Lent, clean_refused, cleaned_to, refusing, zeroed, written, writing, clean_decoded, entries_for, clean_answer}

-- ---- the conditions

-- The bytes before the trailer.
abbrev pub body_of : List ℕ → List ℕ
body_of image = take (body_length image) image

-- What the image alone is refused for, past 1: 4; "then 5 to 10 at the earliest place", where reading from the left stops, with `left` bytes from that place on; then 11.
pub data ImageRefuses (image : List ℕ) : ℕ → ℕ → Type 0 where
  by_4 : pointed image ≡ false → ImageRefuses image 4 0
  by_5_to_10 : {number left : ℕ} → pointed image ≡ true → run Stack.body 0 (body_of image) ≡ Read.refused number left → ImageRefuses image number (body_length image - left)
  by_11 : {w : Program} → pointed image ≡ true → run Stack.body 0 (body_of image) ≡ Read.value w → agrees image w ≡ false → ImageRefuses image 11 0

-- None of 1, 2 and 3.
pub record Lends (image : List ℕ) (l : Lent) : Type 0 where
  pub size : sized image ≡ true
  pub output : length image ≤ length l.output
  pub work : entries_for image ≤ length l.work

-- Clean's refusals, each on its condition where no earlier one holds: "Order: 1, 2, 3, 4; then 5 to 10 [..]; then 11, [..] 12."
pub data CleanRefuses (image : List ℕ) (l : Lent) : ℕ → ℕ → Type 0 where
  by_1 : sized image ≡ false → CleanRefuses image l 1 0
  by_2 : sized image ≡ true → length l.output < length image → CleanRefuses image l 2 0
  by_3 : sized image ≡ true → length image ≤ length l.output → length l.work < entries_for image → CleanRefuses image l 3 0
  by_4_to_11 : {n p : ℕ} → Lends image l → ImageRefuses image n p → CleanRefuses image l n p
  by_12 : {w : Program} → Lends image l → decode image ≡ Answer.accepted w → length l.report < length (format_clean_report (clean_report w)) → CleanRefuses image l 12 (length (format_clean_report (clean_report w)))

-- No condition holds, and w is the image's program.
pub record CleanAccepts (image : List ℕ) (l : Lent) (w : Program) : Type 0 where
  pub lends : Lends image l
  pub accepted : decode image ≡ Answer.accepted w
  pub report : length (format_clean_report (clean_report w)) ≤ length l.report

-- Overlap's refusals: "Overlap never gives 2, 3 or 12." "13 (overlap): a sentence number not below the sentence count", which the trailer has.
pub data OverlapRefuses (image : List ℕ) (first second : ℕ) : ℕ → ℕ → Type 0 where
  by_1 : sized image ≡ false → OverlapRefuses image first second 1 0
  by_4_to_11 : {n p : ℕ} → sized image ≡ true → ImageRefuses image n p → OverlapRefuses image first second n p
  by_13 : {w : Program} → decode image ≡ Answer.accepted w → (sentence_field image ≤ first) ⊎ (sentence_field image ≤ second) → OverlapRefuses image first second 13 0

-- The numbers name sentences x and y of an accepted image.
pub record OverlapAccepts (image : List ℕ) (first second : ℕ) (x y : Sentence) : Type 0 where
  pub program : Program
  pub accepted : decode image ≡ Answer.accepted program
  pub first-is : get_elem? (own_sentences program.functions) first ≡ some x
  pub second_is : get_elem? (own_sentences program.functions) second ≡ some y

-- ---- the image alone

pub image_refused : (image : List ℕ) (n p : ℕ) → sized image ≡ true → ImageRefuses image n p → decode image ≡ Answer.refused n p
unfolding decode decode_sized settled
image_refused image _ _ h (ImageRefuses.by_4 k) = rw (h, k)
image_refused image _ _ h (ImageRefuses.by_5_to_10 k e) = rw (h, k, e)
image_refused image _ _ h (ImageRefuses.by_11 k e a) = rw (h, k, e, a)

-- The number is 4, 5 to 10 or 11.
pub image_number : (image : List ℕ) (n p : ℕ) → ImageRefuses image n p → (4 ≤ n) × (n ≤ 11)
image_number image _ _ (ImageRefuses.by_4 k) = (omega arith, omega arith)
image_number image _ _ (ImageRefuses.by_5_to_10 {number} {left} k e) = let h = refusals_listed (body_of image) Stack.body number left e in (omega (arith, h.0), omega (arith, h.1))
image_number image _ _ (ImageRefuses.by_11 k e a) = (omega arith, omega arith)

-- An image of some size is refused or accepted.
abbrev pub ImageCase : List ℕ → Type 0
ImageCase image = ((n : ℕ) × (p : ℕ) × ImageRefuses image n p) ⊎ ((w : Program) × (decode image ≡ Answer.accepted w))

pub image_case : (image : List ℕ) → sized image ≡ true → ImageCase image
image_case image h = pointing (pointed image) refl
  where
    agreeing : pointed image ≡ true → (w : Program) → run Stack.body 0 (body_of image) ≡ Read.value w → (t : Bool) → agrees image w ≡ t → ImageCase image
    agreeing k w e true a = inr (w, unfold decode decode_sized settled in rw (h, k, e, a))
    agreeing k w e false a = inl (11, 0, ImageRefuses.by_11 k e a)

    reading : pointed image ≡ true → (r : Read Program) → run Stack.body 0 (body_of image) ≡ r → ImageCase image
    reading k (Read.refused n l) e = inl (n, body_length image - l, ImageRefuses.by_5_to_10 k e)
    reading k (Read.value w) e = agreeing k w e (agrees image w) refl

    pointing : (t : Bool) → pointed image ≡ t → ImageCase image
    pointing true k = reading k (run Stack.body 0 (body_of image)) refl
    pointing false k = inl (4, 0, ImageRefuses.by_4 k)

-- ---- Clean

-- "A refusal [..] changes no lent memory, with one exception at 12": "work becomes zero".
unfoldable pub untouched : ℕ → Lent → Lent
untouched n l = record { output = l.output; work = cond (eqb n 12) (zeroed l.work) l.work; report = l.report }

module _ (image : List ℕ) (l : Lent) where
  lent_decoded : Lends image l → clean_answer image l ≡ clean_decoded (decode image) l
  unfolding clean_answer
  lent_decoded h = rw (h.size, le-ltb (length l.output) (length image) h.output, le-ltb (length l.work) (entries_for image) h.work)

  not_12 : (n : ℕ) → n ≤ 11 → eqb n 12 ≡ false
  not_12 n h = by (eqb n 12) refl
    where
      by : (t : Bool) → eqb n 12 ≡ t → eqb n 12 ≡ false
      by true e = absurd (let k = eqb-true n 12 e in omega (arith, h, k))
      by false e = e

  untouched_before_12 : (n : ℕ) → n ≤ 11 → untouched n l ≡ l
  unfolding untouched
  untouched_before_12 n h = rw (not_12 n h)

  refused_as_is : (n p : ℕ) → decode image ≡ Answer.refused n p → clean_decoded (decode image) l ≡ record { answer = clean_refused n p; lent = l }
  unfolding clean_decoded refusing
  refused_as_is n p e = rw e

  pub clean_refuses : (n p : ℕ) → CleanRefuses image l n p → clean_answer image l ≡ record { answer = clean_refused n p; lent = untouched n l }
  unfolding refusing untouched
  clean_refuses _ _ (CleanRefuses.by_1 h) = unfold clean_answer in rw h
  clean_refuses _ _ (CleanRefuses.by_2 h k) = unfold clean_answer in rw (h, lt-ltb (length l.output) (length image) k)
  clean_refuses _ _ (CleanRefuses.by_3 h k u) = unfold clean_answer in rw (h, le-ltb (length l.output) (length image) k, lt-ltb (length l.work) (entries_for image) u)
  clean_refuses n p (CleanRefuses.by_4_to_11 h k) =
      lent_decoded h ∙ (refused_as_is n p (image_refused image n p h.size k) ∙ ap (λ (x : Lent). record { answer = clean_refused n p; lent = x }) (sym (untouched_before_12 n (image_number image n p k).1)))
  clean_refuses _ _ (CleanRefuses.by_12 {w} h k u) = lent_decoded h ∙ unfold clean_decoded writing in rw (k, lt-ltb (length l.report) (length (format_clean_report (clean_report w))) u)

  pub clean_accepts : (w : Program) → CleanAccepts image l w
      → clean_answer image l
      ≡ record { answer = cleaned_to (length (encode (clean_residual_program w))) (length (format_clean_report (clean_report w))); lent = record { output = written (encode (clean_residual_program w)) l.output; work = zeroed l.work; report = written (format_clean_report (clean_report w)) l.report } }
  unfolding clean_decoded writing
  clean_accepts w h = lent_decoded h.lends ∙ rw (h.accepted, le-ltb (length l.report) (length (format_clean_report (clean_report w))) h.report)

  -- Every call is one of these.
  abbrev CleanCase : Type 0
  CleanCase = ((n : ℕ) × (p : ℕ) × CleanRefuses image l n p) ⊎ ((w : Program) × CleanAccepts image l w)

  pub clean_case : CleanCase
  clean_case = sizing (sized image) refl
    where
      reporting : Lends image l → (w : Program) → decode image ≡ Answer.accepted w → (t : Bool) → ltb (length l.report) (length (format_clean_report (clean_report w))) ≡ t → CleanCase
      reporting h w e true k = inl (12, length (format_clean_report (clean_report w)), CleanRefuses.by_12 h e (ltb-true _ _ k))
      reporting h w e false k = inr (w, record { lends = h; accepted = e; report = ltb-false _ _ k })

      decoding : Lends image l → ImageCase image → CleanCase
      decoding h (inl k) = inl (k.0, k.1, CleanRefuses.by_4_to_11 h k.2)
      decoding h (inr k) = reporting h k.0 k.1 (ltb (length l.report) (length (format_clean_report (clean_report k.0)))) refl

      working : sized image ≡ true → length image ≤ length l.output → (t : Bool) → ltb (length l.work) (entries_for image) ≡ t → CleanCase
      working h k true e = inl (3, 0, CleanRefuses.by_3 h k (ltb-true _ _ e))
      working h k false e = decoding (record { size = h; output = k; work = ltb-false _ _ e }) (image_case image h)

      putting : sized image ≡ true → (t : Bool) → ltb (length l.output) (length image) ≡ t → CleanCase
      putting h true e = inl (2, 0, CleanRefuses.by_2 h (ltb-true _ _ e))
      putting h false e = working h (ltb-false _ _ e) (ltb (length l.work) (entries_for image)) refl

      sizing : (t : Bool) → sized image ≡ t → CleanCase
      sizing true h = putting h (ltb (length l.output) (length image)) refl
      sizing false h = inl (1, 0, CleanRefuses.by_1 h)

  pub clean_number : (n p : ℕ) → CleanRefuses image l n p → (1 ≤ n) × (n ≤ 12)
  clean_number _ _ (CleanRefuses.by_1 h) = (omega arith, omega arith)
  clean_number _ _ (CleanRefuses.by_2 h k) = (omega arith, omega arith)
  clean_number _ _ (CleanRefuses.by_3 h k u) = (omega arith, omega arith)
  clean_number n p (CleanRefuses.by_4_to_11 h k) = let u = image_number image n p k in (omega (arith, u.0), omega (arith, u.1))
  clean_number _ _ (CleanRefuses.by_12 h k u) = (omega arith, omega arith)

-- ---- Overlap

-- The trailer's sentence count is the number of the functions' sentences.
both : (t u : Bool) → pick t u false ≡ true → (t ≡ true) × (u ≡ true)
both true u e = (refl, e)
both false u e = absurd (let y : ◌≡◌ {A = ℕ} 0 1 = cc in omega arith)

agreeing_count : (image : List ℕ) (w : Program) → agrees image w ≡ true → sentence_field image ≡ own_sentence_count w.functions
unfolding agrees
agreeing_count image w e =
    let counts : Bool = pick (eqb (function_field image) (length w.functions)) (eqb (sentence_field image) (own_sentence_count w.functions)) false in
    let h = both (eqb (to_functions image) (length (put_functions w.functions))) counts e in
    let k = both (eqb (function_field image) (length w.functions)) (eqb (sentence_field image) (own_sentence_count w.functions)) h.1 in
    eqb-true (sentence_field image) (own_sentence_count w.functions) k.1

-- The counts agree with the program of an answer.
abbrev Agreeing : List ℕ → Answer → Type 0
Agreeing image (Answer.refused n p) = Unit {0}
Agreeing image (Answer.accepted v) = agrees image v ≡ true

module _ (image : List ℕ) where
  counts_agree : (v : Program) (t : Bool) → agrees image v ≡ t → Agreeing image (pick t (Answer.accepted v) (Answer.refused 11 0))
  counts_agree v true a = a
  counts_agree v false a = tt

  settled-agrees : (r : Read Program) → Agreeing image (settled image r)
  unfolding settled
  settled-agrees (Read.refused n l) = tt
  settled-agrees (Read.value v) = counts_agree v (agrees image v) refl

  pointed-agrees : (t : Bool) → Agreeing image (pick t (settled image (run Stack.body 0 (body_of image))) (Answer.refused 4 0))
  pointed-agrees true = settled-agrees (run Stack.body 0 (body_of image))
  pointed-agrees false = tt

  sized-agrees : (t : Bool) → Agreeing image (pick t (decode_sized image) (Answer.refused 1 0))
  unfolding decode_sized
  sized-agrees true = pointed-agrees (pointed image)
  sized-agrees false = tt

  decoded_agrees : Agreeing image (decode image)
  unfolding decode
  decoded_agrees = sized-agrees (sized image)

  decoded_count : (w : Program) → decode image ≡ Answer.accepted w → sentence_field image ≡ own_sentence_count w.functions
  decoded_count w e = agreeing_count image w (subst (Agreeing image) e decoded_agrees)

-- A list has an element of a number exactly if the number is below its length.
beyond : {A : Type 0} (l : List A) (n : ℕ) → length l ≤ n → get_elem? l n ≡ none
beyond [] n h = refl
beyond (x ∷ l) ℕ.zero h = absurd (omega (arith, h))
beyond (x ∷ l) (ℕ.suc n) h = beyond l n (omega (arith, h))

beyond_only : {A : Type 0} (l : List A) (n : ℕ) → get_elem? l n ≡ none → length l ≤ n
beyond_only [] n e = omega arith
beyond_only (x ∷ l) ℕ.zero e = absurd (let y : ◌≡◌ {A = ℕ} 0 1 = cc in omega arith)
beyond_only (x ∷ l) (ℕ.suc n) e = let h = beyond_only l n e in omega (arith, h)

sentence-at : {A : Type 0} (l : List A) (n : ℕ) → n < length l → (x : A) × (get_elem? l n ≡ some x)
sentence-at [] n h = absurd (omega (arith, h))
sentence-at (x ∷ l) ℕ.zero h = (x, refl)
sentence-at (x ∷ l) (ℕ.suc n) h = sentence-at l n (omega (arith, h))

module _ (image : List ℕ) (first second : ℕ) where
  pub own_beyond : (w : Program) → decode image ≡ Answer.accepted w → (n : ℕ) → sentence_field image ≤ n → get_elem? (own_sentences w.functions) n ≡ none
  own_beyond w e n h = beyond (own_sentences w.functions) n (let k = own-counted w.functions in let u = decoded_count image w e in omega (arith, h, k, u))

  second_beyond : (x y : Option Sentence) → y ≡ none → compare_found x y ≡ overlap_refused 13 0
  unfolding compare_found
  second_beyond none y e = refl
  second_beyond (some x) y e = rw e

  pub overlap_refuses : (n p : ℕ) → OverlapRefuses image first second n p → overlap_answer image first second ≡ overlap_refused n p
  unfolding overlap_answer overlap_of compare_sentences
  overlap_refuses _ _ (OverlapRefuses.by_1 h) = unfold decode in rw h
  overlap_refuses n p (OverlapRefuses.by_4_to_11 h k) = rw (image_refused image n p h k)
  overlap_refuses _ _ (OverlapRefuses.by_13 {w} e (inl h)) = rw e (unfold compare_found in rw (own_beyond w e first h))
  overlap_refuses _ _ (OverlapRefuses.by_13 {w} e (inr h)) = rw e (second_beyond (get_elem? (own_sentences w.functions) first) (get_elem? (own_sentences w.functions) second) (own_beyond w e second h))

  pub overlap_accepts : (x y : Sentence) → OverlapAccepts image first second x y → overlap_answer image first second ≡ compare_patterns x.pattern y.pattern
  unfolding overlap_answer overlap_of compare_sentences compare_found
  overlap_accepts x y h = rw (h.accepted, h.first-is, h.second_is)

  abbrev OverlapCase : Type 0
  OverlapCase = ((n : ℕ) × (p : ℕ) × OverlapRefuses image first second n p) ⊎ ((x : Sentence) × (y : Sentence) × OverlapAccepts image first second x y)

  pub overlap_case : OverlapCase
  overlap_case = sizing (sized image) refl
    where
      naming : (w : Program) → decode image ≡ Answer.accepted w → (t u : Bool) → ltb first (sentence_field image) ≡ t → ltb second (sentence_field image) ≡ u → OverlapCase
      naming w e false u h k = inl (13, 0, OverlapRefuses.by_13 e (inl (ltb-false _ _ h)))
      naming w e true false h k = inl (13, 0, OverlapRefuses.by_13 e (inr (ltb-false _ _ k)))
      naming w e true true h k =
          let c = own-counted w.functions in let d = decoded_count image w e in
          let x = sentence-at (own_sentences w.functions) first (let z = ltb-true first (sentence_field image) h in omega (arith, z, c, d)) in
          let y = sentence-at (own_sentences w.functions) second (let z = ltb-true second (sentence_field image) k in omega (arith, z, c, d)) in
          inr (x.0, y.0, record { program = w; accepted = e; first-is = x.1; second_is = y.1 })

      decoding : sized image ≡ true → ImageCase image → OverlapCase
      decoding h (inl k) = inl (k.0, k.1, OverlapRefuses.by_4_to_11 h k.2)
      decoding h (inr k) = naming k.0 k.1 (ltb first (sentence_field image)) (ltb second (sentence_field image)) refl refl

      sizing : (t : Bool) → sized image ≡ t → OverlapCase
      sizing true h = decoding h (image_case image h)
      sizing false h = inl (1, 0, OverlapRefuses.by_1 h)

  pub overlap_number : (n p : ℕ) → OverlapRefuses image first second n p → (n ≡ 1) ⊎ ((4 ≤ n) × (n ≤ 11)) ⊎ (n ≡ 13)
  overlap_number _ _ (OverlapRefuses.by_1 h) = inl refl
  overlap_number n p (OverlapRefuses.by_4_to_11 h k) = inr (inl (image_number image n p k))
  overlap_number _ _ (OverlapRefuses.by_13 e h) = inr (inr refl)
