-- What is delivered: the cleaned program by its marks, the report by its rounds.
use Prim.Native.Nat.{ℕ, suc, ◌+◌, ◌-◌, ◌≤◌, ◌<◌}
use native.Mathlib.Omega.{arith}
use mathlib.Core.Path.{◌≡◌, refl, sym, ap, ap₂, subst, ◌∙◌}
use mathlib.Core.Bool.{Bool, ◌&&◌, ◌||◌, or-false}
use mathlib.Core.List.{List, [], ◌∷◌, ◌++◌}
use lib.Dec.{eqb}
use lib.ListN.{length, get_or, take, drop, length-drop}
use lib.Seq.{length-take-le, get_or-take, get_or-drop, ext_get_or}
use borrow.Author.Tests.{lt-ltb, le-ltb, lt-leb}
use Rattle.program.specs.Syntax.{Program}
use Rattle.program.specs.Encode.{own_sentence_count, encode}
use Rattle.image.specs.Parts.{Accepted}
use Rattle.program.proofs.Own.{own-counted}
use Rattle.index.specs.declared.Plan.{Plan}
use Rattle.index.specs.Layout.{marks, calls, room}
use Rattle.meaning.specs.Cleaning.{clean_residual_program}
use Rattle.meaning.specs.CleanReport.{clean_report}
use Rattle.told.specs.Kept.{is_kept, kept_functions, kept_program}
use Rattle.told.specs.History.{is_there, start_of}
use Rattle.cleaning.specs.Indexed.{fell_of}
use Rattle.cleaning.specs.Room.{Used}
use Rattle.told.specs.ToldReport.{told_report}
use Rattle.told.proofs.Kept.{kept_same}
use Rattle.told.proofs.History.{told_cleaned}
use Rattle.told.proofs.ToldReport.{told-report}
use Rattle.cleaning.proofs.Room.{used_fell}
use Rattle.output.specs.Marks.{NoneFrom}
use Rattle.output.proofs.Ones.{count-functions, count_le}
use Rattle.meaning.specs.Text.{Text}
use Rattle.text.specs.Fill.{Emitted}
use Rattle.meaning.specs.Report.{format_clean_report}
use Rattle.text.proofs.Fill.{filled-empty}
use Rattle.answers.specs.CleanAnswers.{written}
use Rattle.cleaner.specs.Delivery.{marks_in, Delivery}

module _ {image : List ℕ} (a : Accepted image) {m : List ℕ} (p : Plan) {root n : ℕ} (d : Delivery image a m p root n) {ms : List ℕ} (ms-is : ms ≡ marks_in p m) where
  sentences_are : p.sentences ≡ own_sentence_count a.program.functions
  sentences_are = sym d.removing.readable.indexed.sentences ∙ own-counted a.program.functions

  kept_there : (s : ℕ) → s < own_sentence_count a.program.functions → is_there (fell_of p m) (suc n) s ≡ is_kept ms s
  unfolding is_there
  kept_there s l =
      ap (λ (t : Bool). eqb (fell_of p m s) 0 || t) (lt-leb (suc n) (fell_of p m s) (d.removing.below s))
      ∙ (or-false (eqb (fell_of p m s) 0) ∙ sym (ap (λ (x : List ℕ). is_kept x s) ms-is ∙ (d.marked s ∙ ap (λ (t : Bool). t && eqb (fell_of p m s) 0) (lt-ltb s p.sentences (omega (arith, l, sentences_are))))))

  pub none_from : NoneFrom (is_kept ms) (own_sentence_count a.program.functions)
  none_from s l = ap (λ (x : List ℕ). is_kept x s) ms-is ∙ (d.marked s ∙ ap (λ (t : Bool). t && eqb (fell_of p m s) 0) (le-ltb s p.sentences (omega (arith, l, sentences_are))))

  start_is : start_of a.program (fell_of p m) (suc n) ≡ kept_program (is_kept ms) a.program
  unfolding start_of
  start_is = kept_same (is_there (fell_of p m) (suc n)) (is_kept ms) a.program kept_there

  pub image_told : encode (clean_residual_program a.program) ≡ encode (kept_program (is_kept ms) a.program)
  image_told = ap encode (told_cleaned a.program (fell_of p m) n d.removing.told d.static ∙ start_is)

  pub text-told : format_clean_report (clean_report a.program) ≡ format_clean_report (told_report a.program (fell_of p m) n)
  text-told = ap format_clean_report (told-report a.program (fell_of p m) n d.removing.told d.static)

  pub after-told : own_sentence_count (kept_functions (is_kept ms) 0 a.program.functions) ≡ (told_report a.program (fell_of p m) n).sentences_after
  unfolding told_report kept_program
  after-told = sym (ap (λ (w : Program). own_sentence_count w.functions) start_is)

  pub after-few : own_sentence_count (kept_functions (is_kept ms) 0 a.program.functions) ≤ p.sentences
  after-few = omega (arith, count-functions (is_kept ms) a.program.functions 0, count_le (is_kept ms) (own_sentence_count a.program.functions) 0, sentences_are)

  pub sentences-few : p.sentences < 8192
  sentences-few = omega (arith, d.removing.readable.indexed.fits, d.removing.readable.indexed.small)

-- A part of length 0 holds nothing.
no_length : (l : List ℕ) → length l ≡ 0 → l ≡ []
no_length [] e = refl
no_length (x ∷ l) e = absurd (omega (arith, e))

-- The report when nothing has been written but into parts of no length.
pub still : (part one report : List ℕ) (text : Text) (m : ℕ) → length part ≡ 0 → Emitted [] 0 text m one → one ++ (part ++ report) ≡ report
still part one report text m e f = ap₂ (λ (x y : List ℕ). x ++ (y ++ report)) (f.left ∙ filled-empty text 0) (no_length part e)

pub written_as : (image output output' : List ℕ) (n : ℕ) → n ≡ length image → output' ≡ image ++ drop n output → output' ≡ written image output
unfolding written
written_as image output output' n e f = f ∙ ap (λ (k : ℕ). image ++ drop k output) e

pub marks_are : (m : List ℕ) (p : Plan) {from end : ℕ} → from ≡ marks p → end ≡ calls p → take (end - from) (drop from m) ≡ marks_in p m
marks_are m p {from} d e = ap (λ (k : ℕ). take (k - from) (drop from m)) e ∙ ap (λ (k : ℕ). take (calls p - k) (drop k m)) d

pub marks-same : (p : Plan) (old new : List ℕ) → room p ≤ length old → length new ≡ length old → ((k : ℕ) → marks p ≤ k → k < calls p → get_or new k 0 ≡ get_or old k 0) → marks_in p new ≡ marks_in p old
marks-same p old new h z q =
    let k = calls p - marks p in
    let e : length (take k (drop (marks p) old)) ≡ k = length-take-le k (drop (marks p) old) (omega (arith, h, length-drop (marks p) old)) in
    let f : length (take k (drop (marks p) new)) ≡ k = length-take-le k (drop (marks p) new) (omega (arith, h, z, length-drop (marks p) new)) in
    ext_get_or 0 (marks_in p new) (marks_in p old) (f ∙ sym e)
    (λ i l.
    get_or-take k (drop (marks p) new) i 0 (omega (arith, l, f))
    ∙ (get_or-drop (marks p) new i 0 ∙ (q (marks p + i) (omega arith) (omega (arith, l, f)) ∙ sym (get_or-take k (drop (marks p) old) i 0 (omega (arith, l, f)) ∙ get_or-drop (marks p) old i 0))))

-- ---- verdicts have been asked meanwhile

module _ {p : Plan} {old new : List ℕ} (u : Used p old new) where
  pub marks_used : room p ≤ length old → marks_in p new ≡ marks_in p old
  marks_used h = marks-same p old new h u.length (λ k i l. u.columns k (omega (arith, l)))

  -- A text is told by the rounds in work as by those before.
  pub emitted_used : (w : Program) (n : ℕ) {lent left : List ℕ} {at : ℕ} → Emitted lent 0 (format_clean_report (told_report w (fell_of p new) n)) at left → Emitted lent 0 (format_clean_report (told_report w (fell_of p old) n)) at left
  emitted_used w n {lent} {left} {at} = subst (λ (f : ℕ → ℕ). Emitted lent 0 (format_clean_report (told_report w f n)) at left) (used_fell u)
