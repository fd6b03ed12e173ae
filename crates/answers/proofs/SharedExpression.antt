-- The expression that matches both patterns: when it is refused, what is written otherwise, and that the answer fits its bits.
use Prim.Native.Nat.{ℕ, zero, suc, ◌+◌, ◌*◌, ◌<◌, ◌≤◌}
use native.Mathlib.Omega.{arith}
use mathlib.Core.Path.{◌≡◌, refl, sym, ap, subst, ◌∙◌}
use mathlib.Core.Logic.{◌⊎◌, inl, inr}
use mathlib.Core.Bool.{Bool, true, false}
use mathlib.Core.List.{List, [], ◌∷◌, ◌++◌}
use mathlib.Core.Option.{Option, none, some}
use lib.Dec.{ltb}
use lib.ListN.{length, length-append, get_elem?}
use borrow.Author.Tests.{ltb-true, ltb-false, lt-ltb, le-ltb}
use Rattle.std.specs.Prelude.{Ok}
use Rattle.program.specs.Syntax.{Terms, Sentences, Function}
use Rattle.program.specs.Bytes.{Bytes, put_name}
use Rattle.program.specs.Encode.{put_terms, put_conditions, put_sentences, visibility_byte, put_function, put_functions}
use Rattle.program.specs.Decode.{decode}
use Rattle.program.specs.Sentences.{Sentence, sentence_list, own_sentences}
use Rattle.program.proofs.Lengths.{span-length, name-length, head-length, terms-length, conditions-length, sentences-length, body-length, encode-length}
use Rattle.program.proofs.Splits.{terms-splits}
use Rattle.program.proofs.RoundTrip.{encode-decode}
use Rattle.program.proofs.Own.{numbered-valid}
use Rattle.patterns.specs.declared.Verdict.{Verdict}
use Rattle.patterns.specs.declared.Verdict.TheVariants.{Disjoint, Overlap, Unknown}
use Rattle.patterns.specs.Expression.{Expression}
use Rattle.patterns.specs.Marks.{put_expression}
use Rattle.patterns.specs.Search.{patterns_overlap, start, spent}
use Rattle.patterns.specs.Meet.{meet}
use Rattle.patterns.proofs.Fuel.{spent_and_left}
use Rattle.patterns.proofs.Marks.{Coded}
use Rattle.patterns.proofs.MeetBytes.{terms_bytes, valid_coded, Within, meet_within}
use Rattle.answers.specs.ExpressionAnswers.{ExpressionAnswer}
use Rattle.answers.specs.Answers.{verdict_number}
use Rattle.answers.specs.CleanAnswers.{written}
use Rattle.answers.specs.Packed.{overlap_fields, Fit}
use Rattle.answers.specs.ExpressionAnswers.{ExpressionLeft, expression_refused, refusing_expression, of_verdict, shared_expression, share_patterns, share_found, share_sentences, share_of, expression_answer, expression_values, expression_fields}
use Rattle.answers.proofs.Exactly.{image_refused, OverlapRefuses, OverlapAccepts, own_beyond, overlap_refuses, overlap_case, overlap_number}
use Rattle.answers.proofs.Fitting.{OverlapFits, overlap_fits, accepted-small}

-- ---- the conditions

-- Overlap's refusals, and then "Refusal 17, after 13, is a lent slice shorter than the expression."
pub data ExpressionRefuses (image : List ℕ) (first second : ℕ) (lent : List ℕ) : ℕ → ℕ → Type 0 where
  as_overlap : {n p : ℕ} → OverlapRefuses image first second n p → ExpressionRefuses image first second lent n p
  by_17 : {x y : Sentence} → OverlapAccepts image first second x y → patterns_overlap x.pattern y.pattern ≡ Overlap → length lent < length (put_expression (meet x.pattern y.pattern) []) → ExpressionRefuses image first second lent 17 0

-- No condition holds, and the numbers name the sentences x and y.
pub record ExpressionAccepts (image : List ℕ) (first second : ℕ) (lent : List ℕ) (x y : Sentence) : Type 0 where
  pub compares : OverlapAccepts image first second x y
  pub fits : length (shared_expression x.pattern y.pattern) ≤ length lent

-- What is answered then, with the lent slice.
abbrev pub shared : Terms → Terms → List ℕ → ExpressionLeft
shared a b lent = record {
  answer = Ok (record { verdict = patterns_overlap a b; spent = spent a b; length = length (shared_expression a b) });
  lent = written (shared_expression a b) lent;
}

-- ---- what is written

pub overlap_shared : (a b : Terms) → patterns_overlap a b ≡ Overlap → shared_expression a b ≡ put_expression (meet a b) []
unfolding shared_expression of_verdict
overlap_shared a b e = ap (λ (v : Verdict). of_verdict v (meet a b)) e

-- Something is written for Overlap only.
overlap_only : (v : Verdict) (m : Expression) (n : ℕ) → n < length (of_verdict v m) → (v ≡ Overlap) × (n < length (put_expression m []))
unfolding of_verdict
overlap_only Disjoint m n l = absurd (omega (arith, l))
overlap_only Overlap m n l = (refl, l)
overlap_only Unknown m n l = absurd (omega (arith, l))

-- ---- the cases

module _ (image : List ℕ) (first second : ℕ) (lent : List ℕ) where
  second_none : (x y : Option Sentence) → y ≡ none → share_found x y lent ≡ refusing_expression 13 0 lent
  unfolding share_found
  second_none none y e = refl
  second_none (some x) y e = rw e

  accepted-found : (x y : Sentence) → OverlapAccepts image first second x y → expression_answer image first second lent ≡ share_patterns x.pattern y.pattern lent
  unfolding expression_answer share_of share_sentences share_found
  accepted-found x y h = rw (h.accepted, h.first-is, h.second_is)

  as_refused : (n p : ℕ) → OverlapRefuses image first second n p → expression_answer image first second lent ≡ refusing_expression n p lent
  unfolding expression_answer share_of share_sentences
  as_refused _ _ (OverlapRefuses.by_1 h) = unfold decode in rw h
  as_refused n p (OverlapRefuses.by_4_to_11 h k) = rw (image_refused image n p h k)
  as_refused _ _ (OverlapRefuses.by_13 {w} e (inl h)) = rw e (unfold share_found in rw (own_beyond image first second w e first h))
  as_refused _ _ (OverlapRefuses.by_13 {w} e (inr h)) = rw e (second_none (get_elem? (own_sentences w.functions) first) (get_elem? (own_sentences w.functions) second) (own_beyond image first second w e second h))

  pub expression_refuses : (n p : ℕ) → ExpressionRefuses image first second lent n p → expression_answer image first second lent ≡ record { answer = expression_refused n p; lent = lent }
  unfolding refusing_expression
  expression_refuses n p (ExpressionRefuses.as_overlap h) = as_refused n p h
  expression_refuses _ _ (ExpressionRefuses.by_17 {x} {y} h e l) =
      accepted-found x y h
      ∙ (unfold share_patterns in rw (lt-ltb (length lent) (length (shared_expression x.pattern y.pattern)) (omega (arith, l, ap length (overlap_shared x.pattern y.pattern e)))))

  pub expression_accepts : (x y : Sentence) → ExpressionAccepts image first second lent x y → expression_answer image first second lent ≡ shared x.pattern y.pattern lent
  unfolding share_patterns
  expression_accepts x y h = accepted-found x y h.compares ∙ rw (le-ltb (length lent) (length (shared_expression x.pattern y.pattern)) h.fits)

  abbrev pub ExpressionCase : Type 0
  ExpressionCase = ((n : ℕ) × (p : ℕ) × ExpressionRefuses image first second lent n p) ⊎ ((x : Sentence) × (y : Sentence) × ExpressionAccepts image first second lent x y)

  pub expression-case : ExpressionCase
  expression-case = by (overlap_case image first second)
    where
      lending : (x y : Sentence) → OverlapAccepts image first second x y → (t : Bool) → ltb (length lent) (length (shared_expression x.pattern y.pattern)) ≡ t → ExpressionCase
      lending x y h true e =
          let k = overlap_only (patterns_overlap x.pattern y.pattern) (meet x.pattern y.pattern) (length lent) (unfold shared_expression in ltb-true _ _ e) in
          inl (17, 0, ExpressionRefuses.by_17 h k.0 k.1)
      lending x y h false e = inr (x, y, record { compares = h; fits = ltb-false _ _ e })

      by : ((n : ℕ) × (p : ℕ) × OverlapRefuses image first second n p) ⊎ ((x : Sentence) × (y : Sentence) × OverlapAccepts image first second x y) → ExpressionCase
      by (inl k) = inl (k.0, k.1, ExpressionRefuses.as_overlap k.2)
      by (inr k) = lending k.0 k.1 k.2 (ltb (length lent) (length (shared_expression k.0.pattern k.1.pattern))) refl

  -- There is no other number.
  pub expression-number : (n p : ℕ) → ExpressionRefuses image first second lent n p → (n ≡ 1) ⊎ ((4 ≤ n) × (n ≤ 11)) ⊎ ((n ≡ 13) ⊎ (n ≡ 17))
  expression-number n p (ExpressionRefuses.as_overlap h) = more (overlap_number image first second n p h)
    where
      more : (n ≡ 1) ⊎ ((4 ≤ n) × (n ≤ 11)) ⊎ (n ≡ 13) → (n ≡ 1) ⊎ ((4 ≤ n) × (n ≤ 11)) ⊎ ((n ≡ 13) ⊎ (n ≡ 17))
      more (inl k) = inl k
      more (inr (inl k)) = inr (inl k)
      more (inr (inr k)) = inr (inr (inl k))
  expression-number _ _ (ExpressionRefuses.by_17 h e l) = inr (inr (inr refl))

  -- ---- the numbers tell the case

  some_number_lem : (n : ℕ) → (n ≡ 1) ⊎ ((4 ≤ n) × (n ≤ 11)) ⊎ ((n ≡ 13) ⊎ (n ≡ 17)) → 1 ≤ n
  some_number_lem n (inl h) = omega (arith, h)
  some_number_lem n (inr (inl h)) = omega (arith, h.0)
  some_number_lem n (inr (inr (inl h))) = omega (arith, h)
  some_number_lem n (inr (inr (inr h))) = omega (arith, h)

  abbrev number : ℕ
  number = (expression_values (expression_answer image first second lent).answer).number

  abbrev place : ℕ
  place = (expression_values (expression_answer image first second lent).answer).place

  refused-number : (n p : ℕ) → ExpressionRefuses image first second lent n p → (number ≡ n) × (place ≡ p)
  unfolding expression_values
  refused-number n p h =
      (ap (λ (x : ExpressionLeft). (expression_values x.answer).number) (expression_refuses n p h), ap (λ (x : ExpressionLeft). (expression_values x.answer).place) (expression_refuses n p h))

  accepted-number : (x y : Sentence) → ExpressionAccepts image first second lent x y → number ≡ 0
  unfolding expression_values
  accepted-number x y h = ap (λ (z : ExpressionLeft). (expression_values z.answer).number) (expression_accepts x y h)

  pub expression-told : (n p : ℕ) → 1 ≤ n → ((number ≡ n) × (place ≡ p) → ExpressionRefuses image first second lent n p) × (ExpressionRefuses image first second lent n p → (number ≡ n) × (place ≡ p))
  expression-told n p low = (λ e. by e expression-case, refused-number n p)
    where
      by : (number ≡ n) × (place ≡ p) → ExpressionCase → ExpressionRefuses image first second lent n p
      by e (inl k) =
          let f = refused-number k.0 k.1 k.2 in
          subst (λ (m : ℕ). ExpressionRefuses image first second lent m p) (sym f.0 ∙ e.0) (subst (λ (q : ℕ). ExpressionRefuses image first second lent k.0 q) (sym f.1 ∙ e.1) k.2)
      by e (inr k) = absurd (omega (arith, low, e.0, accepted-number k.0 k.1 k.2))

  pub expression_zero : (number ≡ 0 → (x : Sentence) × (y : Sentence) × ExpressionAccepts image first second lent x y) × ((x : Sentence) × (y : Sentence) × ExpressionAccepts image first second lent x y → number ≡ 0)
  expression_zero = (λ e. by e expression-case, λ k. accepted-number k.0 k.1 k.2)
    where
      by : number ≡ 0 → ExpressionCase → (x : Sentence) × (y : Sentence) × ExpressionAccepts image first second lent x y
      by e (inl k) = absurd (omega (arith, e, (refused-number k.0 k.1 k.2).0, some_number_lem k.0 (expression-number k.0 k.1 k.2)))
      by e (inr k) = k

-- ---- a pattern is no longer than the image that it stands in

abbrev AllShort : ℕ → List Sentence → Type 0
AllShort n [] = Unit {0}
AllShort n (x ∷ xs) = (terms_bytes x.pattern ≤ n) × AllShort n xs

short-append : (n : ℕ) (xs ys : List Sentence) → AllShort n xs → AllShort n ys → AllShort n (xs ++ ys)
short-append n [] ys h k = k
short-append n (x ∷ xs) ys h k = (h.0, short-append n xs ys h.1 k)

sentences-short : (b : Sentences) (k : List ℕ) (n : ℕ) → length (put_sentences b k) ≤ n → AllShort n (sentence_list b)
unfolding sentence_list put_sentences
sentences-short Sentences.empty k n l = tt
sentences-short (Sentences.sentence h p c r b) k n l =
    let rest = put_conditions c (12 ∷ put_terms r (put_sentences b k)) in (
      omega (arith, l, head-length h (put_terms p rest), ap length (terms-splits p rest), length-append (put_terms p []) rest),
      sentences-short b k n (omega (arith, l, head-length h (put_terms p rest), terms-length p rest, conditions-length c (12 ∷ put_terms r (put_sentences b k)), terms-length r (put_sentences b k))),
    )

own-short : (fs : List Function) (n : ℕ) → length (put_functions fs) ≤ n → AllShort n (own_sentences fs)
unfolding own_sentences put_functions put_function
own-short [] n l = tt
own-short (f ∷ fs) n l =
    let k = put_sentences f.sentences (put_functions fs) in
    short-append n (sentence_list f.sentences) (own_sentences fs) (sentences-short f.sentences (put_functions fs) n (omega (arith, l, span-length f.span (visibility_byte f.visibility ∷ put_name f.name k), name-length f.name k)))
    (own-short fs n (omega (arith, l, span-length f.span (visibility_byte f.visibility ∷ put_name f.name k), name-length f.name k, sentences-length f.sentences (put_functions fs))))

some-short : (n : ℕ) (xs : List Sentence) (i : ℕ) (x : Sentence) → AllShort n xs → get_elem? xs i ≡ some x → terms_bytes x.pattern ≤ n
some-short n [] i x h e = absurd (let z : ◌≡◌ {A = ℕ} 0 1 = cc in omega arith)
some-short n (y ∷ xs) zero x h e = let q : y ≡ x = cc in subst (λ (z : Sentence). terms_bytes z.pattern ≤ n) q h.0
some-short n (y ∷ xs) (suc i) x h e = some-short n xs i x h.1 e

-- ---- the answer fits its bits

verdict-low : (v : Verdict) → verdict_number v < 4
unfolding verdict_number
verdict-low Disjoint = omega arith
verdict-low Overlap = omega arith
verdict-low Unknown = omega arith

verdict-short : (v : Verdict) (m : Expression) → length (of_verdict v m) ≤ length (put_expression m [])
unfolding of_verdict
verdict-short Disjoint m = omega arith
verdict-short Overlap m = omega arith
verdict-short Unknown m = omega arith

module _ (image : List ℕ) (bytes : Bytes image) (first second : ℕ) where
  module _ (x y : Sentence) (h : OverlapAccepts image first second x y) where
    -- An image is at most 32,768 bytes long, and so are its patterns.
    fits_image : (n : ℕ) (z : Sentence) → get_elem? (own_sentences h.program.functions) n ≡ some z → terms_bytes z.pattern ≤ 32768
    fits_image n z e =
        let w = h.program in
        let d = encode-decode image w bytes h.accepted in
        let l : length (put_functions w.functions) ≤ 32768 = omega (arith, ap length d.0, encode-length w, body-length w, accepted-small image w h.accepted) in
        some-short 32768 (own_sentences w.functions) n z (own-short w.functions 32768 l) e

    coded : Within (2 * (terms_bytes x.pattern + terms_bytes y.pattern)) (meet x.pattern y.pattern)
    unfolding meet
    coded =
        let v = (encode-decode image h.program bytes h.accepted).1.0.1 in
        meet_within x.pattern y.pattern false start (valid_coded x.pattern 0 (numbered-valid h.program.functions v first x h.first-is)) (valid_coded y.pattern 0 (numbered-valid h.program.functions v second y h.second_is))

    -- The expression has 32-bit codes, and at most four times the bytes of the longest image.
    pub meeting_coded : Coded (meet x.pattern y.pattern)
    meeting_coded = coded.coded

    pub shared_short : length (shared_expression x.pattern y.pattern) ≤ 131072
    unfolding shared_expression
    shared_short = omega (arith, verdict-short (patterns_overlap x.pattern y.pattern) (meet x.pattern y.pattern), coded.short, fits_image first x h.first-is, fits_image second y h.second_is)

  module _ (lent : List ℕ) where
    abbrev pub ExpressionFits : ExpressionAnswer → Type 0
    ExpressionFits r = Fit (expression_fields r)

    pub expression-fits : ExpressionFits (expression_answer image first second lent).answer
    unfolding expression_fields overlap_fields
    expression-fits = by (expression-case image first second lent)
      where
        refusal-fits : (n p : ℕ) → ExpressionRefuses image first second lent n p → ExpressionFits (expression_refused n p)
        refusal-fits n p (ExpressionRefuses.as_overlap h) = let k = subst OverlapFits (overlap_refuses image first second n p h) (overlap_fits image first second) in record { number_fits = k.number_fits; middle-fits = omega arith; rest-fits = k.rest-fits }
        refusal-fits _ _ (ExpressionRefuses.by_17 h e l) = record { number_fits = omega arith; middle-fits = omega arith; rest-fits = omega arith }

        by : ExpressionCase image first second lent → ExpressionFits (expression_answer image first second lent).answer
        by (inl k) = subst (λ (z : ExpressionLeft). ExpressionFits z.answer) (sym (expression_refuses image first second lent k.0 k.1 k.2)) (refusal-fits k.0 k.1 k.2)
        by (inr k) =
            subst (λ (z : ExpressionLeft). ExpressionFits z.answer) (sym (expression_accepts image first second lent k.0 k.1 k.2)) (record {
              number_fits = omega arith;
              middle-fits = omega (arith, verdict-low (patterns_overlap k.0.pattern k.1.pattern), spent_and_left k.0.pattern k.1.pattern);
              rest-fits = omega (arith, shared_short k.0 k.1 k.2.compares);
            })
