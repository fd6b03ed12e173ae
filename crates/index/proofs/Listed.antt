-- The walk that lists functions and sentences: those before it have their entries.
use Prim.Native.Nat.{ℕ, ◌+◌, ◌/◌, ◌%◌, ◌<◌, ◌≤◌}
use native.Mathlib.Omega.{arith}
use native.Mathlib.Nat.{zero-add, mod-eq_of_lt}
use mathlib.Core.Path.{◌≡◌, refl, sym, ap, subst, ◌∙◌}
use mathlib.Core.List.{List, ◌∷◌}
use mathlib.Core.Option.{some}
use lib.ListN.{length, get_or, get_elem?, drop, set, length-set, length-drop}
use lib.Seq.{get_or-set_same, get_or-set_other}
use Rattle.program.specs.Syntax.{Function}
use Rattle.program.specs.Encode.{put_sentences, put_functions}
use Rattle.image.specs.Parts.{Passes, FunctionAt, FunctionsAt}
use Rattle.program.specs.Sentences.{Sentence, own_sentences}
use Rattle.rows.proofs.Readings.{part, part_length}
use Rattle.restrictions.proofs.Going.{from_part}
use Rattle.restrictions.proofs.Bytes.{functions-bytes}
use Rattle.program.proofs.Own.{own-counted}
use Rattle.restrictions.proofs.Places.{Place, FunctionIn, SentenceIn, place_none, place-close, place-function, place_inside, place-sentence, place-later, place-next}
use Rattle.told.specs.Numbered.{sentences_before}
use Rattle.index.specs.Tables.{FunctionEntry, SentenceEntry, FunctionsIn, SentencesIn}
use Rattle.index.proofs.Entries.{below_or_here, element_below, first-left, next-left, before-own, function-entered, sentence-entered}

pub record Listing (b : List ℕ) (from : ℕ) (old : List ℕ) (lines : ℕ) (new : List ℕ) (p f s : ℕ) (h : FunctionsAt (drop from b)) : Type 0 where
  pub rest : List Sentence
  pub more : List Function
  pub place : Place (drop p b) rest more
  pub functions-left : drop f h.functions ≡ more
  pub sentences-left : drop s (own_sentences h.functions) ≡ rest
  pub functions-count : f + length more ≡ length h.functions
  pub sentences-count : s + length rest ≡ length (own_sentences h.functions)
  pub functions_in_lem : (j : ℕ) (x : Function) → get_elem? h.functions j ≡ some x → j < f → FunctionEntry b (get_or new j 0) x (sentences_before j h.functions)
  pub sentences_in_lem : (j : ℕ) (x : Sentence) → get_elem? (own_sentences h.functions) j ≡ some x → j < s → SentenceEntry b (get_or new (lines + j) 0) x
  pub fresh : (j : ℕ) → j < s → get_or new (lines + j) 0 < 32768
  pub size : length new ≡ length old
  pub others : (k : ℕ) → lines + length (own_sentences h.functions) ≤ k → get_or new k 0 ≡ get_or old k 0

pub listing-first : (b : List ℕ) (from : ℕ) (old : List ℕ) (lines : ℕ) (h : FunctionsAt (drop from b)) → Listing b from old lines old from 0 0 h
listing-first b from old lines h = record {
  rest = own_sentences h.functions;
  more = h.functions;
  place = Place.outer h.is h.valid refl;
  functions-left = refl;
  sentences-left = refl;
  functions-count = omega arith;
  sentences-count = omega arith;
  functions_in_lem = λ j x q l. absurd (omega (arith, l));
  sentences_in_lem = λ j x q l. absurd (omega (arith, l));
  fresh = λ j l. absurd (omega (arith, l));
  size = refl;
  others = λ k l. refl;
}

module _ {b : List ℕ} {from : ℕ} {old : List ℕ} {lines : ℕ} {new : List ℕ} {p f s : ℕ} {h : FunctionsAt (drop from b)} (w : Listing b from old lines new p f s h) where
  module _ (l : length b ≤ p) where
    pub listed-functions : FunctionsIn b h.functions new 0
    listed-functions = record { entry = λ j x q. subst (λ (k : ℕ). FunctionEntry b (get_or new k 0) x (sentences_before j h.functions)) (sym (zero-add j)) (w.functions_in_lem j x q (omega (arith, element_below h.functions j q, w.functions-count, ap length (place_none b p w.place l).1))) }

    pub listed-sentences : SentencesIn b (own_sentences h.functions) new lines
    listed-sentences = record { entry = λ j x q. w.sentences_in_lem j x q (omega (arith, element_below (own_sentences h.functions) j q, w.sentences-count, ap length (place_none b p w.place l).0)) }

    -- Above its place an entry of a sentence is empty.
    pub listed-fresh : (j : ℕ) → j < length (own_sentences h.functions) → get_or new (lines + j) 0 < 32768
    listed-fresh j u = w.fresh j (omega (arith, u, w.sentences-count, ap length (place_none b p w.place l).0))

  module _ (l : p < length b) where
    pub listing-close : (get_or b p 0 ≡ 18 → ⊥) → (get_or b p 0 ≡ 10 → ⊥) → Listing b from old lines new (p + 1) f s h
    listing-close m k = record {
      rest = w.rest;
      more = w.more;
      place = place-close b p w.place l m k;
      functions-left = w.functions-left;
      sentences-left = w.sentences-left;
      functions-count = w.functions-count;
      sentences-count = w.sentences-count;
      functions_in_lem = w.functions_in_lem;
      sentences_in_lem = w.sentences_in_lem;
      fresh = w.fresh;
      size = w.size;
      others = w.others;
    }

    -- A sentence's number fits its 12 bits.
    pub listing-small : length b ≤ 32768 → (s < 4096) × (f < 4096)
    listing-small u =
        (omega (arith, u, w.sentences-count, own-counted h.functions, functions-bytes h.functions h.valid, ap length h.is, length-drop from b), omega (arith, u, w.functions-count, functions-bytes h.functions h.valid, ap length h.is, length-drop from b))

    module _ (m : get_or b p 0 ≡ 18) where
      abbrev function-there : FunctionIn (drop p b) w.rest w.more
      function-there = place-function b p w.place l m

      function-left : drop f h.functions ≡ function-there.function ∷ function-there.functions
      function-left = w.functions-left ∙ function-there.first

      pub function-room : length h.functions ≤ lines → f < lines
      function-room u = omega (arith, u, w.functions-count, ap length function-there.first)

      number_is : sentences_before f h.functions ≡ s
      number_is =
          omega (arith, before-own f h.functions, ap (λ (k : List Function). length (own_sentences k)) w.functions-left, w.sentences-count, ap length function-there.all)

      module _ (e : ℕ) (at : e % 32768 ≡ p) (number : e / 32768 % 4096 ≡ s) (i : ℕ) (q : Passes (part b p) i (put_sentences function-there.function.sentences (put_functions function-there.functions))) (fit : f < length new) (room : length h.functions ≤ lines) where
        here-entry : (x : Function) → get_elem? h.functions f ≡ some x → FunctionEntry b (get_or (set new f e) f 0) x (sentences_before f h.functions)
        here-entry x r =
            let y : FunctionAt (drop p b) = record { function = function-there.function; rest = put_functions function-there.functions; is = function-there.is } in
            subst (λ (v : ℕ). FunctionEntry b v x (sentences_before f h.functions)) (sym (get_or-set_same new f e 0 fit))
            (subst (λ (z : Function). FunctionEntry b e z (sentences_before f h.functions)) (first-left h.functions f function-left r)
            (function-entered b e p at y (sentences_before f h.functions) (number ∙ sym number_is)))

        pub listing-function : Listing b from old lines (set new f e) (p + i) (f + 1) s h
        listing-function = record {
          rest = w.rest;
          more = function-there.functions;
          place = place_inside b p w.place l m i q;
          functions-left = next-left h.functions f function-left;
          sentences-left = w.sentences-left;
          functions-count = omega (arith, w.functions-count, ap length function-there.first);
          sentences-count = w.sentences-count;
          functions_in_lem = λ j x r u. below_or_here (λ (k : ℕ). get_elem? h.functions k ≡ some x → FunctionEntry b (get_or (set new f e) k 0) x (sentences_before k h.functions)) j f
              (λ u r. subst (λ (v : ℕ). FunctionEntry b v x (sentences_before j h.functions)) (sym (get_or-set_other new f j e 0 (λ z. omega (arith, z, u)))) (w.functions_in_lem j x r u))
              (λ z. subst (λ (k : ℕ). get_elem? h.functions k ≡ some x → FunctionEntry b (get_or (set new f e) k 0) x (sentences_before k h.functions)) (sym z) (here-entry x))
              u r;
          sentences_in_lem = λ j x r u. subst (λ (v : ℕ). SentenceEntry b v x) (sym (get_or-set_other new f (lines + j) e 0 (λ z. omega (arith, z, function-room room)))) (w.sentences_in_lem j x r u);
          fresh = λ j u. subst (λ (v : ℕ). v < 32768) (sym (get_or-set_other new f (lines + j) e 0 (λ z. omega (arith, z, function-room room)))) (w.fresh j u);
          size = length-set new f e ∙ w.size;
          others = λ k u. get_or-set_other new f k e 0 (λ z. omega (arith, z, u, function-room room)) ∙ w.others k u;
        }

    module _ (m : get_or b p 0 ≡ 10) where
      abbrev sentence-there : SentenceIn (drop p b) w.rest w.more
      sentence-there = place-sentence b p w.place l m

      sentence-left : drop s (own_sentences h.functions) ≡ sentence-there.here.sentence ∷ sentence-there.more
      sentence-left = w.sentences-left ∙ sentence-there.sentences

      pub sentence-below : s < length (own_sentences h.functions)
      sentence-below = omega (arith, w.sentences-count, ap length sentence-there.sentences)

      module _ (small : p < 32768) (i : ℕ) (q : Passes (part b p) i sentence-there.here.rest) (fit : lines + s < length new) (room : length h.functions ≤ lines) where
        new-entry : (x : Sentence) → get_elem? (own_sentences h.functions) s ≡ some x → SentenceEntry b (get_or (set new (lines + s) p) (lines + s) 0) x
        new-entry x r =
            subst (λ (v : ℕ). SentenceEntry b v x) (sym (get_or-set_same new (lines + s) p 0 fit))
            (subst (λ (z : Sentence). SentenceEntry b p z) (first-left (own_sentences h.functions) s sentence-left r)
            (sentence-entered b p p (mod-eq_of_lt small) sentence-there.here))

        pub listing-sentence : Listing b from old lines (set new (lines + s) p) (p + i) f (s + 1) h
        listing-sentence = record {
          rest = sentence-there.more;
          more = w.more;
          place = place-next b p w.place l m (p + i) (from_part b p i q) (omega (arith, q.fits, part_length b p, l));
          functions-left = w.functions-left;
          sentences-left = next-left (own_sentences h.functions) s sentence-left;
          functions-count = w.functions-count;
          sentences-count = omega (arith, w.sentences-count, ap length sentence-there.sentences);
          functions_in_lem = λ j x r u. subst (λ (v : ℕ). FunctionEntry b v x (sentences_before j h.functions)) (sym (get_or-set_other new (lines + s) j p 0 (λ z. omega (arith, z, u, w.functions-count, room)))) (w.functions_in_lem j x r u);
          sentences_in_lem = λ j x r u. below_or_here (λ (k : ℕ). get_elem? (own_sentences h.functions) k ≡ some x → SentenceEntry b (get_or (set new (lines + s) p) (lines + k) 0) x) j s
              (λ u r. subst (λ (v : ℕ). SentenceEntry b v x) (sym (get_or-set_other new (lines + s) (lines + j) p 0 (λ z. omega (arith, z, u)))) (w.sentences_in_lem j x r u))
              (λ z. subst (λ (k : ℕ). get_elem? (own_sentences h.functions) k ≡ some x → SentenceEntry b (get_or (set new (lines + s) p) (lines + k) 0) x) (sym z) (new-entry x))
              u r;
          fresh = λ j u. below_or_here (λ (k : ℕ). get_or (set new (lines + s) p) (lines + k) 0 < 32768) j s
              (λ u. subst (λ (v : ℕ). v < 32768) (sym (get_or-set_other new (lines + s) (lines + j) p 0 (λ z. omega (arith, z, u)))) (w.fresh j u))
              (λ z. subst (λ (k : ℕ). get_or (set new (lines + s) p) (lines + k) 0 < 32768) (sym z) (subst (λ (v : ℕ). v < 32768) (sym (get_or-set_same new (lines + s) p 0 fit)) small))
              u;
          size = length-set new (lines + s) p ∙ w.size;
          others = λ k u. get_or-set_other new (lines + s) k p 0 (λ z. omega (arith, z, u, sentence-below)) ∙ w.others k u;
        }

      pub sentence-fits : (i : ℕ) → Passes (part b p) i sentence-there.here.rest → (p < p + i) × (p + i ≤ length b)
      sentence-fits i q =
          let u : p + i ≤ length b = omega (arith, q.fits, part_length b p, l) in
          (place-later b p w.place l m (p + i) (from_part b p i q) u, u)
