-- The places of the walk over all functions: what stands there, and what comes next.
use Prim.Native.Nat.{ℕ, ◌+◌, ◌<◌, ◌≤◌}
use native.Mathlib.Omega.{arith}
use mathlib.Core.Path.{◌≡◌, refl, sym, ap, subst, ◌∙◌}
use mathlib.Core.List.{List, [], ◌∷◌, ◌++◌}
use lib.ListN.{length, get_or, drop, length-drop, drop_of_length-le}
use lib.Seq.{drop-drop, get_or-drop}
use Rattle.program.specs.Syntax.{Sentences, Function}
use Rattle.program.specs.Bytes.{put_name}
use Rattle.program.specs.Encode.{put_head, put_terms, put_conditions, put_sentences, visibility_byte, put_function, put_functions}
use Rattle.program.specs.Limits.{ValidSentences, ValidFunctions}
use Rattle.image.specs.Parts.{Passes, put_sentence, SentenceAt, FunctionAt}
use Rattle.program.specs.Sentences.{Sentence, sentence_list, own_sentences}
use Rattle.program.proofs.Lengths.{span-length, name-length, head-length, terms-length, conditions-length}
use Rattle.symbols.proofs.Parts.{part_rest}
use Rattle.rows.proofs.Readings.{part, part_length}
use Rattle.restrictions.proofs.Going.{from_part}

-- What stands at a place of the walk: the functions fs, or a function's sentences and then fs. The sentences to come are xs.
pub data Place (s : List ℕ) (xs : List Sentence) (fs : List Function) : Type 0 where
  outer : s ≡ put_functions fs → ValidFunctions fs → xs ≡ own_sentences fs → Place s xs fs
  inner : (bs : Sentences) → s ≡ put_sentences bs (put_functions fs) → ValidSentences bs 0 → ValidFunctions fs → xs ≡ sentence_list bs ++ own_sentences fs → Place s xs fs

-- A function, a sentence, a function's close.
pub record FunctionIn (s : List ℕ) (xs : List Sentence) (fs : List Function) : Type 0 where
  pub function : Function
  pub functions : List Function
  pub first : fs ≡ function ∷ functions
  pub all : xs ≡ own_sentences fs
  pub is : s ≡ put_function function (put_functions functions)
  pub valid : ValidSentences function.sentences 0
  pub valid-more : ValidFunctions functions
  pub sentences : xs ≡ sentence_list function.sentences ++ own_sentences functions

pub record SentenceIn (s : List ℕ) (xs : List Sentence) (fs : List Function) : Type 0 where
  pub here : SentenceAt s
  pub more : List Sentence
  pub next : Place here.rest more fs
  pub sentences : xs ≡ here.sentence ∷ more

head-long : (f : Function) (k : List ℕ) → length (put_sentences f.sentences k) < length (put_function f k)
unfolding put_function
head-long f k = omega (arith, span-length f.span (visibility_byte f.visibility ∷ put_name f.name (put_sentences f.sentences k)), name-length f.name (put_sentences f.sentences k))

sentence-long : (x : Sentence) (k : List ℕ) → length k < length (put_sentence x k)
unfolding put_sentence
sentence-long x k =
    omega (arith, head-length x.head (put_terms x.pattern (put_conditions x.conditions (12 ∷ put_terms x.result k))), terms-length x.pattern (put_conditions x.conditions (12 ∷ put_terms x.result k)), conditions-length x.conditions (12 ∷ put_terms x.result k), terms-length x.result k)

module _ {s : List ℕ} {xs : List Sentence} where
  function_in : 0 < length s → get_or s 0 0 ≡ 18 → (fs : List Function) → Place s xs fs → FunctionIn s xs fs
  unfolding put_function put_functions put_sentences put_head own_sentences
  function_in l m [] (outer q v r) = absurd (omega (arith, l, ap length q))
  function_in l m (f ∷ fs) (outer q v r) = record { function = f; functions = fs; first = refl; all = r; is = q; valid = v.2; valid-more = v.3; sentences = r }
  function_in l m fs (inner Sentences.empty q v u r) = absurd (omega (arith, m, ap (λ (l : List ℕ). get_or l 0 0) q))
  function_in l m fs (inner (Sentences.sentence a t c e b) q v u r) = absurd (omega (arith, m, ap (λ (l : List ℕ). get_or l 0 0) q))

  sentence_in : 0 < length s → get_or s 0 0 ≡ 10 → (fs : List Function) → Place s xs fs → SentenceIn s xs fs
  unfolding put_function put_functions put_sentences put_head put_sentence sentence_list
  sentence_in l m [] (outer q v r) = absurd (omega (arith, l, ap length q))
  sentence_in l m (f ∷ fs) (outer q v r) = absurd (omega (arith, m, ap (λ (l : List ℕ). get_or l 0 0) q))
  sentence_in l m fs (inner Sentences.empty q v u r) = absurd (omega (arith, m, ap (λ (l : List ℕ). get_or l 0 0) q))
  sentence_in l m fs (inner (Sentences.sentence a t c e b) q v u r) = record {
    here = record { sentence = record { head = a; pattern = t; conditions = c; result = e }; rest = put_sentences b (put_functions fs); is = q; valid-pattern = v.1; valid-conditions = v.2; valid-result = v.3 };
    more = sentence_list b ++ own_sentences fs;
    next = inner b refl v.4 u refl;
    sentences = r;
  }

  close_in : 0 < length s → (get_or s 0 0 ≡ 18 → ⊥) → (get_or s 0 0 ≡ 10 → ⊥) → (fs : List Function) → Place s xs fs → Place (drop 1 s) xs fs
  unfolding put_function put_functions put_sentences put_head sentence_list
  close_in l m k [] (outer q v r) = absurd (omega (arith, l, ap length q))
  close_in l m k (f ∷ fs) (outer q v r) = absurd (m (ap (λ (l : List ℕ). get_or l 0 0) q))
  close_in l m k fs (inner Sentences.empty q v u r) = outer (ap (drop 1) q) u r
  close_in l m k fs (inner (Sentences.sentence a t c e b) q v u r) = absurd (k (ap (λ (l : List ℕ). get_or l 0 0) q))

  none_in : s ≡ [] → (fs : List Function) → Place s xs fs → (xs ≡ []) × (fs ≡ [])
  unfolding put_function put_functions put_sentences put_head own_sentences
  none_in e [] (outer q v r) = (r, refl)
  none_in e (f ∷ fs) (outer q v r) = absurd (omega (arith, ap length (sym q ∙ e)))
  none_in e fs (inner Sentences.empty q v u r) = absurd (omega (arith, ap length (sym q ∙ e)))
  none_in e fs (inner (Sentences.sentence a t c i b) q v u r) = absurd (omega (arith, ap length (sym q ∙ e)))

-- What stands at p of b, as the mark there says.
module _ (b : List ℕ) (p : ℕ) {xs : List Sentence} {fs : List Function} (here : Place (drop p b) xs fs) where
  pub place_none : length b ≤ p → (xs ≡ []) × (fs ≡ [])
  place_none l = none_in (drop_of_length-le b l) fs here

  module _ (l : p < length b) where
    long : 0 < length (drop p b)
    long = omega (arith, length-drop p b)

    mark-here : get_or (drop p b) 0 0 ≡ get_or b p 0
    mark-here = let z : p + 0 ≡ p = omega arith in get_or-drop p b 0 0 ∙ ap (λ (i : ℕ). get_or b i 0) z

    pub place-close : (get_or b p 0 ≡ 18 → ⊥) → (get_or b p 0 ≡ 10 → ⊥) → Place (drop (p + 1) b) xs fs
    place-close m k = subst (λ (z : List ℕ). Place z xs fs) (drop-drop 1 p b) (close_in long (λ e. m (sym mark-here ∙ e)) (λ e. k (sym mark-here ∙ e)) fs here)

    module _ (m : get_or b p 0 ≡ 18) where
      pub place-function : FunctionIn (drop p b) xs fs
      place-function = function_in long (mark-here ∙ m) fs here

      abbrev pub place-part : FunctionAt (part b p)
      place-part = record { function = place-function.function; rest = put_functions place-function.functions; is = part_rest b p ∙ place-function.is }

      module _ (i : ℕ) (q : Passes (part b p) i (put_sentences place-function.function.sentences (put_functions place-function.functions))) where
        pub place-fits : (0 < i) × (p + i ≤ length b)
        place-fits = (omega (arith, q.fits, length-drop i (part b p), ap length q.left, ap length place-part.is, head-long place-function.function (put_functions place-function.functions)), omega (arith, q.fits, part_length b p, l))

        pub place_inside : Place (drop (p + i) b) xs place-function.functions
        place_inside = inner place-function.function.sentences (from_part b p i q) place-function.valid place-function.valid-more place-function.sentences

    module _ (m : get_or b p 0 ≡ 10) where
      pub place-sentence : SentenceIn (drop p b) xs fs
      place-sentence = sentence_in long (mark-here ∙ m) fs here

      module _ (e : ℕ) (z : drop e b ≡ place-sentence.here.rest) (fits : e ≤ length b) where
        pub place-later : p < e
        place-later = omega (arith, ap length place-sentence.here.is, sentence-long place-sentence.here.sentence place-sentence.here.rest, length-drop p b, length-drop e b, ap length z, fits)

        pub place-next : Place (drop e b) place-sentence.more fs
        place-next = subst (λ (k : List ℕ). Place k place-sentence.more fs) (sym z) place-sentence.next
