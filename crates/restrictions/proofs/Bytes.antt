-- How many bytes sites, sentences and functions take at least: so much room there is for their entries.
use Prim.Native.Nat.{ℕ, suc, ◌+◌, ◌*◌, ◌≤◌}
use native.Mathlib.Omega.{arith}
use mathlib.Core.List.{List, [], ◌∷◌}
use lib.ListN.{length, length-append}
use Rattle.program.specs.Syntax.{Terms, nil, symbol, variable, bracket, call, block, Conditions, none, condition, Sentences, empty, sentence, Function}
use Rattle.program.specs.Bytes.{put_name}
use Rattle.program.specs.Encode.{put_terms, put_conditions, put_sentences, visibility_byte, put_function, put_functions, sentence_count, own_sentence_count}
use Rattle.program.specs.Limits.{Mode, ValidTerms, ValidConditions, ValidSentences, ValidFunctions}
use Rattle.program.proofs.Lengths.{span-length, name-length, symbol-length, head-length}
use Rattle.meaning.specs.Sites.{collect_call_sites, condition_sites, sentence_sites, function_sites}

-- A call takes 12 bytes at least, and so does a sentence.
mutual
  unfolding put_terms put_conditions put_sentences sentence_count collect_call_sites condition_sites sentence_sites

  pub terms-bytes : (t : Terms) (m : Mode) (d : ℕ) (k : List ℕ) → ValidTerms t m d → 12 * length (collect_call_sites t) + suc (length k) ≤ length (put_terms t k)
  terms-bytes nil m d k h = omega arith
  terms-bytes (symbol s x r) m d k h = omega (arith, symbol-length s x (put_terms r k), terms-bytes r m d k h.2)
  terms-bytes (variable s v n r) m d k h = omega (arith, span-length s (put_name n (put_terms r k)), name-length n (put_terms r k), terms-bytes r m d k h.2)
  terms-bytes (bracket s i r) m d k h =
      simp length-append (omega (arith, span-length s (put_terms i (put_terms r k)), terms-bytes i m (suc d) (put_terms r k) h.2, terms-bytes r m d k h.3))
  terms-bytes (call s f a r) m d k h =
      simp length-append (omega (arith, span-length s (put_name f (put_terms a (put_terms r k))), name-length f (put_terms a (put_terms r k)), h.3.0, terms-bytes a m (suc d) (put_terms r k) h.4, terms-bytes r m d k h.5))
  terms-bytes (block s a b r) m d k h =
      simp length-append (omega (arith, span-length s (put_terms a (put_sentences b (put_terms r k))), terms-bytes a m (suc d) (put_sentences b (put_terms r k)) h.3, sentences-bytes b (suc d) (put_terms r k) h.4, terms-bytes r m d k h.5))

  pub conditions-bytes : (c : Conditions) (d : ℕ) (k : List ℕ) → ValidConditions c d → 12 * length (condition_sites c) + length k ≤ length (put_conditions c k)
  conditions-bytes none d k h = omega arith
  conditions-bytes (condition s r p c) d k h =
      simp length-append (omega (arith, span-length s (put_terms r (put_terms p (put_conditions c k))), terms-bytes r Mode.result d (put_terms p (put_conditions c k)) h.1, terms-bytes p Mode.pattern d (put_conditions c k) h.2, conditions-bytes c d k h.3))

  pub sentences-bytes : (b : Sentences) (d : ℕ) (k : List ℕ) → ValidSentences b d → 12 * (length (sentence_sites b) + sentence_count b) + suc (length k) ≤ length (put_sentences b k)
  sentences-bytes empty d k h = omega arith
  sentences-bytes (sentence a p c r b) d k h =
      simp length-append (omega (arith, head-length a (put_terms p (put_conditions c (12 ∷ put_terms r (put_sentences b k)))), terms-bytes p Mode.pattern d (put_conditions c (12 ∷ put_terms r (put_sentences b k))) h.1, conditions-bytes c d (12 ∷ put_terms r (put_sentences b k)) h.2, terms-bytes r Mode.result d (put_sentences b k) h.3, sentences-bytes b d k h.4))

-- A function takes 13 besides its sentences.
pub functions-bytes : (fs : List Function) → ValidFunctions fs → 13 * length fs + 12 * (length (function_sites fs) + own_sentence_count fs) ≤ length (put_functions fs)
unfolding put_functions put_function own_sentence_count function_sites
functions-bytes [] h = omega arith
functions-bytes (f ∷ fs) h =
    let k = put_functions fs in
    let g = put_sentences f.sentences k in
    omega (arith, span-length f.span (visibility_byte f.visibility ∷ put_name f.name g), name-length f.name g, h.1.0, sentences-bytes f.sentences 0 k h.2, functions-bytes fs h.3, length-append (sentence_sites f.sentences) (function_sites fs))
