-- A program with sentences left out is again one that an image can hold, and no longer than before.
use Prim.Native.Nat.{ℕ, suc, ◌+◌, ◌≤◌, ◌<◌}
use native.Mathlib.Omega.{arith}
use native.Mathlib.Nat.{le_trans}
use mathlib.Core.Path.{◌≡◌, refl, sym, ap, ◌∙◌}
use mathlib.Core.Bool.{Bool, true, false, cond}
use mathlib.Core.List.{List, [], ◌∷◌}
use lib.ListN.{length, length-append}
use Rattle.program.specs.Syntax.{Head, Terms, Conditions, Sentences, Function, Program}
use Rattle.program.specs.Bytes.{put_name, Bytes}
use Rattle.program.specs.Encode.{put_head, put_terms, put_conditions, put_sentences, visibility_byte, put_function, put_functions, put_declarations, put_body, sentence_count, own_sentence_count, encode}
use Rattle.program.specs.Sentences.{Sentence}
use Rattle.image.specs.Parts.{put_sentence, Accepted}
use Rattle.program.specs.Limits.{Valid, ValidSentences, ValidFunctions}
use Rattle.program.specs.Decode.{Answer, decode}
use Rattle.program.proofs.Lengths.{span-length, name-length, encode-length}
use Rattle.program.proofs.RoundTrip.{decode-encode, encode-decode}
use Rattle.told.specs.Kept.{kept_sentences, kept_function, kept_functions, kept_program}
use Rattle.told.proofs.Kept.{all-kept}
use Rattle.output.proofs.SentenceSplits.{sentence-splits}
use Rattle.program.proofs.Splits.{declarations-splits}

-- how many functions there are does not change
pub kept-functions : (keep : ℕ → Bool) (i : ℕ) (fs : List Function) → length (kept_functions keep i fs) ≡ length fs
unfolding kept_functions
kept-functions keep i [] = refl
kept-functions keep i (f ∷ fs) = ap suc (kept-functions keep (i + sentence_count f.sentences) fs)

-- validity
valid-sentences : (b : Sentences) (keep : ℕ → Bool) (i : ℕ) → ValidSentences b 0 → ValidSentences (kept_sentences keep i b) 0
unfolding kept_sentences
valid-sentences Sentences.empty keep i v = v
valid-sentences (Sentences.sentence h p c r b) keep i v = by (keep i) (valid-sentences b keep (suc i) v.4)
  where
    by : (t : Bool) → ValidSentences (kept_sentences keep (suc i) b) 0 → ValidSentences (cond t (Sentences.sentence h p c r (kept_sentences keep (suc i) b)) (kept_sentences keep (suc i) b)) 0
    by true u = (v.0, v.1, v.2, v.3, u)
    by false u = u

valid-functions : (fs : List Function) (keep : ℕ → Bool) (i : ℕ) → ValidFunctions fs → ValidFunctions (kept_functions keep i fs)
unfolding kept_functions kept_function
valid-functions [] keep i v = v
valid-functions (f ∷ fs) keep i v = (v.0, v.1, valid-sentences f.sentences keep i v.2, valid-functions fs keep (i + sentence_count f.sentences) v.3)

-- lengths, whatever follows
sentence-more : (h : Head) (p : Terms) (c : Conditions) (r : Terms) (b : Sentences) (a k : List ℕ) → length a ≤ length (put_sentences b k)
    → length (put_head h (put_terms p (put_conditions c (12 ∷ put_terms r a)))) ≤ length (put_sentences (Sentences.sentence h p c r b) k)
unfolding put_sentences put_sentence
sentence-more h p c r b a k l =
    let x : Sentence = record { head = h; pattern = p; conditions = c; result = r } in
    omega (arith, l, ap length (sentence-splits x a), ap length (sentence-splits x (put_sentences b k)), length-append (put_sentence x []) a, length-append (put_sentence x []) (put_sentences b k))

rest_shorter : (h : Head) (p : Terms) (c : Conditions) (r : Terms) (b : Sentences) (k : List ℕ) → length (put_sentences b k) ≤ length (put_sentences (Sentences.sentence h p c r b) k)
unfolding put_sentences put_sentence
rest_shorter h p c r b k =
    let x : Sentence = record { head = h; pattern = p; conditions = c; result = r } in
    omega (arith, ap length (sentence-splits x (put_sentences b k)), length-append (put_sentence x []) (put_sentences b k))

sentences_shorter : (b : Sentences) (keep : ℕ → Bool) (i : ℕ) (a k : List ℕ) → length a ≤ length k → length (put_sentences (kept_sentences keep i b) a) ≤ length (put_sentences b k)
unfolding put_sentences kept_sentences
sentences_shorter Sentences.empty keep i a k l = omega (arith, l)
sentences_shorter (Sentences.sentence h p c r b) keep i a k l = by (keep i) (sentences_shorter b keep (suc i) a k l)
  where
    by : (t : Bool) → length (put_sentences (kept_sentences keep (suc i) b) a) ≤ length (put_sentences b k)
        → length (put_sentences (cond t (Sentences.sentence h p c r (kept_sentences keep (suc i) b)) (kept_sentences keep (suc i) b)) a) ≤ length (put_sentences (Sentences.sentence h p c r b) k)
    by true u = sentence-more h p c r b (put_sentences (kept_sentences keep (suc i) b) a) k u
    by false u = le_trans u (rest_shorter h p c r b k)

pub functions_shorter : (fs : List Function) (keep : ℕ → Bool) (i : ℕ) → length (put_functions (kept_functions keep i fs)) ≤ length (put_functions fs)
unfolding put_functions put_function kept_functions kept_function
functions_shorter [] keep i = omega arith
functions_shorter (f ∷ fs) keep i =
    let a : List ℕ = put_functions (kept_functions keep (i + sentence_count f.sentences) fs) in
    let s1 : List ℕ = put_sentences (kept_sentences keep i f.sentences) a in
    let s2 : List ℕ = put_sentences f.sentences (put_functions fs) in
    let v : ℕ = visibility_byte f.visibility in
    let u = sentences_shorter f.sentences keep i a (put_functions fs) (functions_shorter fs keep (i + sentence_count f.sentences)) in
    omega (arith, u, span-length f.span (v ∷ put_name f.name s1), span-length f.span (v ∷ put_name f.name s2), name-length f.name s1, name-length f.name s2)

pub kept_shorter : (keep : ℕ → Bool) (w : Program) → length (encode (kept_program keep w)) ≤ length (encode w)
unfolding put_body kept_program
kept_shorter keep w =
    let k : List ℕ = put_functions (kept_functions keep 0 w.functions) in
    let d : List ℕ = put_declarations w.declarations [] in
    omega
    (arith, functions_shorter w.functions keep 0, encode-length w, encode-length (kept_program keep w), ap length (declarations-splits w.declarations k), ap length (declarations-splits w.declarations (put_functions w.functions)), length-append d k, length-append d (put_functions w.functions))

pub kept-valid : (keep : ℕ → Bool) (w : Program) → Valid w → Valid (kept_program keep w)
unfolding kept_program
kept-valid keep w v = ((v.0.0, valid-functions w.functions keep 0 v.0.1), le_trans (kept_shorter keep w) v.1)

-- What Clean writes is again an accepted image, and its program is the one with the sentences left out.
pub kept-accepted : (keep : ℕ → Bool) (w : Program) → Valid w → decode (encode (kept_program keep w)) ≡ Answer.accepted (kept_program keep w)
kept-accepted keep w v = decode-encode (kept_program keep w) (kept-valid keep w v)

-- Of an accepted image: what is written is accepted again, and it is the image itself where every sentence is kept.
module _ (s : List ℕ) (bytes : Bytes s) (a : Accepted s) (keep : ℕ → Bool) where
  pub accepted_again : decode (encode (kept_program keep a.program)) ≡ Answer.accepted (kept_program keep a.program)
  accepted_again = kept-accepted keep a.program (encode-decode s a.program bytes a.is).1

  pub same_bytes : ((j : ℕ) → j < own_sentence_count a.program.functions → keep j ≡ true) → encode (kept_program keep a.program) ≡ s
  same_bytes h = ap encode (all-kept keep a.program h) ∙ sym (encode-decode s a.program bytes a.is).0
