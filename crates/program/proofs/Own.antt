-- The functions' own sentences: one of them by its number, and that its pattern is within the limits.
use Prim.Native.Nat.{ℕ, zero, suc}
use native.Mathlib.Omega.{arith}
use mathlib.Core.Path.{◌≡◌, refl, ap, subst}
use mathlib.Core.List.{List, [], ◌∷◌, ◌++◌}
use mathlib.Core.Option.{none, some}
use lib.ListN.{length, length-append, drop, get_elem?}
use Rattle.program.specs.Syntax.{Sentences, Function}
use Rattle.program.specs.Encode.{sentence_count, own_sentence_count}
use Rattle.program.specs.Limits.{Mode, ValidTerms, ValidSentences, ValidFunctions}
use Rattle.program.specs.Sentences.{Sentence, sentence_list, own_sentences}

pub element : {A : Type 0} (l : List A) (n : ℕ) (x : A) (more : List A) → drop n l ≡ x ∷ more → get_elem? l n ≡ some x
element [] zero x more e = absurd (omega (arith, ap length e))
element [] (suc n) x more e = absurd (omega (arith, ap length e))
element (y ∷ l) zero x more e = ap (λ (k : List _). get_elem? k zero) e
element (y ∷ l) (suc n) x more e = element l n x more e

pub no_element : {A : Type 0} (l : List A) (n : ℕ) → drop n l ≡ [] → get_elem? l n ≡ none
no_element [] n e = refl
no_element (y ∷ l) zero e = absurd (omega (arith, ap length e))
no_element (y ∷ l) (suc n) e = no_element l n e

abbrev AllValid : List Sentence → Type 0
AllValid [] = Unit {0}
AllValid (x ∷ xs) = ValidTerms x.pattern Mode.pattern 0 × AllValid xs

all_append : (xs ys : List Sentence) → AllValid xs → AllValid ys → AllValid (xs ++ ys)
all_append [] ys h k = k
all_append (x ∷ xs) ys h k = (h.0, all_append xs ys h.1 k)

all-sentences : (b : Sentences) → ValidSentences b 0 → AllValid (sentence_list b)
unfolding sentence_list
all-sentences Sentences.empty h = tt
all-sentences (Sentences.sentence a p c r b) h = (h.1, all-sentences b h.4)

all_own : (fs : List Function) → ValidFunctions fs → AllValid (own_sentences fs)
unfolding own_sentences
all_own [] h = tt
all_own (f ∷ fs) h = all_append (sentence_list f.sentences) (own_sentences fs) (all-sentences f.sentences h.2) (all_own fs h.3)

one-valid : (xs : List Sentence) (n : ℕ) (x : Sentence) (more : List Sentence) → AllValid xs → drop n xs ≡ x ∷ more → ValidTerms x.pattern Mode.pattern 0
one-valid [] zero x more h e = absurd (omega (arith, ap length e))
one-valid [] (suc n) x more h e = absurd (omega (arith, ap length e))
one-valid (y ∷ xs) zero x more h e = (subst AllValid e h).0
one-valid (y ∷ xs) (suc n) x more h e = one-valid xs n x more h.1 e

pub own-valid : (fs : List Function) → ValidFunctions fs → (n : ℕ) (x : Sentence) (more : List Sentence) → drop n (own_sentences fs) ≡ x ∷ more → ValidTerms x.pattern Mode.pattern 0
own-valid fs v n x more e = one-valid (own_sentences fs) n x more (all_own fs v) e

some-valid : (xs : List Sentence) (n : ℕ) (x : Sentence) → AllValid xs → get_elem? xs n ≡ some x → ValidTerms x.pattern Mode.pattern 0
some-valid [] n x h e = absurd (let z : ◌≡◌ {A = ℕ} 0 1 = cc in omega arith)
some-valid (y ∷ xs) zero x h e = let q : y ≡ x = cc in subst (λ (z : Sentence). ValidTerms z.pattern Mode.pattern 0) q h.0
some-valid (y ∷ xs) (suc n) x h e = some-valid xs n x h.1 e

-- The same of the sentence that a number names.
pub numbered-valid : (fs : List Function) → ValidFunctions fs → (n : ℕ) (x : Sentence) → get_elem? (own_sentences fs) n ≡ some x → ValidTerms x.pattern Mode.pattern 0
numbered-valid fs v n x e = some-valid (own_sentences fs) n x (all_own fs v) e

pub sentences-counted : (b : Sentences) → length (sentence_list b) ≡ sentence_count b
unfolding sentence_list sentence_count
sentences-counted Sentences.empty = refl
sentences-counted (Sentences.sentence h p c r b) = omega (arith, sentences-counted b)

pub own-counted : (fs : List Function) → length (own_sentences fs) ≡ own_sentence_count fs
unfolding own_sentences own_sentence_count
own-counted [] = refl
own-counted (f ∷ fs) = omega (arith, length-append (sentence_list f.sentences) (own_sentences fs), sentences-counted f.sentences, own-counted fs)
