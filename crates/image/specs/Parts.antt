-- Parts of an image: "the rest of a pattern is the same image from a later byte". A record says what stands at the start of s, and what follows it.
use Rattle.std.specs.Prelude.{ℕ, ◌+◌, ◌-◌, ◌≤◌, ◌≡◌, cond, List, [], ◌∷◌, eqb, ltb, length, get_or, drop, Option, Some, None}
use Rattle.program.specs.Syntax.{Name, Terms, nil, symbol, variable, bracket, call, block, Function, Program}
use Rattle.program.specs.Sentences.{Sentence}
use Rattle.program.specs.Bytes.{put_name}
use Rattle.program.specs.Encode.{put_head, put_terms, put_conditions, put_function, put_functions}
use Rattle.program.specs.Limits.{Mode, ValidTerms, ValidConditions, ValidFunctions}
use Rattle.program.specs.Decode.{Answer, decode}

-- The first n bytes of s are one whole, and `rest` comes after them.
pub record Passes (s : List ℕ) (n : ℕ) (rest : List ℕ) : Type 0 where
  pub fits : n ≤ length s
  pub left : drop n s ≡ rest

pub record NameAt (s : List ℕ) : Type 0 where
  pub name : Name
  pub rest : List ℕ
  pub is : s ≡ put_name name rest

-- Terms and their close, in a pattern or elsewhere.
pub record TermsAt (m : Mode) (s : List ℕ) : Type 0 where
  pub terms : Terms
  pub rest : List ℕ
  pub is : s ≡ put_terms terms rest
  pub valid : ValidTerms terms m 0

-- A sequence without its first term.
unfoldable pub tail : Terms → Terms
tail nil = nil
tail (symbol s x r) = r
tail (variable s k n r) = r
tail (bracket s i r) = r
tail (call s f a r) = r
tail (block s a b r) = r

unfoldable pub put_sentence : Sentence → List ℕ → List ℕ
put_sentence x k = put_head x.head (put_terms x.pattern (put_conditions x.conditions (12 ∷ put_terms x.result k)))

pub record SentenceAt (s : List ℕ) : Type 0 where
  pub sentence : Sentence
  pub rest : List ℕ
  pub is : s ≡ put_sentence sentence rest
  pub valid-pattern : ValidTerms sentence.pattern Mode.pattern 0
  pub valid-conditions : ValidConditions sentence.conditions 0
  pub valid-result : ValidTerms sentence.result Mode.result 0

-- Functions to the end of s.
pub record FunctionsAt (s : List ℕ) : Type 0 where
  pub functions : List Function
  pub is : s ≡ put_functions functions
  pub valid : ValidFunctions functions

-- A function at the start of s.
pub record FunctionAt (s : List ℕ) : Type 0 where
  pub function : Function
  pub rest : List ℕ
  pub is : s ≡ put_function function rest

-- The sentence after n of xs stands at p of b.
pub record Stands (b : List ℕ) (p : ℕ) (xs : List Sentence) (n : ℕ) : Type 0 where
  pub sentence : Sentence
  pub more : List Sentence
  pub rest : List ℕ
  pub is : drop n xs ≡ sentence ∷ more
  pub stands : drop p b ≡ put_sentence sentence rest

-- The place of the sentence after n of xs in b: none if xs has no such sentence.
abbrev pub FoundIn : List ℕ → List Sentence → ℕ → Option ℕ → Type 0
FoundIn b xs n (Some p) = Stands b p xs n
FoundIn b xs n None = drop n xs ≡ []

-- An accepted image, and its program.
pub record Accepted (s : List ℕ) : Type 0 where
  pub program : Program
  pub is : decode s ≡ Answer.accepted program

-- A pattern token by token: a token is a symbol, a variable, a bracket's beginning or a close; it stands at the start of s and is known by its mark.
-- How many bytes the token has: "1 character (32-bit code); 2 identifier, 3 number; 4 `s.`, 5 `t.`, 6 `e.` variable (a name each); 7 bracket", each with a span, and "Close is 15."
unfoldable pub token_length : List ℕ → ℕ
token_length s = cond (eqb (get_or s 0 0) 1) 13 (cond (ltb (get_or s 0 0) 7) (10 + get_or s 9 0) (cond (eqb (get_or s 0 0) 7) 9 1))

-- How many closes are to come behind a token with the mark m, the last close among them.
unfoldable pub closes_after : ℕ → ℕ → ℕ
closes_after m c = cond (eqb m 7) (c + 1) (cond (eqb m 15) (c - 1) c)
