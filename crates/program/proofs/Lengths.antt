-- How long what is written is, at least.
use Prim.Native.Nat.{ℕ, suc, ◌+◌, ◌≤◌, ◌<◌}
use native.Mathlib.Omega.{arith}
use mathlib.Core.Path.{◌≡◌, refl, ap, ◌∙◌}
use mathlib.Core.List.{List, [], ◌∷◌}
use lib.ListN.{length, length-append}
use Rattle.program.specs.Syntax.{Name, Span, Symbol, character, identifier, number, Head, Terms, nil, symbol, variable, bracket, call, block, Conditions, none, condition, Sentences, empty, sentence, Declaration, Function, Program}
use Rattle.program.specs.Bytes.{put16, put32, put_span, put_name}
use Rattle.program.specs.Encode.{put_symbol, put_head, put_terms, put_conditions, put_sentences, put_names, put_declarations, visibility_byte, put_function, put_functions, put_body, sentence_count, own_sentence_count, trailer, encode}

pub span-length : (p : Span) (k : List ℕ) → length (put_span p k) ≡ 8 + length k
unfolding put_span put32
span-length p k = omega arith

pub code-length : (c : ℕ) (k : List ℕ) → length (put32 c k) ≡ 4 + length k
unfolding put32
code-length c k = omega arith

pub name-length : (n : Name) (k : List ℕ) → length (put_name n k) ≡ 1 + length n + length k
unfolding put_name
name-length n k = omega (arith, length-append n k)

pub symbol-length : (s : Span) (x : Symbol) (k : List ℕ) → 10 + length k ≤ length (put_symbol s x k)
unfolding put_symbol
symbol-length s (character c) k = omega (arith, span-length s (put32 c k), code-length c k)
symbol-length s (identifier n) k = omega (arith, span-length s (put_name n k), name-length n k)
symbol-length s (number n) k = omega (arith, span-length s (put_name n k), name-length n k)

pub head-length : (h : Head) (k : List ℕ) → length (put_head h k) ≡ 9 + length k
unfolding put_head
head-length h k = omega (arith, span-length h.span k)

mutual
  unfolding put_terms put_conditions put_sentences sentence_count

  pub terms-length : (t : Terms) (k : List ℕ) → suc (length k) ≤ length (put_terms t k)
  terms-length nil k = omega arith
  terms-length (symbol s x r) k = omega (arith, symbol-length s x (put_terms r k), terms-length r k)
  terms-length (variable s v n r) k = omega (arith, span-length s (put_name n (put_terms r k)), name-length n (put_terms r k), terms-length r k)
  terms-length (bracket s t r) k = omega (arith, span-length s (put_terms t (put_terms r k)), terms-length t (put_terms r k), terms-length r k)
  terms-length (call s n t r) k = omega (arith, span-length s (put_name n (put_terms t (put_terms r k))), name-length n (put_terms t (put_terms r k)), terms-length t (put_terms r k), terms-length r k)
  terms-length (block s t b r) k = omega (arith, span-length s (put_terms t (put_sentences b (put_terms r k))), terms-length t (put_sentences b (put_terms r k)), sentences-length b (put_terms r k), terms-length r k)

  pub conditions-length : (c : Conditions) (k : List ℕ) → length k ≤ length (put_conditions c k)
  conditions-length none k = omega arith
  conditions-length (condition s t p c) k = omega (arith, span-length s (put_terms t (put_terms p (put_conditions c k))), terms-length t (put_terms p (put_conditions c k)), terms-length p (put_conditions c k), conditions-length c k)

  pub sentences-length : (b : Sentences) (k : List ℕ) → sentence_count b + suc (length k) ≤ length (put_sentences b k)
  sentences-length empty k = omega arith
  sentences-length (sentence h p c r b) k =
      omega (arith, head-length h (put_terms p (put_conditions c (12 ∷ put_terms r (put_sentences b k)))), terms-length p (put_conditions c (12 ∷ put_terms r (put_sentences b k))), conditions-length c (12 ∷ put_terms r (put_sentences b k)), terms-length r (put_sentences b k), sentences-length b k)

pub function-length : (f : Function) (k : List ℕ) → sentence_count f.sentences + length k < length (put_function f k)
unfolding put_function
function-length f k =
    omega (arith, span-length f.span (visibility_byte f.visibility ∷ put_name f.name (put_sentences f.sentences k)), name-length f.name (put_sentences f.sentences k), sentences-length f.sentences k)

pub functions-length : (fs : List Function) → length fs + own_sentence_count fs ≤ length (put_functions fs)
unfolding put_functions own_sentence_count
functions-length [] = omega arith
functions-length (f ∷ fs) = omega (arith, function-length f (put_functions fs), functions-length fs)

names-length : (ns : List Name) (k : List ℕ) → length k ≤ length (put_names ns k)
unfolding put_names
names-length [] k = omega arith
names-length (n ∷ ns) k = omega (arith, name-length n (put_names ns k), names-length ns k)

pub declarations-length : (ds : List Declaration) (k : List ℕ) → length k ≤ length (put_declarations ds k)
unfolding put_declarations
declarations-length [] k = omega arith
declarations-length (d ∷ ds) k =
    omega (arith, span-length d.span (length d.names ∷ put_names d.names (put_declarations ds k)), names-length d.names (put_declarations ds k), declarations-length ds k)

pub body-length : (w : Program) → length (put_functions w.functions) ≤ length (put_body w)
unfolding put_body
body-length w = declarations-length w.declarations (put_functions w.functions)

pub trailer-length : (w : Program) → length (trailer w) ≡ 12
unfolding trailer put32 put16
trailer-length w = refl

pub encode-length : (w : Program) → length (encode w) ≡ length (put_body w) + 12
unfolding encode
encode-length w = length-append (put_body w) (trailer w) ∙ ap (λ (n : ℕ). length (put_body w) + n) (trailer-length w)
