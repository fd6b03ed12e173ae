-- The bytes of a program: document 01, "The image", record by record. Each writer takes the bytes that follow.
use Rattle.std.specs.Prelude.{ℕ, ◌+◌, List, [], ◌∷◌, ◌++◌, length}
use Rattle.program.specs.Syntax.{Name, Span, Symbol, character, identifier, number, Kind, s_kind, t_kind, e_kind, Head, Terms, nil, symbol, variable, bracket, call, block, Conditions, none, condition, Sentences, empty, sentence, Visibility, local, entry, Declaration, Function, Program}
use Rattle.program.specs.Bytes.{put16, put32, put_span, put_name}

-- "1 character (32-bit code); 2 identifier, 3 number [..] (a name each)"
unfoldable pub put_symbol : Span → Symbol → List ℕ → List ℕ
put_symbol s (character c) k = 1 ∷ put_span s (put32 c k)
put_symbol s (identifier n) k = 2 ∷ put_span s (put_name n k)
put_symbol s (number n) k = 3 ∷ put_span s (put_name n k)

-- "4 `s.`, 5 `t.`, 6 `e.` variable"
unfoldable pub kind_mark : Kind → ℕ
kind_mark s_kind = 4
kind_mark t_kind = 5
kind_mark e_kind = 6

-- "10, span"
unfoldable pub put_head : Head → List ℕ → List ℕ
put_head h k = 10 ∷ put_span h.span k

-- Terms and their close; conditions; sentences and their close. "Close is 15."
unfoldable mutual
  pub put_terms : Terms → List ℕ → List ℕ
  put_terms nil k = 15 ∷ k
  put_terms (symbol s x r) k = put_symbol s x (put_terms r k)
  put_terms (variable s v n r) k = kind_mark v ∷ put_span s (put_name n (put_terms r k))
  put_terms (bracket s t r) k = 7 ∷ put_span s (put_terms t (put_terms r k))
  put_terms (call s n t r) k = 8 ∷ put_span s (put_name n (put_terms t (put_terms r k)))
  put_terms (block s t b r) k = 9 ∷ put_span s (put_terms t (put_sentences b (put_terms r k)))

  pub put_conditions : Conditions → List ℕ → List ℕ
  put_conditions none k = k
  put_conditions (condition s t p c) k = 11 ∷ put_span s (put_terms t (put_terms p (put_conditions c k)))

  pub put_sentences : Sentences → List ℕ → List ℕ
  put_sentences empty k = 15 ∷ k
  put_sentences (sentence h p c r b) k = put_head h (put_terms p (put_conditions c (12 ∷ put_terms r (put_sentences b k))))

unfoldable pub put_names : List Name → List ℕ → List ℕ
put_names [] k = k
put_names (n ∷ ns) k = put_name n (put_names ns k)

-- "Declaration: 17, span, one count byte, that many names."
unfoldable pub put_declarations : List Declaration → List ℕ → List ℕ
put_declarations [] k = k
put_declarations (d ∷ ds) k = 17 ∷ put_span d.span (length d.names ∷ put_names d.names (put_declarations ds k))

unfoldable pub visibility_byte : Visibility → ℕ
visibility_byte local = 0
visibility_byte entry = 1

-- "Function: 18, span, a byte 0 (Local) or 1 (Entry), name, sentences, close."
unfoldable pub put_function : Function → List ℕ → List ℕ
put_function f k = 18 ∷ put_span f.span (visibility_byte f.visibility ∷ put_name f.name (put_sentences f.sentences k))

unfoldable pub put_functions : List Function → List ℕ
put_functions [] = []
put_functions (f ∷ fs) = put_function f (put_functions fs)

unfoldable pub put_body : Program → List ℕ
put_body w = put_declarations w.declarations (put_functions w.functions)

-- "count of the functions' own sentences (blocks' not counted)"
unfoldable pub sentence_count : Sentences → ℕ
sentence_count empty = 0
sentence_count (sentence h p c r b) = 1 + sentence_count b

unfoldable pub own_sentence_count : List Function → ℕ
own_sentence_count [] = 0
own_sentence_count (f ∷ fs) = sentence_count f.sentences + own_sentence_count fs

-- "The trailer [..] points back: 32-bit distance from it to the body's start, 32-bit distance from it to the first function (0 if none), 16-bit function count, 16-bit count of the functions' own sentences"
unfoldable pub trailer : Program → List ℕ
trailer w =
    put32 (length (put_body w))
    (put32 (length (put_functions w.functions)) (put16 (length w.functions) (put16 (own_sentence_count w.functions) [])))

-- "The trailer is the last 12 bytes".
unfoldable pub encode : Program → List ℕ
encode w = put_body w ++ trailer w
