-- What is written within the limits is read back.
use Prim.Native.Nat.{ℕ, suc, ◌%◌, ◌<◌}
use native.Mathlib.Omega.{arith}
use mathlib.Core.Path.{◌≡◌, refl, ap, ◌∙◌}
use mathlib.Core.Bool.{Bool, true, false}
use mathlib.Core.List.{List, [], ◌∷◌, ◌++◌}
use lib.ListN.{length, take, drop}
use lib.Seq.{take-append_seam}
use lib.Dec.{ltb, leb}
use borrow.Author.Tests.{lt-ltb, le-ltb, le-leb, ltb-true, leb-true}
use Rattle.program.specs.Syntax.{Span, Symbol, character, identifier, number, Kind, s_kind, t_kind, e_kind, Head, Terms, nil, symbol, variable, bracket, call, block, Conditions, none, condition, Sentences, empty, sentence, Visibility, local, entry, Declaration, Function, Program}
use Rattle.program.specs.Bytes.{put32, put_span, put_name, get32, get_span}
use Rattle.program.specs.Encode.{put_symbol, kind_mark, put_head, put_terms, put_conditions, put_sentences, put_names, put_declarations, visibility_byte, put_function, put_functions, put_body}
use Rattle.program.specs.Limits.{pick, Mode, scalar, ValidSpan, AllAllowed, ValidName, ValidSymbol, NotPattern, ValidTerms, ValidConditions, ValidSentences, ValidNames, ValidDeclarations, ValidFunctions, ValidBody}
use Rattle.program.specs.Automaton.{Stack, Values, Turn, spanned, nested, outside, Scan, scan, scanned, named, Word, word_term, is_number, term_mark, turn_terms, condition_mark, turn_conditions, sentence_mark, turn_sentences, item_mark, turn_function, turn_functions, turn_body, turn_names, turn_counted, turn_visibility, turn_code, turn, Read, made, at_end, follow, run}
use Rattle.program.proofs.Numbers.{get32-put32, get_span_put}
use Rattle.program.proofs.Sound.{word_mark}

pub made-made : {A B C : Type 0} (g : B → C) (f : A → B) (r : Read A) → made g (made f r) ≡ made (λ a. g (f a)) r
unfolding made
made-made g f (Read.refused n l) = refl
made-made g f (Read.value a) = refl

-- That a is what g makes of r: an equation whose parts antt can read off.
pub record Makes {A C : Type 0} (a : Read C) (g : A → C) (r : Read A) : Type 0 where
  pub is : a ≡ made g r

after : {A B C : Type 0} {a : Read C} {q : Read B} {r : Read A} {g : B → C} {f : A → B} → Makes a g q → Makes q f r → Makes a (λ v. g (f v)) r
after {r = r} {g = g} {f = f} e1 e2 = record { is = e1.is ∙ (ap (made g) e2.is ∙ made-made g f r) }

span-long : (p : Span) (k : List ℕ) → ltb (length (put_span p k)) 8 ≡ false
unfolding put_span put32
span-long p k = le-ltb (length (put_span p k)) 8 (omega arith)

span-first : (p : Span) (k : List ℕ) → ValidSpan p → get32 (put_span p k) 0 ≡ p.start
unfolding put_span get_span
span-first p k h = ap (λ (q : Span). q.start) (get_span_put p k h)

span_second : (p : Span) (k : List ℕ) → ValidSpan p → get32 (put_span p k) 4 ≡ p.end
unfolding put_span get_span
span_second p k h = ap (λ (q : Span). q.end) (get_span_put p k h)

spanned_put : {A : Type 0} (p : Span) (k : List ℕ) (f : Span → Turn A) → ValidSpan p → spanned (put_span p k) f ≡ f p
unfolding spanned
spanned_put p k f h =
    rw (span-long p k, span-first p k h, span_second p k h, le-ltb p.end p.start h.0)
    (ap f (get_span_put p k h))

nested_in : {A : Type 0} (d : ℕ) (s : List ℕ) (t : Turn A) → d < 32 → nested d s t ≡ t
unfolding nested
nested_in d s t h = rw (lt-ltb d 32 h)

outside_in : {A : Type 0} (m : Mode) (s : List ℕ) (t : Turn A) → NotPattern m → outside m s t ≡ t
unfolding outside
outside_in Mode.pattern s t h = absurd h
outside_in Mode.result s t h = refl

-- A span is passed over.
run-span : (x : Stack) (p : Span) (k : List ℕ) → run x 8 (put_span p k) ≡ run x 0 k
unfolding run put_span put32
run-span x p k = refl

-- So many bytes are passed over.
pub run_past : (x : Stack) (n k : List ℕ) → run x (length n) (n ++ k) ≡ run x 0 k
unfolding run
run_past x [] k = refl
run_past x (b ∷ n) k = run_past x n k

scan_fair : (g : Bool) (n k : List ℕ) → AllAllowed g n → scan g (length n) (n ++ k) ≡ Scan.good
unfolding scan
scan_fair g [] k h = refl
scan_fair g (b ∷ n) k h = rw h.0 (scan_fair g n k h.1)

named_put : {A : Type 0} (g : Bool) (n k : List ℕ) (t : Turn A) → ValidName g n → named g (length n) (n ++ k) t ≡ t
unfolding named scanned
named_put g n k t h = rw (lt-ltb 0 (length n) h.0, le-leb (length n) 63 h.1, scan_fair g n k h.2)

-- A name.
run-name : (g : Bool) (x : Stack) (n k : List ℕ) → ValidName g n → Makes (run (Stack.name g x) 0 (put_name n k)) (λ v. (n, v)) (run x 0 k)
unfolding run turn follow put_name
run-name g x n k h =
    record {
      is =
          ap (λ (t : Turn (List ℕ × Values x)). follow t (λ y j. run y j (n ++ k))) (named_put g n k (Turn.go x (length n) (λ v. (take (length n) (n ++ k), v))) h)
          ∙ rw (take-append_seam n k, run_past x n k);
    }

-- A mark and its span.
marked : (x y : Stack) (b : ℕ) (p : Span) (k : List ℕ) (g : Values y → Values x) → turn x b (put_span p k) ≡ Turn.go y 8 g → Makes (run x 0 (b ∷ put_span p k)) g (run y 0 k)
unfolding run follow
marked x y b p k g e =
    record { is = ap (λ (t : Turn (Values x)). follow t (λ z j. run z j (put_span p k))) e ∙ ap (made g) (run-span y p k) }

pub scalar_fits : (c : ℕ) → scalar c ≡ true → c < 4294967296
unfolding scalar
scalar_fits c e = by (ltb c 55296) (leb c 57343) refl refl e
  where
    by : (a b : Bool) → ltb c 55296 ≡ a → leb c 57343 ≡ b → pick a true (pick b false (leb c 1114111)) ≡ true → c < 4294967296
    by true b p q r = let h = ltb-true c 55296 p in omega arith
    by false true p q r = let h = leb-true c 57343 q in omega arith
    by false false p q r = let h = leb-true c 1114111 r in omega arith

code-long : (c : ℕ) (k : List ℕ) → ltb (length (drop 1 (put32 c k))) 3 ≡ false
unfolding put32
code-long c k = le-ltb (length (drop 1 (put32 c k))) 3 (omega arith)

code-value : (c : ℕ) (k : List ℕ) → c < 4294967296 → get32 (c % 256 ∷ drop 1 (put32 c k)) 0 ≡ c
unfolding put32
code-value c k h = get32-put32 c k h

code-turn : (x : Stack) (c : ℕ) (k : List ℕ) → scalar c ≡ true → turn (Stack.code x) (c % 256) (drop 1 (put32 c k)) ≡ Turn.go x 3 (λ v. (c, v))
unfolding turn turn_code put32
code-turn x c k h = rw (code-long c k, code-value c k (scalar_fits c h), h)

run-code : (x : Stack) (c : ℕ) (k : List ℕ) → scalar c ≡ true → Makes (run (Stack.code x) 0 (put32 c k)) (λ v. (c, v)) (run x 0 k)
unfolding run turn follow put32
run-code x c k h =
    record { is = ap (λ (t : Turn (ℕ × Values x)). follow t (λ y j. run y j (drop 1 (put32 c k)))) (code-turn x c k h) }

term_character : (m : Mode) (d : ℕ) (x : Stack) (s : Span) (c : ℕ) (k : List ℕ) → ValidSpan s → scalar c ≡ true
    → Makes (run (Stack.terms m d x) 0 (1 ∷ put_span s (put32 c k))) (λ v. (symbol s (character c) v.0, v.1)) (run (Stack.terms m d x) 0 k)
unfolding turn turn_terms term_mark
term_character m d x s c k h hc =
    after (marked (Stack.terms m d x) (Stack.code (Stack.terms m d x)) 1 s (put32 c k) _ (spanned_put s (put32 c k) _ h)) (run-code (Stack.terms m d x) c k hc)

-- A term that is a span and a name.
term_word : (w : Word) (m : Mode) (d : ℕ) (x : Stack) (s : Span) (n k : List ℕ) → ValidSpan s → ValidName (is_number w) n
    → Makes (run (Stack.terms m d x) 0 (word_mark w ∷ put_span s (put_name n k))) (λ v. (word_term w s n v.0, v.1)) (run (Stack.terms m d x) 0 k)
unfolding turn turn_terms term_mark word_mark kind_mark
term_word w m d x s n k h hn =
    after (marked (Stack.terms m d x) (Stack.name (is_number w) (Stack.terms m d x)) (word_mark w) s (put_name n k) (λ v. (word_term w s v.0 v.1.0, v.1.1)) (turns w))
    (run-name (is_number w) (Stack.terms m d x) n k hn)
  where
    turns : (u : Word) → turn (Stack.terms m d x) (word_mark u) (put_span s (put_name n k)) ≡ Turn.go (Stack.name (is_number u) (Stack.terms m d x)) 8 (λ v. (word_term u s v.0 v.1.0, v.1.1))
    turns Word.identifier = spanned_put s (put_name n k) _ h
    turns Word.number = spanned_put s (put_name n k) _ h
    turns (Word.variable s_kind) = spanned_put s (put_name n k) _ h
    turns (Word.variable t_kind) = spanned_put s (put_name n k) _ h
    turns (Word.variable e_kind) = spanned_put s (put_name n k) _ h

term_symbol : (m : Mode) (d : ℕ) (x : Stack) (s : Span) (y : Symbol) (k : List ℕ) → ValidSpan s → ValidSymbol y
    → Makes (run (Stack.terms m d x) 0 (put_symbol s y k)) (λ v. (symbol s y v.0, v.1)) (run (Stack.terms m d x) 0 k)
unfolding put_symbol word_mark word_term is_number
term_symbol m d x s (character c) k h hy = term_character m d x s c k h hy
term_symbol m d x s (identifier n) k h hy = term_word Word.identifier m d x s n k h hy
term_symbol m d x s (number n) k h hy = term_word Word.number m d x s n k h hy

term_variable : (m : Mode) (d : ℕ) (x : Stack) (s : Span) (v : Kind) (n k : List ℕ) → ValidSpan s → ValidName false n
    → Makes (run (Stack.terms m d x) 0 (kind_mark v ∷ put_span s (put_name n k))) (λ u. (variable s v n u.0, u.1)) (run (Stack.terms m d x) 0 k)
unfolding word_mark word_term is_number
term_variable m d x s v n k h hn = term_word (Word.variable v) m d x s n k h hn

term_bracket : (m : Mode) (d : ℕ) (x : Stack) (s : Span) (k : List ℕ) → ValidSpan s → d < 32
    → Makes (run (Stack.terms m d x) 0 (7 ∷ put_span s k)) (λ v. (bracket s v.0 v.1.0, v.1.1)) (run (Stack.terms m (suc d) (Stack.terms m d x)) 0 k)
unfolding turn turn_terms term_mark
term_bracket m d x s k h hd =
    marked (Stack.terms m d x) (Stack.terms m (suc d) (Stack.terms m d x)) 7 s k _ (nested_in d _ _ hd ∙ spanned_put s k _ h)

term_call : (m : Mode) (d : ℕ) (x : Stack) (s : Span) (n k : List ℕ) → ValidSpan s → d < 32 → NotPattern m → ValidName false n
    → Makes (run (Stack.terms m d x) 0 (8 ∷ put_span s (put_name n k))) (λ v. (call s n v.0 v.1.0, v.1.1)) (run (Stack.terms m (suc d) (Stack.terms m d x)) 0 k)
unfolding turn turn_terms term_mark
term_call m d x s n k h hd ho hn =
    after (marked (Stack.terms m d x) (Stack.name false (Stack.terms m (suc d) (Stack.terms m d x))) 8 s (put_name n k) _ (outside_in m _ _ ho ∙ (nested_in d _ _ hd ∙ spanned_put s (put_name n k) _ h)))
    (run-name false (Stack.terms m (suc d) (Stack.terms m d x)) n k hn)

term_block : (m : Mode) (d : ℕ) (x : Stack) (s : Span) (k : List ℕ) → ValidSpan s → d < 32 → NotPattern m
    → Makes (run (Stack.terms m d x) 0 (9 ∷ put_span s k)) (λ v. (block s v.0 v.1.0 v.1.1.0, v.1.1.1)) (run (Stack.terms m (suc d) (Stack.sentences (suc d) (Stack.terms m d x))) 0 k)
unfolding turn turn_terms term_mark
term_block m d x s k h hd ho =
    marked (Stack.terms m d x) (Stack.terms m (suc d) (Stack.sentences (suc d) (Stack.terms m d x))) 9 s k _ (outside_in m _ _ ho ∙ (nested_in d _ _ hd ∙ spanned_put s k _ h))

one-condition : (d : ℕ) (x : Stack) (s : Span) (k : List ℕ) → ValidSpan s
    → Makes (run (Stack.conditions d x) 0 (11 ∷ put_span s k)) (λ v. (condition s v.0 v.1.0 v.1.1.0, v.1.1.1)) (run (Stack.terms Mode.result d (Stack.terms Mode.pattern d (Stack.conditions d x))) 0 k)
unfolding turn turn_conditions condition_mark
one-condition d x s k h = marked (Stack.conditions d x) (Stack.terms Mode.result d (Stack.terms Mode.pattern d (Stack.conditions d x))) 11 s k _ (spanned_put s k _ h)

no-condition : (d : ℕ) (x : Stack) (k : List ℕ) → Makes (run (Stack.conditions d x) 0 (12 ∷ k)) (λ v. (none, v)) (run (Stack.terms Mode.result d x) 0 k)
unfolding run turn turn_conditions condition_mark follow
no-condition d x k = record { is = refl }

one-sentence : (d : ℕ) (x : Stack) (h : Head) (k : List ℕ) → ValidSpan h.span
    → Makes (run (Stack.sentences d x) 0 (put_head h k)) (λ v. (sentence h v.0 v.1.0 v.1.1.0 v.1.1.1.0, v.1.1.1.1)) (run (Stack.terms Mode.pattern d (Stack.conditions d (Stack.sentences d x))) 0 k)
unfolding turn turn_sentences sentence_mark put_head
one-sentence d x h k hs = marked (Stack.sentences d x) (Stack.terms Mode.pattern d (Stack.conditions d (Stack.sentences d x))) 10 h.span k _ (spanned_put h.span k _ hs)

close-terms : (m : Mode) (d : ℕ) (x : Stack) (k : List ℕ) → Makes (run (Stack.terms m d x) 0 (15 ∷ k)) (λ v. (nil, v)) (run x 0 k)
unfolding run turn turn_terms term_mark follow
close-terms m d x k = record { is = refl }

close-sentences : (d : ℕ) (x : Stack) (k : List ℕ) → Makes (run (Stack.sentences d x) 0 (15 ∷ k)) (λ v. (empty, v)) (run x 0 k)
unfolding run turn turn_sentences sentence_mark follow
close-sentences d x k = record { is = refl }

mutual
  unfolding put_terms put_conditions put_sentences

  pub run-terms : (t : Terms) (m : Mode) (d : ℕ) (x : Stack) (k : List ℕ) → ValidTerms t m d → Makes (run (Stack.terms m d x) 0 (put_terms t k)) (λ v. (t, v)) (run x 0 k)
  run-terms nil m d x k h = close-terms m d x k
  run-terms (symbol s y r) m d x k h = after (term_symbol m d x s y (put_terms r k) h.0 h.1) (run-terms r m d x k h.2)
  run-terms (variable s v n r) m d x k h = after (term_variable m d x s v n (put_terms r k) h.0 h.1) (run-terms r m d x k h.2)
  run-terms (bracket s t r) m d x k h =
      after (after (term_bracket m d x s (put_terms t (put_terms r k)) h.0 h.1)
      (run-terms t m (suc d) (Stack.terms m d x) (put_terms r k) h.2))
      (run-terms r m d x k h.3)
  run-terms (call s n t r) m d x k h =
      after (after (term_call m d x s n (put_terms t (put_terms r k)) h.0 h.1 h.2 h.3)
      (run-terms t m (suc d) (Stack.terms m d x) (put_terms r k) h.4))
      (run-terms r m d x k h.5)
  run-terms (block s t b r) m d x k h =
      after (after (after (term_block m d x s (put_terms t (put_sentences b (put_terms r k))) h.0 h.1 h.2)
      (run-terms t m (suc d) (Stack.sentences (suc d) (Stack.terms m d x)) (put_sentences b (put_terms r k)) h.3))
      (run-sentences b (suc d) (Stack.terms m d x) (put_terms r k) h.4))
      (run-terms r m d x k h.5)

  -- Conditions, up to the mark of the result.
  pub run-conditions : (c : Conditions) (d : ℕ) (x : Stack) (k : List ℕ) → ValidConditions c d → Makes (run (Stack.conditions d x) 0 (put_conditions c (12 ∷ k))) (λ v. (c, v)) (run (Stack.terms Mode.result d x) 0 k)
  run-conditions none d x k h = no-condition d x k
  run-conditions (condition s t p c) d x k h =
      after (after (after (one-condition d x s (put_terms t (put_terms p (put_conditions c (12 ∷ k)))) h.0)
      (run-terms t Mode.result d (Stack.terms Mode.pattern d (Stack.conditions d x)) (put_terms p (put_conditions c (12 ∷ k))) h.1))
      (run-terms p Mode.pattern d (Stack.conditions d x) (put_conditions c (12 ∷ k)) h.2))
      (run-conditions c d x k h.3)

  pub run-sentences : (b : Sentences) (d : ℕ) (x : Stack) (k : List ℕ) → ValidSentences b d → Makes (run (Stack.sentences d x) 0 (put_sentences b k)) (λ v. (b, v)) (run x 0 k)
  run-sentences empty d x k h = close-sentences d x k
  run-sentences (sentence a p c r b) d x k h =
      after (after (after (after (one-sentence d x a (put_terms p (put_conditions c (12 ∷ put_terms r (put_sentences b k)))) h.0)
      (run-terms p Mode.pattern d (Stack.conditions d (Stack.sentences d x)) (put_conditions c (12 ∷ put_terms r (put_sentences b k))) h.1))
      (run-conditions c d (Stack.sentences d x) (put_terms r (put_sentences b k)) h.2))
      (run-terms r Mode.result d (Stack.sentences d x) (put_sentences b k) h.3))
      (run-sentences b d x k h.4)

names_more : (a : List ℕ) (n : ℕ) (x : Stack) (k : List ℕ) → ValidName false a
    → Makes (run (Stack.names (suc n) x) 0 (put_name a k)) (λ v. (a ∷ v.0, v.1)) (run (Stack.names n x) 0 k)
unfolding run turn turn_names follow put_name
names_more a n x k h =
    record {
      is =
          ap (λ (t : Turn (List (List ℕ) × Values x)). follow t (λ y j. run y j (a ++ k))) (named_put false a k (Turn.go (Stack.names n x) (length a) (λ v. (take (length a) (a ++ k) ∷ v.0, v.1))) h)
          ∙ rw (take-append_seam a k, run_past (Stack.names n x) a k);
    }

-- A name and those after it.
run-names : (a : List ℕ) (ns : List (List ℕ)) (x : Stack) (k : List ℕ) → ValidName false a → ValidNames ns
    → Makes (run (Stack.names (length ns) x) 0 (put_name a (put_names ns k))) (λ v. (a ∷ ns, v)) (run x 0 k)
unfolding run turn turn_names follow put_name put_names
run-names a [] x k h hs =
    record {
      is =
          ap (λ (t : Turn (List (List ℕ) × Values x)). follow t (λ y j. run y j (a ++ k))) (named_put false a k (Turn.go x (length a) (λ v. (take (length a) (a ++ k) ∷ [], v))) h)
          ∙ rw (take-append_seam a k, run_past x a k);
    }
run-names a (b ∷ ns) x k h hs = after (names_more a (length ns) x (put_name b (put_names ns k)) h) (run-names b ns x k hs.0 hs.1)

counted-some : (n : ℕ) (x : Stack) (k : List ℕ) → Makes (run (Stack.counted x) 0 (suc n ∷ k)) (λ v. v) (run (Stack.names n x) 0 k)
unfolding run turn turn_counted follow
counted-some n x k = record { is = refl }

run-counted : (ns : List (List ℕ)) (x : Stack) (k : List ℕ) → ValidNames ns → Makes (run (Stack.counted x) 0 (length ns ∷ put_names ns k)) (λ v. (ns, v)) (run x 0 k)
unfolding run turn turn_counted follow put_names
run-counted [] x k h = record { is = refl }
run-counted (a ∷ ns) x k h = after (counted-some (length ns) x (put_name a (put_names ns k))) (run-names a ns x k h.0 h.1)

run-visibility : (b : Visibility) (x : Stack) (k : List ℕ) → Makes (run (Stack.visibility x) 0 (visibility_byte b ∷ k)) (λ v. (b, v)) (run x 0 k)
unfolding run turn turn_visibility follow visibility_byte
run-visibility local x k = record { is = refl }
run-visibility entry x k = record { is = refl }

-- What follows a function's span, and a declaration's.
abbrev function-rest : Function → List ℕ → List ℕ
function-rest f k = visibility_byte f.visibility ∷ put_name f.name (put_sentences f.sentences k)

abbrev declaration-rest : Declaration → List Declaration → List Function → List ℕ
declaration-rest d ds fs = length d.names ∷ put_names d.names (put_declarations ds (put_functions fs))

run-function : (f : Function) (k : List ℕ) → ValidName false f.name → ValidSentences f.sentences 0
    → Makes (run (Stack.visibility (Stack.name false (Stack.sentences 0 Stack.functions))) 0 (function-rest f k)) (λ v. (f.visibility, (f.name, (f.sentences, v)))) (run Stack.functions 0 k)
run-function f k hn hb =
    after (after (run-visibility f.visibility (Stack.name false (Stack.sentences 0 Stack.functions)) (put_name f.name (put_sentences f.sentences k)))
    (run-name false (Stack.sentences 0 Stack.functions) f.name (put_sentences f.sentences k) hn))
    (run-sentences f.sentences 0 Stack.functions k hb)

abbrev program : List Declaration → List Function → Program
program ds fs = record { declarations = ds; functions = fs }

pub run-functions : (fs : List Function) → ValidFunctions fs → run Stack.functions 0 (put_functions fs) ≡ Read.value fs
unfolding run at_end put_function put_functions made turn turn_functions turn_function item_mark
run-functions [] h = refl
run-functions (f ∷ fs) h =
    (after (marked Stack.functions (Stack.visibility (Stack.name false (Stack.sentences 0 Stack.functions))) 18 f.span (function-rest f (put_functions fs)) _ (spanned_put f.span (function-rest f (put_functions fs)) _ h.0))
    (run-function f (put_functions fs) h.1 h.2)).is
    ∙ ap (made (λ (gs : List Function). f ∷ gs)) (run-functions fs h.3)

-- Functions where declarations could stand.
body-functions : (fs : List Function) → ValidFunctions fs → run Stack.body 0 (put_functions fs) ≡ Read.value (program [] fs)
unfolding run at_end put_function put_functions made turn turn_body turn_function item_mark
body-functions [] h = refl
body-functions (f ∷ fs) h =
    (after (marked Stack.body (Stack.visibility (Stack.name false (Stack.sentences 0 Stack.functions))) 18 f.span (function-rest f (put_functions fs)) _ (spanned_put f.span (function-rest f (put_functions fs)) _ h.0))
    (run-function f (put_functions fs) h.1 h.2)).is
    ∙ ap (made (λ (gs : List Function). program [] (f ∷ gs))) (run-functions fs h.3)

run-declarations : (ds : List Declaration) (fs : List Function) → ValidDeclarations ds → ValidFunctions fs → run Stack.body 0 (put_declarations ds (put_functions fs)) ≡ Read.value (program ds fs)
unfolding run put_declarations made turn turn_body item_mark
run-declarations [] fs h hf = body-functions fs hf
run-declarations (d ∷ ds) fs h hf =
    (after (marked Stack.body (Stack.counted Stack.body) 17 d.span (declaration-rest d ds fs) _ (spanned_put d.span (declaration-rest d ds fs) _ h.0))
    (run-counted d.names Stack.body (put_declarations ds (put_functions fs)) h.2)).is
    ∙ ap (made (λ (w : Program). program (d ∷ w.declarations) w.functions)) (run-declarations ds fs h.3 hf)

-- The body of a program within the limits is read back.
pub run-body : (w : Program) → ValidBody w → run Stack.body 0 (put_body w) ≡ Read.value w
unfolding put_body
run-body w h = run-declarations w.declarations w.functions h.0 h.1
