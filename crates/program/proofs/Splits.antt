-- What a writer puts before the bytes that follow does not depend on them.
use Prim.Native.Nat.{ℕ}
use mathlib.Core.Path.{◌≡◌, refl, sym, ap, ◌∙◌}
use mathlib.Core.List.{List, [], ◌∷◌, ◌++◌, append_assoc, append-nil}
use lib.ListN.{length}
use Rattle.program.specs.Syntax.{Name, Span, Symbol, character, identifier, number, Head, Terms, nil, symbol, variable, bracket, call, block, Conditions, none, condition, Sentences, empty, sentence, Declaration}
use Rattle.program.specs.Bytes.{put32, put_span, put_name}
use Rattle.program.specs.Encode.{put_symbol, kind_mark, put_head, put_terms, put_conditions, put_sentences, put_names, put_declarations}

abbrev pub Splits : (List ℕ → List ℕ) → Type 0
Splits f = (k : List ℕ) → f k ≡ f [] ++ k

pub splits-after : (f g : List ℕ → List ℕ) → Splits f → Splits g → Splits (λ k. f (g k))
splits-after f g hf hg k =
    hf (g k) ∙ (ap (λ (l : List ℕ). f [] ++ l) (hg k) ∙ (sym (append_assoc (f []) (g []) k) ∙ ap (λ (l : List ℕ). l ++ k) (sym (hf (g [])))))

pub splits_cons : (b : ℕ) (f : List ℕ → List ℕ) → Splits f → Splits (λ k. b ∷ f k)
splits_cons b f hf k = ap (λ (l : List ℕ). b ∷ l) (hf k)

pub span-splits : (p : Span) → Splits (put_span p)
unfolding put_span put32
span-splits p k = refl

code-splits : (c : ℕ) → Splits (put32 c)
unfolding put32
code-splits c k = refl

name-splits : (n : Name) → Splits (put_name n)
unfolding put_name
name-splits n k = ap (λ (l : List ℕ). length n ∷ (l ++ k)) (sym (append-nil n))

pub symbol-splits : (p : Span) (x : Symbol) → Splits (put_symbol p x)
unfolding put_symbol
symbol-splits p (character c) k = splits_cons 1 (λ l. put_span p (put32 c l)) (splits-after (put_span p) (put32 c) (span-splits p) (code-splits c)) k
symbol-splits p (identifier n) k = splits_cons 2 (λ l. put_span p (put_name n l)) (splits-after (put_span p) (put_name n) (span-splits p) (name-splits n)) k
symbol-splits p (number n) k = splits_cons 3 (λ l. put_span p (put_name n l)) (splits-after (put_span p) (put_name n) (span-splits p) (name-splits n)) k

pub head-splits : (h : Head) → Splits (put_head h)
unfolding put_head
head-splits h k = splits_cons 10 (put_span h.span) (span-splits h.span) k

-- a span and what follows it
pub spanned-splits : (b : ℕ) (p : Span) (f : List ℕ → List ℕ) → Splits f → Splits (λ k. b ∷ put_span p (f k))
spanned-splits b p f hf k = splits_cons b (λ l. put_span p (f l)) (splits-after (put_span p) f (span-splits p) hf) k

mutual
  unfolding put_terms put_conditions put_sentences

  pub terms-splits : (t : Terms) (k : List ℕ) → put_terms t k ≡ put_terms t [] ++ k
  terms-splits nil k = refl
  terms-splits (symbol p x r) k = splits-after (put_symbol p x) (put_terms r) (symbol-splits p x) (λ l. terms-splits r l) k
  terms-splits (variable p v n r) k = spanned-splits (kind_mark v) p (λ l. put_name n (put_terms r l)) (splits-after (put_name n) (put_terms r) (name-splits n) (λ l. terms-splits r l)) k
  terms-splits (bracket p t r) k = spanned-splits 7 p (λ l. put_terms t (put_terms r l)) (splits-after (put_terms t) (put_terms r) (λ l. terms-splits t l) (λ l. terms-splits r l)) k
  terms-splits (call p n t r) k =
      spanned-splits 8 p (λ l. put_name n (put_terms t (put_terms r l)))
      (splits-after (put_name n) (λ l. put_terms t (put_terms r l)) (name-splits n) (splits-after (put_terms t) (put_terms r) (λ l. terms-splits t l) (λ l. terms-splits r l))) k
  terms-splits (block p t b r) k =
      spanned-splits 9 p (λ l. put_terms t (put_sentences b (put_terms r l)))
      (splits-after (put_terms t) (λ l. put_sentences b (put_terms r l)) (λ l. terms-splits t l) (splits-after (put_sentences b) (put_terms r) (λ l. sentences-splits b l) (λ l. terms-splits r l))) k

  pub conditions-splits : (c : Conditions) (k : List ℕ) → put_conditions c k ≡ put_conditions c [] ++ k
  conditions-splits none k = refl
  conditions-splits (condition p t q c) k =
      spanned-splits 11 p (λ l. put_terms t (put_terms q (put_conditions c l)))
      (splits-after (put_terms t) (λ l. put_terms q (put_conditions c l)) (λ l. terms-splits t l) (splits-after (put_terms q) (put_conditions c) (λ l. terms-splits q l) (λ l. conditions-splits c l))) k

  pub sentences-splits : (b : Sentences) (k : List ℕ) → put_sentences b k ≡ put_sentences b [] ++ k
  sentences-splits empty k = refl
  sentences-splits (sentence h p c r b) k =
      splits-after (put_head h) (λ l. put_terms p (put_conditions c (12 ∷ put_terms r (put_sentences b l)))) (head-splits h)
      (splits-after (put_terms p) (λ l. put_conditions c (12 ∷ put_terms r (put_sentences b l))) (λ l. terms-splits p l)
      (splits-after (put_conditions c) (λ l. 12 ∷ put_terms r (put_sentences b l)) (λ l. conditions-splits c l)
      (splits_cons 12 (λ l. put_terms r (put_sentences b l)) (splits-after (put_terms r) (put_sentences b) (λ l. terms-splits r l) (λ l. sentences-splits b l))))) k

names-splits : (ns : List Name) → Splits (put_names ns)
unfolding put_names
names-splits [] k = refl
names-splits (n ∷ ns) k = splits-after (put_name n) (put_names ns) (name-splits n) (names-splits ns) k

pub declarations-splits : (ds : List Declaration) → Splits (put_declarations ds)
unfolding put_declarations
declarations-splits [] k = refl
declarations-splits (d ∷ ds) k =
    spanned-splits 17 d.span (λ l. length d.names ∷ put_names d.names (put_declarations ds l))
    (splits_cons (length d.names) (λ l. put_names d.names (put_declarations ds l)) (splits-after (put_names d.names) (put_declarations ds) (names-splits d.names) (declarations-splits ds))) k
