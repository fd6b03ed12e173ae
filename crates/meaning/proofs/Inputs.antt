-- What is written as an input or as answers is read as it was.
use Prim.Native.Nat.{ℕ, zero, suc, ◌+◌, ◌<◌, ◌≤◌}
use native.Mathlib.Omega.{arith}
use mathlib.Core.Path.{◌≡◌, refl, sym, ap, ◌∙◌}
use mathlib.Core.Bool.{Bool, true, false, true≢false, ◌&&◌, cond}
use mathlib.Core.List.{List, [], ◌∷◌, ◌++◌}
use mathlib.Core.Option.{Option, some}
use lib.Dec.{eqb, leb, ltb}
use lib.ListN.{length, take, drop}
use Rattle.program.specs.Syntax.{Name, Span, Symbol, character, identifier, number}
use Rattle.program.specs.Bytes.{put32, put_span, put_name, get32}
use Rattle.program.specs.Encode.{put_symbol}
use borrow.Author.Tests.{ltb-true, leb-true, le-leb, ne_eqb}
use Rattle.program.proofs.Numbers.{get32-put32}
use Rattle.program.proofs.Lengths.{span-length}
use Rattle.program.specs.Limits.{pick, allowed, scalar, AllAllowed, ValidSpan, ValidName, ValidSymbol}
use Rattle.patterns.specs.Expression.{Expression, void, atom, group, ◌⧺◌}
use Rattle.patterns.specs.Marks.{zero_span, put_expression}
use Rattle.patterns.proofs.Expression.{⧺_void}
use Rattle.meaning.specs.Lists.{all}
use Rattle.meaning.specs.Inputs.{Token, Reading, reading, span_fits, name_fits, code_fits, named, first_token, if_read, tokens_up_to, tokens, before_all, expressions, single, input_of, answers_of}

-- ---- tokens into expressions

-- The tokens of an expression, and those that follow.
unfoldable pub tokens_of : Expression → List Token → List Token
tokens_of void l = l
tokens_of (atom x v) l = Token.symbol x ∷ tokens_of v l
tokens_of (group u v) l = Token.opening ∷ tokens_of u (Token.closing ∷ tokens_of v l)

pub expressions_of : (v w : Expression) (ts : List Token) (l m : List Expression) → expressions ts l ≡ some (w ∷ m) → expressions (tokens_of v ts) l ≡ some ((v ⧺ w) ∷ m)
unfolding tokens_of expressions if_read before_all ◌⧺◌
expressions_of void w ts l m e = e
expressions_of (atom x v) w ts l m e = ap (λ (o : Option (List Expression)). if_read o (before_all (Token.symbol x))) (expressions_of v w ts l m e)
expressions_of (group u v) w ts l m e =
    ap (λ (o : Option (List Expression)). if_read o (before_all Token.opening))
    (expressions_of u void (Token.closing ∷ tokens_of v ts) l ((v ⧺ w) ∷ m) (ap (λ (o : Option (List Expression)). if_read o (before_all Token.closing)) (expressions_of v w ts l m e))
    ∙ ap (λ (z : Expression). some (z ∷ ((v ⧺ w) ∷ m))) (⧺_void u))

-- ---- bytes into tokens

both : {a b : Bool} → a ≡ true → b ≡ true → (a && b) ≡ true
both {a} {b} h k = ap (λ (t : Bool). t && b) h ∙ k

-- What a name's test gives, however long the bytes behind it.
all-allowed : (g : Bool) (n : Name) → AllAllowed g n → all (allowed g) n ≡ true
unfolding all
all-allowed g [] h = refl
all-allowed g (b ∷ n) h = both h.0 (all-allowed g n h.1)

front : (n k : List ℕ) → take (length n) (n ++ k) ≡ n
front [] k = refl
front (b ∷ n) k = ap (λ (l : List ℕ). b ∷ l) (front n k)

behind : (n k : List ℕ) → drop (length n) (n ++ k) ≡ k
behind [] k = refl
behind (b ∷ n) k = behind n k

long : (n k : List ℕ) → length n ≤ length (n ++ k)
long [] k = omega arith
long (b ∷ n) k = let h = long n k in omega (arith, h)

-- A code behind a mark and a span, and that codes of document 01 have 32 bits.
code_back : (p : Span) (c : ℕ) (k : List ℕ) → c < 4294967296 → get32 (1 ∷ put_span p (put32 c k)) 9 ≡ c
unfolding get32 put_span put32
code_back p c k h = get32-put32 c k h

scalar-small : (c : ℕ) → scalar c ≡ true → c < 4294967296
unfolding scalar
scalar-small c h = by (ltb c 55296) refl h
  where
    top : (t u : Bool) → leb c 57343 ≡ t → leb c 1114111 ≡ u → pick t false u ≡ true → c < 4294967296
    top t true e f g = let k = leb-true c 1114111 f in omega (arith, k)
    top true false e f g = absurd (true≢false (sym g))
    top false false e f g = absurd (true≢false (sym g))

    by : (t : Bool) → ltb c 55296 ≡ t → pick t true (pick (leb c 57343) false (leb c 1114111)) ≡ true → c < 4294967296
    by true e g = let k = ltb-true c 55296 e in omega (arith, k)
    by false e g = top (leb c 57343) (leb c 1114111) refl refl g

unfoldable pub symbol_bytes : Symbol → ℕ
symbol_bytes (character c) = 13
symbol_bytes (identifier n) = 10 + length n
symbol_bytes (number n) = 10 + length n

-- A record with a span and a name.
name-fits : (g : Bool) (m : ℕ) (p : Span) (n k : List ℕ) → ValidName g n → name_fits g (m ∷ put_span p (put_name n k)) ≡ true
unfolding name_fits put_span put32 put_name
name-fits g m p n k h =
    let l = long n k in
    both (le-leb 1 (length n) h.0)
    (both (le-leb (length n) 63 h.1) (both (le-leb (10 + length n) (length (m ∷ put_span p (put_name n k))) (omega (arith, l))) (ap (all (allowed g)) (front n k) ∙ all-allowed g n h.2)))

span_back : (m : ℕ) (p : Span) (k : List ℕ) → ValidSpan p → (get32 (m ∷ put_span p k) 1 ≡ p.start) × (get32 (m ∷ put_span p k) 5 ≡ p.end)
unfolding put_span put32 get32
span_back m p k h = (get32-put32 p.start (put32 p.end k) (omega arith), get32-put32 p.end k h.1)

span_fits_lem : (m : ℕ) (p : Span) (k : List ℕ) → ValidSpan p → span_fits (m ∷ put_span p k) ≡ true
unfolding span_fits
span_fits_lem m p k h =
    let e = span_back m p k h in
    both (le-leb 9 (length (m ∷ put_span p k)) (let l = span-length p k in omega (arith, l))) (le-leb (get32 (m ∷ put_span p k) 1) (get32 (m ∷ put_span p k) 5) (omega (arith, e.0, e.1, h.0)))

yes : {A : Type 0} (t : Bool) (a b : A) → t ≡ true → cond t a b ≡ a
yes t a b e = ap (λ (x : Bool). cond x a b) e

long-code : (p : Span) (c : ℕ) (k : List ℕ) → leb 13 (length (1 ∷ put_span p (put32 c k))) ≡ true
unfolding put_span put32
long-code p c k = le-leb 13 (length (1 ∷ put_span p (put32 c k))) (omega arith)

behind-name : (m : ℕ) (p : Span) (n k : List ℕ) → drop (10 + length n) (m ∷ put_span p (put_name n k)) ≡ k
unfolding put_span put32 put_name
behind-name m p n k = ap (λ (i : ℕ). drop i (m ∷ put_span p (put_name n k))) (plus_ten (length n)) ∙ behind n k
  where
    plus_ten : (i : ℕ) → 10 + i ≡ suc (suc (suc (suc (suc (suc (suc (suc (suc (suc i)))))))))
    plus_ten i = omega arith

pub first-symbol : (p : Span) → ValidSpan p → (x : Symbol) → ValidSymbol x → (k : List ℕ) → first_token (put_symbol p x k) ≡ reading (Token.symbol x) (symbol_bytes x)
unfolding first_token put_symbol symbol_bytes code_fits put_span put32 put_name
first-symbol p v (character c) h k =
    yes (span_fits (1 ∷ put_span p (put32 c k))) _ _ (span_fits_lem 1 p (put32 c k) v)
    ∙ (yes (code_fits (1 ∷ put_span p (put32 c k))) _ _ (both (long-code p c k) (ap scalar (code_back p c k (scalar-small c h)) ∙ h))
    ∙ ap (λ (d : ℕ). reading (Token.symbol (character d)) 13) (code_back p c k (scalar-small c h)))
first-symbol p v (identifier n) h k =
    yes (span_fits (2 ∷ put_span p (put_name n k))) _ _ (span_fits_lem 2 p (put_name n k) v)
    ∙ (yes (name_fits false (2 ∷ put_span p (put_name n k))) _ _ (name-fits false 2 p n k h)
    ∙ ap (λ (d : Name). reading (Token.symbol (identifier d)) (10 + length n)) (unfold named put_span put32 put_name in front n k))
first-symbol p v (number n) h k =
    yes (span_fits (3 ∷ put_span p (put_name n k))) _ _ (span_fits_lem 3 p (put_name n k) v)
    ∙ (yes (name_fits true (3 ∷ put_span p (put_name n k))) _ _ (name-fits true 3 p n k h)
    ∙ ap (λ (d : Name). reading (Token.symbol (number d)) (10 + length n)) (unfold named put_span put32 put_name in front n k))

pub behind-symbol : (p : Span) (x : Symbol) (k : List ℕ) → drop (symbol_bytes x) (put_symbol p x k) ≡ k
unfolding symbol_bytes put_symbol put_span put32 put_name
behind-symbol p (character c) k = refl
behind-symbol p (identifier n) k = behind-name 2 p n k
behind-symbol p (number n) k = behind-name 3 p n k

-- A zero span is one.
pub zero_valid : ValidSpan zero_span
unfolding zero_span
zero_valid = (omega arith, omega arith)

-- The bytes of an expression begin with its tokens.
abbrev pub ValidExpression : Expression → Type 0
ValidExpression void = Unit {0}
ValidExpression (atom x v) = ValidSymbol x × ValidExpression v
ValidExpression (group u v) = ValidExpression u × ValidExpression v

no : {A : Type 0} (t : Bool) (a b : A) → t ≡ false → cond t a b ≡ b
no t a b e = ap (λ (x : Bool). cond x a b) e

long-behind : (n k : List ℕ) → length k ≤ length (n ++ k)
long-behind [] k = omega arith
long-behind (b ∷ n) k = let h = long-behind n k in omega (arith, h)

pub first_opening : (p : Span) → ValidSpan p → (k : List ℕ) → first_token (7 ∷ put_span p k) ≡ reading Token.opening 9
unfolding first_token
first_opening p v k = yes (span_fits (7 ∷ put_span p k)) _ _ (span_fits_lem 7 p k v)

pub behind-opening : (p : Span) (k : List ℕ) → drop 9 (7 ∷ put_span p k) ≡ k
unfolding put_span put32
behind-opening p k = refl

longer-opening : (k : List ℕ) → length k < length (7 ∷ put_span zero_span k)
unfolding put_span put32 zero_span
longer-opening k = omega arith

pub first-closing : (k : List ℕ) → first_token (15 ∷ k) ≡ reading Token.closing 1
unfolding first_token
first-closing k = refl

-- As many tokens as there are bytes are enough, and more change nothing.
abbrev pub Reads : List ℕ → List Token → Type 0
Reads s l = (n : ℕ) → length s ≤ n → tokens_up_to n s ≡ some l

reads_nothing : Reads [] []
unfolding tokens_up_to
reads_nothing zero h = refl
reads_nothing (suc n) h = refl

-- One token, and then others.
reads_token : (s k : List ℕ) (t : Token) (i : ℕ) (l : List Token) → first_token s ≡ reading t i → drop i s ≡ k → length k < length s → Reads k l → Reads s (t ∷ l)
unfolding tokens_up_to if_read
reads_token s k t i l e d less h zero m = absurd (omega (arith, less, m))
reads_token s k t i l e d less h (suc n) m =
    no (eqb (length s) 0) _ _ (ne_eqb (length s) 0 (λ z. omega (arith, z, less)))
    ∙ (ap (λ (o : Option Reading). if_read o (λ r. if_read (tokens_up_to n (drop r.size s)) (λ j. some (r.token ∷ j)))) e
    ∙ ap (λ (o : Option (List Token)). if_read o (λ j. some (t ∷ j))) (ap (tokens_up_to n) d ∙ h n (omega (arith, less, m))))

longer-symbol : (x : Symbol) (k : List ℕ) → length k < length (put_symbol zero_span x k)
unfolding put_symbol put_span put32 put_name zero_span
longer-symbol (character c) k = omega arith
longer-symbol (identifier n) k = let h = long-behind n k in omega (arith, h)
longer-symbol (number n) k = let h = long-behind n k in omega (arith, h)

pub reads_expression : (v : Expression) → ValidExpression v → (k : List ℕ) (l : List Token) → Reads k l → Reads (put_expression v k) (tokens_of v l)
unfolding put_expression tokens_of
reads_expression void h k l r = r
reads_expression (atom x v) h k l r =
    reads_token (put_symbol zero_span x (put_expression v k)) (put_expression v k) (Token.symbol x) (symbol_bytes x) (tokens_of v l)
    (first-symbol zero_span zero_valid x h.0 (put_expression v k)) (behind-symbol zero_span x (put_expression v k)) (longer-symbol x (put_expression v k)) (reads_expression v h.1 k l r)
reads_expression (group u v) h k l r =
    let inner = put_expression u (15 ∷ put_expression v k) in
    reads_token (7 ∷ put_span zero_span inner) inner Token.opening 9 (tokens_of u (Token.closing ∷ tokens_of v l)) (first_opening zero_span zero_valid inner) (behind-opening zero_span inner) (longer-opening inner)
    (reads_expression u h.0 (15 ∷ put_expression v k) (Token.closing ∷ tokens_of v l)
    (reads_token (15 ∷ put_expression v k) (put_expression v k) Token.closing 1 (tokens_of v l) (first-closing (put_expression v k)) refl (omega arith) (reads_expression v h.1 k l r)))

read_tokens : (s : List ℕ) (l : List Token) → Reads s l → tokens s ≡ some l
unfolding tokens
read_tokens s l r = r (length s) (omega arith)

pub tokens-written : (v : Expression) → ValidExpression v → tokens (put_expression v []) ≡ some (tokens_of v [])
tokens-written v h = read_tokens (put_expression v []) (tokens_of v []) (reads_expression v h [] [] reads_nothing)

-- An input that is written in marks with zero spans is read as it was.
pub input_read : (v : Expression) → ValidExpression v → input_of (put_expression v []) ≡ some v
unfolding input_of if_read single
input_read v h =
    ap (λ (o : Option (List Token)). if_read o (λ l. if_read (expressions l (void ∷ [])) single)) (tokens-written v h)
    ∙ (ap (λ (o : Option (List Expression)). if_read o single) (expressions_of v void [] (void ∷ []) [] (unfold expressions in refl)) ∙ ap some (⧺_void v))

-- Answers, each with its close.
unfoldable pub put_answers : List Expression → List ℕ
put_answers [] = []
put_answers (v ∷ l) = put_expression v (15 ∷ put_answers l)

abbrev pub ValidAnswers : List Expression → Type 0
ValidAnswers [] = Unit {0}
ValidAnswers (v ∷ l) = ValidExpression v × ValidAnswers l

unfoldable pub answer_tokens : List Expression → List Token
answer_tokens [] = []
answer_tokens (v ∷ l) = tokens_of v (Token.closing ∷ answer_tokens l)

reads_answers : (l : List Expression) → ValidAnswers l → Reads (put_answers l) (answer_tokens l)
unfolding put_answers answer_tokens
reads_answers [] h = reads_nothing
reads_answers (v ∷ l) h =
    reads_expression v h.0 (15 ∷ put_answers l) (Token.closing ∷ answer_tokens l)
    (reads_token (15 ∷ put_answers l) (put_answers l) Token.closing 1 (answer_tokens l) (first-closing (put_answers l)) refl (omega arith) (reads_answers l h.1))

answers_of_lem : (l : List Expression) → expressions (answer_tokens l) [] ≡ some l
unfolding answer_tokens expressions if_read before_all
answers_of_lem [] = refl
answers_of_lem (v ∷ l) =
    expressions_of v void (Token.closing ∷ answer_tokens l) [] l (ap (λ (o : Option (List Expression)). if_read o (before_all Token.closing)) (answers_of_lem l)) ∙ ap (λ (z : Expression). some (z ∷ l)) (⧺_void v)

pub answers_read : (l : List Expression) → ValidAnswers l → answers_of (put_answers l) ≡ some l
unfolding answers_of if_read
answers_read l h = ap (λ (o : Option (List Token)). if_read o (λ j. expressions j [])) (read_tokens (put_answers l) (answer_tokens l) (reads_answers l h)) ∙ answers_of_lem l
