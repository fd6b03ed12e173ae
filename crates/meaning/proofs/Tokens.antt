-- Tokens one by one, from left to right: what a reader that counts brackets may say of an input and of answers, and that nothing but spans is lost in reading.
use Prim.Native.Nat.{ℕ, zero, suc, ◌+◌, ◌-◌, ◌<◌, ◌≤◌, max}
use native.Mathlib.Omega.{arith}
use mathlib.Core.Path.{◌≡◌, refl, sym, ap, ap₂, subst, ◌∙◌}
use mathlib.Core.Bool.{Bool, true, false, true≢false, ◌&&◌, cond}
use mathlib.Core.List.{List, [], ◌∷◌, ◌++◌, append_cancel_right}
use mathlib.Core.Option.{Option, none, some, some-injective}
use lib.Dec.{eqb, leb, leb-suc-zero, eqb-zero-suc, eqb-suc-zero, eqb-suc-suc}
use lib.ListN.{length, get_or, take, drop, length-drop, length-append, take-append-drop}
use lib.Seq.{length-take-le, drop-cons, drop-drop, get_or-drop}
use borrow.Author.Tests.{leb-true, le-leb, lt-leb, eqb-true, eq-eqb, ne_eqb}
use Rattle.program.specs.Syntax.{Name, Span, Symbol, character, identifier, number}
use Rattle.program.specs.Bytes.{put32, put_span, put_name, get32, get_span, Bytes}
use Rattle.program.specs.Limits.{allowed, scalar, AllAllowed, ValidName, ValidSymbol}
use Rattle.program.proofs.Numbers.{put32_back, span_back, get32-drop, bytes_of}
use Rattle.program.specs.Encode.{put_symbol}
use Rattle.patterns.specs.Expression.{Expression, void, atom, group}
use Rattle.patterns.specs.Marks.{zero_span, put_expression}
use Rattle.patterns.proofs.Tests.{same_test}
use Rattle.meaning.specs.Lists.{all}
use Rattle.meaning.specs.Inputs.{Token, Reading, reading, span_fits, name_fits, code_fits, named, first_token, if_read, tokens_up_to, tokens, before_all, expressions, single, input_of, answers_of}
use Rattle.meaning.proofs.Inputs.{tokens_of, answer_tokens, symbol_bytes, ValidExpression, reads_expression, tokens-written}

-- ---- the first token

cond_says : {A : Type 0} (P : A → Type 0) (t : Bool) (a b : A) → (t ≡ true → P a) → (t ≡ false → P b) → P (cond t a b)
cond_says P true a b f g = f refl
cond_says P false a b f g = g refl

-- What holds of each token that can stand first, and of none, holds of the first.
pub first_says :
    (s : List ℕ) (P : Option Reading → Type 0) → P none
    → (get_or s 0 0 ≡ 15 → P (reading Token.closing 1))
    → (get_or s 0 0 ≡ 7 → span_fits s ≡ true → P (reading Token.opening 9))
    → (get_or s 0 0 ≡ 1 → span_fits s ≡ true → code_fits s ≡ true → P (reading (Token.symbol (character (get32 s 9))) 13))
    → (get_or s 0 0 ≡ 2 → span_fits s ≡ true → name_fits false s ≡ true → P (reading (Token.symbol (identifier (named s))) (10 + get_or s 9 0)))
    → (get_or s 0 0 ≡ 3 → span_fits s ≡ true → name_fits true s ≡ true → P (reading (Token.symbol (number (named s))) (10 + get_or s 9 0)))
    → P (first_token s)
unfolding first_token
first_says s P n closes opens code name digits =
    let m = get_or s 0 0 in
    cond_says P (eqb m 15) _ _ (λ e. closes (eqb-true m 15 e))
    (λ _. cond_says P (span_fits s) _ _
    (λ f. cond_says P (eqb m 7) _ _ (λ e. opens (eqb-true m 7 e) f)
    (λ _. cond_says P (eqb m 1) _ _ (λ e. cond_says P (code_fits s) _ _ (λ g. code (eqb-true m 1 e) f g) (λ _. n))
    (λ _. cond_says P (eqb m 2) _ _ (λ e. cond_says P (name_fits false s) _ _ (λ g. name (eqb-true m 2 e) f g) (λ _. n))
    (λ _. cond_says P (eqb m 3) _ _ (λ e. cond_says P (name_fits true s) _ _ (λ g. digits (eqb-true m 3 e) f g) (λ _. n))
    (λ _. n)))))
    (λ _. n))

both_true : (a b : Bool) → (a && b) ≡ true → (a ≡ true) × (b ≡ true)
both_true true b e = (refl, e)
both_true false b e = absurd (true≢false (sym e))

pub span-room : (s : List ℕ) → span_fits s ≡ true → 9 ≤ length s
unfolding span_fits
span-room s h = leb-true 9 (length s) (both_true _ _ h).0

code-room : (s : List ℕ) → code_fits s ≡ true → 13 ≤ length s
unfolding code_fits
code-room s h = leb-true 13 (length s) (both_true _ _ h).0

code-scalar : (s : List ℕ) → code_fits s ≡ true → scalar (get32 s 9) ≡ true
unfolding code_fits
code-scalar s h = (both_true (leb 13 (length s)) (scalar (get32 s 9)) h).1

name-room : (g : Bool) (s : List ℕ) → name_fits g s ≡ true → (1 ≤ get_or s 9 0) × (get_or s 9 0 ≤ 63) × (10 + get_or s 9 0 ≤ length s) × (all (allowed g) (named s) ≡ true)
unfolding name_fits named
name-room g s h =
    let a = both_true _ _ h in
    let b = both_true _ _ a.1 in
    let d = both_true _ _ b.1 in
    (leb-true 1 (get_or s 9 0) a.0, leb-true (get_or s 9 0) 63 b.0, leb-true (10 + get_or s 9 0) (length s) d.0, d.1)

first-there : (s : List ℕ) → (get_or s 0 0 ≡ 0 → ⊥) → 1 ≤ length s
first-there [] h = absurd (h refl)
first-there (b ∷ s) h = omega arith

-- A token has a byte at least, and all of them stand there.
abbrev pub Sized : List ℕ → Option Reading → Type 0
Sized s none = Unit {0}
Sized s (some r) = (1 ≤ r.size) × (r.size ≤ length s)

pub first-sized : (s : List ℕ) → Sized s (first_token s)
first-sized s =
    first_says s (Sized s) tt
    (λ e. (omega arith, first-there s (λ z. omega (arith, e, z))))
    (λ e f. (omega arith, span-room s f))
    (λ e f g. (omega arith, code-room s g))
    (λ e f g. (omega arith, (name-room false s g).2))
    (λ e f g. (omega arith, (name-room true s g).2))

-- ---- all tokens

-- As many as there are bytes are enough, and more change nothing.
next-alike : (s : List ℕ) (n m : ℕ) (o : Option Reading) → Sized s o → ((r : Reading) → 1 ≤ r.size → tokens_up_to n (drop r.size s) ≡ tokens_up_to m (drop r.size s)) → if_read o (λ r. if_read (tokens_up_to n (drop r.size s)) (λ l. some (r.token ∷ l))) ≡ if_read o (λ r. if_read (tokens_up_to m (drop r.size s)) (λ l. some (r.token ∷ l)))
unfolding if_read
next-alike s n m none h e = refl
next-alike s n m (some r) h e = ap (λ (o : Option (List Token)). if_read o (λ l. some (r.token ∷ l))) (e r h.0)

tokens-enough : (n m : ℕ) (s : List ℕ) → length s ≤ n → length s ≤ m → tokens_up_to n s ≡ tokens_up_to m s
unfolding tokens_up_to
tokens-enough zero zero s h k = refl
tokens-enough zero (suc m) s h k = rw (eq-eqb (length s) 0 (omega arith))
tokens-enough (suc n) zero s h k = rw (eq-eqb (length s) 0 (omega arith))
tokens-enough (suc n) (suc m) s h k =
    ap (λ (o : Option (List Token)). cond (eqb (length s) 0) (some []) o)
    (next-alike s n m (first_token s) (first-sized s) (λ r l. tokens-enough n m (drop r.size s) (simp length-drop (omega arith)) (simp length-drop (omega arith))))

pub tokens-end : (s : List ℕ) → length s ≡ 0 → tokens s ≡ some []
unfolding tokens tokens_up_to
tokens-end s e = rw e

tokens_step : (s : List ℕ) → 0 < length s → tokens s ≡ if_read (first_token s) (λ r. if_read (tokens_up_to (length s) (drop r.size s)) (λ l. some (r.token ∷ l)))
unfolding tokens tokens_up_to
tokens_step s h = tokens-enough (length s) (suc (length s)) s (omega arith) (omega arith) ∙ rw (ne_eqb (length s) 0 (λ z. omega (arith, z, h)))

pub tokens_none : (s : List ℕ) → 0 < length s → first_token s ≡ none → tokens s ≡ none
unfolding if_read
tokens_none s h e = tokens_step s h ∙ rw e

pub tokens-next : (s : List ℕ) (r : Reading) → first_token s ≡ some r → tokens s ≡ if_read (tokens (drop r.size s)) (λ l. some (r.token ∷ l))
unfolding if_read tokens
tokens-next s r e =
    let z = subst (Sized s) e (first-sized s) in
    tokens_step s (omega (arith, z.0, z.1)) ∙ (ap (λ (o : Option Reading). if_read o (λ q. if_read (tokens_up_to (length s) (drop q.size s)) (λ l. some (q.token ∷ l)))) e
    ∙ ap (λ (o : Option (List Token)). if_read o (λ l. some (r.token ∷ l))) (tokens-enough (length s) (length (drop r.size s)) (drop r.size s) (simp length-drop (omega arith)) (omega arith)))

pub if_read_lem : {A B : Type 0} (o : Option A) (f : A → Option B) (b : B) → if_read o f ≡ some b → (a : A) × (o ≡ some a) × (f a ≡ some b)
unfolding if_read
if_read_lem none f b e = absurd (let z : ◌≡◌ {A = ℕ} 0 1 = cc in omega arith)
if_read_lem (some a) f b e = (a, refl, e)

-- Tokens that are read one by one: the first, and those behind it.
pub record Turned (s : List ℕ) (l : List Token) : Type 0 where
  pub reading : Reading
  pub is : first_token s ≡ some reading
  pub more : List Token
  pub split : l ≡ reading.token ∷ more
  pub next : tokens (drop reading.size s) ≡ some more

pub turned : (s : List ℕ) (l : List Token) → tokens s ≡ some l → 0 < length s → Turned s l
turned s l e h = by (first_token s) refl
  where
    by : (o : Option Reading) → first_token s ≡ o → Turned s l
    by none f = absurd (let g = sym (tokens_none s h f) ∙ e in let z : ◌≡◌ {A = ℕ} 0 1 = cc in omega arith)
    by (some r) f =
        let a = if_read_lem (tokens (drop r.size s)) (λ k. some (r.token ∷ k)) l (sym (tokens-next s r f) ∙ e) in
        record { reading = r; is = f; more = a.0; split = some-injective l (r.token ∷ a.0) (sym a.2); next = a.1 }

-- What the mark of the first token tells of it.
abbrev pub KindOf : ℕ → Token → Type 0
KindOf m (Token.symbol x) = (m ≡ 15 → ⊥) × (m ≡ 7 → ⊥)
KindOf m Token.opening = m ≡ 7
KindOf m Token.closing = m ≡ 15

abbrev Kind : ℕ → Option Reading → Type 0
Kind m none = Unit {0}
Kind m (some r) = KindOf m r.token

first_kind : (s : List ℕ) → Kind (get_or s 0 0) (first_token s)
first_kind s =
    first_says s (Kind (get_or s 0 0)) tt (λ e. e) (λ e f. e)
    (λ e f g. (λ h. omega (arith, e, h), λ h. omega (arith, e, h)))
    (λ e f g. (λ h. omega (arith, e, h), λ h. omega (arith, e, h)))
    (λ e f g. (λ h. omega (arith, e, h), λ h. omega (arith, e, h)))

pub token-kind : (s : List ℕ) (r : Reading) → first_token s ≡ some r → KindOf (get_or s 0 0) r.token
token-kind s r e = subst (Kind (get_or s 0 0)) e (first_kind s)

-- ---- brackets counted

-- Whether the tokens left of an input fit where d brackets are open: a close closes one, and at the end none is open.
unfoldable pub balanced : List Token → ℕ → Bool
balanced [] d = eqb d 0
balanced (Token.symbol x ∷ l) d = balanced l d
balanced (Token.opening ∷ l) d = balanced l (suc d)
balanced (Token.closing ∷ l) zero = false
balanced (Token.closing ∷ l) (suc d) = balanced l d

-- Whether there are expressions, n of them.
unfoldable pub counts : Option (List Expression) → ℕ → Bool
counts none n = false
counts (some l) n = eqb (length l) n

-- From the right, a close makes one expression more, an opening one less, and one is always left.
some_left : (o : Option (List Expression)) (t : Token) → counts (if_read o (before_all t)) 0 ≡ false
unfolding counts if_read before_all
some_left none t = refl
some_left (some []) (Token.symbol x) = refl
some_left (some (v ∷ l)) (Token.symbol x) = eqb-suc-zero (length l)
some_left (some l) Token.closing = eqb-suc-zero (length l)
some_left (some []) Token.opening = refl
some_left (some (u ∷ [])) Token.opening = refl
some_left (some (u ∷ v ∷ l)) Token.opening = eqb-suc-zero (length l)

never_none : (ts : List Token) → counts (expressions ts (void ∷ [])) 0 ≡ false
unfolding expressions counts
never_none [] = refl
never_none (t ∷ ts) = some_left (expressions ts (void ∷ [])) t

counts-symbol : (o : Option (List Expression)) (x : Symbol) (d : ℕ) → counts o (suc d) ≡ counts (if_read o (before_all (Token.symbol x))) (suc d)
unfolding counts if_read before_all
counts-symbol none x d = refl
counts-symbol (some []) x d = eqb-zero-suc d
counts-symbol (some (v ∷ l)) x d = refl

counts-opening : (o : Option (List Expression)) (d : ℕ) → counts o (suc (suc d)) ≡ counts (if_read o (before_all Token.opening)) (suc d)
unfolding counts if_read before_all
counts-opening none d = refl
counts-opening (some []) d = eqb-zero-suc (suc d)
counts-opening (some (u ∷ [])) d = eqb-suc-suc 0 (suc d) ∙ eqb-zero-suc d
counts-opening (some (u ∷ v ∷ l)) d = eqb-suc-suc (suc (length l)) (suc d)

counts-closing : (o : Option (List Expression)) (d : ℕ) → counts o d ≡ counts (if_read o (before_all Token.closing)) (suc d)
unfolding counts if_read before_all
counts-closing none d = refl
counts-closing (some l) d = sym (eqb-suc-suc (length l) d)

pub balanced_counts : (ts : List Token) (d : ℕ) → balanced ts d ≡ counts (expressions ts (void ∷ [])) (suc d)
unfolding balanced expressions counts
balanced_counts [] d = by d ∙ sym (eqb-suc-suc 0 d)
  where
    by : (d : ℕ) → eqb d 0 ≡ eqb 0 d
    by zero = refl
    by (suc d) = eqb-suc-zero d ∙ sym (eqb-zero-suc d)
balanced_counts (Token.symbol x ∷ ts) d = balanced_counts ts d ∙ counts-symbol (expressions ts (void ∷ [])) x d
balanced_counts (Token.opening ∷ ts) d = balanced_counts ts (suc d) ∙ counts-opening (expressions ts (void ∷ [])) d
balanced_counts (Token.closing ∷ ts) zero = sym (never_none ts) ∙ counts-closing (expressions ts (void ∷ [])) 0
balanced_counts (Token.closing ∷ ts) (suc d) = balanced_counts ts d ∙ counts-closing (expressions ts (void ∷ [])) (suc d)

-- How many closes answers still owe after a token: a term begins an answer, which owes one, and an opening owes its own.
unfoldable pub owing : Token → ℕ → ℕ
owing (Token.symbol x) n = max 1 n
owing Token.opening n = suc (max 1 n)
owing Token.closing n = n - 1

unfoldable pub answered : List Token → ℕ → Bool
answered [] n = eqb n 0
answered (t ∷ l) n = answered l (owing t n)

-- Whether there are expressions, n of them or more.
unfoldable pub reaches : Option (List Expression) → ℕ → Bool
reaches none n = false
reaches (some l) n = leb n (length l)

same_leb : (a b c d : ℕ) → (a ≤ b → c ≤ d) → (c ≤ d → a ≤ b) → leb a b ≡ leb c d
same_leb a b c d f g = same_test (leb a b) (leb c d) (λ e. le-leb c d (f (leb-true a b e))) (λ e. le-leb a b (g (leb-true c d e)))

reaches_next : (o : Option (List Expression)) (t : Token) (n : ℕ) → reaches o (owing t n) ≡ reaches (if_read o (before_all t)) n
unfolding reaches owing if_read before_all
reaches_next none t n = refl
reaches_next (some []) (Token.symbol x) n = lt-leb (max 1 n) 0 (omega arith)
reaches_next (some (v ∷ l)) (Token.symbol x) n = same_leb (max 1 n) (suc (length l)) n (suc (length l)) (λ h. omega arith) (λ h. omega arith)
reaches_next (some l) Token.closing n = same_leb (n - 1) (length l) n (suc (length l)) (λ h. omega arith) (λ h. omega arith)
reaches_next (some []) Token.opening n = lt-leb (suc (max 1 n)) 0 (omega arith)
reaches_next (some (u ∷ [])) Token.opening n = lt-leb (suc (max 1 n)) 1 (omega arith)
reaches_next (some (u ∷ v ∷ l)) Token.opening n = same_leb (suc (max 1 n)) (suc (suc (length l))) n (suc (length l)) (λ h. omega arith) (λ h. omega arith)

pub answered_reaches : (ts : List Token) (n : ℕ) → answered ts n ≡ reaches (expressions ts []) n
unfolding answered expressions reaches
answered_reaches [] zero = refl
answered_reaches [] (suc n) = eqb-suc-zero n ∙ sym (leb-suc-zero n)
answered_reaches (t ∷ ts) n = answered_reaches ts (owing t n) ∙ reaches_next (expressions ts []) t n

-- ---- nothing but spans is lost

abbrev Spelled : Option (List Expression) → List Token → Type 0
Spelled none ts = Unit {0}
Spelled (some l) ts = ts ≡ answer_tokens l

spelled_next : (o : Option (List Expression)) (t : Token) (ts : List Token) → Spelled o ts → Spelled (if_read o (before_all t)) (t ∷ ts)
unfolding if_read before_all answer_tokens tokens_of
spelled_next none t ts h = tt
spelled_next (some []) (Token.symbol x) ts h = tt
spelled_next (some (v ∷ l)) (Token.symbol x) ts h = ap (λ (k : List Token). Token.symbol x ∷ k) h
spelled_next (some l) Token.closing ts h = ap (λ (k : List Token). Token.closing ∷ k) h
spelled_next (some []) Token.opening ts h = tt
spelled_next (some (u ∷ [])) Token.opening ts h = tt
spelled_next (some (u ∷ v ∷ l)) Token.opening ts h = ap (λ (k : List Token). Token.opening ∷ k) h

spelled : (ts : List Token) → Spelled (expressions ts []) ts
unfolding expressions answer_tokens
spelled [] = refl
spelled (t ∷ ts) = spelled_next (expressions ts []) t ts (spelled ts)

-- Answers are made of their tokens, and so is an input.
pub answers_back : (ts : List Token) (l : List Expression) → expressions ts [] ≡ some l → ts ≡ answer_tokens l
answers_back ts l e = subst (λ (o : Option (List Expression)). Spelled o ts) e (spelled ts)

close-behind : (ts : List Token) → expressions (ts ++ (Token.closing ∷ [])) [] ≡ expressions ts (void ∷ [])
unfolding expressions if_read before_all
close-behind [] = refl
close-behind (t ∷ ts) = ap (λ (o : Option (List Expression)). if_read o (before_all t)) (close-behind ts)

tokens-behind : (v : Expression) (ts us : List Token) → tokens_of v (ts ++ us) ≡ tokens_of v ts ++ us
unfolding tokens_of
tokens-behind void ts us = refl
tokens-behind (atom x v) ts us = ap (λ (k : List Token). Token.symbol x ∷ k) (tokens-behind v ts us)
tokens-behind (group u v) ts us = ap (λ (k : List Token). Token.opening ∷ k) (ap (λ (k : List Token). tokens_of u (Token.closing ∷ k)) (tokens-behind v ts us) ∙ tokens-behind u (Token.closing ∷ tokens_of v ts) us)

pub input_back : (ts : List Token) (v : Expression) → expressions ts (void ∷ []) ≡ some (v ∷ []) → ts ≡ tokens_of v []
unfolding answer_tokens
input_back ts v e = append_cancel_right ts (tokens_of v []) (Token.closing ∷ []) (answers_back (ts ++ (Token.closing ∷ [])) (v ∷ []) (close-behind ts ∙ e) ∙ tokens-behind v [] (Token.closing ∷ []))

single-only : (l : List Expression) (v : Expression) → single l ≡ some v → l ≡ v ∷ []
unfolding single
single-only [] v e = absurd (let z : ◌≡◌ {A = ℕ} 0 1 = cc in omega arith)
single-only (u ∷ []) v e = cc
single-only (u ∷ w ∷ l) v e = absurd (let z : ◌≡◌ {A = ℕ} 0 1 = cc in omega arith)

-- What an input is read as tells its tokens.
pub input-tokens : (s : List ℕ) (v : Expression) → input_of s ≡ some v → tokens s ≡ some (tokens_of v [])
unfolding input_of
input-tokens s v e =
    let a = if_read_lem (tokens s) (λ l. if_read (expressions l (void ∷ [])) single) v e in
    let b = if_read_lem (expressions a.0 (void ∷ [])) single v a.2 in
    a.1 ∙ ap some (input_back a.0 v (b.1 ∙ ap some (single-only b.0 v b.2)))

pub answer-tokens : (s : List ℕ) (l : List Expression) → answers_of s ≡ some l → tokens s ≡ some (answer_tokens l)
unfolding answers_of
answer-tokens s l e =
    let a = if_read_lem (tokens s) (λ k. expressions k []) l e in
    a.1 ∙ ap some (answers_back a.0 l a.2)

-- ---- what is read is fit to be written

abbrev pub ValidToken : Token → Type 0
ValidToken (Token.symbol x) = ValidSymbol x
ValidToken Token.opening = Unit {0}
ValidToken Token.closing = Unit {0}

abbrev pub ValidTokens : List Token → Type 0
ValidTokens [] = Unit {0}
ValidTokens (t ∷ l) = ValidToken t × ValidTokens l

abbrev ValidReading : Option Reading → Type 0
ValidReading none = Unit {0}
ValidReading (some r) = ValidToken r.token

abbrev ValidRead : Option (List Token) → Type 0
ValidRead none = Unit {0}
ValidRead (some l) = ValidTokens l

all_are : (g : Bool) (n : Name) → all (allowed g) n ≡ true → AllAllowed g n
unfolding all
all_are g [] h = tt
all_are g (b ∷ n) h = let a = both_true _ _ h in (a.0, all_are g n a.1)

name-valid : (g : Bool) (s : List ℕ) → name_fits g s ≡ true → ValidName g (named s) × (length (named s) ≡ get_or s 9 0)
unfolding named
name-valid g s h =
    let r = name-room g s h in
    let l : length (take (get_or s 9 0) (drop 10 s)) ≡ get_or s 9 0 = length-take-le (get_or s 9 0) (drop 10 s) (simp length-drop (omega arith)) in
    ((omega (arith, l), omega (arith, l), all_are g (take (get_or s 9 0) (drop 10 s)) r.3), l)

first-valid : (s : List ℕ) → ValidReading (first_token s)
first-valid s =
    first_says s ValidReading tt (λ e. tt) (λ e f. tt)
    (λ e f g. code-scalar s g)
    (λ e f g. (name-valid false s g).0)
    (λ e f g. (name-valid true s g).0)

valid-next : (t : Token) (o : Option (List Token)) → ValidToken t → ValidRead o → ValidRead (if_read o (λ l. some (t ∷ l)))
unfolding if_read
valid-next t none h k = tt
valid-next t (some l) h k = (h, k)

valid-from : (o : Option Reading) (f : Reading → Option (List Token)) → ValidReading o → ((r : Reading) → ValidRead (f r)) → ValidRead (if_read o (λ r. if_read (f r) (λ l. some (r.token ∷ l))))
unfolding if_read
valid-from none f h k = tt
valid-from (some r) f h k = valid-next r.token (f r) h (k r)

valid_up_to : (n : ℕ) (s : List ℕ) → ValidRead (tokens_up_to n s)
unfolding tokens_up_to
valid_up_to zero s = tt
valid_up_to (suc n) s = cond_says ValidRead (eqb (length s) 0) _ _ (λ e. tt) (λ e. valid-from (first_token s) (λ r. tokens_up_to n (drop r.size s)) (first-valid s) (λ r. valid_up_to n (drop r.size s)))

pub token-valid : (s : List ℕ) (r : Reading) → first_token s ≡ some r → ValidToken r.token
token-valid s r e = subst ValidReading e (first-valid s)

pub tokens_valid : (s : List ℕ) (l : List Token) → tokens s ≡ some l → ValidTokens l
unfolding tokens
tokens_valid s l e = subst ValidRead e (valid_up_to (length s) s)

pub expression-valid : (v : Expression) (ts : List Token) → ValidTokens (tokens_of v ts) → ValidExpression v × ValidTokens ts
unfolding tokens_of
expression-valid void ts h = (tt, h)
expression-valid (atom x v) ts h = let r = expression-valid v ts h.1 in ((h.0, r.0), r.1)
expression-valid (group u v) ts h =
    let a = expression-valid u (Token.closing ∷ tokens_of v ts) h.1 in
    let b = expression-valid v ts a.1.1 in
    ((a.0, b.0), b.1)

-- An expression with zero spans before other tokens.
pub tokens-before : (v : Expression) → ValidExpression v → (k : List ℕ) (l : List Token) → tokens k ≡ some l → tokens (put_expression v k) ≡ some (tokens_of v l)
unfolding tokens
tokens-before v h k l e = reads_expression v h k l (λ n m. tokens-enough n (length k) k m (omega arith) ∙ e) (length (put_expression v k)) (omega arith)

pub input-valid : (s : List ℕ) (v : Expression) → input_of s ≡ some v → ValidExpression v
input-valid s v e = (expression-valid v [] (tokens_valid s (tokens_of v []) (input-tokens s v e))).0

-- What is read, written again, differs in spans only.
pub input_again : (s : List ℕ) (v : Expression) → input_of s ≡ some v → tokens (put_expression v []) ≡ tokens s
input_again s v e = tokens-written v (input-valid s v e) ∙ sym (input-tokens s v e)

-- ---- tokens in bytes

unfoldable pub put_token : Span → Token → List ℕ → List ℕ
put_token p (Token.symbol x) k = put_symbol p x k
put_token p Token.opening k = 7 ∷ put_span p k
put_token p Token.closing k = 15 ∷ k

-- Tokens with zero spans.
unfoldable pub put_tokens : List Token → List ℕ → List ℕ
put_tokens [] k = k
put_tokens (t ∷ l) k = put_token zero_span t (put_tokens l k)

pub put_tokens_lem : (v : Expression) (ts : List Token) (k : List ℕ) → put_tokens (tokens_of v ts) k ≡ put_expression v (put_tokens ts k)
unfolding tokens_of put_tokens put_token put_expression
put_tokens_lem void ts k = refl
put_tokens_lem (atom x v) ts k = ap (put_symbol zero_span x) (put_tokens_lem v ts k)
put_tokens_lem (group u v) ts k = ap (λ (l : List ℕ). 7 ∷ put_span zero_span l) (put_tokens_lem u (Token.closing ∷ tokens_of v ts) k ∙ ap (λ (l : List ℕ). put_expression u (15 ∷ l)) (put_tokens_lem v ts k))

unfoldable pub token_bytes : Token → ℕ
token_bytes (Token.symbol x) = symbol_bytes x
token_bytes Token.opening = 9
token_bytes Token.closing = 1

abbrev Bytewise : Option Reading → Type 0
Bytewise none = Unit {0}
Bytewise (some r) = r.size ≡ token_bytes r.token

first-bytes : (s : List ℕ) → Bytewise (first_token s)
unfolding token_bytes symbol_bytes
first-bytes s =
    first_says s Bytewise tt (λ e. refl) (λ e f. refl) (λ e f g. refl)
    (λ e f g. ap (λ (n : ℕ). 10 + n) (sym (name-valid false s g).1))
    (λ e f g. ap (λ (n : ℕ). 10 + n) (sym (name-valid true s g).1))

pub token-bytes : (s : List ℕ) (r : Reading) → first_token s ≡ some r → r.size ≡ token_bytes r.token
token-bytes s r e = subst Bytewise e (first-bytes s)

pub put_length : (t : Token) (k : List ℕ) → length (put_token zero_span t k) ≡ token_bytes t + length k
unfolding put_token token_bytes symbol_bytes put_symbol put_span put32 put_name zero_span
put_length (Token.symbol (character c)) k = omega arith
put_length (Token.symbol (identifier n)) k = omega (arith, length-append n k)
put_length (Token.symbol (number n)) k = omega (arith, length-append n k)
put_length Token.opening k = omega arith
put_length Token.closing k = omega arith

module _ (s : List ℕ) (small : (i : ℕ) → get_or s i 0 < 256) where
  bytes-behind : (n : ℕ) → Bytes (drop n s)
  bytes-behind n = bytes_of (drop n s) (λ i. rw get_or-drop (small (n + i)))

  code_here : 13 ≤ length s → drop 9 s ≡ put32 (get32 s 9) (drop 13 s)
  code_here h = put32_back (drop 9 s) (drop 13 s) (bytes-behind 9) (simp length-drop (omega arith)) (sym (take-append-drop 4 (drop 9 s)) ∙ ap (λ (k : List ℕ). take 4 (drop 9 s) ++ k) (drop-drop 4 9 s)) ∙ ap (λ (c : ℕ). put32 c (drop 13 s)) (sym (get32-drop s 9 0))

  span-here : 9 ≤ length s → drop 1 s ≡ put_span (get_span s 1) (drop 9 s)
  unfolding get_span
  span-here h = span_back (drop 1 s) (drop 9 s) (bytes-behind 1) (simp length-drop (omega arith)) (sym (take-append-drop 8 (drop 1 s)) ∙ ap (λ (k : List ℕ). take 8 (drop 1 s) ++ k) (drop-drop 8 1 s)) ∙ ap₂ (λ (a b : ℕ). put_span (record { start = a; end = b }) (drop 9 s)) (sym (get32-drop s 1 0)) (sym (get32-drop s 1 4))

  mark-here : (m : ℕ) → get_or s 0 0 ≡ m → 1 ≤ length s → s ≡ m ∷ drop 1 s
  mark-here m e h = drop-cons s 0 0 h ∙ ap (λ (a : ℕ). a ∷ drop 1 s) e

  spanned-here : (m : ℕ) → get_or s 0 0 ≡ m → 9 ≤ length s → s ≡ m ∷ put_span (get_span s 1) (drop 9 s)
  spanned-here m e h = mark-here m e (omega arith) ∙ ap (λ (k : List ℕ). m ∷ k) (span-here h)

  name-here : (g : Bool) → name_fits g s ≡ true → drop 9 s ≡ put_name (named s) (drop (10 + get_or s 9 0) s)
  unfolding put_name named
  name-here g h =
      let r = name-room g s h in
      let n = get_or s 9 0 in
      drop-cons s 9 0 (omega (arith, r.2))
      ∙ ap₂ (λ (a : ℕ) (k : List ℕ). a ∷ k) (sym (name-valid g s h).1) (sym (take-append-drop n (drop 10 s)) ∙ ap (λ (k : List ℕ). take n (drop 10 s) ++ k) (drop-drop n 10 s))

  abbrev Stands : Option Reading → Type 0
  Stands none = Unit {0}
  Stands (some r) = s ≡ put_token (get_span s 1) r.token (drop r.size s)

  first-stands : Stands (first_token s)
  unfolding put_token put_symbol
  first-stands =
      first_says s Stands tt
      (λ e. mark-here 15 e (first-there s (λ z. omega (arith, e, z))))
      (λ e f. spanned-here 7 e (span-room s f))
      (λ e f g. spanned-here 1 e (span-room s f) ∙ ap (λ (k : List ℕ). 1 ∷ put_span (get_span s 1) k) (code_here (code-room s g)))
      (λ e f g. spanned-here 2 e (span-room s f) ∙ ap (λ (k : List ℕ). 2 ∷ put_span (get_span s 1) k) (name-here false g))
      (λ e f g. spanned-here 3 e (span-room s f) ∙ ap (λ (k : List ℕ). 3 ∷ put_span (get_span s 1) k) (name-here true g))

  -- The bytes of the first token.
  pub token-stands : (r : Reading) → first_token s ≡ some r → s ≡ put_token (get_span s 1) r.token (drop r.size s)
  token-stands r e = subst Stands e first-stands

-- ---- one expression, up to a close that no bracket opened

-- Its bytes with zero spans, where d brackets are open, and the tokens behind it.
unfoldable pub level_text : List Token → ℕ → List ℕ
level_text [] d = []
level_text (Token.symbol x ∷ l) d = put_symbol zero_span x (level_text l d)
level_text (Token.opening ∷ l) d = 7 ∷ put_span zero_span (level_text l (suc d))
level_text (Token.closing ∷ l) zero = []
level_text (Token.closing ∷ l) (suc d) = 15 ∷ level_text l d

unfoldable pub level_rest : List Token → ℕ → List Token
level_rest [] d = []
level_rest (Token.symbol x ∷ l) d = level_rest l d
level_rest (Token.opening ∷ l) d = level_rest l (suc d)
level_rest (Token.closing ∷ l) zero = Token.closing ∷ l
level_rest (Token.closing ∷ l) (suc d) = level_rest l d

level-text : (v : Expression) (k : List Token) (d : ℕ) → level_text (tokens_of v k) d ≡ put_expression v (level_text k d)
unfolding tokens_of level_text put_expression
level-text void k d = refl
level-text (atom x v) k d = ap (put_symbol zero_span x) (level-text v k d)
level-text (group u v) k d = ap (λ (l : List ℕ). 7 ∷ put_span zero_span l) (level-text u (Token.closing ∷ tokens_of v k) (suc d) ∙ ap (λ (l : List ℕ). put_expression u (15 ∷ l)) (level-text v k d))

level-rest : (v : Expression) (k : List Token) (d : ℕ) → level_rest (tokens_of v k) d ≡ level_rest k d
unfolding tokens_of level_rest
level-rest void k d = refl
level-rest (atom x v) k d = level-rest v k d
level-rest (group u v) k d = level-rest u (Token.closing ∷ tokens_of v k) (suc d) ∙ level-rest v k d

-- Tokens behind an expression: none, or a close.
abbrev pub Closed : List Token → Type 0
Closed [] = Unit {0}
Closed (Token.symbol x ∷ l) = ⊥
Closed (Token.opening ∷ l) = ⊥
Closed (Token.closing ∷ l) = Unit {0}

closed_text : (k : List Token) → Closed k → level_text k 0 ≡ []
unfolding level_text
closed_text [] h = refl
closed_text (Token.symbol x ∷ k) h = absurd h
closed_text (Token.opening ∷ k) h = absurd h
closed_text (Token.closing ∷ k) h = refl

closed_rest : (k : List Token) → Closed k → level_rest k 0 ≡ k
unfolding level_rest
closed_rest [] h = refl
closed_rest (Token.symbol x ∷ k) h = absurd h
closed_rest (Token.opening ∷ k) h = absurd h
closed_rest (Token.closing ∷ k) h = refl

pub expression-text : (v : Expression) (k : List Token) → Closed k → level_text (tokens_of v k) 0 ≡ put_expression v []
expression-text v k h = level-text v k 0 ∙ ap (put_expression v) (closed_text k h)

pub expression-rest : (v : Expression) (k : List Token) → Closed k → level_rest (tokens_of v k) 0 ≡ k
expression-rest v k h = level-rest v k 0 ∙ closed_rest k h
