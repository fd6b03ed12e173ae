-- Expressions as bytes: two in a row are written in a row, and the bytes tell the expression.
use Prim.Native.Nat.{ℕ, ◌+◌, ◌<◌, ◌≤◌}
use native.Mathlib.Omega.{arith}
use mathlib.Core.Path.{◌≡◌, refl, sym, ap, ap₂, ◌∙◌}
use mathlib.Core.List.{List, [], ◌∷◌, ◌++◌}
use lib.ListN.{length, get_or, drop, length-append}
use Rattle.program.specs.Syntax.{Name, Symbol, character, identifier, number}
use Rattle.program.specs.Bytes.{put32, put_span, put_name, get32}
use Rattle.program.specs.Encode.{put_symbol}
use Rattle.program.proofs.Numbers.{get32-put32}
use Rattle.program.proofs.Splits.{Splits, splits-after, splits_cons, symbol-splits, spanned-splits}
use Rattle.patterns.specs.Expression.{Expression, void, atom, group, ◌⧺◌}
use Rattle.patterns.specs.Marks.{zero_span, put_expression}

-- An expression's bytes, and nothing behind them.
abbrev pub bytes_of : Expression → List ℕ
bytes_of v = put_expression v []

pub expression-splits : (v : Expression) → Splits (put_expression v)
unfolding put_expression
expression-splits void k = refl
expression-splits (atom x v) k = splits-after (put_symbol zero_span x) (put_expression v) (symbol-splits zero_span x) (λ l. expression-splits v l) k
expression-splits (group u v) k =
    spanned-splits 7 zero_span (λ l. put_expression u (15 ∷ put_expression v l))
    (splits-after (put_expression u) (λ l. 15 ∷ put_expression v l) (λ l. expression-splits u l) (splits_cons 15 (put_expression v) (λ l. expression-splits v l))) k

expression_joins : (u v : Expression) (k : List ℕ) → put_expression (u ⧺ v) k ≡ put_expression u (put_expression v k)
unfolding put_expression ◌⧺◌
expression_joins void v k = refl
expression_joins (atom x u) v k = ap (put_symbol zero_span x) (expression_joins u v k)
expression_joins (group i u) v k = ap (λ (l : List ℕ). 7 ∷ put_span zero_span (put_expression i (15 ∷ l))) (expression_joins u v k)

-- The bytes of two expressions in a row.
pub joined_bytes : (u v : Expression) → bytes_of (u ⧺ v) ≡ bytes_of u ++ bytes_of v
joined_bytes u v = expression_joins u v [] ∙ expression-splits u (bytes_of v)

pub joined_length : (u v : Expression) → length (bytes_of (u ⧺ v)) ≡ length (bytes_of u) + length (bytes_of v)
joined_length u v = ap length (joined_bytes u v) ∙ length-append (bytes_of u) (bytes_of v)

-- A bracket's bytes: its mark and span, what it holds, its close.
pub group-bytes : (u : Expression) → bytes_of (group u void) ≡ (7 ∷ put_span zero_span []) ++ (bytes_of u ++ (15 ∷ []))
unfolding put_expression put_span put32
group-bytes u = ap (λ (l : List ℕ). 7 ∷ put_span zero_span l) (expression-splits u (15 ∷ []))

-- ---- the bytes tell the expression

-- Codes are 32-bit numbers, as an image's are.
abbrev pub CodeFits : Symbol → Type 0
CodeFits (character c) = c < 4294967296
CodeFits (identifier n) = Unit {0}
CodeFits (number n) = Unit {0}

abbrev pub Coded : Expression → Type 0
Coded void = Unit {0}
Coded (atom x v) = CodeFits x × Coded v
Coded (group u v) = Coded u × Coded v

-- What stands behind an expression begins no term of one.
abbrev Stops : List ℕ → Type 0
Stops k = 15 ≤ get_or k 0 16

names_once : (n m k l : List ℕ) → length n ≡ length m → n ++ k ≡ m ++ l → (n ≡ m) × (k ≡ l)
names_once [] [] k l h e = (refl, e)
names_once [] (y ∷ m) k l h e = absurd (omega arith)
names_once (x ∷ n) [] k l h e = absurd (omega arith)
names_once (x ∷ n) (y ∷ m) k l h e =
    let r = names_once n m k l (omega arith) (ap (drop 1) e) in
    (ap₂ (λ (a : ℕ) (b : List ℕ). a ∷ b) (ap (λ (s : List ℕ). get_or s 0 0) e) r.0, r.1)

name_once : (n m : Name) (k l : List ℕ) → put_name n k ≡ put_name m l → (n ≡ m) × (k ≡ l)
unfolding put_name
name_once n m k l e = names_once n m k l (ap (λ (s : List ℕ). get_or s 0 0) e) (ap (drop 1) e)

first : {s t : List ℕ} → s ≡ t → get_or s 0 16 ≡ get_or t 0 16
first e = ap (λ (s : List ℕ). get_or s 0 16) e

symbol_once : (x y : Symbol) (k l : List ℕ) → CodeFits x → CodeFits y → put_symbol zero_span x k ≡ put_symbol zero_span y l → (x ≡ y) × (k ≡ l)
unfolding put_symbol put_span put32
symbol_once (character c) (character d) k l h g e =
    let r : get32 (put32 c k) 0 ≡ get32 (put32 d l) 0 = ap (λ (s : List ℕ). get32 (drop 9 s) 0) e in
    (ap character (sym (get32-put32 c k h) ∙ r ∙ get32-put32 d l g), ap (drop 13) e)
symbol_once (character c) (identifier m) k l h g e = absurd (omega (arith, first e))
symbol_once (character c) (number m) k l h g e = absurd (omega (arith, first e))
symbol_once (identifier n) (character d) k l h g e = absurd (omega (arith, first e))
symbol_once (identifier n) (identifier m) k l h g e = let r = name_once n m k l (ap (drop 9) e) in (ap identifier r.0, r.1)
symbol_once (identifier n) (number m) k l h g e = absurd (omega (arith, first e))
symbol_once (number n) (character d) k l h g e = absurd (omega (arith, first e))
symbol_once (number n) (identifier m) k l h g e = absurd (omega (arith, first e))
symbol_once (number n) (number m) k l h g e = let r = name_once n m k l (ap (drop 9) e) in (ap number r.0, r.1)

symbol-first : (x : Symbol) (k : List ℕ) → get_or (put_symbol zero_span x k) 0 16 ≤ 3
unfolding put_symbol
symbol-first (character c) k = omega arith
symbol-first (identifier n) k = omega arith
symbol-first (number n) k = omega arith

once : (u v : Expression) (k l : List ℕ) → Coded u → Coded v → Stops k → Stops l → put_expression u k ≡ put_expression v l → (u ≡ v) × (k ≡ l)
unfolding put_expression
once void void k l h g i j e = (refl, e)
once void (atom y v) k l h g i j e = absurd (omega (arith, first e, symbol-first y (put_expression v l), i))
once void (group w v) k l h g i j e = absurd (omega (arith, first e, i))
once (atom x u) void k l h g i j e = absurd (omega (arith, first e, symbol-first x (put_expression u k), j))
once (atom x u) (atom y v) k l h g i j e =
    let r = symbol_once x y (put_expression u k) (put_expression v l) h.0 g.0 e in
    let t = once u v k l h.1 g.1 i j r.1 in
    (ap₂ atom r.0 t.0, t.1)
once (atom x u) (group w v) k l h g i j e = absurd (omega (arith, first e, symbol-first x (put_expression u k)))
once (group w u) void k l h g i j e = absurd (omega (arith, first e, j))
once (group w u) (atom y v) k l h g i j e = absurd (omega (arith, first e, symbol-first y (put_expression v l)))
once (group w u) (group z v) k l h g i j e =
    let r = once w z (15 ∷ put_expression u k) (15 ∷ put_expression v l) h.0 g.0 (omega arith) (omega arith) (unfold put_span put32 in ap (drop 9) e) in
    let t = once u v k l h.1 g.1 i j (ap (drop 1) r.1) in
    (ap₂ group r.0 t.0, t.1)

-- Two expressions with the same bytes are one.
pub one-expression : (u v : Expression) → Coded u → Coded v → bytes_of u ≡ bytes_of v → u ≡ v
one-expression u v h g e = (once u v [] [] h g (omega arith) (omega arith) e).0
