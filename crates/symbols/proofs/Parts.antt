-- Symbols in an image by their marks and bytes.
use Prim.Native.Nat.{ℕ, ◌-◌, ◌<◌, ◌≤◌}
use native.Mathlib.Omega.{arith}
use native.Mathlib.Nat.{le_refl}
use mathlib.Core.Path.{◌≡◌, refl, sym, ap, ap₂, ◌∙◌}
use mathlib.Core.Bool.{Bool, true, false, true≢false}
use mathlib.Core.List.{List}
use lib.Dec.{eqb, leb, ltb}
use lib.ListN.{length, take, drop, get_or, length-drop}
use lib.Seq.{take_all}
use borrow.Author.Tests.{ltb-true, leb-true}
use Rattle.program.specs.Syntax.{Span, Symbol, character, identifier, number}
use Rattle.program.specs.Bytes.{put32, put_span, get32}
use Rattle.program.specs.Encode.{put_symbol}
use Rattle.program.specs.Limits.{pick, scalar, ValidSymbol}
use Rattle.image.specs.Parts.{NameAt}
use Rattle.program.proofs.Numbers.{get32-put32}
use Rattle.program.proofs.Lengths.{symbol-length}
use Rattle.patterns.specs.Names.{eq_bytes, same_name}
use Rattle.patterns.specs.Symbols.{significant, key, eq_symbol, same_symbol}
use Rattle.symbols.specs.Parts.{SymbolAt}

-- What the part `&s[i..]` holds.
pub part_rest : (s : List ℕ) (i : ℕ) → take (length s - i) (drop i s) ≡ drop i s
part_rest s i = take_all (length s - i) (drop i s) (simp length-drop (le_refl (length s - i)))

pub symbol-room : {s : List ℕ} → SymbolAt s → 10 ≤ length s
symbol-room x = omega (arith, ap length x.is, symbol-length x.span x.symbol x.rest)

-- "1 character (32-bit code); 2 identifier, 3 number"
symbol_mark : Symbol → ℕ
symbol_mark (character c) = 1
symbol_mark (identifier n) = 2
symbol_mark (number n) = 3

put_mark : (p : Span) (x : Symbol) (k : List ℕ) → get_or (put_symbol p x k) 0 0 ≡ symbol_mark x
unfolding put_symbol symbol_mark
put_mark p (character c) k = refl
put_mark p (identifier n) k = refl
put_mark p (number n) k = refl

symbol-mark : {s : List ℕ} (x : SymbolAt s) → get_or s 0 0 ≡ symbol_mark x.symbol
symbol-mark x = ap (λ (l : List ℕ). get_or l 0 0) x.is ∙ put_mark x.span x.symbol x.rest

-- Symbols of two sorts.
marks_differ : (x y : Symbol) → (symbol_mark x ≡ symbol_mark y → ⊥) → same_symbol x y ≡ false
unfolding symbol_mark same_symbol key eq_symbol
marks_differ (character c) (character d) h = absurd (h refl)
marks_differ (character c) (identifier m) h = refl
marks_differ (character c) (number m) h = refl
marks_differ (identifier n) (character d) h = refl
marks_differ (identifier n) (identifier m) h = absurd (h refl)
marks_differ (identifier n) (number m) h = refl
marks_differ (number n) (character d) h = refl
marks_differ (number n) (identifier m) h = refl
marks_differ (number n) (number m) h = absurd (h refl)

pub two_sorts : {a b : List ℕ} (x : SymbolAt a) (y : SymbolAt b) → (get_or a 0 0 ≡ get_or b 0 0 → ⊥) → same_symbol x.symbol y.symbol ≡ false
two_sorts x y h = marks_differ x.symbol y.symbol (λ e. h (symbol-mark x ∙ e ∙ sym (symbol-mark y)))

-- A character: four bytes from the tenth on.
pub record CodeAt (s : List ℕ) (x : Symbol) : Type 0 where
  pub code : ℕ
  pub is : x ≡ character code
  pub room : 13 ≤ length s
  pub read : get32 s 9 ≡ code

scalar-small : (c : ℕ) → scalar c ≡ true → c < 4294967296
unfolding scalar
scalar-small c e = go (ltb c 55296) refl (leb c 57343) refl e
  where
    go : (s : Bool) → ltb c 55296 ≡ s → (t : Bool) → leb c 57343 ≡ t → pick s true (pick t false (leb c 1114111)) ≡ true → c < 4294967296
    go true h t k e = omega (arith, ltb-true c 55296 h)
    go false h true k e = absurd (true≢false (sym e))
    go false h false k e = omega (arith, leb-true c 1114111 e)

code-read : (p : Span) (c : ℕ) (k : List ℕ) → c < 4294967296 → get32 (put_symbol p (character c) k) 9 ≡ c
unfolding get32 put_symbol put_span put32
code-read p c k h = get32-put32 c k h

code_of : (s : List ℕ) (p : Span) (x : Symbol) (k : List ℕ) → s ≡ put_symbol p x k → ValidSymbol x → symbol_mark x ≡ 1 → CodeAt s x
unfolding symbol_mark put_symbol put_span put32
code_of s p (character c) k e v m = record { code = c; is = refl; room = omega (arith, ap length e); read = ap (λ (l : List ℕ). get32 l 9) e ∙ code-read p c k (scalar-small c v) }
code_of s p (identifier n) k e v m = absurd (omega arith)
code_of s p (number n) k e v m = absurd (omega arith)

pub code_at : {s : List ℕ} (x : SymbolAt s) → get_or s 0 0 ≡ 1 → CodeAt s x.symbol
code_at {s} x m = code_of s x.span x.symbol x.rest x.is x.valid (sym (symbol-mark x) ∙ m)

pub codes_compared : {a b : List ℕ} {x y : Symbol} (c : CodeAt a x) (d : CodeAt b y) → eqb (get32 a 9) (get32 b 9) ≡ same_symbol x y
unfolding same_symbol key eq_symbol
codes_compared c d = rw (c.read, d.read, c.is, d.is)

-- An identifier or a number: a name from the tenth byte on.
pub record IdentifierAt (s : List ℕ) (x : Symbol) : Type 0 where
  pub name : NameAt (drop 9 s)
  pub is : x ≡ identifier name.name

pub record NumberAt (s : List ℕ) (x : Symbol) : Type 0 where
  pub name : NameAt (drop 9 s)
  pub is : x ≡ number name.name

identifier_of : (s : List ℕ) (p : Span) (x : Symbol) (k : List ℕ) → s ≡ put_symbol p x k → symbol_mark x ≡ 2 → IdentifierAt s x
unfolding symbol_mark put_symbol put_span put32
identifier_of s p (character c) k e m = absurd (omega arith)
identifier_of s p (identifier n) k e m = record { name = record { name = n; rest = k; is = ap (drop 9) e }; is = refl }
identifier_of s p (number n) k e m = absurd (omega arith)

number_of : (s : List ℕ) (p : Span) (x : Symbol) (k : List ℕ) → s ≡ put_symbol p x k → (symbol_mark x ≡ 1 → ⊥) → (symbol_mark x ≡ 2 → ⊥) → NumberAt s x
unfolding symbol_mark put_symbol put_span put32
number_of s p (character c) k e m l = absurd (m refl)
number_of s p (identifier n) k e m l = absurd (l refl)
number_of s p (number n) k e m l = record { name = record { name = n; rest = k; is = ap (drop 9) e }; is = refl }

pub identifier-at : {s : List ℕ} (x : SymbolAt s) → get_or s 0 0 ≡ 2 → IdentifierAt s x.symbol
identifier-at {s} x m = identifier_of s x.span x.symbol x.rest x.is (sym (symbol-mark x) ∙ m)

pub number_at : {s : List ℕ} (x : SymbolAt s) → (get_or s 0 0 ≡ 1 → ⊥) → (get_or s 0 0 ≡ 2 → ⊥) → NumberAt s x.symbol
number_at {s} x m l = number_of s x.span x.symbol x.rest x.is (λ e. m (symbol-mark x ∙ e)) (λ e. l (symbol-mark x ∙ e))

named_of : (s : List ℕ) (p : Span) (x : Symbol) (k : List ℕ) → s ≡ put_symbol p x k → (symbol_mark x ≡ 1 → ⊥) → NameAt (drop 9 s)
unfolding symbol_mark put_symbol put_span put32
named_of s p (character c) k e m = absurd (m refl)
named_of s p (identifier n) k e m = record { name = n; rest = k; is = ap (drop 9) e }
named_of s p (number n) k e m = record { name = n; rest = k; is = ap (drop 9) e }

pub named-at : {s : List ℕ} (x : SymbolAt s) → (get_or s 0 0 ≡ 1 → ⊥) → NameAt (drop 9 s)
named-at {s} x m = named_of s x.span x.symbol x.rest x.is (λ e. m (symbol-mark x ∙ e))

pub identifiers_compared : {a b : List ℕ} {x y : Symbol} (n : IdentifierAt a x) (m : IdentifierAt b y) → same_name n.name.name m.name.name ≡ same_symbol x y
unfolding same_symbol key eq_symbol same_name
identifiers_compared n m = rw (n.is, m.is)

pub numbers_compared : {a b : List ℕ} {x y : Symbol} (n : NumberAt a x) (m : NumberAt b y) → eq_bytes (significant n.name.name) (significant m.name.name) ≡ same_symbol x y
unfolding same_symbol key eq_symbol
numbers_compared n m = rw (n.is, m.is)

pub same_digits : (a b : List ℕ) {x y : List ℕ} {t : Bool} → t ≡ eq_bytes x y → x ≡ significant a → y ≡ significant b → t ≡ eq_bytes (significant a) (significant b)
same_digits a b e f g = e ∙ ap₂ eq_bytes f g
