-- Symbols and variables in an image, and their texts.
use Prim.Native.Nat.{ℕ, ◌+◌, ◌/◌, ◌%◌, ◌≤◌}
use native.Mathlib.Omega.{arith}
use mathlib.Core.Path.{◌≡◌, refl, sym, ap, ◌∙◌}
use mathlib.Core.Bool.{Bool, true, false, cond, true≢false}
use mathlib.Core.List.{List, [], ◌∷◌, ◌++◌}
use lib.Dec.{eqb, ltb, leb}
use lib.ListN.{length, get_or, drop, length-append}
use borrow.Author.Tests.{ltb-true, leb-true}
use Rattle.program.specs.Syntax.{Span, Symbol, character, identifier, number, Kind, s_kind, t_kind, e_kind}
use Rattle.program.specs.Bytes.{put32, put_span, put_name, get32}
use Rattle.program.specs.Encode.{put_symbol, kind_mark}
use Rattle.program.specs.Limits.{pick, scalar, ValidSymbol}
use Rattle.image.specs.Parts.{NameAt}
use Rattle.program.proofs.Numbers.{get32-put32}
use Rattle.image.proofs.Readings.{first_byte}
use Rattle.patterns.specs.Ascii.{ascii}
use Rattle.symbols.specs.Parts.{SymbolAt}
use Rattle.symbols.proofs.Parts.{part_rest}
use Rattle.rows.proofs.Readings.{part}
use Rattle.meaning.specs.Text.{utf8, quote, format_symbol, format_kind}
use Rattle.text.specs.Parts.{VariableAt}
use Rattle.text.specs.FormatTerm.{kind_letter}

-- One to four bytes.
pub utf8-length : (c : ℕ) → length (utf8 c) ≤ 4
unfolding utf8
utf8-length c = go (ltb c 128) (ltb c 2048) (ltb c 65536)
  where
    go : (x y z : Bool)
        → length (cond x (c ∷ []) (cond y ((192 + c / 64) ∷ (128 + c % 64) ∷ []) (cond z ((224 + c / 4096) ∷ (128 + c / 64 % 64) ∷ (128 + c % 64) ∷ []) ((240 + c / 262144) ∷ (128 + c / 4096 % 64) ∷ (128 + c / 64 % 64) ∷ (128 + c % 64) ∷ [])))) ≤ 4
    go true y z = omega arith
    go false true z = omega arith
    go false false true = omega arith
    go false false false = omega arith

pub quote-length : (c : ℕ) → length (quote c) ≡ 1
unfolding quote ascii
quote-length c = go (eqb c 39)
  where
    go : (x : Bool) → length {A = ℕ} (cond x (34 ∷ []) (39 ∷ [])) ≡ 1
    go true = refl
    go false = refl

-- A character: its code from the tenth byte on.
pub record CodeIn (s : List ℕ) (x : Symbol) : Type 0 where
  pub code : ℕ
  pub is : x ≡ character code
  pub room : 13 ≤ length s
  pub stands : get32 s 9 ≡ code
  pub low : code ≤ 1114111

scalar-low : (c : ℕ) → scalar c ≡ true → c ≤ 1114111
unfolding scalar
scalar-low c e = go (ltb c 55296) refl (leb c 57343) e
  where
    go : (s : Bool) → ltb c 55296 ≡ s → (t : Bool) → pick s true (pick t false (leb c 1114111)) ≡ true → c ≤ 1114111
    go true h t e = omega (arith, ltb-true c 55296 h)
    go false h true e = absurd (true≢false (sym e))
    go false h false e = leb-true c 1114111 e

code_of : (s : List ℕ) (p : Span) (x : Symbol) (k : List ℕ) → s ≡ put_symbol p x k → ValidSymbol x → get_or s 0 0 ≡ 1 → CodeIn s x
unfolding put_symbol put_span put32 get32
code_of s p (character c) k e v m =
    let l = scalar-low c v in
    record { code = c; is = refl; room = omega (arith, ap length e); stands = ap (λ (b : List ℕ). get32 b 9) e ∙ get32-put32 c k (omega arith); low = l }
code_of s p (identifier n) k e v m = absurd (omega (arith, first_byte e))
code_of s p (number n) k e v m = absurd (omega (arith, first_byte e))

-- An identifier or a number: a name from the tenth byte on, printed as it is.
pub record NameIn (s : List ℕ) (x : Symbol) : Type 0 where
  pub name : NameAt (part s 9)
  pub text : name.name ≡ format_symbol x
  pub fits : 10 + length name.name ≤ length s

name_of : (s : List ℕ) (p : Span) (x : Symbol) (k : List ℕ) → s ≡ put_symbol p x k → (get_or s 0 0 ≡ 1 → ⊥) → NameIn s x
unfolding put_symbol put_span put32 put_name format_symbol
name_of s p (character c) k e m = absurd (m (first_byte e))
name_of s p (identifier n) k e m = record { name = record { name = n; rest = k; is = part_rest s 9 ∙ ap (drop 9) e }; text = refl; fits = omega (arith, ap length e, length-append n k) }
name_of s p (number n) k e m = record { name = record { name = n; rest = k; is = part_rest s 9 ∙ ap (drop 9) e }; text = refl; fits = omega (arith, ap length e, length-append n k) }

module _ {s : List ℕ} (x : SymbolAt s) where
  pub code_in : get_or s 0 0 ≡ 1 → CodeIn s x.symbol
  code_in m = code_of s x.span x.symbol x.rest x.is x.valid m

  pub name_in : (get_or s 0 0 ≡ 1 → ⊥) → NameIn s x.symbol
  name_in m = name_of s x.span x.symbol x.rest x.is m

-- A variable: the letter of its kind, a point and its name.
kind-text : (v : Kind) → kind_letter (kind_mark v) ∷ 46 ∷ [] ≡ format_kind v
unfolding kind_letter kind_mark format_kind ascii
kind-text s_kind = refl
kind-text t_kind = refl
kind-text e_kind = refl

module _ {s : List ℕ} (x : VariableAt s) where
  pub variable_passed : drop 9 s ≡ put_name x.name x.rest
  unfolding put_span put32
  variable_passed = ap (drop 9) x.is

  abbrev pub variable-name : NameAt (part s 9)
  variable-name = record { name = x.name; rest = x.rest; is = part_rest s 9 ∙ variable_passed }

  pub variable-fits : 10 + length x.name ≤ length s
  unfolding put_span put32 put_name
  variable-fits = omega (arith, ap length x.is, length-append x.name x.rest)

  pub variable-text : kind_letter (get_or s 0 0) ∷ 46 ∷ x.name ≡ format_kind x.kind ++ x.name
  variable-text = rw (first_byte x.is) (ap (λ (l : List ℕ). l ++ x.name) (kind-text x.kind))
