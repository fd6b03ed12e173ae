-- Symbols as records with zero spans: the mark, the span, and the fields as they stand in the image.
use Prim.Native.Nat.{ℕ, ◌+◌, ◌-◌}
use native.Mathlib.Omega.{arith}
use mathlib.Core.Path.{◌≡◌, refl, sym, ap, ◌∙◌}
use mathlib.Core.List.{List, [], ◌∷◌, ◌++◌, append-nil}
use lib.ListN.{length, get_or, take, drop, length-append}
use Rattle.program.specs.Syntax.{Span, Symbol, character, identifier, number}
use Rattle.program.specs.Bytes.{put32, put_span, put_name}
use Rattle.program.specs.Encode.{put_symbol}
use Rattle.image.proofs.Readings.{first_byte}
use Rattle.patterns.specs.Marks.{zero_span}
use Rattle.patterns.specs.Meet.{letter}
use Rattle.symbols.specs.Parts.{SymbolAt}
use Rattle.expression.specs.Free.{Ends}

-- A list begins with what it was joined from.
front : (n k : List ℕ) → take (length n) (n ++ k) ≡ n
front [] k = refl
front (x ∷ n) k = ap (λ (l : List ℕ). x ∷ l) (front n k)

code-ends : (s : List ℕ) (p : Span) (x : Symbol) (k : List ℕ) → s ≡ put_symbol p x k → get_or s 0 0 ≡ 1 → Ends s x 13
unfolding put_symbol put_span put32 zero_span
code-ends s p (character c) k e m = record { past = omega arith; within = omega (arith, ap length e); long = refl; fields = ap (λ (l : List ℕ). take 4 (drop 9 l)) e }
code-ends s p (identifier n) k e m = absurd (omega (arith, first_byte e))
code-ends s p (number n) k e m = absurd (omega (arith, first_byte e))

named-fields : (n k : List ℕ) (r : ℕ) → r ≡ 10 + length n → take (r - 9) (length n ∷ (n ++ k)) ≡ length n ∷ (n ++ [])
named-fields n k r e =
    let f : r - 9 ≡ ℕ.suc (length n) = omega (arith, e) in
    ap (λ (i : ℕ). take i (length n ∷ (n ++ k))) f ∙ ap (λ (l : List ℕ). length n ∷ l) (front n k ∙ sym (append-nil n))

name-ends : (s : List ℕ) (p : Span) (x : Symbol) (k : List ℕ) → s ≡ put_symbol p x k → (get_or s 0 0 ≡ 1 → ⊥) → (r : ℕ) → r ≡ 10 + get_or s 9 0 → Ends s x r
unfolding put_symbol put_span put32 put_name zero_span
name-ends s p (character c) k e m r h = absurd (m (first_byte e))
name-ends s p (identifier n) k e m r h =
    let z : get_or s 9 0 ≡ length n = ap (λ (l : List ℕ). get_or l 9 0) e in
    record {
      past = omega (arith, h);
      within = omega (arith, h, z, ap length e, length-append n k);
      long = omega (arith, h, z, length-append n []);
      fields = ap (λ (l : List ℕ). take (r - 9) (drop 9 l)) e ∙ named-fields n k r (omega (arith, h, z));
    }
name-ends s p (number n) k e m r h =
    let z : get_or s 9 0 ≡ length n = ap (λ (l : List ℕ). get_or l 9 0) e in
    record {
      past = omega (arith, h);
      within = omega (arith, h, z, ap length e, length-append n k);
      long = omega (arith, h, z, length-append n []);
      fields = ap (λ (l : List ℕ). take (r - 9) (drop 9 l)) e ∙ named-fields n k r (omega (arith, h, z));
    }

whole : (s : List ℕ) (p : Span) (x : Symbol) (k : List ℕ) → s ≡ put_symbol p x k → (get_or s 0 0 ∷ put_span zero_span []) ++ drop 9 (put_symbol zero_span x []) ≡ put_symbol zero_span x []
unfolding put_symbol put_span put32 zero_span
whole s p (character c) k e = rw (first_byte e)
whole s p (identifier n) k e = rw (first_byte e)
whole s p (number n) k e = rw (first_byte e)

module _ {s : List ℕ} (x : SymbolAt s) where
  pub code-end : get_or s 0 0 ≡ 1 → Ends s x.symbol 13
  code-end m = code-ends s x.span x.symbol x.rest x.is m

  pub name-end : (get_or s 0 0 ≡ 1 → ⊥) → (r : ℕ) → r ≡ 10 + get_or s 9 0 → Ends s x.symbol r
  name-end m r e = name-ends s x.span x.symbol x.rest x.is m r e

  -- The record in its two parts.
  pub record_whole : (get_or s 0 0 ∷ put_span zero_span []) ++ drop 9 (put_symbol zero_span x.symbol []) ≡ put_symbol zero_span x.symbol []
  record_whole = whole s x.span x.symbol x.rest x.is

-- The record of the character A.
pub letter-whole : (1 ∷ put_span zero_span []) ++ (65 ∷ 0 ∷ 0 ∷ 0 ∷ []) ≡ put_symbol zero_span letter []
unfolding put_symbol put_span put32 zero_span letter
letter-whole = refl

pub zero_span_lem : (m : ℕ) → m ∷ 0 ∷ 0 ∷ 0 ∷ 0 ∷ 0 ∷ 0 ∷ 0 ∷ 0 ∷ [] ≡ m ∷ put_span zero_span []
unfolding put_span put32 zero_span
zero_span_lem m = refl
