-- Spans and spellings by their bytes.
use Prim.Native.Nat.{ℕ, ◌-◌, ◌≤◌}
use native.Mathlib.Omega.{arith}
use mathlib.Core.Path.{◌≡◌, refl, sym, ap, ap₂, ◌∙◌}
use mathlib.Core.Bool.{Bool, true, false, true≢false, ◌&&◌}
use mathlib.Core.List.{List}
use lib.Dec.{eqb}
use borrow.Author.Tests.{eq-eqb, eqb-true}
use lib.ListN.{length, get_or, take, drop}
use Rattle.program.specs.Syntax.{Span, Symbol}
use Rattle.program.specs.Bytes.{put32, put_span, get32, get_span}
use Rattle.image.specs.Parts.{NameAt}
use Rattle.program.proofs.Numbers.{get32-put32}
use Rattle.patterns.specs.Names.{eq_bytes}
use Rattle.patterns.specs.Symbols.{key, eq_symbol, same_symbol}
use Rattle.symbols.specs.Parts.{SymbolAt}
use Rattle.symbols.proofs.Parts.{part_rest, CodeAt, IdentifierAt, NumberAt, code_at, identifier-at, number_at, codes_compared}
use Rattle.patterns.specs.Equality.{eq_span}
use Rattle.configuration.specs.Lockstep.{SpanAt}

module _ {s : List ℕ} (x : SpanAt s) where
  pub span-room : 9 ≤ length s
  unfolding put_span put32
  span-room = omega (arith, ap length x.is)

  pub start_read : (get_span s 1).start ≡ x.span.start
  unfolding get_span get32 put_span put32
  start_read = ap (λ (l : List ℕ). get32 l 1) x.is ∙ get32-put32 x.span.start (put32 x.span.end x.rest) (omega (arith, x.valid.0, x.valid.1))

  pub end_read : (get_span s 1).end ≡ x.span.end
  unfolding get_span get32 put_span put32
  end_read = ap (λ (l : List ℕ). get32 l 5) x.is ∙ get32-put32 x.span.end x.rest x.valid.1

module _ {a b : List ℕ} (x : SpanAt a) (y : SpanAt b) where
  pub spans_compared : (r s : Span) → (r.start ≡ (get_span a 1).start) × (r.end ≡ (get_span a 1).end) → (s.start ≡ (get_span b 1).start) × (s.end ≡ (get_span b 1).end) → eqb r.start s.start && eqb r.end s.end ≡ eq_span x.span y.span
  unfolding eq_span
  spans_compared r s h k =
      ap₂ (λ (t u : Bool). t && u)
      (ap₂ eqb (h.0 ∙ start_read x) (k.0 ∙ start_read y))
      (ap₂ eqb (h.1 ∙ end_read x) (k.1 ∙ end_read y))

-- Two symbols of one sort.
pub codes_spelled : {a b : List ℕ} {x y : Symbol} (c : CodeAt a x) (d : CodeAt b y) → eqb (get32 a 9) (get32 b 9) ≡ eq_symbol x y
unfolding same_symbol key eq_symbol
codes_spelled {a} {b} {x} {y} c d = codes_compared c d ∙ same
  where
    same : same_symbol x y ≡ eq_symbol x y
    same = rw (c.is, d.is)

module _ {a b : List ℕ} (x : SymbolAt a) (y : SymbolAt b) (e : get_or a 0 0 ≡ get_or b 0 0) where
  pub characters_spelled : get_or a 0 0 ≡ 1 → eqb (get32 a 9) (get32 b 9) ≡ eq_symbol x.symbol y.symbol
  characters_spelled m = codes_spelled (code_at x m) (code_at y (sym e ∙ m))

  pub characters_room : get_or a 0 0 ≡ 1 → (13 ≤ length a) × (13 ≤ length b)
  characters_room m = ((code_at x m).room, (code_at y (sym e ∙ m)).room)

pub record NamesIn (a b : List ℕ) (x y : Symbol) : Type 0 where
  pub one : NameAt (drop 9 a)
  pub two : NameAt (drop 9 b)
  pub same : eq_bytes one.name two.name ≡ eq_symbol x y

identifiers_in : {a b : List ℕ} {x y : Symbol} → IdentifierAt a x → IdentifierAt b y → NamesIn a b x y
unfolding eq_symbol
identifiers_in n m = record { one = n.name; two = m.name; same = rw (n.is, m.is) }

numbers_in : {a b : List ℕ} {x y : Symbol} → NumberAt a x → NumberAt b y → NamesIn a b x y
unfolding eq_symbol
numbers_in n m = record { one = n.name; two = m.name; same = rw (n.is, m.is) }

pub names_in : {a b : List ℕ} (x : SymbolAt a) (y : SymbolAt b) → get_or a 0 0 ≡ get_or b 0 0 → (get_or a 0 0 ≡ 1 → ⊥) → NamesIn a b x.symbol y.symbol
names_in {a} {b} x y e m = by (eqb (get_or a 0 0) 2) refl
  where
    by : (t : Bool) → eqb (get_or a 0 0) 2 ≡ t → NamesIn a b x.symbol y.symbol
    by true h = identifiers_in (identifier-at x (eqb-true (get_or a 0 0) 2 h)) (identifier-at y (sym e ∙ eqb-true (get_or a 0 0) 2 h))
    by false h = let n : get_or a 0 0 ≡ 2 → ⊥ = λ q. true≢false (sym (eq-eqb (get_or a 0 0) 2 q) ∙ h) in numbers_in (number_at x m n) (number_at y (λ q. m (e ∙ q)) (λ q. n (e ∙ q)))

abbrev pub part_name : (s : List ℕ) → NameAt (drop 9 s) → NameAt (take (length s - 9) (drop 9 s))
part_name s n = record { name = n.name; rest = n.rest; is = part_rest s 9 ∙ n.is }
