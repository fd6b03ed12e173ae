-- What the first tokens of two patterns say of their bytes.
use Prim.Native.Nat.{ℕ, ◌-◌, ◌≤◌, ◌<◌}
use native.Mathlib.Omega.{arith}
use mathlib.Core.Path.{◌≡◌, refl, sym, ap, subst, ◌∙◌}
use mathlib.Core.Logic.{◌⊎◌, inl, inr}
use mathlib.Core.Bool.{Bool, true, false, ◌&&◌}
use mathlib.Core.List.{List, [], ◌∷◌}
use lib.ListN.{length, get_or, take, drop}
use Rattle.program.specs.Syntax.{Name, Span, Symbol, character, identifier, number, Kind, s_kind, t_kind, e_kind, Terms, nil, symbol, variable, bracket, call, block}
use Rattle.program.specs.Bytes.{put32, put_span, put_name}
use Rattle.program.specs.Encode.{put_symbol, kind_mark, put_terms}
use Rattle.program.specs.Limits.{Mode, ValidSpan, ValidTerms}
use Rattle.image.specs.Parts.{Passes, NameAt, TermsAt, token_length}
use Rattle.image.proofs.Readings.{flat_one}
use Rattle.program.proofs.Lengths.{span-length, name-length, symbol-length, terms-length}
use Rattle.patterns.specs.Names.{caseless, same_name}
use Rattle.patterns.specs.Symbols.{eq_symbol}
use Rattle.symbols.specs.Parts.{SymbolAt}
use Rattle.symbols.proofs.Parts.{part_rest}
use Rattle.patterns.specs.Equality.{eq_span, eq_kind}
use Rattle.configuration.specs.Lockstep.{after_token, same_token, first_name, meets, SpanAt}

-- The mark of a symbol, and of what terms begin with.
abbrev pub symbol_mark : Symbol → ℕ
symbol_mark (character c) = 1
symbol_mark (identifier n) = 2
symbol_mark (number n) = 3

abbrev pub mark : Terms → ℕ
mark nil = 15
mark (symbol s x r) = symbol_mark x
mark (variable s k n r) = kind_mark k
mark (bracket s i r) = 7
mark (call s f a r) = 8
mark (block s a b r) = 9

mark_put : (t : Terms) (k : List ℕ) → get_or (put_terms t k) 0 0 ≡ mark t
unfolding put_terms put_symbol
mark_put nil k = refl
mark_put (symbol s (character c) r) k = refl
mark_put (symbol s (identifier n) r) k = refl
mark_put (symbol s (number n) r) k = refl
mark_put (variable s v n r) k = refl
mark_put (bracket s i r) k = refl
mark_put (call s f a r) k = refl
mark_put (block s a b r) k = refl

pub mark-is : {m : Mode} {s : List ℕ} (t : TermsAt m s) → get_or s 0 0 ≡ mark t.terms
mark-is t = ap (λ (l : List ℕ). get_or l 0 0) t.is ∙ mark_put t.terms t.rest

pub symbol_low : (x : Symbol) → (0 < symbol_mark x) × (symbol_mark x ≤ 3)
symbol_low (character c) = (omega arith, omega arith)
symbol_low (identifier n) = (omega arith, omega arith)
symbol_low (number n) = (omega arith, omega arith)

pub kind_range : (k : Kind) → (3 < kind_mark k) × (kind_mark k ≤ 6)
unfolding kind_mark
kind_range s_kind = (omega arith, omega arith)
kind_range t_kind = (omega arith, omega arith)
kind_range e_kind = (omega arith, omega arith)

and_false : (a : Bool) → a && false ≡ false
and_false true = refl
and_false false = refl

symbols_differ : (x y : Symbol) → (symbol_mark x ≡ symbol_mark y → ⊥) → eq_symbol x y ≡ false
unfolding eq_symbol
symbols_differ (character c) (character d) h = absurd (h refl)
symbols_differ (character c) (identifier m) h = refl
symbols_differ (character c) (number m) h = refl
symbols_differ (identifier n) (character d) h = refl
symbols_differ (identifier n) (identifier m) h = absurd (h refl)
symbols_differ (identifier n) (number m) h = refl
symbols_differ (number n) (character d) h = refl
symbols_differ (number n) (identifier m) h = refl
symbols_differ (number n) (number m) h = absurd (h refl)

kinds_differ : (k l : Kind) → (kind_mark k ≡ kind_mark l → ⊥) → eq_kind k l ≡ false
unfolding eq_kind kind_mark
kinds_differ s_kind s_kind h = absurd (h refl)
kinds_differ s_kind t_kind h = refl
kinds_differ s_kind e_kind h = refl
kinds_differ t_kind s_kind h = refl
kinds_differ t_kind t_kind h = absurd (h refl)
kinds_differ t_kind e_kind h = refl
kinds_differ e_kind s_kind h = refl
kinds_differ e_kind t_kind h = refl
kinds_differ e_kind e_kind h = absurd (h refl)

kinds_same : (k l : Kind) → kind_mark k ≡ kind_mark l → eq_kind k l ≡ true
unfolding eq_kind kind_mark
kinds_same s_kind s_kind h = refl
kinds_same s_kind t_kind h = absurd (omega arith)
kinds_same s_kind e_kind h = absurd (omega arith)
kinds_same t_kind s_kind h = absurd (omega arith)
kinds_same t_kind t_kind h = refl
kinds_same t_kind e_kind h = absurd (omega arith)
kinds_same e_kind s_kind h = absurd (omega arith)
kinds_same e_kind t_kind h = absurd (omega arith)
kinds_same e_kind e_kind h = refl

-- The span of what terms begin with.
abbrev pub span_of : Terms → Span
span_of nil = record { start = 0; end = 0 }
span_of (symbol s x r) = s
span_of (variable s k n r) = s
span_of (bracket s i r) = s
span_of (call s f a r) = s
span_of (block s a b r) = s

abbrev pub Fits : Terms → Type 0
Fits t = ValidTerms t Mode.pattern 0

pub tokens_differ : (t u : Terms) → Fits t → Fits u → (mark t ≡ mark u → ⊥) → same_token t u ≡ false
unfolding same_token
tokens_differ nil nil h g e = absurd (e refl)
tokens_differ nil (symbol z y u) h g e = refl
tokens_differ nil (variable z l m u) h g e = refl
tokens_differ nil (bracket z j u) h g e = refl
tokens_differ nil (call z o₁ c u) h g e = absurd g.2
tokens_differ nil (block z c d u) h g e = absurd g.2
tokens_differ (symbol s x r) nil h g e = refl
tokens_differ (symbol s x r) (symbol z y u) h g e = ap (λ (b : Bool). eq_span s z && b) (symbols_differ x y e) ∙ and_false (eq_span s z)
tokens_differ (symbol s x r) (variable z l m u) h g e = refl
tokens_differ (symbol s x r) (bracket z j u) h g e = refl
tokens_differ (symbol s x r) (call z o₁ c u) h g e = absurd g.2
tokens_differ (symbol s x r) (block z c d u) h g e = absurd g.2
tokens_differ (variable s k n r) nil h g e = refl
tokens_differ (variable s k n r) (symbol z y u) h g e = refl
tokens_differ (variable s k n r) (variable z l m u) h g e = ap (λ (b : Bool). eq_span s z && b) (kinds_differ k l e) ∙ and_false (eq_span s z)
tokens_differ (variable s k n r) (bracket z j u) h g e = refl
tokens_differ (variable s k n r) (call z o₁ c u) h g e = absurd g.2
tokens_differ (variable s k n r) (block z c d u) h g e = absurd g.2
tokens_differ (bracket s i r) nil h g e = refl
tokens_differ (bracket s i r) (symbol z y u) h g e = refl
tokens_differ (bracket s i r) (variable z l m u) h g e = refl
tokens_differ (bracket s i r) (bracket z j u) h g e = absurd (e refl)
tokens_differ (bracket s i r) (call z o₁ c u) h g e = absurd g.2
tokens_differ (bracket s i r) (block z c d u) h g e = absurd g.2
tokens_differ (call s f a r) w h g e = absurd h.2
tokens_differ (block s a b r) w h g e = absurd h.2

spans_differ : (t u : Terms) → Fits t → Fits u → mark t ≡ mark u → (mark t ≡ 15 → ⊥) → eq_span (span_of t) (span_of u) ≡ false → same_token t u ≡ false
unfolding same_token
spans_differ nil nil h g e f q = absurd (f refl)
spans_differ nil (symbol z y u) h g e f q = absurd (omega (arith, e, symbol_low y))
spans_differ nil (variable z l m u) h g e f q = absurd (omega (arith, e, kind_range l))
spans_differ nil (bracket z j u) h g e f q = absurd (omega (arith, e))
spans_differ nil (call z o₁ c u) h g e f q = absurd g.2
spans_differ nil (block z c d u) h g e f q = absurd g.2
spans_differ (symbol s x r) nil h g e f q = absurd (omega (arith, e, symbol_low x))
spans_differ (symbol s x r) (symbol z y u) h g e f q = ap (λ (b : Bool). b && eq_symbol x y) q
spans_differ (symbol s x r) (variable z l m u) h g e f q = absurd (omega (arith, e, symbol_low x, kind_range l))
spans_differ (symbol s x r) (bracket z j u) h g e f q = absurd (omega (arith, e, symbol_low x))
spans_differ (symbol s x r) (call z o₁ c u) h g e f q = absurd g.2
spans_differ (symbol s x r) (block z c d u) h g e f q = absurd g.2
spans_differ (variable s k n r) nil h g e f q = absurd (omega (arith, e, kind_range k))
spans_differ (variable s k n r) (symbol z y u) h g e f q = absurd (omega (arith, e, kind_range k, symbol_low y))
spans_differ (variable s k n r) (variable z l m u) h g e f q = ap (λ (b : Bool). b && eq_kind k l) q
spans_differ (variable s k n r) (bracket z j u) h g e f q = absurd (omega (arith, e, kind_range k))
spans_differ (variable s k n r) (call z o₁ c u) h g e f q = absurd g.2
spans_differ (variable s k n r) (block z c d u) h g e f q = absurd g.2
spans_differ (bracket s i r) nil h g e f q = absurd (omega (arith, e))
spans_differ (bracket s i r) (symbol z y u) h g e f q = absurd (omega (arith, e, symbol_low y))
spans_differ (bracket s i r) (variable z l m u) h g e f q = absurd (omega (arith, e, kind_range l))
spans_differ (bracket s i r) (bracket z j u) h g e f q = q
spans_differ (bracket s i r) (call z o₁ c u) h g e f q = absurd g.2
spans_differ (bracket s i r) (block z c d u) h g e f q = absurd g.2
spans_differ (call s f₁ a r) w h g e f q = absurd h.2
spans_differ (block s a b r) w h g e f q = absurd h.2

high_same : (t u : Terms) → Fits t → Fits u → mark t ≡ mark u → (mark t ≡ 15 → ⊥) → 3 < mark t → eq_span (span_of t) (span_of u) ≡ true → same_token t u ≡ true
unfolding same_token
high_same nil nil h g e f o q = absurd (f refl)
high_same nil (symbol z y u) h g e f o q = absurd (omega (arith, e, symbol_low y))
high_same nil (variable z l m u) h g e f o q = absurd (omega (arith, e, kind_range l))
high_same nil (bracket z j u) h g e f o q = absurd (omega (arith, e))
high_same nil (call z o₁ c u) h g e f o q = absurd g.2
high_same nil (block z c d u) h g e f o q = absurd g.2
high_same (symbol s x r) nil h g e f o q = absurd (omega (arith, e, symbol_low x))
high_same (symbol s x r) (symbol z y u) h g e f o q = absurd (omega (arith, o, symbol_low x))
high_same (symbol s x r) (variable z l m u) h g e f o q = absurd (omega (arith, e, symbol_low x, kind_range l))
high_same (symbol s x r) (bracket z j u) h g e f o q = absurd (omega (arith, e, symbol_low x))
high_same (symbol s x r) (call z o₁ c u) h g e f o q = absurd g.2
high_same (symbol s x r) (block z c d u) h g e f o q = absurd g.2
high_same (variable s k n r) nil h g e f o q = absurd (omega (arith, e, kind_range k))
high_same (variable s k n r) (symbol z y u) h g e f o q = absurd (omega (arith, e, kind_range k, symbol_low y))
high_same (variable s k n r) (variable z l m u) h g e f o q = ap (λ (b : Bool). b && eq_kind k l) q ∙ kinds_same k l e
high_same (variable s k n r) (bracket z j u) h g e f o q = absurd (omega (arith, e, kind_range k))
high_same (variable s k n r) (call z o₁ c u) h g e f o q = absurd g.2
high_same (variable s k n r) (block z c d u) h g e f o q = absurd g.2
high_same (bracket s i r) nil h g e f o q = absurd (omega (arith, e))
high_same (bracket s i r) (symbol z y u) h g e f o q = absurd (omega (arith, e, symbol_low y))
high_same (bracket s i r) (variable z l m u) h g e f o q = absurd (omega (arith, e, kind_range l))
high_same (bracket s i r) (bracket z j u) h g e f o q = q
high_same (bracket s i r) (call z o₁ c u) h g e f o q = absurd g.2
high_same (bracket s i r) (block z c d u) h g e f o q = absurd g.2
high_same (call s f₁ a r) w h g e f o q = absurd h.2
high_same (block s a b r) w h g e f o q = absurd h.2

-- Two symbols.
pub record SymbolsHere (t u : Terms) (k l : List ℕ) : Type 0 where
  pub one : SymbolAt (put_terms t k)
  pub two : SymbolAt (put_terms u l)
  pub same : eq_span (span_of t) (span_of u) ≡ true → same_token t u ≡ eq_symbol one.symbol two.symbol

symbols_here : (t u : Terms) → Fits t → Fits u → mark t ≡ mark u → mark t ≤ 3 → (k l : List ℕ) → SymbolsHere t u k l
unfolding same_token put_terms
symbols_here nil nil h g e f ka la = absurd (omega (arith, f))
symbols_here nil (symbol z y u) h g e f ka la = absurd (omega (arith, e, symbol_low y))
symbols_here nil (variable z l m u) h g e f ka la = absurd (omega (arith, e, kind_range l))
symbols_here nil (bracket z j u) h g e f ka la = absurd (omega (arith, e))
symbols_here nil (call z o₁ c u) h g e f ka la = absurd g.2
symbols_here nil (block z c d u) h g e f ka la = absurd g.2
symbols_here (symbol s x r) nil h g e f ka la = absurd (omega (arith, e, symbol_low x))
symbols_here (symbol s x r) (symbol z y u) h g e f ka la = record { one = record { span = s; symbol = x; rest = put_terms r ka; is = refl; valid = h.1 }; two = record { span = z; symbol = y; rest = put_terms u la; is = refl; valid = g.1 }; same = λ q. ap (λ (b : Bool). b && eq_symbol x y) q }
symbols_here (symbol s x r) (variable z l m u) h g e f ka la = absurd (omega (arith, e, symbol_low x, kind_range l))
symbols_here (symbol s x r) (bracket z j u) h g e f ka la = absurd (omega (arith, e, symbol_low x))
symbols_here (symbol s x r) (call z o₁ c u) h g e f ka la = absurd g.2
symbols_here (symbol s x r) (block z c d u) h g e f ka la = absurd g.2
symbols_here (variable s k n r) nil h g e f ka la = absurd (omega (arith, e, kind_range k))
symbols_here (variable s k n r) (symbol z y u) h g e f ka la = absurd (omega (arith, e, kind_range k, symbol_low y))
symbols_here (variable s k n r) (variable z l m u) h g e f ka la = absurd (omega (arith, f, kind_range k))
symbols_here (variable s k n r) (bracket z j u) h g e f ka la = absurd (omega (arith, e, kind_range k))
symbols_here (variable s k n r) (call z o₁ c u) h g e f ka la = absurd g.2
symbols_here (variable s k n r) (block z c d u) h g e f ka la = absurd g.2
symbols_here (bracket s i r) nil h g e f ka la = absurd (omega (arith, e))
symbols_here (bracket s i r) (symbol z y u) h g e f ka la = absurd (omega (arith, e, symbol_low y))
symbols_here (bracket s i r) (variable z l m u) h g e f ka la = absurd (omega (arith, e, kind_range l))
symbols_here (bracket s i r) (bracket z j u) h g e f ka la = absurd (omega (arith, f))
symbols_here (bracket s i r) (call z o₁ c u) h g e f ka la = absurd g.2
symbols_here (bracket s i r) (block z c d u) h g e f ka la = absurd g.2
symbols_here (call s f₁ a r) w h g e f ka la = absurd h.2
symbols_here (block s a b r) w h g e f ka la = absurd h.2

closed_is : (t : Terms) → mark t ≡ 15 → t ≡ nil
closed_is nil e = refl
closed_is (symbol s x r) e = absurd (omega (arith, e, symbol_low x))
closed_is (variable s k n r) e = absurd (omega (arith, e, kind_range k))
closed_is (bracket s i r) e = absurd (omega (arith, e))
closed_is (call s f a r) e = absurd (omega (arith, e))
closed_is (block s a b r) e = absurd (omega (arith, e))

both_closed : (t u : Terms) → mark t ≡ 15 → mark u ≡ 15 → same_token t u ≡ true
unfolding same_token
both_closed t u a b = ap (λ (x : Terms). same_token x u) (closed_is t a) ∙ ap (same_token nil) (closed_is u b)

-- Behind the first token.
token-put : (t : Terms) (k : List ℕ) → Fits t → Passes (put_terms t k) (token_length (put_terms t k)) (after_token t k)
unfolding put_terms put_symbol kind_mark token_length after_token put_span put32
token-put nil k h = record { fits = omega arith; left = refl }
token-put (symbol s (character c) r) k h = record { fits = omega arith; left = refl }
token-put (symbol s (identifier n) r) k h = flat_one 2 s n (put_terms r k)
token-put (symbol s (number n) r) k h = flat_one 3 s n (put_terms r k)
token-put (variable s s_kind n r) k h = flat_one 4 s n (put_terms r k)
token-put (variable s t_kind n r) k h = flat_one 5 s n (put_terms r k)
token-put (variable s e_kind n r) k h = flat_one 6 s n (put_terms r k)
token-put (bracket s i r) k h = record { fits = omega arith; left = refl }
token-put (call s f a r) k h = absurd h.2
token-put (block s a b r) k h = absurd h.2

pub token-less : (t : Terms) (k : List ℕ) → Fits t → length (after_token t k) < length (put_terms t k)
unfolding put_terms after_token
token-less nil k h = omega arith
token-less (symbol s x r) k h = omega (arith, symbol-length s x (put_terms r k))
token-less (variable s v n r) k h = omega (arith, span-length s (put_name n (put_terms r k)), name-length n (put_terms r k))
token-less (bracket s i r) k h = omega (arith, span-length s (put_terms i (put_terms r k)))
token-less (call s f a r) k h = absurd h.2
token-less (block s a b r) k h = absurd h.2

count-names : (t : Terms) → ((3 < mark t) × (mark t ≤ 6) × (length (first_name t) ≡ 1)) ⊎ (((3 < mark t → mark t ≤ 6 → ⊥)) × (length (first_name t) ≡ 0))
unfolding first_name
count-names nil = inr ((λ a b. omega (arith, b)), refl)
count-names (symbol s x r) = inr ((λ a b. omega (arith, a, symbol_low x)), refl)
count-names (variable s v n r) = inl ((kind_range v).0, (kind_range v).1, refl)
count-names (bracket s i r) = inr ((λ a b. omega (arith, b)), refl)
count-names (call s f a r) = inr ((λ a b. omega (arith, b)), refl)
count-names (block s a b r) = inr ((λ a b. omega (arith, b)), refl)

pub names-together : (t u : Terms) → mark t ≡ mark u → length (first_name t) ≡ length (first_name u)
names-together t u e = by (count-names t) (count-names u)
  where
    by : ((3 < mark t) × (mark t ≤ 6) × (length (first_name t) ≡ 1)) ⊎ (((3 < mark t → mark t ≤ 6 → ⊥)) × (length (first_name t) ≡ 0)) → ((3 < mark u) × (mark u ≤ 6) × (length (first_name u) ≡ 1)) ⊎ (((3 < mark u → mark u ≤ 6 → ⊥)) × (length (first_name u) ≡ 0)) → length (first_name t) ≡ length (first_name u)
    by (inl a) (inl b) = a.2 ∙ sym b.2
    by (inl a) (inr b) = absurd (b.0 (omega (arith, a.0, e)) (omega (arith, a.1, e)))
    by (inr a) (inl b) = absurd (a.0 (omega (arith, b.0, e)) (omega (arith, b.1, e)))
    by (inr a) (inr b) = a.1 ∙ sym b.1

span_put : (t : Terms) (k : List ℕ) → Fits t → (mark t ≡ 15 → ⊥) → (r : List ℕ) × ((put_terms t k ≡ mark t ∷ put_span (span_of t) r) × ValidSpan (span_of t))
unfolding put_terms put_symbol
span_put nil k h m = absurd (m refl)
span_put (symbol s (character c) r) k h m = (_, (refl, h.0))
span_put (symbol s (identifier n) r) k h m = (_, (refl, h.0))
span_put (symbol s (number n) r) k h m = (_, (refl, h.0))
span_put (variable s v n r) k h m = (_, (refl, h.0))
span_put (bracket s i r) k h m = (_, (refl, h.0))
span_put (call s f a r) k h m = absurd h.2
span_put (block s a b r) k h m = absurd h.2

-- A variable.
pub record VariableHere (t : Terms) (k : List ℕ) : Type 0 where
  pub name : Name
  pub rest : List ℕ
  pub is : drop 9 (put_terms t k) ≡ put_name name rest
  pub room : 9 < length (put_terms t k)
  pub first : first_name t ≡ caseless name ∷ []

variable_put : (t : Terms) (k : List ℕ) → Fits t → 3 < mark t → mark t ≤ 6 → VariableHere t k
unfolding put_terms put_span put32 first_name put_name
variable_put nil k h l u = absurd (omega (arith, u))
variable_put (symbol s x r) k h l u = absurd (omega (arith, l, symbol_low x))
variable_put (variable s v n r) k h l u = record { name = n; rest = put_terms r k; is = refl; room = omega arith; first = refl }
variable_put (bracket s i r) k h l u = absurd (omega (arith, u))
variable_put (call s f a r) k h l u = absurd h.2
variable_put (block s a b r) k h l u = absurd h.2

no-variable : (t : Terms) → (3 < mark t → mark t ≤ 6 → ⊥) → first_name t ≡ []
unfolding first_name
no-variable nil h = refl
no-variable (symbol s x r) h = refl
no-variable (variable s v n r) h = absurd (h (kind_range v).0 (kind_range v).1)
no-variable (bracket s i r) h = refl
no-variable (call s f a r) h = refl
no-variable (block s a b r) h = refl

-- The same of a part that holds a pattern.
module _ {s : List ℕ} (t : TermsAt Mode.pattern s) where
  pub pattern-room : 0 < length s
  pattern-room = omega (arith, ap length t.is, terms-length t.terms t.rest)

  pub token-passes : {n : ℕ} → n ≡ token_length s → Passes s n (after_token t.terms t.rest)
  token-passes e = subst (λ (i : ℕ). Passes s i (after_token t.terms t.rest)) (sym e) (subst (λ (l : List ℕ). Passes l (token_length l) (after_token t.terms t.rest)) (sym t.is) (token-put t.terms t.rest t.valid))

  -- What the length of a token asks for.
  pub token-here : (0 < length s) × (token_length s ≤ length s)
  token-here = (pattern-room, (token-passes refl).fits)

  module _ (m : get_or s 0 0 ≡ 15 → ⊥) where
    pub span-here : (r : List ℕ) × ((put_terms t.terms t.rest ≡ mark t.terms ∷ put_span (span_of t.terms) r) × ValidSpan (span_of t.terms))
    span-here = span_put t.terms t.rest t.valid (λ e. m (mark-is t ∙ e))

    abbrev pub span-at : SpanAt s
    span-at = record { mark = mark t.terms; span = span_of t.terms; rest = span-here.0; is = t.is ∙ span-here.1.0; valid = span-here.1.1 }

  module _ (l : 3 < get_or s 0 0) (u : get_or s 0 0 ≤ 6) where
    pub variable-here : VariableHere t.terms t.rest
    variable-here = variable_put t.terms t.rest t.valid (omega (arith, l, mark-is t)) (omega (arith, u, mark-is t))

    pub variable-room : 9 < length s
    variable-room = omega (arith, ap length t.is, variable-here.room)

    abbrev pub variable-name : NameAt (take (length s - 9) (drop 9 s))
    variable-name = record { name = variable-here.name; rest = variable-here.rest; is = part_rest s 9 ∙ (ap (drop 9) t.is ∙ variable-here.is) }

    pub name_meets : (m : Name) → meets (first_name t.terms) (caseless m) ≡ same_name variable-here.name m
    unfolding meets same_name
    name_meets m = ap (λ (l : List Name). meets l (caseless m)) variable-here.first

  pub names-none : (3 < get_or s 0 0 → get_or s 0 0 ≤ 6 → ⊥) → first_name t.terms ≡ []
  names-none h = no-variable t.terms (λ a b. h (omega (arith, a, mark-is t)) (omega (arith, b, mark-is t)))

  pub meets-none : (3 < get_or s 0 0 → get_or s 0 0 ≤ 6 → ⊥) → (m : Name) → meets (first_name t.terms) m ≡ false
  unfolding meets
  meets-none h m = ap (λ (l : List Name). meets l m) (no-variable t.terms (λ a b. h (omega (arith, a, mark-is t)) (omega (arith, b, mark-is t))))

module _ {a b : List ℕ} (p : TermsAt Mode.pattern a) (q : TermsAt Mode.pattern b) where
  pub token_differs : (get_or a 0 0 ≡ get_or b 0 0 → ⊥) → same_token p.terms q.terms ≡ false
  token_differs h = tokens_differ p.terms q.terms p.valid q.valid (λ e. h (mark-is p ∙ (e ∙ sym (mark-is q))))

  module _ (e : get_or a 0 0 ≡ get_or b 0 0) where
    marks-same : mark p.terms ≡ mark q.terms
    marks-same = sym (mark-is p) ∙ (e ∙ mark-is q)

    pub second_open : (get_or a 0 0 ≡ 15 → ⊥) → get_or b 0 0 ≡ 15 → ⊥
    second_open h k = h (e ∙ k)

    pub span_differs : (get_or a 0 0 ≡ 15 → ⊥) → eq_span (span_of p.terms) (span_of q.terms) ≡ false → same_token p.terms q.terms ≡ false
    span_differs h = spans_differ p.terms q.terms p.valid q.valid marks-same (λ k. h (mark-is p ∙ k))

    pub no-literal : (get_or a 0 0 ≡ 15 → ⊥) → 3 < get_or a 0 0 → eq_span (span_of p.terms) (span_of q.terms) ≡ true → same_token p.terms q.terms ≡ true
    no-literal h l = high_same p.terms q.terms p.valid q.valid marks-same (λ k. h (mark-is p ∙ k)) (omega (arith, l, mark-is p))

    pub spans_decide : (get_or a 0 0 ≡ 15 → ⊥) → 3 < get_or a 0 0 → eq_span (span_of p.terms) (span_of q.terms) ≡ same_token p.terms q.terms
    spans_decide h l = go (eq_span (span_of p.terms) (span_of q.terms)) refl
      where
        go : (t : Bool) → eq_span (span_of p.terms) (span_of q.terms) ≡ t → t ≡ same_token p.terms q.terms
        go true e = sym (no-literal h l e)
        go false e = sym (span_differs h e)

    module _ (l : get_or a 0 0 ≤ 3) where
      pub literals-here : SymbolsHere p.terms q.terms p.rest q.rest
      literals-here = symbols_here p.terms q.terms p.valid q.valid marks-same (omega (arith, l, mark-is p)) p.rest q.rest

      abbrev pub literal-one : SymbolAt a
      literal-one = record { span = literals-here.one.span; symbol = literals-here.one.symbol; rest = literals-here.one.rest; is = p.is ∙ literals-here.one.is; valid = literals-here.one.valid }

      abbrev pub literal-two : SymbolAt b
      literal-two = record { span = literals-here.two.span; symbol = literals-here.two.symbol; rest = literals-here.two.rest; is = q.is ∙ literals-here.two.is; valid = literals-here.two.valid }

  pub closes_same : get_or a 0 0 ≡ 15 → get_or a 0 0 ≡ get_or b 0 0 → same_token p.terms q.terms ≡ true
  closes_same m e = both_closed p.terms q.terms (sym (mark-is p) ∙ m) (sym (mark-is q) ∙ (sym e ∙ m))
