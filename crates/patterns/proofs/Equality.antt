-- The tests of sameness decide equality.
use mathlib.Core.Path.{◌≡◌, refl}
use mathlib.Core.Bool.{◌&&◌, true, false≢true, and-eq-true_iff}
use lib.Dec.{eqb}
use borrow.Author.Tests.{eqb-true, eq-eqb}
use Rattle.program.specs.Syntax.{Span, Kind, s_kind, t_kind, e_kind, Terms, nil, symbol, variable, bracket, call, block}
use Rattle.patterns.specs.Names.{eq_bytes}
use Rattle.patterns.specs.Symbols.{eq_symbol}
use Rattle.patterns.proofs.Names.{eq_bytes_true}
use Rattle.patterns.proofs.Symbols.{eq_symbol_true}
use Rattle.patterns.specs.Equality.{eq_kind, eq_span, eq_terms}

pub eq_kind_true : (k l : Kind) → eq_kind k l ≡ true → k ≡ l
unfolding eq_kind
eq_kind_true s_kind s_kind e = refl
eq_kind_true s_kind t_kind e = absurd (false≢true e)
eq_kind_true s_kind e_kind e = absurd (false≢true e)
eq_kind_true t_kind s_kind e = absurd (false≢true e)
eq_kind_true t_kind t_kind e = refl
eq_kind_true t_kind e_kind e = absurd (false≢true e)
eq_kind_true e_kind s_kind e = absurd (false≢true e)
eq_kind_true e_kind t_kind e = absurd (false≢true e)
eq_kind_true e_kind e_kind e = refl

pub eq_kind_refl : (k : Kind) → eq_kind k k ≡ true
unfolding eq_kind
eq_kind_refl s_kind = refl
eq_kind_refl t_kind = refl
eq_kind_refl e_kind = refl

pub eq_span_true : (s t : Span) → eq_span s t ≡ true → s ≡ t
unfolding eq_span
eq_span_true s t e =
    let h = (and-eq-true_iff (eqb s.start t.start) (eqb s.end t.end)).0 e in
    let a : s.start ≡ t.start = eqb-true s.start t.start h.0 in
    let b : s.end ≡ t.end = eqb-true s.end t.end h.1 in
    λ i. record { start = a i; end = b i }

pub eq_span_refl : (s : Span) → eq_span s s ≡ true
unfolding eq_span
eq_span_refl s = (and-eq-true_iff (eqb s.start s.start) (eqb s.end s.end)).1 (eq-eqb s.start s.start refl, eq-eqb s.end s.end refl)

pub eq_terms_true : (a b : Terms) → eq_terms a b ≡ true → a ≡ b
unfolding eq_terms
eq_terms_true nil nil e = refl
eq_terms_true nil (symbol t y b) e = absurd (false≢true e)
eq_terms_true nil (variable t l m b) e = absurd (false≢true e)
eq_terms_true nil (bracket t j b) e = absurd (false≢true e)
eq_terms_true nil (call t g y b) e = absurd (false≢true e)
eq_terms_true nil (block t y z b) e = absurd (false≢true e)
eq_terms_true (symbol s x a) nil e = absurd (false≢true e)
eq_terms_true (symbol s x a) (symbol t y b) e =
    let h = (and-eq-true_iff (eq_span s t) (eq_symbol x y && eq_terms a b)).0 e in
    let k = (and-eq-true_iff (eq_symbol x y) (eq_terms a b)).0 h.1 in
    let p = eq_span_true s t h.0 in let q = eq_symbol_true x y k.0 in let r = eq_terms_true a b k.1 in
    λ i. symbol (p i) (q i) (r i)
eq_terms_true (symbol s x a) (variable t l m b) e = absurd (false≢true e)
eq_terms_true (symbol s x a) (bracket t j b) e = absurd (false≢true e)
eq_terms_true (symbol s x a) (call t g y b) e = absurd (false≢true e)
eq_terms_true (symbol s x a) (block t y z b) e = absurd (false≢true e)
eq_terms_true (variable s k n a) nil e = absurd (false≢true e)
eq_terms_true (variable s k n a) (symbol t y b) e = absurd (false≢true e)
eq_terms_true (variable s k n a) (variable t l m b) e =
    let h = (and-eq-true_iff (eq_span s t) (eq_kind k l && (eq_bytes n m && eq_terms a b))).0 e in
    let h₁ = (and-eq-true_iff (eq_kind k l) (eq_bytes n m && eq_terms a b)).0 h.1 in
    let h₂ = (and-eq-true_iff (eq_bytes n m) (eq_terms a b)).0 h₁.1 in
    let p = eq_span_true s t h.0 in let q = eq_kind_true k l h₁.0 in let r = eq_bytes_true n m h₂.0 in let u = eq_terms_true a b h₂.1 in
    λ i. variable (p i) (q i) (r i) (u i)
eq_terms_true (variable s k n a) (bracket t j b) e = absurd (false≢true e)
eq_terms_true (variable s k n a) (call t g y b) e = absurd (false≢true e)
eq_terms_true (variable s k n a) (block t y z b) e = absurd (false≢true e)
eq_terms_true (bracket s i a) nil e = absurd (false≢true e)
eq_terms_true (bracket s i a) (symbol t y b) e = absurd (false≢true e)
eq_terms_true (bracket s i a) (variable t l m b) e = absurd (false≢true e)
eq_terms_true (bracket s i a) (bracket t j b) e =
    let h = (and-eq-true_iff (eq_span s t) (eq_terms i j && eq_terms a b)).0 e in
    let k = (and-eq-true_iff (eq_terms i j) (eq_terms a b)).0 h.1 in
    let p = eq_span_true s t h.0 in let q = eq_terms_true i j k.0 in let r = eq_terms_true a b k.1 in
    λ i. bracket (p i) (q i) (r i)
eq_terms_true (bracket s i a) (call t g y b) e = absurd (false≢true e)
eq_terms_true (bracket s i a) (block t y z b) e = absurd (false≢true e)
eq_terms_true (call s f x a) b e = absurd (false≢true e)
eq_terms_true (block s x y a) b e = absurd (false≢true e)
