-- When two kinds, two spans, two sequences are the same in every part: the Rust's `==` on them.
use Rattle.std.specs.Prelude.{Bool, true, false, ◌&&◌, eqb}
use Rattle.program.specs.Syntax.{Span, Kind, s_kind, t_kind, e_kind, Terms, nil, symbol, variable, bracket, call, block}
use Rattle.patterns.specs.Names.{eq_bytes}
use Rattle.patterns.specs.Symbols.{eq_symbol}

unfoldable pub eq_kind : Kind → Kind → Bool
eq_kind s_kind s_kind = true
eq_kind s_kind t_kind = false
eq_kind s_kind e_kind = false
eq_kind t_kind s_kind = false
eq_kind t_kind t_kind = true
eq_kind t_kind e_kind = false
eq_kind e_kind s_kind = false
eq_kind e_kind t_kind = false
eq_kind e_kind e_kind = true

unfoldable pub eq_span : Span → Span → Bool
eq_span s t = eqb s.start t.start && eqb s.end t.end

-- Sequences without calls and blocks, "identifiers by exact spelling, **spans included**".
unfoldable pub eq_terms : Terms → Terms → Bool
eq_terms nil nil = true
eq_terms nil (symbol t y b) = false
eq_terms nil (variable t l m b) = false
eq_terms nil (bracket t j b) = false
eq_terms nil (call t g y b) = false
eq_terms nil (block t y z b) = false
eq_terms (symbol s x a) nil = false
eq_terms (symbol s x a) (symbol t y b) = eq_span s t && (eq_symbol x y && eq_terms a b)
eq_terms (symbol s x a) (variable t l m b) = false
eq_terms (symbol s x a) (bracket t j b) = false
eq_terms (symbol s x a) (call t g y b) = false
eq_terms (symbol s x a) (block t y z b) = false
eq_terms (variable s k n a) nil = false
eq_terms (variable s k n a) (symbol t y b) = false
eq_terms (variable s k n a) (variable t l m b) = eq_span s t && (eq_kind k l && (eq_bytes n m && eq_terms a b))
eq_terms (variable s k n a) (bracket t j b) = false
eq_terms (variable s k n a) (call t g y b) = false
eq_terms (variable s k n a) (block t y z b) = false
eq_terms (bracket s i a) nil = false
eq_terms (bracket s i a) (symbol t y b) = false
eq_terms (bracket s i a) (variable t l m b) = false
eq_terms (bracket s i a) (bracket t j b) = eq_span s t && (eq_terms i j && eq_terms a b)
eq_terms (bracket s i a) (call t g y b) = false
eq_terms (bracket s i a) (block t y z b) = false
eq_terms (call s f x a) b = false
eq_terms (block s x y a) b = false
