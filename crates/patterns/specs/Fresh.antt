-- Matching "with each variable occurrence read as a fresh variable" (demand 2): what an expression has to be to match a pattern so.
use Rattle.std.specs.Prelude.{◌≡◌, ◌⊎◌, T}
use Rattle.program.specs.Syntax.{Symbol, Kind, s_kind, t_kind, e_kind, Terms, nil, symbol, variable, bracket, call, block}
use Rattle.patterns.specs.Symbols.{same_symbol}
use Rattle.patterns.specs.Expression.{Expression, void, atom, group, ◌⧺◌}

-- One term: a symbol or a bracket.
abbrev pub IsTerm : Expression → Type 0
IsTerm u = ((x : Symbol) × (u ≡ atom x void)) ⊎ ((i : Expression) × (u ≡ group i void))

-- What a variable of a kind can stand for: one symbol, one term, anything.
abbrev pub Fits : Kind → Expression → Type 0
Fits s_kind u = (x : Symbol) × (u ≡ atom x void)
Fits t_kind u = IsTerm u
Fits e_kind u = Unit {0}

-- The expression v matches the pattern. A call or a block is no pattern, and nothing matches it.
unfoldable pub Fresh : Terms → Expression → Type 0
Fresh nil v = v ≡ void
Fresh (symbol s a p) v = (x : Symbol) × (w : Expression) × (v ≡ atom x w) × T (same_symbol a x) × Fresh p w
Fresh (variable s k n p) v = (u : Expression) × (w : Expression) × (v ≡ u ⧺ w) × Fits k u × Fresh p w
Fresh (bracket s i p) v = (u : Expression) × (w : Expression) × (v ≡ group u w) × Fresh i u × Fresh p w
Fresh (call s f a p) v = ⊥
Fresh (block s a b p) v = ⊥
