-- A pattern proper: no call and no block in the sequence or in its brackets ("9: call or block inside a pattern").
use Rattle.program.specs.Syntax.{Terms, nil, symbol, variable, bracket, call, block, s_kind, t_kind, e_kind}
use Prim.Native.Nat.{ℕ, suc}
use mathlib.Core.List.{List, [], ◌∷◌}
use Rattle.program.specs.Limits.{Mode, ValidTerms}
use Rattle.patterns.specs.Search.{One, View, view, ends}

abbrev pub Plain : Terms → Type 0
Plain nil = Unit {0}
Plain (symbol s x r) = Plain r
Plain (variable s k n r) = Plain r
Plain (bracket s i r) = Plain i × Plain r
Plain (call s f a r) = ⊥
Plain (block s a b r) = ⊥

pub valid-plain : (a : Terms) (d : ℕ) → ValidTerms a Mode.pattern d → Plain a
valid-plain nil d h = tt
valid-plain (symbol s x r) d h = valid-plain r d h.2
valid-plain (variable s k n r) d h = valid-plain r d h.2
valid-plain (bracket s i r) d h = (valid-plain i (suc d) h.2, valid-plain r d h.3)
valid-plain (call s f a r) d h = h.2
valid-plain (block s a b r) d h = h.2

abbrev pub PlainOne : One → Type 0
PlainOne (One.literal x) = Unit {0}
PlainOne One.any-symbol = Unit {0}
PlainOne One.any_term = Unit {0}
PlainOne One.no-pattern = ⊥
PlainOne (One.brackets i) = Plain i

abbrev pub PlainView : View → Type 0
PlainView View.nothing = Unit {0}
PlainView (View.absorbing r) = Plain r
PlainView (View.one x r) = PlainOne x × Plain r

pub view-plain : (a : Terms) → Plain a → PlainView (view a)
unfolding view
view-plain nil h = tt
view-plain (symbol s x r) h = (tt, h)
view-plain (variable s s_kind n r) h = (tt, h)
view-plain (variable s t_kind n r) h = (tt, h)
view-plain (variable s e_kind n r) h = h
view-plain (bracket s i r) h = h
view-plain (call s f a r) h = absurd h
view-plain (block s a b r) h = absurd h

abbrev pub AllPlain : List Terms → Type 0
AllPlain [] = Unit {0}
AllPlain (o ∷ os) = Plain o × AllPlain os

pub ends-plain : (a : Terms) → Plain a → AllPlain (ends a)
unfolding ends
ends-plain nil h = (tt, tt)
ends-plain (symbol s x r) h = (h, ends-plain r h)
ends-plain (variable s k n r) h = (h, ends-plain r h)
ends-plain (bracket s i r) h = (h, ends-plain r h.1)
ends-plain (call s f a r) h = absurd h
ends-plain (block s a b r) h = absurd h
