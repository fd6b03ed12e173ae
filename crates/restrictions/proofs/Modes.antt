-- An argument without calls and blocks reads as a pattern.
use Prim.Native.Nat.{ℕ, suc}
use mathlib.Core.Path.{◌≡◌, refl}
use mathlib.Core.Bool.{true, false≢true, and-eq-true_iff}
use mathlib.Core.List.{List}
use Rattle.program.specs.Syntax.{Terms, nil, symbol, variable, bracket, call, block}
use Rattle.program.specs.Limits.{Mode, ValidTerms}
use Rattle.image.specs.Parts.{TermsAt}
use Rattle.meaning.specs.Sites.{restriction_is_characterisable}

pub plain-pattern : (t : Terms) (d : ℕ) → restriction_is_characterisable t ≡ true → ValidTerms t Mode.result d → ValidTerms t Mode.pattern d
unfolding restriction_is_characterisable
plain-pattern nil d e v = v
plain-pattern (symbol s x r) d e v = (v.0, v.1, plain-pattern r d e v.2)
plain-pattern (variable s k n r) d e v = (v.0, v.1, plain-pattern r d e v.2)
plain-pattern (bracket s i r) d e v =
    let h = (and-eq-true_iff (restriction_is_characterisable i) (restriction_is_characterisable r)).0 e in
    (v.0, v.1, plain-pattern i (suc d) h.0 v.2, plain-pattern r d h.1 v.3)
plain-pattern (call s f a r) d e v = absurd (false≢true e)
plain-pattern (block s a b r) d e v = absurd (false≢true e)

-- The same terms at the same place, and the same rest.
abbrev pub plain-reading : (s : List ℕ) (t : TermsAt Mode.result s) → restriction_is_characterisable t.terms ≡ true → TermsAt Mode.pattern s
plain-reading s t e = record { terms = t.terms; rest = t.rest; is = t.is; valid = plain-pattern t.terms 0 e t.valid }

pub plain-terms : (s : List ℕ) (t : TermsAt Mode.result s) (e : restriction_is_characterisable t.terms ≡ true) → (plain-reading s t e).terms ≡ t.terms
plain-terms s t e = refl

pub plain-rest : (s : List ℕ) (t : TermsAt Mode.result s) (e : restriction_is_characterisable t.terms ≡ true) → (plain-reading s t e).rest ≡ t.rest
plain-rest s t e = refl
