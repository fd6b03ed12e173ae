-- Repeats match the same expressions, and the test of repeats is exact.
use mathlib.Core.Path.{◌≡◌, refl, sym, subst}
use mathlib.Core.Logic.{◌↔◌}
use mathlib.Core.Bool.{◌&&◌, true, false≢true, and-eq-true_iff}
use mathlib.Core.List.{List, []}
use Rattle.program.specs.Syntax.{Name, Terms, nil, symbol, variable, bracket, call, block}
use Rattle.patterns.specs.Names.{caseless, eq_bytes}
use Rattle.patterns.specs.Symbols.{eq_symbol}
use Rattle.patterns.proofs.Names.{eq_bytes_refl}
use Rattle.patterns.proofs.Symbols.{eq_symbol_refl}
use Rattle.patterns.specs.Expression.{Expression}
use Rattle.patterns.specs.Fresh.{Fresh}
use Rattle.patterns.specs.Equality.{eq_kind, eq_span, eq_terms}
use Rattle.patterns.specs.Configuration.{seen_with, names_after, canonical_from, canonical_configuration, same_configuration}
use Rattle.patterns.proofs.Equality.{eq_kind_refl, eq_span_refl}
use Rattle.patterns.proofs.Configuration.{same_configuration_true}
use Rattle.meaning.specs.Sites.{restriction_is_characterisable}

-- Numbers for names change no fresh instance.
canonical_fresh : (a : Terms) (l : List Name) (v : Expression) → Fresh a v → Fresh (canonical_from a l) v
unfolding canonical_from Fresh
canonical_fresh nil l v f = f
canonical_fresh (symbol s x r) l v f = (f.0, f.1, f.2, f.3, canonical_fresh r l f.1 f.4)
canonical_fresh (variable s k n r) l v f = (f.0, f.1, f.2, f.3, canonical_fresh r (seen_with (caseless n) l) f.1 f.4)
canonical_fresh (bracket s i r) l v f = (f.0, f.1, f.2, canonical_fresh i l f.0 f.3, canonical_fresh r (names_after i l) f.1 f.4)
canonical_fresh (call s g a r) l v f = f
canonical_fresh (block s a b r) l v f = f

fresh_canonical : (a : Terms) (l : List Name) (v : Expression) → Fresh (canonical_from a l) v → Fresh a v
unfolding canonical_from Fresh
fresh_canonical nil l v f = f
fresh_canonical (symbol s x r) l v f = (f.0, f.1, f.2, f.3, fresh_canonical r l f.1 f.4)
fresh_canonical (variable s k n r) l v f = (f.0, f.1, f.2, f.3, fresh_canonical r (seen_with (caseless n) l) f.1 f.4)
fresh_canonical (bracket s i r) l v f = (f.0, f.1, f.2, fresh_canonical i l f.0 f.3, fresh_canonical r (names_after i l) f.1 f.4)
fresh_canonical (call s g a r) l v f = f
fresh_canonical (block s a b r) l v f = f

pub repeats_fresh : (a b : Terms) (v : Expression) → same_configuration a b ≡ true → Fresh b v → Fresh a v
unfolding canonical_configuration
repeats_fresh a b v e f =
    fresh_canonical a [] v (subst (λ (t : Terms). Fresh t v) (sym (same_configuration_true a b e)) (canonical_fresh b [] v f))

-- The other half of the test: what is the same once numbered passes it.
eq_terms_refl : (a : Terms) → restriction_is_characterisable a ≡ true → eq_terms a a ≡ true
unfolding eq_terms restriction_is_characterisable
eq_terms_refl nil h = refl
eq_terms_refl (symbol s x r) h = (and-eq-true_iff (eq_span s s) (eq_symbol x x && eq_terms r r)).1 (eq_span_refl s, (and-eq-true_iff (eq_symbol x x) (eq_terms r r)).1 (eq_symbol_refl x, eq_terms_refl r h))
eq_terms_refl (variable s k n r) h =
    (and-eq-true_iff (eq_span s s) (eq_kind k k && (eq_bytes n n && eq_terms r r))).1
    (eq_span_refl s, (and-eq-true_iff (eq_kind k k) (eq_bytes n n && eq_terms r r)).1 (eq_kind_refl k, (and-eq-true_iff (eq_bytes n n) (eq_terms r r)).1 (eq_bytes_refl n, eq_terms_refl r h)))
eq_terms_refl (bracket s i r) h =
    let k = (and-eq-true_iff (restriction_is_characterisable i) (restriction_is_characterisable r)).0 h in
    (and-eq-true_iff (eq_span s s) (eq_terms i i && eq_terms r r)).1 (eq_span_refl s, (and-eq-true_iff (eq_terms i i) (eq_terms r r)).1 (eq_terms_refl i k.0, eq_terms_refl r k.1))
eq_terms_refl (call s f a r) h = absurd (false≢true h)
eq_terms_refl (block s a b r) h = absurd (false≢true h)

canonical_characterisable : (a : Terms) (l : List Name) → restriction_is_characterisable a ≡ true → restriction_is_characterisable (canonical_from a l) ≡ true
unfolding canonical_from restriction_is_characterisable
canonical_characterisable nil l h = refl
canonical_characterisable (symbol s x r) l h = canonical_characterisable r l h
canonical_characterisable (variable s k n r) l h = canonical_characterisable r (seen_with (caseless n) l) h
canonical_characterisable (bracket s i r) l h =
    let k = (and-eq-true_iff (restriction_is_characterisable i) (restriction_is_characterisable r)).0 h in
    (and-eq-true_iff (restriction_is_characterisable (canonical_from i l)) (restriction_is_characterisable (canonical_from r (names_after i l)))).1
    (canonical_characterisable i l k.0, canonical_characterisable r (names_after i l) k.1)
canonical_characterisable (call s f a r) l h = h
canonical_characterisable (block s a b r) l h = h

-- "A restriction is dropped as a repeat exactly if it equals an earlier one of its function once variable names are numbered".
pub repeats_exactly : (a b : Terms) → restriction_is_characterisable a ≡ true → (same_configuration a b ≡ true) ↔ (canonical_configuration a ≡ canonical_configuration b)
unfolding same_configuration canonical_configuration
repeats_exactly a b h = (
  same_configuration_true a b,
  λ e. subst (λ (t : Terms). eq_terms (canonical_from a []) t ≡ true) e (eq_terms_refl (canonical_from a []) (canonical_characterisable a [] h)),
)
