-- Restrictions have no calls and no blocks.
use mathlib.Core.Path.{◌≡◌, refl}
use mathlib.Core.Bool.{true, false≢true, and-eq-true_iff}
use mathlib.Core.List.{List, Memᴰ}
use Rattle.program.specs.Syntax.{Name, Terms, nil, symbol, variable, bracket, call, block}
use Rattle.patterns.proofs.Plain.{Plain}
use Rattle.patterns.specs.Configuration.{same_configuration}
use Rattle.meaning.specs.Lists.{select}
use Rattle.meaning.specs.Sites.{Site, restriction_is_characterisable}
use Rattle.meaning.specs.Restrictions.{entering, entering_restrictions}
use Rattle.meaning.proofs.Lists.{select_passes, firsts_in}

pub characterisable_plain : (a : Terms) → restriction_is_characterisable a ≡ true → Plain a
unfolding restriction_is_characterisable
characterisable_plain nil e = tt
characterisable_plain (symbol s x r) e = characterisable_plain r e
characterisable_plain (variable s k n r) e = characterisable_plain r e
characterisable_plain (bracket s i r) e =
    let h = (and-eq-true_iff (restriction_is_characterisable i) (restriction_is_characterisable r)).0 e in (characterisable_plain i h.0, characterisable_plain r h.1)
characterisable_plain (call s f a r) e = absurd (false≢true e)
characterisable_plain (block s a b r) e = absurd (false≢true e)

pub plain_characterisable : (a : Terms) → Plain a → restriction_is_characterisable a ≡ true
unfolding restriction_is_characterisable
plain_characterisable nil h = refl
plain_characterisable (symbol s x r) h = plain_characterisable r h
plain_characterisable (variable s k n r) h = plain_characterisable r h
plain_characterisable (bracket s i r) h = (and-eq-true_iff (restriction_is_characterisable i) (restriction_is_characterisable r)).1 (plain_characterisable i h.0, plain_characterisable r h.1)
plain_characterisable (call s f a r) h = absurd h
plain_characterisable (block s a b r) h = absurd h

pub restrictions-plain : (f : Name) (sites : List Site) (r : Terms) → Memᴰ r (entering_restrictions f sites).restrictions → Plain r
unfolding entering_restrictions
restrictions-plain f sites r m =
    characterisable_plain r (select_passes restriction_is_characterisable (entering f sites) r (firsts_in same_configuration (select restriction_is_characterisable (entering f sites)) r m))
