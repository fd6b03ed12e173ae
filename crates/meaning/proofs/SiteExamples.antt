-- Sites and restrictions by computation.
use mathlib.Core.Path.{◌≡◌, refl}
use mathlib.Core.Bool.{true, false}
use mathlib.Core.List.{List, [], ◌∷◌, map}
use Rattle.program.specs.Syntax.{nil, none, empty, local, Program}
use Rattle.patterns.specs.Names.{lower, caseless, eq_bytes, same_name}
use Rattle.patterns.specs.Symbols.{eq_symbol}
use Rattle.patterns.specs.Ascii.{ascii}
use Rattle.patterns.specs.Equality.{eq_span, eq_terms}
use Rattle.patterns.specs.Configuration.{canonical_from, canonical_configuration, same_configuration}
use Rattle.patterns.proofs.Vocabulary.{char, br, apply, within, when, rule, define}
use Rattle.meaning.specs.Lists.{all, any, select, firsts_after, firsts}
use Rattle.meaning.specs.Sites.{Site, site, collect_call_sites, function_sites, program_sites, restriction_is_characterisable}
use Rattle.meaning.specs.Restrictions.{entering, entering_restrictions}
use Rattle.meaning.specs.Dispatch.{activates_acarried_call, residual_dispatches_dynamically}

unfoldable computing : Unit {0}
unfolding lower caseless eq_bytes same_name eq_symbol ascii eq_span eq_terms canonical_from canonical_configuration same_configuration all any select firsts_after firsts collect_call_sites function_sites program_sites restriction_is_characterisable entering entering_restrictions activates_acarried_call residual_dispatches_dynamically
computing = tt

-- `Go { , <C> : = <A <B>> (<D>) { <E> : { = <F>; } }; }`: the result's calls come before the condition's, an outer call before those in its argument, a block's argument before its sentences.
program : Program
program = record {
  declarations = [];
  functions = define local "Go" (rule nil (when (apply "C" nil nil) nil none) (apply "A" (apply "B" nil nil) (br (apply "D" nil nil) (within (apply "E" nil nil) (rule nil none (apply "F" nil nil) empty) nil))) empty) ∷ [];
}

in_order : map (λ x. x.callee) (program_sites program) ≡ ascii "A" ∷ ascii "B" ∷ ascii "D" ∷ ascii "E" ∷ ascii "F" ∷ ascii "C" ∷ []
unfolding computing program
in_order = refl

static : residual_dispatches_dynamically program ≡ false
unfolding computing program
static = refl

-- "Names meet without regard to ASCII case."; a repeat is dropped; a call in an argument leaves the callee uncharacterised.
abbrev sites : List Site
sites = site (ascii "F") (char 65 nil) ∷ site (ascii "f") (char 65 nil) ∷ site (ascii "F") nil ∷ site (ascii "G") (apply "F" nil nil) ∷ site (ascii "g") (char 65 nil) ∷ []

of_F : entering_restrictions (ascii "F") sites ≡ record { restrictions = char 65 nil ∷ nil ∷ []; characterised = true }
unfolding computing
of_F = refl

of_G : entering_restrictions (ascii "G") sites ≡ record { restrictions = char 65 nil ∷ []; characterised = false }
unfolding computing
of_G = refl

of_H : entering_restrictions (ascii "H") sites ≡ record { restrictions = []; characterised = true }
unfolding computing
of_H = refl

-- "Any `Mu` or `Up` call"
carried : (activates_acarried_call (ascii "mU") ≡ true) × (activates_acarried_call (ascii "UP") ≡ true) × (activates_acarried_call (ascii "Upp") ≡ false)
unfolding computing
carried = (refl, refl, refl)
