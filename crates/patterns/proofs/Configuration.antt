-- Arguments that pass the test are one configuration.
use mathlib.Core.Path.{◌≡◌}
use mathlib.Core.Bool.{true}
use Rattle.program.specs.Syntax.{Terms}
use Rattle.patterns.specs.Configuration.{canonical_configuration, same_configuration}
use Rattle.patterns.proofs.Equality.{eq_terms_true}

pub same_configuration_true : (a b : Terms) → same_configuration a b ≡ true → canonical_configuration a ≡ canonical_configuration b
unfolding same_configuration
same_configuration_true a b e = eq_terms_true (canonical_configuration a) (canonical_configuration b) e
