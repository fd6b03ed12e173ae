-- Calls of a function that is chosen at run time.
use Rattle.std.specs.Prelude.{Bool, ◌||◌}
use Rattle.program.specs.Syntax.{Name, Program}
use Rattle.patterns.specs.Names.{same_name}
use Rattle.patterns.specs.Ascii.{ascii}
use Rattle.meaning.specs.Lists.{any}
use Rattle.meaning.specs.Sites.{program_sites}

-- The Rust's `activates_a_carried_call`.
unfoldable pub activates_acarried_call : Name → Bool
activates_acarried_call f = same_name f (ascii "Mu") || same_name f (ascii "Up")

-- The Rust's `residual_dispatches_dynamically`: "Any `Mu` or `Up` call".
unfoldable pub residual_dispatches_dynamically : Program → Bool
residual_dispatches_dynamically p = any (λ x. activates_acarried_call x.callee) (program_sites p)
