-- One name for all that computes in an example of a run.
use mathlib.Core.List.{flat_map}
use Rattle.patterns.specs.Names.{lower, caseless, eq_bytes, same_name}
use Rattle.patterns.specs.Symbols.{key, eq_symbol, same_symbol}
use Rattle.patterns.specs.Expression.{◌⧺◌}
use Rattle.patterns.specs.Equality.{eq_kind}
use Rattle.patterns.specs.Ascii.{ascii}
use Rattle.meaning.specs.Root.{entry_place, root_place, root}
use Rattle.meaning.specs.Match.{is_variable, value_of, same_expression, meets, bind, splits, matches}
use Rattle.meaning.specs.Spanless.{spanless}
use Rattle.meaning.specs.Run.{and_then, note, bound, or_next, first_of, if_fits, evaluate, entry_with, entry, answer_from, sentences_of, body, enter_to, enter, enter_root, outcome, run}

unfoldable pub computing : Unit {0}
unfolding flat_map lower caseless eq_bytes same_name key eq_symbol same_symbol ◌⧺◌ eq_kind ascii entry_place root_place root is_variable value_of same_expression meets bind splits matches spanless and_then note bound or_next first_of if_fits evaluate entry_with entry answer_from sentences_of body enter_to enter enter_root outcome run
computing = tt
