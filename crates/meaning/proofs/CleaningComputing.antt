-- One name for all that computes in an example of cleaning.
use Rattle.program.specs.Encode.{own_sentence_count, sentence_count}
use Rattle.program.specs.Sentences.{sentence_list}
use Rattle.patterns.specs.Names.{lower, caseless, eq_bytes, same_name}
use Rattle.patterns.specs.Symbols.{key, eq_symbol, same_symbol}
use Rattle.patterns.specs.Search.{view, leftover_overlap, ends, splits_from, absorbing_split, literal_overlap, overlap_of_terms, entered, enter, size, search_to, sequence, patterns_overlap}
use Rattle.patterns.specs.Equality.{eq_kind, eq_span, eq_terms}
use Rattle.patterns.specs.Configuration.{position, seen_with, names_after, canonical_from, canonical_configuration, same_configuration}
use Rattle.meaning.specs.Lists.{all, any, select, firsts_after, firsts}
use Rattle.patterns.specs.Ascii.{ascii}
use Rattle.meaning.specs.Sites.{collect_call_sites, function_sites, program_sites, restriction_is_characterisable}
use Rattle.meaning.specs.Restrictions.{entering, entering_restrictions}
use Rattle.meaning.specs.Dispatch.{activates_acarried_call, residual_dispatches_dynamically}
use Rattle.meaning.specs.Text.{utf8, quote, format_symbol, format_kind, gap, format_terms}
use Rattle.meaning.specs.Root.{entry_place, root_place}
use Rattle.meaning.specs.Cleaning.{is_disjoint, restricted, standing, rejected, accepted, kept_of, dropped_of, change, changes, round, changed, left_by, is_none, drops_nothing, rounds_up_to, rounds_of, is_root, rounds, after, clean_residual_program}

unfoldable pub computing : Unit {0}
unfolding ascii utf8 quote format_symbol format_kind gap format_terms collect_call_sites function_sites program_sites restriction_is_characterisable entering entering_restrictions select all any firsts firsts_after same_configuration canonical_configuration canonical_from names_after position seen_with eq_terms eq_span eq_kind lower caseless eq_bytes same_name key eq_symbol same_symbol view leftover_overlap ends splits_from absorbing_split literal_overlap overlap_of_terms entered enter size search_to sequence patterns_overlap activates_acarried_call residual_dispatches_dynamically entry_place root_place is_disjoint restricted standing rejected accepted kept_of dropped_of change changes round changed left_by is_none drops_nothing rounds_up_to rounds_of is_root rounds after clean_residual_program own_sentence_count sentence_count sentence_list
computing = tt
