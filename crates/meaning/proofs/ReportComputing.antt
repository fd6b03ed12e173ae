-- One name for all that computes in an example of a report.
use mathlib.Core.List.{flat_map, flatten}
use Rattle.meaning.specs.CleanReport.{restrictions_of, removed_sentence, removed_by, same_removed, removed, name_if, uncharacterised, is_overlap, final_standing, undecided_sentence, uncovered_restriction, undecided_of, uncovered_of, same_undecided, same_uncovered, begins_with, dedup, undecided, uncovered, unless, clean_report}
use Rattle.meaning.proofs.CleaningComputing.{computing as cleaning}
use Rattle.meaning.specs.Decimal.{digit, digits, decimal}
use Rattle.meaning.specs.Report.{join, angled, removed_line, undecided_line, uncovered_line, graph_line, uncharacterised_line, dispatch_line, last_lines, format_clean_report}

unfoldable pub computing : Unit {0}
unfolding cleaning flat_map flatten restrictions_of removed_sentence removed_by same_removed removed name_if uncharacterised is_overlap final_standing undecided_sentence uncovered_restriction undecided_of uncovered_of same_undecided same_uncovered begins_with dedup undecided uncovered unless clean_report digit digits decimal join angled removed_line undecided_line uncovered_line graph_line uncharacterised_line dispatch_line last_lines format_clean_report
computing = tt
