-- The report's lists in the pieces in which they are emitted.
use Rattle.std.specs.Prelude.{ℕ, length}
use mathlib.Core.List.{◌++◌, flat_map}
use Rattle.program.specs.Syntax.{Program}
use Rattle.patterns.specs.Ascii.{ascii}
use Rattle.patterns.specs.Names.{same_name}
use Rattle.meaning.specs.Lists.{firsts}
use Rattle.meaning.specs.Text.{Text}
use Rattle.meaning.specs.CleanReport.{CleanReport}
use Rattle.told.specs.Numbered.{sites_of}
use Rattle.told.specs.ToldReport.{uncharacterised_names, told_report}
use Rattle.text.specs.Counts.{count_line}
use Rattle.meaning.specs.Report.{removed_line, undecided_line, uncovered_line, uncharacterised_line}

-- "each list's count and entries": the three lists.
unfoldable pub lists_text : CleanReport → Text
lists_text r =
    flat_map removed_line r.removed
    ++ (count_line (ascii "undecided: ") (length r.undecided) ++ (flat_map undecided_line r.undecided ++ (count_line (ascii "uncovered: ") (length r.uncovered) ++ flat_map uncovered_line r.uncovered)))

-- The lists of the report that the rounds of p tell, and the line of uncharacterised functions.
unfoldable pub listed_text : Program → ℕ → (ℕ → ℕ) → ℕ → Text
listed_text p root fell n = lists_text (told_report p fell n) ++ uncharacterised_line (firsts same_name (uncharacterised_names root (sites_of p) 0 p.functions))
