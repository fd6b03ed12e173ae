-- A verdict in a word, as programs print it.
use Rattle.std.specs.Prelude.{ℕ, List, codes}
use Rattle.patterns.specs.declared.Verdict.{Verdict}
use Rattle.patterns.specs.declared.Verdict.TheVariants.{Disjoint, Overlap, Unknown}

abbrev pub verdict_word : Verdict → List ℕ
verdict_word Disjoint = codes "disjoint"
verdict_word Overlap = codes "overlap"
verdict_word Unknown = codes "unknown"
