-- The numbers of a report, for the program whose rounds have been told.
use Rattle.std.specs.Prelude.{ℕ, ◌<◌, ◌≡◌, length}
use mathlib.Core.List.{List, flat_map}
use Rattle.program.specs.Syntax.{Program}
use Rattle.index.specs.declared.Plan.{Plan}
use Rattle.meaning.specs.CleanReport.{CleanReport}
use Rattle.cleaning.specs.Indexed.{fell_of}
use Rattle.told.specs.ToldReport.{told_report}
use Rattle.meaning.specs.Report.{removed_line, undecided_line, uncovered_line, uncharacterised_line}
use Rattle.report.specs.Removed.{Removing}
use Rattle.text.specs.declared.writer.Writer.{Writer}
use Rattle.report.specs.declared.format.Figures.{Figures}

-- The same lent bytes, to be filled from the start.
abbrev pub anew : Writer → Writer
anew v = record { text = v.text; filled = 0 }

-- They are the report's: how many lines each list has and how many names are uncharacterised, and how many bytes those are.
pub record FiguresOf (r : CleanReport) (g : Figures) : Type 0 where
  pub after : g.after ≡ r.sentences_after
  pub removed : g.removed.count ≡ length r.removed
  pub undecided : g.undecided.count ≡ length r.undecided
  pub uncovered : g.uncovered.count ≡ length r.uncovered
  pub uncharacterised : g.uncharacterised.count ≡ length r.uncharacterised
  pub removed-length : g.removed.at ≡ length (flat_map removed_line r.removed)
  pub undecided-length : g.undecided.at ≡ length (flat_map undecided_line r.undecided)
  pub uncovered-length : g.uncovered.at ≡ length (flat_map uncovered_line r.uncovered)
  pub uncharacterised-length : g.uncharacterised.at ≡ length (uncharacterised_line r.uncharacterised)

-- And small enough for their places in it.
pub record Few (g : Figures) : Type 0 where
  pub after : g.after < 100000000000000000
  pub removed : g.removed.count < 100000000000000000
  pub undecided : g.undecided.count < 100000000000000000
  pub uncovered : g.uncovered.count < 100000000000000000
  pub uncharacterised : g.uncharacterised.count < 100000000000000000
  pub removed-length : g.removed.at < 100000000000000000
  pub undecided-length : g.undecided.at < 100000000000000000
  pub uncovered-length : g.uncovered.at < 100000000000000000
  pub uncharacterised-length : g.uncharacterised.at < 100000000000000000

-- What emission needs: n rounds have been told, the root's place, the numbers.
pub record Reporting (b : List ℕ) (w : Program) (m : List ℕ) (p : Plan) (n : ℕ) (g : Figures) : Type 0 where
  pub removing : Removing b w m p n
  pub figures : FiguresOf (told_report w (fell_of p m) n) g

pub record SomeReporting (b m : List ℕ) (p : Plan) (n : ℕ) (g : Figures) : Type 0 where
  pub program : Program
  pub reporting : Reporting b program m p n g
  pub few : Few g
