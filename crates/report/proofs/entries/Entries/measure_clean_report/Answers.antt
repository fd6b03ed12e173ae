-- `report::entries::Entries::measure_clean_report` meets its contract. Assumes nothing.
use native.Mathlib.Omega.{arith}
use mathlib.Core.Path.{◌∙◌}
use mathlib.Core.List.{◌++◌}
use Rattle.patterns.specs.Ascii.{ascii}
use Rattle.cleaning.specs.Indexed.{fell_of}
use Rattle.told.specs.ToldReport.{told_report}
use Rattle.text.specs.Counts.{top_text, graph_text}
use Rattle.meaning.specs.Report.{removed_line, undecided_line, uncovered_line, uncharacterised_line, format_clean_report}
use mathlib.Core.List.{flat_map}
use Rattle.text.proofs.Written.{both, same, lent}
use Rattle.report.specs.Format.{lists_text}
use Rattle.report.proofs.Whole.{lists_measured, whole-told, kept}
use Rattle.report.proofs.entries.Entries.measure_clean_report.Goals as goal

pub pass_over-requires : goal.pass_over-requires
pass_over-requires c = ((kept _ _ c.put_top.ensures.0).many ∙ c.requires.2, omega (arith, c.put_top.ensures.1, c.requires.0.few.removed-length))

pub pass_over-requires-2 : goal.pass_over-requires-2
pass_over-requires-2 c =
    let few = c.requires.0.few in
    ((kept _ _ c.put_count_line.ensures.written).many ∙ c.pass_over.ensures.same.0, omega (arith, c.put_top.ensures.1, c.pass_over.ensures.same.1, c.put_count_line.ensures.short, few.removed-length, few.undecided-length))

pub pass_over-requires-3 : goal.pass_over-requires-3
pass_over-requires-3 c =
    let few = c.requires.0.few in (
      (kept _ _ c.put_count_line-2.ensures.written).many ∙ c.pass_over-2.ensures.same.0,
      omega (arith, c.put_top.ensures.1, c.pass_over.ensures.same.1, c.put_count_line.ensures.short, c.pass_over-2.ensures.same.1, c.put_count_line-2.ensures.short, few.removed-length, few.undecided-length, few.uncovered-length),
    )

pub returns : goal.returns
unfolding ascii
returns c = λ w x root.
    let a = c.args in
    let r = told_report w (fell_of a.self.now.plan a.self.now.work.now) a.rounds in
    let d = x.removing.readable in
    let f = x.figures in
    let names = uncharacterised_line r.uncharacterised in
    let graph = graph_text a.self.now.plan.functions a.figures.undecided.count a.figures.uncovered.count a.figures.uncharacterised.count in
    lent _ (format_clean_report r)
    (same _ (whole-told w (fell_of a.self.now.plan a.self.now.work.now) a.rounds a.self.now.plan a.figures f d.indexed.functions d.indexed.sentences)
    (both _ (top_text a.self.now.plan.functions a.self.now.plan.sentences a.figures.after a.rounds a.figures.removed.count) (lists_text r ++ (names ++ graph)) c.put_top.ensures.0
    (both _ (lists_text r) (names ++ graph)
    (lists_measured r a.figures f _ (c.pass_over.ensures.written (flat_map removed_line r.removed) f.removed-length) c.put_count_line.ensures.written (c.pass_over-2.ensures.written (flat_map undecided_line r.undecided) f.undecided-length) c.put_count_line-2.ensures.written (c.pass_over-3.ensures.written (flat_map uncovered_line r.uncovered) f.uncovered-length))
    (both _ names graph (c.pass_over-4.ensures.written names f.uncharacterised-length) c.put_graph.ensures))))
    search
