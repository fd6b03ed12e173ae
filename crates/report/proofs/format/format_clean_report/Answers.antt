-- `report::format::format_clean_report` meets its contract: the three texts stand one behind another, and the lent text ends as the writer leaves it.
use mathlib.Core.List.{◌++◌}
use Rattle.cleaning.specs.Indexed.{fell_of}
use Rattle.text.specs.Counts.{top_text, graph_text}
use Rattle.text.proofs.Written.{both, same, lent}
use Rattle.meaning.specs.Report.{format_clean_report}
use Rattle.told.specs.ToldReport.{told_report}
use Rattle.report.specs.Format.{listed_text}
use Rattle.report.proofs.Whole.{whole-listed}
use Rattle.report.proofs.format.format_clean_report.Goals as goal

pub returns-clause-written : goal.returns-clause-written
returns-clause-written c = λ w d k.
    let p = c.args.plan in
    let g = c.args.figures in
    let fell = fell_of p c.args.work.now in
    let i = d.removing.readable.indexed in
    let t₁ = top_text p.functions p.sentences g.after c.args.rounds g.removed.count in
    let t₂ = listed_text w c.args.root fell c.args.rounds in
    let t₃ = graph_text p.functions g.undecided.count g.uncovered.count g.uncharacterised.count in
    lent _ (format_clean_report (told_report w fell c.args.rounds))
    (same _ (whole-listed w fell c.args.rounds p c.args.root g d.figures i.functions i.sentences k) (both _ t₁ (t₂ ++ t₃) c.put_top.ensures.0 (both _ t₂ t₃ (c.put_lists.ensures.written w d) c.put_graph.ensures)))
    search
