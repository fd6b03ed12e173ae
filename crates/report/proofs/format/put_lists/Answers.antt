-- `report::format::put_lists` meets its contract. Assumes nothing.
use native.Mathlib.Omega.{arith}
use mathlib.Core.List.{◌++◌, flat_map}
use Rattle.patterns.specs.Ascii.{ascii}
use Rattle.patterns.specs.Names.{same_name}
use Rattle.meaning.specs.Lists.{firsts}
use Rattle.told.specs.Numbered.{sites_of}
use Rattle.cleaning.specs.Indexed.{fell_of}
use Rattle.told.specs.ToldReport.{uncharacterised_names, told_report}
use Rattle.text.specs.Counts.{count_line}
use Rattle.meaning.specs.Report.{removed_line, undecided_line, uncovered_line, uncharacterised_line}
use Rattle.text.proofs.Written.{both, same}
use Rattle.report.specs.Format.{lists_text, listed_text}
use Rattle.report.proofs.RoomUsed.{used_readable, used_some}
use Rattle.report.proofs.Whole.{removed_now, undecided_now, uncovered_now, lists_told}
use Rattle.report.proofs.format.put_lists.Goals as goal

pub put_count_line-requires-2 : goal.put_count_line-requires-2
put_count_line-requires-2 c =
    (c.requires.0.few.uncovered, omega (arith, c.put_undecided.ensures.short, c.put_count_line.ensures.short, c.put_removed.ensures.short, c.requires.2))

pub put_uncovered-requires : goal.put_uncovered-requires
put_uncovered-requires c =
    let p = c.requires in (
      record { program = p.0.program; readable = p.0.reporting.removing.readable },
      omega (arith, c.put_count_line-2.ensures.short, c.put_undecided.ensures.short, c.put_count_line.ensures.short, c.put_removed.ensures.short, p.2),
    )

pub put_uncharacterised-requires : goal.put_uncharacterised-requires
put_uncharacterised-requires c =
    let p = c.requires in (
      used_some c.put_uncovered.ensures.keeps (record { program = p.0.program; readable = p.0.reporting.removing.readable }),
      omega (arith, c.put_uncovered.ensures.short, c.put_count_line-2.ensures.short, c.put_undecided.ensures.short, c.put_count_line.ensures.short, c.put_removed.ensures.short, p.2),
    )

pub shape_of-work : goal.shape_of-work
shape_of-work c = c.put_uncovered.ensures.keeps.length

pub returns : goal.returns
unfolding listed_text ascii
returns c =
    let a = c.args in
    let o = a.out.now in
    let fell = fell_of a.plan a.work.now in
    let n = a.rounds in
    let u = count_line (ascii "undecided: ") a.figures.undecided.count in
    let v = count_line (ascii "uncovered: ") a.figures.uncovered.count in
    record {
      written = λ w x.
          let d = x.removing in
          let x₁ = flat_map removed_line (removed_now w fell n) in
          let x₂ = flat_map undecided_line (undecided_now w fell n) in
          let x₃ = flat_map uncovered_line (uncovered_now w fell n) in
          both o (lists_text (told_report w fell n)) (uncharacterised_line (firsts same_name (uncharacterised_names a.root (sites_of w) 0 w.functions)))
          (same o (lists_told w fell n d.below c.requires.1 a.figures x.figures)
          (both o x₁ (u ++ (x₂ ++ (v ++ x₃))) (c.put_removed.ensures.written w d)
          (both _ u (x₂ ++ (v ++ x₃)) c.put_count_line.ensures.written
          (both _ x₂ (v ++ x₃) (c.put_undecided.ensures.told w d.readable)
          (both _ v x₃ c.put_count_line-2.ensures.written (c.put_uncovered.ensures.told w d.readable))))))
          (c.put_uncharacterised.ensures.written w (used_readable c.put_uncovered.ensures.keeps d.readable));
      short = omega (arith, c.put_uncharacterised.ensures.short.0, c.put_uncovered.ensures.short, c.put_count_line-2.ensures.short, c.put_undecided.ensures.short, c.put_count_line.ensures.short, c.put_removed.ensures.short, c.requires.2);
      keeps = c.put_uncovered.ensures.keeps;
    }
