-- `cleaner::delivery::deliver` meets its contract. Assumes nothing.
use native.Mathlib.Omega.{arith}
use mathlib.Core.Path.{refl, sym, ap, subst, ◌∙◌}
use mathlib.Core.List.{◌++◌}
use lib.ListN.{length}
use lib.Seq.{length-take-le}
use Rattle.program.proofs.Numbers.{bytes_of}
use Rattle.image.proofs.Accepted.{accepted-long}
use Rattle.cleaning.proofs.Room.{used_then}
use Rattle.report.proofs.Short.{report-short}
use Rattle.report.proofs.RoomUsed.{used_reporting}
use Rattle.answers.specs.CleanAnswers.{CleanAnswer}
use Rattle.cleaner.specs.Writing.{Wrote}
use Rattle.cleaner.proofs.Wrote.{wrote_nothing, wrote_all, emitted-whole, whole_length, whole-fits}
use Rattle.cleaner.proofs.Delivered.{none_from, image_told, text-told, after-told, after-few, sentences-few, still, written_as, marks_are, marks_used, emitted_used}
use Rattle.cleaner.proofs.delivery.deliver.Goals as goal

pub overflow_sub-n : goal.overflow_sub-n
overflow_sub-n c = omega (arith, accepted-long c.args.img.now (bytes_of c.args.img.now (λ i. omega (arith, c.type_inv.img i))) c.requires.0.accepted)

pub slice_bounds-b-end : goal.slice_bounds-b-end
slice_bounds-b-end c = sym (length-take-le _ c.args.img.now (omega arith))

pub count_lists-figures-requires : goal.count_lists-figures-requires
count_lists-figures-requires c =
    let x = c.requires.0 in
    let q = marks_are c.args.work.now c.args.plan c.marks-from.ensures c.calls-end.ensures in
    (record { program = x.accepted.program; removing = x.delivery.removing }, x.few, omega (arith, c.count_ones-after.ensures x.accepted.program.functions (none_from x.accepted c.args.plan x.delivery q), after-few x.accepted c.args.plan x.delivery q, sentences-few x.accepted c.args.plan x.delivery q))

pub measure_clean_report-needed-requires : goal.measure_clean_report-needed-requires
measure_clean_report-needed-requires c =
    let x = c.requires.0 in
    let d = x.delivery in
    let q = marks_are c.args.work.now c.args.plan c.marks-from.ensures c.calls-end.ensures in
    let e = c.count_ones-after.ensures x.accepted.program.functions (none_from x.accepted c.args.plan d q) ∙ after-told x.accepted c.args.plan d q in
    let u = c.count_lists-figures.ensures.keeps in
    (record { program = x.accepted.program; reporting = used_reporting u (record { removing = d.removing; figures = (c.count_lists-figures.ensures.counted x.accepted.program d.removing e d.root_is).0 }); few = c.count_lists-figures.ensures.few }, x.few, refl)

pub returns-then-report-needed : goal.returns-then-report-needed
returns-then-report-needed c = record {
  wrote = λ a d.
      let g = c.args in
      let few = c.requires.0.few in
      let q = marks_are g.work.now g.plan c.marks-from.ensures c.calls-end.ensures in
      let e = c.count_ones-after.ensures a.program.functions (none_from a g.plan d q) ∙ after-told a g.plan d q in
      let f = c.count_lists-figures.ensures.counted a.program d.removing e d.root_is in
      let u = c.count_lists-figures.ensures.keeps in
      let t = emitted_used u a.program g.done.rounds (c.measure_clean_report-needed.ensures a.program (used_reporting u (record { removing = d.removing; figures = f.0 })) d.root_is) in
      let s = still c.count_lists-figures.new.none c.measure_clean_report-needed.new.none g.report.now _ _ f.1 t in
      subst (λ (x : CleanAnswer). Wrote a.program g.output.now g.report.now x g.output.now (c.measure_clean_report-needed.new.none ++ (c.count_lists-figures.new.none ++ g.report.now))) (sym c.at.ensures)
      (wrote_nothing a.program _ _ (image_told a g.plan d q) (text-told a g.plan d q) (report-short d.removing.readable _ g.done.rounds few) g.output.now g.report.now c.measure_clean_report-needed.result (whole_length t.after) (omega (arith, c.if-report-needed.true, ap length s)) _ s);
  same = c.count_lists-figures.ensures.keeps.length;
}

pub format_clean_report-requires : goal.format_clean_report-requires
format_clean_report-requires c =
    let x = c.requires.0 in
    let d = x.delivery in
    let q = marks_are c.args.work.now c.args.plan c.marks-from.ensures c.calls-end.ensures in
    let e = c.count_ones-after.ensures x.accepted.program.functions (none_from x.accepted c.args.plan d q) ∙ after-told x.accepted c.args.plan d q in
    let u = c.count_lists-figures.ensures.keeps in
    (record { program = x.accepted.program; reporting = used_reporting u (record { removing = d.removing; figures = (c.count_lists-figures.ensures.counted x.accepted.program d.removing e d.root_is).0 }); few = c.count_lists-figures.ensures.few }, x.few)

pub offset_bounds-work-from-2 : goal.offset_bounds-work-from-2
offset_bounds-work-from-2 c = let x = c.requires.0.delivery.removing.readable.indexed in record { fits = omega (arith, x.fits, x.small, c.marks-from.ensures) }

pub slice_bounds-write_kept-count : goal.slice_bounds-write_kept-count
slice_bounds-write_kept-count c = omega (arith, c.calls-end.ensures, c.marks-from.ensures)

pub slice_bounds-write_kept-start : goal.slice_bounds-write_kept-start
slice_bounds-write_kept-start c = omega (arith, c.calls-end.ensures, c.marks-from.ensures)

pub slice_bounds-write_kept-end : goal.slice_bounds-write_kept-end
slice_bounds-write_kept-end c = omega (arith, c.calls-end.ensures, c.marks-from.ensures, c.requires.0.delivery.removing.readable.indexed.fits, c.count_lists-figures.ensures.keeps.length, c.format_clean_report.ensures.keeps.length)

pub write_kept-written-requires : goal.write_kept-written-requires
write_kept-written-requires c = (c.requires.0.accepted, c.requires.1)

pub returns : goal.returns
returns c = record {
  wrote = λ a d.
      let g = c.args in
      let few = c.requires.0.few in
      let q = marks_are g.work.now g.plan c.marks-from.ensures c.calls-end.ensures in
      let e = c.count_ones-after.ensures a.program.functions (none_from a g.plan d q) ∙ after-told a g.plan d q in
      let f = c.count_lists-figures.ensures.counted a.program d.removing e d.root_is in
      let u = c.count_lists-figures.ensures.keeps in
      let o = used_then u c.format_clean_report.ensures.keeps in
      let r = used_reporting u (record { removing = d.removing; figures = f.0 }) in
      let t = emitted_used u a.program g.done.rounds (c.measure_clean_report-needed.ensures a.program r d.root_is) in
      let s = still c.count_lists-figures.new.none c.measure_clean_report-needed.new.none g.report.now _ _ f.1 t in
      let k = c.write_kept-written.ensures a in
      let m = marks_are _ g.plan c.marks-from.ensures c.calls-end.ensures ∙ marks_used o d.removing.readable.indexed.fits in
      wrote_all a.program _ _ (image_told a g.plan d m) (text-told a g.plan d q) (report-short d.removing.readable _ g.done.rounds few) g.output.now g.report.now
      c.write_kept-written.result c.measure_clean_report-needed.result k.0 (whole_length t.after) (omega (arith, c.if-report-needed.false, ap length s)) _ _
      (written_as _ g.output.now _ _ k.0 k.1) (emitted-whole g.report.now _ _ _ _ s (emitted_used u a.program g.done.rounds (c.format_clean_report.ensures.written a.program r d.root_is)) (whole-fits {k = length g.report.now} t.after (omega (arith, c.if-report-needed.false, ap length s))));
  same = c.format_clean_report.ensures.keeps.length ∙ c.count_lists-figures.ensures.keeps.length;
}
