-- `report::uncovered::put_if_judged` meets its contract. Assumes nothing.
use native.Mathlib.Omega.{arith}
use mathlib.Core.Path.{sym, ◌∙◌}
use Rattle.told.specs.Numbered.{sentences_before, sites_of}
use Rattle.told.specs.History.{is_there, after_all}
use Rattle.cleaning.specs.Indexed.{fell_of}
use Rattle.told.specs.ToldReport.{uncovered_in}
use Rattle.cleaning.proofs.Room.{used_same}
use Rattle.report.proofs.Telling.{only_judged, none_judged}
use Rattle.report.specs.Uncovered.{uncovered_named}
use Rattle.report.proofs.Telling.{listing-nothing, listing-same}
use Rattle.report.proofs.uncovered.put_if_judged.Goals as goal

pub is_judged-requires : goal.is_judged-requires
is_judged-requires c = (record { body = c.args.b.now; program = c.requires.0.program; indexed = c.requires.0.readable.indexed }, c.requires.1)

pub returns-then-not-is_judged : goal.returns-then-not-is_judged
returns-then-not-is_judged c = let a = c.args in record {
  told = λ w x d e.
      listing-same uncovered_named (none_judged (uncovered_in ((is_there (fell_of c.args.plan c.args.work.now) after_all)) (sites_of w) (sentences_before a.f w.functions) x) (sym (c.is_judged.ensures a.b.now w x d.indexed e) ∙ c.if-not-is_judged.true))
      (listing-nothing a.listed.last a.out.now a.listed.count);
  short = (omega arith, c.requires.4);
  keeps = used_same;
}

pub put_uncovered_in-requires : goal.put_uncovered_in-requires
put_uncovered_in-requires c = c.requires

pub returns : goal.returns
returns c = let a = c.args in record {
  told = λ w x d e.
      listing-same uncovered_named (only_judged (uncovered_in ((is_there (fell_of c.args.plan c.args.work.now) after_all)) (sites_of w) (sentences_before a.f w.functions) x) (sym (c.is_judged.ensures a.b.now w x d.indexed e) ∙ c.if-not-is_judged.false))
      (c.put_uncovered_in.ensures.told w x d e);
  short = c.put_uncovered_in.ensures.short;
  keeps = c.put_uncovered_in.ensures.keeps;
}
