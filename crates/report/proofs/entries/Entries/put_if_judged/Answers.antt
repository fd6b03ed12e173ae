-- `report::entries::Entries::put_if_judged` meets its contract. Assumes nothing.
use Prim.Native.Nat.{suc}
use native.Mathlib.Omega.{arith}
use mathlib.Core.Path.{◌≡◌, sym, ◌∙◌}
use mathlib.Core.Option.{some}
use lib.ListN.{get_elem?}
use Rattle.program.specs.Syntax.{Function, Program}
use Rattle.told.specs.Numbered.{sentences_before, sites_of}
use Rattle.told.specs.Asked.{is_judged}
use Rattle.told.specs.History.{is_there, after_all}
use Rattle.cleaning.specs.Indexed.{fell_of}
use Rattle.told.specs.ToldReport.{undecided_in}
use Rattle.cleaning.proofs.Owned.{before-later}
use Rattle.report.specs.Emitting.{Readable}
use Rattle.report.specs.Undecided.{undecided_named}
use Rattle.report.proofs.Telling.{listing-nothing, listing-same, only_judged, none_judged}
use Rattle.report.proofs.entries.Entries.put_if_judged.Goals as goal

pub is_judged-requires : goal.is_judged-requires
is_judged-requires c = (record { body = c.args.self.now.b.now; program = c.requires.0.program; indexed = c.requires.0.readable.indexed }, c.requires.1)

pub returns-then-not-is_judged : goal.returns-then-not-is_judged
returns-then-not-is_judged c =
    let same : (w : Program) (x : Function) → Readable c.args.self.now.b.now w c.args.self.now.work.now c.args.self.now.plan → get_elem? w.functions c.args.f ≡ some x → is_judged ((is_there (fell_of c.args.self.now.plan c.args.self.now.work.now) after_all)) x.name (sites_of w) ≡ c.is_judged.result = λ w x d e. sym (c.is_judged.ensures c.args.self.now.b.now w x d.indexed e) in
    let a = c.args in record {
      told = λ w x d e.
          listing-same undecided_named
          (none_judged (undecided_in ((is_there (fell_of c.args.self.now.plan c.args.self.now.work.now) after_all)) (sites_of w) (sentences_before a.f w.functions) x) (same w x d e ∙ c.if-not-is_judged.true))
          (listing-nothing a.listed.last a.out.now a.listed.count);
      short = (λ w d. omega (arith, before-later w.functions a.f (suc a.f) (omega arith)), c.requires.4);
    }

pub put_undecided_in-requires : goal.put_undecided_in-requires
put_undecided_in-requires c =
    let same : (w : Program) (x : Function) → Readable c.args.self.now.b.now w c.args.self.now.work.now c.args.self.now.plan → get_elem? w.functions c.args.f ≡ some x → is_judged ((is_there (fell_of c.args.self.now.plan c.args.self.now.work.now) after_all)) x.name (sites_of w) ≡ c.is_judged.result = λ w x d e. sym (c.is_judged.ensures c.args.self.now.b.now w x d.indexed e) in
    let p = c.requires in
    (p.0, p.1, p.2, p.3, p.4, p.5, record { is = λ w x d e. same w x d e ∙ c.if-not-is_judged.false })

pub returns : goal.returns
returns c =
    let same : (w : Program) (x : Function) → Readable c.args.self.now.b.now w c.args.self.now.work.now c.args.self.now.plan → get_elem? w.functions c.args.f ≡ some x → is_judged ((is_there (fell_of c.args.self.now.plan c.args.self.now.work.now) after_all)) x.name (sites_of w) ≡ c.is_judged.result = λ w x d e. sym (c.is_judged.ensures c.args.self.now.b.now w x d.indexed e) in
    let a = c.args in record {
      told = λ w x d e.
          listing-same undecided_named
          (only_judged (undecided_in ((is_there (fell_of c.args.self.now.plan c.args.self.now.work.now) after_all)) (sites_of w) (sentences_before a.f w.functions) x) (same w x d e ∙ c.if-not-is_judged.false))
          (c.put_undecided_in.ensures.told w x d e);
      short = c.put_undecided_in.ensures.short;
    }
