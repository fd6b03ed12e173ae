use Rattle.report.proofs.Telling.{listing_text, listing_told}
use Prim.Native.Nat.{ℕ, suc, ◌≤◌}
use native.Mathlib.Omega.{arith}
use mathlib.Core.List.{[], ◌∷◌}
use Rattle.program.specs.Syntax.{Program}
use Rattle.program.proofs.Own.{own-counted}
use Rattle.told.specs.Numbered.{sentences_before, sites_of}
use Rattle.told.specs.History.{is_there, after_all}
use Rattle.cleaning.specs.Indexed.{fell_of}
use Rattle.told.specs.ToldReport.{undecided_told}
use Rattle.meaning.specs.CleanReport.{same_undecided}
use Rattle.meaning.specs.Report.{undecided_line}
use Rattle.std.specs.Prelude.{None}
use Rattle.cleaning.proofs.Owned.{before_most}
use Rattle.report.specs.Emitting.{Readable}
use Rattle.report.specs.Listing.{nothing}
use Rattle.report.specs.Undecided.{undecided_named, Undecided}
use Rattle.report.proofs.UndecidedLists.{undecided-text, undecided-repeat}
use Rattle.report.proofs.Places.{function_of}
use Rattle.report.proofs.UndecidedLoops.{over_first, over_next, over_end}
use Rattle.report.proofs.entries.Entries.put_undecided.Goals as goal

pub loop-f-init : goal.loop-f-init
loop-f-init c = (λ w d. over_first ((is_there (fell_of c.args.self.now.plan c.args.self.now.work.now) after_all)) c.args.self.now.b.now w c.args.out.now, omega arith)

pub put_if_judged-told-requires : goal.put_if_judged-told-requires
put_if_judged-told-requires c =
    let ReadableHere : Program → Type 0 = λ w. Readable c.args.self.now.b.now w c.args.self.now.work.now c.args.self.now.plan in
    let within : (w : Program) → ReadableHere w → (f : ℕ) → sentences_before f w.functions ≤ 8192 = λ w d f. omega (arith, before_most w.functions f, own-counted w.functions, d.indexed.sentences, d.indexed.fits, d.indexed.small) in
    let h = c.loop-f.invariant in (
      c.requires.0,
      c.loop-f-test.true,
      λ w d. (_, (h.0 w d).told.is [] nothing),
      λ w d. omega (arith, (h.0 w d).short, within w d (suc c.loop-f.f), c.requires.1),
      h.1,
      c.requires.2,
    )

pub loop-f-preserved : goal.loop-f-preserved
loop-f-preserved c = (
  λ w d.
      let x = function_of d c.loop-f.f c.loop-f-test.true in
      over_next ((is_there (fell_of c.args.self.now.plan c.args.self.now.work.now) after_all)) c.args.self.now.b.now w c.args.out.now (c.loop-f.invariant.0 w d) x.element x.is (c.put_if_judged-told.ensures.told w x.element d x.is) (c.put_if_judged-told.ensures.short.0 w d),
  c.put_if_judged-told.ensures.short.1,
)

pub returns : goal.returns
returns c =
    let ReadableHere : Program → Type 0 = λ w. Readable c.args.self.now.b.now w c.args.self.now.work.now c.args.self.now.plan in
    let within : (w : Program) → ReadableHere w → (f : ℕ) → sentences_before f w.functions ≤ 8192 = λ w d f. omega (arith, before_most w.functions f, own-counted w.functions, d.indexed.sentences, d.indexed.fits, d.indexed.small) in
    let p = c.requires.0 in
    let keep = is_there (fell_of c.args.self.now.plan c.args.self.now.work.now) after_all in
    let told : (w : Program) → ReadableHere w → Undecided c.args.self.now.b.now w (undecided_told keep (sites_of w) 0 w.functions) c.args.out.now 0 None c.loop-f.out c.loop-f.told.count c.loop-f.told.last
    = λ w d. over_end keep c.args.self.now.b.now w c.args.out.now (c.loop-f.invariant.0 w d) (omega (arith, c.loop-f-test.false, d.indexed.functions)) in
    record {
      told = λ w d. listing_text undecided_named (32 ∷ 123 ∷ []) (125 ∷ 10 ∷ []) undecided_line same_undecided undecided-text undecided-repeat (undecided_told keep (sites_of w) 0 w.functions) (told w d);
      counted = λ w d. omega (arith, listing_told undecided_named (32 ∷ 123 ∷ []) (125 ∷ 10 ∷ []) undecided_line same_undecided undecided-text undecided-repeat (undecided_told keep (sites_of w) 0 w.functions) (told w d));
      short = omega (arith, (c.loop-f.invariant.0 p.program p.readable).short, within p.program p.readable c.loop-f.f);
    }
