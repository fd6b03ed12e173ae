use Rattle.std.specs.Prelude.{None}
use Prim.Native.Nat.{ℕ}
use native.Mathlib.Omega.{arith}
use mathlib.Core.Path.{ap}
use mathlib.Core.Bool.{Bool}
use mathlib.Core.List.{[], ◌∷◌}
use Rattle.program.specs.Syntax.{Program}
use Rattle.told.specs.Numbered.{sentences_before, sites_of}
use Rattle.meaning.specs.CleanReport.{same_uncovered}
use Rattle.told.specs.History.{is_there, after_all}
use Rattle.cleaning.specs.Indexed.{fell_of}
use Rattle.told.specs.ToldReport.{uncovered_told}
use Rattle.cleaning.proofs.Room.{used_same, used_then}
use Rattle.meaning.specs.Report.{uncovered_line}
use Rattle.report.specs.Emitting.{Readable}
use Rattle.report.specs.Listing.{nothing}
use Rattle.report.proofs.Places.{function_of}
use Rattle.report.proofs.RoomUsed.{used_back, used_keep, used_readable, used_some}
use Rattle.report.proofs.UncoveredLists.{uncovered-text, uncovered-repeat, of_function}
use Rattle.report.specs.Uncovered.{uncovered_named, Uncovered}
use Rattle.report.proofs.Telling.{listing-same, listing_text, listing_told}
use Rattle.report.proofs.UncoveredLoops.{over_first, over_next, over_end}
use Rattle.report.proofs.uncovered.put_uncovered.Goals as goal

pub loop-f-init : goal.loop-f-init
loop-f-init c = (λ w d. over_first ((is_there (fell_of c.args.plan c.args.work.now) after_all)) c.args.b.now w c.args.out.now, omega arith, omega arith, used_same)

pub put_if_judged-told-requires : goal.put_if_judged-told-requires
put_if_judged-told-requires c =
    let d = c.requires.0.readable.indexed in
    let i = c.loop-f.invariant in (
      used_some i.3 c.requires.0,
      c.loop-f-test.true,
      λ w q. (_, (i.0 w (used_readable (used_back i.3) q)).told.is [] nothing),
      omega (arith, i.1, c.loop-f-test.true, d.fits, d.small, c.requires.1),
      i.2,
    )

pub loop-f-preserved : goal.loop-f-preserved
loop-f-preserved c =
    let i = c.loop-f.invariant in (
      λ w d.
          let x = function_of d c.loop-f.f c.loop-f-test.true in
          over_next ((is_there (fell_of c.args.plan c.args.work.now) after_all)) c.args.b.now w c.args.out.now (i.0 w d) x.element x.is
          (listing-same uncovered_named (ap (λ (k : ℕ → Bool). of_function k (sites_of w) (λ (n : ℕ). sentences_before n w.functions) c.loop-f.f x.element) (used_keep i.3 after_all)) (c.put_if_judged-told.ensures.told w x.element (used_readable i.3 d) x.is)),
      omega (arith, c.put_if_judged-told.ensures.short.0, i.1),
      c.put_if_judged-told.ensures.short.1,
      used_then i.3 c.put_if_judged-told.ensures.keeps,
    )

pub shape_of-work : goal.shape_of-work
shape_of-work c = c.loop-f.invariant.3.length

pub returns : goal.returns
returns c =
    let d = c.requires.0.readable.indexed in
    let keep = is_there (fell_of c.args.plan c.args.work.now) after_all in
    let told : (w : Program) → Readable c.args.b.now w c.args.work.now c.args.plan → Uncovered c.args.b.now w (uncovered_told keep (sites_of w) 0 w.functions) c.args.out.now 0 None c.loop-f.out c.loop-f.told.count c.loop-f.told.last
    = λ w q. over_end keep c.args.b.now w c.args.out.now (c.loop-f.invariant.0 w q) (omega (arith, c.loop-f-test.false, q.indexed.functions)) in
    record {
      told = λ w q. listing_text uncovered_named (32 ∷ 60 ∷ 45 ∷ 32 ∷ []) (10 ∷ []) uncovered_line same_uncovered uncovered-text uncovered-repeat (uncovered_told keep (sites_of w) 0 w.functions) (told w q);
      counted = λ w q. omega (arith, listing_told uncovered_named (32 ∷ 60 ∷ 45 ∷ 32 ∷ []) (10 ∷ []) uncovered_line same_uncovered uncovered-text uncovered-repeat (uncovered_told keep (sites_of w) 0 w.functions) (told w q));
      short = omega (arith, c.loop-f.invariant.1, d.fits, d.small);
      keeps = c.loop-f.invariant.3;
    }
