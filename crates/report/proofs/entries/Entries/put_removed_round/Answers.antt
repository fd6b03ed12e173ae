use Prim.Native.Nat.{◌+◌, suc, ℕ, ◌≤◌}
use native.Mathlib.Omega.{arith}
use mathlib.Core.Path.{ap, ◌≡◌}
use Rattle.cleaning.specs.Indexed.{fell_of}
use Rattle.told.specs.Numbered.{sentences_before}
use Rattle.report.proofs.Places.{function_of}
use Rattle.report.proofs.RemovedLines.{functions-last, functions-start, functions_step}
use Rattle.report.proofs.Repeating.{sentences-within}
use Rattle.report.proofs.entries.Entries.put_removed_round.Goals as goal

pub loop-f-init : goal.loop-f-init
loop-f-init c = (
  λ w n d. (omega arith, omega arith),
  λ w n d o j h. functions-start w ((fell_of c.args.self.now.plan c.args.self.now.work.now)) n c.args.round h,
)

pub put_removed_in-all-requires : goal.put_removed_in-all-requires
put_removed_in-all-requires c =
    let within : c.args.self.now.plan.sentences ≤ 4096 = let d = c.requires.0.removing.readable.indexed in omega (arith, d.fits, d.small) in
    let o = c.requires.0 in
    let b = c.loop-f.invariant.0 o.program o.rounds o.removing in
    let l = sentences-within o.removing.readable c.loop-f.f in
    (o, c.loop-f-test.true, c.requires.1, omega (arith, b.0, l, within, c.requires.2), omega (arith, b.1, l, within, c.requires.3))

pub loop-f-preserved : goal.loop-f-preserved
loop-f-preserved c = (
  λ w n d.
      let b = c.loop-f.invariant.0 w n d in
      let k = c.put_removed_in-all.ensures.short w n d in
      let z : sentences_before (suc c.loop-f.f) w.functions ≡ sentences_before (c.loop-f.f + 1) w.functions = let v : suc c.loop-f.f ≡ c.loop-f.f + 1 = omega arith in ap (λ (t : ℕ). sentences_before t w.functions) v in
      (omega (arith, b.0, k.place, z), omega (arith, b.1, k.many, z)),
  λ w n d o j h.
      let x = function_of d.readable c.loop-f.f c.loop-f-test.true in
      c.loop-f.invariant.1 w n d o j (functions_step w ((fell_of c.args.self.now.plan c.args.self.now.work.now)) n c.args.round c.loop-f.f x.element x.is (c.put_removed_in-all.ensures.written w n x.element d x.is) h),
)

pub returns : goal.returns
returns c =
    let within : c.args.self.now.plan.sentences ≤ 4096 = let d = c.requires.0.removing.readable.indexed in omega (arith, d.fits, d.small) in
    record {
      written = λ w n d. c.loop-f.invariant.1 w n d c.loop-f.out c.loop-f.all (functions-last w ((fell_of c.args.self.now.plan c.args.self.now.work.now)) n c.args.round c.loop-f.f (omega (arith, c.loop-f-test.false, d.readable.indexed.functions)) c.loop-f.out c.loop-f.all);
      short = let o = c.requires.0 in
          let b = c.loop-f.invariant.0 o.program o.rounds o.removing in
          let l = sentences-within o.removing.readable c.loop-f.f in
          (omega (arith, b.0, l, within), omega (arith, b.1, l, within));
    }
