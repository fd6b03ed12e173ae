use native.Mathlib.Omega.{arith}
use mathlib.Core.Path.{◌∙◌}
use Rattle.text.proofs.Written.{written-nothing, same}
use Rattle.report.proofs.Places.{function_of}
use Rattle.report.proofs.Uncharacterised.{line_start, line_step, line_done, count-start, count_step, count-done}
use Rattle.report.proofs.entries.Entries.put_uncharacterised.Goals as goal

pub loop-f-init : goal.loop-f-init
loop-f-init c = (omega arith, omega arith, λ w d. (same c.args.out.now (line_start c.args.root w) (written-nothing c.args.out.now), count-start c.args.root w))

pub put_if_uncharacterised-count-requires : goal.put_if_uncharacterised-count-requires
put_if_uncharacterised-count-requires c =
    let d = c.requires.0.readable.indexed in (
      c.requires.0,
      c.loop-f-test.true,
      omega (arith, c.loop-f.invariant.0, c.loop-f-test.true, d.fits, d.small, c.requires.1),
      c.loop-f.invariant.1,
    )

pub loop-f-preserved : goal.loop-f-preserved
loop-f-preserved c = (
  omega (arith, c.loop-f.invariant.0, c.put_if_uncharacterised-count.ensures.short.0),
  omega (arith, c.loop-f.invariant.1, c.put_if_uncharacterised-count.ensures.short.1),
  λ w d.
      let x = function_of d c.loop-f.f c.loop-f-test.true in
      let so_far = c.loop-f.invariant.2 w d in (
        line_step c.args.root w c.loop-f.f x.element x.is c.loop-f.count so_far.1 c.args.out.now so_far.0 (c.put_if_uncharacterised-count.ensures.written w x.element d x.is),
        omega (arith, c.put_if_uncharacterised-count.ensures.counted w x.element d x.is, so_far.1, count_step c.args.root w c.loop-f.f x.element x.is),
      ),
)

pub put_line_end-requires : goal.put_line_end-requires
put_line_end-requires c =
    let d = c.requires.0.readable.indexed in
    omega (arith, c.loop-f.invariant.0, d.fits, d.small, c.requires.1)

pub returns : goal.returns
returns c = let i = c.requires.0.readable.indexed in record {
  written = λ w d. line_done c.args.root w c.loop-f.f (omega (arith, c.loop-f-test.false, d.indexed.functions)) c.loop-f.count (c.loop-f.invariant.2 w d).1 c.args.out.now (c.loop-f.invariant.2 w d).0 c.put_line_end.ensures.0;
  counted = λ w d. (c.loop-f.invariant.2 w d).1 ∙ count-done c.args.root w c.loop-f.f (omega (arith, c.loop-f-test.false, d.indexed.functions));
  short = (
    omega (arith, c.loop-f.invariant.0, c.put_line_end.ensures.1, i.fits, i.small),
    omega (arith, c.loop-f.invariant.1, i.fits, i.small),
  );
}
