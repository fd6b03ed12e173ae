use native.Mathlib.Omega.{arith}
use Prim.Native.Nat.{◌+◌}
use Rattle.program.specs.Syntax.{Program}
use Rattle.cleaning.specs.Indexed.{fell_of}
use Rattle.told.specs.ToldReport.{fallen_from}
use Rattle.report.specs.Removed.{Listed, Removing}
use Rattle.report.proofs.RemovedLines.{listed-firsts, rounds-last, rounds-start, rounds_step}
use Rattle.report.proofs.entries.Entries.put_removed.Goals as goal

pub loop-round-init : goal.loop-round-init
loop-round-init c = (
  (omega arith, omega arith, omega arith, omega arith),
  λ w d o j h. rounds-start w ((fell_of c.args.self.now.plan c.args.self.now.work.now)) c.args.rounds h,
)

pub put_removed_round-count-requires : goal.put_removed_round-count-requires
put_removed_round-count-requires c =
    let b = c.loop-round.invariant.0 in
    (record { program = c.requires.0.program; rounds = c.args.rounds; removing = c.requires.0.removing }, b.0, omega (arith, c.loop-round-test.true, b.2, c.requires.1, c.requires.2), omega (arith, c.loop-round-test.true, b.3, c.requires.1))

pub loop-round-preserved : goal.loop-round-preserved
loop-round-preserved c = (
  let b = c.loop-round.invariant.0 in
      let k = c.put_removed_round-count.ensures.short in
      (omega arith, omega (arith, c.loop-round-test.true), omega (arith, b.2, k.0), omega (arith, b.3, k.1)),
  λ w d o j h. c.loop-round.invariant.1 w d o j (rounds_step w ((fell_of c.args.self.now.plan c.args.self.now.work.now)) c.args.rounds c.loop-round.round c.loop-round-test.true (c.put_removed_round-count.ensures.written w c.args.rounds d) h),
)

pub returns : goal.returns
returns c = record {
  written = λ w d. (listed-firsts w ((fell_of c.args.self.now.plan c.args.self.now.work.now)) c.args.rounds (c.loop-round.invariant.1 w d c.loop-round.out c.loop-round.count (rounds-last w ((fell_of c.args.self.now.plan c.args.self.now.work.now)) c.args.rounds c.loop-round.round (omega (arith, c.loop-round-test.false)) c.loop-round.out c.loop-round.count))).0;
  counted = λ w d.
      let e = (listed-firsts w ((fell_of c.args.self.now.plan c.args.self.now.work.now)) c.args.rounds (c.loop-round.invariant.1 w d c.loop-round.out c.loop-round.count (rounds-last w ((fell_of c.args.self.now.plan c.args.self.now.work.now)) c.args.rounds c.loop-round.round (omega (arith, c.loop-round-test.false)) c.loop-round.out c.loop-round.count))).1 in
      omega (arith, e);
  short = let b = c.loop-round.invariant.0 in
      omega (arith, b.1, b.2, c.requires.1);
}

-- The same after the last round.
pub returns-2 : goal.returns-2
returns-2 c =
    let a = c.args in
    let fell = fell_of a.self.now.plan a.self.now.work.now in
    let l = c.put_removed_round-count in
    let told : (w : Program) → Removing a.self.now.b.now w a.self.now.work.now a.self.now.plan a.rounds → Listed w fell a.rounds (fallen_from w fell 1 a.rounds) a.out.now 0 l.new.out l.result
    = λ w d.
    c.loop-round.invariant.1 w d l.new.out l.result
    (rounds_step w fell a.rounds c.loop-round.round c.loop-round-test.true (l.ensures.written w a.rounds d) (rounds-last w fell a.rounds (c.loop-round.round + 1) (omega arith) l.new.out l.result)) in
    record {
      written = λ w d. (listed-firsts w fell a.rounds (told w d)).0;
      counted = λ w d. omega (arith, (listed-firsts w fell a.rounds (told w d)).1);
      short = omega (arith, c.loop-round.invariant.0.2, l.ensures.short.0, c.requires.1);
    }
