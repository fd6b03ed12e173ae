-- `reader::at::At::turn_result` meets its contract. Assumes nothing.
use native.Mathlib.Omega.{arith}
use Prim.Native.Nat.{◌≤◌}
use mathlib.Core.Path.{◌≡◌}
use lib.ListN.{get_or}
use Rattle.program.specs.Limits.{Mode}
use Rattle.reader.proofs.Turning.{bracket-at, call_at, block_at, deep_result}
use Rattle.reader.proofs.at.At.turn_result.Goals as goal

pub returns-then-d-ge32 : goal.returns-then-d-ge32
returns-then-d-ge32 c =
    let m : (7 ≤ get_or c.args.self.now.b.now c.args.self.now.p 0) × (get_or c.args.self.now.b.now c.args.self.now.p 0 ≤ 9) = (omega arith, omega arith) in
    deep_result _ _ _ c.args.self.now.inside m.0 m.1 c.if-d-ge32.true c.at.ensures

pub returns-in-7 : goal.returns-in-7
returns-in-7 c = bracket-at _ _ _ c.args.self.now.inside Mode.result c.in-7.is c.if-d-ge32.false c.spanned.ensures

pub returns-in-8 : goal.returns-in-8
returns-in-8 c = call_at _ _ _ c.args.self.now.inside c.in-8.is c.if-d-ge32.false c.spanned-in-8.ensures

pub returns-in_default-m : goal.returns-in_default-m
returns-in_default-m c =
    let m : (7 ≤ get_or c.args.self.now.b.now c.args.self.now.p 0) × (get_or c.args.self.now.b.now c.args.self.now.p 0 ≤ 9) = (omega arith, omega arith) in
    let e : get_or c.args.self.now.b.now c.args.self.now.p 0 ≡ 9 = omega arith in
    block_at _ _ _ c.args.self.now.inside e c.if-d-ge32.false c.spanned-in_default-m.ensures
