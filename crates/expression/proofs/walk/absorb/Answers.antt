-- `expression::walk::absorb` meets its contract.
use native.Mathlib.Omega.{arith}
use Rattle.rows.proofs.Places.{kept_same, kept_less}
use Rattle.expression.proofs.Leading.{ahead-told, fails-less, onwards_none}
use Rattle.expression.proofs.walk.absorb.Goals as goal

-- No end is known.
pub returns-in_default-clause-keeps : goal.returns-in_default-clause-keeps
returns-in_default-clause-keeps c =
    let z = c.first.ensures.0 c.in_default.is in
    (onwards_none c.args.b.now c.args.room.now _ c.ask.result c.ask.ensures.keeps.1 (omega (arith, c.ask.ensures.keeps.0, z)), kept_less (omega (arith, z)) c.ask.ensures.keeps.2)

pub follow-requires : goal.follow-requires
follow-requires c =
    let e = c.in-Some.ensures.1 in
    let k = ahead-told c.args.b.now c.args.room.now c.args.step.ends.next c.args.step.ends.known c.args.step.left c.args.step.right c.args.step.fuel c.requires.3 e.0 c.in-Some.end.other c.in-Some.end.fuel e.1 e.2 in
    (record { rest = c.args.step.left; fuel = c.args.step.fuel; left = c.in-Some.end.fuel; swapped = c.args.step.swapped; splits = c.requires.0; taken = k.0 }, c.requires.1)

pub returns : goal.returns
returns c =
    let e = c.in-Some.ensures.1 in
    let k = ahead-told c.args.b.now c.args.room.now c.args.step.ends.next c.args.step.ends.known c.args.step.left c.args.step.right c.args.step.fuel c.requires.3 e.0 c.in-Some.end.other c.in-Some.end.fuel e.1 e.2 in
    let z = e.0 in record {
      steps = λ x y.
          let f = c.follow.ensures c.args.step.left c.args.step.fuel c.in-Some.end.fuel c.args.step.swapped x y k.0 in
          record { text = f.text; wrote = f.wrote; first = x; second = f.there; is = f.is; further = omega (arith, f.further); less = fails-less k.0.fails };
      keeps = (record { way = k.1; is = omega (arith, z) }, kept_same _ c.args.room.now);
    }
