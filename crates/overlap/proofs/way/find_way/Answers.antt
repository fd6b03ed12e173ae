use native.Mathlib.Omega.{arith}
use Rattle.rows.proofs.Places.{kept_same, kept_then}
use Rattle.overlap.specs.Way.{trail-start}
use Rattle.overlap.proofs.way.find_way.Goals as goal

pub loop-next-init : goal.loop-next-init
loop-next-init c = (kept_same c.args.from c.args.room.now, omega (arith, c.requires.3), c.requires.0, c.requires.1, trail-start)

pub take_turn-requires : goal.take_turn-requires
take_turn-requires c =
    let v = c.loop-next.invariant in
    (v.2, v.3, c.requires.2, v.1, record { fuel = c.args.fuel; left = c.args.left; right = c.args.right; trail = v.4 })

pub returns-in-Ended : goal.returns-in-Ended
returns-in-Ended c = record {
  finds = (c.in-Ended.ensures.turns c.args.fuel c.args.left c.args.right c.loop-next.invariant.4, omega (arith, c.in-Ended.ensures.goes.1, c.loop-next.invariant.0.length));
  keeps = kept_then c.loop-next.invariant.0 c.take_turn.ensures.keeps;
}

pub loop-next-smaller : goal.loop-next-smaller
loop-next-smaller c = c.in-On.ensures.goes.0.1

pub loop-next-preserved : goal.loop-next-preserved
loop-next-preserved c =
    let g = c.in-On.ensures.goes in (
      kept_then c.loop-next.invariant.0 c.take_turn.ensures.keeps,
      omega (arith, g.1, c.take_turn.ensures.keeps.length),
      g.0.0.first,
      g.0.0.second,
      c.in-On.ensures.turns c.args.fuel c.args.left c.args.right c.loop-next.invariant.4,
    )
