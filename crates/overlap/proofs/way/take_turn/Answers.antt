-- `overlap::way::take_turn` meets its contract, by where the heads lead.
use Prim.Native.Nat.{ℕ}
use native.Mathlib.Omega.{arith}
use mathlib.Core.List.{List, []}
use Rattle.rows.specs.Rows.{Kept}
use Rattle.rows.proofs.Places.{kept_then, kept_less}
use Rattle.rows.proofs.Readings.{inside}
use Rattle.overlap.specs.Way.{way-any, in_turn}
use Rattle.overlap.proofs.Ways.{trail-kept, trail-way, goes_less, opened_turned, opened_goes, opened_fits, opened_kept}
use Rattle.overlap.proofs.way.take_turn.Goals as goal

pub walk_heads-requires : goal.walk_heads-requires
walk_heads-requires c = let p = c.requires in (p.0, p.1, p.2)

pub next_end-requires : goal.next_end-requires
next_end-requires c =
    let g = c.in-Apart.fuel in
    let a = c.in-Apart.ensures.tells in
    let t = c.requires.4 in (
      record { fuel = t.fuel; left = t.left; right = t.right; failing = record { left = c.args.pair.left; right = c.args.pair.right; from-fuel = c.args.pair.fuel; trail = trail-kept c.walk_heads.ensures.keeps t.trail; apart = a.0 } },
      c.requires.2,
      omega (arith, c.requires.3, c.walk_heads.ensures.keeps.length),
    )

pub open_split-requires : goal.open_split-requires
open_split-requires c =
    let values : List ℕ = c.args.b.now in
    let o = c.in-Split.split in
    let l = c.in-Split.ensures.tells in (
      omega (arith, inside values o.rest l.first, c.requires.2),
      omega (arith, inside values o.other l.second, c.requires.2),
      omega (arith, c.requires.3, c.walk_heads.ensures.keeps.length),
    )

pub returns-in-Stuck : goal.returns-in-Stuck
unfolding in_turn
returns-in-Stuck c = record { turns = λ f p q t. way-any; goes = (tt, omega (arith, c.requires.3)); keeps = kept_less (omega arith) c.walk_heads.ensures.keeps }

pub returns-in-Met : goal.returns-in-Met
returns-in-Met c = record { turns = λ f p q t. trail-way (trail-kept c.walk_heads.ensures.keeps t) c.in-Met.ensures.tells [] way-any; goes = (tt, omega (arith, c.requires.3)); keeps = kept_less (omega arith) c.walk_heads.ensures.keeps }

pub returns-in-Apart : goal.returns-in-Apart
returns-in-Apart c =
    let values : List ℕ = c.walk_heads.new.room in
    let kept : Kept c.args.from c.args.room.now values = kept_less (omega arith) c.walk_heads.ensures.keeps in
    let a = c.in-Apart.ensures.tells in record {
      turns = λ f p q t. c.next_end.ensures.turns f p q (record { left = c.args.pair.left; right = c.args.pair.right; from-fuel = c.args.pair.fuel; trail = trail-kept c.walk_heads.ensures.keeps t; apart = a.0 });
      goes = (
        goes_less c.args.b.now c.args.pair.fuel c.in-Apart.fuel c.next_end.result a.1 c.next_end.ensures.goes.0,
        omega (arith, c.next_end.ensures.goes.1, c.requires.3),
      );
      keeps = kept_then kept c.next_end.ensures.keeps;
    }

pub returns-in-Split : goal.returns-in-Split
returns-in-Split c =
    let values : List ℕ = c.args.b.now in
    let the_values : List ℕ = c.walk_heads.new.room in
    let kept : Kept c.args.from c.args.room.now the_values = kept_less (omega arith) c.walk_heads.ensures.keeps in
    let o = c.in-Split.split in let l = c.in-Split.ensures.tells in let new = c.open_split.new.room in record {
      turns = λ f p q t. opened_turned values the_values new c.args.from c.args.pair.height c.args.pair.fuel c.args.pair.left c.args.pair.right o.rest o.other o.fuel c.open_split.result l c.open_split.ensures f p q (trail-kept c.walk_heads.ensures.keeps t);
      goes = (
        opened_goes values the_values new c.args.from c.args.pair.height c.args.pair.fuel c.args.pair.left c.args.pair.right o.rest o.other o.fuel c.open_split.result l c.open_split.ensures,
        omega (arith, c.walk_heads.ensures.keeps.length, opened_fits values the_values new c.args.from c.args.pair.height c.args.pair.fuel c.args.pair.left c.args.pair.right o.rest o.other o.fuel c.open_split.result l c.open_split.ensures (omega (arith, c.requires.3, c.walk_heads.ensures.keeps.length))),
      );
      keeps = kept_then kept (kept_less (omega arith) (opened_kept values the_values new c.args.from c.args.pair.height c.args.pair.fuel c.args.pair.left c.args.pair.right o.rest o.other o.fuel c.open_split.result l c.open_split.ensures));
    }
