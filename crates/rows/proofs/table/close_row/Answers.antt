use Prim.Native.Nat.{◌+◌, ◌-◌}
use lib.ListN.{get_or}
use mathlib.Core.Path.{refl}
use Rattle.rows.specs.Rows.{listed_at, Stands, behind_terms}
use Rattle.rows.proofs.Lists.{place_in}
use Rattle.rows.proofs.Filling.{closing-first, closing-stands, closing-turn, closing-done}
use Rattle.rows.proofs.table.close_row.Goals as goal

pub loop-j-init : goal.loop-j-init
loop-j-init c = closing-first c.requires

pub loop-j-preserved : goal.loop-j-preserved
loop-j-preserved c =
    closing-turn c.requires c.loop-j.invariant c.loop-j-test.true (get_or c.loop-j.room (c.args.ys.at + (c.loop-j.j - 1)) 0) refl
    c.close_behind-s.result c.ends_both-t.result c.close_behind-s.ensures c.ends_both-t.ensures _ c.put_words.ensures

pub returns : goal.returns
returns c = record { tells = λ x e. closing-done c.loop-j.invariant c.loop-j-test.false x e; keeps = c.loop-j.invariant.kept }

pub bounds-b-q : goal.bounds-b-q
bounds-b-q c =
    let stands : Stands c.args.b.now (get_or c.loop-j.room (c.args.ys.at + (c.loop-j.j - 1)) 0) (behind_terms (c.loop-j.j - 1) (listed_at c.args.b.now c.args.room.now c.args.ys.at)) = closing-stands c.requires c.loop-j.invariant c.loop-j-test.true (get_or c.loop-j.room (c.args.ys.at + (c.loop-j.j - 1)) 0) refl in
    place_in stands.from
