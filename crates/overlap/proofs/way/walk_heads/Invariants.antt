-- `overlap::way::walk_heads` meets its contract: what is left answers as the whole, and a way from there is one of the whole.
use Rattle.rows.specs.Rows.{Kept}
use Rattle.overlap.proofs.Ways.{Onward}
use Rattle.overlap.proofs.way.walk_heads.Given as goal

abbrev pub invariant-loop-f : goal.invariant-loop-f
invariant-loop-f l = Kept l.from l.initial.room l.room × Onward l.b l.fuel l.left l.right l.f l.i l.j
