-- `report::decided::set_open` meets its contract. Assumes nothing.
use Prim.Native.Nat.{◌+◌, ◌/◌, ◌<◌}
use native.Mathlib.Omega.{arith}
use mathlib.Core.Path.{sym, ◌∙◌}
use borrow.Author.Tests.{eq-eqb, ne_eqb}
use lib.ListN.{get_or, length}
use Rattle.report.proofs.OpenNotes.{open_written}
use Rattle.report.proofs.decided.set_open.Goals as goal
use Rattle.report.proofs.decided.set_open.Goals.{then-undecided, else-undecided}

pub returns : goal.returns
returns c =
    let a = c.args in
    let v = get_or a.work.now (c.lines.result + a.s) 0 in
    let u = c.if-undecided.work in
    let l : c.lines.result + a.s < length a.work.now = omega (arith, c.lines.ensures, c.requires.0, c.requires.1) in
    elim c.if-undecided.branch [
      | then-undecided w ↦ open_written a.plan a.work.now c.lines.result a.s u a.undecided c.lines.ensures l (omega (arith, w.work-is)) (eq-eqb (u / 134217728) 1 (omega (arith, w.work-is)) ∙ sym w.if-undecided.true)
      | else-undecided w ↦ open_written a.plan a.work.now c.lines.result a.s u a.undecided c.lines.ensures l (omega (arith, w.work-is)) (ne_eqb (u / 134217728) 1 (λ q. omega (arith, q, w.work-is)) ∙ sym w.if-undecided.false)
    ]
