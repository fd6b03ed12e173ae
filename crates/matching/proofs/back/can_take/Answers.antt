-- `matching::back::can_take` meets its contract. Assumes nothing.
use Prim.Native.Nat.{ℕ}
use mathlib.Core.Path.{sym, ap, ◌∙◌}
use mathlib.Core.Bool.{not}
use lib.Dec.{eqb}
use lib.ListN.{get_or}
use borrow.Author.Tests.{eq-eqb}
use Rattle.matching.proofs.Choosing.{can_no_mark, can_not_end, can_told}
use Rattle.matching.proofs.back.can_take.Goals as goal

pub returns-then-body-b-ne6 : goal.returns-then-body-b-ne6
returns-then-body-b-ne6 c =
    let a = c.args in
    can_no_mark a.body.now a.work.now a.at (λ e. c.if-body-b-ne6.true (ap (λ (i : ℕ). get_or a.body.now i 0) (sym c.read-b.ensures.place) ∙ e))

pub returns-then-b : goal.returns-then-b
returns-then-b c =
    let a = c.args in
    let n = c.read-b.ensures in
    ap (λ (i : ℕ). not (eqb (get_or a.work.now i 0) 15)) (sym n.until)
    ∙ can_told a.body.now a.work.now a.at (ap (λ (i : ℕ). get_or a.body.now i 0) n.place ∙ c.if-body-b-ne6.false) (λ e. c.if-b.true (sym n.until ∙ (e ∙ n.end)))

pub returns-else-b : goal.returns-else-b
returns-else-b c =
    let a = c.args in
    let n = c.read-b.ensures in
    ap not (eq-eqb c.read-b.result.until c.read-b.result.end c.if-b.false)
    ∙ can_not_end a.body.now a.work.now a.at (ap (λ (i : ℕ). get_or a.body.now i 0) n.place ∙ c.if-body-b-ne6.false) (n.until ∙ (c.if-b.false ∙ sym n.end))
