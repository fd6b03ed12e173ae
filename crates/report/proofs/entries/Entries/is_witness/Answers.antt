-- `report::entries::Entries::is_witness` meets its contract. Assumes nothing.
use Prim.Native.Nat.{ℕ, ◌+◌}
use mathlib.Core.Path.{sym, ap, ◌∙◌}
use mathlib.Core.Bool.{Bool, ◌&&◌}
use lib.Dec.{eqb}
use lib.ListN.{get_or}
use Rattle.index.specs.Layout.{witnesses}
use Rattle.report.proofs.UncoveredLists.{covers_gone}
use Rattle.report.proofs.entries.Entries.is_witness.Goals as goal

pub returns-else-is_there : goal.returns-else-is_there
returns-else-is_there c = let a = c.args in c.if-is_there.false ∙ covers_gone _ (eqb (get_or a.self.now.work.now (witnesses a.self.now.plan + a.s) 0) (a.i + 1)) (sym c.is_there.ensures ∙ c.if-is_there.false)

pub returns-then-is_there : goal.returns-then-is_there
returns-then-is_there c =
    let a = c.args in
    ap (λ (k : ℕ). eqb (get_or a.self.now.work.now (k + a.s) 0) (a.i + 1)) c.witnesses.ensures
    ∙ ap (λ (t : Bool). t && eqb (get_or a.self.now.work.now (witnesses a.self.now.plan + a.s) 0) (a.i + 1)) (sym (sym c.is_there.ensures ∙ c.if-is_there.true))
