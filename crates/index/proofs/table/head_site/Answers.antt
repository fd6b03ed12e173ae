-- `index::table::head_site` meets its contract. Assumes nothing.
use mathlib.Core.Path.{◌∙◌, sym, subst}
use Prim.Native.Nat.{ℕ, ◌<◌}
use Rattle.index.proofs.Heads.{first_head, head_below}
use Rattle.index.proofs.table.head_site.Goals as goal

pub returns : goal.returns
returns c =
    let h = c.from.ensures in
    let k = c.args.kind in (
      c.first.ensures ∙ first_head k c.from.result _ h.0 h.1,
      subst (λ (n : ℕ). n < 524288) (sym c.first.ensures) (head_below k c.from.result h.2 h.3),
    )
