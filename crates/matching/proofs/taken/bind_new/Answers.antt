-- `matching::taken::bind_new` meets its contract. Assumes nothing.
use mathlib.Core.Path.{refl}
use Rattle.matching.proofs.Taking.{variable-at}
use Rattle.matching.proofs.Bound.{binds}
use Rattle.matching.proofs.taken.bind_new.Goals as goal

pub behind_variable-p-requires : goal.behind_variable-p-requires
behind_variable-p-requires c = variable-at c.requires.0

pub returns : goal.returns
unfolding variable-at
returns c = λ q b top frame t e run.
    let h = c.requires in
    (refl, binds q b frame c.behind_variable-p.result c.in_ok-until.until t.0 h.2 t.1 t.2 h.4 t.3 (c.in_ok-until.ensures q b e) c.write.ensures (c.behind_variable-p.ensures (variable-at q)).0 run)
