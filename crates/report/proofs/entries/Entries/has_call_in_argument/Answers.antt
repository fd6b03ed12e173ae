-- `report::entries::Entries::has_call_in_argument` meets its contract. Assumes nothing.
use native.Mathlib.Omega.{arith}
use mathlib.Core.Path.{sym, ap, ◌∙◌}
use mathlib.Core.Bool.{false}
use lib.Dec.{ltb}
use Rattle.told.specs.Numbered.{sites_of}
use Rattle.cleaning.proofs.Walking.{head_first}
use Rattle.report.proofs.Uncharacterised.{uncharacterised-any}
use Rattle.report.proofs.entries.Entries.has_call_in_argument.Goals as goal

pub head_site-requires : goal.head_site-requires
head_site-requires c = omega (arith, c.requires.0.indexed.fits, c.requires.1)

pub returns : goal.returns
returns c = λ b w x d e.
    let r = c.head_site.result in
    ap (ltb r) (sym d.sites) ∙ uncharacterised-any x.name (sites_of w) r (head_first d c.args.f x e false r c.head_site.ensures.0)
