-- `reader::at::At::turn_names` meets its contract. Assumes nothing.
use Rattle.reader.proofs.Turning.{names-last, names_more}
use mathlib.Core.Path.{refl}
use Rattle.reader.proofs.at.At.turn_names.Goals as goal

pub returns-then-n-eq0 : goal.returns-then-n-eq0
returns-then-n-eq0 c = names-last _ _ c.args.self.now.inside _ c.if-n-eq0.true c.named.ensures

pub returns-else-n-eq0 : goal.returns-else-n-eq0
returns-else-n-eq0 c = names_more _ _ c.args.self.now.inside _ _ c.if-n-eq0.false refl c.named-else-n-eq0.ensures
