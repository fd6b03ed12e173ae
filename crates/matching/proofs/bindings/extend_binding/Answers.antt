-- `matching::bindings::extend_binding` meets its contract. Assumes nothing.
use Rattle.matching.proofs.Held.{two-more}
use Rattle.matching.proofs.bindings.extend_binding.Goals as goal

pub returns : goal.returns
returns c = two-more c.args.at c.args.until c.put_number.ensures
