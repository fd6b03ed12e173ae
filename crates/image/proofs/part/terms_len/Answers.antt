-- `image::part::terms_len` meets its contract. Assumes nothing.
use Rattle.image.proofs.Readings.{terms-pass}
use Rattle.image.proofs.part.terms_len.Goals as goal

pub returns : goal.returns
returns c = terms-pass c.args.s.now _ c.past.ensures.0 c.past.ensures.1.1
