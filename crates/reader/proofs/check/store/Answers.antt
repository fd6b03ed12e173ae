-- `reader::check::store` meets its contract. Assumes nothing.
use Rattle.reader.proofs.Loop.{stored-one, stored-two, stored-three}
use Rattle.reader.proofs.check.store.Goals as goal

pub returns-in-One : goal.returns-in-One
returns-in-One c = rw c.in-One.is (stored-one _ _ c.requires _)

pub returns-in-Two : goal.returns-in-Two
returns-in-Two c = rw c.in-Two.is (stored-two _ _ c.requires _ _)

pub returns-in-Three : goal.returns-in-Three
returns-in-Three c = rw c.in-Three.is (stored-three _ _ c.requires _ _ _)
