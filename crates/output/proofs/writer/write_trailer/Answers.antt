-- `output::writer::write_trailer` meets its contract. Assumes nothing.
use native.Mathlib.Omega.{arith}
use Rattle.output.proofs.Writing.{trailer_stored}
use Rattle.output.proofs.writer.write_trailer.Goals as goal

pub returns : goal.returns
returns c = trailer_stored c.args.output.now c.write32.new.out c.write32-2.new.out c.write16.new.out c.write16-2.new.out c.args.at c.args.first c.args.functions c.args.sentences (omega (arith, c.requires.0)) c.write32.ensures c.write32-2.ensures c.write16.ensures c.write16-2.ensures
