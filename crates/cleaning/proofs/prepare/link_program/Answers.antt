-- `cleaning::prepare::link_program` meets its contract. Assumes nothing.
use Rattle.cleaning.proofs.LinkedLists.{program_linked}
use Rattle.cleaning.proofs.prepare.link_program.Goals as goal

pub class_sites-requires : goal.class_sites-requires
class_sites-requires c = let p = c.requires in record { program = p.program; chains = (c.link_lists.ensures p.program p.listed).0 }

pub returns : goal.returns
returns c = λ w l.
    let z = c.link_lists.ensures w l in
    program_linked l z.0 z.1 (c.class_sites.ensures w z.0)
