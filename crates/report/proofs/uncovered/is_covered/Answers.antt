-- `report::uncovered::is_covered` meets its contract. Assumes nothing.
use mathlib.Core.Path.{sym, ap, ◌∙◌}
use mathlib.Core.Bool.{not}
use Rattle.cleaning.proofs.Meeting.{site-below}
use Rattle.cleaning.proofs.Room.{used_same}
use Rattle.report.proofs.uncovered.is_covered.Goals as goal

pub is_witnessed-requires : goal.is_witnessed-requires
is_witnessed-requires c =
    let p = c.requires.0 in
    (record { body = c.args.b.now; program = p.program; indexed = p.readable.indexed }, c.requires.1, site-below p.readable.indexed p.place p.function p.is c.args.i p.site p.at)

pub returns-then-is_witnessed : goal.returns-then-is_witnessed
returns-then-is_witnessed c = record { answers = λ w x y d e g l k. c.is_witnessed.ensures c.args.b.now w x y d e g c.if-is_witnessed.true ∙ ap not (sym c.if-is_witnessed.true); keeps = used_same }

pub any_covers-requires : goal.any_covers-requires
any_covers-requires c = c.requires

pub returns-else-is_witnessed : goal.returns-else-is_witnessed
returns-else-is_witnessed c = record { answers = c.any_covers.ensures.answers; keeps = c.any_covers.ensures.keeps }
