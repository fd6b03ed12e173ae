-- `report::decided::stays_open` meets its contract. Assumes nothing.
use native.Mathlib.Omega.{arith}
use mathlib.Core.Path.{sym, ◌∙◌}
use Rattle.told.specs.History.{is_there, after_all}
use Rattle.told.specs.Numbered.{sites_of}
use Rattle.cleaning.specs.Indexed.{fell_of}
use Rattle.cleaning.proofs.Room.{used_same}
use Rattle.report.proofs.Places.{owned_below}
use Rattle.report.proofs.OpenNotes.{open_gone, open_asked}
use Rattle.report.proofs.decided.stays_open.Goals as goal

pub is_there-requires : goal.is_there-requires
is_there-requires c = let p = c.requires in (owned_below p.readable p.owns, (omega (arith, p.readable.indexed.fits), p.readable.indexed.small))

pub returns-else-is_there : goal.returns-else-is_there
returns-else-is_there c = record { answers = λ w x y d o. c.if-is_there.false ∙ open_gone ((is_there (fell_of c.args.plan c.args.work.now) after_all)) (sites_of w) x c.args.s y (sym c.is_there.ensures ∙ c.if-is_there.false); keeps = used_same }

pub is_decided-requires : goal.is_decided-requires
is_decided-requires c = c.requires

pub returns-then-is_there : goal.returns-then-is_there
returns-then-is_there c = record { answers = λ w x y r o. open_asked ((is_there (fell_of c.args.plan c.args.work.now) after_all)) (sites_of w) x c.args.s y (sym c.is_there.ensures ∙ c.if-is_there.true) c.is_decided.result (c.is_decided.ensures.answers w x y r o); keeps = c.is_decided.ensures.keeps }
