-- `report::decided::overlaps_at` meets its contract. Assumes nothing.
use Prim.Native.Nat.{◌<◌}
use mathlib.Core.Path.{sym, ◌∙◌}
use Rattle.told.specs.History.{is_there}
use Rattle.cleaning.specs.Indexed.{fell_of}
use Rattle.cleaning.proofs.Meeting.{site-below, sentence-below}
use Rattle.cleaning.proofs.Room.{used_same}
use Rattle.report.proofs.Verdicts.{overlaps_gone, overlaps-asked}
use Rattle.overlap.proofs.Verdicts.{same-overlap}
use Rattle.report.proofs.decided.overlaps_at.Goals as goal

pub site_there-requires : goal.site_there-requires
site_there-requires c =
    let below : c.args.i < c.args.plan.sites = let a = c.requires.0 in site-below a.indexed a.place a.function a.is c.args.i a.site a.at in
    let a = c.requires.0 in
    (below, sentence-below a.indexed a.place a.function a.is c.args.i below, (a.indexed.fits, a.indexed.small))

pub returns-else-site_there : goal.returns-else-site_there
returns-else-site_there c = record { answers = λ w f x y d e g l t. c.if-site_there.false ∙ overlaps_gone d f x e ((is_there (fell_of c.args.plan c.args.work.now) c.args.round)) t.terms c.args.i y g l (sym c.site_there.ensures ∙ c.if-site_there.false); keeps = used_same }

pub verdict_at-requires : goal.verdict_at-requires
verdict_at-requires c = c.requires

pub returns-then-site_there : goal.returns-then-site_there
returns-then-site_there c = record { answers = λ w f x y d e g l t. overlaps-asked d f x e ((is_there (fell_of c.args.plan c.args.work.now) c.args.round)) t.terms c.args.i y g l (sym c.site_there.ensures ∙ c.if-site_there.true) c.verdict_at.result (c.verdict_at.ensures.answers w f x y d e g l t) c.eq.result (c.eq.ensures ∙ same-overlap c.verdict_at.result); keeps = c.verdict_at.ensures.keeps }
