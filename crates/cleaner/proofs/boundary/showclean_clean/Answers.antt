-- `cleaner::boundary::showclean_clean` meets its contract. Assumes nothing.
use mathlib.Core.Path.{◌∙◌}
use Rattle.cleaner.proofs.Packing.{cleaned_fits, refusal-fits, cleaned_packed, refusal-packed}
use Rattle.cleaner.proofs.boundary.showclean_clean.Goals as goal

pub pack-requires : goal.pack-requires
pack-requires c = cleaned_fits c.clean.result c.in-Ok.l c.clean.ensures.fits c.in-Ok.is

pub pack_refusal-requires : goal.pack_refusal-requires
pack_refusal-requires c = refusal-fits c.clean.result c.in-Err.f c.clean.ensures.fits c.in-Err.is

pub returns-in-Ok-clause-answered : goal.returns-in-Ok-clause-answered
returns-in-Ok-clause-answered c = c.pack.ensures ∙ cleaned_packed c.clean.result _ c.in-Ok.l c.in-Ok.is c.clean.ensures.answered

pub returns-in-Err-clause-answered : goal.returns-in-Err-clause-answered
returns-in-Err-clause-answered c = c.pack_refusal.ensures ∙ refusal-packed c.clean.result _ c.in-Err.f c.in-Err.is c.clean.ensures.answered
