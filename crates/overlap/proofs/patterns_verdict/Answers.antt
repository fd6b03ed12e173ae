-- `overlap::patterns_verdict` meets its contract.
use mathlib.Core.Path.{ap}
use Rattle.patterns.specs.declared.Found.{Found}
use Rattle.patterns.specs.Search.{patterns_overlap}
use Rattle.overlap.proofs.patterns_verdict.Goals as goal

pub patterns_overlap-found-requires : goal.patterns_overlap-found-requires
patterns_overlap-found-requires c = c.requires

pub shape_of-room : goal.shape_of-room
shape_of-room c = c.patterns_overlap-found.ensures.keeps

pub returns : goal.returns
unfolding patterns_overlap
returns c = record { answers = λ x y. ap (λ (r : Found). r.verdict) (c.patterns_overlap-found.ensures.answers x y); keeps = c.patterns_overlap-found.ensures.keeps }
