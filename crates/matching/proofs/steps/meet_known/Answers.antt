-- `matching::steps::meet_known` meets its contract: the value's front is the variable's value, or nothing fits. Assumes nothing.
use native.Mathlib.Omega.{arith}
use mathlib.Core.Path.{refl, sym, subst}
use Rattle.meaning.proofs.Every.{Opt}
use Rattle.meaning.proofs.Fronts.{rest_after}
use Rattle.meaning.proofs.Matches.{value-fits}
use Rattle.patterns.specs.Fresh.{Fits}
use Rattle.matching.proofs.Taking.{variable-at, level-here, value-here, front-short, known_failed, known_on}
use Rattle.matching.proofs.steps.meet_known.Goals as goal

pub slice_bounds-same_front-count : goal.slice_bounds-same_front-count
slice_bounds-same_front-count c = let b = c.read-held.ensures in omega (arith, c.requires.2.1.is.ordered, b.from, b.until)

pub slice_bounds-same_front-start : goal.slice_bounds-same_front-start
slice_bounds-same_front-start c = let b = c.read-held.ensures in omega (arith, c.requires.2.1.is.ordered, b.from, b.until)

pub slice_bounds-same_front-end : goal.slice_bounds-same_front-end
slice_bounds-same_front-end c = let h = c.requires.2 in omega (arith, h.1.is.within, c.read-held.ensures.until, h.2)

pub slice_bounds-same_front-count-2 : goal.slice_bounds-same_front-count-2
slice_bounds-same_front-count-2 c = omega (arith, c.requires.0.at.ordered)

pub slice_bounds-same_front-start-2 : goal.slice_bounds-same_front-start-2
slice_bounds-same_front-start-2 c = omega (arith, c.requires.0.at.ordered)

pub slice_bounds-same_front-end-2 : goal.slice_bounds-same_front-end-2
slice_bounds-same_front-end-2 c = omega (arith, c.requires.0.at.within)

pub same_front-requires : goal.same_front-requires
same_front-requires c = let b = c.read-held.ensures in (value-here c.requires.2.1.is (sym b.from) (sym b.until), level-here c.requires.0.at)

pub behind_variable-p-requires : goal.behind_variable-p-requires
behind_variable-p-requires c = variable-at c.requires.0

pub overflow_add-result : goal.overflow_add-result
unfolding value-here level-here
overflow_add-result c =
    let q = c.requires.0 in
    let u = c.requires.2.1 in
    let d = c.read-held.ensures in
    let f = c.in_ok-j.ensures (value-here u.is (sym d.from) (sym d.until)) (level-here q.at) in
    omega (arith, front-short q.at (rest_after u.value q.value) c.in_ok-j.j f, q.at.within)

pub returns-in_err-j : goal.returns-in_err-j
unfolding value-here level-here
returns-in_err-j c = λ q b top u w e.
    let d = c.read-held.ensures in
    let f = c.in_err-j.ensures (value-here u.is (sym d.from) (sym d.until)) (level-here q.at) in
    let k = subst (Opt (Fits q.kind)) e (value-fits q.kind q.name b w) in
    rw c.from_residual.ensures (known_failed q b u.value k e f)

pub returns : goal.returns
unfolding value-here level-here variable-at
returns c = λ q b top u w e.
    let d = c.read-held.ensures in
    let f = c.in_ok-j.ensures (value-here u.is (sym d.from) (sym d.until)) (level-here q.at) in
    let k = subst (Opt (Fits q.kind)) e (value-fits q.kind q.name b w) in
    (refl, known_on q b u.value k e c.behind_variable-p.result c.in_ok-j.j (c.behind_variable-p.ensures (variable-at q)).0 f)
