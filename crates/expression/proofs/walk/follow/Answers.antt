use Prim.Native.Nat.{◌+◌, ◌<◌, ◌≤◌}
use native.Mathlib.Omega.{arith}
use mathlib.Core.Path.{ap, ◌∙◌, subst}
use lib.ListN.{length, drop}
use Rattle.program.specs.Syntax.{Terms}
use Rattle.program.specs.Limits.{Mode}
use Rattle.image.specs.Parts.{TermsAt}
use Rattle.image.proofs.Readings.{result-at, one-reading}
use Rattle.patterns.specs.Search.{sequence}
use Rattle.overlap.specs.Steps.{is_overlap}
use Rattle.overlap.specs.Way.{Fails}
use Rattle.rows.proofs.Readings.{inside, at_part, next_fits}
use Rattle.expression.specs.Walk.{end_of}
use Rattle.expression.proofs.Walking.{following_first, following_ends, following_more, following_short, following_next}
use Rattle.expression.proofs.walk.follow.Goals as goal
use Rattle.expression.proofs.walk.follow.Goals.{After-term_len-right, In-loop-right}

-- The pattern at the place that the walk has come to, and the length of its first term.
there : (c : In-loop-right) → TermsAt Mode.pattern (drop c.loop-right.right c.args.b.now)
there c =
    let p = c.requires.0 in
    (c.loop-right.invariant p.rest p.fuel p.left p.swapped p.splits.first p.splits.second p.taken).absorbing.there

term-fits : (c : After-term_len-right) → (c.loop-right.right + c.term_len-right.result ≤ length c.args.b.now) × (0 < c.term_len-right.result)
term-fits c =
    let b = c.args.b.now in
    let i = c.loop-right.right in
    let p = c.requires.0 in
    let g = c.loop-right.invariant p.rest p.fuel p.left p.swapped p.splits.first p.splits.second p.taken in
    let x = at_part b i g.absorbing.there in
    let f = next_fits b i x (following_more g c.loop-right-test.true) (omega (arith, inside b i g.absorbing.there)) c.term_len-right.result (c.term_len-right.ensures Mode.pattern x) in
    (f.0, f.1)

pub loop-right-init : goal.loop-right-init
loop-right-init c = λ rest fuel left swapped x y k.
    following_first c.args.b.now c.args.out.now c.args.other fuel swapped x.terms y (end_of c.args.end left)
    (subst (λ (t : Terms). Fails c.args.b.now t (end_of c.args.end left) fuel c.args.other) (one-reading k.rest x).0 k.fails)

pub slice_bounds-x-count : goal.slice_bounds-x-count
slice_bounds-x-count c = omega (arith, inside c.args.b.now c.loop-right.right (there (goal.at.slice_bounds-x-count c).In-loop-right))

pub slice_bounds-x-start : goal.slice_bounds-x-start
slice_bounds-x-start c = omega (arith, inside c.args.b.now c.loop-right.right (there (goal.at.slice_bounds-x-start c).In-loop-right))

pub slice_bounds-x-end : goal.slice_bounds-x-end
slice_bounds-x-end c = omega arith

pub put_free_term-requires : goal.put_free_term-requires
put_free_term-requires c =
    let p = c.requires.0 in
    let g = c.loop-right.invariant p.rest p.fuel p.left p.swapped p.splits.first p.splits.second p.taken in
    let d = c.loop-right-test.true in
    (record { pattern = at_part c.args.b.now c.loop-right.right g.absorbing.there; short = following_short g d p.splits.short }, following_more g d)

pub term_len-right-requires : goal.term_len-right-requires
term_len-right-requires c = result-at (at_part c.args.b.now c.loop-right.right (there (goal.at.term_len-right-requires c).In-loop-right))

pub overflow_add-right : goal.overflow_add-right
overflow_add-right c = omega (arith, (term-fits (goal.at.overflow_add-right c).After-term_len-right).0)

pub loop-right-smaller : goal.loop-right-smaller
loop-right-smaller c = omega (arith, term-fits (goal.at.loop-right-smaller c).After-term_len-right)

pub loop-right-preserved : goal.loop-right-preserved
loop-right-preserved c = λ rest fuel left swapped x y k.
    let g = c.loop-right.invariant rest fuel left swapped x y k in
    let p = at_part c.args.b.now c.loop-right.right g.absorbing.there in
    following_next g c.loop-right-test.true c.term_len-right.result c.put_free_term.new.out (term-fits (goal.at.loop-right-preserved c).After-term_len-right).0 (c.term_len-right.ensures Mode.pattern p) (c.put_free_term.ensures p)

pub returns : goal.returns
returns c = λ rest fuel left swapped x y k.
    following_ends (c.loop-right.invariant rest fuel left swapped x y k) c.loop-right-test.false k.end (ap (λ (t : Terms). is_overlap (sequence left t k.end.terms).verdict) (one-reading x k.rest).0 ∙ k.meets)
