-- `rows::terms::flat_heads` meets its contract.
use native.Mathlib.Omega.{arith}
use mathlib.Core.Path.{◌∙◌, ap, sym, subst}
use Rattle.rows.specs.Cells.{both}
use Rattle.rows.specs.Rows.{read_at, HeadsTold}
use Rattle.rows.proofs.Flat.{first-head, second-head, not-both, heads-told}
use Rattle.rows.proofs.Lists.{place_in}
use Rattle.rows.proofs.terms.flat_heads.Goals as goal

pub slice_bounds-flat_verdict-count : goal.slice_bounds-flat_verdict-count
slice_bounds-flat_verdict-count c = omega (arith, place_in c.requires.first)

pub slice_bounds-flat_verdict-start : goal.slice_bounds-flat_verdict-start
slice_bounds-flat_verdict-start c = omega (arith, place_in c.requires.first)

pub slice_bounds-flat_verdict-count-2 : goal.slice_bounds-flat_verdict-count-2
slice_bounds-flat_verdict-count-2 c = omega (arith, place_in c.requires.second)

pub slice_bounds-flat_verdict-start-2 : goal.slice_bounds-flat_verdict-start-2
slice_bounds-flat_verdict-start-2 c = omega (arith, place_in c.requires.second)

pub flat_verdict-requires : goal.flat_verdict-requires
flat_verdict-requires c = (first-head c.requires, second-head c.requires, not-both c.requires)

pub returns : goal.returns
returns c = subst (HeadsTold (read_at c.args.b.now c.args.p) (read_at c.args.b.now c.args.q)) (sym (c.word_of.ensures ∙ ap (λ n. both n n) c.code_of-cell.ensures.0)) (heads-told c.requires c.flat_verdict.result c.flat_verdict.ensures)
