-- `index::links::callee_function` meets its contract. Assumes nothing.
use native.Mathlib.Omega.{arith}
use mathlib.Core.Path.{subst}
use Rattle.program.specs.Syntax.{Name}
use Rattle.index.specs.First.{FirstFrom}
use Rattle.index.specs.Bucket.{is_named}
use Rattle.index.proofs.Sites.{call-within, call_part}
use Rattle.index.proofs.links.callee_function.Goals as goal

pub slice_bounds-call_name-count : goal.slice_bounds-call_name-count
slice_bounds-call_name-count c = omega (arith, call-within c.args.b.now c.args.p c.requires.2)

pub slice_bounds-call_name-start : goal.slice_bounds-call_name-start
slice_bounds-call_name-start c = omega (arith, call-within c.args.b.now c.args.p c.requires.2)

pub call_name-requires : goal.call_name-requires
call_name-requires c = call_part c.args.b.now c.args.p c.requires.2

pub returns : goal.returns
returns c = λ fs t d x. subst (λ (v : Name). FirstFrom (is_named v) 0 fs c.function_named.result) (c.call_name.ensures (call_part c.args.b.now c.args.p x)) (c.function_named.ensures fs t d)
