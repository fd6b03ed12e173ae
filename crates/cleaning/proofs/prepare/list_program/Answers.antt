-- `cleaning::prepare::list_program` meets its contract. Assumes nothing.
use Prim.Native.Nat.{ℕ, ◌+◌, ◌-◌, ◌*◌, ◌/◌, ◌<◌, ◌≤◌}
use native.Mathlib.Omega.{arith}
use mathlib.Core.Path.{◌∙◌}
use mathlib.Core.List.{List}
use lib.ListN.{length}
use borrow.Author.Rules.{rules}
use borrow.Rule.Slice.PartMut.{post_of}
use Rattle.cleaning.specs.Prepared.{SomeProgram}
use Rattle.cleaning.proofs.ListedProgram.{body-room, functions-room, calls-within, sites-room, program-listed}
use Rattle.cleaning.proofs.prepare.list_program.Goals as goal

-- There is room for what is listed of functions and sentences, and to file the functions.
columns_fit : {b m : List ℕ} {from functions sentences : ℕ} → SomeProgram b from m functions sentences → (3 * functions + 2 * sentences + (sentences + 31) / 32 < length m) × (length m ≤ 8192)
columns_fit p = (omega (arith, body-room p.enough p.body p.functions_are p.sentences_are), p.enough.small)

pub overflow_mul-functions : goal.overflow_mul-functions
overflow_mul-functions c = omega (arith, columns_fit c.requires)

pub list_functions-requires : goal.list_functions-requires
list_functions-requires c =
    let p = c.requires in
    (omega (arith, p.body.short), p.body.within, functions-room p.enough p.body p.functions_are p.sentences_are _ c.fill.ensures.others.length, p.body.reading)

pub overflow_mul-calls : goal.overflow_mul-calls
overflow_mul-calls c = omega (arith, columns_fit c.requires)

pub overflow_mul-calls-2 : goal.overflow_mul-calls-2
overflow_mul-calls-2 c = omega (arith, columns_fit c.requires)

pub overflow_add-calls : goal.overflow_add-calls
overflow_add-calls c = omega (arith, columns_fit c.requires)

pub overflow_add-calls-2 : goal.overflow_add-calls-2
overflow_add-calls-2 c = omega (arith, columns_fit c.requires)

pub overflow_add-calls-3 : goal.overflow_add-calls-3
overflow_add-calls-3 c = omega (arith, columns_fit c.requires)

pub offset_bounds-work-calls : goal.offset_bounds-work-calls
offset_bounds-work-calls c = omega (arith, columns_fit c.requires)

pub slice_bounds-program_sites-count : goal.slice_bounds-program_sites-count
slice_bounds-program_sites-count c =
    let p = c.requires in
    calls-within p.enough p.body p.functions_are p.sentences_are c.list_functions.new.work ((c.list_functions.ensures.others p.body.reading).0 ∙ c.fill.ensures.others.length)

pub slice_bounds-program_sites-start : goal.slice_bounds-program_sites-start
slice_bounds-program_sites-start c = slice_bounds-program_sites-count c

pub program_sites-requires : goal.program_sites-requires
program_sites-requires c =
    let p = c.requires in
    (omega (arith, p.body.short), p.body.within, sites-room p.enough p.body p.functions_are p.sentences_are c.list_functions.new.work ((c.list_functions.ensures.others p.body.reading).0 ∙ c.fill.ensures.others.length))

pub returns : goal.returns
returns c = λ w d f s.
    let p = c.requires in
    let m₂ = c.list_functions.new.work in
    let k = 2 * c.args.functions + 2 * c.args.sentences + (c.args.sentences + 31) / 32 in
    program-listed p.enough d f s m₂ ((c.list_functions.ensures.others p.body.reading).0 ∙ c.fill.ensures.others.length) c.fill.new.work c.program_sites.new.sites (post_of k (length m₂ - k) m₂) c.fill.ensures.filled c.list_functions.ensures.functions c.list_functions.ensures.sentences c.list_functions.ensures.fresh c.list_functions.ensures.others c.program_sites.ensures (search rules)
