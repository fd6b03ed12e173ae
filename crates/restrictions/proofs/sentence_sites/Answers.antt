-- `restrictions::sentence_sites` meets its contract. Assumes nothing.
use Prim.Native.Nat.{◌+◌, ◌≤◌}
use native.Mathlib.Omega.{arith}
use mathlib.Core.Path.{refl, sym}
use lib.ListN.{length}
use Rattle.symbols.proofs.Parts.{part_rest}
use Rattle.rows.proofs.Readings.{part_length}
use Rattle.restrictions.proofs.Appended.{appended-length}
use Rattle.restrictions.proofs.Readings.{sentence-there, sentence-within, place-fits, result-records, result-room, conditions-records, conditions-room, sentence-collected}
use Rattle.restrictions.proofs.sentence_sites.Goals as goal
use Rattle.restrictions.proofs.sentence_sites.Goals.{After-result_start, After-conditions_start}

pub slice_bounds-x-count : goal.slice_bounds-x-count
slice_bounds-x-count c = omega (arith, sentence-within c.args.b.now c.args.at c.requires.2.reading)

pub slice_bounds-x-start : goal.slice_bounds-x-start
slice_bounds-x-start c = omega (arith, sentence-within c.args.b.now c.args.at c.requires.2.reading)

pub slice_bounds-x-end : goal.slice_bounds-x-end
slice_bounds-x-end c = omega (arith, sentence-within c.args.b.now c.args.at c.requires.2.reading)

pub result_start-requires : goal.result_start-requires
result_start-requires c = sentence-there c.args.b.now c.args.at c.requires.2.reading

result_inside : (c : After-result_start) → c.args.at + c.result_start.result ≤ length c.args.b.now
result_inside c =
    let x = c.requires.2.reading in
    place-fits c.args.b.now c.args.at x (c.result_start.ensures (sentence-there c.args.b.now c.args.at x))

pub overflow_add-i : goal.overflow_add-i
overflow_add-i c = omega (arith, result_inside c, c.requires.0)

pub conditions_start-requires : goal.conditions_start-requires
conditions_start-requires c = sentence-there c.args.b.now c.args.at c.requires.2.reading

conditions_inside : (c : After-conditions_start) → c.args.at + c.conditions_start.result ≤ length c.args.b.now
conditions_inside c =
    let x = c.requires.2.reading in
    place-fits c.args.b.now c.args.at x (c.conditions_start.ensures (sentence-there c.args.b.now c.args.at x))

pub overflow_add-j : goal.overflow_add-j
overflow_add-j c = omega (arith, conditions_inside c, c.requires.0)

pub slice_bounds-collect_call_sites-count : goal.slice_bounds-collect_call_sites-count
slice_bounds-collect_call_sites-count c = omega (arith, result_inside (goal.at.slice_bounds-collect_call_sites-count c).After-result_start)

pub slice_bounds-collect_call_sites-start : goal.slice_bounds-collect_call_sites-start
slice_bounds-collect_call_sites-start c = omega (arith, result_inside (goal.at.slice_bounds-collect_call_sites-start c).After-result_start)

pub slice_bounds-collect_call_sites-end : goal.slice_bounds-collect_call_sites-end
slice_bounds-collect_call_sites-end c = omega (arith, result_inside (goal.at.slice_bounds-collect_call_sites-end c).After-result_start)

pub collect_call_sites-a-requires : goal.collect_call_sites-a-requires
collect_call_sites-a-requires c =
    let b = c.args.b.now in
    let x = c.requires.2.reading in
    let i = c.result_start in
    let h = i.ensures (sentence-there b c.args.at x) in
    (omega (arith, place-fits b c.args.at x h, c.requires.0, part_length b (c.args.at + i.result)), omega (arith, c.requires.1), record { reading = result-records b c.args.at x i.result h; room = result-room b c.args.at x i.result h c.args.n (length c.args.sites.now) c.requires.2.room })

pub slice_bounds-collect_call_sites-count-2 : goal.slice_bounds-collect_call_sites-count-2
slice_bounds-collect_call_sites-count-2 c = omega (arith, conditions_inside (goal.at.slice_bounds-collect_call_sites-count-2 c).After-conditions_start)

pub slice_bounds-collect_call_sites-start-2 : goal.slice_bounds-collect_call_sites-start-2
slice_bounds-collect_call_sites-start-2 c = omega (arith, conditions_inside (goal.at.slice_bounds-collect_call_sites-start-2 c).After-conditions_start)

pub slice_bounds-collect_call_sites-end-2 : goal.slice_bounds-collect_call_sites-end-2
slice_bounds-collect_call_sites-end-2 c = omega (arith, conditions_inside (goal.at.slice_bounds-collect_call_sites-end-2 c).After-conditions_start)

pub collect_call_sites-w-requires : goal.collect_call_sites-w-requires
collect_call_sites-w-requires c =
    let b = c.args.b.now in
    let x = c.requires.2.reading in
    let i = c.result_start in
    let h = i.ensures (sentence-there b c.args.at x) in
    let j = c.conditions_start in
    let q = j.ensures (sentence-there b c.args.at x) in
    let z = c.collect_call_sites-a.ensures b (result-records b c.args.at x i.result h) (sym (part_rest b (c.args.at + i.result))) in
    (omega (arith, place-fits b c.args.at x q, c.requires.0, part_length b (c.args.at + j.result)), omega (arith, c.requires.1), record { reading = conditions-records b c.args.at x i.result h z j.result q; room = omega (arith, conditions-room b c.args.at x i.result h z j.result q c.requires.2.room, z.appended.count) })

pub returns : goal.returns
returns c = λ x.
    let b = c.args.b.now in
    let i = c.result_start in
    let h = i.ensures (sentence-there b c.args.at x) in
    let j = c.conditions_start in
    let q = j.ensures (sentence-there b c.args.at x) in
    let z = c.collect_call_sites-a.ensures b (result-records b c.args.at x i.result h) (sym (part_rest b (c.args.at + i.result))) in
    let y = c.collect_call_sites-w.ensures b (conditions-records b c.args.at x i.result h z j.result q) (sym (part_rest b (c.args.at + j.result))) in
    sentence-collected b c.args.at x i.result h z j.result q y refl refl

pub overflow_add-result : goal.overflow_add-result
overflow_add-result c = omega (arith, (returns c c.requires.2.reading).fits, c.requires.0)

pub shape_of-sites : goal.shape_of-sites
shape_of-sites c = appended-length (returns c c.requires.2.reading).appended
