-- `values::levels::term_end` meets its contract. Assumes nothing.
use native.Mathlib.Omega.{arith}
use Rattle.symbols.proofs.Parts.{part_rest}
use Rattle.values.proofs.Sizes.{token-told}
use Rattle.values.proofs.Expressions.{term_there, term_no_close, inside_at, bracket-room, bracket-short, bracket-length, symbol-length, token-first}
use Rattle.values.proofs.levels.term_end.Goals as goal

pub bounds-s-0 : goal.bounds-s-0
bounds-s-0 c = let v = c.requires in omega (arith, term_there v.0 v.1)

pub slice_bounds-value_len-count : goal.slice_bounds-value_len-count
slice_bounds-value_len-count c = let v = c.requires in omega (arith, bracket-room v.0 (term_there v.0 v.1) c.if-s-eq7.true)

pub slice_bounds-value_len-start : goal.slice_bounds-value_len-start
slice_bounds-value_len-start c = let v = c.requires in omega (arith, bracket-room v.0 (term_there v.0 v.1) c.if-s-eq7.true)

pub value_len-requires : goal.value_len-requires
value_len-requires c = let v = c.requires in rw part_rest (inside_at v.0 (term_there v.0 v.1) c.if-s-eq7.true)

pub overflow_add-result : goal.overflow_add-result
overflow_add-result c =
    let v = c.requires in
    let h = term_there v.0 v.1 in
    let f = c.if-s-eq7.true in
    let e = (rw part_rest at c.value_len.ensures) (inside_at v.0 h f) in
    omega (arith, bracket-short v.0 h f c.value_len.result e)

pub returns-then-s-eq7 : goal.returns-then-s-eq7
returns-then-s-eq7 c = λ v.
    let w = c.requires in
    let h = term_there w.0 w.1 in
    let f = c.if-s-eq7.true in
    let e = (rw part_rest at c.value_len.ensures) (inside_at v h f) in
    bracket-length v h f c.value_len.result e.bytes

pub invariant_of-size : goal.invariant_of-size
invariant_of-size c = let v = c.requires in record { there = token-told c.args.s.now (token-first v.0 (term_there v.0 v.1)) }

pub returns : goal.returns
returns c = λ v.
    let w = c.requires in
    let h = term_there w.0 w.1 in
    let t = token-first v h in
    symbol-length v h c.if-s-eq7.false (term_no_close w.0 w.1) t c.size.result (c.size.ensures t)
