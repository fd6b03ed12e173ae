-- `matching::back::take_more` meets its contract. Assumes nothing.
use native.Mathlib.Omega.{arith}
use mathlib.Core.Path.{sym}
use Rattle.matching.proofs.Extending.{more-short, level_of, variable_of, took_so}
use Rattle.matching.proofs.back.take_more.Goals as goal

pub read-b-requires : goal.read-b-requires
read-b-requires c = let h = c.requires.1 in omega (arith, h.3.is.run.0, h.5)

pub slice_bounds-term_end-count : goal.slice_bounds-term_end-count
slice_bounds-term_end-count c = let b = c.read-b.ensures in omega (arith, c.requires.1.3.is.here.ordered, b.until, b.end)

pub slice_bounds-term_end-start : goal.slice_bounds-term_end-start
slice_bounds-term_end-start c = let b = c.read-b.ensures in omega (arith, c.requires.1.3.is.here.ordered, b.until, b.end)

pub slice_bounds-term_end-end : goal.slice_bounds-term_end-end
slice_bounds-term_end-end c = let h = c.requires.1 in omega (arith, h.3.is.here.within, c.read-b.ensures.end, h.3.is.run.0, h.4, h.5)

pub term_end-requires : goal.term_end-requires
unfolding level_of
term_end-requires c = let n = c.requires.1.3.is in let b = c.read-b.ensures in (level_of n (sym b.until) (sym b.end), n.some_left)

pub overflow_add-v : goal.overflow_add-v
unfolding level_of
overflow_add-v c =
    let h = c.requires.1 in
    let n = h.3.is in
    let b = c.read-b.ensures in
    let s = c.term_end.ensures (level_of n (sym b.until) (sym b.end)) in
    omega (arith, more-short n h.5 h.4 c.term_end.result s, b.until, n.here.within, h.4)

pub extend_binding-requires : goal.extend_binding-requires
extend_binding-requires c = let h = c.requires in omega (arith, h.1.3.is.run.0, h.1.5, h.0)

pub behind_variable-p-requires : goal.behind_variable-p-requires
behind_variable-p-requires c = variable_of c.requires.1.3.is (sym c.read-b.ensures.place)

pub returns : goal.returns
unfolding level_of
returns c = λ rest cs top frame stop h n.
    let b = c.read-b.ensures in
    took_so n h.1 h.0 h.2 c.term_end.result (sym b.place) (sym b.until) (sym b.end) (c.term_end.ensures (level_of n (sym b.until) (sym b.end))) c.extend_binding.ensures c.behind_variable-p.ensures
