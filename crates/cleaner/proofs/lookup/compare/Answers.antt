-- `cleaner::lookup::compare` meets its contract. Assumes nothing.
use Rattle.cleaner.proofs.Sentences.{pattern_part, compared, fuel-left}
use Rattle.cleaner.proofs.lookup.compare.Goals as goal

pub patterns_overlap-f-requires : goal.patterns_overlap-f-requires
patterns_overlap-f-requires c =
    (pattern_part c.args.b.now c.args.i c.requires.0, pattern_part c.args.b.now c.args.j c.requires.1, c.requires.2)

pub overflow_sub-result : goal.overflow_sub-result
overflow_sub-result c =
    let p = pattern_part c.args.b.now c.args.i c.requires.0 in
    let q = pattern_part c.args.b.now c.args.j c.requires.1 in
    fuel-left p.terms q.terms c.patterns_overlap-f.result (c.patterns_overlap-f.ensures.answers p q)

pub returns : goal.returns
returns c = λ x y.
    let a = c.args in
    let p = pattern_part a.b.now a.i x in
    let q = pattern_part a.b.now a.j y in
    compared p.terms q.terms c.patterns_overlap-f.result (c.patterns_overlap-f.ensures.answers p q)
