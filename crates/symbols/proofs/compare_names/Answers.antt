-- `symbols::compare_names` meets its contract: the pairs before the first that differ are equal.
use Rattle.std.proofs.Common.{rules, tests}
use Rattle.std.proofs.lemmas.Iterator.{YieldsList-from_slice, YieldsList-from_zip}
use Rattle.std.proofs.lemmas.Iterator.Search.{position_from_yields_List}
use Rattle.patterns.proofs.Equal.{lengths_differ}
use Rattle.symbols.proofs.Compared.{differ, compared_so}
use Rattle.symbols.proofs.compare_names.Goals as goal

pub returns-then-a-b : goal.returns-then-a-b
returns-then-a-b c = let s = c.args in lengths_differ s.a.now s.b.now c.if-a-b.true

pub returns-in-Some : goal.returns-in-Some
returns-in-Some c =
    let s = c.args in
    rw c.in-Some.is at (compared_so s.a.now s.b.now c.position.result c.if-a-b.false (position_from_yields_List {s = c.zip.result} differ c.position.new.self _ c.position.result c.position.ensures.ran (YieldsList-from_zip {s = c.zip.result} (YieldsList-from_slice s.a.now cc) (YieldsList-from_slice s.b.now cc)) (λ x b q k. search (rules, tests))))

pub returns-in-None : goal.returns-in-None
returns-in-None c =
    let s = c.args in
    rw c.in-None.is at (compared_so s.a.now s.b.now c.position.result c.if-a-b.false (position_from_yields_List {s = c.zip.result} differ c.position.new.self _ c.position.result c.position.ensures.ran (YieldsList-from_zip {s = c.zip.result} (YieldsList-from_slice s.a.now cc) (YieldsList-from_slice s.b.now cc)) (λ x b q k. search (rules, tests))))
