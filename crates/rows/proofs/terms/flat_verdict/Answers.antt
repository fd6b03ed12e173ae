-- `rows::terms::flat_verdict` meets its contract: each answer follows the two marks.
use Prim.Native.Nat.{◌<◌}
use native.Mathlib.Omega.{arith}
use mathlib.Core.Path.{sym, ap, ◌∙◌}
use lib.ListN.{length}
use Rattle.patterns.specs.Search.{literal_overlap}
use Rattle.rows.proofs.Heads.{head-room, literal-at, first_bracket_low, first_bracket_high, second_bracket_low, second_bracket_high, first-variable, second-variable, two_literals}
use Rattle.rows.proofs.terms.flat_verdict.Goals as goal
use Rattle.rows.proofs.terms.flat_verdict.Goals.{then-m-gt3-via-then-m-gt3, then-m-gt3-via-else-m-gt3+then-n-gt3}

pub bounds-left-0 : goal.bounds-left-0
bounds-left-0 c =
    let below : 9 < length c.args.left.now = head-room c.requires.0 in
    omega (arith, below)

pub bounds-right-0 : goal.bounds-right-0
bounds-right-0 c =
    let below : 9 < length c.args.right.now = head-room c.requires.1 in
    omega (arith, below)

pub returns-then-n-lt5 : goal.returns-then-n-lt5
returns-then-n-lt5 c = λ x y. sym (first_bracket_low x y c.if-m-eq7.true (omega (arith, c.if-n-lt5.true)))

pub returns-then-m-eq7 : goal.returns-then-m-eq7
returns-then-m-eq7 c = λ x y. sym (first_bracket_high x y c.if-m-eq7.true (c.requires.2 c.if-m-eq7.true) (omega (arith, c.if-n-lt5.false)))

pub returns-then-m-lt5 : goal.returns-then-m-lt5
returns-then-m-lt5 c = λ x y. sym (second_bracket_low x y c.if-n-eq7.true (omega (arith, c.if-m-lt5.true)))

pub returns-then-n-eq7 : goal.returns-then-n-eq7
returns-then-n-eq7 c = λ x y. sym (second_bracket_high x y c.if-n-eq7.true c.if-m-eq7.false (omega (arith, c.if-m-lt5.false)))

pub returns-then-m-gt3 : goal.returns-then-m-gt3
returns-then-m-gt3 c = λ x y. elim c.then-m-gt3.branch [
  | then-m-gt3-via-then-m-gt3 w ↦ sym (first-variable x y c.if-m-eq7.false c.if-n-eq7.false (omega (arith, w.if-m-gt3.true)))
  | then-m-gt3-via-else-m-gt3+then-n-gt3 w ↦ sym (second-variable x y c.if-m-eq7.false c.if-n-eq7.false (omega (arith, w.if-n-gt3.true)))
]

-- Both marks are those of literals.
pub same_symbol-requires : goal.same_symbol-requires
same_symbol-requires c = ((literal-at c.requires.0 c.if-m-gt3.false).symbol, (literal-at c.requires.1 c.if-n-gt3.false).symbol)

pub returns : goal.returns
returns c = λ x y.
    let p = literal-at x c.if-m-gt3.false in
    let q = literal-at y c.if-n-gt3.false in
    c.literal_overlap.ensures ∙ ap literal_overlap (c.same_symbol.ensures p.symbol q.symbol) ∙ sym (two_literals x y p q)
