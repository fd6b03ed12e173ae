-- `values::tokens::Token::same` meets its contract. Assumes nothing.
use native.Mathlib.Omega.{arith}
use mathlib.Core.Path.{sym, ◌∙◌}
use Rattle.values.proofs.Sizes.{token-read}
use Rattle.values.proofs.Bytes.{room, marks_differ, brackets, symbol-here, symbols_same}
use Rattle.values.proofs.tokens.Token.same.Goals as goal

pub bounds-a-0 : goal.bounds-a-0
bounds-a-0 c = let r = room (token-read c.args.self.bytes.now c.args.self.there) in omega (arith, r.0, r.1)

pub bounds-b-0 : goal.bounds-b-0
bounds-b-0 c = let r = room (token-read c.args.other.bytes.now c.args.other.there) in omega (arith, r.0, r.1)

pub returns-then-m-b : goal.returns-then-m-b
returns-then-m-b c = λ x y. sym (marks_differ (λ i. grind arith) (λ i. grind arith) x y c.if-m-b.true)

pub returns-in-7 : goal.returns-in-7
returns-in-7 c = λ x y. sym (brackets (λ i. grind arith) (λ i. grind arith) x y c.if-m-b.false c.in-7.is)

pub same_symbol-requires : goal.same_symbol-requires
same_symbol-requires c = ((symbol-here (λ i. grind arith) (token-read c.args.self.bytes.now c.args.self.there) (λ e. grind (arith, e)) (λ e. grind (arith, e))).0, (symbol-here (λ i. grind arith) (token-read c.args.other.bytes.now c.args.other.there) (λ e. grind (arith, e)) (λ e. grind (arith, e))).0)

pub returns-in_default : goal.returns-in_default
returns-in_default c = λ x y.
    let p = symbol-here (λ i. grind arith) x (λ e. grind (arith, e)) (λ e. grind (arith, e)) in
    let q = symbol-here (λ i. grind arith) y (λ e. grind (arith, e)) (λ e. grind (arith, e)) in
    c.same_symbol.ensures p.0 q.0 ∙ symbols_same x.reading.token y.reading.token p.0.symbol q.0.symbol p.1 q.1
