-- `configuration::same_token` meets its contract. Assumes nothing.
use native.Mathlib.Omega.{arith}
use mathlib.Core.Path.{◌∙◌, sym}
use Rattle.configuration.proofs.Tokens.{pattern-room, span-at, second_open, token_differs, closes_same, span_differs, spans_decide, literals-here, literal-one, literal-two}
use Rattle.configuration.proofs.same_token.Goals as goal

pub bounds-a-0 : goal.bounds-a-0
bounds-a-0 c = pattern-room c.requires.0

pub bounds-b-0 : goal.bounds-b-0
bounds-b-0 c = pattern-room c.requires.1

pub returns-then-m-b : goal.returns-then-m-b
returns-then-m-b c = λ p q. sym (token_differs p q c.if-m-b.true)

pub returns-in-15 : goal.returns-in-15
returns-in-15 c = λ p q. sym (closes_same p q c.in-15.is c.if-m-b.false)

pub same_span-requires : goal.same_span-requires
same_span-requires c = (span-at c.requires.0 (λ e. omega arith), span-at c.requires.1 (second_open c.requires.0 c.requires.1 c.if-m-b.false (λ e. omega arith)))

pub same_spelling-requires : goal.same_spelling-requires
same_spelling-requires c = (literal-one c.requires.0 c.requires.1 c.if-m-b.false (omega arith), literal-two c.requires.0 c.requires.1 c.if-m-b.false (omega arith), c.if-m-b.false)

pub returns-then-same_span : goal.returns-then-same_span
returns-then-same_span c = λ p q.
    c.same_spelling.ensures (literal-one p q c.if-m-b.false (omega arith)) (literal-two p q c.if-m-b.false (omega arith))
    ∙ sym ((literals-here p q c.if-m-b.false (omega arith)).same (sym (c.same_span.ensures (span-at p (λ e. omega arith)) (span-at q (second_open p q c.if-m-b.false (λ e. omega arith)))) ∙ c.if-same_span.true))

pub returns-else-same_span : goal.returns-else-same_span
returns-else-same_span c = λ p q.
    c.if-same_span.false
    ∙ sym (span_differs p q c.if-m-b.false (λ e. omega arith) (sym (c.same_span.ensures (span-at p (λ e. omega arith)) (span-at q (second_open p q c.if-m-b.false (λ e. omega arith)))) ∙ c.if-same_span.false))

pub same_span-requires-in_default : goal.same_span-requires-in_default
same_span-requires-in_default c = (span-at c.requires.0 (λ e. omega arith), span-at c.requires.1 (second_open c.requires.0 c.requires.1 c.if-m-b.false (λ e. omega arith)))

pub returns-in_default : goal.returns-in_default
returns-in_default c = λ p q.
    c.same_span-in_default.ensures (span-at p (λ e. omega arith)) (span-at q (second_open p q c.if-m-b.false (λ e. omega arith)))
    ∙ spans_decide p q c.if-m-b.false (λ e. omega arith) (omega arith)
