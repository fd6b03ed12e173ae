-- `configuration::same_span` meets its contract. Assumes nothing.
use mathlib.Core.Path.{◌∙◌}
use Rattle.configuration.proofs.Spans.{span-room, spans_compared}
use Rattle.configuration.proofs.same_span.Goals as goal

pub span_at-x-requires : goal.span_at-x-requires
span_at-x-requires c = span-room c.requires.0

pub span_at-y-requires : goal.span_at-y-requires
span_at-y-requires c = span-room c.requires.1

pub returns : goal.returns
returns c = λ x y.
    let r = c.span_at-x in
    let s = c.span_at-y in
    c.eq.ensures ∙ spans_compared x y (record { start = r.result.start; end = r.result.end }) (record { start = s.result.start; end = s.result.end }) r.ensures s.ensures
