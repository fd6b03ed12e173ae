-- Code "without spans": every span zero, and so it is the same wherever it stood.
use Rattle.program.specs.Syntax.{Span, Head, Terms, nil, symbol, variable, bracket, call, block, Conditions, none, condition, Sentences, empty, sentence}

abbrev pub no_span : Span
no_span = record { start = 0; end = 0 }

abbrev pub no_head : Head
no_head = record { span = no_span }

unfoldable mutual
  pub spanless : Terms → Terms
  spanless nil = nil
  spanless (symbol s x r) = symbol no_span x (spanless r)
  spanless (variable s k n r) = variable no_span k n (spanless r)
  spanless (bracket s i r) = bracket no_span (spanless i) (spanless r)
  spanless (call s f a r) = call no_span f (spanless a) (spanless r)
  spanless (block s a b r) = block no_span (spanless a) (spanless_sentences b) (spanless r)

  pub spanless_conditions : Conditions → Conditions
  spanless_conditions none = none
  spanless_conditions (condition s r p c) = condition no_span (spanless r) (spanless p) (spanless_conditions c)

  pub spanless_sentences : Sentences → Sentences
  spanless_sentences empty = empty
  spanless_sentences (sentence h p c r b) = sentence no_head (spanless p) (spanless_conditions c) (spanless r) (spanless_sentences b)
