use Rattle.std.proofs.Common.{◌+◌, ◌*◌, ◌-◌, ◌<◌, ◌≤◌, length}
use Rattle.program.specs.Limits.{Mode}
use Rattle.image.specs.Parts.{TermsAt}
use Rattle.text.specs.Fill.{limit}
use Rattle.text.proofs.Formatting.{Writing}
use Rattle.text.proofs.writer.Writer.+format_term_format_terms.Given as goal

abbrev pub decreases-format_term : goal.decreases-format_term
decreases-format_term l = 2 * length l.s.now

abbrev pub decreases-format_terms : goal.decreases-format_terms
decreases-format_terms l = 2 * length l.s.now + 1

abbrev pub invariant-format_terms-loop-i : goal.invariant-format_terms-loop-i
invariant-format_terms-loop-i l =
    (l.i < length l.s) × (l.self.filled + (length l.s - l.i) ≤ limit) × ((t : TermsAt Mode.pattern l.s) → Writing l.initial.self t l.i l.self)

abbrev pub decreases-format_terms-loop-i : goal.decreases-format_terms-loop-i
decreases-format_terms-loop-i l = length l.s - l.i
