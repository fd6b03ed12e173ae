use Rattle.std.proofs.Common.{◌+◌, [], ◌∷◌, ◌++◌, get_or, ap, sym, ◌∙◌, arith}
use Rattle.rows.proofs.Readings.{part_length, pattern-room}
use Rattle.program.specs.Limits.{Mode}
use Rattle.image.proofs.Readings.{result-at}
use Rattle.meaning.specs.Text.{format_terms}
use Rattle.text.proofs.Formatting.{bracket_in, symbol_in, variable_in, terms_text_fits, writing-first, writing-next, writing-last, past, part_first, gap_before-length}
use Rattle.text.proofs.Written.{both, same, count}
use Rattle.text.proofs.writer.Writer.+format_term_format_terms.Goals as goal

pub format_term-bounds-s-0 : goal.format_term-bounds-s-0
format_term-bounds-s-0 t c = pattern-room c.requires.0

pub format_term-slice_bounds-format_terms-count : goal.format_term-slice_bounds-format_terms-count
format_term-slice_bounds-format_terms-count t c = omega (arith, (bracket_in c.requires.0 c.in-7.is).room)

pub format_term-slice_bounds-format_terms-start : goal.format_term-slice_bounds-format_terms-start
format_term-slice_bounds-format_terms-start t c = omega (arith, (bracket_in c.requires.0 c.in-7.is).room)

pub format_term-format_terms-requires : goal.format_term-format_terms-requires
format_term-format_terms-requires t c =
    let x = bracket_in c.requires.0 c.in-7.is in
    let l = part_length c.args.s.now 9 in
    (omega (arith, c.decreases, l, x.room), (x.inside, omega (arith, ap count c.put_byte.ensures, l, x.room)))

pub format_term-put_byte-requires-in-7 : goal.format_term-put_byte-requires-in-7
format_term-put_byte-requires-in-7 t c =
    let x = bracket_in c.requires.0 c.in-7.is in
    omega (arith, ap count c.put_byte.ensures, ap count (c.format_terms.ensures x.inside), terms_text_fits x.inside, part_length c.args.s.now 9, x.room)

pub format_term-format_symbol-requires : goal.format_term-format_symbol-requires
format_term-format_symbol-requires t c = ((symbol_in c.requires.0 (omega arith)).first, c.requires.2)

pub format_term-format_variable-requires : goal.format_term-format_variable-requires
format_term-format_variable-requires t c = ((variable_in c.requires.0 c.requires.1 (omega arith) (omega arith)).first, c.requires.2)

pub format_term-returns-in-7 : goal.format_term-returns-in-7
format_term-returns-in-7 t c = λ y.
    let x = bracket_in y c.in-7.is in
    let i = format_terms x.inside.terms in
    let w = c.args.self.now in
    same w x.text (both w (40 ∷ []) (i ++ (41 ∷ [])) c.put_byte.ensures (both _ i (41 ∷ []) (c.format_terms.ensures x.inside) c.put_byte-in-7.ensures))

pub format_term-returns-in-0-to-3 : goal.format_term-returns-in-0-to-3
format_term-returns-in-0-to-3 t c = λ y.
    let x = symbol_in y (omega arith) in
    same c.args.self.now x.text (c.format_symbol.ensures x.first)

pub format_term-returns-in_default : goal.format_term-returns-in_default
format_term-returns-in_default t c = λ y.
    let x = variable_in y c.requires.1 (omega arith) (omega arith) in
    same c.args.self.now x.text (c.format_variable.ensures x.first)

pub format_terms-loop-i-init : goal.format_terms-loop-i-init
format_terms-loop-i-init t c = (pattern-room c.requires.0, omega arith, λ x. writing-first c.args.self.now x)

pub format_terms-format_term-requires : goal.format_terms-format_term-requires
format_terms-format_term-requires t c =
    let s = c.args.s.now in
    let i = c.loop-i.i in
    let l = part_length s i in
    (omega (arith, c.decreases, l), ((c.loop-i.invariant.2 c.requires.0).there, (λ e. c.loop-i-test.true (sym (part_first s i) ∙ e)), omega (arith, c.loop-i.invariant.1, l)))

pub format_terms-term_len-i-requires : goal.format_terms-term_len-i-requires
format_terms-term_len-i-requires t c = result-at (c.loop-i.invariant.2 c.requires.0).there

pub format_terms-overflow_add-i : goal.format_terms-overflow_add-i
format_terms-overflow_add-i t c =
    let w = c.loop-i.invariant.2 c.requires.0 in
    let p = past w c.loop-i-test.true c.loop-i.invariant.0 c.loop-i.invariant.1 c.term_len-i.result c.format_term.new.self (c.term_len-i.ensures Mode.pattern w.there) (c.format_term.ensures w.there) in
    omega (arith, p.more)

pub format_terms-bounds-s-i-in-loop-i : goal.format_terms-bounds-s-i-in-loop-i
format_terms-bounds-s-i-in-loop-i t c =
    let w = c.loop-i.invariant.2 c.requires.0 in
    let p = past w c.loop-i-test.true c.loop-i.invariant.0 c.loop-i.invariant.1 c.term_len-i.result c.format_term.new.self (c.term_len-i.ensures Mode.pattern w.there) (c.format_term.ensures w.there) in
    p.more

pub format_terms-put_gap-requires : goal.format_terms-put_gap-requires
format_terms-put_gap-requires t c =
    let w = c.loop-i.invariant.2 c.requires.0 in
    let p = past w c.loop-i-test.true c.loop-i.invariant.0 c.loop-i.invariant.1 c.term_len-i.result c.format_term.new.self (c.term_len-i.ensures Mode.pattern w.there) (c.format_term.ensures w.there) in
    omega (arith, p.short)

pub format_terms-loop-i-smaller : goal.format_terms-loop-i-smaller
format_terms-loop-i-smaller t c =
    let w = c.loop-i.invariant.2 c.requires.0 in
    let p = past w c.loop-i-test.true c.loop-i.invariant.0 c.loop-i.invariant.1 c.term_len-i.result c.format_term.new.self (c.term_len-i.ensures Mode.pattern w.there) (c.format_term.ensures w.there) in
    omega (arith, p.more, p.on)

pub format_terms-loop-i-preserved : goal.format_terms-loop-i-preserved
format_terms-loop-i-preserved t c =
    let w = c.loop-i.invariant.2 c.requires.0 in
    let p = past w c.loop-i-test.true c.loop-i.invariant.0 c.loop-i.invariant.1 c.term_len-i.result c.format_term.new.self (c.term_len-i.ensures Mode.pattern w.there) (c.format_term.ensures w.there) in
    let n = c.term_len-i in (
      p.more,
      omega (arith, p.short, ap count c.put_gap.ensures, gap_before-length (get_or c.args.s.now (c.loop-i.i + n.result) 0)),
      λ y. let z = c.loop-i.invariant.2 y in writing-next z n.result c.format_term.new.self c.put_gap.new.self (n.ensures Mode.pattern z.there) (c.format_term.ensures z.there) c.put_gap.ensures,
    )

pub format_terms-returns : goal.format_terms-returns
format_terms-returns t c = λ y. writing-last (c.loop-i.invariant.2 y) (omega arith)
