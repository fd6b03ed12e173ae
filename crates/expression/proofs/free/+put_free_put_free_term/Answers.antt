use Prim.Native.Nat.{ℕ}
use native.Mathlib.Omega.{arith}
use mathlib.Core.Path.{◌≡◌, sym, ap}
use mathlib.Core.List.{List, [], ◌∷◌, ◌++◌}
use lib.ListN.{length}
use Rattle.program.specs.Limits.{Mode}
use Rattle.image.proofs.Readings.{result-at}
use Rattle.rows.proofs.Readings.{part_length, pattern-room, term_room}
use Rattle.expression.proofs.Freeing.{freeing_first, freeing_last, freeing_more, freeing_short, freeing_past, freeing_next}
use Rattle.program.specs.Bytes.{put32, put_span}
use Rattle.program.specs.Encode.{put_symbol}
use Rattle.patterns.specs.Marks.{zero_span}
use Rattle.patterns.specs.Meet.{letter}
use Rattle.text.proofs.Written.{both, same, count, written-nothing}
use Rattle.expression.specs.Free.{free_bytes}
use Rattle.expression.proofs.Heads.{first-absorbing, first-bracket, first_bracket_bytes, first_bracket_long, first-literal, first_literal_bytes, first_variable_bytes}
use Rattle.expression.proofs.free.+put_free_put_free_term.Goals as goal

-- The character A has thirteen bytes.
letter-long : (whole : List ℕ) → put_symbol zero_span letter [] ≡ whole → 13 ≡ length whole
unfolding put_symbol put_span put32 letter
letter-long whole e = ap length e

pub put_free-loop-i-init : goal.put_free-loop-i-init
put_free-loop-i-init t c = (omega arith, λ t. freeing_first c.args.out.now t)

pub put_free-bounds-s-i : goal.put_free-bounds-s-i
put_free-bounds-s-i t c = omega (arith, pattern-room (c.loop-i.invariant.1 c.requires.pattern).there, part_length c.args.s.now c.loop-i.i)

pub put_free-put_free_term-requires : goal.put_free-put_free_term-requires
put_free-put_free_term-requires t c =
    let l = part_length c.args.s.now c.loop-i.i in
    let w = c.loop-i.invariant.1 c.requires.pattern in
    (omega (arith, c.decreases, l), (record { pattern = w.there; short = freeing_short w c.requires.short }, freeing_more w c.loop-i-test.true))

pub put_free-term_len-i-requires : goal.put_free-term_len-i-requires
put_free-term_len-i-requires t c = result-at (c.loop-i.invariant.1 c.requires.pattern).there

pub put_free-overflow_add-i : goal.put_free-overflow_add-i
put_free-overflow_add-i t c =
    let w = c.loop-i.invariant.1 c.requires.pattern in
    omega (arith, (freeing_past w c.loop-i-test.true c.loop-i.invariant.0 c.term_len-i.result (c.term_len-i.ensures Mode.pattern w.there)).0)

pub put_free-loop-i-smaller : goal.put_free-loop-i-smaller
put_free-loop-i-smaller t c =
    let w = c.loop-i.invariant.1 c.requires.pattern in
    let p = freeing_past w c.loop-i-test.true c.loop-i.invariant.0 c.term_len-i.result (c.term_len-i.ensures Mode.pattern w.there) in
    omega (arith, p.0, p.1)

pub put_free-loop-i-preserved : goal.put_free-loop-i-preserved
put_free-loop-i-preserved t c =
    let x = c.loop-i.invariant.1 c.requires.pattern in (
      (freeing_past x c.loop-i-test.true c.loop-i.invariant.0 c.term_len-i.result (c.term_len-i.ensures Mode.pattern x.there)).0,
      λ y.
          let w = c.loop-i.invariant.1 y in
          freeing_next w c.term_len-i.result c.put_free_term.new.out (c.term_len-i.ensures Mode.pattern w.there) (c.put_free_term.ensures w.there),
    )

pub put_free-returns : goal.put_free-returns
put_free-returns t c = λ y. freeing_last (c.loop-i.invariant.1 y) (omega arith)

pub put_free_term-bounds-s-0 : goal.put_free_term-bounds-s-0
put_free_term-bounds-s-0 t c = pattern-room c.requires.0.pattern

pub put_free_term-put_mark-requires : goal.put_free_term-put_mark-requires
put_free_term-put_mark-requires t c =
    let p = c.requires in
    omega (arith, first_bracket_long p.0.pattern p.1 c.in-7.is, p.0.short)

pub put_free_term-slice_bounds-put_free-count : goal.put_free_term-slice_bounds-put_free-count
put_free_term-slice_bounds-put_free-count t c = omega (arith, term_room c.requires.0.pattern c.requires.1)

pub put_free_term-slice_bounds-put_free-start : goal.put_free_term-slice_bounds-put_free-start
put_free_term-slice_bounds-put_free-start t c = omega (arith, term_room c.requires.0.pattern c.requires.1)

pub put_free_term-slice_bounds-put_free-end : goal.put_free_term-slice_bounds-put_free-end
put_free_term-slice_bounds-put_free-end t c = omega arith

pub put_free_term-put_free-requires : goal.put_free_term-put_free-requires
unfolding put_span put32
put_free_term-put_free-requires t c =
    let p = c.requires in
    let l = part_length c.args.s.now 9 in
    let r = term_room p.0.pattern p.1 in (
      omega (arith, c.decreases, l, r),
      record {
        pattern = (first-bracket p.0.pattern p.1 c.in-7.is).inner;
        short = omega (arith, ap count c.put_mark.ensures, first_bracket_long p.0.pattern p.1 c.in-7.is, p.0.short);
      },
    )

pub put_free_term-put_byte-requires : goal.put_free_term-put_byte-requires
unfolding put_span put32
put_free_term-put_byte-requires t c =
    let p = c.requires in
    let x = first-bracket p.0.pattern p.1 c.in-7.is in
    omega (arith, ap count (c.put_free.ensures x.inner), ap count c.put_mark.ensures, first_bracket_long p.0.pattern p.1 c.in-7.is, p.0.short)

pub put_free_term-put_symbol-requires : goal.put_free_term-put_symbol-requires
put_free_term-put_symbol-requires t c =
    let p = c.requires in
    let x = first-literal p.0.pattern p.1 (omega arith) in
    record { first = x.symbol; short = omega (arith, ap length (first_literal_bytes p.0.pattern p.1 (omega arith)), p.0.short) }

pub put_free_term-put_letter-requires : goal.put_free_term-put_letter-requires
put_free_term-put_letter-requires t c =
    let p = c.requires in
    omega (arith, letter-long _ (first_variable_bytes p.0.pattern p.1 (λ e. omega (arith, e)) (λ l. omega (arith, l)) (λ e. omega (arith, e))), p.0.short)

pub put_free_term-returns-in-7 : goal.put_free_term-returns-in-7
put_free_term-returns-in-7 t c = λ y.
    let x = first-bracket y c.requires.1 c.in-7.is in
    let i = free_bytes x.inner.terms in
    let w = c.args.out.now in
    same w (first_bracket_bytes y c.requires.1 c.in-7.is) (both w (7 ∷ put_span zero_span []) (i ++ (15 ∷ [])) c.put_mark.ensures (both _ i (15 ∷ []) (c.put_free.ensures x.inner) c.put_byte.ensures))

pub put_free_term-returns-in-6 : goal.put_free_term-returns-in-6
put_free_term-returns-in-6 t c = λ y. same c.args.out.now (sym (first-absorbing y (omega arith))) (written-nothing c.args.out.now)

pub put_free_term-returns-in-0-to-3 : goal.put_free_term-returns-in-0-to-3
put_free_term-returns-in-0-to-3 t c = λ y.
    let x = first-literal y c.requires.1 (omega arith) in
    same c.args.out.now (first_literal_bytes y c.requires.1 (omega arith)) (c.put_symbol.ensures x.symbol)

pub put_free_term-returns-in_default : goal.put_free_term-returns-in_default
put_free_term-returns-in_default t c = λ y. same c.args.out.now (first_variable_bytes y c.requires.1 (λ e. omega (arith, e)) (λ l. omega (arith, l)) (λ e. omega (arith, e))) c.put_letter.ensures
