use native.Mathlib.Omega.{arith}
use mathlib.Core.Path.{◌≡◌, ap, ◌∙◌}
use Prim.Native.Nat.{◌*◌}
use lib.ListN.{length}
use Rattle.told.specs.Kept.{is_kept}
use Rattle.output.specs.Marks.{kept_count}
use Rattle.output.proofs.Ones.{words_turn, words_end, word_count, count_le, none_yet}
use Rattle.output.proofs.mark.count_ones.Goals as goal

pub loop-word-init : goal.loop-word-init
loop-word-init c = none_yet (is_kept c.args.marks.now)

pub overflow_add-total : goal.overflow_add-total
overflow_add-total c =
    let i = c.loop-word.word-index in
    let word = word_count c.args.marks.now i (omega (arith, c.type_inv.marks i)) in
    let below = count_le (is_kept c.args.marks.now) (32 * i) 0 in
    let few = count_le (is_kept c.args.marks.now) 32 (32 * i) in
    omega (arith, word, below, few, c.loop-word.invariant)

pub loop-word-preserved : goal.loop-word-preserved
loop-word-preserved c = words_turn c.args.marks.now c.loop-word.word-index c.loop-word.total (omega (arith, c.type_inv.marks c.loop-word.word-index)) c.loop-word.invariant

pub returns : goal.returns
returns c = λ fs h.
    let all : c.loop-word.word-index ≡ length c.args.marks.now = omega arith in
    c.loop-word.invariant ∙ (ap (λ k. kept_count (is_kept c.args.marks.now) 0 (32 * k)) all ∙ words_end c.args.marks.now fs h)
