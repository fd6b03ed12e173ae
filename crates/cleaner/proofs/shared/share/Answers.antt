-- `cleaner::shared::share` meets its contract. Assumes nothing.
use native.Mathlib.Omega.{arith}
use Prim.Native.Nat.{ℕ}
use mathlib.Core.Path.{◌≡◌, ap, subst, ◌∙◌}
use mathlib.Core.List.{List, [], ◌++◌}
use lib.ListN.{length}
use Rattle.patterns.specs.Marks.{put_expression}
use Rattle.patterns.specs.Meet.{meet}
use Rattle.text.specs.Fill.{Emitted}
use Rattle.answers.specs.ExpressionAnswers.{ExpressionAnswer}
use Rattle.cleaner.specs.Shared.{leaving}
use Rattle.cleaner.proofs.Sentences.{pattern_part, fuel-left}
use Rattle.cleaner.proofs.Meetings.{counted, nothing_shared, too_short, shared_written}
use borrow.Author.Rules.{rules}
use Rattle.cleaner.proofs.shared.share.Goals as goal

pub sequence_overlap-f-requires : goal.sequence_overlap-f-requires
sequence_overlap-f-requires c =
    (pattern_part c.args.b.now c.args.i c.requires.0, pattern_part c.args.b.now c.args.j c.requires.1, c.requires.2, omega arith)

pub overflow_sub-spent : goal.overflow_sub-spent
overflow_sub-spent c =
    let x = pattern_part c.args.b.now c.args.i c.requires.0 in
    let y = pattern_part c.args.b.now c.args.j c.requires.1 in
    fuel-left x.terms y.terms c.sequence_overlap-f.result (c.sequence_overlap-f.ensures.answers x y)

pub returns-then-ne : goal.returns-then-ne
returns-then-ne c = λ x y.
    let u = pattern_part c.args.b.now c.args.i x in
    let v = pattern_part c.args.b.now c.args.j y in
    nothing_shared u.terms v.terms c.sequence_overlap-f.result (c.sequence_overlap-f.ensures.answers u v) c.args.out.now (search rules)

pub put_meeting-length-requires : goal.put_meeting-length-requires
put_meeting-length-requires c =
    (pattern_part c.args.b.now c.args.i c.requires.0, pattern_part c.args.b.now c.args.j c.requires.1, c.requires.2)

pub returns-then-out-length : goal.returns-then-out-length
returns-then-out-length c = λ x y.
    let u = pattern_part c.args.b.now c.args.i x in
    let v = pattern_part c.args.b.now c.args.j y in
    let k = counted (put_expression (meet u.terms v.terms) []) c.put_meeting-length.result c.put_meeting-length.new.out (c.put_meeting-length.ensures u v) in
    let lent = c.args.out.now in
    let same : c.put_meeting-length.new.out ++ lent ≡ lent = ap (λ (l : List ℕ). l ++ lent) k.1 in
    ap (λ (l : List ℕ). leaving c.at.result l) same
    ∙ ap (λ (r : ExpressionAnswer). leaving r lent) c.at.ensures
    ∙ too_short u.terms v.terms c.sequence_overlap-f.result (c.sequence_overlap-f.ensures.answers u v) lent (search rules) c.put_meeting-length.result k.0 (omega (arith, c.if-out-length.true, ap length same))

pub put_meeting-requires : goal.put_meeting-requires
put_meeting-requires c =
    (pattern_part c.args.b.now c.args.i c.requires.0, pattern_part c.args.b.now c.args.j c.requires.1, c.requires.2)

pub returns : goal.returns
returns c = λ x y.
    let u = pattern_part c.args.b.now c.args.i x in
    let v = pattern_part c.args.b.now c.args.j y in
    let k = counted (put_expression (meet u.terms v.terms) []) c.put_meeting-length.result c.put_meeting-length.new.out (c.put_meeting-length.ensures u v) in
    let lent = c.args.out.now in
    let same : c.put_meeting-length.new.out ++ lent ≡ lent = ap (λ (l : List ℕ). l ++ lent) k.1 in
    shared_written u.terms v.terms c.sequence_overlap-f.result (c.sequence_overlap-f.ensures.answers u v) lent (search rules) c.put_meeting-length.result c.put_meeting.result c.put_meeting.new.out k.0 (λ l. omega (arith, l, c.if-out-length.false, ap length same))
    (subst (λ (l : List ℕ). Emitted l 0 (put_expression (meet u.terms v.terms) []) c.put_meeting.result c.put_meeting.new.out) same (c.put_meeting.ensures u v))
