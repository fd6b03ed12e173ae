use native.Mathlib.Omega.{arith}
use mathlib.Core.Path.{◌≡◌, refl, sym, ap, subst, ◌∙◌}
use mathlib.Core.List.{List}
use Prim.Native.Nat.{ℕ, ◌+◌, ◌-◌, ◌≤◌, ◌<◌}
use lib.ListN.{length, take, drop, length-drop}
use Rattle.image.specs.Parts.{Passes}
use Rattle.symbols.proofs.Parts.{part_rest}
use Rattle.told.specs.Kept.{is_kept}
use Rattle.output.specs.Items.{Item, after}
use Rattle.output.proofs.Walking.{Does, writes_start, writes_turn, writes_end, item_here, item_some, item_within, written_le, ones_le}
use Rattle.output.proofs.writer.write_functions.Goals as goal
use Rattle.output.proofs.writer.write_functions.Goals.{After-item_len-w}

part-length : (b : List ℕ) (p : ℕ) → length (take (length b - p) (drop p b)) ≡ length b - p
part-length b p = ap length (part_rest b p) ∙ length-drop p b

-- The item's length, of what stands in the body at p.
item-passes : (c : After-item_len-w) (x : Item (drop c.loop-p.p c.args.body.now)) → Passes (drop c.loop-p.p c.args.body.now) c.item_len-w.result (after (drop c.loop-p.p c.args.body.now) x)
item-passes c = subst (λ (s : List ℕ). (x : Item s) → Passes s c.item_len-w.result (after s x)) (part_rest c.args.body.now c.loop-p.p) c.item_len-w.ensures

item-fits : (c : After-item_len-w) → (0 < c.item_len-w.result) × (c.loop-p.p + c.item_len-w.result ≤ length c.args.body.now)
item-fits c =
    let b = c.args.body.now in
    let o = c.args.output.now in
    let keep = is_kept c.args.marks.now in
    let l = c.loop-p in
    let fs = c.requires.2.functions in
    let y = l.invariant.5 c.requires.2 in (
      item_some b o c.args.from keep fs l.p l.q l.i l.sentences l.output c.loop-p-test.true y c.item_len-w.result (item-passes c),
      item_within b o c.args.from keep fs l.p l.q l.i l.sentences l.output c.loop-p-test.true y c.item_len-w.result (item-passes c),
    )

pub loop-p-init : goal.loop-p-init
loop-p-init c = (c.requires.0, omega arith, omega arith, omega arith, refl, λ h. writes_start c.args.body.now c.args.output.now c.args.from (is_kept c.args.marks.now) h (omega (arith, c.requires.0, c.requires.1)))

pub slice_bounds-s-count : goal.slice_bounds-s-count
slice_bounds-s-count c = omega arith

pub slice_bounds-s-start : goal.slice_bounds-s-start
slice_bounds-s-start c = omega arith

pub slice_bounds-s-end : goal.slice_bounds-s-end
slice_bounds-s-end c = omega arith

pub item_len-w-requires : goal.item_len-w-requires
item_len-w-requires c =
    let b = c.args.body.now in
    let l = c.loop-p in
    subst Item (sym (part_rest b l.p)) (item_here b c.args.output.now c.args.from (is_kept c.args.marks.now) c.requires.2.functions l.p l.q l.i l.sentences l.output c.loop-p-test.true (l.invariant.5 c.requires.2))

pub written_len-n-requires : goal.written_len-n-requires
written_len-n-requires c = omega (arith, part-length c.args.body.now c.loop-p.p)

pub copy_bytes-requires : goal.copy_bytes-requires
copy_bytes-requires c =
    let b = c.args.body.now in
    let l = c.loop-p in
    let s = take (length b - l.p) (drop l.p b) in
    let x = item-fits (goal.at.copy_bytes-requires c).After-item_len-w in
    let y = written_le (is_kept c.args.marks.now) l.i s c.item_len-w.result c.written_len-n.result c.written_len-n.ensures in
    (omega (arith, x, y, part-length b l.p), omega (arith, x, y, c.requires.1, l.invariant.1, l.invariant.4))

pub kept_one-sentences-requires : goal.kept_one-sentences-requires
kept_one-sentences-requires c = omega (arith, part-length c.args.body.now c.loop-p.p)

pub overflow_add-sentences : goal.overflow_add-sentences
overflow_add-sentences c =
    let b = c.args.body.now in
    let l = c.loop-p in
    omega (arith, c.kept_one-sentences.ensures, ones_le (is_kept c.args.marks.now) l.i (take (length b - l.p) (drop l.p b)), c.loop-p-test.true, l.invariant.2, l.invariant.3)

pub sentence_one-i-requires : goal.sentence_one-i-requires
sentence_one-i-requires c = omega (arith, part-length c.args.body.now c.loop-p.p)

pub overflow_add-i : goal.overflow_add-i
overflow_add-i c =
    let b = c.args.body.now in
    let l = c.loop-p in
    omega (arith, c.sentence_one-i.ensures, ones_le (is_kept c.args.marks.now) l.i (take (length b - l.p) (drop l.p b)), c.loop-p-test.true, l.invariant.2)

pub overflow_add-q : goal.overflow_add-q
overflow_add-q c =
    let b = c.args.body.now in
    let l = c.loop-p in
    let s = take (length b - l.p) (drop l.p b) in
    omega (arith, item-fits (goal.at.overflow_add-q c).After-item_len-w, written_le (is_kept c.args.marks.now) l.i s c.item_len-w.result c.written_len-n.result c.written_len-n.ensures, l.invariant.1)

pub overflow_add-p : goal.overflow_add-p
overflow_add-p c = omega (arith, item-fits (goal.at.overflow_add-p c).After-item_len-w)

pub loop-p-smaller : goal.loop-p-smaller
loop-p-smaller c = omega (arith, item-fits (goal.at.loop-p-smaller c).After-item_len-w)

pub loop-p-preserved : goal.loop-p-preserved
loop-p-preserved c =
    let a = c.args in
    let l = c.loop-p in
    let b = a.body.now in
    let keep = is_kept a.marks.now in
    let s = take (length b - l.p) (drop l.p b) in
    let w = c.item_len-w in
    let m = c.written_len-n in
    let one = c.sentence_one-i in
    let kept = c.kept_one-sentences in
    let x = item-fits (goal.at.loop-p-preserved c).After-item_len-w in
    let y = written_le keep l.i s w.result m.result m.ensures in
    let u = ones_le keep l.i s in
    let d : Does keep l.i l.q l.output (drop l.p b) w.result m.result one.result kept.result c.copy_bytes.new.dst =
    subst (λ (s : List ℕ). Does keep l.i l.q l.output s w.result m.result one.result kept.result c.copy_bytes.new.dst) (part_rest b l.p)
    (record { passes = w.ensures; len = m.ensures; one = one.ensures; kept-one = kept.ensures; new_is = c.copy_bytes.ensures }) in (
      x.1,
      omega (arith, x.1, y, l.invariant.1),
      omega (arith, x.0, u.1, one.ensures, l.invariant.2),
      omega (arith, u.0, one.ensures, kept.ensures, l.invariant.3),
      omega arith,
      λ h. writes_turn b a.output.now a.from keep h.functions l.p l.q l.i l.sentences l.output c.loop-p-test.true (l.invariant.5 h) w.result m.result one.result kept.result c.copy_bytes.new.dst d,
    )

pub shape_of-output : goal.shape_of-output
shape_of-output c = c.loop-p.invariant.4

pub returns : goal.returns
returns c = λ h.
    let a = c.args in
    let l = c.loop-p in
    writes_end a.body.now a.output.now a.from (is_kept a.marks.now) h.functions l.p l.q l.i l.sentences l.output (omega (arith, c.requires.0, c.requires.1)) (l.invariant.5 h) c.loop-p-test.false
