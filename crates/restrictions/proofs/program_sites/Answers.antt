use Prim.Native.Nat.{◌+◌, ◌<◌, ◌≤◌}
use native.Mathlib.Omega.{arith}
use lib.ListN.{length}
use Rattle.restrictions.proofs.Walking.{walking_first, walking_length, walking_end, walking_close, function-part, function-fits, walking-function, sentence-there, sentence-small, sentence-room, sentence-later, walking-sentence}
use Rattle.restrictions.proofs.program_sites.Goals as goal
use Rattle.restrictions.proofs.program_sites.Goals.{After-sentences_start-p}

pub loop-p-init : goal.loop-p-init
loop-p-init c = (c.requires.1, λ h. walking_first _ _ h (omega (arith, c.requires.2.room)))

pub bounds-b-p : goal.bounds-b-p
bounds-b-p c = c.loop-p-test.true

pub slice_bounds-sentences_start-count : goal.slice_bounds-sentences_start-count
slice_bounds-sentences_start-count c = omega (arith, c.loop-p-test.true)

pub slice_bounds-sentences_start-start : goal.slice_bounds-sentences_start-start
slice_bounds-sentences_start-start c = omega (arith, c.loop-p-test.true)

pub slice_bounds-sentences_start-end : goal.slice_bounds-sentences_start-end
slice_bounds-sentences_start-end c = omega (arith, c.loop-p-test.true)

pub sentences_start-p-requires : goal.sentences_start-p-requires
sentences_start-p-requires c = function-part (c.loop-p.invariant.1 c.requires.2.reading) c.loop-p-test.true c.if-m-eq18.true

function_inside : (c : After-sentences_start-p) → (0 < c.sentences_start-p.result) × (c.loop-p.p + c.sentences_start-p.result ≤ length c.args.b.now)
function_inside c =
    let w = c.loop-p.invariant.1 c.requires.2.reading in
    let l = c.loop-p-test.true in
    let m = c.if-m-eq18.true in
    function-fits w l m c.sentences_start-p.result (c.sentences_start-p.ensures (function-part w l m))

pub overflow_add-p : goal.overflow_add-p
overflow_add-p c = omega (arith, function_inside c, c.requires.0)

pub loop-p-smaller-then-m-eq18 : goal.loop-p-smaller-then-m-eq18
loop-p-smaller-then-m-eq18 c = omega (arith, function_inside c, c.loop-p-test.true)

pub loop-p-preserved-then-m-eq18 : goal.loop-p-preserved-then-m-eq18
loop-p-preserved-then-m-eq18 c =
    let l = c.loop-p-test.true in
    let m = c.if-m-eq18.true in
    ((function_inside c).1, λ h. let w = c.loop-p.invariant.1 h in walking-function w l m c.sentences_start-p.result (c.sentences_start-p.ensures (function-part w l m)))

pub sentence_sites-w-requires : goal.sentence_sites-w-requires
sentence_sites-w-requires c =
    let w = c.loop-p.invariant.1 c.requires.2.reading in
    let l = c.loop-p-test.true in
    let m = c.if-m-eq10.true in
    (c.requires.0, sentence-small w l m c.requires.0, record { reading = (sentence-there w l m).here; room = sentence-room w l m c.requires.2.room })

pub overflow_add-sentence : goal.overflow_add-sentence
overflow_add-sentence c = omega (arith, sentence-small (c.loop-p.invariant.1 c.requires.2.reading) c.loop-p-test.true c.if-m-eq10.true c.requires.0)

pub loop-p-smaller-then-m-eq10 : goal.loop-p-smaller-then-m-eq10
loop-p-smaller-then-m-eq10 c =
    let w = c.loop-p.invariant.1 c.requires.2.reading in
    let z = c.sentence_sites-w.ensures (sentence-there w c.loop-p-test.true c.if-m-eq10.true).here in
    omega (arith, sentence-later w c.loop-p-test.true c.if-m-eq10.true z, z.fits)

pub loop-p-preserved-then-m-eq10 : goal.loop-p-preserved-then-m-eq10
loop-p-preserved-then-m-eq10 c =
    let l = c.loop-p-test.true in
    let m = c.if-m-eq10.true in
    let z = c.sentence_sites-w.ensures in
    ((z (sentence-there (c.loop-p.invariant.1 c.requires.2.reading) l m).here).fits, λ h. let w = c.loop-p.invariant.1 h in walking-sentence w l m (z (sentence-there w l m).here))

pub overflow_add-p-else-m-eq10 : goal.overflow_add-p-else-m-eq10
overflow_add-p-else-m-eq10 c = omega (arith, c.loop-p-test.true, c.requires.0)

pub loop-p-smaller : goal.loop-p-smaller
loop-p-smaller c = omega (arith, c.loop-p-test.true)

pub loop-p-preserved : goal.loop-p-preserved
loop-p-preserved c = (omega (arith, c.loop-p-test.true), λ h. let w = c.loop-p.invariant.1 h in walking_close w c.loop-p-test.true c.if-m-eq18.false c.if-m-eq10.false)

pub shape_of-sites : goal.shape_of-sites
shape_of-sites c = walking_length (c.loop-p.invariant.1 c.requires.2.reading)

pub returns : goal.returns
returns c = λ h. walking_end (c.loop-p.invariant.1 h) c.loop-p-test.false
