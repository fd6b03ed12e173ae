use Prim.Native.Nat.{◌+◌, ◌<◌, ◌≤◌}
use native.Mathlib.Omega.{arith}
use lib.ListN.{length}
use Rattle.restrictions.proofs.Readings.{sentence-there}
use Rattle.restrictions.proofs.Places.{place-part, place-fits, place-sentence}
use Rattle.index.proofs.Listed.{listing-first, listed-functions, listed-sentences, listed-fresh, listing-close, listing-small, function-room, listing-function, sentence-below, listing-sentence, sentence-fits}
use Rattle.index.proofs.listing.list_functions.Goals as goal
use Rattle.index.proofs.listing.list_functions.Goals.{After-sentence_len-p, After-sentences_start-p, Then-m-eq10, Then-m-eq18}

-- A function's head at p: there is an entry for it, and what its length says.
head-room : (c : Then-m-eq18) → c.loop-p.f < length c.loop-p.work
head-room c =
    let w = c.loop-p.invariant.1 c.requires.3 in
    omega (arith, function-room w c.loop-p-test.true c.if-m-eq18.true (c.requires.2 c.requires.3).0, (c.requires.2 c.requires.3).1, w.size)

head-fits : (c : After-sentences_start-p) → (0 < c.sentences_start-p.result) × (c.loop-p.p + c.sentences_start-p.result ≤ length c.args.b.now)
head-fits c =
    let b = c.args.b.now in
    let p = c.loop-p.p in
    let x = (c.loop-p.invariant.1 c.requires.3).place in
    place-fits b p x c.loop-p-test.true c.if-m-eq18.true c.sentences_start-p.result (c.sentences_start-p.ensures (place-part b p x c.loop-p-test.true c.if-m-eq18.true))

-- The same of a sentence.
sentence-room : (c : Then-m-eq10) → c.args.lines + c.loop-p.s < length c.loop-p.work
sentence-room c =
    let w = c.loop-p.invariant.1 c.requires.3 in
    omega (arith, sentence-below w c.loop-p-test.true c.if-m-eq10.true, (c.requires.2 c.requires.3).1, w.size)

sentence-within : (c : After-sentence_len-p) → (c.loop-p.p < c.loop-p.p + c.sentence_len-p.result) × (c.loop-p.p + c.sentence_len-p.result ≤ length c.args.b.now)
sentence-within c =
    let b = c.args.b.now in
    let p = c.loop-p.p in
    let w = c.loop-p.invariant.1 c.requires.3 in
    let x = (place-sentence b p w.place c.loop-p-test.true c.if-m-eq10.true).here in
    sentence-fits w c.loop-p-test.true c.if-m-eq10.true c.sentence_len-p.result (c.sentence_len-p.ensures (sentence-there b p x))

pub loop-p-init : goal.loop-p-init
loop-p-init c = (c.requires.1, λ h. listing-first c.args.b.now c.args.from c.args.work.now c.args.lines h)

pub bounds-b-p : goal.bounds-b-p
bounds-b-p c = c.loop-p-test.true

pub packed-requires : goal.packed-requires
packed-requires c = let t = c.loop-p-test.true in (omega (arith, t, c.requires.0), (listing-small (c.loop-p.invariant.1 c.requires.3) t c.requires.0).0)

pub offset_bounds-work-f : goal.offset_bounds-work-f
offset_bounds-work-f c = omega (arith, (listing-small (c.loop-p.invariant.1 c.requires.3) c.loop-p-test.true c.requires.0).1)

pub bounds-work-f : goal.bounds-work-f
bounds-work-f c = head-room (goal.at.bounds-work-f c).Then-m-eq18

pub overflow_add-f : goal.overflow_add-f
overflow_add-f c = omega (arith, (listing-small (c.loop-p.invariant.1 c.requires.3) c.loop-p-test.true c.requires.0).1)

pub slice_bounds-sentences_start-count : goal.slice_bounds-sentences_start-count
slice_bounds-sentences_start-count c = omega (arith, c.loop-p-test.true)

pub slice_bounds-sentences_start-start : goal.slice_bounds-sentences_start-start
slice_bounds-sentences_start-start c = omega (arith, c.loop-p-test.true)

pub slice_bounds-sentences_start-end : goal.slice_bounds-sentences_start-end
slice_bounds-sentences_start-end c = omega (arith, c.loop-p-test.true)

pub sentences_start-p-requires : goal.sentences_start-p-requires
sentences_start-p-requires c = place-part c.args.b.now c.loop-p.p (c.loop-p.invariant.1 c.requires.3).place c.loop-p-test.true c.if-m-eq18.true

pub overflow_add-p : goal.overflow_add-p
overflow_add-p c = omega (arith, head-fits (goal.at.overflow_add-p c).After-sentences_start-p, c.requires.0)

pub loop-p-smaller-then-m-eq18 : goal.loop-p-smaller-then-m-eq18
loop-p-smaller-then-m-eq18 c = omega (arith, head-fits (goal.at.loop-p-smaller-then-m-eq18 c).After-sentences_start-p)

pub loop-p-preserved-then-m-eq18 : goal.loop-p-preserved-then-m-eq18
loop-p-preserved-then-m-eq18 c =
    let t = c.loop-p-test.true in
    let m = c.if-m-eq18.true in
    let i = c.sentences_start-p in
    let e = c.packed in (
      (head-fits (goal.at.loop-p-preserved-then-m-eq18 c).After-sentences_start-p).1,
      λ h.
          let w = c.loop-p.invariant.1 h in
          listing-function w t m e.result e.ensures.0 e.ensures.1 i.result (i.ensures (place-part c.args.b.now c.loop-p.p w.place t m)) (head-room (goal.at.loop-p-preserved-then-m-eq18 c).Then-m-eq18) (c.requires.2 h).0,
    )

pub overflow_add-k : goal.overflow_add-k
overflow_add-k c = omega (arith, sentence-room (goal.at.overflow_add-k c).Then-m-eq10, (c.loop-p.invariant.1 c.requires.3).size)

pub overflow_cast-work : goal.overflow_cast-work
overflow_cast-work c = omega (arith, c.loop-p-test.true, c.requires.0)

pub offset_bounds-work-k : goal.offset_bounds-work-k
offset_bounds-work-k c = omega (arith, sentence-room (goal.at.offset_bounds-work-k c).Then-m-eq10, (c.loop-p.invariant.1 c.requires.3).size)

pub bounds-work-k : goal.bounds-work-k
bounds-work-k c = sentence-room (goal.at.bounds-work-k c).Then-m-eq10

pub overflow_add-s : goal.overflow_add-s
overflow_add-s c = omega (arith, (listing-small (c.loop-p.invariant.1 c.requires.3) c.loop-p-test.true c.requires.0).0)

pub slice_bounds-sentence_len-count : goal.slice_bounds-sentence_len-count
slice_bounds-sentence_len-count c = omega (arith, c.loop-p-test.true)

pub slice_bounds-sentence_len-start : goal.slice_bounds-sentence_len-start
slice_bounds-sentence_len-start c = omega (arith, c.loop-p-test.true)

pub slice_bounds-sentence_len-end : goal.slice_bounds-sentence_len-end
slice_bounds-sentence_len-end c = omega (arith, c.loop-p-test.true)

pub sentence_len-p-requires : goal.sentence_len-p-requires
sentence_len-p-requires c = sentence-there c.args.b.now c.loop-p.p (place-sentence c.args.b.now c.loop-p.p (c.loop-p.invariant.1 c.requires.3).place c.loop-p-test.true c.if-m-eq10.true).here

pub overflow_add-p-then-m-eq10 : goal.overflow_add-p-then-m-eq10
overflow_add-p-then-m-eq10 c = omega (arith, sentence-within (goal.at.overflow_add-p-then-m-eq10 c).After-sentence_len-p, c.requires.0)

pub loop-p-smaller-then-m-eq10 : goal.loop-p-smaller-then-m-eq10
loop-p-smaller-then-m-eq10 c = omega (arith, sentence-within (goal.at.loop-p-smaller-then-m-eq10 c).After-sentence_len-p)

pub loop-p-preserved-then-m-eq10 : goal.loop-p-preserved-then-m-eq10
loop-p-preserved-then-m-eq10 c =
    let t = c.loop-p-test.true in
    let m = c.if-m-eq10.true in
    let b = c.args.b.now in
    let p = c.loop-p.p in
    let i = c.sentence_len-p in (
      (sentence-within (goal.at.loop-p-preserved-then-m-eq10 c).After-sentence_len-p).1,
      λ h.
          let w = c.loop-p.invariant.1 h in
          listing-sentence w t m (omega (arith, t, c.requires.0)) i.result (i.ensures (sentence-there b p (place-sentence b p w.place t m).here)) (sentence-room (goal.at.loop-p-preserved-then-m-eq10 c).Then-m-eq10) (c.requires.2 h).0,
    )

pub overflow_add-p-else-m-eq10 : goal.overflow_add-p-else-m-eq10
overflow_add-p-else-m-eq10 c = omega (arith, c.loop-p-test.true, c.requires.0)

pub loop-p-smaller : goal.loop-p-smaller
loop-p-smaller c = omega (arith, c.loop-p-test.true)

pub loop-p-preserved : goal.loop-p-preserved
loop-p-preserved c = (omega (arith, c.loop-p-test.true), λ h. listing-close (c.loop-p.invariant.1 h) c.loop-p-test.true c.if-m-eq18.false c.if-m-eq10.false)

pub shape_of-work : goal.shape_of-work
shape_of-work c = (c.loop-p.invariant.1 c.requires.3).size

pub returns : goal.returns
returns c = record { functions = λ h. listed-functions (c.loop-p.invariant.1 h) c.loop-p-test.false; sentences = λ h. listed-sentences (c.loop-p.invariant.1 h) c.loop-p-test.false; fresh = λ h. listed-fresh (c.loop-p.invariant.1 h) c.loop-p-test.false; others = λ h. ((c.loop-p.invariant.1 h).size, (c.loop-p.invariant.1 h).others) }
