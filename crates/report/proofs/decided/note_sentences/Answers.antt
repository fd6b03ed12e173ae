use Prim.Native.Nat.{◌<◌}
use native.Mathlib.Omega.{arith}
use Rattle.cleaning.specs.Walks.{Owns}
use Rattle.report.proofs.OpenNotes.{open_readable, open_first, open_next, open_end}
use Rattle.report.proofs.Places.{function_of, sentence_of}
use Rattle.report.proofs.decided.note_sentences.Goals as goal

pub sentences_of-own-requires : goal.sentences_of-own-requires
sentences_of-own-requires c = ((record { body = c.args.b.now; program = c.requires.0.program; indexed = c.requires.0.readable.indexed }), c.requires.1)

pub loop-s-init : goal.loop-s-init
loop-s-init c =
    λ w x d e. open_first w c.args.plan c.args.f x c.args.work.now c.sentences_of-own.result.start ((c.sentences_of-own.ensures.are c.args.b.now w d.indexed).0)

pub stays_open-undecided-requires : goal.stays_open-undecided-requires
stays_open-undecided-requires c =
    let d = c.requires.0.readable in
    let x = (function_of c.requires.0.readable c.args.f c.requires.1) in
    let y = sentence_of d c.loop-s.s (omega (arith, c.loop-s-test.true, c.sentences_of-own.ensures.within)) in
    record {
      program = c.requires.0.program;
      readable = open_readable ((c.loop-s.invariant c.requires.0.program ((function_of c.requires.0.readable c.args.f c.requires.1)).element c.requires.0.readable ((function_of c.requires.0.readable c.args.f c.requires.1)).is)).only d;
      function = x.element;
      sentence = y.element;
      owns = record { function = x.is; sentence = y.is; from = ((c.loop-s.invariant c.requires.0.program ((function_of c.requires.0.readable c.args.f c.requires.1)).element c.requires.0.readable ((function_of c.requires.0.readable c.args.f c.requires.1)).is)).from; upto = omega (arith, c.loop-s-test.true, (c.sentences_of-own.ensures.are c.args.b.now c.requires.0.program d.indexed).1) };
    }

pub set_open-requires : goal.set_open-requires
set_open-requires c =
    let d = c.requires.0.readable.indexed in
    let u = c.stays_open-undecided.ensures.keeps in (
      omega (arith, c.loop-s-test.true, c.sentences_of-own.ensures.within),
      (
        omega (arith, u.length, ((c.loop-s.invariant c.requires.0.program ((function_of c.requires.0.readable c.args.f c.requires.1)).element c.requires.0.readable ((function_of c.requires.0.readable c.args.f c.requires.1)).is)).only.length, d.fits),
        omega (arith, u.length, ((c.loop-s.invariant c.requires.0.program ((function_of c.requires.0.readable c.args.f c.requires.1)).element c.requires.0.readable ((function_of c.requires.0.readable c.args.f c.requires.1)).is)).only.length, d.small),
      ),
    )

pub loop-s-preserved : goal.loop-s-preserved
loop-s-preserved c =
    λ w x d e.
    let g = c.loop-s.invariant w x d e in
    let l : c.loop-s.s < c.args.plan.sentences = omega (arith, c.loop-s-test.true, c.sentences_of-own.ensures.within) in
    let y = sentence_of d c.loop-s.s l in
    let o : Owns w c.args.f x c.loop-s.s y.element = record { function = e; sentence = y.is; from = g.from; upto = omega (arith, c.loop-s-test.true, (c.sentences_of-own.ensures.are c.args.b.now w d.indexed).1) } in
    open_next w c.args.plan c.args.f x c.args.work.now g y.element o l c.stays_open-undecided.ensures.keeps (c.stays_open-undecided.ensures.answers w x y.element (open_readable g.only d) o) c.set_open.ensures

pub shape_of-work : goal.shape_of-work
shape_of-work c = ((c.loop-s.invariant c.requires.0.program ((function_of c.requires.0.readable c.args.f c.requires.1)).element c.requires.0.readable ((function_of c.requires.0.readable c.args.f c.requires.1)).is)).only.length

pub returns : goal.returns
returns c =
    λ w x d e. open_end w c.args.plan c.args.f x c.args.work.now (c.loop-s.invariant w x d e) (omega (arith, c.loop-s-test.false, (c.sentences_of-own.ensures.are c.args.b.now w d.indexed).1))
