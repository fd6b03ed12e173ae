use Prim.Native.Nat.{suc, ℕ, ◌≤◌}
use native.Mathlib.Omega.{arith}
use mathlib.Core.Option.{some}
use mathlib.Core.Path.{◌≡◌}
use lib.ListN.{get_elem?}
use Rattle.cleaning.proofs.Owned.{before-later}
use Rattle.cleaning.specs.Indexed.{fell_of}
use Rattle.program.specs.Syntax.{Function, Program}
use Rattle.report.proofs.Places.{function_of, sentence_of}
use Rattle.report.proofs.RemovedLines.{sentences-end, sentences-start, sentences_step}
use Rattle.report.proofs.Repeating.{Owned, sentences-within}
use Rattle.report.specs.Removed.{Removing}
use Rattle.report.proofs.entries.Entries.put_removed_in.Goals as goal

pub sentences_of-own-requires : goal.sentences_of-own-requires
sentences_of-own-requires c = let o = c.requires.0 in (record { body = c.args.self.now.b.now; program = o.program; indexed = o.removing.readable.indexed }, c.requires.1)

pub loop-s-init : goal.loop-s-init
loop-s-init c = (
  λ w n d.
      let z = ((c.sentences_of-own.ensures.are c.args.self.now.b.now w d.readable.indexed).0) in
      let l = before-later w.functions c.args.f (suc c.args.f) (omega arith) in
      (omega (arith, z), omega (arith, z, l), omega (arith, z), omega (arith, z)),
  λ w n x d e o j h. sentences-start w ((fell_of c.args.self.now.plan c.args.self.now.work.now)) n c.args.round c.args.f x c.sentences_of-own.result.start ((c.sentences_of-own.ensures.are c.args.self.now.b.now w d.readable.indexed).0) h,
)

pub put_if_removed-all-requires : goal.put_if_removed-all-requires
put_if_removed-all-requires c =
    let owned : (w : Program) (n : ℕ) (x : Function) → Removing c.args.self.now.b.now w c.args.self.now.work.now c.args.self.now.plan n → (e : get_elem? w.functions c.args.f ≡ some x) → Owned w c.args.f x c.loop-s.s = λ w n x d e. let z = (c.sentences_of-own.ensures.are c.args.self.now.b.now w d.readable.indexed).1 in
    let y = sentence_of d.readable c.loop-s.s (omega (arith, c.loop-s-test.true, z, sentences-within d.readable (suc c.args.f))) in
    record { sentence = y.element; owns = record { function = e; sentence = y.is; from = (c.loop-s.invariant.0 w n d).0; upto = omega (arith, c.loop-s-test.true, z) } } in
    let within : c.args.self.now.plan.sentences ≤ 4096 = let d = c.requires.0.removing.readable.indexed in omega (arith, d.fits, d.small) in
    let o = c.requires.0 in
    let x = function_of o.removing.readable c.args.f c.requires.1 in
    let y = owned o.program o.rounds x.element o.removing x.is in
    let b = c.loop-s.invariant.0 o.program o.rounds o.removing in
    let l = sentences-within o.removing.readable (suc c.args.f) in (
      record { program = o.program; rounds = o.rounds; removing = o.removing; function = x.element; sentence = y.sentence; owns = y.owns },
      c.requires.2,
      omega (arith, b.1, b.2, l, within, c.requires.3),
      omega (arith, b.1, b.3, l, within, c.requires.4),
    )

pub loop-s-preserved : goal.loop-s-preserved
loop-s-preserved c =
    let owned : (w : Program) (n : ℕ) (x : Function) → Removing c.args.self.now.b.now w c.args.self.now.work.now c.args.self.now.plan n → (e : get_elem? w.functions c.args.f ≡ some x) → Owned w c.args.f x c.loop-s.s = λ w n x d e. let z = (c.sentences_of-own.ensures.are c.args.self.now.b.now w d.readable.indexed).1 in
    let y = sentence_of d.readable c.loop-s.s (omega (arith, c.loop-s-test.true, z, sentences-within d.readable (suc c.args.f))) in
    record { sentence = y.element; owns = record { function = e; sentence = y.is; from = (c.loop-s.invariant.0 w n d).0; upto = omega (arith, c.loop-s-test.true, z) } } in (
      λ w n d.
          let b = c.loop-s.invariant.0 w n d in
          let z = (c.sentences_of-own.ensures.are c.args.self.now.b.now w d.readable.indexed).1 in
          let k = c.put_if_removed-all.ensures.short in
          (omega (arith, b.0), omega (arith, c.loop-s-test.true, z), omega (arith, b.2, k.0), omega (arith, b.3, k.1)),
      λ w n x d e o j h.
          let y = owned w n x d e in
          c.loop-s.invariant.1 w n x d e o j (sentences_step w ((fell_of c.args.self.now.plan c.args.self.now.work.now)) n c.args.round c.args.f x c.loop-s.s y.sentence y.owns (c.put_if_removed-all.ensures.written w n x y.sentence d y.owns) h),
    )

pub returns : goal.returns
returns c = record { written = λ w n x d e. c.loop-s.invariant.1 w n x d e c.loop-s.out c.loop-s.all (sentences-end w ((fell_of c.args.self.now.plan c.args.self.now.work.now)) n c.args.round c.args.f x c.loop-s.s e (omega (arith, c.loop-s-test.false, (c.sentences_of-own.ensures.are c.args.self.now.b.now w d.readable.indexed).1)) c.loop-s.out c.loop-s.all); short = λ w n d. let b = c.loop-s.invariant.0 w n d in record { place = omega (arith, b.1, b.2); many = omega (arith, b.1, b.3) } }
