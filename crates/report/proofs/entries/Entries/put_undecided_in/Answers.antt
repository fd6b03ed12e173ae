use Prim.Native.Nat.{suc, ◌<◌}
use native.Mathlib.Omega.{arith}
use Rattle.told.specs.Numbered.{sentences_before}
use Rattle.told.specs.History.{is_there, after_all}
use Rattle.cleaning.specs.Indexed.{fell_of}
use Rattle.report.proofs.Places.{function_of, sentence_of}
use Rattle.report.proofs.UndecidedLoops.{in_first, in_next, in_end}
use Rattle.report.proofs.entries.Entries.put_undecided_in.Goals as goal

pub sentences_of-own-requires : goal.sentences_of-own-requires
sentences_of-own-requires c = ((record { body = c.args.self.now.b.now; program = c.requires.0.program; indexed = c.requires.0.readable.indexed }), c.requires.1)

pub loop-s-init : goal.loop-s-init
loop-s-init c =
    let l = c.args.listed in
    (λ w x d e. in_first ((is_there (fell_of c.args.self.now.plan c.args.self.now.work.now) after_all)) c.args.self.now.b.now w c.args.f x e c.sentences_of-own.result.start ((c.sentences_of-own.ensures.are c.args.self.now.b.now w d.indexed).0) c.args.out.now l.count l.last, c.requires.4)

pub put_if_undecided-told-requires : goal.put_if_undecided-told-requires
put_if_undecided-told-requires c =
    let t = c.loop-s-test.true in
    let x = (function_of c.requires.0.readable c.args.f c.requires.1) in
    let w = c.requires.0.program in
    let d = c.requires.0.readable in
    let i = c.loop-s.invariant.0 w x.element d x.is in
    let y = sentence_of d c.loop-s.s (omega (arith, t, c.sentences_of-own.ensures.within)) in
    let e = (c.sentences_of-own.ensures.are c.args.self.now.b.now w d.indexed).1 in (
      record { program = w; readable = d; function = x.element; sentence = y.element; owns = record { function = x.is; sentence = y.is; from = i.from; upto = omega (arith, e, t) } },
      λ w d.
          let x = function_of d c.args.f c.requires.1 in
          let z = c.requires.2 w d in
          (_, (c.loop-s.invariant.0 w x.element d x.is).told.is z.0 z.1),
      omega (arith, i.short, i.from, c.requires.3 w d, e, t),
      c.loop-s.invariant.1,
      c.requires.5,
      c.requires.6,
    )

pub loop-s-preserved : goal.loop-s-preserved
loop-s-preserved c =
    let t = c.loop-s-test.true in (
      λ w x d e.
          let y = sentence_of d c.loop-s.s (omega (arith, t, c.sentences_of-own.ensures.within)) in
          let i = c.loop-s.invariant.0 w x d e in
          let l : c.loop-s.s < sentences_before (suc c.args.f) w.functions = omega (arith, t, (c.sentences_of-own.ensures.are c.args.self.now.b.now w d.indexed).1) in
          in_next ((is_there (fell_of c.args.self.now.plan c.args.self.now.work.now) after_all)) c.args.self.now.b.now w c.args.f x e i y.element y.is l (c.put_if_undecided-told.ensures.told w x y.element d (record { function = e; sentence = y.is; from = i.from; upto = l })) c.put_if_undecided-told.ensures.short.0,
      c.put_if_undecided-told.ensures.short.1,
    )

pub returns : goal.returns
returns c = let h = c.loop-s.invariant in record {
  told = λ w x d e. in_end ((is_there (fell_of c.args.self.now.plan c.args.self.now.work.now) after_all)) c.args.self.now.b.now w c.args.f x e (h.0 w x d e) (omega (arith, c.loop-s-test.false, (c.sentences_of-own.ensures.are c.args.self.now.b.now w d.indexed).1));
  short = (
    λ w d.
        let x = function_of d c.args.f c.requires.1 in
        let i = h.0 w x.element d x.is in
        omega (arith, i.short, i.upto),
    h.1,
  );
}
