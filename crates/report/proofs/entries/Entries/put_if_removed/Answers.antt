-- `report::entries::Entries::put_if_removed` meets its contract. Assumes nothing.
use Prim.Native.Nat.{◌<◌, ℕ}
use native.Mathlib.Omega.{arith}
use mathlib.Core.Path.{sym, ◌∙◌, ◌≡◌}
use Rattle.cleaning.specs.Indexed.{fell_of}
use Rattle.cleaning.specs.Walks.{Owns}
use Rattle.cleaning.proofs.Indexed.{fell-other, fell-same}
use Rattle.program.specs.Sentences.{Sentence, own_sentences}
use Rattle.program.specs.Syntax.{Function, Program}
use Rattle.index.proofs.First.{element_below}
use Rattle.report.proofs.RemovedLines.{fallen_restricted, listed_line, listed_not, listed-repeat}
use Rattle.report.specs.Emitting.{SomeReadable}
use Rattle.report.specs.Removed.{Removing, is_repeated}
use Rattle.report.proofs.entries.Entries.put_if_removed.Goals as goal
use Rattle.report.proofs.entries.Entries.put_if_removed.Goals.{then-ne-via-then-ne, then-ne-via-else-ne+then-is_repeated}

pub fell-requires : goal.fell-requires
fell-requires c =
    let both : (c.args.f < c.args.self.now.plan.functions) × (c.args.s < c.args.self.now.plan.sentences) = let o = c.requires.0 in
    let d = o.removing.readable.indexed in
    (omega (arith, element_below o.program.functions c.args.f o.function o.owns.function, d.functions), omega (arith, element_below (own_sentences o.program.functions) c.args.s o.sentence o.owns.sentence, d.sentences)) in
    let d = c.requires.0.removing.readable.indexed in (
      both.1,
      (omega (arith, d.fits), d.small),
    )

pub is_repeated-requires : goal.is_repeated-requires
is_repeated-requires c =
    let some_readable : SomeReadable c.args.self.now.b.now c.args.self.now.work.now c.args.self.now.plan = record { program = c.requires.0.program; readable = c.requires.0.removing.readable } in
    let both : (c.args.f < c.args.self.now.plan.functions) × (c.args.s < c.args.self.now.plan.sentences) = let o = c.requires.0 in
    let d = o.removing.readable.indexed in
    (omega (arith, element_below o.program.functions c.args.f o.function o.owns.function, d.functions), omega (arith, element_below (own_sentences o.program.functions) c.args.s o.sentence o.owns.sentence, d.sentences)) in (
      some_readable,
      both.0,
      both.1,
    )

pub returns-then-ne : goal.returns-then-ne
returns-then-ne c = elim c.then-ne.branch [
  | then-ne-via-then-ne z ↦ record {
    written = λ w n x y d o.
        let a = c.args in
        listed_not w (fell_of a.self.now.plan a.self.now.work.now) n a.round x a.s y a.out.now a.count (fell-other (fell_of a.self.now.plan a.self.now.work.now a.s) a.round c.fell.result c.fell.ensures c.requires.1 z.if-ne.ensures);
    short = (omega arith, omega arith);
  }
  | then-ne-via-else-ne+then-is_repeated z ↦ record {
    written = λ w n x y d o.
        let a = c.args in
        let e = fell-same (fell_of a.self.now.plan a.self.now.work.now a.s) a.round c.fell.result c.fell.ensures z.if-ne.ensures in
        let r = z.is_repeated.ensures w n x y d.readable (λ t. omega (arith, d.below t)) o.function o.sentence in
        listed-repeat w (fell_of a.self.now.plan a.self.now.work.now) n a.round x a.s y a.out.now a.count e (sym r ∙ z.if-is_repeated.true);
    short = (omega arith, omega arith);
  }
]

pub put_removed_line-requires : goal.put_removed_line-requires
put_removed_line-requires c =
    let some_readable : SomeReadable c.args.self.now.b.now c.args.self.now.work.now c.args.self.now.plan = record { program = c.requires.0.program; readable = c.requires.0.removing.readable } in
    let both : (c.args.f < c.args.self.now.plan.functions) × (c.args.s < c.args.self.now.plan.sentences) = let o = c.requires.0 in
    let d = o.removing.readable.indexed in
    (omega (arith, element_below o.program.functions c.args.f o.function o.owns.function, d.functions), omega (arith, element_below (own_sentences o.program.functions) c.args.s o.sentence o.owns.sentence, d.sentences)) in (
      some_readable,
      both.0,
      both.1,
      c.requires.2,
    )

pub overflow_add-result : goal.overflow_add-result
overflow_add-result c = omega (arith, c.requires.3)

pub returns : goal.returns
returns c =
    let the_let : (w : Program) (n : ℕ) (x : Function) (y : Sentence) → let a = c.args in Removing a.self.now.b.now w a.self.now.work.now a.self.now.plan n → Owns w a.f x a.s y → c.is_repeated.result ≡ is_repeated w ((fell_of c.args.self.now.plan c.args.self.now.work.now)) n (record { round = a.round; function = x; number = a.s; sentence = y }) = λ w n x y d o. c.is_repeated.ensures w n x y d.readable (λ t. omega (arith, d.below t)) o.function o.sentence in
    record {
      written = λ w n x y d o.
          let a = c.args in
          let e = fell-same (fell_of a.self.now.plan a.self.now.work.now a.s) a.round c.fell.result c.fell.ensures c.if-ne.ensures in
          listed_line w ((fell_of c.args.self.now.plan c.args.self.now.work.now)) n a.round x a.s y a.out.now a.count e (sym (the_let w n x y d o) ∙ c.if-is_repeated.false)
          (c.put_removed_line.ensures.written w x y d.readable o.function o.sentence (fallen_restricted w ((fell_of c.args.self.now.plan c.args.self.now.work.now)) n a.round d.told c.requires.1 (omega (arith, d.below a.s, e)) a.f x a.s y o e));
      short = (c.put_removed_line.ensures.short, omega arith);
    }
