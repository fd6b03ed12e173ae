use native.Mathlib.Omega.{arith}
use mathlib.Core.Bool.{false≢true, true≢false}
use mathlib.Core.Path.{sym, ◌∙◌}
use Rattle.cleaning.specs.Indexed.{fell_of}
use Rattle.program.specs.Sentences.{own_sentences}
use Rattle.told.specs.Numbered.{sentences_before}
use Rattle.report.proofs.Places.{sentence_of}
use Rattle.report.proofs.Repeating.{none_first, none-next}
use Rattle.report.proofs.entries.Entries.printed_in.Goals as goal

pub sentences_of-own-requires : goal.sentences_of-own-requires
sentences_of-own-requires c = let o = c.requires.0 in (record { body = c.args.self.now.b.now; program = o.program; indexed = o.readable.indexed }, c.requires.1)

pub loop-t-init : goal.loop-t-init
loop-t-init c = λ w y d e.
    let z = (c.sentences_of-own.ensures.are c.args.self.now.b.now w d.indexed).0 in
    (omega (arith, z), none_first (fell_of c.args.self.now.plan c.args.self.now.work.now) c.args.round c.args.s y.pattern (own_sentences w.functions) (sentences_before c.args.g w.functions) c.sentences_of-own.result.start (omega (arith, z)))

pub is_printed-requires : goal.is_printed-requires
is_printed-requires c = (c.requires.0, omega (arith, c.loop-t-test.true, c.sentences_of-own.ensures.within), c.requires.2)

pub returns-then-is_printed : goal.returns-then-is_printed
returns-then-is_printed c = λ w y d e.
    let o = sentence_of d c.loop-t.t (omega (arith, c.loop-t-test.true, c.sentences_of-own.ensures.within)) in
    record {
      yes = λ a. record {
        number = c.loop-t.t;
        sentence = o.element;
        is = o.is;
        later = (c.loop-t.invariant w y d e).0;
        before = omega (arith, c.loop-t-test.true, (c.sentences_of-own.ensures.are c.args.self.now.b.now w d.indexed).1);
        printed = sym (c.is_printed.ensures w o.element y d o.is e) ∙ c.if-is_printed.true;
      };
      no = λ a. absurd (true≢false a);
    }

pub loop-t-preserved : goal.loop-t-preserved
loop-t-preserved c = λ w y d e.
    let i = c.loop-t.invariant w y d e in
    (omega (arith, i.0), none-next (fell_of c.args.self.now.plan c.args.self.now.work.now) c.args.round c.args.s y.pattern (own_sentences w.functions) (sentences_before c.args.g w.functions) c.loop-t.t i.1 (λ u q. sym (c.is_printed.ensures w u y d q e) ∙ c.if-is_printed.false))

pub returns : goal.returns
returns c = λ w y d e. record {
  yes = λ a. absurd (false≢true a);
  no = λ a t u p q g. (c.loop-t.invariant w y d e).1 t u p (omega (arith, q, c.loop-t-test.false, (c.sentences_of-own.ensures.are c.args.self.now.b.now w d.indexed).1)) g;
}
