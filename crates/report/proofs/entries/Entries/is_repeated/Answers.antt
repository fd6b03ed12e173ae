use Prim.Native.Nat.{suc}
use native.Mathlib.Omega.{arith}
use mathlib.Core.Bool.{true}
use mathlib.Core.Path.{sym, ◌≡◌}
use Rattle.cleaning.specs.Indexed.{fell_of}
use Rattle.program.specs.Sentences.{own_sentences}
use Rattle.index.proofs.First.{element_below}
use Rattle.told.specs.Numbered.{sentences_before}
use Rattle.report.proofs.FallenList.{repeated_never, repeated_printing}
use Rattle.report.proofs.Places.{function_of}
use Rattle.report.proofs.Repeating.{none-function}
use Rattle.report.specs.Removed.{NonePrinting}
use Rattle.patterns.specs.Names.{same_name}
use Rattle.report.proofs.entries.Entries.is_repeated.Goals as goal

pub loop-g-init : goal.loop-g-init
loop-g-init c = λ w x y d e g h v a z q. absurd (omega (arith, a))

pub repeated_in-requires : goal.repeated_in-requires
repeated_in-requires c = (c.requires.0, c.loop-g-test.true, c.requires.1, c.requires.2)

pub returns-then-repeated_in : goal.returns-then-repeated_in
returns-then-repeated_in c = λ w n x y d l e g.
    let a = c.args in
    let v = function_of d c.loop-g.g c.loop-g-test.true in
    let o = (c.repeated_in.ensures w v.element x y d v.is e g).yes c.if-repeated_in.true in
    sym (repeated_printing w (fell_of a.self.now.plan a.self.now.work.now) n (record { round = a.round; function = x; number = a.s; sentence = y }) c.loop-g.g v.element v.is o.0 l o.1)

pub loop-g-preserved : goal.loop-g-preserved
loop-g-preserved c = λ w x y d e g.
    let a = c.args in
    none-function w.functions (λ h v. same_name v.name x.name ≡ true → NonePrinting (fell_of a.self.now.plan a.self.now.work.now) a.round a.s y.pattern (own_sentences w.functions) (sentences_before h w.functions) (sentences_before (suc h) w.functions))
    c.loop-g.g (c.loop-g.invariant w x y d e g) (λ v q. (c.repeated_in.ensures w v x y d q e g).no c.if-repeated_in.false)

pub returns : goal.returns
returns c = λ w n x y d l e g.
    let a = c.args in
    sym (repeated_never w (fell_of a.self.now.plan a.self.now.work.now) n (record { round = a.round; function = x; number = a.s; sentence = y })
    (λ h v q z. c.loop-g.invariant w x y d e g h v (omega (arith, element_below w.functions h v q, d.indexed.functions, c.loop-g-test.false)) q z))
