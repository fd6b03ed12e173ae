use Prim.Native.Nat.{ℕ}
use native.Mathlib.Omega.{arith}
use mathlib.Core.Path.{◌≡◌, sym, ap, ◌∙◌}
use mathlib.Core.Bool.{Bool, true, ◌&&◌, not}
use mathlib.Core.Option.{some}
use lib.ListN.{get_elem?}
use Rattle.program.specs.Sentences.{Sentence}
use Rattle.program.specs.Syntax.{Function, Program}
use Rattle.patterns.specs.Search.{patterns_overlap}
use Rattle.told.specs.Numbered.{Held, sites_of}
use Rattle.told.specs.Calls.{is_listed}
use Rattle.meaning.specs.Cleaning.{is_disjoint}
use Rattle.told.specs.History.{is_there, after_all}
use Rattle.cleaning.specs.Indexed.{fell_of}
use Rattle.cleaning.specs.Walks.{Owns}
use Rattle.cleaning.proofs.Room.{used_same, used_then}
use Rattle.report.specs.Emitting.{Readable}
use Rattle.report.proofs.Places.{sentence_of}
use Rattle.report.proofs.RoomUsed.{used_keep, used_readable, used_site}
use Rattle.report.proofs.UncoveredLists.{covering_first, covering_next, covering_found, covering_end}
use Rattle.report.proofs.uncovered.any_covers.Goals as goal

pub sentences_of-own-requires : goal.sentences_of-own-requires
sentences_of-own-requires c = ((record { body = c.args.b.now; program = c.requires.0.program; indexed = c.requires.0.readable.indexed }), c.requires.1)

pub loop-s-init : goal.loop-s-init
loop-s-init c =
    (λ w x y d e g l k. covering_first ((is_there (fell_of c.args.plan c.args.work.now) after_all)) w c.args.f x e y.site.argument c.sentences_of-own.result.start ((c.sentences_of-own.ensures.are c.args.b.now w d.indexed).0), used_same)

pub covers-requires : goal.covers-requires
covers-requires c = let u = c.loop-s.invariant.1 in (
  used_site u c.requires.0,
  omega (arith, c.loop-s-test.true, c.sentences_of-own.ensures.within),
)

pub shape_of-work-then-covers : goal.shape_of-work-then-covers
shape_of-work-then-covers c = c.covers.ensures.keeps.length ∙ c.loop-s.invariant.1.length

pub returns-then-covers : goal.returns-then-covers
returns-then-covers c =
    let ReadableHere : Program → Type 0 = λ w. Readable c.args.b.now w c.args.work.now c.args.plan in
    let same : (w : Program) (x : Function) (y : Held) (z : Sentence) → ReadableHere w → Owns w c.args.f x c.loop-s.s z → get_elem? (sites_of w) c.args.i ≡ some y → is_listed true x.name y ≡ true → (is_there (fell_of c.args.plan c.args.work.now) after_all) y.sentence ≡ true → c.covers.result ≡ ((is_there (fell_of c.args.plan c.args.work.now) after_all) c.loop-s.s && not (is_disjoint (patterns_overlap z.pattern y.site.argument))) = λ w x y z d o g l k. let u = c.loop-s.invariant.1 in
    c.covers.ensures.answers w c.args.f x y z (used_readable u d) o g l (ap (λ (t : ℕ → Bool). t y.sentence) (used_keep u after_all) ∙ k) ∙ ap (λ (t : ℕ → Bool). t c.loop-s.s && not (is_disjoint (patterns_overlap z.pattern y.site.argument))) (used_keep u after_all) in
    let t = c.loop-s-test.true in record {
      answers = λ w x y d e g l k.
          let z = sentence_of d c.loop-s.s (omega (arith, t, c.sentences_of-own.ensures.within)) in
          let a = c.loop-s.invariant.0 w x y d e g l k in
          let o : Owns w c.args.f x c.loop-s.s z.element = record { function = e; sentence = z.is; from = a.from; upto = omega (arith, t, (c.sentences_of-own.ensures.are c.args.b.now w d.indexed).1) } in
          covering_found ((is_there (fell_of c.args.plan c.args.work.now) after_all)) w c.args.f x e y.site.argument a z.element z.is o.upto (sym (same w x y z.element d o g l k) ∙ c.if-covers.true);
      keeps = used_then c.loop-s.invariant.1 c.covers.ensures.keeps;
    }

pub loop-s-preserved : goal.loop-s-preserved
loop-s-preserved c =
    let ReadableHere : Program → Type 0 = λ w. Readable c.args.b.now w c.args.work.now c.args.plan in
    let same : (w : Program) (x : Function) (y : Held) (z : Sentence) → ReadableHere w → Owns w c.args.f x c.loop-s.s z → get_elem? (sites_of w) c.args.i ≡ some y → is_listed true x.name y ≡ true → (is_there (fell_of c.args.plan c.args.work.now) after_all) y.sentence ≡ true → c.covers.result ≡ ((is_there (fell_of c.args.plan c.args.work.now) after_all) c.loop-s.s && not (is_disjoint (patterns_overlap z.pattern y.site.argument))) = λ w x y z d o g l k. let u = c.loop-s.invariant.1 in
    c.covers.ensures.answers w c.args.f x y z (used_readable u d) o g l (ap (λ (t : ℕ → Bool). t y.sentence) (used_keep u after_all) ∙ k) ∙ ap (λ (t : ℕ → Bool). t c.loop-s.s && not (is_disjoint (patterns_overlap z.pattern y.site.argument))) (used_keep u after_all) in
    let t = c.loop-s-test.true in (
      λ w x y d e g l k.
          let z = sentence_of d c.loop-s.s (omega (arith, t, c.sentences_of-own.ensures.within)) in
          let a = c.loop-s.invariant.0 w x y d e g l k in
          let o : Owns w c.args.f x c.loop-s.s z.element = record { function = e; sentence = z.is; from = a.from; upto = omega (arith, t, (c.sentences_of-own.ensures.are c.args.b.now w d.indexed).1) } in
          covering_next ((is_there (fell_of c.args.plan c.args.work.now) after_all)) w c.args.f x e y.site.argument a z.element z.is (sym (same w x y z.element d o g l k) ∙ c.if-covers.false),
      used_then c.loop-s.invariant.1 c.covers.ensures.keeps,
    )

pub shape_of-work : goal.shape_of-work
shape_of-work c = c.loop-s.invariant.1.length

pub returns : goal.returns
returns c = record { answers = λ w x y d e g l k. covering_end ((is_there (fell_of c.args.plan c.args.work.now) after_all)) w c.args.f x e y.site.argument (c.loop-s.invariant.0 w x y d e g l k) (omega (arith, c.loop-s-test.false, (c.sentences_of-own.ensures.are c.args.b.now w d.indexed).1)); keeps = c.loop-s.invariant.1 }
