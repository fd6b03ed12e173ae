-- `report::uncovered::covers` meets its contract. Assumes nothing.
use Prim.Native.Nat.{ℕ, ◌+◌, ◌<◌}
use native.Mathlib.Omega.{arith}
use mathlib.Core.Path.{◌≡◌, refl, sym, ap, ◌∙◌}
use mathlib.Core.Bool.{true, false, not}
use lib.ListN.{length, get_or}
use Rattle.patterns.specs.Search.{patterns_overlap}
use Rattle.index.specs.Layout.{witnesses}
use Rattle.meaning.specs.Cleaning.{is_disjoint}
use Rattle.told.specs.History.{is_there, after_all}
use Rattle.told.specs.Numbered.{sites_of}
use Rattle.cleaning.specs.Indexed.{fell_of}
use Rattle.cleaning.proofs.Meeting.{site-below}
use Rattle.cleaning.proofs.Room.{used_same}
use Rattle.cleaning.proofs.Witnesses.{unmet_before, met-itself}
use Rattle.report.proofs.Places.{sentence_of, pattern-at}
use Rattle.report.proofs.UncoveredLists.{covers_gone, covers_known, covers_asked}
use Rattle.overlap.proofs.Verdicts.{not-disjoint}
use Rattle.report.proofs.uncovered.covers.Goals as goal

pub is_there-requires : goal.is_there-requires
is_there-requires c = let p = c.requires in (p.1, (omega (arith, p.0.readable.indexed.fits), p.0.readable.indexed.small))

pub returns-then-not-is_there : goal.returns-then-not-is_there
returns-then-not-is_there c = record { answers = λ w f x y z d o g l k. covers_gone ((is_there (fell_of c.args.plan c.args.work.now) after_all) c.args.s) (not (is_disjoint (patterns_overlap z.pattern y.site.argument))) (sym c.is_there.ensures ∙ c.if-not-is_there.true); keeps = used_same }

pub witnesses-requires : goal.witnesses-requires
witnesses-requires c = let d = c.requires.0.readable.indexed in (omega (arith, d.fits, d.small), omega (arith, d.fits, d.small))

pub overflow_add-k : goal.overflow_add-k
overflow_add-k c = let d = c.requires.0.readable.indexed in omega (arith, d.fits, d.small, c.requires.1, c.witnesses.ensures)

pub offset_bounds-work-k : goal.offset_bounds-work-k
offset_bounds-work-k c = let d = c.requires.0.readable.indexed in omega (arith, d.fits, d.small, c.requires.1, c.witnesses.ensures)

pub bounds-work-k : goal.bounds-work-k
bounds-work-k c =
    let below : witnesses c.args.plan + c.args.s < length c.args.work.now = let d = c.requires.0.readable.indexed in omega (arith, d.fits, c.requires.1) in
    omega (arith, below, c.witnesses.ensures)

pub overflow_cast-witness : goal.overflow_cast-witness
overflow_cast-witness c = omega (arith, c.type_inv.work (c.witnesses.result + c.args.s))

pub overflow_add-i : goal.overflow_add-i
overflow_add-i c =
    let below : c.args.i < 8192 = let a = c.requires.0 in
    let d = a.readable.indexed in
    omega (arith, site-below d a.place a.function a.is c.args.i a.site a.at, d.fits, d.small) in
    omega (
      arith,
      below,
    )

pub returns-then-i-witness : goal.returns-then-i-witness
returns-then-i-witness c =
    let same : (is_there (fell_of c.args.plan c.args.work.now) after_all) c.args.s ≡ true = sym c.is_there.ensures ∙ c.if-not-is_there.false in
    let same_2 : let a = c.args in get_or a.work.now (c.witnesses.result + a.s) 0 ≡ get_or a.work.now (witnesses a.plan + a.s) 0 = let a = c.args in ap (λ (k : ℕ). get_or a.work.now (k + a.s) 0) c.witnesses.ensures in
    record { answers = λ w f x y z d o g l k. covers_known ((is_there (fell_of c.args.plan c.args.work.now) after_all) c.args.s) same z.pattern y false (unmet_before ((is_there (fell_of c.args.plan c.args.work.now) after_all)) x.name z.pattern (sites_of w) (get_or c.args.work.now (witnesses c.args.plan + c.args.s) 0) (d.witnessed.witness f x c.args.s z o) c.args.i y g l k (omega (arith, c.if-i-witness.true, same_2))); keeps = used_same }

pub overflow_add-i-2 : goal.overflow_add-i-2
overflow_add-i-2 c =
    let below : c.args.i < 8192 = let a = c.requires.0 in
    let d = a.readable.indexed in
    omega (arith, site-below d a.place a.function a.is c.args.i a.site a.at, d.fits, d.small) in
    omega (
      arith,
      below,
    )

pub returns-then-i-witness-2 : goal.returns-then-i-witness-2
returns-then-i-witness-2 c =
    let same : (is_there (fell_of c.args.plan c.args.work.now) after_all) c.args.s ≡ true = sym c.is_there.ensures ∙ c.if-not-is_there.false in
    let same_2 : let a = c.args in get_or a.work.now (c.witnesses.result + a.s) 0 ≡ get_or a.work.now (witnesses a.plan + a.s) 0 = let a = c.args in ap (λ (k : ℕ). get_or a.work.now (k + a.s) 0) c.witnesses.ensures in
    record { answers = λ w f x y z d o g l k. covers_known ((is_there (fell_of c.args.plan c.args.work.now) after_all) c.args.s) same z.pattern y true (met-itself ((is_there (fell_of c.args.plan c.args.work.now) after_all)) x.name z.pattern (sites_of w) (get_or c.args.work.now (witnesses c.args.plan + c.args.s) 0) (d.witnessed.witness f x c.args.s z o) c.args.i y g (omega (arith, c.if-i-witness-2.true, same_2))); keeps = used_same }

pub pattern_place-pattern-requires : goal.pattern_place-pattern-requires
pattern_place-pattern-requires c = let d = c.requires.0.readable.indexed in (c.requires.1, (omega (arith, d.fits), d.small))

pub verdict_at-requires : goal.verdict_at-requires
verdict_at-requires c =
    let p = c.requires.0 in
    let y = sentence_of p.readable c.args.s c.requires.1 in (
      record {
        program = p.program;
        indexed = p.readable.indexed;
        place = p.place;
        function = p.function;
        is = p.is;
        site = p.site;
        at = p.at;
        listed = p.listed;
        reading = pattern-at p.readable c.args.s y.element y.is c.pattern_place-pattern.result c.pattern_place-pattern.ensures.0;
      },
      p.readable.short,
    )

pub returns : goal.returns
returns c = record {
  answers = λ w f x y z d o g l k.
      let t = pattern-at d c.args.s z o.sentence c.pattern_place-pattern.result c.pattern_place-pattern.ensures.0 in
      c.ne.ensures ∙ not-disjoint c.verdict_at.result ∙ covers_asked ((is_there (fell_of c.args.plan c.args.work.now) after_all) c.args.s) (sym c.is_there.ensures ∙ c.if-not-is_there.false) z.pattern y.site.argument c.verdict_at.result (c.verdict_at.ensures.answers w f x y d.indexed o.function g l t) _ refl;
  keeps = c.verdict_at.ensures.keeps;
}
