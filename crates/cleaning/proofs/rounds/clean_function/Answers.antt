-- `cleaning::rounds::clean_function` meets its contract. Assumes nothing.
use Prim.Native.Nat.{ℕ, suc, ◌<◌}
use native.Mathlib.Numerals.{add-one}
use native.Mathlib.Omega.{arith}
use mathlib.Core.Path.{sym, ◌∙◌}
use mathlib.Core.List.{List}
use Rattle.program.specs.Syntax.{Program}
use Rattle.index.specs.declared.Plan.{Plan}
use Rattle.index.proofs.First.{Element, element_at}
use Rattle.cleaning.specs.Indexed.{Indexed, SomeBody}
use Rattle.cleaning.specs.RoundDone.{SomeRoundAt}
use Rattle.cleaning.proofs.Owned.{before-later}
use Rattle.cleaning.proofs.RoundCode.{indexed-at, witnessed-at, end-at, skip_root, skip_passed, judged_none, judged_one}
use Rattle.cleaning.proofs.rounds.clean_function.Goals as goal

function_at : {b m : List ℕ} {p : Plan} {w : Program} {f : ℕ} → Indexed b w m p → f < p.functions → Element w.functions f
function_at {w = w} {f} d l = element_at w.functions f (omega (arith, l, d.functions))

body_at : {b m : List ℕ} {p : Plan} {root r f : ℕ} → SomeRoundAt b m p root r f → SomeBody m p
body_at {b} q = record { body = b; program = q.program; indexed = indexed-at q.ready q.at }

pub returns-then-f-root : goal.returns-then-f-root
returns-then-f-root c w old before r a =
    let x = function_at r.indexed c.requires.1 in
    skip_root r a x.element x.is c.if-f-root.true

pub is_judged-requires : goal.is_judged-requires
is_judged-requires c = (body_at c.requires.0, c.requires.1)

pub returns-then-not-is_judged : goal.returns-then-not-is_judged
returns-then-not-is_judged c w old before r a =
    let x = function_at r.indexed c.requires.1 in
    skip_passed r a x.element x.is (sym (c.is_judged.ensures c.args.b.now w x.element (indexed-at r a) x.is) ∙ c.if-not-is_judged.true)

pub first_sentence-first-requires : goal.first_sentence-first-requires
first_sentence-first-requires c = (body_at c.requires.0, omega (arith, c.requires.1))

pub overflow_add-f : goal.overflow_add-f
overflow_add-f c = let d = c.requires.0.ready.indexed in omega (arith, c.requires.1, d.fits, d.small)

pub first_sentence-end-requires : goal.first_sentence-end-requires
first_sentence-end-requires c = (body_at c.requires.0, omega (arith, c.requires.1))

pub judge-requires : goal.judge-requires
judge-requires c =
    let p = c.requires.0 in
    let d = indexed-at p.ready p.at in
    let x = function_at d c.requires.1 in (
      record {
        program = p.program;
        function = x.element;
        indexed = d;
        is = x.is;
        witnessed = witnessed-at p.ready p.at;
        from = c.first_sentence-first.ensures c.args.b.now p.program d;
        upto = rw add-one at (c.first_sentence-end.ensures c.args.b.now p.program d);
      },
      c.requires.2,
    )

pub shape_of-work-then-not-judge : goal.shape_of-work-then-not-judge
shape_of-work-then-not-judge c = c.judge.ensures.others.length

pub returns-then-not-judge : goal.returns-then-not-judge
returns-then-not-judge c w old before r a =
    let d = indexed-at r a in
    let x = function_at d c.requires.1 in
    let e = c.first_sentence-first.ensures c.args.b.now w d in
    let g = rw add-one at (c.first_sentence-end.ensures c.args.b.now w d) in
    judged_none r a x.element x.is c.if-f-root.false (sym (c.is_judged.ensures c.args.b.now w x.element d x.is) ∙ c.if-not-is_judged.false) e g c.judge.ensures.others
    (c.judge.ensures.judged w x.element d x.is (witnessed-at r a) e g) c.if-not-judge.true

pub drop_rejected-requires : goal.drop_rejected-requires
drop_rejected-requires c =
    let p = c.requires.0 in
    let d = indexed-at p.ready p.at in
    let e = c.first_sentence-first.ensures c.args.b.now p.program d in
    let g = rw add-one at (c.first_sentence-end.ensures c.args.b.now p.program d) in
    let l = c.judge.ensures.others.length in (
      omega (arith, e, g, before-later p.program.functions c.args.f (suc c.args.f) (omega arith)),
      omega (arith, g, end-at p.ready p.at),
      omega (arith, d.fits, d.small),
      p.ready.few,
      (omega (arith, l, d.fits), omega (arith, l, d.small)),
    )

pub shape_of-work : goal.shape_of-work
shape_of-work c = c.drop_rejected.ensures.others.length ∙ c.judge.ensures.others.length

pub returns : goal.returns
returns c w old before r a =
    let d = indexed-at r a in
    let x = function_at d c.requires.1 in
    let e = c.first_sentence-first.ensures c.args.b.now w d in
    let g = rw add-one at (c.first_sentence-end.ensures c.args.b.now w d) in
    judged_one r a x.element x.is c.if-f-root.false (sym (c.is_judged.ensures c.args.b.now w x.element d x.is) ∙ c.if-not-is_judged.false) e g c.judge.ensures.others
    (c.judge.ensures.judged w x.element d x.is (witnessed-at r a) e g) c.if-not-judge.false c.drop_rejected.ensures
