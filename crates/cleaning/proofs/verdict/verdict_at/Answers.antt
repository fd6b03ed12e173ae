-- `cleaning::verdict::verdict_at` meets its contract. Assumes nothing.
use Prim.Native.Nat.{ℕ, ◌+◌, ◌<◌, ◌≤◌}
use native.Mathlib.Omega.{arith}
use mathlib.Core.List.{List}
use lib.ListN.{length}
use Rattle.told.specs.Numbered.{sites_of}
use Rattle.index.specs.declared.Plan.{Plan}
use Rattle.index.specs.Layout.{calls}
use Rattle.index.specs.Lists.{Among}
use Rattle.index.proofs.Alike.{call_of, reading_of}
use Rattle.cleaning.specs.Walks.{SomeAsked}
use Rattle.cleaning.proofs.Meeting.{list_at, site-below, from_part}
use Rattle.cleaning.proofs.Room.{used_from_part}
use Rattle.cleaning.proofs.verdict.verdict_at.Goals as goal

-- The site has an entry in work.
entry_inside : {b m : List ℕ} {p : Plan} {pattern i : ℕ} → SomeAsked b m p pattern i → (calls p + i < length m) × (length m ≤ 8192)
entry_inside {i = i} q =
    let d = q.indexed in
    (omega (arith, site-below d q.place q.function q.is i q.site q.at, d.fits), d.small)

pub calls-requires : goal.calls-requires
calls-requires c = let d = c.requires.0.indexed in (omega (arith, d.fits, d.small), omega (arith, d.fits, d.small))

pub overflow_add-k : goal.overflow_add-k
overflow_add-k c = omega (arith, entry_inside c.requires.0)

pub offset_bounds-work-k : goal.offset_bounds-work-k
offset_bounds-work-k c = omega (arith, entry_inside c.requires.0)

pub bounds-work-k : goal.bounds-work-k
bounds-work-k c = omega (arith, entry_inside c.requires.0)

pub site_argument-q-requires : goal.site_argument-q-requires
site_argument-q-requires c =
    let a = c.requires.0 in
    call_of (list_at a.indexed a.place a.function a.is c.calls.result c.calls.ensures) (record { is = a.at; listed = a.listed })

pub patterns_verdict-requires : goal.patterns_verdict-requires
patterns_verdict-requires c =
    let a = c.requires.0 in
    let l = list_at a.indexed a.place a.function a.is c.calls.result c.calls.ensures in
    let m : Among a.function.name (sites_of a.program) c.args.i a.site = record { is = a.at; listed = a.listed } in (
      a.reading,
      from_part c.args.b.now c.site_argument-q.result (reading_of l m c.site_argument-q.result (c.site_argument-q.ensures.1 (call_of l m))),
      c.requires.1,
    )

pub returns : goal.returns
returns c =
    let n = c.room-from in record {
      answers = λ w f x y d e g i t.
          let l = list_at d f x e c.calls.result c.calls.ensures in
          let m : Among x.name (sites_of w) c.args.i y = record { is = g; listed = i } in
          c.patterns_verdict.ensures.answers t (from_part c.args.b.now c.site_argument-q.result (reading_of l m c.site_argument-q.result (c.site_argument-q.ensures.1 (call_of l m))));
      keeps = used_from_part c.args.plan c.args.work.now n.result n.ensures c.requires.0.indexed.fits c.patterns_verdict.new.room c.patterns_verdict.ensures.keeps;
    }
