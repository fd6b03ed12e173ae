use Prim.Native.Nat.{ℕ, ◌+◌, ◌%◌, ◌<◌, ◌≤◌}
use native.Mathlib.Omega.{arith}
use mathlib.Core.Path.{◌≡◌, sym, ap, ◌∙◌}
use mathlib.Core.Bool.{Bool, true, false}
use mathlib.Core.List.{List}
use mathlib.Core.Option.{some}
use lib.ListN.{get_or, get_elem?, drop}
use Rattle.program.specs.Limits.{Mode}
use Rattle.image.specs.Parts.{TermsAt}
use Rattle.program.specs.Sentences.{Sentence}
use Rattle.program.specs.Syntax.{Function, Program}
use Rattle.told.specs.Numbered.{Held, sites_of}
use Rattle.index.specs.Layout.{links, lines}
use Rattle.index.specs.declared.Plan.{Plan}
use Rattle.index.proofs.First.{Element}
use Rattle.meaning.specs.Lists.{any}
use Rattle.told.specs.Calls.{is_listed}
use Rattle.index.specs.Links.{entry_next}
use Rattle.told.specs.History.{is_there, after_all}
use Rattle.cleaning.specs.Indexed.{Indexed, fell_of}
use Rattle.cleaning.specs.Room.{Used}
use Rattle.cleaning.specs.Walks.{Owns}
use Rattle.told.specs.ToldReport.{overlaps}
use Rattle.cleaning.proofs.Room.{used_same, used_then, used_indexed}
use Rattle.cleaning.proofs.Walking.{Going}
use Rattle.report.specs.Emitting.{Readable}
use Rattle.report.proofs.Places.{owner_below, owned_below, pattern-at}
use Rattle.report.proofs.RoomUsed.{used_keep, used_next}
use Rattle.report.proofs.Verdicts.{overlaps-less, walk_first, walk_end, walk-element, walk-listed, walk_found, walk-next}
use Rattle.report.proofs.decided.is_decided.Goals as goal
use Rattle.report.proofs.decided.is_decided.Goals.{After-next_site-i}

-- A sentence's walk along the list of its function, at the place j: which site is there, and what its verdict says.
module _ {b m : List ℕ} {w : Program} {p : Plan} {f s j : ℕ} {x : Function} {y : Sentence} (d : Readable b w m p) (o : Owns w f x s y)
    (g : Going (is_listed true x.name) (overlaps (is_there (fell_of p m) after_all) x.name y.pattern) 0 (sites_of w) j) where
  abbrev test : Held → Bool
  test = overlaps (is_there (fell_of p m) after_all) x.name y.pattern

  abbrev less : (z : Held) → is_listed true x.name z ≡ false → test z ≡ false
  less = overlaps-less (is_there (fell_of p m) after_all) x.name y.pattern

  none-overlaps : p.sites ≤ j → false ≡ any test (sites_of w)
  none-overlaps h = walk_end d.indexed f x o.function test less g h

  module _ (h : j < p.sites) where
    abbrev here : Element (sites_of w) j
    here = walk-element d.indexed f x o.function test less g h

    here_listed : is_listed true x.name here.element ≡ true
    here_listed = walk-listed d.indexed f x o.function test less g h

    module _ {n : List ℕ} (u : Used p m n) (q : ℕ) (z : q ≡ get_or m (lines p + s) 0 % 32768 + 9) (r : Bool)
        (a : (w : Program) (f : ℕ) (x : Function) (y : Held) → Indexed b w n p → get_elem? w.functions f ≡ some x → get_elem? (sites_of w) j ≡ some y → is_listed true x.name y ≡ true
        → (t : TermsAt Mode.pattern (drop q b)) → r ≡ overlaps (is_there (fell_of p n) after_all) x.name t.terms y) where
      overlaps_here : r ≡ test here.element
      overlaps_here =
          a w f x here.element (used_indexed u d.indexed) o.function here.is here_listed (pattern-at d s y o.sentence q z)
          ∙ ap (λ (k : ℕ → Bool). overlaps k x.name y.pattern here.element) (used_keep u after_all)

      one-overlaps : r ≡ true → true ≡ any test (sites_of w)
      one-overlaps e = walk_found d.indexed f x o.function test less g h (sym overlaps_here ∙ e)

      goes-on : r ≡ false → (v : ℕ) → v ≡ entry_next (get_or m (links p + j) 0) → Going (is_listed true x.name) test 0 (sites_of w) v × (j < v)
      goes-on e v k = walk-next d.indexed f x o.function test less g h (sym overlaps_here ∙ e) v k

-- A turn in which none overlaps leads to the next site of the list.
next-site : (c : After-next_site-i) (w : Program) (x : Function) (y : Sentence) → Readable c.args.b.now w c.args.work.now c.args.plan → Owns w c.args.f x c.args.s y
    → Going (is_listed true x.name) (overlaps (is_there (fell_of c.args.plan c.args.work.now) after_all) x.name y.pattern) 0 (sites_of w) c.next_site-i.result × (c.loop-i.i < c.next_site-i.result)
next-site c w x y d o =
    let u = c.loop-i.invariant.1 in
    let l = c.loop-i-test.true in
    let q = c.pattern_place-pattern in
    let v = c.overlaps_at in
    let n = c.next_site-i in
    goes-on d o (c.loop-i.invariant.0 w x y d o) l u q.result q.ensures.0 v.result v.ensures.answers c.if-overlaps_at.false
    n.result (used_next (used_then u v.ensures.keeps) c.links-links.result c.loop-i.i c.links-links.ensures l n.result n.ensures.0)

pub pattern_place-pattern-requires : goal.pattern_place-pattern-requires
pattern_place-pattern-requires c =
    let d = c.requires.readable.indexed in (owned_below c.requires.readable c.requires.owns, (omega (arith, d.fits), d.small))

pub links-links-requires : goal.links-links-requires
links-links-requires c = let d = c.requires.readable.indexed in (omega (arith, d.fits, d.small), omega (arith, d.fits, d.small), omega (arith, d.fits, d.small))

pub witness_of-i-requires : goal.witness_of-i-requires
witness_of-i-requires c =
    let p = c.requires in
    let d = p.readable.indexed in (owner_below p.readable p.owns, owned_below p.readable p.owns, (d.fits, d.small))

pub loop-i-init : goal.loop-i-init
loop-i-init c =
    (λ w x y d o. walk_first d o c.witness_of-i.result c.witness_of-i.ensures, used_same)

pub overlaps_at-requires : goal.overlaps_at-requires
overlaps_at-requires c =
    let p = c.requires in
    let g = c.loop-i.invariant.0 p.program p.function p.sentence p.readable p.owns in
    let u = here p.readable p.owns g c.loop-i-test.true in (
      record {
        program = p.program;
        indexed = used_indexed c.loop-i.invariant.1 p.readable.indexed;
        place = c.args.f;
        function = p.function;
        is = p.owns.function;
        site = u.element;
        at = u.is;
        listed = here_listed p.readable p.owns g c.loop-i-test.true;
        reading = pattern-at p.readable c.args.s p.sentence p.owns.sentence c.pattern_place-pattern.result c.pattern_place-pattern.ensures.0;
      },
      p.readable.short,
    )

pub shape_of-work-then-overlaps_at : goal.shape_of-work-then-overlaps_at
shape_of-work-then-overlaps_at c = c.overlaps_at.ensures.keeps.length ∙ c.loop-i.invariant.1.length

pub returns-then-overlaps_at : goal.returns-then-overlaps_at
returns-then-overlaps_at c =
    let q = c.pattern_place-pattern in
    let v = c.overlaps_at in record {
      answers = λ w x y d o. one-overlaps d o (c.loop-i.invariant.0 w x y d o) c.loop-i-test.true c.loop-i.invariant.1 q.result q.ensures.0 v.result v.ensures.answers c.if-overlaps_at.true;
      keeps = used_then c.loop-i.invariant.1 v.ensures.keeps;
    }

pub next_site-i-requires : goal.next_site-i-requires
next_site-i-requires c = let d = c.requires.readable.indexed in omega (arith, d.fits, c.loop-i-test.true, c.links-links.ensures, c.loop-i.invariant.1.length, c.overlaps_at.ensures.keeps.length)

pub loop-i-smaller : goal.loop-i-smaller
loop-i-smaller c =
    let p = c.requires in
    omega (arith, c.loop-i-test.true, (next-site (goal.at.loop-i-smaller c).After-next_site-i p.program p.function p.sentence p.readable p.owns).1)

pub loop-i-preserved : goal.loop-i-preserved
loop-i-preserved c = (λ w x y d o. (next-site (goal.at.loop-i-preserved c).After-next_site-i w x y d o).0, used_then c.loop-i.invariant.1 c.overlaps_at.ensures.keeps)

pub shape_of-work : goal.shape_of-work
shape_of-work c = c.loop-i.invariant.1.length

pub returns : goal.returns
returns c = record { answers = λ w x y d o. none-overlaps d o (c.loop-i.invariant.0 w x y d o) c.loop-i-test.false; keeps = c.loop-i.invariant.1 }
