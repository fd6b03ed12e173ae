use Prim.Native.Nat.{ℕ, ◌+◌, ◌<◌}
use native.Mathlib.Omega.{arith}
use mathlib.Core.Path.{◌≡◌, sym, ◌∙◌}
use mathlib.Core.Bool.{Bool}
use mathlib.Core.List.{List}
use lib.ListN.{length, get_or, drop}
use Rattle.program.specs.Syntax.{Name}
use Rattle.program.specs.Encode.{put_terms}
use Rattle.program.specs.Limits.{Mode}
use Rattle.image.specs.Parts.{TermsAt}
use Rattle.rows.proofs.Readings.{part}
use Rattle.patterns.specs.Configuration.{same_configuration}
use Rattle.restrictions.specs.Entries.{CallAt, entry_offset}
use Rattle.told.specs.Numbered.{Held}
use Rattle.index.specs.Lists.{ListAt, Among, SomeAmong}
use Rattle.index.proofs.Alike.{Alike, among_below, call_of, reading_of, repeat-same, alike-first, alike_next, alike-found, alike_end}
use Rattle.index.proofs.classes.first_alike.Goals as goal
use Rattle.index.proofs.classes.first_alike.Goals.{In-loop-j}

-- The entries of the site itself and of the one that the walk has come to are in the lent memory.
own-within : {b m : List ℕ} {calls links n head i : ℕ} → SomeAmong b m calls links n head i → calls + i < length m
own-within p = omega (arith, among_below p.list p.among, p.list.calls_fit)

both-within : (c : In-loop-j) → (c.args.calls + c.loop-j.j < length c.args.work.now) × (c.args.links + c.loop-j.j < length c.args.work.now)
both-within c =
    let p = c.requires.0 in
    let i = among_below p.list (c.loop-j.invariant p.name p.sites p.site p.list p.among).among in
    (omega (arith, i, p.list.calls_fit), omega (arith, i, p.list.links_fit))

-- What their arguments' bytes compare to, the arguments do.
same-arguments : {b m : List ℕ} {calls links n head i j : ℕ} {f : Name} {sites : List Held} {y : Held} (l : ListAt b m calls links n head f sites) (a : Among f sites i y) (w : Alike f sites y i j)
    → (p q : ℕ) → ((x : CallAt (drop (entry_offset (get_or m (calls + j) 0)) b)) → drop p b ≡ put_terms x.argument x.rest)
    → ((x : CallAt (drop (entry_offset (get_or m (calls + i) 0)) b)) → drop q b ≡ put_terms x.argument x.rest)
    → {r : Bool} → ((x : TermsAt Mode.pattern (part b p)) (z : TermsAt Mode.pattern (part b q)) → r ≡ same_configuration x.terms z.terms) → r ≡ same_configuration w.site.site.argument y.site.argument
same-arguments l a w p q e g h = h (reading_of l w.among p (e (call_of l w.among))) (reading_of l a q (g (call_of l a)))

pub overflow_add-own : goal.overflow_add-own
overflow_add-own c = omega (arith, own-within c.requires.0, c.requires.1)

pub offset_bounds-work-own : goal.offset_bounds-work-own
offset_bounds-work-own c = omega (arith, own-within c.requires.0, c.requires.1)

pub bounds-work-own : goal.bounds-work-own
bounds-work-own c = own-within c.requires.0

pub site_argument-q-requires : goal.site_argument-q-requires
site_argument-q-requires c = let p = c.requires.0 in call_of p.list p.among

pub loop-j-init : goal.loop-j-init
loop-j-init c = λ f sites y l a. alike-first l a

pub overflow_add-k : goal.overflow_add-k
overflow_add-k c = omega (arith, both-within (goal.at.overflow_add-k c).In-loop-j, c.requires.1)

pub offset_bounds-work-k : goal.offset_bounds-work-k
offset_bounds-work-k c = omega (arith, both-within (goal.at.offset_bounds-work-k c).In-loop-j, c.requires.1)

pub bounds-work-k : goal.bounds-work-k
bounds-work-k c = (both-within (goal.at.bounds-work-k c).In-loop-j).0

pub site_argument-p-requires : goal.site_argument-p-requires
site_argument-p-requires c = let p = c.requires.0 in call_of p.list (c.loop-j.invariant p.name p.sites p.site p.list p.among).among

pub slice_bounds-same_configuration-count : goal.slice_bounds-same_configuration-count
slice_bounds-same_configuration-count c = c.site_argument-p.ensures.0

pub slice_bounds-same_configuration-start : goal.slice_bounds-same_configuration-start
slice_bounds-same_configuration-start c = c.site_argument-p.ensures.0

pub slice_bounds-same_configuration-end : goal.slice_bounds-same_configuration-end
slice_bounds-same_configuration-end c = omega arith

pub slice_bounds-same_configuration-count-in-loop-j : goal.slice_bounds-same_configuration-count-in-loop-j
slice_bounds-same_configuration-count-in-loop-j c = c.site_argument-q.ensures.0

pub slice_bounds-same_configuration-start-in-loop-j : goal.slice_bounds-same_configuration-start-in-loop-j
slice_bounds-same_configuration-start-in-loop-j c = c.site_argument-q.ensures.0

pub slice_bounds-same_configuration-end-in-loop-j : goal.slice_bounds-same_configuration-end-in-loop-j
slice_bounds-same_configuration-end-in-loop-j c = omega arith

pub same_configuration-requires : goal.same_configuration-requires
same_configuration-requires c =
    let p = c.requires.0 in
    let w = c.loop-j.invariant p.name p.sites p.site p.list p.among in
    let r = c.site_argument-p in
    let q = c.site_argument-q in
    (reading_of p.list w.among r.result (r.ensures.1 (call_of p.list w.among)), reading_of p.list p.among q.result (q.ensures.1 (call_of p.list p.among)))

pub returns-then-same_configuration : goal.returns-then-same_configuration
returns-then-same_configuration c = λ f sites y l a.
    let p = c.site_argument-p in
    let q = c.site_argument-q in
    let w = c.loop-j.invariant f sites y l a in
    alike-found a w (repeat-same f y w.site w.among.listed (sym (same-arguments l a w p.result q.result p.ensures.1 q.ensures.1 c.same_configuration.ensures) ∙ c.if-same_configuration.true))

pub next_site-j-requires : goal.next_site-j-requires
next_site-j-requires c = (both-within (goal.at.next_site-j-requires c).In-loop-j).1

pub loop-j-smaller : goal.loop-j-smaller
loop-j-smaller c =
    let x = c.requires.0 in
    let p = c.site_argument-p in
    let q = c.site_argument-q in
    let t = c.loop-j-test.true in
    let w = c.loop-j.invariant x.name x.sites x.site x.list x.among in
    let n = alike_next x.list x.among w t (sym (same-arguments x.list x.among w p.result q.result p.ensures.1 q.ensures.1 c.same_configuration.ensures) ∙ c.if-same_configuration.false) in
    omega (arith, t, n.1, c.next_site-j.ensures.0)

pub loop-j-preserved : goal.loop-j-preserved
loop-j-preserved c = λ f sites y l a.
    let p = c.site_argument-p in
    let q = c.site_argument-q in
    let w = c.loop-j.invariant f sites y l a in
    rw c.next_site-j.ensures.0 (alike_next l a w c.loop-j-test.true (sym (same-arguments l a w p.result q.result p.ensures.1 q.ensures.1 c.same_configuration.ensures) ∙ c.if-same_configuration.false)).0

pub returns : goal.returns
returns c = λ f sites y l a. alike_end a (c.loop-j.invariant f sites y l a) c.loop-j-test.false
