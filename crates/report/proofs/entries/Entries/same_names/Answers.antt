-- `report::entries::Entries::same_names` meets its contract. Assumes nothing.
use native.Mathlib.Omega.{arith}
use mathlib.Core.Path.{ap₂, ◌∙◌}
use mathlib.Core.Bool.{true, false}
use Rattle.patterns.specs.Names.{same_name}
use Rattle.report.proofs.Namesakes.{heads_differ, heads-meet}
use Rattle.report.proofs.Places.{function_of, named-at}
use Rattle.report.proofs.entries.Entries.same_names.Goals as goal
use Rattle.report.proofs.entries.Entries.same_names.Goals.{then-head_site-self-via-then-head_site-self, then-head_site-self-via-else-head_site-self+then-head_site-self-2}

pub overflow_add-h : goal.overflow_add-h
overflow_add-h c = let d = c.requires.0.readable.indexed in omega (arith, d.fits, d.small, c.requires.1)

pub overflow_add-k : goal.overflow_add-k
overflow_add-k c = let d = c.requires.0.readable.indexed in omega (arith, d.fits, d.small, c.requires.2)

pub offset_bounds-self-h : goal.offset_bounds-self-h
offset_bounds-self-h c = let d = c.requires.0.readable.indexed in omega (arith, d.fits, d.small, c.requires.1)

pub bounds-self-h : goal.bounds-self-h
bounds-self-h c = let d = c.requires.0.readable.indexed in omega (arith, d.fits, d.small, c.requires.1)

pub offset_bounds-self-k : goal.offset_bounds-self-k
offset_bounds-self-k c = let d = c.requires.0.readable.indexed in omega (arith, d.fits, d.small, c.requires.2)

pub bounds-self-k : goal.bounds-self-k
bounds-self-k c = let d = c.requires.0.readable.indexed in omega (arith, d.fits, d.small, c.requires.2)

pub returns-then-self-h : goal.returns-then-self-h
returns-then-self-h c = λ w v x d e k.
    let a = c.args in
    heads_differ d.indexed a.g a.f v x e k c.if-self-h.true

pub head_site-requires : goal.head_site-requires
head_site-requires c = let d = c.requires.0.readable.indexed in omega (arith, d.fits, d.small, c.requires.2)

pub head_site-requires-else-head_site-self : goal.head_site-requires-else-head_site-self
head_site-requires-else-head_site-self c = let d = c.requires.0.readable.indexed in omega (arith, d.fits, d.small, c.requires.2)

pub returns-then-head_site-self : goal.returns-then-head_site-self
returns-then-head_site-self c = λ w v x d e k.
    let a = c.args in
    elim c.then-head_site-self.branch [
      | then-head_site-self-via-then-head_site-self z ↦ heads-meet d.indexed a.g a.f v x e k c.if-self-h.false true c.head_site.result c.head_site.ensures.0 z.if-head_site-self.true
      | then-head_site-self-via-else-head_site-self+then-head_site-self-2 z ↦ heads-meet d.indexed a.g a.f v x e k c.if-self-h.false false z.head_site-else-head_site-self.result z.head_site-else-head_site-self.ensures.0 z.if-head_site-self-2.true
    ]

pub place_of-p-requires : goal.place_of-p-requires
place_of-p-requires c = let d = c.requires.0.readable.indexed in omega (arith, d.fits, d.small, c.requires.1)

pub place_of-q-requires : goal.place_of-q-requires
place_of-q-requires c = let d = c.requires.0.readable.indexed in omega (arith, d.fits, d.small, c.requires.2)

pub function_name-requires : goal.function_name-requires
function_name-requires c =
    let x = function_of c.requires.0.readable c.args.g c.requires.1 in
    (named-at c.requires.0.readable c.args.g x.element x.is c.place_of-p.result c.place_of-p.ensures.0).stands

pub function_name-requires-2 : goal.function_name-requires-2
function_name-requires-2 c =
    let x = function_of c.requires.0.readable c.args.f c.requires.2 in
    (named-at c.requires.0.readable c.args.f x.element x.is c.place_of-q.result c.place_of-q.ensures.0).stands

pub returns : goal.returns
returns c = λ w v x d e k.
    let p = named-at d c.args.g v e c.place_of-p.result c.place_of-p.ensures.0 in
    let q = named-at d c.args.f x k c.place_of-q.result c.place_of-q.ensures.0 in
    c.same_name.ensures ∙ ap₂ same_name (c.function_name.ensures p.stands ∙ p.is) (c.function_name-2.ensures q.stands ∙ q.is)
