-- `cleaning::walks::is_judged` meets its contract. Assumes nothing.
use native.Mathlib.Omega.{arith}
use mathlib.Core.Path.{sym, ◌∙◌}
use mathlib.Core.Bool.{true, false}
use Rattle.index.proofs.First.{Element, element_at}
use Rattle.told.specs.History.{is_there}
use Rattle.told.specs.Numbered.{sites_of}
use Rattle.cleaning.specs.Indexed.{fell_of}
use Rattle.cleaning.proofs.Indexed.{indexed-walkable}
use Rattle.cleaning.proofs.Walking.{head_first, walk_from, judged_open, judged_plain}
use Rattle.cleaning.proofs.walks.is_judged.Goals as goal

pub head_site-other-requires : goal.head_site-other-requires
head_site-other-requires c = let d = c.requires.0.indexed in omega (arith, d.fits, c.requires.1)

pub first_there-open-requires : goal.first_there-open-requires
first_there-open-requires c =
    let element : Element c.requires.0.program.functions c.args.f = element_at c.requires.0.program.functions c.args.f (omega (arith, c.requires.0.indexed.functions, c.requires.1)) in
    let x = element in
    walk_from c.requires.0.indexed c.args.f x.element x.is false c.head_site-other.result c.head_site-other.ensures.0

pub returns-then-is_some : goal.returns-then-is_some
returns-then-is_some c = λ b w x d e.
    let f = c.args.f in
    let first = c.first_there-open.ensures false x.name (sites_of w) 0 (indexed-walkable d false f x e) (head_first d f x e false c.head_site-other.result c.head_site-other.ensures.0) in
    judged_open (is_there (fell_of c.args.plan c.args.work.now) c.args.round) x.name (sites_of w) c.first_there-open.result first (sym c.is_some.ensures ∙ c.if-is_some.true)

pub head_site-first-requires : goal.head_site-first-requires
head_site-first-requires c = let d = c.requires.0.indexed in omega (arith, d.fits, c.requires.1)

pub first_there-plain-requires : goal.first_there-plain-requires
first_there-plain-requires c =
    let x : Element c.requires.0.program.functions c.args.f = element_at c.requires.0.program.functions c.args.f (omega (arith, c.requires.0.indexed.functions, c.requires.1)) in
    walk_from c.requires.0.indexed c.args.f x.element x.is true c.head_site-first.result c.head_site-first.ensures.0

pub returns : goal.returns
returns c = λ b w x d e.
    let f = c.args.f in
    let first = c.first_there-open.ensures false x.name (sites_of w) 0 (indexed-walkable d false f x e) (head_first d f x e false c.head_site-other.result c.head_site-other.ensures.0) in
    let plain = c.first_there-plain.ensures true x.name (sites_of w) 0 (indexed-walkable d true f x e) (head_first d f x e true c.head_site-first.result c.head_site-first.ensures.0) in
    c.is_some-2.ensures ∙ judged_plain (is_there (fell_of c.args.plan c.args.work.now) c.args.round) x.name (sites_of w) c.first_there-open.result first (sym c.is_some.ensures ∙ c.if-is_some.false) c.first_there-plain.result plain
