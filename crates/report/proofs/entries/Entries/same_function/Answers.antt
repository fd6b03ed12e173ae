-- `report::entries::Entries::same_function` meets its contract. Assumes nothing.
use native.Mathlib.Omega.{arith}
use mathlib.Core.Path.{ap₂, ◌∙◌}
use Rattle.patterns.specs.Names.{eq_bytes}
use Rattle.report.proofs.Places.{function_of, named-at}
use Rattle.symbols.proofs.Compared.{bytes_equal}
use Rattle.report.proofs.entries.Entries.same_function.Goals as goal

pub place_of-p-requires : goal.place_of-p-requires
place_of-p-requires c = omega (arith, c.requires.1, c.requires.0.readable.indexed.fits)

pub place_of-q-requires : goal.place_of-q-requires
place_of-q-requires c = omega (arith, c.requires.2, c.requires.0.readable.indexed.fits)

pub function_name-requires : goal.function_name-requires
function_name-requires c =
    let x = function_of c.requires.0.readable c.args.f c.requires.1 in
    (named-at c.requires.0.readable c.args.f x.element x.is c.place_of-p.result c.place_of-p.ensures.0).stands

pub function_name-requires-2 : goal.function_name-requires-2
function_name-requires-2 c =
    let x = function_of c.requires.0.readable c.args.g c.requires.2 in
    (named-at c.requires.0.readable c.args.g x.element x.is c.place_of-q.result c.place_of-q.ensures.0).stands

pub returns : goal.returns
returns c = λ w x y d e g.
    let p = named-at d c.args.f x e c.place_of-p.result c.place_of-p.ensures.0 in
    let q = named-at d c.args.g y g c.place_of-q.result c.place_of-q.ensures.0 in
    c.eq.ensures ∙ bytes_equal _ _ ∙ ap₂ eq_bytes (c.function_name.ensures p.stands ∙ p.is) (c.function_name-2.ensures q.stands ∙ q.is)
