-- `cleaning::prepare::is_first` meets its contract. Assumes nothing.
use native.Mathlib.Omega.{arith}
use Prim.Native.Nat.{ℕ}
use mathlib.Core.Path.{◌≡◌, sym, subst, ◌∙◌}
use mathlib.Core.Bool.{false, true≢false}
use mathlib.Core.List.{List}
use mathlib.Core.Option.{some}
use lib.Dec.{eqb}
use Rattle.std.specs.Prelude.{Option, None, Some}
use Rattle.std.specs.Option.{option_eq}
use lib.ListN.{get_elem?}
use borrow.Author.Tests.{eqb-false}
use Rattle.program.specs.Syntax.{Name, Function}
use Rattle.index.specs.First.{FirstFrom}
use Rattle.index.specs.Bucket.{is_named}
use Rattle.index.proofs.Entries.{placed-stands, placed-name}
use Rattle.index.proofs.Shared.{own-found}
use Rattle.cleaning.specs.Prepared.{Earlier}
use Rattle.cleaning.proofs.Classes.{earlier-named}
use Rattle.cleaning.proofs.prepare.is_first.Goals as goal

pub place_of-p-requires : goal.place_of-p-requires
place_of-p-requires c = omega (arith, c.requires.2, c.requires.0.tabled.fits)

pub function_name-requires : goal.function_name-requires
function_name-requires c = placed-stands c.requires.0.tabled c.args.f c.place_of-p.result c.place_of-p.ensures.0 c.requires.2

pub function_named-requires : goal.function_named-requires
function_named-requires c = let p = c.requires in (p.0, p.1)

-- The first function of its name that a function is not is an earlier one.
another : (fs : List Function) (f : ℕ) (x : Function) → get_elem? fs f ≡ some x → (o : Option ℕ) → FirstFrom (is_named x.name) 0 fs o → option_eq eqb o (Some f) ≡ false → Earlier fs f x
another fs f x q None c e = absurd (true≢false (sym (own-found fs f x q None c)))
another fs f x q (Some g) c e = earlier-named fs f g x q c.0 (eqb-false g f e)

pub returns : goal.returns
returns c = λ fs x t d q e.
    let f = c.args.f in
    let o = c.function_named.result in
    let n = placed-name t f c.place_of-p.result c.place_of-p.ensures.0 x q c.function_name.result.now c.function_name.ensures in
    let h = subst (λ (v : Name). FirstFrom (is_named v) 0 fs o) n (c.function_named.ensures fs t d) in
    another fs f x q o h (sym c.eq.ensures ∙ e)
