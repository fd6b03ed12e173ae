use Prim.Native.Nat.{ℕ, ◌%◌}
use native.Mathlib.Omega.{arith}
use mathlib.Core.Path.{◌≡◌, refl, sym, ap, subst, ◌∙◌}
use mathlib.Core.List.{List}
use mathlib.Core.Option.{some}
use lib.ListN.{get_or, get_elem?, drop}
use Rattle.program.specs.Syntax.{Function}
use Rattle.program.specs.Encode.{visibility_byte}
use Rattle.image.specs.Parts.{FunctionAt}
use Rattle.index.specs.Tabled.{Tabled}
use Rattle.index.proofs.Entries.{element_of, tabled-entry, placed-stands}
use Rattle.cleaning.proofs.EntryPlace.{entry_byte, local_byte, local-next, root-found, root_none}
use Rattle.cleaning.proofs.root.root_place.Goals as goal

pub loop-f-init : goal.loop-f-init
loop-f-init c = (omega arith, λ fs t j x q l. absurd (omega (arith, l)))

pub visibility_at-requires : goal.visibility_at-requires
visibility_at-requires c = placed-stands c.requires.tabled c.loop-f.f c.place_of-p.result c.place_of-p.ensures.0 c.loop-f-test.true

-- What was read at the place of the f-th function is its visibility.
read : {b m : List ℕ} {n : ℕ} {fs : List Function} (t : Tabled b m n fs) (f p : ℕ) → p ≡ get_or m f 0 % 32768 → (x : Function) → get_elem? fs f ≡ some x → (v : ℕ) → ((y : FunctionAt (drop p b)) → v ≡ visibility_byte y.function.visibility) → visibility_byte x.visibility ≡ v
read {b} {m} t f p e x q v h =
    let z = tabled-entry t f (get_or m f 0) refl x q in
    sym (subst (λ (r : ℕ). (y : FunctionAt (drop r b)) → v ≡ visibility_byte y.function.visibility) e h z.stands ∙ ap (λ (y : Function). visibility_byte y.visibility) z.is)

pub returns-then-visibility_at-eq1 : goal.returns-then-visibility_at-eq1
returns-then-visibility_at-eq1 c = λ fs t.
    let f = c.loop-f.f in
    let x = element_of fs f (omega (arith, t.count, c.loop-f-test.true)) in
    let e = read t f c.place_of-p.result c.place_of-p.ensures.0 x.element x.is c.visibility_at.result c.visibility_at.ensures in
    sym (root-found fs f (c.loop-f.invariant.1 fs t) x.element x.is (entry_byte x.element.visibility (e ∙ c.if-visibility_at-eq1.true)))

pub loop-f-preserved : goal.loop-f-preserved
loop-f-preserved c = (
  omega (arith, c.loop-f-test.true),
  λ fs t.
      let f = c.loop-f.f in
      let x = element_of fs f (omega (arith, t.count, c.loop-f-test.true)) in
      let e = read t f c.place_of-p.result c.place_of-p.ensures.0 x.element x.is c.visibility_at.result c.visibility_at.ensures in
      local-next fs f x.element x.is (local_byte x.element.visibility (λ z. c.if-visibility_at-eq1.false (sym e ∙ z))) (c.loop-f.invariant.1 fs t),
)

pub returns : goal.returns
returns c = λ fs t. sym (root_none fs c.loop-f.f (c.loop-f.invariant.1 fs t) (omega (arith, c.loop-f-test.false, t.count)))
