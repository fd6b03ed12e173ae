-- `cleaning::walks::witness_of` meets its contract. Assumes nothing.
use Prim.Native.Nat.{ℕ, ◌+◌, ◌-◌}
use native.Mathlib.Omega.{arith}
use mathlib.Core.Path.{◌≡◌, sym, ap, ◌∙◌}
use mathlib.Core.Bool.{true}
use lib.ListN.{get_or}
use Rattle.index.specs.Layout.{heads, witnesses}
use Rattle.index.specs.Links.{list_head}
use Rattle.cleaning.proofs.Walking.{witness-none, witness-some}
use Rattle.cleaning.proofs.walks.witness_of.Goals as goal

pub returns-in-Some : goal.returns-in-Some
returns-in-Some c =
    let a = c.args in
    let same : get_or a.work.now (c.witnesses.result + a.s) 0 ≡ get_or a.work.now (witnesses a.plan + a.s) 0 = ap (λ (k : ℕ). get_or a.work.now (k + a.s) 0) c.witnesses.ensures in
    let e = c.in-Some.ensures in
    e.1 ∙ ap (λ (v : ℕ). v - 1) same ∙ witness-some (get_or a.work.now (witnesses a.plan + a.s) 0) (list_head true (get_or a.work.now (heads a.plan + a.f) 0)) (λ z. omega (arith, z, same, e.0))

pub returns-in-None : goal.returns-in-None
returns-in-None c =
    let a = c.args in
    let same : get_or a.work.now (c.witnesses.result + a.s) 0 ≡ get_or a.work.now (witnesses a.plan + a.s) 0 = ap (λ (k : ℕ). get_or a.work.now (k + a.s) 0) c.witnesses.ensures in
    let none = c.in-None.ensures in
    let zero : get_or a.work.now (c.witnesses.result + a.s) 0 ≡ 0 = omega (arith, none) in
    c.head_site.ensures.0 ∙ witness-none (get_or a.work.now (witnesses a.plan + a.s) 0) (list_head true (get_or a.work.now (heads a.plan + a.f) 0)) (sym same ∙ zero)
