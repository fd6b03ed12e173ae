-- `cleaning::prepare::link_lists` meets its contract. Assumes nothing.
use Prim.Native.Nat.{ℕ, ◌+◌}
use native.Mathlib.Omega.{arith}
use mathlib.Core.Path.{◌≡◌, ap, ◌∙◌}
use mathlib.Core.Bool.{Bool, true, false}
use Rattle.index.specs.Links.{list_head}
use Rattle.told.specs.Numbered.{sites_of}
use Rattle.cleaning.proofs.LinkedLists.{room-left, tabled-filled, indexed-cleared, filed-cleared, columns-cleared, indexed-linked, filed-linked, small-linked, lists_kept, chains-linked}
use Rattle.cleaning.proofs.prepare.link_lists.Goals as goal

pub file_functions-requires : goal.file_functions-requires
file_functions-requires c =
    let p = c.requires in
    let l = p.listed in
    let e = c.calls-calls.ensures in
    let t = tabled-filled l c.calls-calls.result e c.fill.ensures.others in
    let f = room-left l c.calls-calls.result e in (
      record { functions = p.program.functions; tabled = t },
      omega (arith, e),
      omega (arith, c.fill.ensures.others.length, f),
      omega (arith, c.fill.ensures.others.length, l.small),
      omega (arith, f),
      λ k h. c.fill.ensures.filled (c.calls-calls.result + c.args.plan.sites + c.args.plan.sites + c.args.plan.functions + k) (omega arith) (omega (arith, h, f)),
    )

-- The two heads of an entry.
either : (kind : Bool) (e n : ℕ) → list_head true e ≡ n → list_head false e ≡ n → list_head kind e ≡ n
either true e n p o = p
either false e n p o = o

pub link_sites-requires : goal.link_sites-requires
link_sites-requires c =
    let p = c.requires in
    let l = p.listed in
    let r = c.calls-calls.result in
    let e = c.calls-calls.ensures in
    let a = c.fill.ensures.others in
    let d = c.file_functions.ensures.filed p.program.functions (tabled-filled l r e a) in
    let x = indexed-cleared l r e a c.file_functions.ensures.others d c.fill-2.ensures.others in (
      filed-cleared l r e a c.file_functions.ensures.others d c.fill-2.ensures.others,
      record { held = sites_of p.program; entries = x.entries; count = x.count },
      columns-cleared l r e a c.file_functions.ensures.others d c.fill-2.ensures.others,
      λ kind f h. ap (list_head kind) (c.fill-2.ensures.filled (c.args.plan.functions + f) (omega arith) (omega (arith, h))) ∙ either kind c.packed.result c.args.plan.sites c.packed.ensures.0 c.packed.ensures.1,
    )

pub share_heads-requires : goal.share_heads-requires
share_heads-requires c =
    let p = c.requires in
    let l = p.listed in
    let r = c.calls-calls.result in
    let e = c.calls-calls.ensures in
    let a = c.fill.ensures.others in
    let d = c.file_functions.ensures.filed p.program.functions (tabled-filled l r e a) in
    let y = c.fill-2.ensures.others in
    let o = c.link_sites.ensures.others in (
      filed-linked l r e a c.file_functions.ensures.others d y o,
      omega (arith, e),
      small-linked l r e a c.file_functions.ensures.others d y o,
    )

pub returns : goal.returns
returns c = λ w l.
    let r = c.calls-calls.result in
    let e = c.calls-calls.ensures in
    let a = c.fill.ensures.others in
    let d = c.file_functions.ensures.filed w.functions (tabled-filled l r e a) in
    let y = c.fill-2.ensures.others in
    let x = indexed-cleared l r e a c.file_functions.ensures.others d y in
    let v = indexed-linked l r e a c.file_functions.ensures.others d y c.link_sites.ensures.others in (
      chains-linked l r e a c.file_functions.ensures.others d y c.link_sites.ensures.others c.share_heads.ensures.others (c.share_heads.ensures.headed w.functions (sites_of w) v.tabled v.filed (c.link_sites.ensures.headed w.functions (sites_of w) x)) (c.link_sites.ensures.chained w.functions (sites_of w) x),
      lists_kept l r e a c.file_functions.ensures.others d y c.link_sites.ensures.others c.share_heads.ensures.others,
    )
