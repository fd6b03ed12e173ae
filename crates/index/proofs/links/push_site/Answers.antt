-- `index::links::push_site` meets its contract. Assumes nothing.
use Prim.Native.Nat.{◌<◌}
use mathlib.Core.Path.{◌∙◌, ap, sym, subst}
use Rattle.index.specs.declared.table.Heads.{Heads}
use Rattle.index.specs.Links.{is_plain_list}
use Rattle.index.proofs.Linked.{pushed}
use Rattle.index.proofs.Heads.{first_head, replaced-head, heads-fit}
use Rattle.index.proofs.links.push_site.Goals as goal

pub packed-requires : goal.packed-requires
packed-requires c =
    let h = c.from-heads.ensures in
    subst (λ (x : Heads). (x.plain < 8192) × (x.other < 524288)) (sym c.with_first.ensures) (heads-fit c.args.kind c.from-heads.result c.args.i c.requires.3 h.2 h.3)

pub returns : goal.returns
returns c =
    let a = c.args in
    let h = c.from-heads.ensures in
    let p = c.packed.ensures in
    let r = replaced-head a.kind c.from-heads.result _ a.i c.packed.result h.0 h.1 (p.0 ∙ ap (λ (x : Heads). x.plain) c.with_first.ensures) (p.1 ∙ ap (λ (x : Heads). x.other) c.with_first.ensures) in
    pushed (is_plain_list a.kind) a.work.now a.head a.link a.i c.first.result c.packed.result c.requires.0 c.requires.1 (c.first.ensures ∙ first_head a.kind c.from-heads.result _ h.0 h.1) r.0 r.1
