-- `cleaner::boundary::showclean_overlap` meets its contract. Assumes nothing.
use mathlib.Core.Path.{◌∙◌, ap}
use Rattle.answers.specs.Packed.{packed}
use Rattle.cleaner.proofs.Packing.{compared_fits, no_comparison_fits, compared_packed, no_comparison_packed}
use Rattle.cleaner.proofs.boundary.showclean_overlap.Goals as goal

pub pack-requires : goal.pack-requires
pack-requires c =
    let a = c.args in
    let k = c.overlap in
    rw c.from.ensures (compared_fits a.img.now a.first a.second k.result k.ensures c.in-Ok.c c.verdict_number.result c.verdict_number.ensures c.in-Ok.is)

pub pack_refusal-requires : goal.pack_refusal-requires
pack_refusal-requires c =
    let a = c.args in
    no_comparison_fits a.img.now a.first a.second c.overlap.result c.overlap.ensures c.in-Err.f c.in-Err.is

pub returns-in-Ok : goal.returns-in-Ok
returns-in-Ok c =
    let a = c.args in
    let k = c.overlap in
    c.pack.ensures ∙ (ap (packed 0 c.verdict_number.result) c.from.ensures ∙ compared_packed a.img.now a.first a.second k.result k.ensures c.in-Ok.c c.verdict_number.result c.verdict_number.ensures c.in-Ok.is)

pub returns-in-Err : goal.returns-in-Err
returns-in-Err c =
    let a = c.args in
    c.pack_refusal.ensures ∙ no_comparison_packed a.img.now a.first a.second c.overlap.result c.overlap.ensures c.in-Err.f c.in-Err.is
