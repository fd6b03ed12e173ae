-- `cleaner::boundary::showclean_overlap_expression` meets its contract. Assumes nothing.
use Prim.Native.Nat.{ℕ, ◌+◌, ◌*◌}
use native.Mathlib.Omega.{arith}
use mathlib.Core.Path.{◌∙◌, ap}
use Rattle.program.proofs.Numbers.{bytes_of}
use Rattle.answers.specs.Packed.{packed}
use Rattle.cleaner.proofs.Packing.{shared_fits, shared_small, no_sharing_fits, shared_packed, no_sharing_packed}
use Rattle.cleaner.proofs.boundary.showclean_overlap_expression.Goals as goal

pub overflow_add-middle : goal.overflow_add-middle
overflow_add-middle c =
    let a = c.args in
    omega (arith, c.from.ensures, shared_small a.img.now (bytes_of a.img.now (λ i. omega (arith, c.type_inv.img i))) a.first a.second a.expression.now c.overlap_expression.result c.overlap_expression.ensures.answered c.in-Ok.c c.verdict_number.result c.verdict_number.ensures c.in-Ok.is)

pub pack-requires : goal.pack-requires
pack-requires c =
    let a = c.args in
    rw c.from.ensures (shared_fits a.img.now (bytes_of a.img.now (λ i. omega (arith, c.type_inv.img i))) a.first a.second a.expression.now c.overlap_expression.result c.overlap_expression.ensures.answered c.in-Ok.c c.verdict_number.result c.verdict_number.ensures c.in-Ok.is)

pub pack_refusal-requires : goal.pack_refusal-requires
pack_refusal-requires c =
    let a = c.args in
    no_sharing_fits a.img.now (bytes_of a.img.now (λ i. omega (arith, c.type_inv.img i))) a.first a.second a.expression.now c.overlap_expression.result c.overlap_expression.ensures.answered c.in-Err.f c.in-Err.is

pub returns-in-Ok-clause-answered : goal.returns-in-Ok-clause-answered
returns-in-Ok-clause-answered c =
    let a = c.args in
    c.pack.ensures ∙ (ap (λ (n : ℕ). packed 0 (c.verdict_number.result + 4 * n) c.in-Ok.c.length) c.from.ensures ∙ shared_packed a.img.now (bytes_of a.img.now (λ i. omega (arith, c.type_inv.img i))) a.first a.second a.expression.now c.overlap_expression.result c.overlap_expression.ensures.answered c.in-Ok.c c.verdict_number.result c.verdict_number.ensures c.in-Ok.is)

pub returns-in-Err-clause-answered : goal.returns-in-Err-clause-answered
returns-in-Err-clause-answered c =
    let a = c.args in
    c.pack_refusal.ensures ∙ no_sharing_packed a.img.now (bytes_of a.img.now (λ i. omega (arith, c.type_inv.img i))) a.first a.second a.expression.now c.overlap_expression.result c.overlap_expression.ensures.answered c.in-Err.f c.in-Err.is
