-- `cleaner::lookup::find_two` meets its contract. Assumes nothing.
use native.Mathlib.Omega.{arith}
use Prim.Native.Nat.{◌-◌}
use lib.ListN.{length}
use Rattle.program.proofs.Numbers.{bytes_of}
use Rattle.image.proofs.Accepted.{accepted-long}
use lib.Seq.{length-take-le}
use Rattle.std.proofs.lemmas.Result.{err_from_is_err_and}
use Rattle.cleaner.proofs.Sentences.{accepted_of, refused_of, not_accepted, first_missing, second_missing, functions_here, stands_there, two_found}
use Rattle.cleaner.proofs.lookup.find_two.Goals as goal

pub returns-in_err-check : goal.returns-in_err-check
returns-in_err-check c = let s = c.args.img.now in
    let p = err_from_is_err_and c.from_residual.result c.from_residual.ensures.1 in rw (p.1, p.2) (not_accepted s c.args.first c.args.second _ (refused_of s c.check.result _ c.check.ensures c.in_err-check.was))

pub overflow_sub-n : goal.overflow_sub-n
overflow_sub-n c = accepted-long c.args.img.now (bytes_of c.args.img.now (λ i. omega (arith, c.type_inv.img i))) (accepted_of c.args.img.now c.check.result _ c.check.ensures c.in_ok-check.was)

pub functions_start-from-requires : goal.functions_start-from-requires
functions_start-from-requires c = accepted_of c.args.img.now c.check.result _ c.check.ensures c.in_ok-check.was

pub find_sentence-requires : goal.find_sentence-requires
find_sentence-requires c =
    let s = c.args.img.now in
    let f = c.functions_start-from in
    let a = accepted_of s c.check.result _ c.check.ensures c.in_ok-check.was in
    (omega (arith, f.ensures.0, length-take-le (length s - 12) s (omega arith)), functions_here s c.args.first c.args.second (bytes_of s (λ i. omega (arith, c.type_inv.img i))) a f.result (f.ensures.1 a))

pub returns-in_err-i : goal.returns-in_err-i
returns-in_err-i c =
    let s = c.args.img.now in
    let f = c.functions_start-from in
    let a = accepted_of s c.check.result _ c.check.ensures c.in_ok-check.was in
    let x = c.in_err-i.ensures (functions_here s c.args.first c.args.second (bytes_of s (λ i. omega (arith, c.type_inv.img i))) a f.result (f.ensures.1 a)) in
    let p = err_from_is_err_and c.from_residual-in_err-i.result c.from_residual-in_err-i.ensures.1 in rw (p.1, p.2) (first_missing s c.args.first c.args.second a _ x.1 x.0)

pub find_sentence-requires-2 : goal.find_sentence-requires-2
find_sentence-requires-2 c =
    let s = c.args.img.now in
    let f = c.functions_start-from in
    let a = accepted_of s c.check.result _ c.check.ensures c.in_ok-check.was in
    (omega (arith, f.ensures.0, length-take-le (length s - 12) s (omega arith)), functions_here s c.args.first c.args.second (bytes_of s (λ i. omega (arith, c.type_inv.img i))) a f.result (f.ensures.1 a))

pub returns-in_err-j : goal.returns-in_err-j
returns-in_err-j c =
    let s = c.args.img.now in
    let f = c.functions_start-from in
    let i = c.args.first in
    let j = c.args.second in
    let bytes = bytes_of s (λ i. omega (arith, c.type_inv.img i)) in
    let a = accepted_of s c.check.result _ c.check.ensures c.in_ok-check.was in
    let h = functions_here s i j bytes a f.result (f.ensures.1 a) in
    let x = c.in_err-j.ensures h in
    let y = c.in_ok-i.ensures h in
    let p = err_from_is_err_and c.from_residual-in_err-j.result c.from_residual-in_err-j.ensures.1 in rw (p.1, p.2) (second_missing s i j a _ y.sentence x.1 (stands_there s i j bytes a i c.in_ok-i.i y) x.0)

pub returns : goal.returns
returns c =
    let s = c.args.img.now in
    let f = c.functions_start-from in
    let i = c.args.first in
    let j = c.args.second in
    let bytes = bytes_of s (λ i. omega (arith, c.type_inv.img i)) in
    let a = accepted_of s c.check.result _ c.check.ensures c.in_ok-check.was in
    let h = functions_here s i j bytes a f.result (f.ensures.1 a) in
    two_found s i j bytes a c.in_ok-i.i c.in_ok-j.j (c.in_ok-i.ensures h) (c.in_ok-j.ensures h)
