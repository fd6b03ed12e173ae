-- `index::names::Filing::file_functions` meets its contract. Assumes nothing.
use Prim.Native.Nat.{ℕ, ◌+◌, ◌-◌, ◌%◌, ◌<◌}
use native.Mathlib.Omega.{arith}
use mathlib.Core.Path.{◌≡◌, ap, subst, ◌∙◌}
use mathlib.Core.List.{List}
use lib.ListN.{get_or}
use Rattle.index.specs.Bucket.{bucket_of, Filed}
use Rattle.index.specs.Tables.{Apart}
use Rattle.index.proofs.Entries.{apart_set, apart-same, element_of, placed-stands, placed-name}
use Rattle.index.proofs.Buckets.{filed-none, filed-more}
use Rattle.index.proofs.names.Filing.file_functions.Goals as goal

pub loop-f-init : goal.loop-f-init
loop-f-init c =
    let a = c.args in
    (apart-same a.work.now a.self.at (a.self.at + a.self.functions + a.self.buckets), λ fs t. filed-none fs a.work.now a.self.at (a.self.at + a.self.functions) a.self.buckets a.self.functions t.count c.requires.5)

-- The place was read from an entry that has not changed.
unchanged : {old new : List ℕ} {from end : ℕ} → Apart old new from end → (f p : ℕ) → f < from → p ≡ get_or new f 0 % 32768 → p ≡ get_or old f 0 % 32768
unchanged a f p l e = e ∙ ap (λ (v : ℕ). v % 32768) (a.before f l)

pub function_name-requires : goal.function_name-requires
function_name-requires c =
    let f = c.loop-f.f - 1 in
    let l : f < c.args.self.functions = omega (arith, c.loop-f-test.true, c.loop-f.auto.f) in
    placed-stands c.requires.0.tabled f c.place_of-p.result (unchanged c.loop-f.invariant.0 f c.place_of-p.result (omega (arith, l, c.requires.1)) c.place_of-p.ensures.0) l

pub loop-f-preserved : goal.loop-f-preserved
loop-f-preserved c =
    let w = c.loop-f.work in
    let a = c.args in
    let f = c.loop-f.f - 1 in
    let k = c.bucket_of in
    let l : f < a.self.functions = omega (arith, c.loop-f-test.true, c.loop-f.auto.f) in
    let v = get_or w (a.self.at + a.self.functions + k.result) 0 in
    let e = unchanged c.loop-f.invariant.0 f c.place_of-p.result (omega (arith, l, c.requires.1)) c.place_of-p.ensures.0 in (
      apart_set (a.self.at + a.self.functions + k.result) f (apart_set (a.self.at + f) v c.loop-f.invariant.0 (omega arith) (omega (arith, l))) (omega arith) (omega (arith, k.ensures.1)),
      λ fs t.
          let x = element_of fs f (omega (arith, t.count, l)) in
          let n : c.function_name.result.now ≡ x.element.name = placed-name t f c.place_of-p.result e x.element x.is c.function_name.result.now c.function_name.ensures in
          let s : c.loop-f.f ≡ (c.loop-f.f - 1) + 1 = omega (arith, c.loop-f-test.true) in
          filed-more f (subst (Filed fs w a.self.at (a.self.at + a.self.functions) a.self.buckets) s (c.loop-f.invariant.1 fs t)) x.element x.is k.result (k.ensures.0 ∙ ap (bucket_of a.self.buckets) n) k.ensures.1 (omega (arith, t.count)) (omega (arith, c.requires.2, c.loop-f.auto.work)),
    )

pub returns : goal.returns
returns c = let e : c.loop-f.f ≡ 0 = omega (arith, c.loop-f-test.false) in record { filed = λ fs t. subst (Filed fs c.loop-f.work c.args.self.at (c.args.self.at + c.args.self.functions) c.args.self.buckets) e (c.loop-f.invariant.1 fs t); others = c.loop-f.invariant.0 }
