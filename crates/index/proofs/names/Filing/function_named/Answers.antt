use Prim.Native.Nat.{ℕ, ◌+◌, ◌%◌, ◌<◌}
use native.Mathlib.Omega.{arith}
use mathlib.Core.Path.{◌≡◌, sym, ap, subst, ◌∙◌}
use mathlib.Core.List.{List}
use mathlib.Core.Option.{some}
use lib.ListN.{length, get_or, get_elem?, drop}
use Rattle.program.specs.Syntax.{Name, Function}
use Rattle.image.specs.Parts.{FunctionAt}
use Rattle.patterns.specs.Names.{same_name}
use Rattle.index.specs.First.{First}
use Rattle.index.specs.Tabled.{Tabled}
use Rattle.index.specs.Bucket.{is_named, Filed}
use Rattle.index.proofs.Entries.{element_of, placed-stands, placed-name}
use Rattle.index.proofs.Buckets.{named-is, Sought, sought_first, sought_found, sought_later, sought_next, sought_none}
use Rattle.index.proofs.names.Filing.function_named.Goals as goal

pub overflow_add-k : goal.overflow_add-k
overflow_add-k c = omega (arith, c.requires.0.fits, c.requires.1)

pub bucket_of-requires : goal.bucket_of-requires
bucket_of-requires c = c.requires.0.some

pub overflow_add-k-2 : goal.overflow_add-k-2
overflow_add-k-2 c = omega (arith, c.bucket_of.ensures.1, c.requires.0.fits, c.requires.1)

pub offset_bounds-work-k : goal.offset_bounds-work-k
offset_bounds-work-k c = omega (arith, c.bucket_of.ensures.1, c.requires.0.fits, c.requires.1)

pub bounds-work-k : goal.bounds-work-k
bounds-work-k c = omega (arith, c.bucket_of.ensures.1, c.requires.0.fits)

pub overflow_cast-f : goal.overflow_cast-f
overflow_cast-f c = omega (arith, c.type_inv.work (c.args.self.at + c.args.self.functions + c.bucket_of.result))

pub loop-f-init : goal.loop-f-init
loop-f-init c =
    let k = c.bucket_of in
    let p = c.requires.0 in
    let a = c.args in
    (omega (arith, (sought_first p.filed a.name.now k.result k.ensures.0 k.ensures.1).within, p.tabled.count), λ fs t d. sought_first d a.name.now k.result k.ensures.0 k.ensures.1)

pub place_of-p-requires : goal.place_of-p-requires
place_of-p-requires c = omega (arith, c.loop-f-test.true, c.requires.0.tabled.fits)

pub function_name-requires : goal.function_name-requires
function_name-requires c = placed-stands c.requires.0.tabled c.loop-f.f c.place_of-p.result c.place_of-p.ensures.0 c.loop-f-test.true

-- What the comparison of names says of the function f.
compared : {b m : List ℕ} {n : ℕ} {fs : List Function} (t : Tabled b m n fs) (f p : ℕ) → p ≡ get_or m f 0 % 32768 → (x : Function) → get_elem? fs f ≡ some x → (a name : Name) → ((y : FunctionAt (drop p b)) → a ≡ y.function.name) → is_named name x ≡ same_name a name
compared t f p e x q a name h = named-is name x ∙ ap (λ (v : Name). same_name v name) (sym (placed-name t f p e x q a h))

pub returns-then-same_name : goal.returns-then-same_name
returns-then-same_name c = λ fs t d.
    let f = c.loop-f.f in
    let z = element_of fs f (omega (arith, t.count, c.loop-f-test.true)) in
    let e = compared t f c.place_of-p.result c.place_of-p.ensures.0 z.element z.is c.function_name.result.now c.args.name.now c.function_name.ensures in
    (sought_found d c.args.name.now (c.loop-f.invariant.1 fs t d) z.element z.is (e ∙ sym c.same_name.ensures ∙ c.if-same_name.true), omega (arith, t.count, c.loop-f-test.true))

pub overflow_add-l : goal.overflow_add-l
overflow_add-l c =
    let below : c.args.self.at + c.loop-f.f < length c.args.work.now = omega (arith, c.loop-f-test.true, c.requires.0.fits) in
    omega (arith, below, c.requires.1)

pub offset_bounds-work-l : goal.offset_bounds-work-l
offset_bounds-work-l c =
    let below : c.args.self.at + c.loop-f.f < length c.args.work.now = omega (arith, c.loop-f-test.true, c.requires.0.fits) in
    omega (arith, below, c.requires.1)

pub bounds-work-l : goal.bounds-work-l
bounds-work-l c =
    omega (arith, c.loop-f-test.true, c.requires.0.fits)

pub loop-f-smaller : goal.loop-f-smaller
loop-f-smaller c =
    let p = c.requires.0 in
    let z = element_of p.functions c.loop-f.f (omega (arith, p.tabled.count, c.loop-f-test.true)) in
    omega (arith, sought_later p.filed c.args.name.now (c.loop-f.invariant.1 p.functions p.tabled p.filed) z.element z.is, c.loop-f-test.true)

pub loop-f-preserved : goal.loop-f-preserved
loop-f-preserved c =
    let f = c.loop-f.f in
    let p = c.requires.0 in
    let next : (fs : List Function) → Tabled c.args.b.now c.args.work.now c.args.self.functions fs → Filed fs c.args.work.now c.args.self.at (c.args.self.at + c.args.self.functions) c.args.self.buckets 0 → Sought fs c.args.self.buckets c.args.name.now (get_or c.args.work.now (c.args.self.at + f) 0) = λ fs t d.
    let z = element_of fs f (omega (arith, t.count, c.loop-f-test.true)) in
    let e = compared t f c.place_of-p.result c.place_of-p.ensures.0 z.element z.is c.function_name.result.now c.args.name.now c.function_name.ensures in
    sought_next d c.args.name.now (c.loop-f.invariant.1 fs t d) z.element z.is (e ∙ sym c.same_name.ensures ∙ c.if-same_name.false) in
    (omega (arith, (next p.functions p.tabled p.filed).within, p.tabled.count), next)

pub returns : goal.returns
returns c = λ fs t d.
    let s = c.loop-f.invariant.1 fs t d in
    let e : c.loop-f.f ≡ length fs = omega (arith, s.within, c.loop-f-test.false, t.count) in
    subst (First (is_named c.args.name.now) 0 fs) e (sought_none d c.args.name.now s (omega (arith, c.loop-f-test.false, t.count)))
