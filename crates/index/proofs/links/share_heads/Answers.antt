-- `index::links::share_heads` meets its contract. Assumes nothing.
use Prim.Native.Nat.{ℕ, ◌+◌, ◌*◌, ◌%◌, ◌<◌, ◌≤◌}
use native.Mathlib.Omega.{arith}
use mathlib.Core.Path.{◌≡◌, subst}
use mathlib.Core.List.{List}
use lib.ListN.{get_or, drop}
use Rattle.std.specs.Prelude.{Option, Some, IsSome}
use Rattle.program.specs.Syntax.{Name, Function}
use Rattle.image.specs.Parts.{FunctionAt}
use Rattle.index.specs.First.{FirstFrom}
use Rattle.index.specs.Tables.{Apart}
use Rattle.index.specs.Tabled.{Tabled, SomeFiled}
use Rattle.index.specs.Bucket.{is_named, Filed}
use Rattle.index.proofs.Entries.{Element, apart_set, apart-same, element_of, placed-stands, placed-name}
use Rattle.index.proofs.Preserved.{tabled-apart, filed-apart, some_filed_apart}
use Rattle.index.proofs.Shared.{sharing_first, sharing_end, sharing_next, own_first, own-found}
use Rattle.index.proofs.links.share_heads.Goals as goal

pub loop-f-init : goal.loop-f-init
loop-f-init c = let a = c.args in (apart-same a.work.now a.filing.functions (2 * a.filing.functions), λ fs held t d h. sharing_first h)

pub function_name-requires : goal.function_name-requires
function_name-requires c = placed-stands (tabled-apart c.loop-f.invariant.0 c.requires.1 c.requires.0.tabled) c.loop-f.f c.place_of-p.result c.place_of-p.ensures.0 c.loop-f-test.true

pub function_named-requires : goal.function_named-requires
function_named-requires c = (some_filed_apart c.loop-f.invariant.0 c.requires.1 c.requires.0, omega (arith, c.requires.2, c.loop-f.auto.work))

-- What was looked for by the name that stands at p: the name of the function f.
module _ {b old m : List ℕ} {functions at n : ℕ} (a : Apart old m functions (2 * functions)) (u : 2 * functions ≤ at) (f p : ℕ) (e : p ≡ get_or m f 0 % 32768) (l : f < functions) (name : Name) (h : (y : FunctionAt (drop p b)) → name ≡ y.function.name) (o : Option ℕ)
    (sought : (fs : List Function) → Tabled b m functions fs → Filed fs m at (at + functions) n 0 → FirstFrom (is_named name) 0 fs o) where
  abbrev here : {fs : List Function} → Tabled b old functions fs → Element fs f
  here {fs} t = element_of fs f (omega (arith, t.count, l))

  own : {fs : List Function} (t : Tabled b old functions fs) → Filed fs old at (at + functions) n 0 → FirstFrom (is_named (here t).element.name) 0 fs o
  own {fs} t d =
      let z = here t in
      let s = tabled-apart a u t in
      subst (λ (v : Name). FirstFrom (is_named v) 0 fs o) (placed-name s f p e z.element z.is name h) (sought fs s (filed-apart a u d))

  some : SomeFiled b old (record { functions = functions; at = at; buckets = n }) → IsSome o
  some x = let z = here x.tabled in own-found x.functions f z.element z.is o (own x.tabled x.filed)

  below : SomeFiled b old (record { functions = functions; at = at; buckets = n }) → (g : ℕ) → o ≡ Some g → g ≤ f
  below x g q =
      let z = here x.tabled in
      own_first x.functions f g z.element z.is (subst (λ (v : Option ℕ). FirstFrom (is_named z.element.name) 0 x.functions v) q (own x.tabled x.filed)).0

pub unwrap-first-requires : goal.unwrap-first-requires
unwrap-first-requires c = some c.loop-f.invariant.0 c.requires.1 c.loop-f.f c.place_of-p.result c.place_of-p.ensures.0 c.loop-f-test.true c.function_name.result.now c.function_name.ensures c.function_named.result c.function_named.ensures c.requires.0

pub overflow_add-k : goal.overflow_add-k
overflow_add-k c =
    let g = below c.loop-f.invariant.0 c.requires.1 c.loop-f.f c.place_of-p.result c.place_of-p.ensures.0 c.loop-f-test.true c.function_name.result.now c.function_name.ensures c.function_named.result c.function_named.ensures c.requires.0 c.unwrap-first.result c.unwrap-first.ensures in
    omega (arith, g, c.loop-f-test.true, c.requires.0.fits, c.requires.1, c.requires.2)

pub offset_bounds-work-k : goal.offset_bounds-work-k
offset_bounds-work-k c =
    let g = below c.loop-f.invariant.0 c.requires.1 c.loop-f.f c.place_of-p.result c.place_of-p.ensures.0 c.loop-f-test.true c.function_name.result.now c.function_name.ensures c.function_named.result c.function_named.ensures c.requires.0 c.unwrap-first.result c.unwrap-first.ensures in
    omega (arith, g, c.loop-f-test.true, c.requires.0.fits, c.requires.1, c.requires.2)

pub bounds-work-k : goal.bounds-work-k
bounds-work-k c =
    let g = below c.loop-f.invariant.0 c.requires.1 c.loop-f.f c.place_of-p.result c.place_of-p.ensures.0 c.loop-f-test.true c.function_name.result.now c.function_name.ensures c.function_named.result c.function_named.ensures c.requires.0 c.unwrap-first.result c.unwrap-first.ensures in
    omega (arith, g, c.loop-f-test.true, c.requires.0.fits, c.requires.1, c.loop-f.auto.work)

pub loop-f-preserved : goal.loop-f-preserved
loop-f-preserved c =
    let l = c.loop-f in
    let a = c.args in
    let g = c.unwrap-first.result in (
      apart_set (a.filing.functions + l.f) (get_or l.work (a.filing.functions + g) 0) l.invariant.0 (omega arith) (omega (arith, c.loop-f-test.true)),
      λ fs held t d h.
          let z = here l.invariant.0 c.requires.1 l.f c.place_of-p.result c.place_of-p.ensures.0 c.loop-f-test.true c.function_name.result.now c.function_name.ensures c.function_named.result c.function_named.ensures t in
          let o = own l.invariant.0 c.requires.1 l.f c.place_of-p.result c.place_of-p.ensures.0 c.loop-f-test.true c.function_name.result.now c.function_name.ensures c.function_named.result c.function_named.ensures t d in
          sharing_next (l.invariant.1 fs held t d h) z.element z.is g (subst (λ (v : Option ℕ). FirstFrom (is_named z.element.name) 0 fs v) c.unwrap-first.ensures o).0 (omega (arith, c.loop-f-test.true, c.requires.0.fits, c.requires.1, l.auto.work)),
    )

pub returns : goal.returns
returns c = record { headed = λ fs held t d h. sharing_end (c.loop-f.invariant.1 fs held t d h) (omega (arith, c.loop-f-test.false, t.count)); others = c.loop-f.invariant.0 }
