-- `cleaning::prepare::class_function` meets its contract. Assumes nothing.
use Prim.Native.Nat.{ℕ, ◌+◌, ◌-◌, ◌<◌}
use native.Mathlib.Omega.{arith}
use mathlib.Core.Path.{◌≡◌, sym, subst}
use mathlib.Core.Bool.{true}
use mathlib.Core.List.{List}
use lib.ListN.{length, get_or}
use Rattle.program.specs.Syntax.{Program}
use Rattle.told.specs.Numbered.{sites_of}
use Rattle.index.specs.declared.Plan.{Plan}
use Rattle.index.specs.Bucket.{Filed}
use Rattle.index.specs.Layout.{calls, links}
use Rattle.index.specs.Links.{list_head}
use Rattle.index.specs.Lists.{ListAt}
use Rattle.index.specs.Tabled.{SomeFiled}
use Rattle.index.proofs.First.{Element, element_at}
use Rattle.cleaning.specs.Prepared.{Chains, ClassesWritten}
use Rattle.cleaning.proofs.Classes.{chains-list, classes_next, classes_later, tabled_still, filed-there, filed_still}
use Rattle.cleaning.proofs.prepare.class_function.Goals as goal

function_at : {b old : List ℕ} {p : Plan} {w : Program} {f : ℕ} → Chains b w old p → f < p.functions → Element w.functions f
function_at {w = w} {f} h l = element_at w.functions f (omega (arith, h.functions, l))

-- The function's list of plain sites, with the numbers that the code has for where its parts begin.
list_at : {b old m : List ℕ} {p : Plan} {w : Program} {f calls_at links_at head : ℕ} → Chains b w old p → ClassesWritten w old m p f → (x : Element w.functions f) → calls_at ≡ calls p → links_at ≡ links p → head ≡ list_head true (get_or m (p.functions + f) 0) → f < p.functions
    → ListAt b m calls_at links_at p.sites head x.element.name (sites_of w)
list_at h k x d e g l = rw (d, e) (chains-list h k x.element x.is _ g l)

pub calls-calls-requires : goal.calls-calls-requires
calls-calls-requires c = let w = c.requires.chains in (omega (arith, w.fits, w.small), omega (arith, w.fits, w.small))

pub links-links-requires : goal.links-links-requires
links-links-requires c = let w = c.requires.chains in (omega (arith, w.fits, w.small), omega (arith, w.fits, w.small), omega (arith, w.fits, w.small))

pub overflow_add-at : goal.overflow_add-at
overflow_add-at c = let w = c.requires.chains in omega (arith, w.fits, w.small, c.links-links.ensures)

pub overflow_sub-filing : goal.overflow_sub-filing
overflow_sub-filing c = let w = c.requires in omega (arith, w.chains.fits, w.written.length, c.links-links.ensures)

pub overflow_sub-filing-2 : goal.overflow_sub-filing-2
overflow_sub-filing-2 c = let w = c.requires in omega (arith, w.chains.fits, w.written.length, c.links-links.ensures)

pub is_first-requires : goal.is_first-requires
is_first-requires c =
    let a = c.args in
    let w = c.requires in (
      subst
          (λ (k : ℕ). SomeFiled a.b.now a.work.now (record { functions = a.plan.functions; at = k + a.plan.sites; buckets = length a.work.now - (k + a.plan.sites) - a.plan.functions }))
          (sym c.links-links.ensures)
          (filed_still w.chains w.written),
      omega (arith, w.chains.small, w.written.length),
      w.below,
    )

pub head_site-head-requires : goal.head_site-head-requires
head_site-head-requires c = let w = c.requires in omega (arith, w.chains.fits, w.written.length, w.below)

pub class_list-requires : goal.class_list-requires
class_list-requires c =
    let w = c.requires in
    let x = function_at w.chains w.below in (
      record {
        name = x.element.name;
        sites = sites_of w.program;
        list = list_at w.chains w.written x c.calls-calls.ensures c.links-links.ensures c.head_site-head.ensures.0 w.below;
      },
      omega (arith, w.written.length, w.chains.small),
      omega (arith, w.chains.fits, w.chains.small, w.below),
      omega (arith, c.calls-calls.ensures, c.links-links.ensures),
    )

pub shape_of-work-then-is_first : goal.shape_of-work-then-is_first
shape_of-work-then-is_first c =
    let w = c.requires in
    let x = function_at w.chains w.below in
    let l = list_at w.chains w.written x c.calls-calls.ensures c.links-links.ensures c.head_site-head.ensures.0 w.below in
    (c.class_list.ensures.others x.element.name (sites_of w.program) l).length

pub returns-then-is_first : goal.returns-then-is_first
returns-then-is_first c = λ w old h k.
    let x = function_at h c.requires.below in
    let l = list_at h k x c.calls-calls.ensures c.links-links.ensures c.head_site-head.ensures.0 c.requires.below in
    classes_next h k x.element x.is c.links-links.result c.links-links.ensures (c.class_list.ensures.classed x.element.name (sites_of w) l) (c.class_list.ensures.others x.element.name (sites_of w) l)

pub returns-else-is_first : goal.returns-else-is_first
returns-else-is_first c = λ w old h k.
    let a = c.args in
    let x = function_at h c.requires.below in
    classes_later h k x.element x.is (c.is_first.ensures w.functions x.element (tabled_still h k)
    (subst
    (λ (i : ℕ). Filed w.functions a.work.now (i + a.plan.sites) (i + a.plan.sites + a.plan.functions) (length a.work.now - (i + a.plan.sites) - a.plan.functions) 0)
    (sym c.links-links.ensures)
    (filed-there h k)) x.is c.if-is_first.false)
