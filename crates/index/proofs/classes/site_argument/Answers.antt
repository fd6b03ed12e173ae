-- `index::classes::site_argument` meets its contract. Assumes nothing.
use Prim.Native.Nat.{ℕ, ◌+◌}
use native.Mathlib.Omega.{arith}
use mathlib.Core.Path.{◌≡◌, sym, subst}
use mathlib.Core.List.{List}
use lib.ListN.{drop}
use Rattle.program.specs.Encode.{put_terms}
use Rattle.restrictions.specs.Entries.{CallAt}
use Rattle.index.proofs.Arguments.{call-within, part_call, argument-within, argument-left}
use Rattle.index.proofs.classes.site_argument.Goals as goal

-- The call, at the place that was read from the entry.
read : (b : List ℕ) (e : ℕ) {p : ℕ} → p ≡ e → CallAt (drop e b) → CallAt (drop p b)
read b e q x = subst (λ (n : ℕ). CallAt (drop n b)) (sym q) x

pub slice_bounds-call_argument-count : goal.slice_bounds-call_argument-count
slice_bounds-call_argument-count c = omega (arith, call-within c.args.b.now _ (read c.args.b.now _ c.from-p.ensures.0 c.requires))

pub slice_bounds-call_argument-start : goal.slice_bounds-call_argument-start
slice_bounds-call_argument-start c = omega (arith, call-within c.args.b.now _ (read c.args.b.now _ c.from-p.ensures.0 c.requires))

pub call_argument-requires : goal.call_argument-requires
call_argument-requires c = part_call c.args.b.now c.from-p.result.place (read c.args.b.now _ c.from-p.ensures.0 c.requires)

pub overflow_add-result : goal.overflow_add-result
overflow_add-result c =
    let x = read c.args.b.now _ c.from-p.ensures.0 c.requires in
    omega (arith, argument-within c.args.b.now c.from-p.result.place c.call_argument.result (put_terms x.argument x.rest) x (c.call_argument.ensures (part_call c.args.b.now c.from-p.result.place x)))

pub returns : goal.returns
returns c = (
  (let x = read c.args.b.now _ c.from-p.ensures.0 c.requires in
      argument-within c.args.b.now c.from-p.result.place c.call_argument.result (put_terms x.argument x.rest) x (c.call_argument.ensures (part_call c.args.b.now c.from-p.result.place x))),
  subst (λ (n : ℕ). (x : CallAt (drop n c.args.b.now)) → drop (c.from-p.result.place + c.call_argument.result) c.args.b.now ≡ put_terms x.argument x.rest) c.from-p.ensures.0
      (λ x. argument-left c.args.b.now c.from-p.result.place c.call_argument.result (put_terms x.argument x.rest) (c.call_argument.ensures (part_call c.args.b.now c.from-p.result.place x))),
)
