-- `index::names::bucket_of` meets its contract. Assumes nothing.
use Prim.Native.Nat.{◌%◌}
use native.Mathlib.Omega.{arith}
use native.Mathlib.Nat.{mod-lt}
use mathlib.Core.Path.{sym, ap, ◌∙◌}
use Rattle.index.proofs.Buckets.{hash_next, hash_end, bucket-is}
use Rattle.index.proofs.names.bucket_of.Goals as goal

pub loop-c-preserved : goal.loop-c-preserved
loop-c-preserved c =
    let l = c.loop-c in
    (omega arith, l.invariant.1 ∙ hash_next c.args.name.now l.c-index l.h c.from.result (c.from.ensures ∙ c.small.ensures) c.loop-c-test.true)

pub returns : goal.returns
returns c =
    let l = c.loop-c in
    let a = c.args in
    (sym (bucket-is a.n a.name.now ∙ ap (λ h. h % a.n) (l.invariant.1 ∙ hash_end a.name.now l.c-index l.h c.loop-c-test.false)), mod-lt l.h c.requires)
