-- `cleaning::rounds::drop_sentence` meets its contract. Assumes nothing.
use Prim.Native.Nat.{ℕ, ◌+◌, ◌%◌}
use mathlib.Core.Path.{◌≡◌, sym, ap, subst, ◌∙◌}
use mathlib.Core.Bool.{true}
use lib.ListN.{get_or, set}
use Rattle.index.specs.Layout.{witnesses}
use Rattle.cleaning.specs.Indexed.{fell_of}
use Rattle.cleaning.specs.RoundDone.{SentenceDropped}
use Rattle.cleaning.proofs.Indexed.{never-fell}
use Rattle.cleaning.proofs.Dropping.{dropped-one}
use Rattle.cleaning.proofs.rounds.drop_sentence.Goals as goal

pub returns-then-work-d : goal.returns-then-work-d
returns-then-work-d c =
    let a = c.args in
    let m = a.work.now in
    let same : get_or m (c.witnesses.result + a.s) 0 ≡ get_or m (witnesses a.plan + a.s) 0 = ap (λ (k : ℕ). get_or m (k + a.s) 0) c.witnesses.ensures in
    let place = c.place_of-place.ensures.0 ∙ ap (λ (k : ℕ). get_or m (k + a.s) 0 % 32768) c.lines.ensures in
    subst (λ (k : ℕ). SentenceDropped m (set m (k + a.s) c.packed.result) a.plan a.s a.round true) (sym c.lines.ensures)
    (dropped-one a.plan m a.s a.round c.packed.result (c.packed.ensures.0 ∙ place) c.packed.ensures.1 c.requires.0 c.requires.3.0
    (never-fell (fell_of a.plan m a.s) c.fell.result c.fell.ensures c.if-is_none.ensures) (sym same ∙ c.if-work-d.true))
