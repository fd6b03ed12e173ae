use Prim.Native.Nat.{ℕ, ◌+◌, ◌-◌, ◌*◌, ◌<◌}
use native.Mathlib.Omega.{arith}
use mathlib.Core.Path.{◌≡◌, refl, sym, ap, ◌∙◌, subst}
use mathlib.Core.List.{List}
use lib.ListN.{length, drop, get_or}
use Rattle.program.specs.Limits.{Mode}
use Rattle.image.specs.Parts.{TermsAt}
use Rattle.image.proofs.Readings.{result-at}
use Rattle.rows.specs.Rows.{Kept}
use Rattle.rows.proofs.Places.{kept_same, kept_less}
use Rattle.rows.proofs.Readings.{inside, at_part, after_term, mark_in, pattern-room}
use Rattle.overlap.specs.Way.{Fallen, Failing, Trail, in_turn, way-any, split_at}
use Rattle.overlap.proofs.Ways.{term-within, split_kept, failing-rest, failing-other, failing-last, failing-next}
use Rattle.overlap.proofs.way.next_end.Goals as goal

-- What stands at the last of k splits, where the room has changed behind them alone.
module _ {b start m : List ℕ} {from n k g : ℕ} (x : Fallen b start from n g) (still : (f p q : ℕ) → Failing b start from f p q n g → Failing b m from f p q k g) (l : 0 < k) where
  rest-there : {rest : ℕ} → rest ≡ get_or m (from + 3 * (k - 1)) 0 → TermsAt Mode.pattern (drop rest b)
  rest-there e = failing-rest (still x.fuel x.left x.right x.failing) (k - 1) (omega arith) _ e

  other-there : {other : ℕ} → other ≡ get_or m (from + 3 * (k - 1) + 1) 0 → TermsAt Mode.pattern (drop other b)
  other-there e = failing-other (still x.fuel x.left x.right x.failing) (k - 1) (omega arith) _ e

-- A split written anew leaves the entries below it.
below-kept : {start m new : List ℕ} (at i j f : ℕ) → m ≡ start → new ≡ split_at m at i j f → Kept at start new
below-kept {start} {m} {new} at i j f e w = subst (λ (s : List ℕ). Kept at s new) e (subst (Kept at m) (sym w) (split_kept m at i j f))

pub loop-k-init : goal.loop-k-init
loop-k-init c = (refl, omega arith, λ f p q s. s)

pub overflow_mul-at : goal.overflow_mul-at
overflow_mul-at c = omega (arith, ap length c.loop-k.invariant.0)

pub overflow_add-at : goal.overflow_add-at
overflow_add-at c = omega (arith, ap length c.loop-k.invariant.0)

pub split_in-split-requires : goal.split_in-split-requires
split_in-split-requires c = omega (arith, ap length c.loop-k.invariant.0)

pub slice_bounds-x-count : goal.slice_bounds-x-count
slice_bounds-x-count c = omega (arith, inside c.args.b.now c.split_in-split.result.other (other-there c.requires.0 c.loop-k.invariant.2 c.loop-k-test.true c.split_in-split.ensures.1))

pub slice_bounds-x-start : goal.slice_bounds-x-start
slice_bounds-x-start c = omega (arith, inside c.args.b.now c.split_in-split.result.other (other-there c.requires.0 c.loop-k.invariant.2 c.loop-k-test.true c.split_in-split.ensures.1))

pub slice_bounds-x-end : goal.slice_bounds-x-end
slice_bounds-x-end c = omega arith

pub bounds-x-0 : goal.bounds-x-0
bounds-x-0 c = pattern-room (at_part c.args.b.now c.split_in-split.result.other (other-there c.requires.0 c.loop-k.invariant.2 c.loop-k-test.true c.split_in-split.ensures.1))

pub term_len-requires : goal.term_len-requires
term_len-requires c = result-at (at_part c.args.b.now c.split_in-split.result.other (other-there c.requires.0 c.loop-k.invariant.2 c.loop-k-test.true c.split_in-split.ensures.1))

pub overflow_add-next : goal.overflow_add-next
overflow_add-next c =
    let p = other-there c.requires.0 c.loop-k.invariant.2 c.loop-k-test.true c.split_in-split.ensures.1 in
    let b = c.args.b.now in
    let i = c.split_in-split.result.other in
    omega (arith, term-within b i p c.if-x-ne15.true c.term_len.result (c.term_len.ensures Mode.pattern (at_part b i p)), c.requires.1)

pub put_split-requires : goal.put_split-requires
put_split-requires c =
    let b = c.args.b.now in
    let s = c.split_in-split in
    let p = other-there c.requires.0 c.loop-k.invariant.2 c.loop-k-test.true s.ensures.1 in (
      omega (arith, inside b s.result.rest (rest-there c.requires.0 c.loop-k.invariant.2 c.loop-k-test.true s.ensures.0), c.requires.1),
      omega (arith, term-within b s.result.other p c.if-x-ne15.true c.term_len.result (c.term_len.ensures Mode.pattern (at_part b s.result.other p)), c.requires.1),
      omega (arith, ap length c.loop-k.invariant.0),
    )

pub shape_of-room-then-x-ne15 : goal.shape_of-room-then-x-ne15
shape_of-room-then-x-ne15 c = (below-kept _ _ _ _ c.loop-k.invariant.0 c.put_split.ensures).length

pub returns-then-x-ne15 : goal.returns-then-x-ne15
returns-then-x-ne15 c =
    let b = c.args.b.now in
    let s = c.split_in-split in
    let k = c.loop-k.k - 1 in
    let l = c.loop-k-test.true in
    let p = other-there c.requires.0 c.loop-k.invariant.2 l s.ensures.1 in
    let past = λ (x : TermsAt Mode.pattern (drop s.result.other b)). c.term_len.ensures Mode.pattern (at_part b s.result.other x) in record {
      turns = λ f p q v. subst (λ (h : ℕ). Trail b c.put_split.new.room c.args.from f p q h c.args.fuel s.result.rest (s.result.other + c.term_len.result)) (let e : c.loop-k.k ≡ k + 1 = omega (arith, l) in e)
          (rw c.put_split.ensures
          (failing-next (c.loop-k.invariant.2 f p q v) k (omega (arith, l)) s.result.other s.ensures.1 s.result.rest s.ensures.0 (omega (arith, ap length c.loop-k.invariant.0)) (λ e. c.if-x-ne15.true (mark_in b s.result.other ∙ e)) c.term_len.result past));
      goes = ((record { first = rest-there c.requires.0 c.loop-k.invariant.2 l s.ensures.0; second = after_term b s.result.other c.term_len.result p (past p) }, refl), omega (arith, l, c.loop-k.invariant.1));
      keeps = kept_less (omega arith) (below-kept _ _ _ _ c.loop-k.invariant.0 c.put_split.ensures);
    }

pub loop-k-preserved : goal.loop-k-preserved
loop-k-preserved c =
    let s = c.split_in-split in
    (c.loop-k.invariant.0, omega (arith, c.loop-k.invariant.1), λ f p q v. failing-last (c.loop-k.invariant.2 f p q v) (c.loop-k.k - 1) (omega (arith, c.loop-k-test.true)) s.result.other s.ensures.1 (sym (mark_in c.args.b.now s.result.other) ∙ c.if-x-ne15.false))

pub shape_of-room : goal.shape_of-room
shape_of-room c = ap length c.loop-k.invariant.0

pub returns : goal.returns
unfolding in_turn
returns c = record { turns = λ f p q v. way-any; goes = (tt, omega arith); keeps = subst (λ (m : List ℕ). Kept c.args.from c.args.room.now m) (sym c.loop-k.invariant.0) (kept_same c.args.from c.args.room.now) }
