use Prim.Native.Nat.{ℕ, ◌+◌, ◌-◌, ◌*◌}
use native.Mathlib.Omega.{arith}
use mathlib.Core.Path.{◌≡◌, ◌∙◌, refl, ap, sym, subst}
use lib.ListN.{get_or}
use Rattle.std.proofs.lemmas.Option.{IfSome_then}
use Rattle.rows.specs.Rows.{listed_at, behind_terms, Stands, Beside, read_at, HeadsTold, Kept}
use Rattle.rows.proofs.Places.{kept_then, kept_less, kept_same, place-absorbing, place-one, place-empty, place-some}
use Rattle.rows.proofs.Filling.{filling_first, filling_stands, filling_beside, filling_turn, filling_done, lists_lie, listed-first, listed_now, lists_kept, told-before, tabling_first, tabling_stands, tabling_size, tabling-above, tabling-turn, tabling_done, lists_room, both-listed, both_told, both_turned}
use Rattle.rows.proofs.Sizes.{stands-size, Inside, inside_at, brackets-told, listed-size}
use Rattle.patterns.specs.Search.{size}
use Rattle.rows.proofs.Lists.{place_in}
use Rattle.rows.proofs.Words.{absorbing-both, absorbing-first, absorbing-second, heads-both, closed_first, closed_second}
use Rattle.rows.specs.Cells.{spent, behind_of, low, high, both, PairTold}
use Rattle.rows.proofs.table.+fill_row_fill_table_pair_at_table_of.Goals as goal

pub fill_row-loop-j-init : goal.fill_row-loop-j-init
fill_row-loop-j-init t c = filling_first c.requires

pub fill_row-pair_at-requires : goal.fill_row-pair_at-requires
fill_row-pair_at-requires t c =
    let stands : Stands c.args.b.now (get_or c.loop-j.room (c.args.ys.at + (c.loop-j.j - 1)) 0) (behind_terms (c.loop-j.j - 1) (listed_at c.args.b.now c.args.room.now c.args.ys.at)) = filling_stands c.requires c.loop-j.invariant c.loop-j-test.true (get_or c.loop-j.room (c.args.ys.at + (c.loop-j.j - 1)) 0) (get_or c.loop-j.room (c.args.row + 2 * (c.loop-j.j - 1)) 0) (get_or c.loop-j.room (c.args.row + 2 * (c.loop-j.j - 1) + 1) 0) refl refl refl in
    let beside : Beside c.args.b.now c.args.p (get_or c.loop-j.room (c.args.ys.at + (c.loop-j.j - 1)) 0) c.loop-j.diagonal (get_or c.loop-j.room (c.args.row + 2 * (c.loop-j.j - 1) + 1) 0) c.loop-j.right = filling_beside c.requires c.loop-j.invariant c.loop-j-test.true (get_or c.loop-j.room (c.args.ys.at + (c.loop-j.j - 1)) 0) (get_or c.loop-j.room (c.args.row + 2 * (c.loop-j.j - 1)) 0) (get_or c.loop-j.room (c.args.row + 2 * (c.loop-j.j - 1) + 1) 0) refl refl refl in
    (omega (arith, c.decreases, stands-size (c.loop-j.j - 1) (listed_at c.args.b.now c.args.room.now c.args.ys.at) stands), beside)

pub fill_row-loop-j-preserved : goal.fill_row-loop-j-preserved
fill_row-loop-j-preserved t c =
    filling_turn c.requires c.loop-j.invariant c.loop-j-test.true (get_or c.loop-j.room (c.args.ys.at + (c.loop-j.j - 1)) 0) (get_or c.loop-j.room (c.args.row + 2 * (c.loop-j.j - 1)) 0) (get_or c.loop-j.room (c.args.row + 2 * (c.loop-j.j - 1) + 1) 0) refl refl refl
    c.in_ok-s.s c.ends_both-right.result c.in_ok-s.ensures.tells c.ends_both-right.ensures _ c.pair_at.ensures.keeps _ c.put_words.ensures

pub fill_row-returns : goal.fill_row-returns
fill_row-returns t c = record { tells = filling_done c.loop-j.invariant c.loop-j-test.false; keeps = c.loop-j.invariant.kept; suffices = λ k e. cc }

pub fill_table-returns-then-room-row : goal.fill_table-returns-then-room-row
fill_table-returns-then-room-row t c = record { tells = tt; keeps = kept_same c.args.row c.args.room.now; suffices = λ k e. omega (arith, k.0, c.if-room-row.true) }

pub fill_table-close_row-requires : goal.fill_table-close_row-requires
fill_table-close_row-requires t c = lists_lie c.requires c.if-room-row.false

pub fill_table-loop-i-init : goal.fill_table-loop-i-init
fill_table-loop-i-init t c =
    let h = c.requires in
    (lists_kept h c.close_row.ensures.keeps, omega (arith, c.if-room-row.false, c.close_row.ensures.keeps.length), tabling_first (lists_kept h c.close_row.ensures.keeps) (kept_same c.args.row _) (λ x e j l i. rw (← listed_now h c.close_row.ensures.keeps) (c.close_row.ensures.tells x e j l i)))

pub fill_table-fill_row-requires : goal.fill_table-fill_row-requires
fill_table-fill_row-requires t c =
    let h = c.requires in
    let k = c.close_row.ensures.keeps in
    let i = c.loop-i.invariant in (
      omega (arith, c.decreases, tabling_size i.0 i.2 c.loop-i-test.true i.1 (get_or c.loop-i.room (c.args.xs.at + (c.loop-i.i - 1)) 0) refl, ap size (listed-first h k), ap size (listed_now h k), ap size (listed_now i.0 i.2.kept)),
      tabling-above i.0 i.2 c.loop-i-test.true i.1 (get_or c.loop-i.room (c.args.xs.at + (c.loop-i.i - 1)) 0) refl
          c.close_behind-s.result c.ends_both-side.result c.close_behind-s.ensures c.ends_both-side.ensures,
    )

pub fill_table-loop-i-preserved : goal.fill_table-loop-i-preserved
fill_table-loop-i-preserved t c =
    let i = c.loop-i.invariant in (
      i.0,
      i.1,
      tabling-turn i.0 i.2 c.loop-i-test.true i.1 (get_or c.loop-i.room (c.args.xs.at + (c.loop-i.i - 1)) 0) refl
          c.close_behind-s.result c.ends_both-side.result c.close_behind-s.ensures c.ends_both-side.ensures
          _ c.fill_row.ensures.keeps c.in_ok-fill_row.ensures.tells,
    )

pub fill_table-returns : goal.fill_table-returns
fill_table-returns t c = let h = c.requires in let k = c.close_row.ensures.keeps in let i = c.loop-i.invariant in let w = told-before h k (get_or c.loop-i.room c.args.row 0) (tabling_done i.0 i.2 c.loop-i-test.false (get_or c.loop-i.room c.args.row 0) refl) in record { tells = w; keeps = kept_then k i.2.kept; suffices = λ _ e. cc }

pub pair_at-returns-then-k-eq6 : goal.pair_at-returns-then-k-eq6
pair_at-returns-then-k-eq6 t c =
    let PairToldHere : ℕ → Type 0 = λ w. PairTold (read_at c.args.b.now c.args.p) (read_at c.args.b.now c.args.q) w in
    let kept : Kept c.args.top c.args.room.now c.args.room.now = kept_same c.args.top c.args.room.now in
    let w = subst PairToldHere (sym c.absorb_both.ensures) (absorbing-both (place-absorbing c.requires.first c.if-m-eq6.true) (place-absorbing c.requires.second c.if-k-eq6.true) c.requires.below-told c.requires.right-told) in record { tells = w; keeps = kept; suffices = λ r e. cc }

pub pair_at-returns-then-m-eq6 : goal.pair_at-returns-then-m-eq6
pair_at-returns-then-m-eq6 t c =
    let PairToldHere : ℕ → Type 0 = λ w. PairTold (read_at c.args.b.now c.args.p) (read_at c.args.b.now c.args.q) w in
    let kept : Kept c.args.top c.args.room.now c.args.room.now = kept_same c.args.top c.args.room.now in
    let w = let y = place-one c.requires.second c.requires.second-some c.if-k-eq6.false in subst PairToldHere (sym (c.absorb_alone.ensures ∙ ap (λ (n : ℕ). both (spent n) (spent n)) c.low_of.ensures.0)) (absorbing-first y.0 (place-absorbing c.requires.first c.if-m-eq6.true) y.1 c.requires.below-told) in record { tells = w; keeps = kept; suffices = λ r e. cc }

pub pair_at-returns-then-k-eq6-2 : goal.pair_at-returns-then-k-eq6-2
pair_at-returns-then-k-eq6-2 t c =
    let PairToldHere : ℕ → Type 0 = λ w. PairTold (read_at c.args.b.now c.args.p) (read_at c.args.b.now c.args.q) w in
    let kept : Kept c.args.top c.args.room.now c.args.room.now = kept_same c.args.top c.args.room.now in
    let w = let x = place-one c.requires.first c.requires.first_some c.if-m-eq6.false in subst PairToldHere (sym (c.absorb_alone-then-k-eq6-2.ensures ∙ ap (λ (n : ℕ). both (spent n) (spent n)) c.high_of.ensures.0)) (absorbing-second x.0 x.1 (place-absorbing c.requires.second c.if-k-eq6-2.true) c.requires.right-told) in record { tells = w; keeps = kept; suffices = λ r e. cc }

pub pair_at-returns-then-m-ne7-clause-tells : goal.pair_at-returns-then-m-ne7-clause-tells
pair_at-returns-then-m-ne7-clause-tells t c =
    let x = place-one c.requires.first c.requires.first_some c.if-m-eq6.false in
    let y = place-one c.requires.second c.requires.second-some c.if-k-eq6-2.false in
    subst (λ (w : ℕ). PairTold (read_at c.args.b.now c.args.p) (read_at c.args.b.now c.args.q) w) (sym c.behind_both.ensures) (heads-both x.0 y.0 x.1 y.1 c.flat_heads.ensures c.requires.diagonal_told)

pub pair_at-table_of-requires : goal.pair_at-table_of-requires
pair_at-table_of-requires t c =
    let inside : Inside c.args.b.now c.args.p = inside_at c.requires.first c.if-m-ne7.false in
    let the_inside : Inside c.args.b.now c.args.q = inside_at c.requires.second c.if-k-ne7.false in
    let x = inside in
    let y = the_inside in
    (omega (arith, c.decreases, x.less, y.less), (x.from, y.from, c.requires.few))

pub pair_at-returns : goal.pair_at-returns
pair_at-returns t c =
    let HeadsToldHere : ℕ → Type 0 = λ w. HeadsTold (read_at c.args.b.now c.args.p) (read_at c.args.b.now c.args.q) w in
    let PairToldHere : ℕ → Type 0 = λ w. PairTold (read_at c.args.b.now c.args.p) (read_at c.args.b.now c.args.q) w in
    let pair_told_here : (h w : ℕ) → HeadsToldHere h → w ≡ both (behind_of (low h) (low c.args.diagonal)) (behind_of (high h) (high c.args.diagonal)) → PairToldHere w = λ h w k e. let x = place-one c.requires.first c.requires.first_some c.if-m-eq6.false in
    let y = place-one c.requires.second c.requires.second-some c.if-k-eq6-2.false in
    subst PairToldHere (sym e) (heads-both x.0 y.0 x.1 y.1 k c.requires.diagonal_told) in
    let inside : Inside c.args.b.now c.args.p = inside_at c.requires.first c.if-m-ne7.false in
    let the_inside : Inside c.args.b.now c.args.q = inside_at c.requires.second c.if-k-ne7.false in
    let w = pair_told_here c.in_ok-inner.inner c.behind_both-2.result (brackets-told inside the_inside c.in_ok-inner.ensures.tells) c.behind_both-2.ensures in record { tells = w; keeps = c.table_of.ensures.keeps; suffices = λ r e. cc }

pub table_of-leftover-requires : goal.table_of-leftover-requires
table_of-leftover-requires t c = c.requires.1

pub table_of-returns-then-b-p-eq15 : goal.table_of-returns-then-b-p-eq15
table_of-returns-then-b-p-eq15 t c =
    let PairToldHere : ℕ → Type 0 = λ w. PairTold (read_at c.args.b.now c.args.p) (read_at c.args.b.now c.args.q) w in
    let w = subst PairToldHere (sym c.leftover.ensures) (closed_first (read_at c.args.b.now c.args.p) (read_at c.args.b.now c.args.q) (place-empty c.requires.0 c.if-b-p-eq15.true)) in record { tells = w; keeps = kept_same c.args.from c.args.room.now; suffices = λ l e. cc }

pub table_of-leftover-requires-then-b-q-eq15 : goal.table_of-leftover-requires-then-b-q-eq15
table_of-leftover-requires-then-b-q-eq15 t c = c.requires.0

pub table_of-returns-then-b-q-eq15 : goal.table_of-returns-then-b-q-eq15
table_of-returns-then-b-q-eq15 t c =
    let PairToldHere : ℕ → Type 0 = λ w. PairTold (read_at c.args.b.now c.args.p) (read_at c.args.b.now c.args.q) w in
    let w = subst PairToldHere (sym c.leftover-then-b-q-eq15.ensures) (closed_second (read_at c.args.b.now c.args.p) (read_at c.args.b.now c.args.q) (place-empty c.requires.1 c.if-b-q-eq15.true)) in record { tells = w; keeps = kept_same c.args.from c.args.room.now; suffices = λ l e. cc }

pub table_of-list_terms-requires : goal.table_of-list_terms-requires
table_of-list_terms-requires t c = (c.requires.0, c.requires.2)

pub table_of-list_second-requires : goal.table_of-list_second-requires
table_of-list_second-requires t c = let l = c.in_ok-first.ensures.lists in (c.requires.1, c.requires.2, l.1, l.2)

pub table_of-returns-in_err-second-clause-suffices : goal.table_of-returns-in_err-second-clause-suffices
table_of-returns-in_err-second-clause-suffices t c =
    λ l e. c.list_second.ensures.suffices (omega (arith, l, c.in_ok-first.ensures.lists.0, listed-size c.in_ok-first.ensures.lists.2, c.list_terms.ensures.keeps.length)) c.in_err-second.was

pub table_of-fill_table-requires : goal.table_of-fill_table-requires
table_of-fill_table-requires t c =
    let s = c.requires in
    let k = both-listed s.2 c.in_ok-first.ensures.lists.2 c.list_second.ensures.keeps c.in_ok-second.ensures.lists (place-some s.0 c.if-b-p-eq15.false) (place-some s.1 c.if-b-q-eq15.false) in
    (omega (arith, c.decreases, ap size k.first-is, ap size k.second_is), k.lists)

pub table_of-returns-then-second-first : goal.table_of-returns-then-second-first
table_of-returns-then-second-first t c =
    let s = c.requires in
    let d = c.in_ok-first.ensures.lists in
    let e = c.in_ok-second.ensures.lists in
    let k = both-listed s.2 d.2 c.list_second.ensures.keeps e (place-some s.0 c.if-b-p-eq15.false) (place-some s.1 c.if-b-q-eq15.false) in
    record {
      tells = IfSome_then c.fill_table.result c.fill_table.ensures.tells (both_told k);
      keeps = kept_then c.list_terms.ensures.keeps (kept_then (kept_less (omega (arith, d.0)) c.list_second.ensures.keeps) (kept_less (omega (arith, d.0, e.1)) c.fill_table.ensures.keeps));
      suffices = λ l z. c.fill_table.ensures.suffices (lists_room k.lists c.args.from c.if-second-first.true (omega (arith, d.0, e.0)) (omega (arith, l, ap size k.first-is, ap size k.second_is, c.list_terms.ensures.keeps.length, c.list_second.ensures.keeps.length))) z;
    }

pub table_of-fill_table-requires-2 : goal.table_of-fill_table-requires-2
table_of-fill_table-requires-2 t c =
    let s = c.requires in
    let k = both-listed s.2 c.in_ok-first.ensures.lists.2 c.list_second.ensures.keeps c.in_ok-second.ensures.lists (place-some s.0 c.if-b-p-eq15.false) (place-some s.1 c.if-b-q-eq15.false) in
    (omega (arith, c.decreases, ap size k.first-is, ap size k.second_is), k.turned)

pub table_of-returns-in_err-turned-clause-suffices : goal.table_of-returns-in_err-turned-clause-suffices
table_of-returns-in_err-turned-clause-suffices t c =
    let s = c.requires in
    let d = c.in_ok-first.ensures.lists in
    let e = c.in_ok-second.ensures.lists in
    let k = both-listed s.2 d.2 c.list_second.ensures.keeps e (place-some s.0 c.if-b-p-eq15.false) (place-some s.1 c.if-b-q-eq15.false) in
    λ l z. c.fill_table-2.ensures.suffices (lists_room k.turned c.args.from (omega (arith, c.if-second-first.false)) (omega (arith, d.0, e.0)) (omega (arith, l, ap size k.first-is, ap size k.second_is, c.list_terms.ensures.keeps.length, c.list_second.ensures.keeps.length))) c.in_err-turned.was

pub table_of-returns-clause-tells : goal.table_of-returns-clause-tells
table_of-returns-clause-tells t c =
    let s = c.requires in
    let d = c.in_ok-first.ensures.lists in
    let e = c.in_ok-second.ensures.lists in
    let k = both-listed s.2 d.2 c.list_second.ensures.keeps e (place-some s.0 c.if-b-p-eq15.false) (place-some s.1 c.if-b-q-eq15.false) in
    both_turned k c.in_ok-turned.turned c.turn.result c.turn.ensures c.in_ok-turned.ensures.tells

pub fill_table-bounds-b-p : goal.fill_table-bounds-b-p
fill_table-bounds-b-p t c =
    let i = c.loop-i.invariant in
    place_in (tabling_stands i.0 i.2 c.loop-i-test.true i.1 (get_or c.loop-i.room (c.args.xs.at + (c.loop-i.i - 1)) 0) refl).from

pub pair_at-bounds-b-p : goal.pair_at-bounds-b-p
pair_at-bounds-b-p t c = place_in c.requires.first

pub pair_at-bounds-b-q : goal.pair_at-bounds-b-q
pair_at-bounds-b-q t c = place_in c.requires.second

pub table_of-bounds-b-p : goal.table_of-bounds-b-p
table_of-bounds-b-p t c = place_in c.requires.0

pub table_of-bounds-b-q : goal.table_of-bounds-b-q
table_of-bounds-b-q t c = place_in c.requires.1
