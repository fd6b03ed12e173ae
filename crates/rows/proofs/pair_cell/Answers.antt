-- `rows::pair_cell` meets its contract: the first cell of the word at the places of the two tails.
use Prim.Native.Nat.{ℕ}
use native.Mathlib.Omega.{arith}
use mathlib.Core.Path.{◌≡◌, sym, ap, subst}
use mathlib.Core.List.{List}
use Rattle.program.specs.Syntax.{Terms}
use Rattle.program.specs.Limits.{Mode}
use Rattle.image.specs.Parts.{TermsAt}
use Rattle.patterns.specs.Search.{sequence, size}
use Rattle.rows.specs.Parts.{place_of, TailOf}
use Rattle.rows.specs.Cells.{Cell, CellTold, low, PairTold}
use Rattle.rows.specs.Rows.{read_at, PatternFrom}
use Rattle.rows.proofs.Readings.{in_body}
use Rattle.rows.proofs.Cells.{cell_told}
use Rattle.rows.proofs.Places.{read_is}
use Rattle.rows.proofs.pair_cell.Goals as goal

-- A pattern at the start of a tail stands at its place.
from_tail : {b s : List ℕ} → TailOf b s → TermsAt Mode.pattern s → PatternFrom b (place_of b s)
from_tail t x = record { pattern = in_body t x }

first-told : {b left right : List ℕ} (u : TailOf b left) (v : TailOf b right) (w r : ℕ) → r ≡ low w → PairTold (read_at b (place_of b left)) (read_at b (place_of b right)) w
    → (x : TermsAt Mode.pattern left) (y : TermsAt Mode.pattern right) → CellTold (λ f. sequence f x.terms y.terms) r
unfolding from_tail
first-told {b} {left} {right} u v w r e t x y =
    let c = subst (λ (n : ℕ). Cell (λ f. sequence f (read_at b (place_of b left)) (read_at b (place_of b right))) n) (sym e) t.first in
    let d = subst (λ (z : Terms). Cell (λ f. sequence f z (read_at b (place_of b right))) r) (read_is (from_tail u x)) c in
    cell_told (subst (λ (z : Terms). Cell (λ f. sequence f x.terms z) r) (read_is (from_tail v y)) d)

pub table_of-requires : goal.table_of-requires
table_of-requires c = let s = c.requires in (from_tail s.0.tail s.0.pattern, from_tail s.1.tail s.1.pattern, s.2)

pub returns-in_err-word-clause-keeps : goal.returns-in_err-word-clause-keeps
unfolding from_tail
returns-in_err-word-clause-keeps c = let s = c.requires in let k = c.table_of.ensures.keeps in (
  k.length,
  k.below,
  λ x y l z. c.table_of.ensures.suffices (omega (arith, l, ap size (read_is (from_tail s.0.tail x)), ap size (read_is (from_tail s.1.tail y)))) c.in_err-word.was,
)

pub returns : goal.returns
unfolding from_tail
returns c = let s = c.requires in let k = c.table_of.ensures.keeps in record {
  tells = λ x y. first-told s.0.tail s.1.tail c.in_ok-word.word c.low_of.result c.low_of.ensures.0 c.in_ok-word.ensures.tells x y;
  keeps = (k.length, k.below, λ x y l z. cc);
}
