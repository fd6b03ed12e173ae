-- What asking verdicts leaves: the columns as they were.
use Prim.Native.Nat.{ℕ, ◌+◌, ◌-◌, ◌%◌, ◌≤◌}
use native.Mathlib.Omega.{arith}
use mathlib.Core.Path.{◌≡◌, refl, ap, ◌∙◌}
use mathlib.Core.List.{List, ◌++◌}
use lib.ListN.{length, set, take, length-set, get_or-append}
use lib.Seq.{get_or-take, get_or-set_other, length-take-le}
use borrow.Rule.Slice.PartMut.{mid_of, post_of, put_mid, same_len_mid}
use Rattle.program.specs.Syntax.{Program}
use Rattle.index.specs.declared.Plan.{Plan}
use Rattle.index.specs.Layout.{lines, room}
use Rattle.cleaning.specs.Indexed.{Indexed, fell_of, OnlyRounds}
use Rattle.cleaning.specs.Walks.{OneColumn}
use Rattle.cleaning.specs.Room.{Used}
use Rattle.cleaning.proofs.Indexed.{only_rounds_indexed, fell-from}

module _ {p : Plan} where
  pub used_same : {m : List ℕ} → Used p m m
  used_same = record { length = refl; columns = λ k l. refl }

  pub used_then : {m n o : List ℕ} → Used p m n → Used p n o → Used p m o
  used_then u v = record { length = v.length ∙ u.length; columns = λ k l. v.columns k l ∙ u.columns k l }

  module _ {m n : List ℕ} (u : Used p m n) where
    pub used_only : OnlyRounds p m n
    used_only = record {
      length = u.length;
      before = λ k l. u.columns k (omega arith);
      after = λ k l i. u.columns k (omega (arith, i));
      place = λ s l. ap (λ (v : ℕ). v % 32768) (u.columns (lines p + s) (omega arith));
    }

    pub used_indexed : {b : List ℕ} {w : Program} → Indexed b w m p → Indexed b w n p
    used_indexed d = only_rounds_indexed used_only d

    pub used_fell : fell_of p n ≡ fell_of p m
    used_fell = fell-from p m n (λ s l. u.columns (lines p + s) (omega arith))

    -- A column is written after that.
    pub one_column : (k v : ℕ) → OneColumn p m (set n k v) k
    one_column k v = record { length = length-set n k v ∙ u.length; others = λ j l d. get_or-set_other n k j v 0 d ∙ u.columns j l }

pub no_column : (p : Plan) (m : List ℕ) (k : ℕ) → OneColumn p m m k
no_column p m k = record { length = refl; others = λ j l d. refl }

-- The room is lent: the part of work from there on.
pub used_from_part : (p : Plan) (old : List ℕ) (from : ℕ) → from ≡ room p → room p ≤ length old → (ys : List ℕ) → length ys ≡ length (mid_of from (length old - from) old) → Used p old (put_mid from (length old - from) old ys)
used_from_part p old from at fits ys l =
    let head : length (take from old) ≡ from = length-take-le from old (omega (arith, at, fits)) in
    record {
      length = same_len_mid from (length old - from) old ys l;
      columns = λ k i. get_or-append (take from old) (ys ++ post_of from (length old - from) old) 0 k (omega (arith, head, at)) ∙ get_or-take from old k 0 (omega (arith, at));
    }
