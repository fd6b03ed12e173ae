-- The bound on the number of rounds is never met: the rounds are a round and, if it drops something, the rounds of what it leaves.
use Prim.Native.Nat.{ℕ, zero, suc, ◌+◌, ◌≤◌, ◌<◌}
use mathlib.Core.Path.{◌≡◌, refl, ap}
use mathlib.Core.Bool.{Bool, true, false, cond}
use mathlib.Core.List.{List, [], ◌∷◌}
use lib.ListN.{length}
use native.Mathlib.Omega.{arith}
use Rattle.program.specs.Syntax.{Program}
use Rattle.program.specs.Encode.{own_sentence_count}
use Rattle.meaning.specs.Dispatch.{residual_dispatches_dynamically}
use Rattle.meaning.specs.Counted.{dropped_in_all, functions_with_any}
use Rattle.meaning.specs.Cleaning.{LeftAlone, Round, round, left_by, drops_nothing, rounds_up_to, rounds_of, is_root, rounds, after, clean_residual_program}
use Rattle.meaning.proofs.Counts.{round-count, round_fewer, round-any, functions_count_any}

abbrev count : Program → ℕ
count p = own_sentence_count p.functions

-- Two ways to go on after a round that differ only where the round drops something.
on_same : (t : Bool) (x y : List Round) → (t ≡ false → x ≡ y) → cond t [] x ≡ cond t [] y
on_same true x y f = refl
on_same false x y f = f refl

-- Bounds above the number of sentences make no difference.
enough : (n m : ℕ) (alone : LeftAlone) (p : Program) → count p < n → count p < m → rounds_up_to n alone p ≡ rounds_up_to m alone p
unfolding rounds_up_to
enough zero m alone p h k = absurd (omega arith)
enough (suc n) zero alone p h k = absurd (omega arith)
enough (suc n) (suc m) alone p h k =
    ap (λ (l : List Round). round alone p ∷ l) (on_same (drops_nothing (round alone p)) (rounds_up_to n alone (left_by (round alone p))) (rounds_up_to m alone (left_by (round alone p))) (λ e.
    enough n m alone (left_by (round alone p)) (omega (arith, round_fewer alone p e)) (omega (arith, round_fewer alone p e))))

-- "Rounds end with the first that drops nothing, which is counted."
pub rounds_unfold : (alone : LeftAlone) (p : Program) → rounds_of alone p ≡ round alone p ∷ cond (drops_nothing (round alone p)) [] (rounds_of alone (left_by (round alone p)))
unfolding rounds_of rounds_up_to
rounds_unfold alone p =
    ap (λ (l : List Round). round alone p ∷ l) (on_same (drops_nothing (round alone p)) _ _ (λ e.
    enough (count p) (suc (count (left_by (round alone p)))) alone (left_by (round alone p)) (round_fewer alone p e) (omega arith)))

-- Each round but the last drops a sentence and empties no function. So the rounds never exceed 1 plus the sentences less the functions that have any; the Rust stops only beyond the sentences and 2.
on-length : (t : Bool) (l : List Round) (n m : ℕ) → n ≤ m → (t ≡ false → length l + n ≤ m) → length (cond t [] l) + n ≤ m
on-length true l n m h f = omega arith
on-length false l n m h f = f refl

few-rounds : (n : ℕ) (alone : LeftAlone) (p : Program) → length (rounds_up_to n alone p) + functions_with_any p.functions ≤ suc (count p)
unfolding rounds_up_to
few-rounds zero alone p = let h = functions_count_any p.functions in omega (arith, h)
few-rounds (suc n) alone p =
    let r = round alone p in
    let h = on-length (drops_nothing r) (rounds_up_to n alone (left_by r)) (functions_with_any p.functions) (count p) (functions_count_any p.functions) (λ e.
    let k = few-rounds n alone (left_by r) in omega (arith, k, round_fewer alone p e, round-any alone p)) in
    omega (arith, h)

pub rounds-few : (alone : LeftAlone) (p : Program) → length (rounds_of alone p) + functions_with_any p.functions ≤ suc (own_sentence_count p.functions)
unfolding rounds_of
rounds-few alone p = few-rounds (suc (own_sentence_count p.functions)) alone p

all-dropped : (t : Bool) (p : Program) (l : List Round) → count p ≡ count (after p l) + dropped_in_all l → count p ≡ count (after p (cond t [] l)) + dropped_in_all (cond t [] l)
unfolding after dropped_in_all
all-dropped true p l e = omega arith
all-dropped false p l e = e

dropped_up_to : (n : ℕ) (alone : LeftAlone) (p : Program) → count p ≡ count (after p (rounds_up_to n alone p)) + dropped_in_all (rounds_up_to n alone p)
unfolding rounds_up_to after dropped_in_all
dropped_up_to zero alone p = omega arith
dropped_up_to (suc n) alone p =
    let r = round alone p in
    let h = all-dropped (drops_nothing r) (left_by r) (rounds_up_to n alone (left_by r)) (dropped_up_to n alone (left_by r)) in
    let k = round-count alone p in
    omega (arith, h, k)

pub dropped_round_by_round : (alone : LeftAlone) (p : Program) → own_sentence_count p.functions ≡ own_sentence_count (after p (rounds_of alone p)).functions + dropped_in_all (rounds_of alone p)
unfolding rounds_of
dropped_round_by_round alone p = dropped_up_to (suc (own_sentence_count p.functions)) alone p

-- Of every program, one with a call of Mu or Up included.
few_cond : (t : Bool) (p : Program) (l : List Round) → length l + functions_with_any p.functions ≤ suc (count p) → length (cond t [] l) + functions_with_any p.functions ≤ suc (count p)
few_cond true p l h = let k = functions_count_any p.functions in omega (arith, k)
few_cond false p l h = h

pub all_rounds_few : (p : Program) → length (rounds p) + functions_with_any p.functions ≤ suc (own_sentence_count p.functions)
unfolding rounds
all_rounds_few p = few_cond (residual_dispatches_dynamically p) p (rounds_of (is_root p) p) (rounds-few (is_root p) p)

pub all_dropped_add_up : (p : Program) → own_sentence_count p.functions ≡ own_sentence_count (clean_residual_program p).functions + dropped_in_all (rounds p)
unfolding clean_residual_program rounds
all_dropped_add_up p = all-dropped (residual_dispatches_dynamically p) p (rounds_of (is_root p) p) (dropped_round_by_round (is_root p) p)
