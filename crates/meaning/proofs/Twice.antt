-- Cleaning a cleaned program gives it back, in one round at most, with no sentence dropped.
use Prim.Native.Nat.{ℕ, zero, suc, ◌≤◌, ◌<◌}
use mathlib.Core.Path.{◌≡◌, refl, ◌∙◌, ap}
use mathlib.Core.Bool.{Bool, true, false, true≢false, cond}
use mathlib.Core.List.{List, [], ◌∷◌, map, flat_map}
use lib.Dec.{eqb}
use lib.ListN.{length}
use native.Mathlib.Omega.{arith}
use Rattle.program.specs.Syntax.{Program}
use Rattle.program.specs.Encode.{own_sentence_count}
use Rattle.program.specs.Sentences.{Sentence}
use Rattle.meaning.specs.Dispatch.{residual_dispatches_dynamically}
use Rattle.meaning.specs.Root.{root_place}
use Rattle.meaning.specs.Counted.{dropped_count, dropped_in_all}
use Rattle.meaning.specs.CleanReport.{removed_sentence, removed_by, removed, clean_report}
use Rattle.meaning.specs.Lists.{firsts, firsts_after}
use Rattle.meaning.specs.Cleaning.{Change, LeftAlone, Round, round, left_by, drops_nothing, rounds_up_to, rounds_of, is_root, rounds, after, clean_residual_program}
use Rattle.meaning.proofs.RootStays.{root_place_stays}
use Rattle.meaning.proofs.Counts.{round-count, round_unchanged, round_fewer}
use Rattle.meaning.proofs.Bound.{rounds_unfold}

-- A further round would drop nothing.
abbrev Still : LeftAlone → Program → Type 0
Still alone p = drops_nothing (round alone p) ≡ true

still_cond : (alone : LeftAlone) (t : Bool) (p : Program) (l : List Round) → (t ≡ true → Still alone p) → (t ≡ false → Still alone (after p l)) → Still alone (after p (cond t [] l))
unfolding after
still_cond alone true p l h k = h refl
still_cond alone false p l h k = k refl

still_up_to : (n : ℕ) (alone : LeftAlone) (p : Program) → own_sentence_count p.functions < n → Still alone (after p (rounds_up_to n alone p))
unfolding rounds_up_to after
still_up_to zero alone p h = absurd (omega arith)
still_up_to (suc n) alone p h =
    let r = round alone p in
    still_cond alone (drops_nothing r) (left_by r) (rounds_up_to n alone (left_by r)) (λ e. ap (λ (q : Program). drops_nothing (round alone q)) (round_unchanged alone p e) ∙ e) (λ e.
    still_up_to n alone (left_by r) (omega (arith, round_fewer alone p e)))

pub rounds_still : (alone : LeftAlone) (p : Program) → Still alone (after p (rounds_of alone p))
unfolding rounds_of
rounds_still alone p = still_up_to (suc (own_sentence_count p.functions)) alone p (omega arith)

-- Where a round drops nothing, it is the only one.
pub still_rounds : (alone : LeftAlone) (p : Program) → Still alone p → rounds_of alone p ≡ round alone p ∷ []
still_rounds alone p e = rounds_unfold alone p ∙ ap (λ (t : Bool). round alone p ∷ cond t [] (rounds_of alone (left_by (round alone p)))) e

-- The root stays where it is.
place_cond : (t : Bool) (p : Program) (l : List Round) → root_place (after p l) ≡ root_place p → root_place (after p (cond t [] l)) ≡ root_place p
unfolding after
place_cond true p l e = refl
place_cond false p l e = e

place_up_to : (n : ℕ) (alone : LeftAlone) (p : Program) → root_place (after p (rounds_up_to n alone p)) ≡ root_place p
unfolding rounds_up_to after
place_up_to zero alone p = refl
place_up_to (suc n) alone p =
    let r = round alone p in
    place_cond (drops_nothing r) (left_by r) (rounds_up_to n alone (left_by r)) (place_up_to n alone (left_by r)) ∙ root_place_stays alone p

place_stays : (p : Program) → root_place (after p (rounds_of (is_root p) p)) ≡ root_place p
unfolding rounds_of
place_stays p = place_up_to (suc (own_sentence_count p.functions)) (is_root p) p

-- A program that cleaning leaves as it is.
abbrev pub Settled : Program → Type 0
Settled q = residual_dispatches_dynamically q ≡ false → Still (is_root q) q

settled_cond : (t : Bool) (p : Program) → t ≡ residual_dispatches_dynamically p → Settled (after p (cond t [] (rounds_of (is_root p) p)))
unfolding after is_root
settled_cond true p e h = absurd (true≢false (e ∙ h))
settled_cond false p e h =
    let q = after p (rounds_of (is_root p) p) in
    ap (λ (n : ℕ). drops_nothing (round (λ i f. eqb i n) q)) (place_stays p) ∙ rounds_still (is_root p) p

pub settled-program : (p : Program) → Settled (clean_residual_program p)
unfolding clean_residual_program rounds
settled-program p = settled_cond (residual_dispatches_dynamically p) p refl

one-round : (t : Bool) (q : Program) (l : List Round) → (t ≡ false → l ≡ round (is_root q) q ∷ []) → cond t [] l ≡ cond t [] (round (is_root q) q ∷ [])
one-round true q l h = refl
one-round false q l h = h refl

settled-rounds : (q : Program) → Settled q → rounds q ≡ cond (residual_dispatches_dynamically q) [] (round (is_root q) q ∷ [])
unfolding rounds
settled-rounds q h = one-round (residual_dispatches_dynamically q) q (rounds_of (is_root q) q) (λ e. still_rounds (is_root q) q (h e))

module _ (q : Program) (settled : Settled q) where
  one_leaves : (t : Bool) → (t ≡ false → Still (is_root q) q) → after q (cond t [] (round (is_root q) q ∷ [])) ≡ q
  unfolding after
  one_leaves true h = refl
  one_leaves false h = round_unchanged (is_root q) q (h refl)

  pub settled_cleaned : clean_residual_program q ≡ q
  unfolding clean_residual_program
  settled_cleaned = ap (after q) (settled-rounds q settled) ∙ one_leaves (residual_dispatches_dynamically q) settled

  at_most_one : (t : Bool) → length (cond t [] (round (is_root q) q ∷ [])) ≤ 1
  at_most_one true = omega arith
  at_most_one false = omega arith

  pub settled-few : length (rounds q) ≤ 1
  settled-few = let e = ap length (settled-rounds q settled) in let h = at_most_one (residual_dispatches_dynamically q) in omega (arith, e, h)

  none_dropped : (t : Bool) → (t ≡ false → Still (is_root q) q) → dropped_in_all (cond t [] (round (is_root q) q ∷ [])) ≡ 0
  unfolding dropped_in_all
  none_dropped true h = refl
  none_dropped false h =
      let e = round-count (is_root q) q in
      let k = ap (λ (r : Program). own_sentence_count r.functions) (round_unchanged (is_root q) q (h refl)) in
      omega (arith, e, k)

  pub settled-dropped : dropped_in_all (rounds q) ≡ 0
  settled-dropped = ap dropped_in_all (settled-rounds q settled) ∙ none_dropped (residual_dispatches_dynamically q) settled

-- Cleaning twice is cleaning once.
pub clean_twice : (p : Program) → clean_residual_program (clean_residual_program p) ≡ clean_residual_program p
clean_twice p = settled_cleaned (clean_residual_program p) (settled-program p)

pub twice_rounds : (p : Program) → length (rounds (clean_residual_program p)) ≤ 1
twice_rounds p = settled-few (clean_residual_program p) (settled-program p)

pub twice_dropped : (p : Program) → dropped_in_all (rounds (clean_residual_program p)) ≡ 0
twice_dropped p = settled-dropped (clean_residual_program p) (settled-program p)

-- Where nothing is dropped no line is listed as removed.
change_removes_nothing : (c : Change) → length c.dropped ≡ 0 → removed_by c ≡ []
unfolding removed_by
change_removes_nothing c e = by c.dropped e
  where
    by : (l : List Sentence) → length l ≡ 0 → map (removed_sentence c) l ≡ []
    by [] e = refl
    by (x ∷ l) e = absurd (omega (arith, e))

changes_remove_nothing : (l : List Change) → dropped_count l ≡ 0 → flat_map removed_by l ≡ []
unfolding dropped_count flat_map
changes_remove_nothing [] e = refl
changes_remove_nothing (c ∷ l) e = rw (change_removes_nothing c (omega (arith, e)), changes_remove_nothing l (omega (arith, e)))

rounds_remove_nothing : (l : List Round) → dropped_in_all l ≡ 0 → flat_map (λ r. flat_map removed_by r.changes) l ≡ []
unfolding dropped_in_all flat_map
rounds_remove_nothing [] e = refl
rounds_remove_nothing (r ∷ l) e = rw (changes_remove_nothing r.changes (omega (arith, e)), rounds_remove_nothing l (omega (arith, e)))

pub twice_removed : (p : Program) → (clean_report (clean_residual_program p)).removed ≡ []
unfolding clean_report removed firsts firsts_after
twice_removed p = rw (rounds_remove_nothing (rounds (clean_residual_program p)) (twice_dropped p))
