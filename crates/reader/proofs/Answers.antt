-- The answer on an image, case by case.
use Prim.Native.Nat.{ℕ, ◌+◌, ◌-◌, ◌≤◌, ◌<◌}
use native.Mathlib.Omega.{arith}
use mathlib.Core.Path.{◌≡◌, refl, sym, ap, ◌∙◌}
use mathlib.Core.Bool.{Bool, true, false, not, ◌&&◌}
use lib.Dec.{eqb}
use mathlib.Core.Logic.{◌⊎◌, inl, inr}
use mathlib.Core.List.{List}
use lib.ListN.{length, take}
use lib.Seq.{length-take-le}
use borrow.Author.Tests.{le-leb, lt-leb, eq-eqb, ne_eqb, eqb-true, eqb-false}
use Rattle.program.specs.Syntax.{Program}
use Rattle.program.specs.Bytes.{get16, get32}
use Rattle.program.specs.Encode.{put_functions, own_sentence_count}
use Rattle.program.specs.Limits.{pick}
use Rattle.program.specs.Automaton.{Stack, Read, run}
use Rattle.program.specs.Decode.{Answer, body_length, to_body, to_functions, function_field, sentence_field, pointed, agrees, settled, decode_sized}
use Rattle.reader.specs.Steps.{refusal}
use Rattle.reader.specs.Tally.{counts, tally_of, checked_of}
use Rattle.program.specs.declared.Refusal.{Refusal}
use Rattle.reader.specs.declared.check.Counts.{Counts}
use Rattle.std.specs.Prelude.{Result, Ok, Err}

module _ (s : List ℕ) (n a f : ℕ) (hl : 12 ≤ length s) (hn : n ≡ length s - 12) (ha : a ≡ get32 s n) (hf : f ≡ get32 s (n + 4)) where
  pub unpointed : (a ≡ n → ⊥) ⊎ ((a ≡ n) × (a < f)) → Err (refusal 4 0) ≡ checked_of (decode_sized s)
  unfolding decode_sized pointed checked_of
  unpointed (inl h) = rw (ne_eqb (to_body s) (body_length s) (λ q. h (ha ∙ (rw hn q ∙ sym hn))))
  unpointed (inr (h, l)) =
      let u : to_body s ≡ a = sym (ha ∙ rw hn) in
      let v : to_functions s ≡ f = sym (hf ∙ rw hn) in
      rw (eq-eqb (to_body s) (body_length s) (u ∙ (h ∙ hn)), lt-leb (to_functions s) (to_body s) (omega arith))

  module _ (h : a ≡ n) (l : f ≤ a) (t : Result Counts Refusal) (ht : t ≡ tally_of (length (take n s)) (run Stack.body 0 (take n s))) where
    is-pointed : pointed s ≡ true
    unfolding pointed
    is-pointed =
        let u : to_body s ≡ a = sym (ha ∙ rw hn) in
        let v : to_functions s ≡ f = sym (hf ∙ rw hn) in
        rw (eq-eqb (to_body s) (body_length s) (u ∙ (h ∙ hn))) (le-leb (to_functions s) (to_body s) (omega arith))

    is-settled : checked_of (decode_sized s) ≡ checked_of (settled s (run Stack.body 0 (take n s)))
    unfolding decode_sized
    is-settled = rw (is-pointed, hn)

    take_long : length (take n s) ≡ body_length s
    take_long = length-take-le n s (omega arith) ∙ hn

    pub body_bad : (w : Refusal) → t ≡ Err w → Err w ≡ checked_of (decode_sized s)
    unfolding tally_of settled checked_of
    body_bad w q = sym (is-settled ∙ by (run Stack.body 0 (take n s)) (sym ht ∙ q))
      where
        by : (r : Read Program) → tally_of (length (take n s)) r ≡ Err w → checked_of (settled s r) ≡ Err w
        by (Read.refused m k) e =
            let u : refusal m (length (take n s) - k) ≡ w = cc in
            ap (λ (j : ℕ). Err (refusal m (j - k))) (sym take_long) ∙ ap (λ (g : Refusal). Err g) u
        by (Read.value v) e = cc

    -- The program that is read, with its counts.
    read_fine : (c : Counts) → t ≡ Ok c → (w : Program) × (run Stack.body 0 (take n s) ≡ Read.value w) × (c ≡ counts (length w.functions) (own_sentence_count w.functions) (length (put_functions w.functions)))
    unfolding tally_of
    read_fine c q = by (run Stack.body 0 (take n s)) refl (sym ht ∙ q)
      where
        by : (r : Read Program) → run Stack.body 0 (take n s) ≡ r → tally_of (length (take n s)) r ≡ Ok c → (w : Program) × (run Stack.body 0 (take n s) ≡ Read.value w) × (c ≡ counts (length w.functions) (own_sentence_count w.functions) (length (put_functions w.functions)))
        by (Read.refused m k) u e = cc
        by (Read.value w) u e = (w, u, cc)

    module _ (c : Counts) (q : t ≡ Ok c) where
      settles : {v : Result (Unit {0}) Refusal} → ((w : Program) → c ≡ counts (length w.functions) (own_sentence_count w.functions) (length (put_functions w.functions)) → v ≡ checked_of (pick (agrees s w) (Answer.accepted w) (Answer.refused 11 0))) → v ≡ checked_of (decode_sized s)
      unfolding settled
      settles k =
          let (w, u, e) = read_fine c q in
          k w e ∙ sym (is-settled ∙ rw u)

      pub first_off : (c.first ≡ f → ⊥) → Err (refusal 11 0) ≡ checked_of (decode_sized s)
      unfolding agrees checked_of
      first_off z = settles (λ w e. rw (ne_eqb (to_functions s) (length (put_functions w.functions)) (λ y. z (ap (λ (k : Counts). k.first) e ∙ (sym y ∙ sym (hf ∙ rw hn))))))

      pub functions-off : {j : ℕ} → j ≡ get16 s (n + 8) → c.first ≡ f → (c.functions ≡ j → ⊥) → Err (refusal 11 0) ≡ checked_of (decode_sized s)
      unfolding agrees checked_of
      functions-off hj y z =
          settles (λ w e.
          rw (
            eq-eqb (to_functions s) (length (put_functions w.functions)) (sym (hf ∙ rw hn) ∙ (sym y ∙ ap (λ (k : Counts). k.first) e)),
            ne_eqb (function_field s) (length w.functions) (λ x. z (ap (λ (k : Counts). k.functions) e ∙ (sym x ∙ sym (hj ∙ rw hn)))),
          ))

      pub sentences-off : {j i : ℕ} → j ≡ get16 s (n + 8) → i ≡ get16 s (n + 10) → c.first ≡ f → c.functions ≡ j → (c.sentences ≡ i → ⊥) → Err (refusal 11 0) ≡ checked_of (decode_sized s)
      unfolding agrees checked_of
      sentences-off hj hi y x z =
          settles (λ w e.
          rw (
            eq-eqb (to_functions s) (length (put_functions w.functions)) (sym (hf ∙ rw hn) ∙ (sym y ∙ ap (λ (k : Counts). k.first) e)),
            eq-eqb (function_field s) (length w.functions) (sym (hj ∙ rw hn) ∙ (sym x ∙ ap (λ (k : Counts). k.functions) e)),
            ne_eqb (sentence_field s) (own_sentence_count w.functions) (λ v. z (ap (λ (k : Counts). k.sentences) e ∙ (sym v ∙ sym (hi ∙ rw hn)))),
          ))

      pub all-fine : {j i : ℕ} → j ≡ get16 s (n + 8) → i ≡ get16 s (n + 10) → c.first ≡ f → c.functions ≡ j → c.sentences ≡ i → Ok tt ≡ checked_of (decode_sized s)
      unfolding agrees checked_of
      all-fine hj hi y x z =
          settles (λ w e.
          rw (
            eq-eqb (to_functions s) (length (put_functions w.functions)) (sym (hf ∙ rw hn) ∙ (sym y ∙ ap (λ (k : Counts). k.first) e)),
            eq-eqb (function_field s) (length w.functions) (sym (hj ∙ rw hn) ∙ (sym x ∙ ap (λ (k : Counts). k.functions) e)),
            eq-eqb (sentence_field s) (own_sentence_count w.functions) (sym (hi ∙ rw hn) ∙ (sym z ∙ ap (λ (k : Counts). k.sentences) e)),
          ))

      -- What the trailer's three fields and the counts come to.
      pub compared : {j i : ℕ} → j ≡ get16 s (n + 8) → i ≡ get16 s (n + 10) → {v : Bool} → v ≡ not (eqb c.functions j && (eqb c.sentences i && eqb c.first f)) → pick v (Err (refusal 11 0)) (Ok (tt {0})) ≡ checked_of (decode_sized s)
      compared {j} {i} hj hi e = rw e (by (eqb c.functions j) (eqb c.sentences i) (eqb c.first f) refl refl refl)
        where
          by : (x y z : Bool) → eqb c.functions j ≡ x → eqb c.sentences i ≡ y → eqb c.first f ≡ z → pick (not (x && (y && z))) (Err (refusal 11 0)) (Ok (tt {0})) ≡ checked_of (decode_sized s)
          by true true true p o r = all-fine hj hi (eqb-true _ _ r) (eqb-true _ _ p) (eqb-true _ _ o)
          by true false true p o r = sentences-off hj hi (eqb-true _ _ r) (eqb-true _ _ p) (eqb-false _ _ o)
          by false true true p o r = functions-off hj (eqb-true _ _ r) (eqb-false _ _ p)
          by false false true p o r = functions-off hj (eqb-true _ _ r) (eqb-false _ _ p)
          by true true false p o r = first_off (eqb-false _ _ r)
          by true false false p o r = first_off (eqb-false _ _ r)
          by false true false p o r = first_off (eqb-false _ _ r)
          by false false false p o r = first_off (eqb-false _ _ r)
