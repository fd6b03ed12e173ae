-- Whether there is a token by its mark, as `is_token` finds it, and by what the reader's rules say of its span, code or name.
use Prim.Native.Nat.{ℕ, zero, suc, ◌+◌, ◌≤◌}
use native.Mathlib.Omega.{arith}
use mathlib.Core.Path.{◌≡◌, refl, sym, ap, subst}
use mathlib.Core.Bool.{Bool, true, false, true≢false, ◌&&◌, cond}
use mathlib.Core.List.{List, [], ◌∷◌}
use mathlib.Core.Option.{Option, none, some}
use lib.Dec.{eqb, leb, ltb, leb-zero, leb-suc-zero, leb-suc-suc}
use lib.ListN.{length, get_or, take, drop, length-drop}
use borrow.Author.Tests.{eqb-true, eqb-false, ltb-true, ltb-false, leb-true, le-leb, lt-leb, ne_eqb}
use Rattle.program.specs.Bytes.{get32}
use Rattle.program.specs.Limits.{pick, allowed, scalar}
use Rattle.program.specs.Automaton.{Scan, scan}
use Rattle.std.specs.Prelude.{Ok, Err}
use Rattle.std.specs.Result.{is_ok}
use Rattle.patterns.proofs.Tests.{same_test}
use Rattle.reader.specs.Steps.{refusal, refusal_of, span_refusal, name_refusal, code_refusal}
use Rattle.meaning.specs.Lists.{all}
use Rattle.meaning.specs.Inputs.{Reading, span_fits, name_fits, code_fits, first_token}
use Rattle.values.specs.Values.{is_read, TokenAt}

-- ---- rules without a refusal

both_are : (a b : Bool) → a ≡ false → (a && b) ≡ false
both_are a b e = ap (λ (t : Bool). t && b) e

and_false : (a : Bool) → (a && false) ≡ false
and_false true = refl
and_false false = refl

module _ (s : List ℕ) where
  pub span-told : span_fits s ≡ is_ok (span_refusal s 1)
  unfolding span_fits span_refusal
  span-told = by (ltb (length s) 9) (ltb (get32 s 5) (get32 s 1)) refl refl
    where
      by : (t u : Bool) → ltb (length s) 9 ≡ t → ltb (get32 s 5) (get32 s 1) ≡ u → (leb 9 (length s) && leb (get32 s 1) (get32 s 5)) ≡ is_ok (pick t (Err (refusal 5 (length s))) (pick u (Err (refusal 8 1)) (Ok (tt {0}))))
      by true u e f = rw (lt-leb 9 (length s) (ltb-true (length s) 9 e))
      by false true e f = rw (lt-leb (get32 s 1) (get32 s 5) (ltb-true (get32 s 5) (get32 s 1) f), le-leb 9 (length s) (ltb-false (length s) 9 e))
      by false false e f = rw (le-leb 9 (length s) (ltb-false (length s) 9 e), le-leb (get32 s 1) (get32 s 5) (ltb-false (get32 s 5) (get32 s 1) f))

  pub code-told : code_fits s ≡ is_ok (code_refusal s 9)
  unfolding code_fits code_refusal
  code-told = by (ltb (length s) 13) (scalar (get32 s 9)) refl
    where
      by : (t u : Bool) → ltb (length s) 13 ≡ t → (leb 13 (length s) && u) ≡ is_ok (pick t (Err (refusal 5 (length s))) (pick u (Ok (tt {0})) (Err (refusal 7 9))))
      by true u e = rw (lt-leb 13 (length s) (ltb-true (length s) 13 e))
      by false true e = rw (le-leb 13 (length s) (ltb-false (length s) 13 e))
      by false false e = rw (le-leb 13 (length s) (ltb-false (length s) 13 e))

scan-told : (g : Bool) (n : ℕ) (s : List ℕ) (l : ℕ) → (leb n (length s) && all (allowed g) (take n s)) ≡ is_ok (refusal_of l (scan g n s))
unfolding scan refusal_of all
scan-told g zero s l = rw (leb-zero (length s))
scan-told g (suc n) [] l = rw (leb-suc-zero n)
scan-told g (suc n) (b ∷ s) l = by (allowed g b) (scan-told g n s l)
  where
    by : (t : Bool) → (leb n (length s) && all (allowed g) (take n s)) ≡ is_ok (refusal_of l (scan g n s)) → (leb (suc n) (suc (length s)) && (t && all (allowed g) (take n s))) ≡ is_ok (refusal_of l (pick t (scan g n s) (Scan.refuse 6 (suc (length s)))))
    by true ih = rw (leb-suc-suc n (length s)) ih
    by false ih = and_false (leb (suc n) (suc (length s)))

module _ (s : List ℕ) (g : Bool) where
  name-long : 1 ≤ get_or s 9 0 → leb (10 + get_or s 9 0) (length s) ≡ leb (get_or s 9 0) (length (drop 10 s))
  name-long h =
      same_test _ _
      (λ e. le-leb (get_or s 9 0) (length (drop 10 s)) (let k = leb-true (10 + get_or s 9 0) (length s) e in simp length-drop (omega arith)))
      (λ e. le-leb (10 + get_or s 9 0) (length s) (let k = simp length-drop at (leb-true (get_or s 9 0) (length (drop 10 s)) e) in omega arith))

  pub name-told : name_fits g s ≡ is_ok (name_refusal s 9 g)
  unfolding name_fits name_refusal
  name-told = by (ltb 0 (get_or s 9 0)) (leb (get_or s 9 0) 63) refl
    where
      by : (t u : Bool) → ltb 0 (get_or s 9 0) ≡ t → (leb 1 (get_or s 9 0) && (u && (leb (10 + get_or s 9 0) (length s) && all (allowed g) (take (get_or s 9 0) (drop 10 s))))) ≡ is_ok (pick t (pick u (refusal_of (length s) (scan g (get_or s 9 0) (drop 10 s))) (Err (refusal 6 9))) (Err (refusal 6 9)))
      by true true e = rw (e, name-long (ltb-true 0 (get_or s 9 0) e)) (scan-told g (get_or s 9 0) (drop 10 s) (length s))
      by true false e = rw e
      by false u e = rw e

-- ---- the size by the mark

past_end : (s : List ℕ) (i : ℕ) → length s ≤ i → get_or s i 0 ≡ 0
past_end [] i h = refl
past_end (b ∷ s) zero h = absurd (omega arith)
past_end (b ∷ s) (suc i) h = past_end s i (omega arith)

-- Whether there is a token, by the mark.
read_if : (t : Bool) (r : Reading) → is_read (cond t (some r) none) ≡ t
unfolding is_read
read_if true r = refl
read_if false r = refl

module _ (s : List ℕ) where
  pub name_cut : (g : Bool) → length s ≤ 9 → name_fits g s ≡ false
  unfolding name_fits
  name_cut g e = rw (past_end s 9 e)

  pub nothing-read : length s ≡ 0 → false ≡ is_read (first_token s)
  unfolding is_read first_token span_fits
  nothing-read e = rw (past_end s 0 (omega arith), e)

  pub closing-read : get_or s 0 0 ≡ 15 → true ≡ is_read (first_token s)
  unfolding is_read first_token
  closing-read e = rw e

  pub no_span-read : (get_or s 0 0 ≡ 15 → ⊥) → span_fits s ≡ false → false ≡ is_read (first_token s)
  unfolding is_read first_token
  no_span-read h e = rw (ne_eqb (get_or s 0 0) 15 h, e)

  module _ (span : span_fits s ≡ true) where
    pub opening-read : get_or s 0 0 ≡ 7 → true ≡ is_read (first_token s)
    unfolding is_read first_token
    opening-read e = rw (e, span)

    pub code-read : get_or s 0 0 ≡ 1 → code_fits s ≡ is_read (first_token s)
    unfolding first_token
    code-read e = rw (e, span) (sym (read_if (code_fits s) _))

    identifier-read : get_or s 0 0 ≡ 2 → name_fits (eqb (get_or s 0 0) 3) s ≡ is_read (first_token s)
    unfolding first_token
    identifier-read e = rw (e, span) (sym (read_if (name_fits false s) _))

    number-read : get_or s 0 0 ≡ 3 → name_fits (eqb (get_or s 0 0) 3) s ≡ is_read (first_token s)
    unfolding first_token
    number-read e = rw (e, span) (sym (read_if (name_fits true s) _))

    pub name-read : 2 ≤ get_or s 0 0 → get_or s 0 0 ≤ 3 → name_fits (eqb (get_or s 0 0) 3) s ≡ is_read (first_token s)
    name-read h k = by (eqb (get_or s 0 0) 3) refl
      where
        by : (t : Bool) → eqb (get_or s 0 0) 3 ≡ t → name_fits (eqb (get_or s 0 0) 3) s ≡ is_read (first_token s)
        by true e = number-read (eqb-true (get_or s 0 0) 3 e)
        by false e = identifier-read (let n = eqb-false (get_or s 0 0) 3 e in by_two h k n)
          where
            by_two : 2 ≤ get_or s 0 0 → get_or s 0 0 ≤ 3 → (get_or s 0 0 ≡ 3 → ⊥) → get_or s 0 0 ≡ 2
            by_two h k n = omega (arith, n)

    pub other-read : (get_or s 0 0 ≡ 15 → ⊥) → (get_or s 0 0 ≡ 7 → ⊥) → (get_or s 0 0 ≡ 1 → ⊥) → (get_or s 0 0 ≡ 2 → ⊥) → (get_or s 0 0 ≡ 3 → ⊥) → false ≡ is_read (first_token s)
    unfolding is_read first_token
    other-read a b c d e = rw (ne_eqb (get_or s 0 0) 15 a, span, ne_eqb (get_or s 0 0) 7 b, ne_eqb (get_or s 0 0) 1 c, ne_eqb (get_or s 0 0) 2 d, ne_eqb (get_or s 0 0) 3 e)

  -- ---- the token by its test

  pub token-read : true ≡ is_read (first_token s) → TokenAt s
  unfolding is_read
  token-read e = by (first_token s) refl e
    where
      by : (o : Option Reading) → first_token s ≡ o → true ≡ is_read o → TokenAt s
      by none f h = absurd (true≢false h)
      by (some r) f h = record { reading = r; is = f }

  pub token-told : TokenAt s → true ≡ is_read (first_token s)
  unfolding is_read
  token-told t = sym (ap is_read t.is)

  pub none_read : false ≡ is_read (first_token s) → first_token s ≡ none
  unfolding is_read
  none_read e = by (first_token s) e
    where
      by : (o : Option Reading) → false ≡ is_read o → o ≡ none
      by none h = refl
      by (some r) h = absurd (true≢false (sym h))

-- A token that was read where x stands, and its size.
unfoldable pub read-at : {x y : List ℕ} → y ≡ x → true ≡ is_read (first_token y) → TokenAt x
read-at {x} e h = token-read x (subst (λ (z : List ℕ). true ≡ is_read (first_token z)) e h)

pub size-at : {x y : List ℕ} (e : y ≡ x) (h : true ≡ is_read (first_token y)) {n : ℕ} → ((t : TokenAt y) → n ≡ t.reading.size) → n ≡ (read-at e h).reading.size
size-at e h {n} f = subst (λ (z : List ℕ). (t : TokenAt z) → n ≡ t.reading.size) e f (read-at e h)
