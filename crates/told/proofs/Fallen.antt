-- A sentence falls at most once: no more fall than there are.
use Prim.Native.Nat.{ℕ, zero, suc, ◌+◌, ◌≤◌}
use native.Mathlib.Omega.{arith}
use mathlib.Core.Path.{◌≡◌, refl}
use mathlib.Core.Bool.{Bool, true, false, cond}
use mathlib.Core.List.{List, [], ◌∷◌}
use borrow.Author.Tests.{leb-true, leb-false, eqb-true}
use lib.Dec.{eqb, leb}
use lib.ListN.{length, length-append}
use Rattle.program.specs.Syntax.{Head, Terms, Conditions, Sentences, empty, sentence, Function, Program}
use Rattle.program.specs.Encode.{sentence_count, own_sentence_count}
use Rattle.told.specs.Kept.{kept_sentences, kept_function, kept_functions, kept_program}
use Rattle.told.specs.History.{is_there, start_of}
use Rattle.told.specs.ToldReport.{fallen_of, fallen_in, fallen_from}

abbrev one : Bool → ℕ
one t = cond t 1 0

one-count : (t : Bool) (h : Head) (p : Terms) (c : Conditions) (r : Terms) (b : Sentences) → sentence_count (cond t (sentence h p c r b) b) ≡ one t + sentence_count b
unfolding sentence_count
one-count true h p c r b = refl
one-count false h p c r b = omega arith

one-length : {A : Type 0} (t : Bool) (x : A) (l : List A) → length (cond t (x ∷ l) l) ≡ one t + length l
one-length true x l = omega arith
one-length false x l = omega arith

one_le : (t : Bool) → one t ≤ 1
one_le true = omega arith
one_le false = omega arith

-- ---- what is kept

kept-sentences : (keep : ℕ → Bool) (b : Sentences) (i : ℕ) → sentence_count (kept_sentences keep i b) ≤ sentence_count b
unfolding kept_sentences sentence_count
kept-sentences keep empty i = omega arith
kept-sentences keep (sentence h p c r b) i = omega (arith, one-count (keep i) h p c r (kept_sentences keep (suc i) b), one_le (keep i), kept-sentences keep b (suc i))

kept-functions : (keep : ℕ → Bool) (fs : List Function) (i : ℕ) → own_sentence_count (kept_functions keep i fs) ≤ own_sentence_count fs
unfolding kept_functions kept_function own_sentence_count
kept-functions keep [] i = omega arith
kept-functions keep (x ∷ fs) i = omega (arith, kept-sentences keep x.sentences i, kept-functions keep fs (i + sentence_count x.sentences))

pub start-count : (w : Program) (fell : ℕ → ℕ) (r : ℕ) → own_sentence_count (start_of w fell r).functions ≤ own_sentence_count w.functions
unfolding start_of kept_program
start-count w fell r = kept-functions (is_there fell r) w.functions 0

-- ---- what falls

module _ (fell : ℕ → ℕ) where
  -- Whether a sentence falls in round r or later.
  abbrev falls : ℕ → ℕ → Bool
  falls r s = leb r (fell s)

  once : (r s : ℕ) → one (eqb (fell s) r) + one (falls (suc r) s) ≤ one (falls r s)
  once r s = by (eqb (fell s) r) (falls (suc r) s) (falls r s) refl refl refl
    where
      by : (t u v : Bool) → eqb (fell s) r ≡ t → falls (suc r) s ≡ u → falls r s ≡ v → one t + one u ≤ one v
      by true true v e f g = absurd (omega (arith, eqb-true (fell s) r e, leb-true (suc r) (fell s) f))
      by true false true e f g = omega arith
      by true false false e f g = absurd (omega (arith, eqb-true (fell s) r e, leb-false r (fell s) g))
      by false true true e f g = omega arith
      by false true false e f g = absurd (omega (arith, leb-true (suc r) (fell s) f, leb-false r (fell s) g))
      by false false v e f g = omega arith

  fallen_of_lem : (r : ℕ) (x : Function) (b : Sentences) (i : ℕ) → length (fallen_of fell r x i b) + sentence_count (kept_sentences (falls (suc r)) i b) ≤ sentence_count (kept_sentences (falls r) i b)
  unfolding fallen_of kept_sentences sentence_count
  fallen_of_lem r x empty i = omega arith
  fallen_of_lem r x (sentence h p c q b) i =
      omega (
        arith,
        one-length (eqb (fell i) r) (record { round = r; function = x; number = i; sentence = record { head = h; pattern = p; conditions = c; result = q } }) (fallen_of fell r x (suc i) b),
        one-count (falls (suc r) i) h p c q (kept_sentences (falls (suc r)) (suc i) b),
        one-count (falls r i) h p c q (kept_sentences (falls r) (suc i) b),
        once r i,
        fallen_of_lem r x b (suc i),
      )

  fallen_in_lem : (r : ℕ) (fs : List Function) (i : ℕ) → length (fallen_in fell r i fs) + own_sentence_count (kept_functions (falls (suc r)) i fs) ≤ own_sentence_count (kept_functions (falls r) i fs)
  unfolding fallen_in kept_functions kept_function own_sentence_count
  fallen_in_lem r [] i = omega arith
  fallen_in_lem r (x ∷ fs) i =
      let j : ℕ = i + sentence_count x.sentences in
      omega (arith, length-append (fallen_of fell r x i x.sentences) (fallen_in fell r j fs), fallen_of_lem r x x.sentences i, fallen_in_lem r fs j)

  fallen_later : (w : Program) (n r : ℕ) → length (fallen_from w fell r n) ≤ own_sentence_count (kept_functions (falls r) 0 w.functions)
  unfolding fallen_from
  fallen_later w zero r = omega arith
  fallen_later w (suc n) r = omega (arith, length-append (fallen_in fell r 0 w.functions) (fallen_from w fell (suc r) n), fallen_in_lem r w.functions 0, fallen_later w n (suc r))

pub fallen_count : (w : Program) (fell : ℕ → ℕ) (r n : ℕ) → length (fallen_from w fell r n) ≤ own_sentence_count w.functions
fallen_count w fell r n = omega (arith, fallen_later fell w n r, kept-functions (λ s. leb r (fell s)) w.functions 0)
