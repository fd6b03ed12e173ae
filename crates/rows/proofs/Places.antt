-- Terms at places of a body, by their first mark.
use Prim.Native.Nat.{ℕ, ◌+◌, ◌≤◌}
use native.Mathlib.Omega.{arith}
use mathlib.Core.Path.{◌≡◌, refl, sym, ap, ◌∙◌, subst}
use mathlib.Core.List.{List, [], ◌∷◌}
use lib.ListN.{drop, get_or}
use Rattle.program.specs.Syntax.{Terms}
use Rattle.program.specs.Encode.{put_terms}
use Rattle.program.specs.Limits.{Mode, ValidTerms}
use Rattle.program.specs.Automaton.{Stack, Read, made, at_end, follow, turn, run}
use Rattle.program.proofs.Complete.{run-terms}
use Rattle.image.specs.Parts.{Passes, TermsAt, tail}
use Rattle.image.proofs.Readings.{as_result}
use Rattle.patterns.specs.Search.{One, View, view}
use Rattle.rows.specs.Rows.{first_read, terms_of, read_at, PatternFrom, Kept}
use Rattle.rows.proofs.Readings.{part, at_part, mark_in, is-empty, is_not_empty, is-absorbing, one-head, after_term}

run-any : (k : List ℕ) → run Stack.any 0 k ≡ Read.value k
unfolding run at_end follow turn
run-any [] = refl
run-any (b ∷ k) = refl

terms_of_lem : {s : List ℕ} (t : TermsAt Mode.pattern s) → terms_of s ≡ t.terms
unfolding terms_of made
terms_of_lem {s} t =
    ap (λ (l : List ℕ). first_read (run (Stack.terms Mode.result 0 Stack.any) 0 l)) t.is
    ∙ ap first_read ((run-terms t.terms Mode.result 0 Stack.any t.rest (as_result t.terms Mode.pattern 0 t.valid)).is ∙ ap (made (λ v. (t.terms, v))) (run-any t.rest))

module _ {b : List ℕ} {p : ℕ} (s : PatternFrom b p) where
  abbrev t : TermsAt Mode.pattern (drop p b)
  t = s.pattern

  pub read_is : read_at b p ≡ t.terms
  read_is = terms_of_lem t

  -- The pattern, with its terms as they are read.
  abbrev pub reading : TermsAt Mode.pattern (drop p b)
  reading = record {
    terms = read_at b p;
    rest = t.rest;
    is = t.is ∙ ap (λ (x : Terms). put_terms x t.rest) (sym read_is);
    valid = subst (λ (x : Terms). ValidTerms x Mode.pattern 0) (sym read_is) t.valid;
  }

  abbrev pub reading_part : TermsAt Mode.pattern (part b p)
  reading_part = at_part b p reading

  pub place-empty : get_or b p 0 ≡ 15 → view (read_at b p) ≡ View.nothing
  place-empty m = is-empty reading_part (mark_in b p ∙ m)

  pub place-some : (get_or b p 0 ≡ 15 → ⊥) → view (read_at b p) ≡ View.nothing → ⊥
  place-some m = is_not_empty reading_part (λ e. m (sym (mark_in b p) ∙ e))

  pub place-absorbing : get_or b p 0 ≡ 6 → view (read_at b p) ≡ View.absorbing (tail (read_at b p))
  place-absorbing m = is-absorbing reading_part (mark_in b p ∙ m)

  pub place-one : (get_or b p 0 ≡ 15 → ⊥) → (get_or b p 0 ≡ 6 → ⊥) → (x : One) × (view (read_at b p) ≡ View.one x (tail (read_at b p)))
  place-one m n = one-head reading_part (λ e. m (sym (mark_in b p) ∙ e)) (λ e. n (sym (mark_in b p) ∙ e))

  -- Past the first term, which n bytes hold.
  module _ (n : ℕ) (h : Passes (part b p) n (put_terms (tail (read_at b p)) t.rest)) where
    pub place-next : PatternFrom b (p + n)
    place-next = record { pattern = after_term b p n reading h }

    pub next-is : read_at b (p + n) ≡ tail (read_at b p)
    next-is = terms_of_lem (after_term b p n reading h)

-- ---- entries

pub kept_same : (base : ℕ) (m : List ℕ) → Kept base m m
kept_same base m = record { length = refl; below = λ k l. refl }

pub kept_then : {base : ℕ} {a b c : List ℕ} → Kept base a b → Kept base b c → Kept base a c
kept_then h k = record { length = k.length ∙ h.length; below = λ i l. k.below i l ∙ h.below i l }

pub kept_less : {base less : ℕ} {a b : List ℕ} → less ≤ base → Kept base a b → Kept less a b
kept_less l h = record { length = h.length; below = λ i k. h.below i (omega (arith, k, l)) }
