-- The terms of a pattern written free, one after another: what is left is written as the whole.
use Prim.Native.Nat.{ℕ, ◌+◌, ◌<◌, ◌≤◌}
use native.Mathlib.Omega.{arith}
use mathlib.Core.Path.{◌≡◌, refl, sym, ap, ◌∙◌}
use mathlib.Core.List.{List, [], ◌++◌, append_assoc, append-nil}
use lib.ListN.{length, get_or, length-append}
use Rattle.program.specs.Encode.{put_terms}
use Rattle.program.specs.Limits.{Mode}
use Rattle.image.specs.Parts.{Passes, TermsAt, tail}
use Rattle.rows.proofs.Readings.{part, first-at, next-at, next_fits, is-empty, mark_in}
use Rattle.text.specs.Fill.{limit}
use Rattle.text.specs.Written.{written}
use Rattle.text.specs.declared.writer.Writer.{Writer}
use Rattle.text.proofs.Written.{written-nothing, both, same, count}
use Rattle.expression.specs.Free.{free_bytes, first_bytes}
use Rattle.expression.proofs.Meeting.{free_bytes_lem, free-nothing}

-- The terms before place i of s have been written.
pub record Freeing {s : List ℕ} (first : Writer) (t : TermsAt Mode.pattern s) (i : ℕ) (now : Writer) : Type 0 where
  pub there : TermsAt Mode.pattern (part s i)
  pub text : List ℕ
  pub wrote : now ≡ written first text
  pub is : free_bytes t.terms ≡ text ++ free_bytes there.terms

pub freeing_first : {s : List ℕ} (first : Writer) (t : TermsAt Mode.pattern s) → Freeing first t 0 first
freeing_first first t = record { there = first-at t; text = []; wrote = written-nothing first; is = refl }

-- Some text, and then the rest of the whole.
pub rest_of : {whole rest : List ℕ} (text next more : List ℕ) → whole ≡ text ++ rest → rest ≡ next ++ more → whole ≡ (text ++ next) ++ more
rest_of text next more e f = e ∙ ap (λ (l : List ℕ). text ++ l) f ∙ sym (append_assoc text next more)

-- What is left fits, since the whole does, and so does what comes first of it.
pub rest-fits : (first : Writer) {now : Writer} {whole : List ℕ} (text rest : List ℕ) → now ≡ written first text → whole ≡ text ++ rest → first.filled + length whole ≤ limit → now.filled + length rest ≤ limit
rest-fits first text rest e w h = omega (arith, ap count e, ap length w, length-append text rest, h)

pub front_fits : {whole : List ℕ} (n : ℕ) (front more : List ℕ) → whole ≡ front ++ more → n + length whole ≤ limit → n + length front ≤ limit
front_fits n front more w h = omega (arith, ap length w, length-append front more, h)

-- The whole is written where nothing is left.
pub whole-written : (first : Writer) {now : Writer} {whole rest : List ℕ} (text : List ℕ) → now ≡ written first text → whole ≡ text ++ rest → rest ≡ [] → now ≡ written first whole
whole-written first text e w n = same first (sym (w ∙ ap (λ (l : List ℕ). text ++ l) n ∙ append-nil text)) e

module _ {s : List ℕ} {first now : Writer} {t : TermsAt Mode.pattern s} {i : ℕ} (w : Freeing first t i now) where
  pub freeing_last : get_or s i 0 ≡ 15 → now ≡ written first (free_bytes t.terms)
  freeing_last m = whole-written first w.text w.wrote w.is (free-nothing w.there.terms (is-empty w.there (mark_in s i ∙ m)))

  pub freeing_more : (get_or s i 0 ≡ 15 → ⊥) → get_or (part s i) 0 0 ≡ 15 → ⊥
  freeing_more m e = m (sym (mark_in s i) ∙ e)

  pub freeing_past : (get_or s i 0 ≡ 15 → ⊥) → i ≤ length s → (n : ℕ) → Passes (part s i) n (put_terms (tail w.there.terms) w.there.rest) → (i + n ≤ length s) × (0 < n)
  freeing_past m l n p = let f = next_fits s i w.there (freeing_more m) l n p in (f.0, f.1)

  pub freeing_short : first.filled + length (free_bytes t.terms) ≤ limit → now.filled + length (first_bytes w.there.terms) ≤ limit
  freeing_short h = front_fits now.filled (first_bytes w.there.terms) (free_bytes (tail w.there.terms)) (free_bytes_lem w.there.terms) (rest-fits first w.text (free_bytes w.there.terms) w.wrote w.is h)

  pub freeing_next : (n : ℕ) (after : Writer) → Passes (part s i) n (put_terms (tail w.there.terms) w.there.rest) → after ≡ written now (first_bytes w.there.terms) → Freeing first t (i + n) after
  freeing_next n after p e = record {
    there = next-at s i w.there n p;
    text = w.text ++ first_bytes w.there.terms;
    wrote = both first w.text (first_bytes w.there.terms) w.wrote e;
    is = rest_of w.text (first_bytes w.there.terms) (free_bytes (tail w.there.terms)) w.is (free_bytes_lem w.there.terms);
  }
