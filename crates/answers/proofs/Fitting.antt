-- Why the fields of an answer fit: an image has at most 32,768 bytes, and no place is behind its end.
use Prim.Native.Nat.{ℕ, ◌/◌, ◌%◌, ◌≤◌, ◌<◌}
use native.Mathlib.Omega.{arith}
use mathlib.Core.Path.{◌≡◌, refl, subst}
use mathlib.Core.Bool.{Bool, true, false}
use mathlib.Core.List.{List}
use mathlib.Core.Option.{Option, none, some}
use lib.Dec.{leb}
use lib.ListN.{length, take, get_elem?}
use borrow.Author.Tests.{leb-true}
use Rattle.program.specs.Syntax.{Program}
use Rattle.program.specs.Limits.{pick}
use Rattle.program.specs.Automaton.{Stack, Read, run}
use Rattle.program.specs.Decode.{Answer, body_length, sized, pointed, agrees, settled, decode_sized, decode}
use Rattle.program.specs.Sentences.{Sentence, own_sentences}
use Rattle.program.proofs.Listed.{refusals_listed}
use Rattle.patterns.specs.declared.Verdict.{Verdict}
use Rattle.patterns.specs.declared.Verdict.TheVariants.{Disjoint, Overlap, Unknown}
use Rattle.patterns.proofs.Fuel.{spent_and_left}
use Rattle.answers.specs.Answers.{OverlapAnswer}
use Rattle.answers.specs.Answers.{compare_patterns, compare_found, compare_sentences, overlap_of, overlap_answer, verdict_number}
use Rattle.answers.specs.Packed.{Fields, packed, overlap_fields, pack_fields, Fit}

-- The fields are found again in the number.
pub record Unpacks (n : ℕ) (f : Fields) : Type 0 where
  pub number_is : n % 256 ≡ f.number
  pub middle-is : (n / 256) % 65536 ≡ f.middle
  pub rest-is : n / 16777216 ≡ f.rest

abbrev pub OverlapFits : OverlapAnswer → Type 0
OverlapFits r = Fit (overlap_fields r)

-- ---- fields that fit are found again

pub unpacks : (f : Fields) → Fit f → Unpacks (pack_fields f) f
unfolding packed
unpacks f h = record {
  number_is = omega (arith, h.number_fits);
  middle-is = omega (arith, h.number_fits, h.middle-fits);
  rest-is = omega (arith, h.number_fits, h.middle-fits);
}

-- ---- what decoding answers is small

abbrev pub Small : List ℕ → Answer → Type 0
Small s (Answer.refused n p) = (n < 256) × (p ≤ 32768)
Small s (Answer.accepted w) = length s ≤ 32768

small-pick : (s : List ℕ) (t : Bool) (a b : Answer) → (t ≡ true → Small s a) → Small s b → Small s (pick t a b)
small-pick s true a b h k = h refl
small-pick s false a b h k = k

both : (t u : Bool) → pick t u false ≡ true → u ≡ true
both true u e = e
both false u e = absurd (let y : ◌≡◌ {A = ℕ} 0 1 = cc in omega arith)

sized_most : (s : List ℕ) → sized s ≡ true → length s ≤ 32768
unfolding sized
sized_most s e = leb-true (length s) 32768 (both (leb 12 (length s)) (leb (length s) 32768) e)

settled-small : (s : List ℕ) → length s ≤ 32768 → (r : Read Program) → run Stack.body 0 (take (body_length s) s) ≡ r → Small s (settled s r)
unfolding settled
settled-small s h (Read.refused n l) e = let k = refusals_listed (take (body_length s) s) Stack.body n l e in (omega (arith, k.1), omega (arith, h))
settled-small s h (Read.value w) e = small-pick s (agrees s w) (Answer.accepted w) (Answer.refused 11 0) (λ z. h) (omega arith, omega arith)

pub decode-small : (s : List ℕ) → Small s (decode s)
unfolding decode decode_sized
decode-small s =
    small-pick s (sized s) _ _
    (λ e. small-pick s (pointed s) _ _ (λ z. settled-small s (sized_most s e) _ refl) (omega arith, omega arith))
    (omega arith, omega arith)

pub refused-small : (s : List ℕ) (n p : ℕ) → decode s ≡ Answer.refused n p → (n < 256) × (p ≤ 32768)
refused-small s n p e = subst (Small s) e (decode-small s)

pub accepted-small : (s : List ℕ) (w : Program) → decode s ≡ Answer.accepted w → length s ≤ 32768
accepted-small s w e = subst (Small s) e (decode-small s)

-- ---- Overlap

verdict-small : (v : Verdict) → verdict_number v < 65536
unfolding verdict_number
verdict-small Disjoint = omega arith
verdict-small Overlap = omega arith
verdict-small Unknown = omega arith

found-fits : (x y : Option Sentence) → OverlapFits (compare_found x y)
unfolding compare_found compare_patterns overlap_fields
found-fits none y = record { number_fits = omega arith; middle-fits = omega arith; rest-fits = omega arith }
found-fits (some x) none = record { number_fits = omega arith; middle-fits = omega arith; rest-fits = omega arith }
found-fits (some x) (some y) = record { number_fits = omega arith; middle-fits = verdict-small _; rest-fits = omega (arith, spent_and_left x.pattern y.pattern) }

answer-fits : (s : List ℕ) (a : Answer) (first second : ℕ) → Small s a → OverlapFits (overlap_of a first second)
unfolding overlap_of compare_sentences overlap_fields
answer-fits s (Answer.refused n p) i j h = record { number_fits = h.0; middle-fits = omega arith; rest-fits = omega (arith, h.1) }
answer-fits s (Answer.accepted w) i j h = found-fits (get_elem? (own_sentences w.functions) i) (get_elem? (own_sentences w.functions) j)

pub overlap_fits : (image : List ℕ) (first second : ℕ) → OverlapFits (overlap_answer image first second)
unfolding overlap_answer
overlap_fits image first second = answer-fits image (decode image) first second (decode-small image)
