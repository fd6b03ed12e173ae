-- Laws of emission.
use Prim.Native.Nat.{ℕ, suc, ◌+◌, ◌≤◌}
use native.Mathlib.Omega.{arith}
use mathlib.Core.Path.{◌≡◌, refl, sym, ap, subst, ◌∙◌}
use mathlib.Core.List.{List, [], ◌∷◌, ◌++◌}
use lib.ListN.{length, take, drop, set, length-append}
use lib.Seq.{sets, length-sets, sets-eq, set_out}
use Rattle.meaning.specs.Text.{Text}
use Rattle.text.specs.Fill.{filled, Emitted}

filled_sets : (t : Text) (s : List ℕ) (p : ℕ) → filled s p t ≡ sets s p t
unfolding filled
filled_sets [] s p = refl
filled_sets (b ∷ t) s p = filled_sets t (set s p b) (suc p)

pub filled-length : (s : List ℕ) (p : ℕ) (t : Text) → length (filled s p t) ≡ length s
filled-length s p t = ap length (filled_sets t s p) ∙ length-sets s p t

-- The first text and then the second.
pub filled-append : (x y : Text) (s : List ℕ) (p : ℕ) → filled s p (x ++ y) ≡ filled (filled s p x) (p + length x) y
unfolding filled
filled-append [] y s p = ap (λ (q : ℕ). filled s q y) (omega arith)
filled-append (b ∷ x) y s p = filled-append x y (set s p b) (suc p) ∙ ap (λ (q : ℕ). filled (filled (set s p b) (suc p) x) q y) (omega arith)

-- Behind the end nothing is written.
pub filled-out : (t : Text) (s : List ℕ) (p : ℕ) → length s ≤ p → filled s p t ≡ s
unfolding filled
filled-out [] s p h = refl
filled-out (b ∷ t) s p h = ap (λ (l : List ℕ). filled l (suc p) t) (set_out s p b h) ∙ filled-out t s (suc p) (omega arith)

-- Into an empty part nothing is written.
pub filled-empty : (t : Text) (p : ℕ) → filled [] p t ≡ []
unfolding filled
filled-empty [] p = refl
filled-empty (b ∷ t) p = ap (λ (l : List ℕ). filled l (suc p) t) (set_out [] p b (omega arith)) ∙ filled-empty t (suc p)

-- A text that fits stands at its place, and all else is as before.
pub filled-fits : (s : List ℕ) (p : ℕ) (t : Text) → p + length t ≤ length s → filled s p t ≡ take p s ++ t ++ drop (p + length t) s
filled-fits s p t h = filled_sets t s p ∙ sets-eq t s p h

-- From the start on.
pub filled-start : (s : List ℕ) (t : Text) → length t ≤ length s → filled s 0 t ≡ t ++ drop (length t) s
filled-start s t h =
    let e : 0 + length t ≡ length t = omega arith in
    filled-fits s 0 t (omega arith) ∙ ap (λ (n : ℕ). t ++ drop n s) e

-- Emissions in a row.
pub emitted-nothing : (s : List ℕ) (p : ℕ) → Emitted s p [] p s
unfolding filled
emitted-nothing s p = record { after = omega arith; left = refl }

pub emitted-append : {s b d : List ℕ} {p r q : ℕ} (x y : Text) → Emitted s p x r b → Emitted b r y q d → Emitted s p (x ++ y) q d
emitted-append {s} {b} {d} {p} {r} {q} x y e f = record {
  after = omega (arith, length-append x y);
  left = f.left ∙ (rw (e.left, e.after) (sym (filled-append x y s p)));
}

pub emitted-same : {s b : List ℕ} {p r : ℕ} {x y : Text} → x ≡ y → Emitted s p x r b → Emitted s p y r b
emitted-same {s} {b} {p} {r} e h = subst (λ (t : Text). Emitted s p t r b) e h

pub emitted-length : {s b : List ℕ} {p r : ℕ} {x : Text} → Emitted s p x r b → length b ≡ length s
emitted-length {s} {b} {p} {r} {x} e = ap length e.left ∙ filled-length s p x
