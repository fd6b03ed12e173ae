-- Texts in a row through the writing end.
use Prim.Native.Nat.{ℕ, ◌+◌}
use native.Mathlib.Omega.{arith}
use native.Mathlib.Nat.{add-zero}
use mathlib.Core.Path.{◌≡◌, sym, ap, ap₂, ◌∙◌}
use mathlib.Core.List.{List, [], ◌++◌}
use lib.ListN.{length, length-append}
use denote.Ref.{at_last}
use Rattle.meaning.specs.Text.{Text}
use Rattle.text.specs.Fill.{filled, Emitted}
use Rattle.text.specs.Written.{written}
use Rattle.text.specs.declared.writer.Writer.{Writer}
use Rattle.text.proofs.Fill.{filled-append}

-- Its lent bytes and its number.
abbrev to : Writer → List ℕ → ℕ → Writer
to w s n = record { text = at_last w.text s; filled = n }

pub written-is : (w : Writer) (t : Text) (s : List ℕ) (n : ℕ) → s ≡ filled w.text.now w.filled t → n ≡ w.filled + length t → to w s n ≡ written w t
written-is w t s n e f = ap₂ (to w) e f

pub written-nothing : (w : Writer) → w ≡ written w []
unfolding filled
written-nothing w = ap (to w w.text.now) (sym (add-zero w.filled))

pub written-append : (w : Writer) (x y : Text) → written (written w x) y ≡ written w (x ++ y)
written-append w x y = ap₂ (to w) (sym (filled-append x y w.text.now w.filled)) (omega (arith, length-append x y))

-- The first text and then the second.
pub both : (w : Writer) (x y : Text) {v u : Writer} → v ≡ written w x → u ≡ written v y → u ≡ written w (x ++ y)
both w x y e f = f ∙ (ap (λ (z : Writer). written z y) e ∙ written-append w x y)

pub same : (w : Writer) {x y : Text} {v : Writer} → x ≡ y → v ≡ written w x → v ≡ written w y
same w e f = f ∙ ap (written w) e

-- What is filled then.
abbrev pub count : Writer → ℕ
count w = w.filled

-- The lent bytes end as the writing end leaves them, which holds the same reference.
pub lent : (w : Writer) (t : Text) {v : Writer} {s : List ℕ} → v ≡ written w t → (w.text.ghost_name ≡ v.text.ghost_name → s ≡ v.text.now) → Emitted w.text.now w.filled t v.filled s
lent w t e f = record { after = ap count e; left = f (sym (ap (λ (z : Writer). z.text.ghost_name) e)) ∙ ap (λ (z : Writer). z.text.now) e }
