-- A site's argument by its entry.
use Prim.Native.Nat.{ℕ, ◌+◌, ◌<◌, ◌≤◌}
use native.Mathlib.Omega.{arith}
use mathlib.Core.Path.{◌≡◌, sym, ap, ◌∙◌}
use mathlib.Core.List.{List}
use lib.ListN.{length, drop, length-drop}
use lib.Seq.{drop-drop}
use Rattle.image.specs.Parts.{Passes}
use Rattle.symbols.proofs.Parts.{part_rest}
use Rattle.rows.proofs.Readings.{part, part_length}
use Rattle.restrictions.specs.Entries.{CallAt}
use Rattle.restrictions.proofs.Calls.{call-room}

module _ (b : List ℕ) (p : ℕ) where
  pub call-within : CallAt (drop p b) → p < length b
  call-within x = omega (arith, call-room x, length-drop p b)

  -- The same call, in the part that begins with it.
  abbrev pub part_call : CallAt (drop p b) → CallAt (part b p)
  part_call x = record { span = x.span; callee = x.callee; argument = x.argument; rest = x.rest; is = part_rest b p ∙ x.is; valid = x.valid }

  pub argument-within : (r : ℕ) (s : List ℕ) → CallAt (drop p b) → Passes (part b p) r s → p + r ≤ length b
  argument-within r s x h = omega (arith, h.fits, part_length b p, call-within x)

  pub argument-left : (r : ℕ) (s : List ℕ) → Passes (part b p) r s → drop (p + r) b ≡ s
  argument-left r s h = sym (drop-drop r p b) ∙ ap (drop r) (sym (part_rest b p)) ∙ h.left
