-- A call at a place of the body, as a part.
use Prim.Native.Nat.{ℕ, ◌+◌, ◌-◌, ◌%◌, ◌<◌, ◌≤◌}
use native.Mathlib.Omega.{arith}
use mathlib.Core.Path.{◌≡◌, sym, ap, subst, ◌∙◌}
use mathlib.Core.Bool.{Bool}
use mathlib.Core.List.{List}
use mathlib.Core.Option.{some}
use lib.ListN.{length, get_or, get_elem?, take, drop, length-drop}
use Rattle.std.proofs.lemmas.List.{length-take-le, get_or-take, get_or-drop}
use Rattle.program.specs.Syntax.{Name}
use Rattle.told.specs.Numbered.{Held}
use Rattle.index.specs.Tables.{SitesAt}
use Rattle.program.specs.Encode.{put_terms}
use Rattle.program.specs.Limits.{Mode}
use Rattle.image.specs.Parts.{Passes, TermsAt}
use Rattle.symbols.proofs.Parts.{part_rest}
use Rattle.rows.proofs.Readings.{part}
use Rattle.restrictions.specs.Entries.{CallAt}
use Rattle.restrictions.proofs.Calls.{call-room}
use Rattle.index.specs.Linking.{SomeSites}
use Rattle.index.proofs.Entries.{element_of}

module _ (b : List ℕ) (p : ℕ) (x : CallAt (drop p b)) where
  pub call-within : p < length b
  call-within = omega (arith, call-room x, length-drop p b)

  abbrev pub call_part : CallAt (part b p)
  call_part = record { span = x.span; callee = x.callee; argument = x.argument; rest = x.rest; is = part_rest b p ∙ x.is; valid = x.valid }

  abbrev pub argument_part : (a : ℕ) → Passes (part b p) a (put_terms x.argument x.rest) → TermsAt Mode.result (part (part b p) a)
  argument_part a h = record { terms = x.argument; rest = x.rest; is = part_rest (part b p) a ∙ h.left; valid = x.valid }

-- The call that a site's entry names.
pub call-there : {b m : List ℕ} {calls sites : ℕ} → SomeSites b m calls sites → (i : ℕ) → i < sites → CallAt (drop (get_or m (calls + i) 0 % 32768) b)
call-there s i l = let z = element_of s.held i (omega (arith, l, s.count)) in (s.entries.entry i z.element z.is).call

-- The same at the place that was read from the entry.
pub call-at : {b m : List ℕ} {calls sites : ℕ} → SomeSites b m calls sites → (i : ℕ) → i < sites → (p : ℕ) → p ≡ get_or m (calls + i) 0 % 32768 → CallAt (drop p b)
call-at {b} s i l p e = subst (λ (n : ℕ). CallAt (drop n b)) (sym e) (call-there s i l)

-- What a test of the callee says, by every reading of the call at that place.
pub callee-told : {b m : List ℕ} {held : List Held} {calls : ℕ} → SitesAt b held m calls → (i p : ℕ) → p ≡ get_or m (calls + i) 0 % 32768 → (x : Held) → get_elem? held i ≡ some x → (test : Name → Bool) (r : Bool) → ((y : CallAt (drop p b)) → r ≡ test y.callee) → r ≡ test x.site.callee
callee-told {b} s i p e x q test r h = let z = s.entry i x q in subst (λ (n : ℕ). (y : CallAt (drop n b)) → r ≡ test y.callee) e h z.call ∙ ap test z.callee

-- The sites' entries as a part of work.
pub part-count : (m : List ℕ) (calls n : ℕ) → calls + n ≤ length m → length (take (calls + n - calls) (drop calls m)) ≡ n
part-count m calls n l = length-take-le (calls + n - calls) (drop calls m) (omega (arith, length-drop calls m, l)) ∙ omega arith

pub part-entry : (m : List ℕ) (calls n i : ℕ) → i < n → get_or (take (calls + n - calls) (drop calls m)) i 0 ≡ get_or m (calls + i) 0
part-entry m calls n i l = get_or-take (calls + n - calls) (drop calls m) i 0 (omega (arith, l)) ∙ get_or-drop calls m i 0
