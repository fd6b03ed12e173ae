-- The first Entry function, one function after another.
use Prim.Native.Nat.{ℕ, zero, suc, ◌+◌, ◌<◌, ◌≤◌}
use native.Mathlib.Omega.{arith}
use mathlib.Core.Path.{◌≡◌, refl, sym, ap, ◌∙◌}
use mathlib.Core.List.{List, [], ◌∷◌, map}
use mathlib.Core.Option
use mathlib.Core.Option.{Option, none, some}
use lib.ListN.{length, get_or, get_elem?, drop, length-drop}
use lib.Seq.{get_or-drop}
use Rattle.program.specs.Syntax.{Visibility, local, entry, Function}
use Rattle.program.specs.Bytes.{put32, put_span, put_name}
use Rattle.program.specs.Encode.{visibility_byte, put_function}
use Rattle.image.specs.Parts.{FunctionAt}
use Rattle.index.proofs.Entries.{below_or_here, same_element}
use Rattle.meaning.specs.Root.{entry_place}

pub entry_byte : (v : Visibility) → visibility_byte v ≡ 1 → v ≡ entry
unfolding visibility_byte
entry_byte local e = absurd (omega (arith, e))
entry_byte entry e = refl

pub local_byte : (v : Visibility) → (visibility_byte v ≡ 1 → ⊥) → v ≡ local
unfolding visibility_byte
local_byte local n = refl
local_byte entry n = absurd (n refl)

-- The functions before f are local.
abbrev pub LocalTo : List Function → ℕ → Type 0
LocalTo fs f = (j : ℕ) (x : Function) → get_elem? fs j ≡ some x → j < f → x.visibility ≡ local

pub local-next : (fs : List Function) (f : ℕ) (x : Function) → get_elem? fs f ≡ some x → x.visibility ≡ local → LocalTo fs f → LocalTo fs (f + 1)
local-next fs f x q e h j y p l = below_or_here (λ (i : ℕ). y.visibility ≡ local) j f (h j y p) (λ z. ap (λ (v : Function). v.visibility) (same_element p (ap (λ (i : ℕ). get_elem? fs i) z ∙ q)) ∙ e) l

entry_cons : (v : Visibility) (l : List Visibility) → v ≡ entry → entry_place (v ∷ l) ≡ some zero
unfolding entry_place
entry_cons local l e = let z : ◌≡◌ {A = ℕ} 0 1 = cc in absurd (omega arith)
entry_cons entry l e = refl

local_cons : (v : Visibility) (l : List Visibility) → v ≡ local → entry_place (v ∷ l) ≡ Option.map suc (entry_place l)
unfolding entry_place
local_cons local l e = refl
local_cons entry l e = let z : ◌≡◌ {A = ℕ} 0 1 = cc in absurd (omega arith)

entry_found : (fs : List Function) (f : ℕ) (x : Function) → get_elem? fs f ≡ some x → x.visibility ≡ entry → LocalTo fs f → entry_place (map (λ f. f.visibility) fs) ≡ some f
entry_found [] f x q e h = let z : ◌≡◌ {A = ℕ} 0 1 = cc in absurd (omega arith)
entry_found (y ∷ fs) zero x q e h = entry_cons y.visibility (map (λ f. f.visibility) fs) (let z : y ≡ x = cc in ap (λ (v : Function). v.visibility) z ∙ e)
entry_found (y ∷ fs) (suc f) x q e h =
    local_cons y.visibility (map (λ f. f.visibility) fs) (h zero y refl (omega arith))
    ∙ ap (Option.map suc) (entry_found fs f x q e (λ j z p l. h (suc j) z p (omega (arith, l))))

entry-none : (fs : List Function) (f : ℕ) → length fs ≤ f → LocalTo fs f → entry_place (map (λ f. f.visibility) fs) ≡ none
unfolding entry_place
entry-none [] f l h = refl
entry-none (y ∷ fs) f l h =
    local_cons y.visibility (map (λ f. f.visibility) fs) (h zero y refl (omega (arith, l)))
    ∙ ap (Option.map suc) (entry-none fs (length fs) (omega arith) (λ j z p u. h (suc j) z p (omega (arith, l, u))))

module _ (fs : List Function) (f : ℕ) (h : LocalTo fs f) where
  pub root-found : (x : Function) → get_elem? fs f ≡ some x → x.visibility ≡ entry → Option.get_or (entry_place (map (λ f. f.visibility) fs)) zero ≡ f
  root-found x q e = ap (λ (o : Option ℕ). Option.get_or o zero) (entry_found fs f x q e h)

  pub root_none : length fs ≤ f → Option.get_or (entry_place (map (λ f. f.visibility) fs)) zero ≡ 0
  root_none l = ap (λ (o : Option ℕ). Option.get_or o zero) (entry-none fs f l h)

-- The byte at its place.
module _ (b : List ℕ) (p : ℕ) (x : FunctionAt (drop p b)) where
  pub visibility-room : p + 9 < length b
  unfolding put_function put_span put32 put_name
  visibility-room = omega (arith, ap length x.is, length-drop p b)

  pub visibility-is : get_or b (p + 9) 0 ≡ visibility_byte x.function.visibility
  unfolding put_function put_span put32
  visibility-is = sym (get_or-drop p b 9 0) ∙ ap (λ (l : List ℕ). get_or l 9 0) x.is
