-- Which of a function's two lists a site is in.
use mathlib.Core.Path.{◌≡◌, refl, sym, ap, ap₂, ◌∙◌}
use mathlib.Core.Bool.{Bool, true, false, ◌&&◌, not, true≢false, and-false, and-eq-true_iff}
use Rattle.program.specs.Syntax.{Name, Function}
use Rattle.patterns.specs.Names.{same_name}
use Rattle.patterns.proofs.Names.{same_name_sym, same_name-right}
use Rattle.told.specs.Numbered.{Held}
use Rattle.index.specs.Bucket.{is_named}
use Rattle.told.specs.Calls.{is_call_of, is_plain, is_listed}

module _ (f : Name) (y : Held) where
  pub no_call : (kind : Bool) → is_call_of f y ≡ false → is_listed kind f y ≡ false
  unfolding is_listed
  no_call true e = ap (λ (t : Bool). t && is_plain y) e
  no_call false e = ap (λ (t : Bool). t && not (is_plain y)) e

  pub its_kind : (kind : Bool) → kind ≡ is_plain y → is_call_of f y ≡ true → is_listed kind f y ≡ true
  unfolding is_listed
  its_kind true k e = ap₂ ◌&&◌ e (sym k)
  its_kind false k e = ap₂ ◌&&◌ e (ap not (sym k))

  pub other-kind : (kind : Bool) → kind ≡ is_plain y → is_listed (not kind) f y ≡ false
  unfolding is_listed
  other-kind true k = ap (λ (t : Bool). is_call_of f y && not t) (sym k) ∙ and-false (is_call_of f y)
  other-kind false k = ap (λ (t : Bool). is_call_of f y && t) (sym k) ∙ and-false (is_call_of f y)

  pub listed-call : (kind : Bool) → is_listed kind f y ≡ true → is_call_of f y ≡ true
  unfolding is_listed
  listed-call true e = ((and-eq-true_iff (is_call_of f y) (is_plain y)).0 e).0
  listed-call false e = ((and-eq-true_iff (is_call_of f y) (not (is_plain y))).0 e).0

  pub listed-kind : (kind : Bool) → is_listed kind f y ≡ true → kind ≡ is_plain y
  unfolding is_listed
  listed-kind true e = sym ((and-eq-true_iff (is_call_of f y) (is_plain y)).0 e).1
  listed-kind false e = go (is_plain y) ((and-eq-true_iff (is_call_of f y) (not (is_plain y))).0 e).1
    where
      go : (t : Bool) → not t ≡ true → false ≡ t
      go true q = absurd (true≢false (sym q))
      go false q = refl

-- Functions of one name have the same lists.
pub same_lists : (f g : Name) (kind : Bool) → same_name f g ≡ true → (y : Held) → is_listed kind f y ≡ is_listed kind g y
unfolding is_listed is_call_of
same_lists f g true e y = ap (λ (t : Bool). t && is_plain y) (same_name-right f g y.site.callee e)
same_lists f g false e y = ap (λ (t : Bool). t && not (is_plain y)) (same_name-right f g y.site.callee e)

-- The callee's name, seen from the function and from the call.
pub call-named : (x : Function) (y : Held) → is_call_of x.name y ≡ is_named y.site.callee x
unfolding is_call_of is_named
call-named x y = same_name_sym y.site.callee x.name

pub named-name : (f : Name) (x : Function) → is_named f x ≡ true → same_name f x.name ≡ true
unfolding is_named
named-name f x e = same_name_sym f x.name ∙ e

pub same-named : (f g : Name) → same_name f g ≡ true → (x : Function) → is_named f x ≡ is_named g x
unfolding is_named
same-named f g e x = same_name-right f g x.name e
