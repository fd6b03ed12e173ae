-- Heads for one function after another, each from the first of its name.
use Prim.Native.Nat.{ℕ, ◌+◌, ◌<◌, ◌≤◌}
use native.Mathlib.Omega.{arith}
use mathlib.Core.Path.{◌≡◌, refl, sym, ap, subst, ◌∙◌}
use mathlib.Core.Bool.{Bool, true, false}
use mathlib.Core.List.{List}
use mathlib.Core.Option.{some}
use Rattle.std.specs.Prelude.{Option, None, Some, IsSome}
use lib.Dec.{eqb}
use lib.ListN.{length, get_or, get_elem?, set}
use lib.Seq.{get_or-set_same, get_or-set_other}
use borrow.Author.Tests.{eqb-true, eqb-false}
use Rattle.program.specs.Syntax.{Function}
use Rattle.patterns.specs.Names.{same_name}
use Rattle.patterns.proofs.Names.{same_name_refl, same_name_sym}
use Rattle.told.specs.Numbered.{Held}
use Rattle.index.specs.First.{First, FirstFrom}
use Rattle.index.specs.Bucket.{is_named}
use Rattle.told.specs.Calls.{is_listed}
use Rattle.index.specs.Links.{list_head, FirstsHeaded, Headed}
use Rattle.index.proofs.Entries.{below_or_here, element_below, element_of, same_element}
use Rattle.index.proofs.Firsts.{first_agree, first-before}
use Rattle.index.proofs.Buckets.{named-is}
use Rattle.index.proofs.Calls.{same_lists, named-name, same-named}

pub record Sharing (fs : List Function) (held : List Held) (m : List ℕ) (at f : ℕ) : Type 0 where
  pub firsts : FirstsHeaded fs held m at 0
  pub done : (kind : Bool) (j : ℕ) (x : Function) → get_elem? fs j ≡ some x → j < f → First (is_listed kind x.name) 0 held (list_head kind (get_or m (at + j) 0))

pub sharing_first : {fs : List Function} {held : List Held} {m : List ℕ} {at : ℕ} → FirstsHeaded fs held m at 0 → Sharing fs held m at 0
sharing_first h = record { firsts = h; done = λ kind j x q l. absurd (omega (arith, l)) }

pub sharing_end : {fs : List Function} {held : List Held} {m : List ℕ} {at f : ℕ} → Sharing fs held m at f → length fs ≤ f → Headed fs held m at
sharing_end {fs} s l = record { head = λ kind f x q. s.done kind f x q (omega (arith, l, element_below fs f q)) }

-- The first of a function's name stands no later.
pub own_first : (fs : List Function) (f g : ℕ) (x : Function) → get_elem? fs f ≡ some x → First (is_named x.name) 0 fs g → g ≤ f
own_first fs f g x q c = first-before fs c f x q (named-is x.name x ∙ same_name_refl x.name) (omega arith)

-- A function's name is found.
pub own-found : (fs : List Function) (f : ℕ) (x : Function) → get_elem? fs f ≡ some x → (o : Option ℕ) → FirstFrom (is_named x.name) 0 fs o → IsSome o
own-found fs f x q None c =
    let t : is_named x.name x ≡ true = named-is x.name x ∙ same_name_refl x.name in
    let u : is_named x.name x ≡ false = c.none f x (omega arith) (element_below fs f q) q in
    let z : ◌≡◌ {A = ℕ} 0 1 = cc in absurd (omega arith)
own-found fs f x q (Some g) c = refl

module _ {fs : List Function} {held : List Held} {m : List ℕ} {at f : ℕ} (s : Sharing fs held m at f) (x : Function) (q : get_elem? fs f ≡ some x) (g : ℕ) (c : First (is_named x.name) 0 fs g) (fits : at + f < length m) where
  abbrev z : Function
  z = (element_of fs g (omega (arith, own_first fs f g x q c, element_below fs f q))).element

  there : get_elem? fs g ≡ some z
  there = (element_of fs g (omega (arith, own_first fs f g x q c, element_below fs f q))).is

  same-name : same_name x.name z.name ≡ true
  same-name = named-name x.name z (c.found z there)

  its : (kind : Bool) → First (is_listed kind x.name) 0 held (list_head kind (get_or m (at + g) 0))
  its kind =
      first_agree (is_listed kind z.name) (is_listed kind x.name) (same_lists z.name x.name kind (same_name_sym z.name x.name ∙ same-name))
      (s.firsts.head kind g z there (first_agree (is_named x.name) (is_named z.name) (same-named x.name z.name same-name) c))

  abbrev new : List ℕ
  new = set m (at + f) (get_or m (at + g) 0)

  here : (kind : Bool) → First (is_listed kind x.name) 0 held (list_head kind (get_or new (at + f) 0))
  here kind = subst (First (is_listed kind x.name) 0 held) (sym (ap (list_head kind) (get_or-set_same m (at + f) (get_or m (at + g) 0) 0 fits))) (its kind)

  -- The same of f under another index and name for it.
  here_as : (kind : Bool) (j : ℕ) (y : Function) → get_elem? fs j ≡ some y → j ≡ f → First (is_listed kind y.name) 0 held (list_head kind (get_or new (at + j) 0))
  here_as kind j y p e =
      let w : x ≡ y = same_element (ap (λ (n : ℕ). get_elem? fs n) e ∙ q) p in
      subst (λ (n : ℕ). First (is_listed kind y.name) 0 held (list_head kind (get_or new (at + n) 0))) (sym e)
      (subst (λ (v : Function). First (is_listed kind v.name) 0 held (list_head kind (get_or new (at + f) 0))) w (here kind))

  apart : (kind : Bool) (j : ℕ) → (j ≡ f → ⊥) → list_head kind (get_or new (at + j) 0) ≡ list_head kind (get_or m (at + j) 0)
  apart kind j n = ap (list_head kind) (get_or-set_other m (at + f) (at + j) (get_or m (at + g) 0) 0 (λ e. n (omega (arith, e))))

  next-firsts : FirstsHeaded fs held new at 0
  next-firsts = record { head = λ kind j y p e. go kind j y p e (eqb j f) refl }
    where
      go : (kind : Bool) (j : ℕ) (y : Function) → get_elem? fs j ≡ some y → First (is_named y.name) 0 fs j → (b : Bool) → eqb j f ≡ b → First (is_listed kind y.name) 0 held (list_head kind (get_or new (at + j) 0))
      go kind j y p e true b = here_as kind j y p (eqb-true j f b)
      go kind j y p e false b = subst (First (is_listed kind y.name) 0 held) (sym (apart kind j (eqb-false j f b))) (s.firsts.head kind j y p e)

  pub sharing_next : Sharing fs held new at (f + 1)
  sharing_next = record {
    firsts = next-firsts;
    done = λ kind j y p l. below_or_here (λ (i : ℕ). First (is_listed kind y.name) 0 held (list_head kind (get_or new (at + j) 0))) j f
        (λ u. subst (First (is_listed kind y.name) 0 held) (sym (apart kind j (λ e. omega (arith, e, u)))) (s.done kind j y p u))
        (here_as kind j y p) l;
  }
