-- Functions of one name share their lists of sites, and a site calls one name only.
use Prim.Native.Nat.{ℕ, ◌+◌, ◌/◌, ◌%◌, ◌<◌}
use native.Mathlib.Omega.{arith}
use mathlib.Core.Path.{◌≡◌, refl, sym, ap, ◌∙◌}
use mathlib.Core.Bool.{Bool, true, false}
use mathlib.Core.List.{List}
use mathlib.Core.Option.{some}
use lib.ListN.{get_or, get_elem?}
use Rattle.program.specs.Syntax.{Name, Function, Program}
use Rattle.patterns.specs.Names.{same_name}
use Rattle.patterns.proofs.Names.{same_name_sym, same_name_trans}
use Rattle.told.specs.Numbered.{Held, sites_of}
use Rattle.index.specs.declared.Plan.{Plan}
use Rattle.index.specs.Layout.{heads}
use Rattle.told.specs.Calls.{is_call_of, is_listed}
use Rattle.index.specs.Links.{list_head}
use Rattle.index.proofs.Calls.{listed-call, same_lists}
use Rattle.index.proofs.First.{first_unique}
use Rattle.index.proofs.Firsts.{first_agree}
use Rattle.cleaning.specs.Indexed.{Indexed}
use Rattle.cleaning.proofs.Meeting.{site_element}

-- An entry is its two heads.
heads-whole : (m n : ℕ) → ((kind : Bool) → list_head kind m ≡ list_head kind n) → m ≡ n
unfolding list_head
heads-whole m n h = let a : m % 8192 ≡ n % 8192 = h true in let b : m / 8192 ≡ n / 8192 = h false in omega (arith, a, b)

call-name : (f : Name) (y : Held) → is_call_of f y ≡ true → same_name y.site.callee f ≡ true
unfolding is_call_of
call-name f y e = e

module _ {b : List ℕ} {w : Program} {m : List ℕ} {p : Plan} (d : Indexed b w m p) (g f : ℕ) (v x : Function) (e : get_elem? w.functions g ≡ some v) (k : get_elem? w.functions f ≡ some x) where
  abbrev first : ℕ
  first = get_or m (heads p + g) 0

  abbrev second : ℕ
  second = get_or m (heads p + f) 0

  -- Where the heads differ, so do the names.
  pub heads_differ : (first ≡ second → ⊥) → false ≡ same_name v.name x.name
  heads_differ h = by (same_name v.name x.name) refl
    where
      by : (t : Bool) → same_name v.name x.name ≡ t → false ≡ same_name v.name x.name
      by true z =
          absurd (h (heads-whole first second (λ kind.
          first_unique (first_agree (is_listed kind v.name) (is_listed kind x.name) (same_lists v.name x.name kind z) (d.headed.head kind g v e)) (d.headed.head kind f x k))))
      by false z = sym z

  -- Where they are the same and there is a site, it calls both names.
  pub heads-meet : first ≡ second → (kind : Bool) (i : ℕ) → i ≡ list_head kind second → i < p.sites → true ≡ same_name v.name x.name
  heads-meet h kind i z l =
      let y = site_element d f x k i l in
      let a = (d.headed.head kind g v e).found y.element (ap (get_elem? (sites_of w)) (ap (list_head kind) h ∙ sym z) ∙ y.is) in
      let c = (d.headed.head kind f x k).found y.element (ap (get_elem? (sites_of w)) (sym z) ∙ y.is) in
      let n = call-name v.name y.element (listed-call v.name y.element kind a) in
      let q = call-name x.name y.element (listed-call x.name y.element kind c) in
      sym (same_name_trans v.name y.element.site.callee x.name (same_name_sym v.name y.element.site.callee ∙ n) q)
