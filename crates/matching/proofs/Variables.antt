-- Variables in a body, and the newest binding of one.
use Prim.Native.Nat.{ℕ, ◌+◌, ◌<◌, ◌≤◌}
use native.Mathlib.Omega.{arith}
use mathlib.Core.Path.{◌≡◌, refl, sym, ap, ap₂, subst, ◌∙◌}
use mathlib.Core.Bool.{Bool, true, false, ◌&&◌}
use mathlib.Core.List.{List, [], ◌∷◌}
use mathlib.Core.Option.{none, some}
use lib.ListN.{length, get_or, drop, length-drop}
use Rattle.program.specs.Syntax.{Span, Name, Kind, s_kind, t_kind, e_kind}
use Rattle.program.specs.Bytes.{put32, put_span, put_name, get16}
use Rattle.program.specs.Encode.{kind_mark}
use Rattle.program.proofs.Lengths.{span-length, name-length}
use Rattle.image.specs.Parts.{NameAt}
use Rattle.patterns.specs.Names.{same_name}
use Rattle.patterns.specs.Equality.{eq_kind}
use Rattle.meaning.specs.Match.{Binding, Bindings, is_variable, value_of}
use Rattle.std.specs.Prelude.{Some, None}
use Rattle.matching.specs.Bindings.{VariableAt, BindingAt, RunAt, Known}

pub variable-room : {s : List ℕ} → VariableAt s → 10 ≤ length s
variable-room x = omega (arith, ap length x.is, span-length x.span (put_name x.name x.rest), name-length x.name x.rest)

behind-span : (m : ℕ) (p : Span) (k : List ℕ) → drop 9 (m ∷ put_span p k) ≡ k
unfolding put_span put32
behind-span m p k = refl

pub name-at : {s : List ℕ} → VariableAt s → NameAt (drop 9 s)
name-at x = record { name = x.name; rest = x.rest; is = ap (drop 9) x.is ∙ behind-span (kind_mark x.kind) x.span (put_name x.name x.rest) }

pub name-is : {s : List ℕ} (x : VariableAt s) {n : Name} → ((y : NameAt (drop 9 s)) → n ≡ y.name) → n ≡ x.name
unfolding name-at
name-is x h = h (name-at x)

mark-is : {s : List ℕ} (x : VariableAt s) → get_or s 0 0 ≡ kind_mark x.kind
mark-is x = ap (λ (l : List ℕ). get_or l 0 0) x.is

same-mark : (k l : Kind) → kind_mark k ≡ kind_mark l → eq_kind k l ≡ true
unfolding kind_mark eq_kind
same-mark s_kind s_kind e = refl
same-mark s_kind t_kind e = absurd (omega arith)
same-mark s_kind e_kind e = absurd (omega arith)
same-mark t_kind s_kind e = absurd (omega arith)
same-mark t_kind t_kind e = refl
same-mark t_kind e_kind e = absurd (omega arith)
same-mark e_kind s_kind e = absurd (omega arith)
same-mark e_kind t_kind e = absurd (omega arith)
same-mark e_kind e_kind e = refl

other-mark : (k l : Kind) → (kind_mark k ≡ kind_mark l → ⊥) → eq_kind k l ≡ false
unfolding kind_mark eq_kind
other-mark s_kind s_kind h = absurd (h refl)
other-mark s_kind t_kind h = refl
other-mark s_kind e_kind h = refl
other-mark t_kind s_kind h = refl
other-mark t_kind t_kind h = absurd (h refl)
other-mark t_kind e_kind h = refl
other-mark e_kind s_kind h = refl
other-mark e_kind t_kind h = refl
other-mark e_kind e_kind h = absurd (h refl)

module _ {a b : List ℕ} (x : VariableAt a) (y : VariableAt b) where
  pub kinds_differ : (get_or a 0 0 ≡ get_or b 0 0 → ⊥) → false ≡ (eq_kind x.kind y.kind && same_name x.name y.name)
  kinds_differ h = sym (ap (λ (t : Bool). t && same_name x.name y.name) (other-mark x.kind y.kind (λ e. h (mark-is x ∙ (e ∙ sym (mark-is y))))))

  pub kinds_same : get_or a 0 0 ≡ get_or b 0 0 → same_name x.name y.name ≡ (eq_kind x.kind y.kind && same_name x.name y.name)
  kinds_same h = sym (ap (λ (t : Bool). t && same_name x.name y.name) (same-mark x.kind y.kind (sym (mark-is x) ∙ (h ∙ mark-is y))))

-- A variable is not past the body's end.
pub place-within : (body : List ℕ) (p : ℕ) → VariableAt (drop p body) → p ≤ length body
place-within body p x = let r = variable-room x in omega (arith, r, length-drop p body)

-- ---- from one binding to the next

-- The bindings from a place on tell a variable as all of them do.
pub record Sought (body work : List ℕ) (top frame : ℕ) (k : Kind) (n : Name) (b : Bindings) (at : ℕ) : Type 0 where
  pub left : Bindings
  pub run : RunAt body work top frame left at
  pub same : value_of k n left ≡ value_of k n b

pub sought_first : {body work : List ℕ} {top frame at : ℕ} (k : Kind) (n : Name) (b : Bindings) → RunAt body work top frame b at → Sought body work top frame k n b at
sought_first k n b r = record { left = b; run = r; same = refl }

-- The first of them, where there is one.
pub record Newest (body work : List ℕ) (top frame at : ℕ) (l : Bindings) : Type 0 where
  pub first : Binding
  pub more : Bindings
  pub split : l ≡ first ∷ more
  pub room : at + 8 ≤ frame
  pub there : BindingAt body work top at first
  pub next : RunAt body work top frame more (at + 8)

pub newest : (body work : List ℕ) (top frame at : ℕ) (l : Bindings) → RunAt body work top frame l at → at < frame → Newest body work top frame at l
newest body work top frame at [] r h = absurd (omega (arith, r, h))
newest body work top frame at (x ∷ l) r h = record { first = x; more = l; split = refl; room = r.0; there = r.1; next = r.2 }

none_left : (body work : List ℕ) (top frame at : ℕ) (l : Bindings) → RunAt body work top frame l at → frame ≤ at → (l ≡ []) × (at ≡ frame)
none_left body work top frame at [] r h = (refl, r)
none_left body work top frame at (x ∷ l) r h = absurd (let z = r.0 in omega (arith, z, h))

value-first : (k : Kind) (n : Name) (x : Binding) (l : Bindings) → is_variable k n x ≡ true → value_of k n (x ∷ l) ≡ some x.value
unfolding value_of
value-first k n x l e = rw e

value-later : (k : Kind) (n : Name) (x : Binding) (l : Bindings) → is_variable k n x ≡ false → value_of k n (x ∷ l) ≡ value_of k n l
unfolding value_of
value-later k n x l e = rw e

module _ {body work q : List ℕ} {top frame at : ℕ} (v : VariableAt q) {b : Bindings} (s : Sought body work top frame v.kind v.name b at) where
  pub at_newest : at < frame → Newest body work top frame at s.left
  at_newest h = newest body work top frame at s.left s.run h

  is_it : (h : at < frame) (t : Bool) → ((y : VariableAt (drop (get16 work at) body)) → t ≡ (eq_kind v.kind y.kind && same_name v.name y.name)) → is_variable v.kind v.name (at_newest h).first ≡ t
  unfolding is_variable
  is_it h t e =
      let w = (at_newest h).there in
      sym (e w.variable ∙ ap₂ (λ (k : Kind) (n : Name). eq_kind v.kind k && same_name v.name n) w.kind w.name)

  pub sought_found : (h : at < frame) (t : Bool) → ((y : VariableAt (drop (get16 work at) body)) → t ≡ (eq_kind v.kind y.kind && same_name v.name y.name)) → t ≡ true → Known work top frame (Some at) (value_of v.kind v.name b)
  sought_found h t e f =
      let w = at_newest h in
      let o : value_of v.kind v.name b ≡ some w.first.value = sym s.same ∙ (ap (value_of v.kind v.name) w.split ∙ value-first v.kind v.name w.first w.more (is_it h t e ∙ f)) in
      rw o (w.room, w.there.holds)

  pub sought_more : (h : at < frame) (t : Bool) → ((y : VariableAt (drop (get16 work at) body)) → t ≡ (eq_kind v.kind y.kind && same_name v.name y.name)) → t ≡ false → Sought body work top frame v.kind v.name b (at + 8)
  sought_more h t e f =
      let w = at_newest h in
      record { left = w.more; run = w.next; same = sym (value-later v.kind v.name w.first w.more (is_it h t e ∙ f)) ∙ (sym (ap (value_of v.kind v.name) w.split) ∙ s.same) }

  pub sought_none : frame ≤ at → Known work top frame None (value_of v.kind v.name b)
  unfolding value_of
  sought_none h =
      let w = none_left body work top frame at s.left s.run h in
      let o : value_of v.kind v.name b ≡ none = sym s.same ∙ ap (value_of v.kind v.name) w.0 in
      rw o tt

-- What is told of two parts of the body holds of what stands there.
pub told_at :
    (body : List ℕ) (p i : ℕ) {j : ℕ} → i ≡ j → {a c : List ℕ} → a ≡ drop p body → c ≡ drop i body → {t : Bool}
    → ((x : VariableAt a) (y : VariableAt c) → t ≡ (eq_kind x.kind y.kind && same_name x.name y.name))
    → (v : VariableAt (drop p body)) (y : VariableAt (drop j body)) → t ≡ (eq_kind v.kind y.kind && same_name v.name y.name)
told_at body p i e {a} {c} q r {t} h =
    subst (λ (k : ℕ). (v : VariableAt (drop p body)) (y : VariableAt (drop k body)) → t ≡ (eq_kind v.kind y.kind && same_name v.name y.name)) e
    (subst (λ (k : List ℕ). (v : VariableAt (drop p body)) (y : VariableAt k) → t ≡ (eq_kind v.kind y.kind && same_name v.name y.name)) r
    (subst (λ (k : List ℕ). (v : VariableAt k) (y : VariableAt c) → t ≡ (eq_kind v.kind y.kind && same_name v.name y.name)) q h))
