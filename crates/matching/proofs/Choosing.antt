-- From one binding to the next, back to a choice that can take more.
use Prim.Native.Nat.{ℕ, ◌+◌, ◌-◌, ◌<◌, ◌≤◌}
use native.Mathlib.Omega.{arith}
use mathlib.Core.Path.{◌≡◌, refl, sym, ap, subst, ◌∙◌}
use mathlib.Core.Logic.{inl, inr}
use mathlib.Core.Bool.{Bool, true, false, true≢false, ◌&&◌, not}
use mathlib.Core.List.{List, [], ◌∷◌, ◌++◌}
use lib.Dec.{eqb, ltb}
use lib.ListN.{length, get_or, take, drop, length-drop}
use lib.Seq.{length-take-le, get_or-drop, get_or-take}
use borrow.Author.Tests.{eq-eqb, ne_eqb, eqb-true, eqb-false, ltb-true, ltb-false, not-true, not-false}
use Rattle.program.specs.Syntax.{Kind, s_kind, t_kind, e_kind}
use Rattle.program.specs.Bytes.{get16}
use Rattle.program.specs.Encode.{kind_mark}
use Rattle.patterns.specs.Expression.{Expression, void}
use Rattle.patterns.specs.Marks.{put_expression}
use Rattle.meaning.specs.Match.{Binding, Bindings}
use Rattle.meaning.proofs.Searching.{Choice, remaining, further}
use Rattle.std.specs.Prelude.{Some, None}
use Rattle.matching.specs.Bindings.{BindingAt, RunAt}
use Rattle.matching.specs.Pairs.{put_behind}
use Rattle.matching.specs.Choices.{ChoiceAt, ByKind, ChoicesAt, can_take, Readable, Newest, NewestAt}
use Rattle.matching.proofs.Variables.{variable-room}
use Rattle.matching.proofs.Meeting.{all-void}
use Rattle.matching.proofs.Splitting.{value-close, value_there}

-- ---- what the test says

pub less : (a b : ℕ) → a ≤ b → (a ≡ b → ⊥) → a < b
less a b h n = by (ltb a b) refl
  where
    by : (t : Bool) → ltb a b ≡ t → a < b
    by true e = ltb-true a b e
    by false e = absurd (n (let k = ltb-false a b e in omega arith))

both_true : (a b : Bool) → (a && b) ≡ true → (a ≡ true) × (b ≡ true)
both_true true b e = (refl, e)
both_true false b e = absurd (true≢false (sym e))

module _ (body work : List ℕ) (at : ℕ) where
  pub can_mark : can_take body work at ≡ true → get_or body (get16 work at) 0 ≡ 6
  unfolding can_take
  can_mark e = eqb-true (get_or body (get16 work at) 0) 6 (both_true _ _ e).0

  pub can_no_mark : (get_or body (get16 work at) 0 ≡ 6 → ⊥) → false ≡ can_take body work at
  unfolding can_take
  can_no_mark h = rw (ne_eqb (get_or body (get16 work at) 0) 6 h)

  pub can_not_end : get_or body (get16 work at) 0 ≡ 6 → get16 work (at + 4) ≡ get16 work (at + 6) → false ≡ can_take body work at
  unfolding can_take
  can_not_end e f = rw (eq-eqb (get_or body (get16 work at) 0) 6 e, eq-eqb (get16 work (at + 4)) (get16 work (at + 6)) f)

  pub can_told : get_or body (get16 work at) 0 ≡ 6 → (get16 work (at + 4) ≡ get16 work (at + 6) → ⊥) → not (eqb (get_or work (get16 work (at + 4)) 0) 15) ≡ can_take body work at
  unfolding can_take
  can_told e f = rw (eq-eqb (get_or body (get16 work at) 0) 6 e, ne_eqb (get16 work (at + 4)) (get16 work (at + 6)) f)

-- ---- what is left of a choice

module _ {body work rest : List ℕ} {top at : ℕ} {x : Binding} {b : Bindings} {c : Choice} (h : ChoiceAt body work rest top at x b c) (room : top ≤ length work) where
  slice_bytes : length (take (get16 work (at + 6) - get16 work (at + 4)) (drop (get16 work (at + 4)) work)) ≡ get16 work (at + 6) - get16 work (at + 4)
  slice_bytes =
      length-take-le (get16 work (at + 6) - get16 work (at + 4)) (drop (get16 work (at + 4)) work)
      (let d = length-drop (get16 work (at + 4)) work in let w = h.within in omega (arith, d, w, room))

  slice_mark : get16 work (at + 4) < get16 work (at + 6) → get_or work (get16 work (at + 4)) 0 ≡ get_or (put_expression c.left (put_behind c.site.pending)) 0 0
  slice_mark l =
      let u = get16 work (at + 4) in
      let e = get16 work (at + 6) in
      (let z : u ≡ u + 0 = omega arith in ap (λ (i : ℕ). get_or work i 0) z)
      ∙ (sym (get_or-drop u work 0 0) ∙ (sym (get_or-take (e - u) (drop u work) 0 0 (omega arith)) ∙ ap (λ (s : List ℕ). get_or s 0 0) h.value))

  pub nothing-more : get_or body (get16 work at) 0 ≡ 6 → can_take body work at ≡ false → c.left ≡ void
  nothing-more m f = by (eqb (get16 work (at + 4)) (get16 work (at + 6))) refl
    where
      by : (t : Bool) → eqb (get16 work (at + 4)) (get16 work (at + 6)) ≡ t → c.left ≡ void
      by true e =
          let k = eqb-true (get16 work (at + 4)) (get16 work (at + 6)) e in
          (all-void c.left c.site.pending (sym (ap length h.value) ∙ (slice_bytes ∙ (let z : get16 work (at + 6) - get16 work (at + 4) ≡ 0 = omega (arith, k) in z)))).0
      by false e =
          let k = eqb-false (get16 work (at + 4)) (get16 work (at + 6)) e in
          let g = not-false (eqb (get_or work (get16 work (at + 4)) 0) 15) (can_told body work at m k ∙ f) in
          value-close c.left c.site.pending (sym (slice_mark (less (get16 work (at + 4)) (get16 work (at + 6)) h.ordered k)) ∙ eqb-true (get_or work (get16 work (at + 4)) 0) 15 g)

  pub something_more : can_take body work at ≡ true → c.left ≡ void → ⊥
  something_more f =
      let m = can_mark body work at f in
      let k : get16 work (at + 4) ≡ get16 work (at + 6) → ⊥ = (λ e. true≢false (sym f ∙ sym (can_not_end body work at m e))) in
      let l = less (get16 work (at + 4)) (get16 work (at + 6)) h.ordered k in
      let g = not-true (eqb (get_or work (get16 work (at + 4)) 0) 15) (can_told body work at m k ∙ f) in
      value_there c.left c.site.pending (subst (λ (i : ℕ). 0 < i) (ap length h.value) (subst (λ (i : ℕ). 0 < i) (sym slice_bytes) (omega arith))) (λ e. eqb-false (get_or work (get16 work (at + 4)) 0) 15 g (slice_mark l ∙ e))

-- ---- from one binding to the next

place-mark : {body work : List ℕ} {top at : ℕ} {x : Binding} → BindingAt body work top at x → get_or body (get16 work at) 0 ≡ kind_mark x.kind
place-mark {body} {work} {top} {at} {x} w =
    let u = get16 work at in
    (let z : u ≡ u + 0 = omega arith in ap (λ (i : ℕ). get_or body i 0) z) ∙ (sym (get_or-drop u body 0 0) ∙ (ap (λ (s : List ℕ). get_or s 0 0) w.variable.is ∙ ap kind_mark w.kind))

not_six : (k : Kind) → (k ≡ e_kind → ⊥) → kind_mark k ≡ 6 → ⊥
unfolding kind_mark
not_six s_kind h e = omega arith
not_six t_kind h e = omega arith
not_six e_kind h e = h refl

s_not_e : s_kind ≡ e_kind → ⊥
unfolding kind_mark
s_not_e e = let z = ap kind_mark e in omega (arith, z)

t_not_e : t_kind ≡ e_kind → ⊥
unfolding kind_mark
t_not_e e = let z = ap kind_mark e in omega (arith, z)

six : kind_mark e_kind ≡ 6
unfolding kind_mark
six = refl

pub record Looking (body work rest : List ℕ) (top frame stop : ℕ) (cs : List Choice) (at : ℕ) : Type 0 where
  pub left : Bindings
  pub run : RunAt body work top frame left at
  pub choices : List Choice
  pub is : ChoicesAt body work rest top stop left at choices
  pub same : remaining choices ≡ remaining cs

-- The binding at the place, with its choices.
pub record Here (body work rest : List ℕ) (top frame stop : ℕ) (at : ℕ) (cs : List Choice) : Type 0 where
  pub first : Binding
  pub more : Bindings
  pub run : RunAt body work top frame (first ∷ more) at
  pub short : at + 8 ≤ stop
  pub by_kind : ByKind first.kind (ChoiceAt body work rest top at first more) (ChoicesAt body work rest top stop more (at + 8)) cs

here-at : (body work rest : List ℕ) (top frame stop : ℕ) (b : Bindings) (at : ℕ) (cs : List Choice) → RunAt body work top frame b at → ChoicesAt body work rest top stop b at cs → at < stop → Here body work rest top frame stop at cs
here-at body work rest top frame stop [] at cs r k h = absurd (let z = k.0 in omega (arith, z, h))
here-at body work rest top frame stop (x ∷ b) at cs r (inl k) h = absurd (let z = k.0 in omega (arith, z, h))
here-at body work rest top frame stop (x ∷ b) at cs r (inr k) h = record { first = x; more = b; run = r; short = k.0; by_kind = k.1 }

ended : (body work rest : List ℕ) (top stop : ℕ) (b : Bindings) (at : ℕ) (cs : List Choice) → ChoicesAt body work rest top stop b at cs → stop ≤ at → (at ≡ stop) × (cs ≡ [])
ended body work rest top stop [] at cs k h = k
ended body work rest top stop (x ∷ b) at cs (inl k) h = k
ended body work rest top stop (x ∷ b) at cs (inr k) h = absurd (let z = k.0 in omega (arith, z, h))

fewer : (c : Choice) (ds cs : List Choice) → cs ≡ c ∷ ds → remaining cs ≡ further c.site c.taken c.left ++ remaining ds
unfolding remaining
fewer c ds cs e = ap remaining e

no-further : (c : Choice) (ds : List Choice) → c.left ≡ void → further c.site c.taken c.left ++ remaining ds ≡ remaining ds
unfolding further
no-further c ds e = ap (λ (v : Expression). further c.site c.taken v ++ remaining ds) e

module _ {body work rest : List ℕ} {top frame stop at : ℕ} {cs : List Choice} (room : top ≤ length work) (w : Here body work rest top frame stop at cs) where
  ends-here : (k : Kind) → w.first.kind ≡ k → ByKind k (ChoiceAt body work rest top at w.first w.more) (ChoicesAt body work rest top stop w.more (at + 8)) cs → get_or body (get16 work at) 0 ≡ 6 → (get16 work (at + 4) ≤ get16 work (at + 6)) × (get16 work (at + 6) ≤ length work)
  ends-here s_kind e j m = absurd (not_six w.first.kind (λ f. s_not_e (sym e ∙ f)) (sym (place-mark w.run.1) ∙ m))
  ends-here t_kind e j m = absurd (not_six w.first.kind (λ f. t_not_e (sym e ∙ f)) (sym (place-mark w.run.1) ∙ m))
  ends-here e_kind e j m = (j.3.ordered, let z = j.3.within in omega (arith, z, room))

  pub readable : frame ≤ length work → Readable body work at
  readable f = record {
    place = let r = variable-room w.run.1.variable in let d = length-drop (get16 work at) body in omega (arith, r, d);
    room = let z = w.run.0 in omega (arith, z, f);
    end = ends-here w.first.kind refl w.by_kind;
  }

  skip : (k : Kind) → w.first.kind ≡ k → ByKind k (ChoiceAt body work rest top at w.first w.more) (ChoicesAt body work rest top stop w.more (at + 8)) cs → can_take body work at ≡ false → Looking body work rest top frame stop cs (at + 8)
  skip s_kind e j f = record { left = w.more; run = w.run.2; choices = cs; is = j; same = refl }
  skip t_kind e j f = record { left = w.more; run = w.run.2; choices = cs; is = j; same = refl }
  skip e_kind e j f =
      record {
        left = w.more;
        run = w.run.2;
        choices = j.1;
        is = j.4;
        same = sym (fewer j.0 j.1 cs j.2 ∙ no-further j.0 j.1 (nothing-more j.3 room (place-mark w.run.1 ∙ (ap kind_mark e ∙ six)) f));
      }

  pub look_on : can_take body work at ≡ false → Looking body work rest top frame stop cs (at + 8)
  look_on f = skip w.first.kind refl w.by_kind f

  stay : (k : Kind) → w.first.kind ≡ k → ByKind k (ChoiceAt body work rest top at w.first w.more) (ChoicesAt body work rest top stop w.more (at + 8)) cs → can_take body work at ≡ true → Newest body work rest top frame stop cs at
  stay s_kind e j f = absurd (not_six w.first.kind (λ g. s_not_e (sym e ∙ g)) (sym (place-mark w.run.1) ∙ can_mark body work at f))
  stay t_kind e j f = absurd (not_six w.first.kind (λ g. t_not_e (sym e ∙ g)) (sym (place-mark w.run.1) ∙ can_mark body work at f))
  stay e_kind e j f = record {
    first = w.first;
    more = w.more;
    run = w.run;
    kind = e;
    choice = j.0;
    others = j.1;
    here = j.3;
    behind = j.4;
    some_left = something_more j.3 room f;
    same = fewer j.0 j.1 cs j.2;
  }

  pub stop-here : can_take body work at ≡ true → Newest body work rest top frame stop cs at
  stop-here f = stay w.first.kind refl w.by_kind f

module _ {body work rest : List ℕ} {top frame stop at : ℕ} {cs : List Choice} (l : Looking body work rest top frame stop cs at) where
  pub look_here : at < stop → Here body work rest top frame stop at l.choices
  look_here h = here-at body work rest top frame stop l.left at l.choices l.run l.is h

  pub look_none : stop ≤ at → NewestAt body work rest top frame stop cs None
  unfolding remaining
  look_none h =
      let e = ended body work rest top stop l.left at l.choices l.is h in
      sym l.same ∙ ap remaining e.1

  pub look_more : top ≤ length work → (h : at < stop) → can_take body work at ≡ false → Looking body work rest top frame stop cs (at + 8)
  look_more room h f =
      let k = look_on room (look_here h) f in
      record { left = k.left; run = k.run; choices = k.choices; is = k.is; same = k.same ∙ l.same }

  pub look_found : top ≤ length work → (h : at < stop) → can_take body work at ≡ true → NewestAt body work rest top frame stop cs (Some at)
  look_found room h f =
      let k = stop-here room (look_here h) f in
      (h, record { first = k.first; more = k.more; run = k.run; kind = k.kind; choice = k.choice; others = k.others; here = k.here; behind = k.behind; some_left = k.some_left; same = sym l.same ∙ k.same })

pub looking_first : {body work rest : List ℕ} {top frame stop at : ℕ} (b : Bindings) (cs : List Choice) → RunAt body work top frame b at → ChoicesAt body work rest top stop b at cs → Looking body work rest top frame stop cs at
looking_first b cs r k = record { left = b; run = r; choices = cs; is = k; same = refl }
