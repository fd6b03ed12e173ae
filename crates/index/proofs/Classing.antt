-- The walk along the list of a function's plain sites, which writes their classes.
use Prim.Native.Nat.{ℕ, suc, ◌+◌, ◌/◌, ◌%◌, ◌≤◌, ◌<◌}
use native.Mathlib.Omega.{arith}
use mathlib.Core.Path.{◌≡◌, refl, sym, ap, subst, ◌∙◌}
use mathlib.Core.Bool.{Bool, true, false}
use mathlib.Core.List.{List}
use mathlib.Core.Option.{some}
use borrow.Author.Tests.{ltb-true, ltb-false, eqb-true, eqb-false}
use lib.Dec.{ltb, eqb}
use lib.ListN.{length, get_or, set, get_elem?, length-set}
use lib.Seq.{get_or-set_same, get_or-set_other}
use Rattle.program.specs.Syntax.{Name}
use Rattle.told.specs.Numbered.{Held}
use Rattle.restrictions.specs.Entries.{Entry}
use Rattle.index.specs.First.{First}
use Rattle.told.specs.Calls.{is_listed}
use Rattle.index.specs.Links.{entry_next, entry_class, is_repeat, Classed}
use Rattle.index.specs.Lists.{ListAt, Among, OnlyClasses}
use Rattle.index.proofs.First.{Element, element_at, element_below}

-- The classes of the list's sites before i have been written, and nothing else has changed; i is one of the list, or the end.
pub record Classing (f : Name) (sites : List Held) (old new : List ℕ) (links i : ℕ) : Type 0 where
  pub only : OnlyClasses f sites old new links
  pub within : i ≤ length sites
  pub found : (y : Held) → get_elem? sites i ≡ some y → is_listed true f y ≡ true
  pub classed : (k : ℕ) (y : Held) → k < i → get_elem? sites k ≡ some y → is_listed true f y ≡ true → First (is_repeat f y) 0 sites (entry_class (get_or new (links + k) 0))

module _ {b old : List ℕ} {calls links n head : ℕ} {f : Name} {sites : List Held} (l : ListAt b old calls links n head f sites) where
  pub classing_first : Classing f sites old old links head
  classing_first = record {
    only = record { length = refl; others = λ k h. refl; nexts = λ i. refl };
    within = l.begins.within;
    found = l.begins.found;
    classed = λ k y h e t.
        let u = l.begins.none k y (omega arith) h e in
        let z : ◌≡◌ {A = ℕ} 0 1 = cc in absurd (omega arith);
  }

  module _ {new : List ℕ} (o : OnlyClasses f sites old new links) (apart : calls + n ≤ links) where
    -- An entry of a site stands before all links.
    call_kept : (i : ℕ) → i < n → get_or new (calls + i) 0 ≡ get_or old (calls + i) 0
    call_kept i h = o.others (calls + i) (λ k y a e. absurd (omega arith))

    -- The list is the same list.
    pub list-kept : ListAt b new calls links n head f sites
    list-kept = record {
      entries = record { entry = λ i x e. subst (λ (m : ℕ). Entry b m x) (sym (call_kept i (omega (arith, element_below sites i x e, l.count)))) (l.entries.entry i x e) };
      count = l.count;
      calls_fit = omega (arith, l.calls_fit, o.length);
      links_fit = omega (arith, l.links_fit, o.length);
      chain = record { next = λ i y h e t. subst (λ (m : ℕ). First (is_listed true f) (suc i) sites m) (sym (o.nexts i)) (l.chain.next i y h e t) };
      begins = l.begins;
    }

  module _ {new : List ℕ} {i : ℕ} (w : Classing f sites old new links i) where
    pub link-below : i < n → links + i < length new
    link-below h = omega (arith, l.links_fit, w.only.length)

    pub at_element : i < n → Element sites i
    at_element h = element_at sites i (omega (arith, l.count))

    pub at-among : (h : i < n) → Among f sites i (at_element h).element
    at-among h = let x = at_element h in record { is = x.is; listed = w.found x.element x.is }

    -- The next of the list, as the present work has it.
    pub at_next : i < n → First (is_listed true f) (suc i) sites (get_or new (links + i) 0 % 8192)
    at_next h =
        let a = at-among h in
        subst (λ (m : ℕ). First (is_listed true f) (suc i) sites m) (sym (w.only.nexts i)) (l.chain.next i (at_element h).element (omega arith) a.is a.listed)

    -- The entry is written with the class c and the same next.
    module _ (h : i < n) (c written : ℕ) (written_next : written % 8192 ≡ get_or new (links + i) 0 % 8192) (written-class : written / 8192 ≡ c) where
      here : get_or (set new (links + i) written) (links + i) 0 ≡ written
      here = get_or-set_same new (links + i) written 0 (link-below h)

      there : (k : ℕ) → (k ≡ links + i → ⊥) → get_or (set new (links + i) written) k 0 ≡ get_or new k 0
      there k d = get_or-set_other new (links + i) k written 0 d

      only_next : OnlyClasses f sites old (set new (links + i) written) links
      only_next = record {
        length = length-set new (links + i) written ∙ w.only.length;
        others = λ k d. there k (d i (at_element h).element (at-among h)) ∙ w.only.others k d;
        nexts = λ k. next k (eqb k i) refl;
      }
        where
          next : (k : ℕ) (t : Bool) → eqb k i ≡ t → entry_next (get_or (set new (links + i) written) (links + k) 0) ≡ entry_next (get_or old (links + k) 0)
          next k true t =
              let z : k ≡ i = eqb-true k i t in
              ap (λ (m : ℕ). entry_next (get_or (set new (links + i) written) (links + m) 0)) z ∙ (ap entry_next here ∙ (written_next ∙ (w.only.nexts i ∙ ap (λ (m : ℕ). entry_next (get_or old (links + m) 0)) (sym z))))
          next k false t = ap entry_next (there (links + k) (λ e. eqb-false k i t (omega arith))) ∙ w.only.nexts k

      pub classing-next : First (is_repeat f (at_element h).element) 0 sites c → Classing f sites old (set new (links + i) written) links (get_or new (links + i) 0 % 8192)
      classing-next g = record {
        only = only_next;
        within = (at_next h).within;
        found = (at_next h).found;
        classed = λ k y u e t. before k y u e t (ltb k i) (eqb k i) refl refl;
      }
        where
          later : (k : ℕ) → i ≤ k → (k ≡ i → ⊥) → suc i ≤ k
          later k p q = omega arith

          before : (k : ℕ) (y : Held) → k < get_or new (links + i) 0 % 8192 → get_elem? sites k ≡ some y → is_listed true f y ≡ true → (s t : Bool) → ltb k i ≡ s → eqb k i ≡ t
              → First (is_repeat f y) 0 sites (entry_class (get_or (set new (links + i) written) (links + k) 0))
          before k y u e t true d p q =
              let j = ltb-true k i p in
              subst (λ (m : ℕ). First (is_repeat f y) 0 sites (entry_class m)) (sym (there (links + k) (λ z. omega arith))) (w.classed k y j e t)
          before k y u e t false true p q =
              let z = eqb-true k i q in
              let a : y ≡ (at_element h).element = cc (at_element h).is in
              let m : get_or (set new (links + i) written) (links + k) 0 / 8192 ≡ c = ap (λ (j : ℕ). get_or (set new (links + i) written) (links + j) 0 / 8192) z ∙ (ap (λ (j : ℕ). j / 8192) here ∙ written-class) in
              subst (λ (j : ℕ). First (is_repeat f y) 0 sites j) (sym m) (subst (λ (x : Held). First (is_repeat f x) 0 sites c) (sym a) g)
          before k y u e t false false p q =
              let v = (at_next h).none k y (later k (ltb-false k i p) (eqb-false k i q)) u e in
              let z : ◌≡◌ {A = ℕ} 0 1 = cc in absurd (omega arith)

  pub classing_end : {new : List ℕ} {i : ℕ} → Classing f sites old new links i → n ≤ i → Classed f sites new links
  classing_end {new} {i} w h = record { class = λ k y e t. w.classed k y (omega (arith, element_below sites k y e, l.count)) e t }
