-- Walks along a function's list of sites.
use Prim.Native.Nat.{ℕ, zero, suc, ◌+◌, ◌-◌, ◌<◌, ◌≤◌}
use native.Mathlib.Omega.{arith}
use mathlib.Core.Path.{◌≡◌, refl, sym, ap, ap₂, subst, ◌∙◌}
use mathlib.Core.Bool.{Bool, true, false, ◌&&◌, ◌||◌, not}
use mathlib.Core.List.{List}
use mathlib.Core.Option.{some}
use borrow.Author.Tests.{ltb-true, ltb-false, eqb-true, eqb-false, eq-eqb, ne_eqb}
use lib.Dec.{eqb, leb, ltb}
use lib.ListN.{length, get_or, get_elem?}
use Rattle.std.specs.Prelude.{Option, is_some}
use Rattle.program.specs.Syntax.{Name, Function, Program}
use Rattle.meaning.specs.Lists.{any}
use Rattle.told.specs.Numbered.{Held, sites_of}
use Rattle.restrictions.specs.Entries.{entry_sentence}
use Rattle.index.specs.declared.Plan.{Plan}
use Rattle.index.specs.Layout.{heads, calls, links}
use Rattle.index.specs.First.{First, FirstFrom}
use Rattle.told.specs.Calls.{is_listed}
use Rattle.index.specs.Links.{list_head, entry_next}
use Rattle.index.proofs.First.{Element, element_at, element_below, element_same, any_from}
use Rattle.told.specs.History.{is_there}
use Rattle.told.specs.Asked.{uncharacterises, restricts, is_judged}
use Rattle.cleaning.specs.Indexed.{Indexed}
use Rattle.cleaning.specs.Walks.{Walkable, SomeWalk, is_there_listed, witness_from}
use Rattle.cleaning.proofs.Indexed.{indexed-walkable}

-- ---- whether a sentence is there

pub there_never : (fell : ℕ → ℕ) (r s : ℕ) → fell s ≡ 0 → true ≡ is_there fell r s
unfolding is_there
there_never fell r s e = ap (λ (t : Bool). t || leb r (fell s)) (sym (eq-eqb (fell s) 0 e))

pub there-fell : (fell : ℕ → ℕ) (r s k : ℕ) → k ≡ fell s → (k ≡ 0 → ⊥) → leb r k ≡ is_there fell r s
unfolding is_there
there-fell fell r s k e h = ap (leb r) e ∙ ap (λ (t : Bool). t || leb r (fell s)) (sym (ne_eqb (fell s) 0 (λ z. h (e ∙ z))))

-- ---- where a search begins

pub witness-none : (d head : ℕ) → d ≡ 0 → head ≡ witness_from d head
unfolding witness_from
witness-none d head e = ap (λ (k : ℕ). witness_from k head) (sym e)

pub witness-some : (d head : ℕ) → (d ≡ 0 → ⊥) → d - 1 ≡ witness_from d head
unfolding witness_from
witness-some zero head h = absurd (h refl)
witness-some (suc k) head h = omega arith

-- ---- a walk along a list

-- From `from` up to j nothing passes; j is one of the list, or the end.
pub record Going {A : Type 0} (listed pass : A → Bool) (from : ℕ) (l : List A) (j : ℕ) : Type 0 where
  pub later : from ≤ j
  pub within : j ≤ length l
  pub none : (k : ℕ) (x : A) → from ≤ k → k < j → get_elem? l k ≡ some x → pass x ≡ false
  pub found : (x : A) → get_elem? l j ≡ some x → listed x ≡ true

module _ {A : Type 0} {listed pass : A → Bool} {l : List A} where
  -- What passes is listed.
  pub going_first : {from i : ℕ} → ((x : A) → listed x ≡ false → pass x ≡ false) → First listed from l i → Going listed pass from l i
  going_first less f = record { later = f.later; within = f.within; none = λ k x a b e. less x (f.none k x a b e); found = f.found }

  module _ {from j : ℕ} (g : Going listed pass from l j) where
    pub going_end : length l ≤ j → First pass from l j
    going_end h = record { later = g.later; within = g.within; none = g.none; found = λ x e. absurd (omega (arith, element_below l j x e)) }

    module _ (y : A) (e : get_elem? l j ≡ some y) where
      pub going-found : pass y ≡ true → First pass from l j
      going-found t = record { later = g.later; within = g.within; none = g.none; found = λ x d. ap pass (element_same l j x y d e) ∙ t }

      pub going_next : ((x : A) → listed x ≡ false → pass x ≡ false) → pass y ≡ false → {n : ℕ} → First listed (suc j) l n → Going listed pass from l n
      going_next less t {n} f = record {
        later = omega (arith, g.later, f.later);
        within = f.within;
        none = λ k x a b d. before k x a b d (ltb k j) (eqb k j) refl refl;
        found = f.found;
      }
        where
          before : (k : ℕ) (x : A) → from ≤ k → k < n → get_elem? l k ≡ some x → (s u : Bool) → ltb k j ≡ s → eqb k j ≡ u → pass x ≡ false
          before k x a b d true u p q = g.none k x a (ltb-true k j p) d
          before k x a b d false true p q =
              let z = eqb-true k j q in
              ap pass (element_same l j x y (rw z at d) e) ∙ t
          before k x a b d false false p q =
              let v = ltb-false k j p in
              let o = eqb-false k j q in
              less x (f.none k x (omega arith) b d)

pub and_left : (t u : Bool) → t ≡ true → (u && t) ≡ u
and_left true true e = refl
and_left true false e = refl
and_left false u e = let z : ◌≡◌ {A = ℕ} 0 1 = cc in absurd (omega arith)

pub and_none : (t u : Bool) → t ≡ false → (u && t) ≡ false
and_none t true e = e
and_none t false e = refl

-- The walk to the first site that is there.
module _ {kind : Bool} {f : Name} {sites : List Held} {m : List ℕ} {p : Plan} (w : Walkable kind f sites m p) (keep : ℕ → Bool) where
  there-less : (x : Held) → is_listed kind f x ≡ false → is_there_listed keep kind f x ≡ false
  there-less x e = and_none (is_listed kind f x) (keep x.sentence) e

  pub there-first : {q i : ℕ} → First (is_listed kind f) q sites i → Going (is_listed kind f) (is_there_listed keep kind f) q sites i
  there-first g = going_first there-less g

  pub there-end : {q j : ℕ} → Going (is_listed kind f) (is_there_listed keep kind f) q sites j → p.sites ≤ j → First (is_there_listed keep kind f) q sites j
  there-end g h = going_end g (omega (arith, w.count))

  module _ {q j : ℕ} (g : Going (is_listed kind f) (is_there_listed keep kind f) q sites j) (h : j < p.sites) where
    there_element : Element sites j
    there_element = element_at sites j (omega (arith, w.count))

    there-is : is_there_listed keep kind f there_element.element ≡ keep (entry_sentence (get_or m (calls p + j) 0))
    there-is =
        let x = there_element in
        and_left (is_listed kind f x.element) (keep x.element.sentence) (g.found x.element x.is) ∙ ap keep (sym (w.number j x.element x.is).0)

    pub there-below : entry_sentence (get_or m (calls p + j) 0) < p.sentences
    there-below = let x = there_element in omega (arith, w.number j x.element x.is)

    pub there-found : keep (entry_sentence (get_or m (calls p + j) 0)) ≡ true → First (is_there_listed keep kind f) q sites j
    there-found t = let x = there_element in going-found g x.element x.is (there-is ∙ t)

    there-after : First (is_listed kind f) (suc j) sites (entry_next (get_or m (links p + j) 0))
    there-after = let x = there_element in w.chain.next j x.element (omega arith) x.is (g.found x.element x.is)

    pub there-next : keep (entry_sentence (get_or m (calls p + j) 0)) ≡ false → (n : ℕ) → n ≡ entry_next (get_or m (links p + j) 0)
        → Going (is_listed kind f) (is_there_listed keep kind f) q sites n × (j < n)
    there-next t n e =
        let x = there_element in
        let z = subst (λ (k : ℕ). First (is_listed kind f) (suc j) sites k) (sym e) there-after in
        (going_next g x.element x.is there-less (there-is ∙ t) z, omega (arith, z.later))

-- ---- whether a function is judged

module _ {b : List ℕ} {w : Program} {m : List ℕ} {p : Plan} (d : Indexed b w m p) (f : ℕ) (x : Function) (e : get_elem? w.functions f ≡ some x) where
  pub head_first : (kind : Bool) (i : ℕ) → i ≡ list_head kind (get_or m (heads p + f) 0) → First (is_listed kind x.name) 0 (sites_of w) i
  head_first kind i z = subst (λ (n : ℕ). First (is_listed kind x.name) 0 (sites_of w) n) (sym z) (d.headed.head kind f x e)

  pub walk_from : (kind : Bool) (i : ℕ) → i ≡ list_head kind (get_or m (heads p + f) 0) → SomeWalk m p i
  walk_from kind i z = record { kind = kind; name = x.name; sites = sites_of w; from = 0; walkable = indexed-walkable d kind f x e; begins = head_first kind i z }

module _ (keep : ℕ → Bool) (f : Name) (sites : List Held) (opening : Option ℕ) (o : FirstFrom (is_there_listed keep false f) 0 sites opening) where
  pub judged_open : is_some opening ≡ true → false ≡ is_judged keep f sites
  unfolding is_judged uncharacterises
  judged_open h = sym (ap (λ (t : Bool). not t && any (restricts keep f) sites) (any_from (is_there_listed keep false f) sites opening o ∙ h))

  pub judged_plain : is_some opening ≡ false → (plain : Option ℕ) → FirstFrom (is_there_listed keep true f) 0 sites plain → is_some plain ≡ is_judged keep f sites
  unfolding is_judged uncharacterises restricts
  judged_plain h plain g = sym (ap₂ (λ (t u : Bool). not t && u) (any_from (is_there_listed keep false f) sites opening o ∙ h) (any_from (is_there_listed keep true f) sites plain g))
