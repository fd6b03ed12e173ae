-- Linking one site more: the heads and links are right from it on.
use Prim.Native.Nat.{ℕ, suc, ◌+◌, ◌%◌, ◌<◌, ◌≤◌}
use native.Mathlib.Omega.{arith}
use native.Mathlib.Nat.{mod-eq_of_lt}
use native.Mathlib.Numerals.{add-one}
use mathlib.Core.Path.{◌≡◌, refl, sym, ap, subst, ◌∙◌}
use mathlib.Core.Bool.{Bool, true, false, not, true≢false}
use mathlib.Core.List.{List}
use mathlib.Core.Option.{some}
use lib.Dec.{eqb}
use lib.ListN.{length, get_or, get_elem?, drop, set, length-set}
use lib.Seq.{get_or-set_same, get_or-set_other}
use borrow.Author.Tests.{eqb-true, eqb-false}
use Rattle.program.specs.Syntax.{Name, Function}
use Rattle.patterns.specs.Names.{same_name}
use Rattle.patterns.proofs.Names.{same_name_sym, same_name_trans}
use Rattle.restrictions.specs.Entries.{CallAt, Entry}
use Rattle.told.specs.Numbered.{Held}
use Rattle.index.specs.First.{First}
use Rattle.index.specs.Bucket.{is_named}
use Rattle.told.specs.Calls.{is_call_of, is_plain, is_listed}
use Rattle.index.specs.Links.{list_head, FirstsHeaded, Chained}
use Rattle.meaning.specs.Sites.{restriction_is_characterisable}
use Rattle.index.specs.Linking.{Columns, Indexed, Pushed}
use Rattle.index.proofs.Entries.{Element, element_below, element_of, same_element}
use Rattle.index.proofs.Firsts.{first-end, first-here, first_sooner, first_agree, first_one}
use Rattle.index.proofs.Calls.{no_call, its_kind, other-kind, listed-call, listed-kind, same_lists, call-named, named-name, same-named}

-- One write to a link and one to a pair of heads.
pub pushed : (kind : Bool) (m : List ℕ) (head link i v w : ℕ) → head < link → link < length m → v ≡ list_head kind (get_or m head 0) → list_head kind w ≡ i → list_head (not kind) w ≡ list_head (not kind) (get_or m head 0) → Pushed kind m (set (set m link v) head w) head link i
pushed kind m head link i v w l u e f o =
    let h : get_or (set (set m link v) head w) head 0 ≡ w = get_or-set_same (set m link v) head w 0 (omega (arith, l, u, length-set m link v)) in
    record {
      length = length-set (set m link v) head w ∙ length-set m link v;
      next = get_or-set_other (set m link v) head link w 0 (λ z. omega (arith, z, l)) ∙ get_or-set_same m link v 0 u ∙ e;
      first = ap (list_head kind) h ∙ f;
      other = ap (list_head (not kind)) h ∙ o;
      others = λ k a b. get_or-set_other (set m link v) head k w 0 a ∙ get_or-set_other m link k v 0 b;
    }

-- No site is linked.
pub firsts-none : (fs : List Function) (held : List Held) (m : List ℕ) (at count sites : ℕ) → length fs ≡ count → length held ≡ sites → ((kind : Bool) (f : ℕ) → f < count → list_head kind (get_or m (at + f) 0) ≡ sites) → FirstsHeaded fs held m at sites
firsts-none fs held m at count sites c e h = record { head = λ kind f x q d. subst (First (is_listed kind x.name) sites held) (sym (h kind f (omega (arith, element_below fs f q, c)))) (first-end (is_listed kind x.name) held sites e) }

pub chained-none : (fs : List Function) (held : List Held) (m : List ℕ) (at sites : ℕ) → length held ≡ sites → Chained fs held m at sites
chained-none fs held m at sites e = record { chain = λ kind f x q. record { next = λ i y l p. absurd (omega (arith, l, element_below held i p, e)) } }

module _ {fs : List Function} {held : List Held} {old : List ℕ} {heads links : ℕ} (i : ℕ) (h : FirstsHeaded fs held old heads (i + 1)) (d : Chained fs held old links (i + 1)) (y : Held) (q : get_elem? held i ≡ some y) where
  -- The site calls no function.
  module _ (none : (f : ℕ) (x : Function) → get_elem? fs f ≡ some x → is_named y.site.callee x ≡ false) where
    out : (kind : Bool) (f : ℕ) (x : Function) → get_elem? fs f ≡ some x → is_listed kind x.name y ≡ false
    out kind f x p = no_call x.name y kind (call-named x y ∙ none f x p)

    pub left-heads : FirstsHeaded fs held old heads i
    left-heads = record { head = λ kind f x p e. first_sooner (is_listed kind x.name) held i y (h.head kind f x p e) q (out kind f x p) }

    pub left-links : Chained fs held old links i
    left-links = record { chain = λ kind f x p. record { next = λ j z l r t. go kind f x p j z l r t (eqb j i) refl } }
      where
        go : (kind : Bool) (f : ℕ) (x : Function) → get_elem? fs f ≡ some x → (j : ℕ) (z : Held) → i ≤ j → get_elem? held j ≡ some z → is_listed kind x.name z ≡ true → (b : Bool) → eqb j i ≡ b → First (is_listed kind x.name) (suc j) held (get_or old (links + j) 0 % 8192)
        go kind f x p j z l r t true e =
            let w : z ≡ y = same_element r (ap (λ (n : ℕ). get_elem? held n) (eqb-true j i e) ∙ q) in
            absurd (true≢false (sym t ∙ (ap (is_listed kind x.name) w ∙ out kind f x p)))
        go kind f x p j z l r t false e = let n : j ≡ i → ⊥ = eqb-false j i e in (d.chain kind f x p).next j z (omega (arith, l, n)) r t

  -- The site calls the function f first of its name.
  module _ (f : ℕ) (c : First (is_named y.site.callee) 0 fs f) (u : f < length fs) (kind : Bool) (plain : kind ≡ is_plain y) (new : List ℕ) (s : Pushed kind old new (heads + f) (links + i) i) (before : heads + length fs ≤ links) (few : length held ≤ 8191) where
    abbrev x : Function
    x = (element_of fs f u).element

    at : get_elem? fs f ≡ some x
    at = (element_of fs f u).is

    named : is_named y.site.callee x ≡ true
    named = c.found x at

    -- A function that the site calls has the name of f.
    same-name : (g : ℕ) (z : Function) → is_call_of z.name y ≡ true → same_name z.name x.name ≡ true
    same-name g z e =
        same_name_trans z.name y.site.callee x.name (same_name_sym z.name y.site.callee ∙ named-name y.site.callee z (sym (call-named z y) ∙ e)) (named-name y.site.callee x named)

    -- If it is the first of its name, it is f.
    only : (g : ℕ) (z : Function) → First (is_named z.name) 0 fs g → is_call_of z.name y ≡ true → g ≡ f
    only g z e t = first_one e (first_agree (is_named y.site.callee) (is_named z.name) (same-named y.site.callee z.name (named-name y.site.callee z (sym (call-named z y) ∙ t))) c)

    its_first : First (is_named x.name) 0 fs f
    its_first = first_agree (is_named y.site.callee) (is_named x.name) (same-named y.site.callee x.name (named-name y.site.callee x named)) c

    head_apart : (g : ℕ) → g < length fs → (g ≡ f → ⊥) → get_or new (heads + g) 0 ≡ get_or old (heads + g) 0
    head_apart g l n = s.others (heads + g) (λ e. n (omega (arith, e))) (λ e. omega (arith, e, l, before))

    found-head : (k : Bool) (g : ℕ) (z : Function) → get_elem? fs g ≡ some z → First (is_named z.name) 0 fs g → First (is_listed k z.name) i held (list_head k (get_or new (heads + g) 0))
    found-head k g z p e = go (eqb g f) refl
      where
        its : z ≡ x → First (is_listed k x.name) i held (list_head k (get_or new (heads + f) 0))
        its w = pick k kind plain s
          where
            pick : (k t : Bool) → t ≡ is_plain y → Pushed t old new (heads + f) (links + i) i → First (is_listed k x.name) i held (list_head k (get_or new (heads + f) 0))
            pick true true r s = subst (First (is_listed true x.name) i held) (sym s.first) (first-here (is_listed true x.name) held i y q (its_kind x.name y true r (call-named x y ∙ named)))
            pick false false r s = subst (First (is_listed false x.name) i held) (sym s.first) (first-here (is_listed false x.name) held i y q (its_kind x.name y false r (call-named x y ∙ named)))
            pick false true r s = subst (First (is_listed false x.name) i held) (sym s.other) (first_sooner (is_listed false x.name) held i y (h.head false f x at its_first) q (other-kind x.name y true r))
            pick true false r s = subst (First (is_listed true x.name) i held) (sym s.other) (first_sooner (is_listed true x.name) held i y (h.head true f x at its_first) q (other-kind x.name y false r))

        other : (g ≡ f → ⊥) → (t : Bool) → is_call_of z.name y ≡ t → First (is_listed k z.name) i held (list_head k (get_or new (heads + g) 0))
        other n true t = absurd (n (only g z e t))
        other n false t = subst (First (is_listed k z.name) i held) (sym (ap (list_head k) (head_apart g (element_below fs g p) n))) (first_sooner (is_listed k z.name) held i y (h.head k g z p e) q (no_call z.name y k t))

        go : (b : Bool) → eqb g f ≡ b → First (is_listed k z.name) i held (list_head k (get_or new (heads + g) 0))
        go true b =
            let v : g ≡ f = eqb-true g f b in
            let w : z ≡ x = same_element p (ap (λ (n : ℕ). get_elem? fs n) v ∙ at) in
            subst (λ (n : ℕ). First (is_listed k z.name) i held (list_head k (get_or new (heads + n) 0))) (sym v)
            (subst (λ (n : Function). First (is_listed k n.name) i held (list_head k (get_or new (heads + f) 0))) (sym w) (its w))
        go false b = other (eqb-false g f b) (is_call_of z.name y) refl

    pub found-heads : FirstsHeaded fs held new heads i
    found-heads = record { head = found-head }

    -- The list that the site comes before.
    list-after : First (is_listed kind x.name) (i + 1) held (list_head kind (get_or old (heads + f) 0))
    list-after = h.head kind f x at its_first

    link-value : get_or new (links + i) 0 % 8192 ≡ list_head kind (get_or old (heads + f) 0)
    link-value =
        let l : list_head kind (get_or old (heads + f) 0) < 8192 = omega (arith, list-after.within, few) in
        ap (λ (n : ℕ). n % 8192) s.next ∙ mod-eq_of_lt l

    found-next : (k : Bool) (g : ℕ) (z : Function) → get_elem? fs g ≡ some z → (j : ℕ) (v : Held) → i ≤ j → get_elem? held j ≡ some v → is_listed k z.name v ≡ true → First (is_listed k z.name) (suc j) held (get_or new (links + j) 0 % 8192)
    found-next k g z p j v l r t = go (eqb j i) refl
      where
        here : is_listed k z.name y ≡ true → First (is_listed k z.name) (suc i) held (get_or new (links + i) 0 % 8192)
        here t =
            let w : kind ≡ k = plain ∙ sym (listed-kind z.name y k t) in
            let n : same_name x.name z.name ≡ true = same_name_sym x.name z.name ∙ same-name g z (listed-call z.name y k t) in
            subst (λ (a : ℕ). First (is_listed k z.name) a held (get_or new (links + i) 0 % 8192)) (add-one i)
            (subst (First (is_listed k z.name) (i + 1) held) (sym link-value)
            (subst (λ (a : Bool). First (is_listed a z.name) (i + 1) held (list_head kind (get_or old (heads + f) 0))) w
            (first_agree (is_listed kind x.name) (is_listed kind z.name) (same_lists x.name z.name kind n) list-after)))

        go : (b : Bool) → eqb j i ≡ b → First (is_listed k z.name) (suc j) held (get_or new (links + j) 0 % 8192)
        go true b =
            let e : j ≡ i = eqb-true j i b in
            let w : v ≡ y = same_element r (ap (λ (n : ℕ). get_elem? held n) e ∙ q) in
            subst (λ (n : ℕ). First (is_listed k z.name) (suc n) held (get_or new (links + n) 0 % 8192)) (sym e) (here (sym (ap (is_listed k z.name) w) ∙ t))
        go false b =
            let n : j ≡ i → ⊥ = eqb-false j i b in
            subst (λ (a : ℕ). First (is_listed k z.name) (suc j) held (a % 8192)) (sym (s.others (links + j) (λ e. omega (arith, e, u, before)) (λ e. n (omega (arith, e)))))
            ((d.chain k g z p).next j v (omega (arith, l, n)) r t)

    pub found-links : Chained fs held new links i
    found-links = record { chain = λ k g z p. record { next = found-next k g z p } }

-- One turn: the site i is read from its entry, its callee found and its argument looked at.
module _ {b old : List ℕ} {functions calls links sites at n : ℕ} {fs : List Function} {held : List Held} (k : Columns old functions calls links sites at n) (x : Indexed b old functions calls sites at n fs held) (i : ℕ) (l : i < sites) where
  abbrev site : Element held i
  site = element_of held i (omega (arith, l, x.count))

  abbrev entry : Entry b (get_or old (calls + i) 0) site.element
  entry = x.entries.entry i site.element site.is

  plain-is : restriction_is_characterisable entry.call.argument ≡ is_plain site.element
  unfolding is_plain
  plain-is = ap restriction_is_characterisable entry.argument

  module _ (h : FirstsHeaded fs held old functions (i + 1)) (d : Chained fs held old links (i + 1)) (f : ℕ) (c : (y : CallAt (drop (get_or old (calls + i) 0 % 32768) b)) → First (is_named y.callee) 0 fs f) where
    callee : First (is_named site.element.site.callee) 0 fs f
    callee = subst (λ (v : Name). First (is_named v) 0 fs f) entry.callee (c entry.call)

    pub linked_none : functions ≤ f → FirstsHeaded fs held old functions i × Chained fs held old links i
    linked_none u =
        let e : (g : ℕ) (z : Function) → get_elem? fs g ≡ some z → is_named site.element.site.callee z ≡ false = λ g z p. callee.none g z (omega arith) (omega (arith, u, element_below fs g p, x.tabled.count)) p in
        (left-heads i h d site.element site.is e, left-links i h d site.element site.is e)

    pub linked_found : f < functions → (kind : Bool) → ((y : CallAt (drop (get_or old (calls + i) 0 % 32768) b)) → kind ≡ restriction_is_characterisable y.argument) → (new : List ℕ) → Pushed kind old new (functions + f) (links + i) i → FirstsHeaded fs held new functions i × Chained fs held new links i
    linked_found u kind q new s =
        let v : f < length fs = omega (arith, u, x.tabled.count) in
        let w : functions + length fs ≤ links = omega (arith, x.tabled.count, k.heads_fit, k.calls_fit) in
        let few : length held ≤ 8191 = omega (arith, x.count, k.few) in
        let p : kind ≡ is_plain site.element = q entry.call ∙ plain-is in
        (found-heads i h d site.element site.is f callee v kind p new s w few, found-links i h d site.element site.is f callee v kind p new s w few)
