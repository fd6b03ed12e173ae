-- Notes of sites: what a turn of the walk along a list leaves, and that the notes for one name keep those for another.
use Prim.Native.Nat.{ℕ, max, zero, suc, ◌+◌, ◌%◌, ◌<◌, ◌≤◌}
use native.Mathlib.Omega.{arith}
use mathlib.Core.Path.{◌≡◌, refl, sym, ap, ap₂, subst, fun_ext, ◌∙◌}
use mathlib.Core.Bool.{Bool, true, false, ◌&&◌, ◌||◌, not, or-true, and-eq-true_iff, true≢false}
use mathlib.Core.List.{List, [], ◌∷◌}
use mathlib.Core.Option.{some}
use borrow.Author.Tests.{ltb-true, ltb-false, lt-ltb, le-ltb, leb-true, leb-false, le-leb, eqb-true, eqb-false, ne_eqb}
use lib.Dec.{eqb, leb, ltb}
use lib.ListN.{length, get_or, get_elem?, set, take, drop, length-set}
use Rattle.std.proofs.Math.Nat.{le-max_left, le-max_right, max-le}
use lib.Seq.{get_or-set_same, get_or-set_other}
use Rattle.program.specs.Syntax.{Name, Function, Program}
use Rattle.patterns.specs.Configuration.{same_configuration}
use Rattle.meaning.specs.Lists.{any}
use Rattle.told.specs.Numbered.{Held, sites_of}
use Rattle.told.specs.Asked.{restricts}
use Rattle.told.specs.Calls.{is_listed}
use Rattle.told.specs.History.{is_there}
use Rattle.index.specs.declared.Plan.{Plan}
use Rattle.restrictions.specs.Entries.{entry_sentence}
use Rattle.index.specs.Layout.{lines, calls, links, notes, room}
use Rattle.index.specs.First.{First}
use Rattle.index.specs.Links.{entry_next, entry_class, is_repeat}
use Rattle.index.specs.Lists.{Among}
use Rattle.index.proofs.Alike.{repeat-other, repeat_self}
use Rattle.index.proofs.Calls.{same_lists}
use Rattle.index.proofs.Entries.{below_or_here}
use Rattle.index.proofs.First.{element_at, element_below, element_same, first-before}
use Rattle.cleaning.specs.Indexed.{Indexed, fell_of, OnlyRounds}
use Rattle.cleaning.proofs.Classes.{one_name}
use Rattle.cleaning.proofs.Indexed.{fell-from, only_rounds_indexed}
use Rattle.cleaning.proofs.Meeting.{here_element, here-listed, number_is}
use Rattle.report.specs.Notes.{stands_in, blocks, NotedList, Noted, NotedSite, OnlyNotes, Noting, NotesWritten}
use Rattle.report.proofs.Leaders.{none-taken, drop_element, any-taken, repeat-alike, class-one, blocks_not, next-listed}

-- ---- the later of two rounds

pub stands-there : (fell : ℕ → ℕ) (r s : ℕ) → stands_in (fell s) r ≡ is_there fell r s
unfolding stands_in is_there
stands-there fell r s = refl

stands-later : (a b r : ℕ) → (a ≡ 0 → ⊥) → a ≤ b → stands_in a r ≡ true → stands_in b r ≡ true
unfolding stands_in
stands-later a b r h l e =
    let u : leb r a ≡ true = ap (λ (t : Bool). t || leb r a) (sym (ne_eqb a 0 h)) ∙ e in
    ap (λ (t : Bool). eqb b 0 || t) (le-leb r b (omega (arith, leb-true r a u))) ∙ or-true (eqb b 0)

pub stands_never : (v r : ℕ) → v ≡ 0 → stands_in v r ≡ true
unfolding stands_in
stands_never v r e = ap (λ (n : ℕ). stands_in n r) e

pub stands_until : (v r : ℕ) → (v ≡ 0 → ⊥) → ltb v r ≡ not (stands_in v r)
unfolding stands_in
stands_until v r h = by (leb r v) refl ∙ ap (λ (t : Bool). not (t || leb r v)) (sym (ne_eqb v 0 h))
  where
    by : (t : Bool) → leb r v ≡ t → ltb v r ≡ not (leb r v)
    by true e = le-ltb v r (leb-true r v e) ∙ ap not (sym e)
    by false e = lt-ltb v r (leb-false r v e) ∙ ap not (sym e)

module _ (a b r : ℕ) where
  pub later_first_never : a ≡ 0 → stands_in 0 r ≡ (stands_in a r || stands_in b r)
  unfolding stands_in
  later_first_never e = subst (λ (n : ℕ). stands_in 0 r ≡ (stands_in n r || stands_in b r)) (sym e) refl

  pub later_second_never : b ≡ 0 → stands_in 0 r ≡ (stands_in a r || stands_in b r)
  unfolding stands_in
  later_second_never e = sym (ap (λ (n : ℕ). stands_in a r || stands_in n r) e ∙ or-true (stands_in a r))

  later_second : (a ≡ 0 → ⊥) → a < b → stands_in b r ≡ (stands_in a r || stands_in b r)
  later_second h l = by (stands_in a r) (stands_in b r) (stands-later a b r h (omega arith))
    where
      by : (s t : Bool) → (s ≡ true → t ≡ true) → t ≡ (s || t)
      by true t g = g refl
      by false t g = refl

  later_first : (b ≡ 0 → ⊥) → b ≤ a → stands_in a r ≡ (stands_in a r || stands_in b r)
  later_first h l = by (stands_in a r) (stands_in b r) (stands-later b a r h l)
    where
      by : (s t : Bool) → (t ≡ true → s ≡ true) → s ≡ (s || t)
      by true t g = refl
      by false true g = g refl
      by false false g = refl

  -- Of two that fell, the later.
  pub later_most : (a ≡ 0 → ⊥) → (b ≡ 0 → ⊥) → stands_in (max a b) r ≡ (stands_in a r || stands_in b r)
  later_most g h = by (ltb a b) refl
    where
      by : (t : Bool) → ltb a b ≡ t → stands_in (max a b) r ≡ (stands_in a r || stands_in b r)
      by true e =
          let l = ltb-true a b e in
          let m : max a b ≤ b = max-le (omega (arith, l)) (omega arith) in
          let q : max a b ≡ b = omega (arith, m, le-max_right a b) in
          ap (λ (v : ℕ). stands_in v r) q ∙ later_second g l
      by false e =
          let l = ltb-false a b e in
          let m : max a b ≤ a = max-le (omega arith) l in
          let q : max a b ≡ a = omega (arith, m, le-max_left a b) in
          ap (λ (v : ℕ). stands_in v r) q ∙ later_first h l

-- ---- the notes of one site, where they begin at n

module _ (p : Plan) (m : List ℕ) (n i : ℕ) (begin : n ≡ notes p) (below : n + i < length m) where
  pub noted-first : {c c' k k' : ℕ} → c ≡ c' → k ≡ k' → i ≤ c → NotedSite p m (set m (n + i) k) i c' k'
  noted-first {c} {c'} {k} {k'} e d h = record {
    length = length-set m (n + i) k;
    others = λ a u v. get_or-set_other m (n + i) a k 0 (λ q. u (omega (arith, q, begin)));
    first = λ l. ap (λ (a : ℕ). get_or (set m (n + i) k) (a + i) 0) (sym begin) ∙ (get_or-set_same m (n + i) k 0 below ∙ d);
    repeat = λ l. absurd (omega (arith, e, h, l));
    joined = λ l r. absurd (omega (arith, e, h, l));
  }

  pub noted-repeat : {c c' k k' : ℕ} → c ≡ c' → k ≡ k' → c < i → (v : ℕ) → ((r : ℕ) → stands_in v r ≡ (stands_in (get_or m (n + c) 0) r || stands_in k r)) → NotedSite p m (set (set m (n + i) (get_or m (n + c) 0)) (n + c) v) i c' k'
  noted-repeat {c} {c'} {k} {k'} e d h v law =
      let one = set m (n + i) (get_or m (n + c) 0) in
      let size : length one ≡ length m = length-set m (n + i) (get_or m (n + c) 0) in
      let at : n + c ≡ notes p + c' = omega (arith, begin, e) in
      record {
        length = length-set one (n + c) v ∙ size;
        others = λ a u w. get_or-set_other one (n + c) a v 0 (λ q. w (q ∙ at)) ∙ get_or-set_other m (n + i) a (get_or m (n + c) 0) 0 (λ q. u (omega (arith, q, begin)));
        first = λ l. absurd (omega (arith, e, h, l));
        repeat = λ l.
            ap (λ (a : ℕ). get_or (set one (n + c) v) (a + i) 0) (sym begin)
            ∙ (get_or-set_other one (n + c) (n + i) v 0 (λ q. omega (arith, q, h)) ∙ (get_or-set_same m (n + i) (get_or m (n + c) 0) 0 below ∙ ap (λ (a : ℕ). get_or m a 0) at));
        joined = λ l r.
            ap (λ (a : ℕ). stands_in (get_or (set one (n + c) v) a 0) r) (sym at)
            ∙ (ap (λ (a : ℕ). stands_in a r) (get_or-set_same one (n + c) v 0 (omega (arith, size, below, h)))
            ∙ (law r ∙ ap₂ (λ (a b : ℕ). stands_in (get_or m a 0) r || stands_in b r) at d));
      }

-- ---- what stands before a place, from one site of a list to the next

any_over : {A : Type 0} (test : A → Bool) (l : List A) (a n : ℕ) → a ≤ n → ((k : ℕ) (x : A) → a ≤ k → k < n → get_elem? l k ≡ some x → test x ≡ false) → any test (take n l) ≡ any test (take a l)
unfolding any
any_over test [] zero zero h f = refl
any_over test [] zero (suc n) h f = refl
any_over test [] (suc a) zero h f = refl
any_over test [] (suc a) (suc n) h f = refl
any_over test (x ∷ l) zero n h f = none-taken test (x ∷ l) n (λ j y u e. f j y (omega arith) u e)
any_over test (x ∷ l) (suc a) zero h f = absurd (omega arith)
any_over test (x ∷ l) (suc a) (suc n) h f = ap (λ (u : Bool). test x || u) (any_over test l a n (omega arith) (λ k y u v e. f (suc k) y (omega arith) (omega arith) e))

any_next : {A : Type 0} (listed test : A → Bool) → ((x : A) → listed x ≡ false → test x ≡ false) → (l : List A) (j n : ℕ) (y : A) → get_elem? l j ≡ some y → First listed (suc j) l n → any test (take n l) ≡ (test y || any test (take j l))
any_next listed test less l j n y e g =
    any_over test l (suc j) n g.later (λ k x u v q. less x (g.none k x u v q)) ∙ (any-taken test l j y (drop (suc j) l) (drop_element l j y e)).0

-- ---- repeats by their class

blocks-repeat : (keep : ℕ → Bool) (f : Name) (y u : Held) → blocks keep f y u ≡ (keep u.sentence && is_repeat f y u)
unfolding is_repeat restricts
blocks-repeat keep f y u = by (keep u.sentence) (is_listed true f u) (same_configuration u.site.argument y.site.argument)
  where
    by : (k l s : Bool) → ((k && l) && s) ≡ (k && (l && s))
    by true l s = refl
    by false l s = refl

blocks_unlisted : (keep : ℕ → Bool) (f : Name) (y u : Held) → is_listed true f u ≡ false → blocks keep f y u ≡ false
unfolding restricts
blocks_unlisted keep f y u e = by (keep u.sentence) (is_listed true f u) (same_configuration u.site.argument y.site.argument) e
  where
    by : (k l s : Bool) → l ≡ false → ((k && l) && s) ≡ false
    by true true s h = let z : ◌≡◌ {A = ℕ} 0 1 = cc in absurd (omega arith)
    by true false s h = refl
    by false l s h = refl

-- ---- what the notes of a list leave alone

module _ {f : Name} {sites : List Held} {old new : List ℕ} {p : Plan} (o : OnlyNotes f sites old new p) where
  pub notes-columns : (k : ℕ) → k < notes p → get_or new k 0 ≡ get_or old k 0
  notes-columns k h = o.others k (λ i y a q. omega (arith, q, h))

  pub notes-fell : fell_of p new ≡ fell_of p old
  notes-fell = fell-from p old new (λ s l. notes-columns (lines p + s) (omega arith))

  -- A site that is not one of f.
  pub note-kept : (i : ℕ) (y : Held) → get_elem? sites i ≡ some y → is_listed true f y ≡ false → get_or new (notes p + i) 0 ≡ get_or old (notes p + i) 0
  note-kept i y e h =
      o.others (notes p + i) (λ j z a q.
      let d : i ≡ j = omega arith in
      let u : z ≡ y = element_same sites j z y a.is (subst (λ (n : ℕ). get_elem? sites n ≡ some y) d e) in
      true≢false (sym a.listed ∙ (ap (is_listed true f) u ∙ h)))

only-rounds : {p : Plan} {old new : List ℕ} → length new ≡ length old → ((k : ℕ) → k < notes p → get_or new k 0 ≡ get_or old k 0) → OnlyRounds p old new
only-rounds {p} e h = record {
  length = e;
  before = λ k l. h k (omega (arith, l));
  after = λ k l i. h k i;
  place = λ s l. ap (λ (n : ℕ). n % 32768) (h (lines p + s) (omega (arith, l)));
}

pub notes-indexed : {b : List ℕ} {w : Program} {f : Name} {sites : List Held} {old new : List ℕ} {p : Plan} → OnlyNotes f sites old new p → Indexed b w old p → Indexed b w new p
notes-indexed o d = only_rounds_indexed (only-rounds o.length (notes-columns o)) d

pub written-only : {w : Program} {old new : List ℕ} {p : Plan} {n : ℕ} → NotesWritten w old new p n → OnlyRounds p old new
written-only k = only-rounds k.length k.before

-- ---- the walk along the list of a function

module _ {b : List ℕ} {w : Program} {old : List ℕ} {p : Plan} (d : Indexed b w old p) (f : ℕ) (x : Function) (e : get_elem? w.functions f ≡ some x) where
  abbrev class : ℕ → ℕ
  class i = entry_class (get_or old (links p + i) 0)

  abbrev keep : ℕ → ℕ → Bool
  keep r = is_there (fell_of p old) r

  classed : (i : ℕ) (y : Held) → Among x.name (sites_of w) i y → First (is_repeat x.name y) 0 (sites_of w) (class i)
  classed i y a = (d.classed f x e).class i y a.is a.listed

  class-upto : (i : ℕ) (y : Held) → Among x.name (sites_of w) i y → class i ≤ i
  class-upto i y a = first-before (classed i y a) (omega arith) a.is (repeat_self x.name y a.listed)

  -- The first of the class of a site.
  record Head (i : ℕ) (y : Held) : Type 0 where
    pub site : Held
    pub among : Among x.name (sites_of w) (class i) site
    pub alike : same_configuration site.site.argument y.site.argument ≡ true

  class-head : (i : ℕ) (y : Held) → Among x.name (sites_of w) i y → Head i y
  unfolding is_repeat
  class-head i y a =
      let z = element_at (sites_of w) (class i) (omega (arith, class-upto i y a, element_below (sites_of w) i y a.is)) in
      let q = (and-eq-true_iff (is_listed true x.name z.element) (same_configuration z.element.site.argument y.site.argument)).0 ((classed i y a).found z.element z.is) in
      record { site = z.element; among = record { is = z.is; listed = q.0 }; alike = q.1 }

  class_same : (i j : ℕ) (y z : Held) → Among x.name (sites_of w) i y → Among x.name (sites_of w) j z → same_configuration z.site.argument y.site.argument ≡ true → class j ≡ class i
  class_same i j y z a c h = class-one x.name z y c.listed (sites_of w) (class j) (class i) (classed j z c) (classed i y a) h

  pub noting_start : (head : ℕ) → First (is_listed true x.name) 0 (sites_of w) head → Noting x.name (sites_of w) old old p head
  noting_start head h = record {
    on = record { within = h.within; listed = h.found };
    only = record { length = refl; others = λ k u. refl };
    earlier = λ i y l a v r. absurd (true≢false (sym a.listed ∙ h.none i y (omega arith) l a.is));
    first = λ i y l a v r. absurd (true≢false (sym a.listed ∙ h.none i y (omega arith) l a.is));
  }

  module _ {new next : List ℕ} {j n : ℕ} (g : Noting x.name (sites_of w) old new p j) (y : Held) (a : Among x.name (sites_of w) j y) (s : NotedSite p new next j (class j) (fell_of p old y.sentence)) (o : First (is_listed true x.name) (suc j) (sites_of w) n) where
    head : Head j y
    head = class-head j y a

    -- The first of a class is its own first.
    head-itself : class (class j) ≡ class j
    head-itself = class_same j (class j) y head.site a head.among head.alike

    -- What has the argument of one has that of the other.
    blocks-alike : (r : ℕ) (u : Held) → blocks (keep r) x.name head.site u ≡ blocks (keep r) x.name y u
    blocks-alike r u =
        blocks-repeat (keep r) x.name head.site u
        ∙ (ap (λ (t : Bool). keep r u.sentence && t) (repeat-alike x.name head.site y head.among.listed head.alike u) ∙ sym (blocks-repeat (keep r) x.name y u))

    blocks_self : (r : ℕ) → blocks (keep r) x.name y y ≡ keep r y.sentence
    blocks_self r = blocks-repeat (keep r) x.name y y ∙ (ap (λ (t : Bool). keep r y.sentence && t) (repeat_self x.name y a.listed) ∙ and_true (keep r y.sentence))
      where
        and_true : (t : Bool) → (t && true) ≡ t
        and_true true = refl
        and_true false = refl

    after : (r : ℕ) (z : Held) → any (blocks (keep r) x.name z) (take n (sites_of w)) ≡ (blocks (keep r) x.name z y || any (blocks (keep r) x.name z) (take j (sites_of w)))
    after r z = any_next (is_listed true x.name) (blocks (keep r) x.name z) (blocks_unlisted (keep r) x.name z) (sites_of w) j n y a.is o

    -- The site itself, if it repeats an earlier one.
    earlier-here : class j < j → (r : ℕ) → stands_in (get_or next (notes p + j) 0) r ≡ any (blocks (keep r) x.name y) (take j (sites_of w))
    earlier-here v r =
        ap (λ (k : ℕ). stands_in k r) (s.repeat v)
        ∙ (g.first (class j) head.site v head.among head-itself r ∙ ap (λ (t : Held → Bool). any t (take j (sites_of w))) (fun_ext (blocks-alike r)))

    -- The first of its class has it too.
    first-joined : class j < j → (r : ℕ) → stands_in (get_or next (notes p + class j) 0) r ≡ any (blocks (keep r) x.name head.site) (take n (sites_of w))
    first-joined v r =
        s.joined v r
        ∙ (ap₂ (λ (t u : Bool). t || u) (g.first (class j) head.site v head.among head-itself r) (stands-there (fell_of p old) r y.sentence ∙ sym (blocks-alike r y ∙ blocks_self r))
        ∙ (turned (any (blocks (keep r) x.name head.site) (take j (sites_of w))) (blocks (keep r) x.name head.site y) ∙ sym (after r head.site)))
      where
        turned : (t u : Bool) → (t || u) ≡ (u || t)
        turned true true = refl
        turned true false = refl
        turned false true = refl
        turned false false = refl

    -- The site itself, if it is the first of its class.
    first-here : class j ≡ j → (r : ℕ) → stands_in (get_or next (notes p + j) 0) r ≡ any (blocks (keep r) x.name y) (take n (sites_of w))
    first-here v r =
        ap (λ (k : ℕ). stands_in k r) (s.first (omega (arith, v)))
        ∙ (stands-there (fell_of p old) r y.sentence
        ∙ (sym (blocks_self r)
        ∙ (or-none (blocks (keep r) x.name y y) (any (blocks (keep r) x.name y) (take j (sites_of w)))
        (none-taken (blocks (keep r) x.name y) (sites_of w) j (λ k u l q. blocks_not (keep r) x.name y u ((classed j y a).none k u (omega arith) (omega (arith, l, v)) q)))
        ∙ sym (after r y))))
      where
        or-none : (t u : Bool) → u ≡ false → t ≡ (t || u)
        or-none true u h = refl
        or-none false u h = sym h

    -- The first of another class does not have it.
    first-other : (i : ℕ) (z : Held) → Among x.name (sites_of w) i z → class i ≡ i → (i ≡ class j → ⊥) → (r : ℕ) → any (blocks (keep r) x.name z) (take n (sites_of w)) ≡ any (blocks (keep r) x.name z) (take j (sites_of w))
    first-other i z c v h r =
        after r z ∙ ap (λ (t : Bool). t || any (blocks (keep r) x.name z) (take j (sites_of w))) (blocks_not (keep r) x.name z y (repeat-other x.name z y (by (same_configuration y.site.argument z.site.argument) refl)))
      where
        by : (t : Bool) → same_configuration y.site.argument z.site.argument ≡ t → same_configuration y.site.argument z.site.argument ≡ false
        by true q = absurd (h (sym v ∙ sym (class_same i j z y c a q)))
        by false q = q

    kept : (i : ℕ) → i < j → (i ≡ class j → ⊥) → get_or next (notes p + i) 0 ≡ get_or new (notes p + i) 0
    kept i l h = s.others (notes p + i) (λ q. omega (arith, q, l)) (λ q. h (omega (arith, q)))

    past : (i : ℕ) (z : Held) → Among x.name (sites_of w) i z → i < n → ltb i j ≡ false → eqb i j ≡ false → ⊥
    past i z c l u v =
        true≢false (sym c.listed ∙ o.none i z (after-here (ltb-false i j u) (eqb-false i j v)) l c.is)
      where
        after-here : j ≤ i → (i ≡ j → ⊥) → suc j ≤ i
        after-here q t = by (ltb j i) refl
          where
            by : (h : Bool) → ltb j i ≡ h → suc j ≤ i
            by true k = omega (arith, ltb-true j i k)
            by false k = absurd (t (omega (arith, q, ltb-false j i k)))

    same-site : (i : ℕ) (z : Held) → Among x.name (sites_of w) i z → (k : ℕ) (u : Held) → Among x.name (sites_of w) k u → i ≡ k → u ≡ z
    same-site i z c k u v q = element_same (sites_of w) i u z (subst (λ (m : ℕ). get_elem? (sites_of w) m ≡ some u) (sym q) v.is) c.is

    earlier-after : (i : ℕ) (z : Held) → i < n → Among x.name (sites_of w) i z → class i < i → (r : ℕ) → stands_in (get_or next (notes p + i) 0) r ≡ any (blocks (keep r) x.name z) (take i (sites_of w))
    earlier-after i z l c v r = by (ltb i j) (eqb i j) refl refl
      where
        by : (t u : Bool) → ltb i j ≡ t → eqb i j ≡ u → stands_in (get_or next (notes p + i) 0) r ≡ any (blocks (keep r) x.name z) (take i (sites_of w))
        by true u q k =
            ap (λ (m : ℕ). stands_in m r) (kept i (ltb-true i j q) (λ h. omega (arith, v, ap class h ∙ (head-itself ∙ sym h)))) ∙ g.earlier i z (ltb-true i j q) c v r
        by false true q k =
            let h = eqb-true i j k in
            let m : y ≡ z = same-site i z c j y a h in
            subst (λ (o : ℕ). stands_in (get_or next (notes p + o) 0) r ≡ any (blocks (keep r) x.name z) (take o (sites_of w))) (sym h)
            (subst (λ (o : Held). stands_in (get_or next (notes p + j) 0) r ≡ any (blocks (keep r) x.name o) (take j (sites_of w))) m
            (earlier-here (subst (λ (o : ℕ). class o < o) h v) r))
        by false false q k = absurd (past i z c l q k)

    first-after : (i : ℕ) (z : Held) → i < n → Among x.name (sites_of w) i z → class i ≡ i → (r : ℕ) → stands_in (get_or next (notes p + i) 0) r ≡ any (blocks (keep r) x.name z) (take n (sites_of w))
    first-after i z l c v r = by (ltb i j) (eqb i j) (eqb i (class j)) refl refl refl
      where
        by : (t u o : Bool) → ltb i j ≡ t → eqb i j ≡ u → eqb i (class j) ≡ o → stands_in (get_or next (notes p + i) 0) r ≡ any (blocks (keep r) x.name z) (take n (sites_of w))
        by true u true q k o =
            let h = eqb-true i (class j) o in
            let m : head.site ≡ z = same-site i z c (class j) head.site head.among h in
            subst (λ (a : ℕ). stands_in (get_or next (notes p + a) 0) r ≡ any (blocks (keep r) x.name z) (take n (sites_of w))) (sym h)
            (subst (λ (a : Held). stands_in (get_or next (notes p + class j) 0) r ≡ any (blocks (keep r) x.name a) (take n (sites_of w))) m
            (first-joined (omega (arith, h, ltb-true i j q)) r))
        by true u false q k o =
            ap (λ (m : ℕ). stands_in m r) (kept i (ltb-true i j q) (eqb-false i (class j) o)) ∙ (g.first i z (ltb-true i j q) c v r ∙ sym (first-other i z c v (eqb-false i (class j) o) r))
        by false true o q k t =
            let h = eqb-true i j k in
            let m : y ≡ z = same-site i z c j y a h in
            subst (λ (a : ℕ). stands_in (get_or next (notes p + a) 0) r ≡ any (blocks (keep r) x.name z) (take n (sites_of w))) (sym h)
            (subst (λ (a : Held). stands_in (get_or next (notes p + j) 0) r ≡ any (blocks (keep r) x.name a) (take n (sites_of w))) m
            (first-here (subst (λ (a : ℕ). class a ≡ a) h v) r))
        by false false o q k t = absurd (past i z c l q k)

    pub noting_next : Noting x.name (sites_of w) old next p n
    noting_next = record {
      on = record { within = o.within; listed = o.found };
      only = record {
        length = s.length ∙ g.only.length;
        others = λ k u. s.others k (λ q. u j y a q) (λ q. u (class j) head.site head.among q) ∙ g.only.others k u;
      };
      earlier = earlier-after;
      first = first-after;
    }

  -- A turn of the walk: the site j is noted, and n is the next of the list, whose links stand from `from` on.
  module _ {new next : List ℕ} {j : ℕ} (g : Noting x.name (sites_of w) old new p j) (h : j < p.sites) (s : NotedSite p new next j (entry_class (get_or new (links p + j) 0)) (fell_of p new (entry_sentence (get_or new (calls p + j) 0)))) where
    turn-class : entry_class (get_or new (links p + j) 0) ≡ class j
    turn-class = ap entry_class (notes-columns g.only (links p + j) (omega arith))

    turn-fell : (y : Held) → get_elem? (sites_of w) j ≡ some y → fell_of p new (entry_sentence (get_or new (calls p + j) 0)) ≡ fell_of p old y.sentence
    turn-fell y q =
        ap (λ (t : ℕ → ℕ). t (entry_sentence (get_or new (calls p + j) 0))) (notes-fell g.only)
        ∙ (ap (λ (k : ℕ). fell_of p old (entry_sentence k)) (notes-columns g.only (calls p + j) (omega arith)) ∙ ap (fell_of p old) (number_is d f x e j y q))

    turn-next : (from n : ℕ) → from ≡ links p → n ≡ entry_next (get_or next (from + j) 0) → First (is_listed true x.name) (suc j) (sites_of w) n
    turn-next from n z q =
        next-listed d f x e j g.on h n
        (q
        ∙ (ap (λ (k : ℕ). entry_next (get_or next (k + j) 0)) z
        ∙ ap entry_next (s.others (links p + j) (λ t. omega (arith, t)) (λ t. omega (arith, t)) ∙ notes-columns g.only (links p + j) (omega arith))))

    pub noting_turn : (from n : ℕ) → from ≡ links p → n ≡ entry_next (get_or next (from + j) 0) → Noting x.name (sites_of w) old next p n × (j < n)
    noting_turn from n z q =
        let y = here_element d f x e j g.on h in
        let o = turn-next from n z q in (
          noting_next g y.element (record { is = y.is; listed = here-listed d f x e j g.on h })
              (subst (λ (c : ℕ). NotedSite p new next j c (fell_of p old y.element.sentence)) turn-class (subst (λ (k : ℕ). NotedSite p new next j (entry_class (get_or new (links p + j) 0)) k) (turn-fell y.element y.is) s)) o,
          omega (arith, o.later),
        )

  -- At the end of the list all of its sites are noted.
  pub noting_end : {new : List ℕ} {j : ℕ} → Noting x.name (sites_of w) old new p j → p.sites ≤ j → NotedList x.name (sites_of w) new p
  noting_end {new} {j} g h = record {
    earlier = λ i y a v r.
        let l = element_below (sites_of w) i y a.is in
        let q = notes-columns g.only (links p + i) (omega (arith, l, d.sites)) in
        g.earlier i y (omega (arith, l, h, d.sites)) a (omega (arith, v, q)) r ∙ ap (λ (t : ℕ → ℕ). any (blocks (is_there t r) x.name y) (take i (sites_of w))) (sym (notes-fell g.only));
  }

-- ---- one function after another: those of one name have one list, others share no site

blocks-named : (keep : ℕ → Bool) (f g : Name) (y : Held) → ((z : Held) → is_listed true f z ≡ is_listed true g z) → (z : Held) → blocks keep f y z ≡ blocks keep g y z
unfolding restricts
blocks-named keep f g y h z = ap (λ (t : Bool). (keep z.sentence && t) && same_configuration z.site.argument y.site.argument) (h z)

noted-kept : (f g : Name) (sites : List Held) (old new : List ℕ) (p : Plan) → length sites ≡ p.sites → NotedList f sites new p → OnlyNotes f sites old new p → NotedList g sites old p → NotedList g sites new p
noted-kept f g sites old new p count n o k = record { earlier = λ i y a v r. by i y a v r (is_listed true f y) refl }
  where
    by : (i : ℕ) (y : Held) → Among g sites i y → entry_class (get_or new (links p + i) 0) < i → (r : ℕ) (t : Bool) → is_listed true f y ≡ t → stands_in (get_or new (notes p + i) 0) r ≡ any (blocks (is_there (fell_of p new) r) g y) (take i sites)
    by i y a v r true h =
        n.earlier i y (record { is = a.is; listed = h }) v r
        ∙ ap (λ (t : Held → Bool). any t (take i sites)) (fun_ext (blocks-named (is_there (fell_of p new) r) f g y (same_lists f g true (one_name f g y h a.listed))))
    by i y a v r false h =
        let q = notes-columns o (links p + i) (omega (arith, count, element_below sites i y a.is)) in
        ap (λ (m : ℕ). stands_in m r) (note-kept o i y a.is h)
        ∙ (k.earlier i y a (omega (arith, v, q)) r ∙ ap (λ (t : ℕ → ℕ). any (blocks (is_there t r) g y) (take i sites)) (sym (notes-fell o)))

pub notes-none : (w : Program) (m : List ℕ) (p : Plan) → NotesWritten w m m p 0
notes-none w m p = record { length = refl; before = λ k h. refl; noted = λ f x h e. absurd (omega arith) }

pub notes-next : {b : List ℕ} {w : Program} {old new next : List ℕ} {p : Plan} {f : ℕ} → Indexed b w old p → NotesWritten w old new p f → (x : Function) → get_elem? w.functions f ≡ some x → NotedList x.name (sites_of w) next p × OnlyNotes x.name (sites_of w) new next p → NotesWritten w old next p (f + 1)
notes-next {b} {w} {old} {new} {next} {p} {f} d k x e n = record {
  length = n.1.length ∙ k.length;
  before = λ j h. notes-columns n.1 j h ∙ k.before j h;
  noted = λ g y h q.
      below_or_here (λ (m : ℕ). NotedList y.name (sites_of w) next p) g f
      (λ u. noted-kept x.name y.name (sites_of w) new next p d.sites n.0 n.1 (k.noted g y u q))
      (λ u. subst (λ (v : Function). NotedList v.name (sites_of w) next p) (element_same w.functions f x y e (subst (λ (m : ℕ). get_elem? w.functions m ≡ some y) u q)) n.0)
      h;
}

-- ---- notes among entries that are the same

pub noted-same : {p : Plan} (old new : List ℕ) (w : Program) → length (sites_of w) ≡ p.sites → fell_of p new ≡ fell_of p old → ((k : ℕ) → links p ≤ k → k < room p → get_or new k 0 ≡ get_or old k 0) → Noted w old p → Noted w new p
noted-same {p} old new w c e h n = record {
  list = λ f x z. record {
    earlier = λ i y a v r.
        let l : i < p.sites = omega (arith, c, element_below (sites_of w) i y a.is) in
        let q = h (links p + i) (omega arith) (omega arith) in
        ap (λ (k : ℕ). stands_in k r) (h (notes p + i) (omega arith) (omega arith))
        ∙ ((n.list f x z).earlier i y a (omega (arith, v, q)) r ∙ ap (λ (t : ℕ → ℕ). any (blocks (is_there t r) x.name y) (take i (sites_of w))) (sym e));
  };
}
