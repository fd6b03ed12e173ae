-- The kept marks of the sentences that never fell: marks are a part of work.
use Prim.Native.Nat.{ℕ, ◌+◌, ◌-◌, ◌*◌, ◌/◌, ◌%◌, ◌≤◌, ◌<◌}
use native.Mathlib.Omega.{arith}
use mathlib.Core.Path.{◌≡◌, refl, sym, ap, subst, ◌∙◌}
use mathlib.Core.Bool.{Bool, true, false, ◌&&◌, ◌||◌, not, cond}
use mathlib.Core.List.{List, ◌++◌}
use lib.Dec.{eqb, ltb}
use lib.ListN.{length, get_or, take, drop, get_or-append}
use lib.Seq.{take_at, drop_at, get_or-take, get_or-drop, get_or-append-add, length-take-le}
use borrow.Author.Tests.{eqb-true, eqb-false, eq-eqb, ne_eqb, ltb-true, ltb-false, lt-ltb, le-ltb}
use borrow.Rule.Slice.PartMut.{mid_of, post_of, put_mid, same_len_mid, mid_len}
use Rattle.index.specs.declared.Plan.{Plan}
use Rattle.index.specs.Layout.{lines, marks, calls, room}
use Rattle.index.specs.Tables.{Apart}
use Rattle.told.specs.Kept.{is_kept}
use Rattle.cleaning.specs.Indexed.{fell_of}

-- A part of a list put back in its place: the part is what was put, and all else is as it was.
module _ (old ys : List ℕ) (from end : ℕ) (h : from ≤ end) (k : end ≤ length old) (n : length ys ≡ length (mid_of from (end - from) old)) where
  head : length (take from old) ≡ from
  head = length-take-le from old (omega (arith, h, k))

  size : length ys ≡ end - from
  size = n ∙ mid_len from end old k

  pub part_back : take (end - from) (drop from (put_mid from (end - from) old ys)) ≡ ys
  part_back =
      ap (λ (l : List ℕ). take (end - from) l) (drop_at (take from old) (ys ++ post_of from (end - from) old) from head)
      ∙ take_at ys (post_of from (end - from) old) (end - from) size

  beyond : (j : ℕ) → end ≤ j → get_or (put_mid from (end - from) old ys) j 0 ≡ get_or old j 0
  beyond j u =
      let d = j - end in
      let a : length (take from old) + (length ys + d) ≡ j = omega (arith, head, size, h, u) in
      let b : from + ((end - from) + d) ≡ j = omega (arith, h, u) in
      ap (λ (i : ℕ). get_or (put_mid from (end - from) old ys) i 0) (sym a)
      ∙ (get_or-append-add (take from old) (ys ++ post_of from (end - from) old) (length ys + d) 0
      ∙ (get_or-append-add ys (post_of from (end - from) old) d 0
      ∙ (get_or-drop (end - from) (drop from old) d 0
      ∙ (get_or-drop from old ((end - from) + d) 0
      ∙ ap (λ (i : ℕ). get_or old i 0) b))))

  pub apart_back : Apart old (put_mid from (end - from) old ys) from end
  apart_back = record {
    length = same_len_mid from (end - from) old ys n;
    before = λ j u. get_or-append (take from old) (ys ++ post_of from (end - from) old) 0 j (omega (arith, head, u)) ∙ get_or-take from old j 0 u;
    after = λ j u. beyond j (omega (arith, u));
  }

pub apart_then : {a b c : List ℕ} {from end : ℕ} → Apart a b from end → Apart b c from end → Apart a c from end
apart_then x y = record { length = y.length ∙ x.length; before = λ k l. y.before k l ∙ x.before k l; after = λ k l. y.after k l ∙ x.after k l }

-- The part of work with the marks.
abbrev pub marked : Plan → List ℕ → List ℕ
marked p m = take (calls p - marks p) (drop (marks p) m)

-- Rounds stand below the marks.
pub fell-apart : (p : Plan) (old new : List ℕ) → Apart old new (marks p) (calls p) → (s : ℕ) → fell_of p new s ≡ fell_of p old s
unfolding fell_of
fell-apart p old new a s = by (ltb s p.sentences) refl
  where
    by : (t : Bool) → ltb s p.sentences ≡ t → cond t (get_or new (lines p + s) 0 / 32768 % 4096) 0 ≡ cond t (get_or old (lines p + s) 0 / 32768 % 4096) 0
    by true e = ap (λ (v : ℕ). v / 32768 % 4096) (a.before (lines p + s) (omega (arith, ltb-true s p.sentences e)))
    by false e = refl

-- The same for the place that code has computed.
module _ (p : Plan) (old ys : List ℕ) (from end : ℕ) (a : from ≡ marks p) (b : end ≡ calls p) (k : calls p ≤ length old) (n : length ys ≡ length (mid_of from (end - from) old)) where
  in_order : from ≤ end
  in_order = omega (arith, a, b)

  pub marked_back : marked p (put_mid from (end - from) old ys) ≡ ys
  marked_back =
      subst (λ (z : ℕ). take (calls p - z) (drop z (put_mid from (end - from) old ys)) ≡ ys) a
      (subst (λ (z : ℕ). take (z - from) (drop from (put_mid from (end - from) old ys)) ≡ ys) b
      (part_back old ys from end in_order (omega (arith, b, k)) n))

  pub marks-apart : Apart old (put_mid from (end - from) old ys) (marks p) (calls p)
  marks-apart =
      subst (λ (z : ℕ). Apart old (put_mid from (end - from) old ys) z (calls p)) a
      (subst (λ (z : ℕ). Apart old (put_mid from (end - from) old ys) from z) b
      (apart_back old ys from end in_order (omega (arith, b, k)) n))

  pub marked-lent : mid_of from (end - from) old ≡ marked p old
  marked-lent = ap (λ (z : ℕ). take (end - z) (drop z old)) a ∙ ap (λ (z : ℕ). take (z - marks p) (drop (marks p) old)) b

-- What one sentence's turn leaves.
abbrev pub Turned : Plan → List ℕ → List ℕ → ℕ → Type 0
Turned p old new s = (is_kept (marked p new) s ≡ (is_kept (marked p old) s && eqb (fell_of p old s) 0)) × ((j : ℕ) → (j ≡ s → ⊥) → is_kept (marked p new) j ≡ is_kept (marked p old) j) × Apart old new (marks p) (calls p)

and_false : (t : Bool) → (t && false) ≡ false
and_false true = refl
and_false false = refl

and_true : (t : Bool) → (t && true) ≡ t
and_true true = refl
and_true false = refl

pub turn-fell : (p : Plan) (old ys : List ℕ) (from end s : ℕ) → from ≡ marks p → end ≡ calls p → calls p ≤ length old → length ys ≡ length (mid_of from (end - from) old)
    → is_kept ys s ≡ false → ((j : ℕ) → (j ≡ s → ⊥) → is_kept ys j ≡ is_kept (mid_of from (end - from) old) j) → (fell_of p old s ≡ 0 → ⊥) → Turned p old (put_mid from (end - from) old ys) s
turn-fell p old ys from end s a b k n off other z = (
  ap (λ (l : List ℕ). is_kept l s) (marked_back p old ys from end a b k n) ∙ (off ∙ sym (ap (λ (t : Bool). is_kept (marked p old) s && t) (ne_eqb (fell_of p old s) 0 z) ∙ and_false (is_kept (marked p old) s))),
  λ j u. ap (λ (l : List ℕ). is_kept l j) (marked_back p old ys from end a b k n) ∙ (other j u ∙ ap (λ (l : List ℕ). is_kept l j) (marked-lent p old ys from end a b k n)),
  marks-apart p old ys from end a b k n,
)

pub turn_stays : (p : Plan) (old : List ℕ) (s : ℕ) → fell_of p old s ≡ 0 → Turned p old old s
turn_stays p old s z = (
  sym (ap (λ (t : Bool). is_kept (marked p old) s && t) (eq-eqb (fell_of p old s) 0 z) ∙ and_true (is_kept (marked p old) s)),
  λ j u. refl,
  record { length = refl; before = λ k l. refl; after = λ k l. refl },
)

-- The marks when the sentences below s have been looked at.
abbrev pub left_to : ℕ → (ℕ → ℕ) → ℕ → ℕ → Bool
left_to n fell s j = ltb j n && (not (ltb j s) || eqb (fell j) 0)

pub left-none : (n : ℕ) (fell : ℕ → ℕ) (j : ℕ) → ltb j n ≡ left_to n fell 0 j
left-none n fell j = sym (ap (λ (t : Bool). ltb j n && (not t || eqb (fell j) 0)) (le-ltb j 0 (omega arith)) ∙ and_true (ltb j n))

pub left-all : (n : ℕ) (fell : ℕ → ℕ) (j : ℕ) → left_to n fell n j ≡ (ltb j n && eqb (fell j) 0)
left-all n fell j = by (ltb j n)
  where
    by : (t : Bool) → (t && (not t || eqb (fell j) 0)) ≡ (t && eqb (fell j) 0)
    by true = refl
    by false = refl

ltb_next : (j s : ℕ) → (j ≡ s → ⊥) → ltb j s ≡ ltb j (s + 1)
ltb_next j s n = by (ltb j s) refl
  where
    by : (t : Bool) → ltb j s ≡ t → t ≡ ltb j (s + 1)
    by true e = sym (lt-ltb j (s + 1) (omega (arith, ltb-true j s e)))
    by false e = sym (le-ltb j (s + 1) (omega (arith, ltb-false j s e, n)))

pub left-turn : (p : Plan) (start old new : List ℕ) (s : ℕ) → s < p.sentences → Apart start old (marks p) (calls p) → ((j : ℕ) → is_kept (marked p old) j ≡ left_to p.sentences (fell_of p start) s j) → Turned p old new s
    → (j : ℕ) → is_kept (marked p new) j ≡ left_to p.sentences (fell_of p start) (s + 1) j
left-turn p start old new s l a h t j = by (eqb j s) refl
  where
    here : is_kept (marked p new) s ≡ left_to p.sentences (fell_of p start) (s + 1) s
    here =
        t.0
        ∙ (ap (λ (u : Bool). u && eqb (fell_of p old s) 0) (h s ∙ (ap (λ (u : Bool). u && (not (ltb s s) || eqb (fell_of p start s) 0)) (lt-ltb s p.sentences l) ∙ ap (λ (u : Bool). not u || eqb (fell_of p start s) 0) (le-ltb s s (omega arith))))
        ∙ (ap (λ (v : ℕ). eqb v 0) (fell-apart p start old a s)
        ∙ sym (ap (λ (u : Bool). u && (not (ltb s (s + 1)) || eqb (fell_of p start s) 0)) (lt-ltb s p.sentences l) ∙ ap (λ (u : Bool). not u || eqb (fell_of p start s) 0) (lt-ltb s (s + 1) (omega arith)))))

    by : (b : Bool) → eqb j s ≡ b → is_kept (marked p new) j ≡ left_to p.sentences (fell_of p start) (s + 1) j
    by true e = subst (λ (i : ℕ). is_kept (marked p new) i ≡ left_to p.sentences (fell_of p start) (s + 1) i) (sym (eqb-true j s e)) here
    by false e =
        let n = eqb-false j s e in
        t.1 j n ∙ (h j ∙ ap (λ (u : Bool). ltb j p.sentences && (not u || eqb (fell_of p start j) 0)) (ltb_next j s n))

-- The part has a word for every 32 sentences.
pub keep_ready : (p : Plan) (m : List ℕ) (from end : ℕ) → from ≡ marks p → end ≡ calls p → room p ≤ length m → length m ≤ 8192
    → (length (mid_of from (end - from) m) ≤ 32768) × (p.sentences ≤ 32 * length (mid_of from (end - from) m))
keep_ready p m from end a b h k =
    let n = mid_len from end m (omega (arith, b, h)) in
    (omega (arith, n, a, b, h, k), omega (arith, n, a, b))

pub left-start : (p : Plan) (old ys : List ℕ) (from end : ℕ) → from ≡ marks p → end ≡ calls p → room p ≤ length old → length ys ≡ length (mid_of from (end - from) old)
    → ((i : ℕ) → is_kept ys i ≡ ltb i p.sentences) → (j : ℕ) → is_kept (marked p (put_mid from (end - from) old ys)) j ≡ left_to p.sentences (fell_of p (put_mid from (end - from) old ys)) 0 j
left-start p old ys from end a b h n e j = ap (λ (l : List ℕ). is_kept l j) (marked_back p old ys from end a b (omega (arith, h)) n) ∙ (e j ∙ left-none p.sentences (fell_of p (put_mid from (end - from) old ys)) j)

pub left-done : (p : Plan) (start old new : List ℕ) (s : ℕ) → Apart start old (marks p) (calls p) → Apart old new (marks p) (calls p) → ((j : ℕ) → is_kept (marked p new) j ≡ left_to p.sentences (fell_of p old) s j) → s ≡ p.sentences
    → ((j : ℕ) → is_kept (marked p new) j ≡ (ltb j p.sentences && eqb (fell_of p start j) 0)) × Apart start new (marks p) (calls p)
left-done p start old new s a b h e = (
  λ j. h j ∙ (ap (λ (n : ℕ). left_to p.sentences (fell_of p old) n j) e ∙ (left-all p.sentences (fell_of p old) j ∙ ap (λ (v : ℕ). ltb j p.sentences && eqb v 0) (fell-apart p start old a j))),
  apart_then a b,
)
