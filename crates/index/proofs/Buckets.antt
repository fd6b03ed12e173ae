-- Buckets of names: filing functions, and finding the first of a name.
use Prim.Native.Nat.{ℕ, suc, ◌+◌, ◌*◌, ◌%◌, ◌<◌, ◌≤◌}
use native.Mathlib.Omega.{arith}
use native.Mathlib.Numerals.{add-one}
use mathlib.Core.Path.{◌≡◌, refl, sym, ap, subst, ◌∙◌}
use mathlib.Core.Bool.{Bool, true, false}
use mathlib.Core.List.{List}
use mathlib.Core.Option.{some}
use lib.Dec.{eqb, ltb}
use lib.ListN.{length, get_or, get_elem?, drop, set, drop_of_length-le, length-set}
use lib.Seq.{drop-cons, get_or-set_same, get_or-set_other}
use borrow.Author.Tests.{eqb-true, eqb-false, eq-eqb, ne_eqb, ltb-true, ltb-false}
use Rattle.program.specs.Syntax.{Name, Function}
use Rattle.patterns.specs.Names.{lower, caseless, same_name}
use Rattle.patterns.proofs.Names.{same_name_iff}
use Rattle.patterns.proofs.Equal.{caseless-length, caseless-at}
use Rattle.index.specs.First.{First}
use Rattle.index.specs.Bucket.{hash_from, bucket_of, in_bucket, is_named, Filed}
use Rattle.index.proofs.Entries.{element_below, same_element}
use Rattle.index.proofs.Firsts.{first-end, first-here, first_sooner}

-- One letter of a name after another.
pub hash_next : (a : Name) (i h x : ℕ) → x ≡ lower (get_or a i 0) → i < length a → hash_from h (drop i (caseless a)) ≡ hash_from ((h * 31 + x) % 65536) (drop (i + 1) (caseless a))
unfolding hash_from
hash_next a i h x e l =
    let u : i < length (caseless a) = omega (arith, l, caseless-length a) in
    ap (hash_from h) (drop-cons (caseless a) i 0 u) ∙ rw (caseless-at a i, ← e, add-one)

pub hash_end : (a : Name) (i h : ℕ) → length a ≤ i → hash_from h (drop i (caseless a)) ≡ h
unfolding hash_from
hash_end a i h l =
    let u : length (caseless a) ≤ i = omega (arith, l, caseless-length a) in
    ap (hash_from h) (drop_of_length-le (caseless a) u)

pub bucket-is : (n : ℕ) (a : Name) → bucket_of n a ≡ hash_from 0 (caseless a) % n
unfolding bucket_of
bucket-is n a = refl

-- Names that are the same have the same bucket.
pub same-bucket : (n : ℕ) (a b : Name) → same_name a b ≡ true → bucket_of n a ≡ bucket_of n b
unfolding bucket_of
same-bucket n a b e = ap (λ (k : Name). hash_from 0 k % n) ((same_name_iff a b).0 e)

module _ (n : ℕ) (x : Function) where
  pub in_bucket_lem : (k : ℕ) → bucket_of n x.name ≡ k → in_bucket n k x ≡ true
  unfolding in_bucket
  in_bucket_lem k e = eq-eqb (bucket_of n x.name) k e

  pub not_in_bucket : (k : ℕ) → (bucket_of n x.name ≡ k → ⊥) → in_bucket n k x ≡ false
  unfolding in_bucket
  not_in_bucket k d = ne_eqb (bucket_of n x.name) k d

  pub its_bucket : (k : ℕ) → in_bucket n k x ≡ true → bucket_of n x.name ≡ k
  unfolding in_bucket
  its_bucket k e = eqb-true (bucket_of n x.name) k e

  -- Another bucket means another name.
  pub other-bucket : (f : Name) → in_bucket n (bucket_of n f) x ≡ false → is_named f x ≡ false
  unfolding in_bucket is_named
  other-bucket f e = go (same_name x.name f) refl
    where
      go : (t : Bool) → same_name x.name f ≡ t → same_name x.name f ≡ false
      go false q = q
      go true q = absurd (eqb-false (bucket_of n x.name) (bucket_of n f) e (same-bucket n x.name f q))

pub named-is : (f : Name) (x : Function) → is_named f x ≡ same_name x.name f
unfolding is_named
named-is f x = refl

-- No function is filed.
pub filed-none : (fs : List Function) (m : List ℕ) (at top n count : ℕ) → length fs ≡ count → ((k : ℕ) → k < n → get_or m (top + k) 0 ≡ count) → Filed fs m at top n count
filed-none fs m at top n count e h = record {
  bucket = λ k l. subst (First (in_bucket n k) count fs) (sym (h k l)) (first-end (in_bucket n k) fs count e);
  link = λ f x l q. absurd (omega (arith, element_below fs f q, e, l));
}

-- One function more is filed, before those that are.
module _ {fs : List Function} {m : List ℕ} {at top n : ℕ} (g : ℕ) (d : Filed fs m at top n (g + 1)) (x : Function) (q : get_elem? fs g ≡ some x) (k : ℕ) (is : k ≡ bucket_of n x.name) (small : k < n) (links : at + length fs ≤ top) (fits : top + n ≤ length m) where
  abbrev linked : List ℕ
  linked = set m (at + g) (get_or m (top + k) 0)

  abbrev filed : List ℕ
  filed = set linked (top + k) g

  below : g < length fs
  below = element_below fs g q

  filed-bucket : (j : ℕ) → j < n → First (in_bucket n j) g fs (get_or filed (top + j) 0)
  filed-bucket j l = go (eqb j k) refl
    where
      go : (t : Bool) → eqb j k ≡ t → First (in_bucket n j) g fs (get_or filed (top + j) 0)
      go true e =
          let z : j ≡ k = eqb-true j k e in
          subst (First (in_bucket n j) g fs) (sym (ap (λ (i : ℕ). get_or filed (top + i) 0) z ∙ get_or-set_same linked (top + k) g 0 (omega (arith, fits, small, length-set m (at + g) (get_or m (top + k) 0)))))
          (first-here (in_bucket n j) fs g x q (in_bucket_lem n x j (sym is ∙ sym z)))
      go false e =
          let z : j ≡ k → ⊥ = eqb-false j k e in
          subst (First (in_bucket n j) g fs) (sym (get_or-set_other linked (top + k) (top + j) g 0 (λ y. z (omega (arith, y))) ∙ get_or-set_other m (at + g) (top + j) (get_or m (top + k) 0) 0 (λ y. omega (arith, y, links, below))))
          (first_sooner (in_bucket n j) fs g x (d.bucket j l) q (not_in_bucket n x j (λ y. z (sym y ∙ sym is))))

  filed-link : (f : ℕ) (y : Function) → g ≤ f → get_elem? fs f ≡ some y → First (in_bucket n (bucket_of n y.name)) (suc f) fs (get_or filed (at + f) 0)
  filed-link f y l p = go (eqb f g) refl
    where
      far : get_or filed (at + f) 0 ≡ get_or linked (at + f) 0
      far = get_or-set_other linked (top + k) (at + f) g 0 (λ z. omega (arith, z, links, element_below fs f p))

      go : (t : Bool) → eqb f g ≡ t → First (in_bucket n (bucket_of n y.name)) (suc f) fs (get_or filed (at + f) 0)
      go true e =
          let z : f ≡ g = eqb-true f g e in
          let w : x ≡ y = same_element (ap (λ (i : ℕ). get_elem? fs i) z ∙ q) p in
          subst (First (in_bucket n (bucket_of n y.name)) (suc f) fs) (sym (far ∙ ap (λ (i : ℕ). get_or linked (at + i) 0) z ∙ get_or-set_same m (at + g) (get_or m (top + k) 0) 0 (omega (arith, below, links, fits))))
          (subst (λ (i : ℕ). First (in_bucket n (bucket_of n y.name)) i fs (get_or m (top + k) 0)) (add-one g ∙ ap suc (sym z))
          (subst (λ (i : ℕ). First (in_bucket n i) (g + 1) fs (get_or m (top + k) 0)) (is ∙ ap (λ (v : Function). bucket_of n v.name) w) (d.bucket k small)))
      go false e =
          let z : f ≡ g → ⊥ = eqb-false f g e in
          subst (First (in_bucket n (bucket_of n y.name)) (suc f) fs) (sym (far ∙ get_or-set_other m (at + g) (at + f) (get_or m (top + k) 0) 0 (λ v. z (omega (arith, v)))))
          (d.link f y (omega (arith, l, z)) p)

  pub filed-more : Filed fs filed at top n g
  filed-more = record { bucket = filed-bucket; link = filed-link }

-- No function before f has the name, and f is in its bucket.
pub record Sought (fs : List Function) (n : ℕ) (name : Name) (f : ℕ) : Type 0 where
  pub within : f ≤ length fs
  pub none : (j : ℕ) (x : Function) → j < f → get_elem? fs j ≡ some x → is_named name x ≡ false
  pub found : (x : Function) → get_elem? fs f ≡ some x → in_bucket n (bucket_of n name) x ≡ true

module _ {fs : List Function} {m : List ℕ} {at top n : ℕ} (d : Filed fs m at top n 0) (name : Name) where
  pub sought_first : (k : ℕ) → k ≡ bucket_of n name → k < n → Sought fs n name (get_or m (top + k) 0)
  sought_first k e l =
      let b : First (in_bucket n (bucket_of n name)) 0 fs (get_or m (top + k) 0) = subst (λ (j : ℕ). First (in_bucket n j) 0 fs (get_or m (top + k) 0)) e (d.bucket k l) in
      record { within = b.within; none = λ j x u q. other-bucket n x name (b.none j x (omega arith) u q); found = b.found }

  module _ {f : ℕ} (s : Sought fs n name f) (x : Function) (q : get_elem? fs f ≡ some x) where
    pub sought_found : is_named name x ≡ true → First (is_named name) 0 fs f
    sought_found t = record { later = omega arith; within = s.within; none = λ j y u v p. s.none j y v p; found = λ y p. ap (is_named name) (same_element p q) ∙ t }

    next : First (in_bucket n (bucket_of n name)) (suc f) fs (get_or m (at + f) 0)
    next = subst (λ (j : ℕ). First (in_bucket n j) (suc f) fs (get_or m (at + f) 0)) (its_bucket n x (bucket_of n name) (s.found x q)) (d.link f x (omega arith) q)

    pub sought_later : f < get_or m (at + f) 0
    sought_later = omega (arith, next.later)

    pub sought_next : is_named name x ≡ false → Sought fs n name (get_or m (at + f) 0)
    sought_next t = record {
      within = next.within;
      none = λ j y u p. go j y u p (eqb j f) refl (ltb j f) refl;
      found = next.found;
    }
      where
        go : (j : ℕ) (y : Function) → j < get_or m (at + f) 0 → get_elem? fs j ≡ some y → (a : Bool) → eqb j f ≡ a → (c : Bool) → ltb j f ≡ c → is_named name y ≡ false
        go j y u p true e c r = ap (is_named name) (same_element p (ap (λ (i : ℕ). get_elem? fs i) (eqb-true j f e) ∙ q)) ∙ t
        go j y u p false e true r = s.none j y (ltb-true j f r) p
        go j y u p false e false r = let z : j ≡ f → ⊥ = eqb-false j f e in other-bucket n y name (next.none j y (omega (arith, z, ltb-false j f r)) u p)

  pub sought_none : {f : ℕ} → Sought fs n name f → length fs ≤ f → First (is_named name) 0 fs f
  sought_none {f} s l = record { later = omega arith; within = s.within; none = λ j x u v p. s.none j x v p; found = λ x p. absurd (omega (arith, element_below fs f p, l)) }
