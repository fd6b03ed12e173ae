-- Two numberings that have agreed so far agree on two names exactly if both are new or both are first seen at the same pair.
use Prim.Native.Nat.{zero, suc, ◌≤◌, ◌<◌}
use native.Mathlib.Omega.{arith}
use mathlib.Core.Path.{◌≡◌, refl, sym, ap, ◌∙◌}
use mathlib.Core.Bool.{Bool, true, false, true≢false, cond}
use mathlib.Core.List.{List, [], ◌∷◌, ◌++◌}
use lib.Dec.{eqb}
use borrow.Author.Tests.{ne_eqb, eq-eqb, eqb-true}
use lib.ListN.{length}
use Rattle.program.specs.Syntax.{Name}
use Rattle.patterns.specs.Names.{eq_bytes}
use Rattle.patterns.proofs.Names.{eq_bytes_true, eq_bytes_refl, eq_bytes_false, eq_bytes_sym}
use Rattle.patterns.specs.Configuration.{position, seen_with}
use Rattle.configuration.specs.Lockstep.{Pair, pair, first_both}

-- Where a name stands among those seen.
position_most : (n : Name) (l : List Name) → position n l ≤ length l
unfolding position
position_most n [] = omega arith
position_most n (x ∷ l) = by (position_most n l) (eq_bytes n x)
  where
    by : position n l ≤ length l → (t : Bool) → cond t zero (suc (position n l)) ≤ suc (length l)
    by ih true = omega arith
    by ih false = omega (arith, ih)

position-one : (u v : Name) (l : List Name) → position u l ≡ position v l → position u l < length l → u ≡ v
unfolding position
position-one u v [] e h = absurd (omega (arith, h))
position-one u v (x ∷ l) e h = by (λ a b. position-one u v l a b) (eq_bytes u x) refl (eq_bytes v x) refl e h
  where
    by : (position u l ≡ position v l → position u l < length l → u ≡ v) → (s : Bool) → eq_bytes u x ≡ s → (t : Bool) → eq_bytes v x ≡ t → cond s zero (suc (position u l)) ≡ cond t zero (suc (position v l)) → cond s zero (suc (position u l)) < suc (length l) → u ≡ v
    by ih true p true q e h = eq_bytes_true u x p ∙ sym (eq_bytes_true v x q)
    by ih true p false q e h = absurd (omega (arith, e))
    by ih false p true q e h = absurd (omega (arith, e))
    by ih false p false q e h = ih (omega (arith, e)) (omega (arith, h))

seen_keeps : (n u : Name) (l : List Name) → position u l < length l → position u (seen_with n l) ≡ position u l
unfolding position seen_with
seen_keeps n u [] h = absurd (omega (arith, h))
seen_keeps n u (x ∷ l) h = by (λ a. seen_keeps n u l a) (eq_bytes n x) (eq_bytes u x) refl h
  where
    by : (position u l < length l → position u (seen_with n l) ≡ position u l) → (s t : Bool) → eq_bytes u x ≡ t → cond t zero (suc (position u l)) < suc (length l) → position u (cond s (x ∷ l) (x ∷ seen_with n l)) ≡ cond t zero (suc (position u l))
    by ih true t p h = ap (λ (b : Bool). cond b zero (suc (position u l))) p
    by ih false true p h = ap (λ (b : Bool). cond b zero (suc (position u (seen_with n l)))) p
    by ih false false p h = ap (λ (b : Bool). cond b zero (suc (position u (seen_with n l)))) p ∙ ap suc (ih (omega (arith, h)))

seen_own : (n : Name) (l : List Name) → (position n (seen_with n l) ≡ position n l) × (position n l < length (seen_with n l))
unfolding position seen_with
seen_own n [] = (ap (λ (b : Bool). cond b zero (suc zero)) (eq_bytes_refl n), omega arith)
seen_own n (x ∷ l) = by (seen_own n l) (eq_bytes n x) refl
  where
    by : (position n (seen_with n l) ≡ position n l) × (position n l < length (seen_with n l)) → (s : Bool) → eq_bytes n x ≡ s → (position n (cond s (x ∷ l) (x ∷ seen_with n l)) ≡ cond s zero (suc (position n l))) × (cond s zero (suc (position n l)) < length (cond s (x ∷ l) (x ∷ seen_with n l)))
    by ih true p = (ap (λ (b : Bool). cond b zero (suc (position n l))) p, omega arith)
    by ih false p = (ap (λ (b : Bool). cond b zero (suc (position n (seen_with n l)))) p ∙ ap suc ih.0, omega (arith, ih.1))

seen_old : (n : Name) (l : List Name) → position n l < length l → length (seen_with n l) ≡ length l
unfolding position seen_with
seen_old n [] h = absurd (omega (arith, h))
seen_old n (x ∷ l) h = by (λ a. seen_old n l a) (eq_bytes n x) h
  where
    by : (position n l < length l → length (seen_with n l) ≡ length l) → (s : Bool) → cond s zero (suc (position n l)) < suc (length l) → length (cond s (x ∷ l) (x ∷ seen_with n l)) ≡ suc (length l)
    by ih true h = refl
    by ih false h = ap suc (ih (omega (arith, h)))

seen_new : (n : Name) (l : List Name) → position n l ≡ length l → length (seen_with n l) ≡ suc (length l)
unfolding position seen_with
seen_new n [] h = refl
seen_new n (x ∷ l) h = by (λ a. seen_new n l a) (eq_bytes n x) h
  where
    by : (position n l ≡ length l → length (seen_with n l) ≡ suc (length l)) → (s : Bool) → cond s zero (suc (position n l)) ≡ suc (length l) → length (cond s (x ∷ l) (x ∷ seen_with n l)) ≡ suc (suc (length l))
    by ih true h = absurd (omega (arith, h))
    by ih false h = ap suc (ih (omega (arith, h)))

seen_other : (n u : Name) (l : List Name) → eq_bytes n u ≡ false → position u l ≡ length l → position u (seen_with n l) ≡ length (seen_with n l)
unfolding position seen_with
seen_other n u [] d h = ap (λ (b : Bool). cond b zero (suc zero)) (eq_bytes_sym u n ∙ d)
seen_other n u (x ∷ l) d h = by (λ a. seen_other n u l d a) (eq_bytes n x) (eq_bytes u x) refl h
  where
    by : (position u l ≡ length l → position u (seen_with n l) ≡ length (seen_with n l)) → (s t : Bool) → eq_bytes u x ≡ t → cond t zero (suc (position u l)) ≡ suc (length l) → position u (cond s (x ∷ l) (x ∷ seen_with n l)) ≡ length (cond s (x ∷ l) (x ∷ seen_with n l))
    by ih s true p h = absurd (omega (arith, h))
    by ih true false p h = ap (λ (b : Bool). cond b zero (suc (position u l))) p ∙ h
    by ih false false p h = ap (λ (b : Bool). cond b zero (suc (position u (seen_with n l)))) p ∙ ap suc (ih (omega (arith, h)))

abbrev AllPaired : List Pair → List Name → List Name → Type 0
AllPaired [] la lb = Unit {0}
AllPaired (p ∷ ps) la lb = ((position p.one la ≡ position p.two lb) × (position p.one la < length la)) × AllPaired ps la lb

abbrev NotOne : Name → List Pair → Type 0
NotOne n [] = Unit {0}
NotOne n (p ∷ ps) = (eq_bytes p.one n ≡ false) × NotOne n ps

abbrev NotTwo : Name → List Pair → Type 0
NotTwo n [] = Unit {0}
NotTwo n (p ∷ ps) = (eq_bytes p.two n ≡ false) × NotTwo n ps

-- The names seen are those of the pairs, and the pairs are numbered alike.
pub record Numbered (ps : List Pair) (la lb : List Name) : Type 0 where
  pub paired : AllPaired ps la lb
  pub new_one : (n : Name) → NotOne n ps → position n la ≡ length la
  pub new_two : (n : Name) → NotTwo n ps → position n lb ≡ length lb
  pub same : length la ≡ length lb

pub numbered-none : Numbered [] [] []
unfolding position
numbered-none = record { paired = tt; new_one = λ n h. refl; new_two = λ n h. refl; same = refl }

module _ (n m : Name) (la lb : List Name) (e : length la ≡ length lb) where
  first_decides : (qs : List Pair) → AllPaired qs la lb → (NotOne n qs → position n la ≡ length la) → (NotTwo m qs → position m lb ≡ length lb) → eqb (position n la) (position m lb) ≡ first_both n m qs
  unfolding first_both
  first_decides [] h f g = eq-eqb (position n la) (position m lb) (f tt ∙ (e ∙ sym (g tt)))
  first_decides (p ∷ qs) h f g = by (λ a b. first_decides qs h.1 a b) (eq_bytes p.one n) refl (eq_bytes p.two m) refl
    where
      by : ((NotOne n qs → position n la ≡ length la) → (NotTwo m qs → position m lb ≡ length lb) → eqb (position n la) (position m lb) ≡ first_both n m qs) → (s : Bool) → eq_bytes p.one n ≡ s → (t : Bool) → eq_bytes p.two m ≡ t → eqb (position n la) (position m lb) ≡ cond s t (cond t false (first_both n m qs))
      by ih true a true b = eq-eqb (position n la) (position m lb) (ap (λ (x : Name). position x la) (sym (eq_bytes_true p.one n a)) ∙ (h.0.0 ∙ ap (λ (x : Name). position x lb) (eq_bytes_true p.two m b)))
      by ih true a false b =
          ne_eqb (position n la) (position m lb)
          (λ q. eq_bytes_false p.two m b (position-one p.two m lb (sym h.0.0 ∙ (ap (λ (x : Name). position x la) (eq_bytes_true p.one n a) ∙ q)) (omega (arith, h.0.0, h.0.1, e))))
      by ih false a true b =
          ne_eqb (position n la) (position m lb)
          (λ q. eq_bytes_false p.one n a (position-one p.one n la (h.0.0 ∙ (ap (λ (x : Name). position x lb) (eq_bytes_true p.two m b) ∙ sym q)) h.0.1))
      by ih false a false b = ih (λ k. f (a, k)) (λ k. g (b, k))

pub numbering_decides : (n m : Name) {ps : List Pair} {la lb : List Name} → Numbered ps la lb → eqb (position n la) (position m lb) ≡ first_both n m ps
numbering_decides n m {ps} {la} {lb} h = first_decides n m la lb h.same ps h.paired (h.new_one n) (h.new_two m)

-- One more pair.
one-before : (n : Name) (ps : List Pair) (q : Pair) → NotOne n (ps ++ (q ∷ [])) → NotOne n ps × (eq_bytes q.one n ≡ false)
one-before n [] q h = (tt, h.0)
one-before n (p ∷ ps) q h = let z = one-before n ps q h.1 in ((h.0, z.0), z.1)

two-before : (n : Name) (ps : List Pair) (q : Pair) → NotTwo n (ps ++ (q ∷ [])) → NotTwo n ps × (eq_bytes q.two n ≡ false)
two-before n [] q h = (tt, h.0)
two-before n (p ∷ ps) q h = let z = two-before n ps q h.1 in ((h.0, z.0), z.1)

module _ (n m : Name) (la lb : List Name) (e : length la ≡ length lb) (q : position n la ≡ position m lb) where
  longer : (length la ≤ length (seen_with n la)) × (length (seen_with n la) ≡ length (seen_with m lb))
  longer = by (eqb (position n la) (length la)) refl
    where
      by : (t : Bool) → eqb (position n la) (length la) ≡ t → (length la ≤ length (seen_with n la)) × (length (seen_with n la) ≡ length (seen_with m lb))
      by true h =
          let z = eqb-true (position n la) (length la) h in
          (omega (arith, seen_new n la z), omega (arith, seen_new n la z, seen_new m lb (sym q ∙ (z ∙ e)), e))
      by false h =
          let d : position n la ≡ length la → ⊥ = λ z. true≢false (sym (eq-eqb (position n la) (length la) z) ∙ h) in
          let l : position n la < length la = omega (arith, position_most n la, d) in
          (omega (arith, seen_old n la l), omega (arith, seen_old n la l, seen_old m lb (omega (arith, l, q, e)), e))

  all-kept : (ps : List Pair) → AllPaired ps la lb → AllPaired (ps ++ (pair n m ∷ [])) (seen_with n la) (seen_with m lb)
  all-kept [] h = (((seen_own n la).0 ∙ (q ∙ sym (seen_own m lb).0), omega (arith, (seen_own n la).0, (seen_own n la).1)), tt)
  all-kept (p ∷ ps) h =
      let z = seen_keeps n p.one la h.0.1 in
      let y = seen_keeps m p.two lb (omega (arith, h.0.0, h.0.1, e)) in
      ((z ∙ (h.0.0 ∙ sym y), omega (arith, z, h.0.1, longer.0)), all-kept ps h.1)

pub numbered_more : (n m : Name) {ps : List Pair} {la lb : List Name} → Numbered ps la lb → first_both n m ps ≡ true → Numbered (ps ++ (pair n m ∷ [])) (seen_with n la) (seen_with m lb)
numbered_more n m {ps} {la} {lb} h t =
    let q : position n la ≡ position m lb = eqb-true (position n la) (position m lb) (numbering_decides n m h ∙ t) in
    record {
      paired = all-kept n m la lb h.same q ps h.paired;
      new_one = λ u k. let z = one-before u ps (pair n m) k in seen_other n u la z.1 (h.new_one u z.0);
      new_two = λ u k. let z = two-before u ps (pair n m) k in seen_other m u lb z.1 (h.new_two u z.0);
      same = (longer n m la lb h.same q).1;
    }
