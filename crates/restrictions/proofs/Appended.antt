-- Sites written after others.
use Prim.Native.Nat.{ℕ, zero, suc, ◌+◌, ◌-◌, ◌<◌, ◌≤◌}
use native.Mathlib.Omega.{arith}
use mathlib.Core.Path.{◌≡◌, refl, sym, ap, ◌∙◌}
use mathlib.Core.List.{List, [], ◌∷◌, ◌++◌, append_assoc}
use lib.ListN.{length, take, drop, set, length-append, length-take, length-drop, take-append-drop}
use lib.Seq.{take-append_seam, drop-append_seam, drop-drop}
use Rattle.meaning.specs.Sites.{Site}
use Rattle.told.specs.Numbered.{Held, held_by}
use Rattle.restrictions.specs.Entries.{Entry, SitesIn, Appended}

pub held-append : (k : ℕ) (xs ys : List Site) → held_by k (xs ++ ys) ≡ held_by k xs ++ held_by k ys
unfolding held_by
held-append k [] ys = refl
held-append k (x ∷ xs) ys = ap (λ (l : List Held). record { sentence = k; site = x } ∷ l) (held-append k xs ys)

pub held-length : (k : ℕ) (xs : List Site) → length (held_by k xs) ≡ length xs
unfolding held_by
held-length k [] = refl
held-length k (x ∷ xs) = ap suc (held-length k xs)

both_in : (b es fs : List ℕ) (xs ys : List Held) → SitesIn b es xs → SitesIn b fs ys → SitesIn b (es ++ fs) (xs ++ ys)
both_in b [] fs [] ys h g = g
both_in b [] fs (x ∷ xs) ys h g = absurd h
both_in b (e ∷ es) fs [] ys h g = absurd h
both_in b (e ∷ es) fs (x ∷ xs) ys h g = (h.0, both_in b es fs xs ys h.1 g)

pub appended_nothing : (b old : List ℕ) (n : ℕ) → n ≤ length old → Appended b old n n old []
appended_nothing b old n l = record { entries = []; is = sym (take-append-drop n old); named = tt; count = omega arith; many = refl; fits = l }

module _ {b old new : List ℕ} {n r : ℕ} {xs : List Held} (a : Appended b old n r new xs) where
  pub appended-length : length new ≡ length old
  appended-length =
      omega (arith, ap length a.is, length-append (take n old) (a.entries ++ drop r old), length-append a.entries (drop r old), length-take n old, length-drop r old, a.count, a.fits)

  front-is : new ≡ (take n old ++ a.entries) ++ drop r old
  front-is = a.is ∙ sym (append_assoc (take n old) a.entries (drop r old))

  front_length : length (take n old ++ a.entries) ≡ r
  front_length = omega (arith, length-append (take n old) a.entries, length-take n old, a.count, a.fits)

  pub appended-front : take r new ≡ take n old ++ a.entries
  appended-front = ap (take r) front-is ∙ ap (λ (m : ℕ). take m ((take n old ++ a.entries) ++ drop r old)) (sym front_length) ∙ take-append_seam (take n old ++ a.entries) (drop r old)

  appended_back : drop r new ≡ drop r old
  appended_back = ap (drop r) front-is ∙ ap (λ (m : ℕ). drop m ((take n old ++ a.entries) ++ drop r old)) (sym front_length) ∙ drop-append_seam (take n old ++ a.entries) (drop r old)

  pub appended-after : (m : ℕ) → r ≤ m → drop m new ≡ drop m old
  appended-after m l =
      let z : m - r + r ≡ m = omega arith in
      let y : r + (m - r) ≡ m = omega arith in
      ap (λ (i : ℕ). drop i new) (sym y) ∙ (sym (drop-drop (m - r) r new) ∙ (ap (drop (m - r)) appended_back ∙ (drop-drop (m - r) r old ∙ ap (λ (i : ℕ). drop i old) y)))

  pub appended_then : {last : List ℕ} {m : ℕ} {ys : List Held} → Appended b new r m last ys → Appended b old n m last (xs ++ ys)
  appended_then {last} {m} {ys} c = record {
    entries = a.entries ++ c.entries;
    is = c.is ∙ (ap (λ (l : List ℕ). l ++ (c.entries ++ drop m new)) appended-front
        ∙ (append_assoc (take n old) a.entries (c.entries ++ drop m new)
        ∙ ap (λ (l : List ℕ). take n old ++ l) (sym (append_assoc a.entries c.entries (drop m new)) ∙ ap (λ (l : List ℕ). (a.entries ++ c.entries) ++ l) (appended-after m (omega (arith, c.count))))));
    named = both_in b a.entries c.entries xs ys a.named c.named;
    count = omega (arith, a.count, c.count, length-append a.entries c.entries);
    many = omega (arith, a.many, c.many, length-append a.entries c.entries, length-append xs ys);
    fits = omega (arith, c.fits, appended-length);
  }

-- One entry written.
set_splits : (l : List ℕ) (n e : ℕ) → n < length l → set l n e ≡ take n l ++ (e ∷ drop (suc n) l)
set_splits [] n e h = absurd (omega arith)
set_splits (x ∷ l) zero e h = refl
set_splits (x ∷ l) (suc n) e h = ap (λ (k : List ℕ). x ∷ k) (set_splits l n e (omega arith))

pub appended_one : (b old : List ℕ) (n e : ℕ) (x : Held) → n < length old → Entry b e x → Appended b old n (n + 1) (set old n e) (x ∷ [])
appended_one b old n e x h i =
    let z : suc n ≡ n + 1 = omega arith in
    record {
      entries = e ∷ [];
      is = set_splits old n e h ∙ ap (λ (m : ℕ). take n old ++ (e ∷ drop m old)) z;
      named = (i, tt);
      count = refl;
      many = refl;
      fits = omega arith;
    }
