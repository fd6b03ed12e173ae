-- A restriction is dropped if it repeats an earlier one that was kept: which is so exactly if it repeats an earlier one at all.
use mathlib.Core.Path.{◌≡◌, refl, sym, ap, subst}
use mathlib.Core.Bool.{Bool, true, false, true≢false, false≢true, cond}
use mathlib.Core.List.Memᴰ
use mathlib.Core.List.{List, [], ◌∷◌, Memᴰ}
use Rattle.program.specs.Syntax.{Terms}
use Rattle.patterns.proofs.Tests.{same_test}
use Rattle.patterns.specs.Equality.{eq_terms}
use Rattle.patterns.specs.Configuration.{canonical_configuration, same_configuration}
use Rattle.patterns.proofs.Configuration.{same_configuration_true}
use Rattle.meaning.specs.Lists.{any, select, firsts_after, firsts}
use Rattle.meaning.specs.Sites.{restriction_is_characterisable}
use Rattle.meaning.proofs.Lists.{Some, some-later, any_some, in_any, select_passes}
use Rattle.meaning.proofs.Repeats.{repeats_exactly}

-- The elements that are the same as none of `earlier` and none before them, kept or not.
unfoldable pub new_after : {A : Type 0} → (A → A → Bool) → List A → List A → List A
new_after same earlier [] = []
new_after same earlier (x ∷ l) = cond (any (λ y. same y x) earlier) (new_after same (x ∷ earlier) l) (x ∷ new_after same (x ∷ earlier) l)

module _ {A : Type 0} (same : A → A → Bool) (trans : (x y z : A) → same x y ≡ true → same y z ≡ true → same x z ≡ true) where
  -- What came earlier is seen, or the same as something seen; what is seen came earlier.
  abbrev Seen : List A → List A → Type 0
  Seen seen earlier = ((y : A) → Memᴰ y earlier → Some (λ (z : A). same z y ≡ true) seen) × ((z : A) → Memᴰ z seen → Memᴰ z earlier)

  seen_any : (seen earlier : List A) (x : A) → Seen seen earlier → any (λ y. same y x) seen ≡ any (λ y. same y x) earlier
  seen_any seen earlier x h =
      same_test (any (λ y. same y x) seen) (any (λ y. same y x) earlier)
      (λ e. let s = any_some (λ y. same y x ≡ true) (λ y. same y x) seen e (λ y t. t) in in_any (λ y. same y x) earlier s.0 (h.1 s.0 s.1) s.2)
      (λ e.
      let s = any_some (λ y. same y x ≡ true) (λ y. same y x) earlier e (λ y t. t) in
      let t = h.0 s.0 s.1 in
      in_any (λ y. same y x) seen t.0 t.1 (trans t.0 s.0 x t.2 s.2))

  -- A new element is seen; a repeat is the same as something seen.
  seen_new : (seen earlier : List A) (x : A) → same x x ≡ true → Seen seen earlier → Seen (x ∷ seen) (x ∷ earlier)
  seen_new seen earlier x e h = (found, kept)
    where
      found : (y : A) → Memᴰ y (x ∷ earlier) → Some (λ (z : A). same z y ≡ true) (x ∷ seen)
      found y (Memᴰ.head q) = (x, Memᴰ.head refl, subst (λ (w : A). same x w ≡ true) (sym q) e)
      found y (Memᴰ.tail m) = some-later (λ z. same z y ≡ true) x seen (h.0 y m)

      kept : (z : A) → Memᴰ z (x ∷ seen) → Memᴰ z (x ∷ earlier)
      kept z (Memᴰ.head q) = Memᴰ.head q
      kept z (Memᴰ.tail m) = Memᴰ.tail (h.1 z m)

  seen_repeat : (seen earlier : List A) (x : A) → any (λ y. same y x) seen ≡ true → Seen seen earlier → Seen seen (x ∷ earlier)
  seen_repeat seen earlier x e h = (found, λ z m. Memᴰ.tail (h.1 z m))
    where
      found : (y : A) → Memᴰ y (x ∷ earlier) → Some (λ (z : A). same z y ≡ true) seen
      found y (Memᴰ.head q) = subst (λ (w : A). Some (λ (z : A). same z w ≡ true) seen) (sym q) (any_some (λ z. same z x ≡ true) (λ z. same z x) seen e (λ z t. t))
      found y (Memᴰ.tail m) = h.0 y m

  either : (t u : Bool) (x : A) (a b c d : List A) → t ≡ u → (t ≡ true → a ≡ c) → (t ≡ false → b ≡ d) → cond t a (x ∷ b) ≡ cond u c (x ∷ d)
  either true true x a b c d e f g = f refl
  either true false x a b c d e f g = absurd (true≢false e)
  either false true x a b c d e f g = absurd (false≢true e)
  either false false x a b c d e f g = ap (λ (l : List A). x ∷ l) (g refl)

  firsts_after_new : (l seen earlier : List A) → ((x : A) → Memᴰ x l → same x x ≡ true) → Seen seen earlier → firsts_after same seen l ≡ new_after same earlier l
  unfolding firsts_after new_after
  firsts_after_new [] seen earlier r h = refl
  firsts_after_new (x ∷ l) seen earlier r h =
      either (any (λ y. same y x) seen) (any (λ y. same y x) earlier) x (firsts_after same seen l) (firsts_after same (x ∷ seen) l) (new_after same (x ∷ earlier) l) (new_after same (x ∷ earlier) l) (seen_any seen earlier x h)
      (λ e. firsts_after_new l seen (x ∷ earlier) (λ y m. r y (Memᴰ.tail m)) (seen_repeat seen earlier x e h))
      (λ e. firsts_after_new l (x ∷ seen) (x ∷ earlier) (λ y m. r y (Memᴰ.tail m)) (seen_new seen earlier x (r x (Memᴰ.head refl)) h))

  pub firsts_new : (l : List A) → ((x : A) → Memᴰ x l → same x x ≡ true) → firsts same l ≡ new_after same [] l
  unfolding firsts
  firsts_new l r = firsts_after_new l [] [] r (λ y m. absurd (Memᴰ.not-nil m), λ z m. m)

-- Passing the test is transitive, and arguments without calls and blocks pass it with themselves.
repeats_trans : (x y z : Terms) → same_configuration x y ≡ true → same_configuration y z ≡ true → same_configuration x z ≡ true
unfolding same_configuration
repeats_trans x y z e f = subst (λ (t : Terms). eq_terms t (canonical_configuration z) ≡ true) (sym (same_configuration_true x y e)) f

-- "A restriction is dropped as a repeat exactly if it equals an earlier one of its function".
pub restrictions_new : (l : List Terms) → firsts same_configuration (select restriction_is_characterisable l) ≡ new_after same_configuration [] (select restriction_is_characterisable l)
restrictions_new l = firsts_new same_configuration repeats_trans (select restriction_is_characterisable l) (λ x m. (repeats_exactly x x (select_passes restriction_is_characterisable l x m)).1 refl)
