-- Ends that are known: which split takes which, and what stands of them in the room.
use Prim.Native.Nat.{ℕ, zero, suc, ◌+◌, ◌-◌, ◌*◌, ◌≤◌}
use native.Mathlib.Omega.{arith}
use mathlib.Core.Path.{◌≡◌, refl, sym, ap, ap₂, ◌∙◌, subst}
use mathlib.Core.List.{List, [], ◌∷◌}
use lib.ListN.{length, get_or, drop}
use Rattle.program.specs.Syntax.{Terms}
use Rattle.patterns.proofs.Fuel.{fuel-falls}
use Rattle.rows.specs.Rows.{Kept}
use Rattle.overlap.specs.Way.{End, Next, Fails, fails-none, fails_more, Taken, Way, way-any, way-heads, way-first, way-second, end_at, in_turn}
use Rattle.expression.specs.declared.walk.Step.{Step}
use Rattle.expression.specs.Walk.{end_of, Onwards, Ahead}
use Rattle.expression.proofs.Walking.{next-same}

-- ---- ends in the room

in_turn-first : (m : List ℕ) (from n : ℕ) (es : List End) → in_turn m from (suc n) es ≡ end_at m from ∷ in_turn m (from + 3) n es
unfolding in_turn
in_turn-first m from zero es = ap (λ (t : ℕ). end_at m t ∷ es) (omega arith)
in_turn-first m from (suc n) es =
    in_turn-first m from n (end_at m (from + 3 * suc n) ∷ es)
    ∙ ap (λ (t : ℕ). end_at m from ∷ in_turn m (from + 3) n (end_at m t ∷ es)) (omega arith)

pub in_turn-kept : {m o : List ℕ} {top : ℕ} (from n : ℕ) (es : List End) → Kept top m o → from + 3 * n ≤ top → in_turn m from n es ≡ in_turn o from n es
unfolding in_turn
in_turn-kept from zero es k l = refl
in_turn-kept {m = m} {o = o} from (suc n) es k l =
    let t = from + 3 * n in
    ap (λ (e : End). in_turn m from n (e ∷ es)) (ap₂ end_of (sym (k.below (t + 1) (omega (arith, l)))) (sym (k.below (t + 2) (omega (arith, l)))))
    ∙ in_turn-kept from n (end_at o t ∷ es) k (omega (arith, l))

-- ---- the first of the ends

no_end : {A : Type 0} {e : End} {es : List End} → [] ≡ e ∷ es → A
no_end h = absurd (omega (arith, ap length h))

module _ {b : List ℕ} {e : End} {es : List End} {f : ℕ} where
  -- A split and what follows it, by other names.
  renamed : {k j : ℕ} (d : End) (ds : List End) (g l : ℕ) → Taken b l j g d → Way b ds d.fuel l d.place → d ∷ ds ≡ e ∷ es → suc g ≡ suc f → l ≡ k → Taken b k j f e × Way b es e.fuel k e.place
  renamed {k = k} {j = j} d ds g l t w h z q =
      let eq : d ≡ e = ap (λ (u : List End). get_or u 0 d) h in
      let eqs : ds ≡ es = ap (drop 1) h in
      subst (λ (n : ℕ). Taken b n j f e × Way b es e.fuel n e.place) q
      (subst (λ (n : ℕ). Taken b l j n e × Way b es e.fuel l e.place) (omega (arith, z))
      (subst (λ (u : List End). Taken b l j g e × Way b u e.fuel l e.place) eqs
      (subst (λ (u : End). Taken b l j g u × Way b ds u.fuel l u.place) eq (t, w))))

  way_at_first : {us : List End} {g i j k : ℕ} → Way b us g i j → us ≡ e ∷ es → g ≡ suc f → get_or b i 0 ≡ 6 → Next b i k → Taken b k j f e × Way b es e.fuel k e.place
  way_at_first way-any h z m n = no_end h
  way_at_first (way-heads ni nj x y w) h z m n = absurd (ni m)
  way_at_first (way-first {es = ds} {e = d} {f = g} {k = l} c x t w) h z m n = renamed d ds g l t w h z (next-same x n)
  way_at_first (way-second ni mj y t w) h z m n = absurd (ni m)

  way_at_second : {us : List End} {g i j l : ℕ} → Way b us g i j → us ≡ e ∷ es → g ≡ suc f → (get_or b i 0 ≡ 6 → ⊥) → get_or b j 0 ≡ 6 → Next b j l → Taken b l i f e × Way b es e.fuel l e.place
  way_at_second way-any h z c m n = no_end h
  way_at_second (way-heads ni nj x y w) h z c m n = absurd (nj m)
  way_at_second (way-first mi x t w) h z c m n = absurd (c mi)
  way_at_second (way-second {es = ds} {e = d} {f = g} {l = l} ni mj y t w) h z c m n = renamed d ds g l t w h z (next-same y n)

pub way_at_heads : {b : List ℕ} {es : List End} {g i j k l : ℕ} (f : ℕ) → Way b es g i j → g ≡ suc f → (get_or b i 0 ≡ 6 → ⊥) → (get_or b j 0 ≡ 6 → ⊥) → Next b i k → Next b j l → Way b es f k l
way_at_heads f way-any z mi mj x y = way-any
way_at_heads {b = b} {es = es} {k = k} {l = l} f (way-heads {f = g} {k = m} {l = n} ni nj u v w) z mi mj x y =
    subst (λ (q : ℕ). Way b es f k q) (next-same v y) (subst (λ (q : ℕ). Way b es f q n) (next-same u x) (subst (λ (q : ℕ). Way b es q m n) (omega (arith, z)) w))
way_at_heads f (way-first c u t w) z mi mj x y = absurd (mi c)
way_at_heads f (way-second ni c v t w) z mi mj x y = absurd (mj c)

-- The split in turn takes the first end that is known.
pub ahead-first : (b m : List ℕ) (next known f i j k : ℕ) → Way b (in_turn m next known []) (suc f) i j → get_or b i 0 ≡ 6 → Next b i k → Ahead b m next known k j f
ahead-first b m next zero f i j k w c n = tt
ahead-first b m next (suc d) f i j k w c n = way_at_first w (in_turn-first m next d []) refl c n

pub ahead-second : (b m : List ℕ) (next known f i j l : ℕ) → Way b (in_turn m next known []) (suc f) i j → (get_or b i 0 ≡ 6 → ⊥) → get_or b j 0 ≡ 6 → Next b j l → Ahead b m next known l i f
ahead-second b m next zero f i j l w d c n = tt
ahead-second b m next (suc a) f i j l w d c n = way_at_second w (in_turn-first m next a []) refl d c n

-- ---- a split with a known end

pub fails-less : {b : List ℕ} {r : Terms} {e : End} {f i : ℕ} → Fails b r e f i → e.fuel ≤ f
fails-less fails-none = omega arith
fails-less {r = r} (fails_more {f = f} n m l h c) = omega (arith, fails-less c, fuel-falls f r n.there.terms)

module _ (b m : List ℕ) (next known rest other fuel : ℕ) (a : Ahead b m next known rest other fuel) (some : known ≡ 0 → ⊥)
    (end left : ℕ) (ee : end ≡ get_or m (next + 1) 0) (el : left ≡ get_or m (next + 2) 0) where
  pub ahead-told : Taken b rest other fuel (end_of end left) × Way b (in_turn m (next + 3) (known - 1) []) left rest end
  ahead-told =
      subst (λ (e : End). Taken b rest other fuel e × Way b (in_turn m (next + 3) (known - 1) []) e.fuel rest e.place) (sym (ap₂ end_of ee el)) (go known a some)
    where
      go : (n : ℕ) → Ahead b m next n rest other fuel → (n ≡ 0 → ⊥) → Taken b rest other fuel (end_at m next) × Way b (in_turn m (next + 3) (n - 1) []) (end_at m next).fuel rest (end_at m next).place
      go zero h c = absurd (c refl)
      go (suc n) h c = (h.0, subst (λ (k : ℕ). Way b (in_turn m (next + 3) k []) (end_at m next).fuel rest (end_at m next).place) (omega arith) h.1)

-- No end is known.
pub onwards_none : (b m : List ℕ) (top : ℕ) (r : Step) → r.ends.known ≡ 0 → r.ends.next ≡ top → Onwards b m top r
unfolding in_turn
onwards_none b m top r k n = record { way = subst (λ (d : ℕ). Way b (in_turn m r.ends.next d []) r.fuel r.left r.right) (sym k) way-any; is = omega (arith, k, n) }
