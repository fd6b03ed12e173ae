-- Two watched runs of the same code that differ in their callees only. `I` is what holds of the loads on the way, whatever they weigh.
use Prim.Native.Nat.{ℕ, ◌+◌}
use mathlib.Core.Path.{◌≡◌, refl, ◌∙◌, ap}
use mathlib.Core.Bool.{Bool, true, false, cond}
use mathlib.Core.List.Memᴰ
use mathlib.Core.List.{List, [], ◌∷◌, ◌++◌}
use mathlib.Core.Option.{Option, none, some}
use lib.Dec.{T}
use Rattle.program.specs.Syntax.{Name, Kind, Terms, nil, symbol, variable, bracket, call, block, Conditions, condition, Sentences, empty, sentence}
use Rattle.patterns.specs.Symbols.{same_symbol}
use Rattle.patterns.proofs.Tests.{holds}
use Rattle.patterns.proofs.Symbols.{same_symbol_refl}
use Rattle.patterns.specs.Expression.{Expression, void, atom, group, ◌⧺◌}
use Rattle.patterns.specs.Fresh.{Fits, Fresh}
use Rattle.meaning.specs.Sites.{Site, site, collect_call_sites, condition_sites, sentence_sites, restriction_is_characterisable}
use Rattle.meaning.specs.Match.{Bindings, value_of, matches}
use Rattle.meaning.specs.Run.{Event}
use Rattle.meaning.specs.Records.{bytes_of, event_bytes}
use Rattle.meaning.specs.Watch.{Watch, too_heavy, too_long, Load, Watched, gives, stops, and_then, note, weighing, heavier, bound_anew, bound, or_next, first_of, if_fits, Callee, adds, adds_value, hands_on, tells, evaluate, hold, choose}
use Rattle.meaning.proofs.Cleaned.{Hands}
use Rattle.meaning.proofs.Every.{and_left, and_right, All, Opt, Every, every_left, every_right}
use Rattle.meaning.proofs.Matches.{WellKinded, value-fits, matches_kinded}

-- The value of code without calls and blocks is a fresh instance of it.
abbrev pub Instance : Terms → Expression → Type 0
Instance t v = T (restriction_is_characterisable t) → Fresh t v

abbrev pub Any : {A : Type 0} → A → Type 0
Any a = Unit {0}

-- What a part of a watched run gives, if it gives something, has a property and leaves a load of `I`.
abbrev pub Gives : (Load → Type 0) → {A : Type 0} → (A → Type 0) → Watched A → Type 0
Gives I P (gives a s) = P a × I s
Gives I P (stops e s) = Unit {0}

abbrev pub Keeps : (Load → Type 0) → Callee → Type 0
Keeps I c = (f : Name) (v : Expression) (s : Load) → I s → Gives I Any (c f v s)

-- Two callees do the same at a call site, on whatever the site can hand over.
abbrev pub Agree : (Load → Type 0) → Callee → Callee → Site → Type 0
Agree I c d x = (v : Expression) (s : Load) → I s → Hands x v → c x.callee v s ≡ d x.callee v s

-- What holds of a load whatever it weighs, and after any event.
pub record Holds (I : Load → Type 0) : Type 0 where
  pub noted : (e : Event) (s : Load) → I s → I (note e s)
  pub weighed : (w : ℕ) (s : Load) → I s → I (weighing w s)

module _ (watch : Watch) (I : Load → Type 0) (kept : Holds I) where
  pub then_gives : {A B : Type 0} (P : A → Type 0) (Q : B → Type 0) (x : Watched A) (k : A → Load → Watched B) → Gives I P x → ((a : A) (s : Load) → P a → I s → Gives I Q (k a s)) → Gives I Q (and_then x k)
  unfolding and_then
  then_gives P Q (gives a s) k h f = f a s h.0 h.1
  then_gives P Q (stops e s) k h f = tt

  pub then_same : {A B : Type 0} (P : A → Type 0) (x : Watched A) (k l : A → Load → Watched B) → Gives I P x → ((a : A) (s : Load) → P a → I s → k a s ≡ l a s) → and_then x k ≡ and_then x l
  unfolding and_then
  then_same P (gives a s) k l h f = f a s h.0 h.1
  then_same P (stops e s) k l h f = refl

  then_cong : {A B : Type 0} (P : A → Type 0) {x y : Watched A} {k l : A → Load → Watched B} → x ≡ y → Gives I P x → ((a : A) (s : Load) → P a → I s → k a s ≡ l a s) → and_then x k ≡ and_then y l
  then_cong P {x} {y} {k} {l} e h f = then_same P x k l h f ∙ ap (λ (z : Watched _). and_then z l) e

  -- What is tested stops, or goes on with a load of `I`.
  tested_gives : (t : Bool) (x y : Watched (Unit {0})) → Gives I Any x → Gives I Any y → Gives I Any (cond t x y)
  tested_gives true x y h k = h
  tested_gives false x y h k = k

  pub adds-gives : (n : ℕ) (s : Load) → I s → Gives I Any (adds watch n s)
  unfolding adds heavier
  adds-gives n s i = tested_gives (watch.heavy (s.weight + n)) (stops too_heavy s) (gives tt (weighing (s.weight + n) s)) tt (tt, kept.weighed (s.weight + n) s i)

  pub value-gives : (u : Expression) (s : Load) → I s → Gives I Any (adds_value watch u s)
  unfolding adds_value
  value-gives void s i = (tt, i)
  value-gives (atom x v) s i = adds-gives (bytes_of (atom x v)) s i
  value-gives (group u v) s i = adds-gives (bytes_of (group u v)) s i

  pub hands_gives : (w : ℕ) (u : Expression) (s : Load) → I s → Gives I Any (hands_on watch w u s)
  unfolding hands_on
  hands_gives w u s i = value-gives u (weighing w s) (kept.weighed w s i)

  pub tells-gives : (e : Event) (s : Load) → I s → Gives I Any (tells watch e s)
  unfolding tells
  tells-gives e s i = tested_gives (watch.long (event_bytes (s.events ++ (e ∷ [])))) (stops too_long s) (gives tt (note e s)) tt (tt, kept.noted e s i)

  bound-gives : (k : Kind) (n : Name) (b : Bindings) (s : Load) → WellKinded b → I s → Gives I (Fits k) (bound (value_of k n b) s)
  unfolding bound
  bound-gives k n b s w i = go (value_of k n b) (value-fits k n b w)
    where
      go : (o : Option Expression) → Opt (Fits k) o → Gives I (Fits k) (bound o s)
      go none h = tt
      go (some v) h = (h, i)

  next-gives : (o : Option Bindings) (n : Load → Watched (Option Bindings)) (s : Load) → Opt WellKinded o → I s → ((s : Load) → I s → Gives I (Opt WellKinded) (n s)) → Gives I (Opt WellKinded) (or_next o n s)
  unfolding or_next
  next-gives none n s w i h = h s i
  next-gives (some b) n s w i h = (w, i)

  first_gives : (l : List Bindings) (k : Bindings → Load → Watched (Option Bindings)) (s : Load) → All WellKinded l → I s → ((b : Bindings) (s : Load) → WellKinded b → I s → Gives I (Opt WellKinded) (k b s)) → Gives I (Opt WellKinded) (first_of l k s)
  unfolding first_of
  first_gives [] k s h i f = (tt, i)
  first_gives (b ∷ l) k s h i f =
      then_gives (Opt WellKinded) (Opt WellKinded) (k b s) _ (f b s h.0 i) (λ o s₁ w i₁. next-gives o (λ s₂. first_of l k s₂) s₁ w i₁ (λ s₂ i₂. first_gives l k s₂ h.1 i₂ f))

  next-same : (o : Option Bindings) (m n : Load → Watched (Option Bindings)) (s : Load) → I s → ((s : Load) → I s → m s ≡ n s) → or_next o m s ≡ or_next o n s
  unfolding or_next
  next-same none m n s i h = h s i
  next-same (some b) m n s i h = refl

  first-same : (l : List Bindings) (k m : Bindings → Load → Watched (Option Bindings)) (s : Load) → All WellKinded l → I s → ((b : Bindings) (s : Load) → WellKinded b → I s → Gives I (Opt WellKinded) (k b s))
      → ((b : Bindings) (s : Load) → WellKinded b → I s → k b s ≡ m b s) → first_of l k s ≡ first_of l m s
  unfolding first_of
  first-same [] k m s h i r f = refl
  first-same (b ∷ l) k m s h i r f =
      then_cong (Opt WellKinded) (f b s h.0 i) (r b s h.0 i) (λ o s₁ w i₁. next-same o (λ s₂. first_of l k s₂) (λ s₂. first_of l m s₂) s₁ i₁ (λ s₂ i₂. first-same l k m s₂ h.1 i₂ r f))

  fits_gives : (o : Option Bindings) (k : Bindings → Load → Watched Expression) (m : Load → Watched Expression) (s : Load) → Opt WellKinded o → I s
      → ((b : Bindings) (s : Load) → WellKinded b → I s → Gives I Any (k b s)) → ((s : Load) → I s → Gives I Any (m s)) → Gives I Any (if_fits o k m s)
  unfolding if_fits
  fits_gives none k m s w i f g = g s i
  fits_gives (some b) k m s w i f g = f b s w i

  fits-same : (o : Option Bindings) (k l : Bindings → Load → Watched Expression) (m n : Load → Watched Expression) (s : Load) → Opt WellKinded o → I s
      → ((b : Bindings) (s : Load) → WellKinded b → I s → k b s ≡ l b s) → ((s : Load) → I s → m s ≡ n s) → if_fits o k m s ≡ if_fits o l n s
  unfolding if_fits
  fits-same none k l m n s w i f g = g s i
  fits-same (some b) k l m n s w i f g = f b s w i

  forget : {A : Type 0} (P : A → Type 0) (x : Watched A) → Gives I P x → Gives I Any x
  forget P (gives a s) h = (tt, h.1)
  forget P (stops e s) h = tt

  -- What code gives, and the loads on the way.
  module _ (c : Callee) (keeps : Keeps I c) where
    mutual
      unfolding evaluate restriction_is_characterisable Fresh ◌⧺◌ heavier

      pub evaluate-gives : (t : Terms) (b : Bindings) (s : Load) → WellKinded b → I s → Gives I (Instance t) (evaluate watch c t b s)
      evaluate-gives nil b s w i = (λ _. refl, i)
      evaluate-gives (symbol t x r) b s w i =
          then_gives Any (Instance (symbol t x r)) (adds_value watch (atom x void) s) _ (value-gives (atom x void) s i) (λ _ s₁ _ i₁.
          then_gives (Instance r) (Instance (symbol t x r)) (evaluate watch c r b s₁) _ (evaluate-gives r b s₁ w i₁) (λ v s₂ f i₂.
          (λ h. (x, v, refl, holds (same_symbol x x) (same_symbol_refl x), f h), i₂)))
      evaluate-gives (variable t k n r) b s w i =
          then_gives (Fits k) (Instance (variable t k n r)) (bound (value_of k n b) s) _ (bound-gives k n b s w i) (λ u s₁ g i₁.
          then_gives Any (Instance (variable t k n r)) (adds_value watch u s₁) _ (value-gives u s₁ i₁) (λ _ s₂ _ i₂.
          then_gives (Instance r) (Instance (variable t k n r)) (evaluate watch c r b s₂) _ (evaluate-gives r b s₂ w i₂) (λ v s₃ f i₃.
          (λ h. (u, v, refl, g, f h), i₃))))
      evaluate-gives (bracket t j r) b s w i =
          then_gives Any (Instance (bracket t j r)) (adds_value watch (group void void) s) _ (value-gives (group void void) s i) (λ _ s₀ _ i₀.
          then_gives (Instance j) (Instance (bracket t j r)) (evaluate watch c j b s₀) _ (evaluate-gives j b s₀ w i₀) (λ u s₁ g i₁.
          then_gives (Instance r) (Instance (bracket t j r)) (evaluate watch c r b s₁) _ (evaluate-gives r b s₁ w i₁) (λ v s₂ f i₂.
          (λ h. (u, v, refl, g (and_left (restriction_is_characterisable j) (restriction_is_characterisable r) h), f (and_right (restriction_is_characterisable j) (restriction_is_characterisable r) h)), i₂))))
      evaluate-gives (call t g a r) b s w i =
          then_gives (Instance a) (Instance (call t g a r)) (evaluate watch c a b s) _ (evaluate-gives a b s w i) (λ x s₁ _ i₁.
          then_gives Any (Instance (call t g a r)) (c g x s₁) _ (keeps g x s₁ i₁) (λ u s₂ _ i₂.
          then_gives Any (Instance (call t g a r)) (hands_on watch s.weight u s₂) _ (hands_gives s.weight u s₂ i₂) (λ _ s₃ _ i₃.
          then_gives (Instance r) (Instance (call t g a r)) (evaluate watch c r b s₃) _ (evaluate-gives r b s₃ w i₃) (λ v s₄ f i₄.
          (λ h. absurd h, i₄)))))
      evaluate-gives (block t a d r) b s w i =
          then_gives (Instance a) (Instance (block t a d r)) (evaluate watch c a b s) _ (evaluate-gives a b s w i) (λ x s₁ _ i₁.
          then_gives Any (Instance (block t a d r)) (choose watch c d x b (heavier 16 s₁)) _ (choose-gives d x b (heavier 16 s₁) w (kept.weighed (s₁.weight + 16) s₁ i₁)) (λ u s₂ _ i₂.
          then_gives Any (Instance (block t a d r)) (hands_on watch s.weight u s₂) _ (hands_gives s.weight u s₂ i₂) (λ _ s₃ _ i₃.
          then_gives (Instance r) (Instance (block t a d r)) (evaluate watch c r b s₃) _ (evaluate-gives r b s₃ w i₃) (λ v s₄ f i₄.
          (λ h. absurd h, i₄)))))

      pub hold-gives : (d : Conditions) (b : Bindings) (s : Load) → WellKinded b → I s → Gives I (Opt WellKinded) (hold watch c d b s)
      hold-gives Conditions.none b s w i = (w, i)
      hold-gives (condition t r p d) b s w i =
          then_gives (Instance r) (Opt WellKinded) (evaluate watch c r b s) _ (evaluate-gives r b s w i) (λ v s₁ _ i₁.
          first_gives (matches p v b) _ s₁ (matches_kinded p v b w) i₁ (λ m s₂ w₁ i₂. hold-gives d m (weighing (s₁.weight + bound_anew m b) s₂) w₁ (kept.weighed (s₁.weight + bound_anew m b) s₂ i₂)))

      pub choose-gives : (d : Sentences) (v : Expression) (b : Bindings) (s : Load) → WellKinded b → I s → Gives I Any (choose watch c d v b s)
      choose-gives empty v b s w i = tt
      choose-gives (sentence h p d r l) v b s w i =
          then_gives (Opt WellKinded) Any (first_of (matches p v b) (λ m s₁. hold watch c d m (weighing (s.weight + bound_anew m b) s₁)) s) _
          (first_gives (matches p v b) _ s (matches_kinded p v b w) i (λ m s₁ w₁ i₁. hold-gives d m (weighing (s.weight + bound_anew m b) s₁) w₁ (kept.weighed (s.weight + bound_anew m b) s₁ i₁))) (λ o s₁ g i₁.
          fits_gives o _ _ s₁ g i₁
          (λ m s₂ w₁ i₂. then_gives Any Any (tells watch _ s₂) _ (tells-gives _ s₂ i₂) (λ _ s₃ _ i₃. forget (Instance r) (evaluate watch c r m s₃) (evaluate-gives r m s₃ w₁ i₃)))
          (λ s₂ i₂. choose-gives l v b (weighing s.weight s₂) w (kept.weighed s.weight s₂ i₂)))

  -- Callees that agree at the call sites of some code make it run alike.
  module _ (c d : Callee) (keeps : Keeps I c) where
    mutual
      unfolding evaluate collect_call_sites heavier

      pub evaluate-same : (t : Terms) (b : Bindings) (s : Load) → WellKinded b → I s → Every (Agree I c d) (collect_call_sites t) → evaluate watch c t b s ≡ evaluate watch d t b s
      evaluate-same nil b s w i h = refl
      evaluate-same (symbol t x r) b s w i h =
          then_cong Any refl (value-gives (atom x void) s i) (λ _ s₁ _ i₁.
          then_cong (Instance r) (evaluate-same r b s₁ w i₁ h) (evaluate-gives c keeps r b s₁ w i₁) (λ v s₂ _ i₂. refl))
      evaluate-same (variable t k n r) b s w i h =
          then_cong (Fits k) refl (bound-gives k n b s w i) (λ u s₁ _ i₁.
          then_cong Any refl (value-gives u s₁ i₁) (λ _ s₂ _ i₂.
          then_cong (Instance r) (evaluate-same r b s₂ w i₂ h) (evaluate-gives c keeps r b s₂ w i₂) (λ v s₃ _ i₃. refl)))
      evaluate-same (bracket t j r) b s w i h =
          then_cong Any refl (value-gives (group void void) s i) (λ _ s₀ _ i₀.
          then_cong (Instance j) (evaluate-same j b s₀ w i₀ (every_left (Agree I c d) (collect_call_sites j) (collect_call_sites r) h)) (evaluate-gives c keeps j b s₀ w i₀) (λ u s₁ _ i₁.
          then_cong (Instance r) (evaluate-same r b s₁ w i₁ (every_right (Agree I c d) (collect_call_sites j) (collect_call_sites r) h)) (evaluate-gives c keeps r b s₁ w i₁) (λ v s₂ _ i₂. refl)))
      evaluate-same (call t f a r) b s w i h =
          let k : Every (Agree I c d) (collect_call_sites a ++ collect_call_sites r) = λ x m. h x (Memᴰ.tail m) in
          then_cong (Instance a) (evaluate-same a b s w i (every_left (Agree I c d) (collect_call_sites a) (collect_call_sites r) k)) (evaluate-gives c keeps a b s w i) (λ x s₁ g i₁.
          then_cong Any (h (site f a) (Memᴰ.head refl) x s₁ i₁ g) (keeps f x s₁ i₁) (λ u s₂ _ i₂.
          then_cong Any refl (hands_gives s.weight u s₂ i₂) (λ _ s₃ _ i₃.
          then_cong (Instance r) (evaluate-same r b s₃ w i₃ (every_right (Agree I c d) (collect_call_sites a) (collect_call_sites r) k)) (evaluate-gives c keeps r b s₃ w i₃) (λ v s₄ _ i₄. refl))))
      evaluate-same (block t a e r) b s w i h =
          let k : Every (Agree I c d) (sentence_sites e ++ collect_call_sites r) = every_right (Agree I c d) (collect_call_sites a) (sentence_sites e ++ collect_call_sites r) h in
          then_cong (Instance a) (evaluate-same a b s w i (every_left (Agree I c d) (collect_call_sites a) (sentence_sites e ++ collect_call_sites r) h)) (evaluate-gives c keeps a b s w i) (λ x s₁ _ i₁.
          let i₀ : I (heavier 16 s₁) = kept.weighed (s₁.weight + 16) s₁ i₁ in
          then_cong Any (choose-same e x b (heavier 16 s₁) w i₀ (every_left (Agree I c d) (sentence_sites e) (collect_call_sites r) k)) (choose-gives c keeps e x b (heavier 16 s₁) w i₀) (λ u s₂ _ i₂.
          then_cong Any refl (hands_gives s.weight u s₂ i₂) (λ _ s₃ _ i₃.
          then_cong (Instance r) (evaluate-same r b s₃ w i₃ (every_right (Agree I c d) (sentence_sites e) (collect_call_sites r) k)) (evaluate-gives c keeps r b s₃ w i₃) (λ v s₄ _ i₄. refl))))

      pub hold-same : (e : Conditions) (b : Bindings) (s : Load) → WellKinded b → I s → Every (Agree I c d) (condition_sites e) → hold watch c e b s ≡ hold watch d e b s
      hold-same Conditions.none b s w i h = refl
      hold-same (condition t r p e) b s w i h =
          then_cong (Instance r) (evaluate-same r b s w i (every_left (Agree I c d) (collect_call_sites r) (collect_call_sites p ++ condition_sites e) h)) (evaluate-gives c keeps r b s w i) (λ v s₁ _ i₁.
          first-same (matches p v b) _ _ s₁ (matches_kinded p v b w) i₁
          (λ m s₂ w₁ i₂. hold-gives c keeps e m (weighing (s₁.weight + bound_anew m b) s₂) w₁ (kept.weighed (s₁.weight + bound_anew m b) s₂ i₂))
          (λ m s₂ w₁ i₂. hold-same e m (weighing (s₁.weight + bound_anew m b) s₂) w₁ (kept.weighed (s₁.weight + bound_anew m b) s₂ i₂) (every_right (Agree I c d) (collect_call_sites p) (condition_sites e) (every_right (Agree I c d) (collect_call_sites r) (collect_call_sites p ++ condition_sites e) h))))

      pub choose-same : (e : Sentences) (v : Expression) (b : Bindings) (s : Load) → WellKinded b → I s → Every (Agree I c d) (sentence_sites e) → choose watch c e v b s ≡ choose watch d e v b s
      choose-same empty v b s w i h = refl
      choose-same (sentence t p e r l) v b s w i h =
          let h₁ : Every (Agree I c d) (collect_call_sites r ++ (condition_sites e ++ sentence_sites l)) = every_right (Agree I c d) (collect_call_sites p) (collect_call_sites r ++ (condition_sites e ++ sentence_sites l)) h in
          let hr : Every (Agree I c d) (collect_call_sites r) = every_left (Agree I c d) (collect_call_sites r) (condition_sites e ++ sentence_sites l) h₁ in
          let h₂ : Every (Agree I c d) (condition_sites e ++ sentence_sites l) = every_right (Agree I c d) (collect_call_sites r) (condition_sites e ++ sentence_sites l) h₁ in
          let tries : (m : Bindings) (s₁ : Load) → WellKinded m → I s₁ → Gives I (Opt WellKinded) (hold watch c e m (weighing (s.weight + bound_anew m b) s₁)) =
          λ m s₁ w₁ i₁. hold-gives c keeps e m (weighing (s.weight + bound_anew m b) s₁) w₁ (kept.weighed (s.weight + bound_anew m b) s₁ i₁) in
          then_cong (Opt WellKinded)
          (first-same (matches p v b) _ _ s (matches_kinded p v b w) i tries (λ m s₁ w₁ i₁. hold-same e m (weighing (s.weight + bound_anew m b) s₁) w₁ (kept.weighed (s.weight + bound_anew m b) s₁ i₁) (every_left (Agree I c d) (condition_sites e) (sentence_sites l) h₂)))
          (first_gives (matches p v b) _ s (matches_kinded p v b w) i tries)
          (λ o s₁ g i₁. fits-same o _ _ _ _ s₁ g i₁
          (λ m s₂ w₁ i₂. then_cong Any refl (tells-gives _ s₂ i₂) (λ _ s₃ _ i₃. evaluate-same r m s₃ w₁ i₃ hr))
          (λ s₂ i₂. choose-same l v b (weighing s.weight s₂) w (kept.weighed s.weight s₂ i₂) (every_right (Agree I c d) (condition_sites e) (sentence_sites l) h₂)))
