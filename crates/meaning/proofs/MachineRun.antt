-- The machine does what the watched run does: it halts with its events and its stop.
use Prim.Native.Nat.{ℕ, zero, suc, ◌+◌, ◌≤◌}
use mathlib.Core.Path.{◌≡◌, refl, sym, ap, subst}
use mathlib.Core.List.{List, [], ◌∷◌}
use mathlib.Core.Option.{Option, none, some}
use native.Mathlib.Omega.{arith}
use Rattle.program.specs.Syntax.{Name, Terms, nil, symbol, variable, bracket, call, block, Conditions, condition, Sentences, empty, sentence, Function, Program}
use Rattle.patterns.specs.Expression.{Expression, void, atom, group, ◌⧺◌}
use Rattle.patterns.proofs.Expression.{⧺_void, ⧺_assoc}
use Rattle.meaning.specs.Root.{root}
use Rattle.meaning.specs.Match.{Bindings, value_of, matches}
use Rattle.meaning.specs.Spanless.{spanless, spanless_conditions}
use Rattle.meaning.specs.Run.{Event, entered, chosen, sentences_of}
use Rattle.meaning.specs.Records.{bytes_of}
use Rattle.meaning.specs.Watch.{Watch, Stop, Load, Watched, gives, stops, and_then, before, weighing, heavier, bound_anew, bound, or_next, first_of, if_fits, Callee, adds, adds_value, hands_on, tells, evaluate, hold, choose, entry_with, entry, body, enter, enter_root, stop_of, watched_outcome, watched_run}
use Rattle.meaning.specs.Watch as the-watch
use Rattle.meaning.proofs.Machine.{Choice, choice, Attempt, attempt, Frame, Task, Machine, going, once, build_variable, build_step, add_choice, hand_step, continue, call_body, fewer, entry_step, choose_step, retry_step, test_step, step, start_at, start, Reach, here, more, Halts}
use Rattle.meaning.proofs.Every.{All}
use Rattle.meaning.proofs.Matches.{WellKinded, matches_kinded}
use Rattle.meaning.proofs.Congruence.{Instance, Any, Gives, Keeps, Holds, adds-gives, value-gives, hands_gives, tells-gives, evaluate-gives, choose-gives}
use Rattle.meaning.proofs.Depth.{Within, within-holds, enter_keeps, enter_unfolds}

-- ---- what is built so far, and what follows

before-void : (x : Watched Expression) → before void x ≡ x
unfolding and_then ◌⧺◌
before-void (gives v s) = refl
before-void (stops e s) = refl

before_then : {A : Type 0} (built : Expression) (x : Watched A) (k : A → Load → Watched Expression) → before built (and_then x k) ≡ and_then x (λ a s. before built (k a s))
unfolding and_then
before_then built (gives a s) k = refl
before_then built (stops e s) k = refl

before-before : (built u : Expression) (x : Watched Expression) → before (built ⧺ u) x ≡ before built (before u x)
unfolding and_then
before-before built u (gives v s) = ap (λ (z : Expression). gives z s) (⧺_assoc built u v)
before-before built u (stops n s) = refl

any-holds : Holds Any
any-holds = record { noted = λ e s i. i; weighed = λ w s i. i }

module _ (watch : Watch) where
  pub reach_trans : {p : Program} {m l n : Machine} → Reach watch p m l → Reach watch p n m → Reach watch p n l
  reach_trans {p = p} {n = n} (here e) h = subst (λ (x : Machine). Reach watch p n x) (sym e) h
  reach_trans (more r) h = more (reach_trans r h)

  -- ---- what the choices left and the sentences left make of a test

  unfoldable remaining : Callee → List Choice → Watched (Option Bindings) → Watched (Option Bindings)
  remaining c [] x = x
  remaining c (choice ms d u e ∷ xs) x = remaining c xs (and_then x (λ o s. or_next o (λ s₁. first_of ms (λ m s₂. hold watch c d m (weighing (u + bound_anew m e) s₂)) s₁) s))

  -- What a chosen sentence gives: its event, and the value of its result.
  abbrev chosen_one : Callee → Terms → Conditions → Terms → Bindings → Load → Watched Expression
  chosen_one c p d r m s = and_then (tells watch (chosen (spanless p) (spanless_conditions d) (spanless r)) s) (λ _ s₁. evaluate watch c r m s₁)

  unfoldable attempted : Callee → Attempt → Watched (Option Bindings) → Watched Expression
  attempted c (attempt p d r l v b w xs) x =
      and_then (remaining c xs x) (λ o s. if_fits o (λ m s₁. chosen_one c p d r m s₁) (λ s₁. choose watch c l v b (weighing w s₁)) s)

  remaining_holds : (c : Callee) (xs : List Choice) (m : Bindings) (s : Load) → remaining c xs (gives (some m) s) ≡ gives (some m) s
  unfolding remaining and_then or_next
  remaining_holds c [] m s = refl
  remaining_holds c (choice ms d u e ∷ xs) m s = remaining_holds c xs m s

  remaining_stops : (c : Callee) (xs : List Choice) (e : Stop) (s : Load) → remaining c xs (stops e s) ≡ stops e s
  unfolding remaining and_then
  remaining_stops c [] e s = refl
  remaining_stops c (choice ms d u b ∷ xs) e s = remaining_stops c xs e s

  attempted_holds : (c : Callee) (p : Terms) (d : Conditions) (r : Terms) (l : Sentences) (v : Expression) (b : Bindings) (w : ℕ) (xs : List Choice) (m : Bindings) (s : Load)
      → attempted c (attempt p d r l v b w xs) (gives (some m) s) ≡ chosen_one c p d r m s
  unfolding attempted and_then if_fits
  attempted_holds c p d r l v b w xs m s =
      ap (λ (x : Watched (Option Bindings)). and_then x (λ o s. if_fits o (λ m s₁. chosen_one c p d r m s₁) (λ s₁. choose watch c l v b (weighing w s₁)) s)) (remaining_holds c xs m s)

  attempted_stops : (c : Callee) (a : Attempt) (e : Stop) (s : Load) → attempted c a (stops e s) ≡ stops e s
  unfolding attempted and_then
  attempted_stops c (attempt p d r l v b w xs) e s =
      ap (λ (x : Watched (Option Bindings)). and_then x (λ o s. if_fits o (λ m s₁. chosen_one c p d r m s₁) (λ s₁. choose watch c l v b (weighing w s₁)) s)) (remaining_stops c xs e s)

  -- What is added or told, and then what follows.
  once_reaches : (I : Load → Type 0) (p : Program) (x : Watched (Unit {0})) (next : Load → Watched Expression) (m : Load → Machine) (k : List Frame) → Gives I Any x
      → ((s : Load) → I s → Reach watch p (continue (next s) k) (m s)) → Reach watch p (continue (and_then x (λ _ s. next s)) k) (once x m)
  unfolding and_then continue once
  once_reaches I p (gives a s) next m k h f = f s h.1
  once_reaches I p (stops e s) next m k h f = here refl

  -- ---- one call's code, where calls within n are done right

  module _ (p : Program) (n : ℕ) (call_reaches : (f : Name) (v : Expression) (k : List Frame) (s : Load) → Within n s → Reach watch p (continue (enter watch p f v s) k) (going (Task.calls f v) k s)) where
    kept : Keeps (Within n) (enter watch p)
    kept = enter_keeps watch n p

    reaches : {x y : Watched Expression} {m : Machine} (k : List Frame) → x ≡ y → Reach watch p (continue x k) m → Reach watch p (continue y k) m
    reaches {m = m} k e r = subst (λ (z : Watched Expression). Reach watch p (continue z k) m) e r

    -- A frame takes what a part of the run gives.
    frame_reaches : (P : Expression → Type 0) (x : Watched Expression) (fr : Frame) (k : List Frame) (next : Expression → Load → Watched Expression) → Gives (Within n) P x
        → ((v : Expression) (s : Load) → Within n s → Reach watch p (continue (next v s) k) (hand_step watch (fr ∷ k) v s)) → Reach watch p (continue (and_then x next) k) (continue x (fr ∷ k))
    unfolding continue and_then step
    frame_reaches P (gives v s) fr k next h f = more (f v s h.1)
    frame_reaches P (stops e s) fr k next h f = here refl

    handing : (w : ℕ) (u : Expression) (s : Load) → Within n s → Gives (Within n) Any (hands_on watch w u s)
    handing w u s i = hands_gives watch (Within n) (within-holds n) w u s i

    adding : (u : Expression) (s : Load) → Within n s → Gives (Within n) Any (adds_value watch u s)
    adding u s i = value-gives watch (Within n) (within-holds n) u s i

    -- A value is added, and the rest built behind it.
    adds_reaches : (x : Watched (Unit {0})) (u built : Expression) (rest : Load → Watched Expression) (m : Load → Machine) (k : List Frame) → Gives (Within n) Any x
        → ((s : Load) → Within n s → Reach watch p (continue (before (built ⧺ u) (rest s)) k) (m s)) → Reach watch p (continue (before built (and_then x (λ _ s. before u (rest s)))) k) (once x m)
    adds_reaches x u built rest m k h f =
        reaches k (sym (before_then built x (λ _ s. before u (rest s)))) (once_reaches (Within n) p x (λ s. before built (before u (rest s))) m k h (λ s i. reaches k (before-before built u (rest s)) (f s i)))

    variable_reaches : (o : Option Expression) (r : Terms) (b : Bindings) (built : Expression) (k : List Frame) (s : Load) → Within n s
        → ((built : Expression) (s : Load) → Within n s → Reach watch p (continue (before built (evaluate watch (enter watch p) r b s)) k) (going (Task.builds r b built) k s))
        → Reach watch p (continue (before built (and_then (bound o s) (λ u s₁. and_then (adds_value watch u s₁) (λ _ s₂. before u (evaluate watch (enter watch p) r b s₂))))) k) (build_variable watch o r b built k s)
    unfolding bound and_then build_variable continue
    variable_reaches none r b built k s i h = here refl
    variable_reaches (some u) r b built k s i h = adds_reaches (adds_value watch u s) u built (λ s₁. evaluate watch (enter watch p) r b s₁) (λ s₁. going (Task.builds r b (built ⧺ u)) k s₁) k (adding u s i) (λ s₁ i₁. h (built ⧺ u) s₁ i₁)

    condition_reaches : (P : Expression → Type 0) (x : Watched Expression) (q : Terms) (d : Conditions) (b : Bindings) (a : Attempt) (k : List Frame) → Gives (Within n) P x
        → ((v : Expression) (s : Load) → Within n s → Reach watch p (continue (attempted (enter watch p) a (first_of (matches q v b) (λ m s₁. hold watch (enter watch p) d m (weighing (s.weight + bound_anew m b) s₁)) s)) k) (going (Task.retries (add_choice (choice (matches q v b) d s.weight b) a)) k s))
        → Reach watch p (continue (attempted (enter watch p) a (and_then x (λ v s. first_of (matches q v b) (λ m s₁. hold watch (enter watch p) d m (weighing (s.weight + bound_anew m b) s₁)) s))) k) (continue x (Frame.in_condition q d b a ∷ k))
    unfolding continue and_then step hand_step
    condition_reaches P (gives v s) q d b a k h f = more (f v s h.1)
    condition_reaches P (stops e s) q d b a k h f = here (ap (λ (x : Watched Expression). continue x k) (sym (attempted_stops (enter watch p) a e s)))

    -- Once a sentence is chosen, and when its choices are used up.
    abbrev ChosenReaches : Attempt → List Frame → Type 0
    ChosenReaches (attempt q d r l v b u xs) k = (m : Bindings) (s : Load) → WellKinded m → Within n s → Reach watch p (continue (evaluate watch (enter watch p) r m s) k) (going (Task.builds r m void) k s)

    abbrev RetryReaches : Attempt → List Frame → Type 0
    RetryReaches a k = (s : Load) → Within n s → Reach watch p (continue (attempted (enter watch p) a (gives none s)) k) (going (Task.retries a) k s)

    abbrev TestReaches : Conditions → Type 0
    TestReaches d = (a : Attempt) (k : List Frame) (m : Bindings) (s : Load) → WellKinded m → Within n s → ChosenReaches a k → RetryReaches a k
        → Reach watch p (continue (attempted (enter watch p) a (hold watch (enter watch p) d m s)) k) (going (Task.tests d m a) k s)

    first_reaches : (d : Conditions) → TestReaches d → (y : ℕ) (e : Bindings) (ms : List Bindings) (a : Attempt) (k : List Frame) (s : Load) → All WellKinded ms → Within n s → ChosenReaches a k → RetryReaches a k
        → Reach watch p (continue (attempted (enter watch p) a (first_of ms (λ m s₁. hold watch (enter watch p) d m (weighing (y + bound_anew m e) s₁)) s)) k) (going (Task.retries (add_choice (choice ms d y e) a)) k s)
    unfolding first_of attempted remaining and_then or_next step retry_step add_choice weighing
    first_reaches d h y e [] (attempt q c r l v b u xs) k s w i g back = more (back s i)
    first_reaches d h y e (m ∷ ms) (attempt q c r l v b u xs) k s w i g back =
        more (h (attempt q c r l v b u (choice ms d y e ∷ xs)) k m (weighing (y + bound_anew m e) s) w.0 i g (λ s₁ i₁. first_reaches d h y e ms (attempt q c r l v b u xs) k s₁ w.1 i₁ g back))

    chosen_reaches : (q : Terms) (d : Conditions) (r : Terms) (l : Sentences) (v : Expression) (b : Bindings) (u : ℕ) (xs : List Choice) (m : Bindings) (k : List Frame) (s : Load) → Within n s
        → ((s : Load) → Within n s → Reach watch p (continue (evaluate watch (enter watch p) r m s) k) (going (Task.builds r m void) k s))
        → Reach watch p (continue (attempted (enter watch p) (attempt q d r l v b u xs) (gives (some m) s)) k) (going (Task.tests Conditions.none m (attempt q d r l v b u xs)) k s)
    unfolding step test_step
    chosen_reaches q d r l v b u xs m k s i h =
        more (reaches k (sym (attempted_holds (enter watch p) q d r l v b u xs m s))
        (once_reaches (Within n) p (tells watch _ s) (λ s₁. evaluate watch (enter watch p) r m s₁) (λ s₁. going (Task.builds r m void) k s₁) k (tells-gives watch (Within n) (within-holds n) _ s i) h))

    mutual
      unfolding evaluate continue step build_step hand_step choose_step test_step retry_step add_choice attempted remaining and_then if_fits ◌⧺◌ weighing heavier

      build-reaches : (t : Terms) (b : Bindings) (built : Expression) (k : List Frame) (s : Load) → WellKinded b → Within n s → Reach watch p (continue (before built (evaluate watch (enter watch p) t b s)) k) (going (Task.builds t b built) k s)
      build-reaches nil b built k s w i = more (here (ap (λ (v : Expression). going (Task.hands v) k s) (sym (⧺_void built))))
      build-reaches (symbol t x r) b built k s w i =
          more (adds_reaches (adds_value watch (atom x void) s) (atom x void) built (λ s₁. evaluate watch (enter watch p) r b s₁) _ k (adding (atom x void) s i) (λ s₁ i₁. build-reaches r b (built ⧺ atom x void) k s₁ w i₁))
      build-reaches (variable t j x r) b built k s w i = more (variable_reaches (value_of j x b) r b built k s i (λ u s₁ i₁. build-reaches r b u k s₁ w i₁))
      build-reaches (bracket t j r) b built k s w i =
          more (reaches k (sym (before_then built (adds_value watch (group void void) s) _))
          (once_reaches (Within n) p (adds_value watch (group void void) s) _ _ k (adding (group void void) s i) (λ s₀ i₀.
          reach_trans (reaches (Frame.in_bracket built r b ∷ k) (before-void (evaluate watch (enter watch p) j b s₀)) (build-reaches j b void (Frame.in_bracket built r b ∷ k) s₀ w i₀))
          (reaches k (sym (before_then built (evaluate watch (enter watch p) j b s₀) _))
          (frame_reaches (Instance j) (evaluate watch (enter watch p) j b s₀) (Frame.in_bracket built r b) k _ (evaluate-gives watch (Within n) (within-holds n) (enter watch p) kept j b s₀ w i₀) (λ u s₁ i₁.
          reaches k (before-before built (group u void) (evaluate watch (enter watch p) r b s₁)) (build-reaches r b (built ⧺ group u void) k s₁ w i₁)))))))
      build-reaches (call t f a r) b built k s w i =
          more (reach_trans (reaches (Frame.in_argument f s.weight built r b ∷ k) (before-void (evaluate watch (enter watch p) a b s)) (build-reaches a b void (Frame.in_argument f s.weight built r b ∷ k) s w i))
          (reaches k (sym (before_then built (evaluate watch (enter watch p) a b s) _))
          (frame_reaches (Instance a) (evaluate watch (enter watch p) a b s) (Frame.in_argument f s.weight built r b) k _ (evaluate-gives watch (Within n) (within-holds n) (enter watch p) kept a b s w i) (λ x s₁ i₁.
          reach_trans (call_reaches f x (Frame.in_value s.weight built r b ∷ k) s₁ i₁)
          (reaches k (sym (before_then built (enter watch p f x s₁) _))
          (frame_reaches Any (enter watch p f x s₁) (Frame.in_value s.weight built r b) k _ (kept f x s₁ i₁) (λ u s₂ i₂.
          adds_reaches (hands_on watch s.weight u s₂) u built (λ s₃. evaluate watch (enter watch p) r b s₃) _ k (handing s.weight u s₂ i₂) (λ s₃ i₃. build-reaches r b (built ⧺ u) k s₃ w i₃))))))))
      build-reaches (block t a c r) b built k s w i =
          more (reach_trans (reaches (Frame.in_block c s.weight built r b ∷ k) (before-void (evaluate watch (enter watch p) a b s)) (build-reaches a b void (Frame.in_block c s.weight built r b ∷ k) s w i))
          (reaches k (sym (before_then built (evaluate watch (enter watch p) a b s) _))
          (frame_reaches (Instance a) (evaluate watch (enter watch p) a b s) (Frame.in_block c s.weight built r b) k _ (evaluate-gives watch (Within n) (within-holds n) (enter watch p) kept a b s w i) (λ x s₁ i₁.
          reach_trans (choose-reaches c x b (Frame.in_value s.weight built r b ∷ k) (heavier 16 s₁) w i₁)
          (reaches k (sym (before_then built (choose watch (enter watch p) c x b (heavier 16 s₁)) _))
          (frame_reaches Any (choose watch (enter watch p) c x b (heavier 16 s₁)) (Frame.in_value s.weight built r b) k _ (choose-gives watch (Within n) (within-holds n) (enter watch p) kept c x b (heavier 16 s₁) w i₁) (λ u s₂ i₂.
          adds_reaches (hands_on watch s.weight u s₂) u built (λ s₃. evaluate watch (enter watch p) r b s₃) _ k (handing s.weight u s₂ i₂) (λ s₃ i₃. build-reaches r b (built ⧺ u) k s₃ w i₃))))))))

      test-reaches : (d : Conditions) (a : Attempt) (k : List Frame) (m : Bindings) (s : Load) → WellKinded m → Within n s → ChosenReaches a k → RetryReaches a k
          → Reach watch p (continue (attempted (enter watch p) a (hold watch (enter watch p) d m s)) k) (going (Task.tests d m a) k s)
      test-reaches Conditions.none (attempt q d r l v b u xs) k m s w i g back = chosen_reaches q d r l v b u xs m k s i (λ s₁ i₁. g m s₁ w i₁)
      test-reaches (condition t r q d) a k m s w i g back =
          more (reach_trans (reaches (Frame.in_condition q d m a ∷ k) (before-void (evaluate watch (enter watch p) r m s)) (build-reaches r m void (Frame.in_condition q d m a ∷ k) s w i))
          (condition_reaches (Instance r) (evaluate watch (enter watch p) r m s) q d m a k (evaluate-gives watch (Within n) (within-holds n) (enter watch p) kept r m s w i) (λ v s₁ i₁.
          first_reaches d (λ a₁ k₁ m₁ s₂ w₂ i₂ g₁ back₁. test-reaches d a₁ k₁ m₁ s₂ w₂ i₂ g₁ back₁) s₁.weight m (matches q v m) a k s₁ (matches_kinded q v m w) i₁ g back)))

      choose-reaches : (l : Sentences) (v : Expression) (b : Bindings) (k : List Frame) (s : Load) → WellKinded b → Within n s → Reach watch p (continue (choose watch (enter watch p) l v b s) k) (going (Task.chooses l v b) k s)
      choose-reaches empty v b k s w i = more (here refl)
      choose-reaches (sentence h q d r l) v b k s w i =
          more (first_reaches d (λ a₁ k₁ m₁ s₂ w₂ i₂ g₁ back₁. test-reaches d a₁ k₁ m₁ s₂ w₂ i₂ g₁ back₁) s.weight b (matches q v b) (attempt q d r l v b s.weight []) k s (matches_kinded q v b w) i
          (λ m s₁ w₁ i₁. reaches k (before-void (evaluate watch (enter watch p) r m s₁)) (build-reaches r m void k s₁ w₁ i₁)) (λ s₁ i₁. more (choose-reaches l v b k (weighing s.weight s₁) w i₁)))

  body_reaches : (p : Program) (n : ℕ) (call_reaches : (f : Name) (v : Expression) (k : List Frame) (s : Load) → Within n s → Reach watch p (continue (enter watch p f v s) k) (going (Task.calls f v) k s))
      (o : Option Sentences) (v : Expression) (k : List Frame) (s : Load) → Within n s → Reach watch p (continue (body watch (enter watch p) o v s) k) (call_body o v k s)
  unfolding body call_body
  body_reaches p n h none v k s i = here refl
  body_reaches p n h (some b) v k s i = choose-reaches p n h b v [] k s tt i

  -- ---- calls

  -- An entry does what the run's does, if what follows it does.
  entry_reaches : (p : Program) (n : ℕ) (e : Event) (next : Load → Watched Expression) (m : Load → Machine) (k : List Frame) (s : Load)
      → ((s : Load) → Within n s → Reach watch p (continue (next s) k) (m s)) → Reach watch p (continue (entry_with watch (suc n) e next s) k) (entry_step watch (suc n) e m s)
  unfolding entry_with entry_step
  entry_reaches p n e next m k s f =
      once_reaches Any p (adds watch 16 s) _ _ k (adds-gives watch Any any-holds 16 s tt) (λ s₁ _.
      once_reaches (Within n) p (tells watch e (fewer n s₁)) next m k (tells-gives watch (Within n) (within-holds n) e (fewer n s₁) (omega arith)) f)

  call_reaches : (n m : ℕ) (p : Program) (f : Name) (v : Expression) (k : List Frame) (s : Load) → m ≤ n
      → Reach watch p (continue (entry watch (entered f v) (λ s. body watch (enter watch p) (sentences_of f p.functions) v s) (fewer m s)) k) (going (Task.calls f v) k (fewer m s))
  unfolding entry entry_with continue step entry_step
  call_reaches zero zero p f v k s h = more (here refl)
  call_reaches zero (suc m) p f v k s h = absurd (omega arith)
  call_reaches (suc n) zero p f v k s h = more (here refl)
  call_reaches (suc n) (suc m) p f v k s h =
      more (entry_reaches p m (entered f v) _ _ k (fewer (suc m) s) (λ s₁ i₁.
      body_reaches p n (λ g u j s i. subst (λ (x : Watched Expression). Reach watch p (continue x j) (going (Task.calls g u) j s)) (sym (enter_unfolds watch p g u s)) (call_reaches n s.calls p g u j s i))
      (sentences_of f p.functions) v k s₁ (omega (arith, i₁, h))))

  enter_reaches : (p : Program) (f : Name) (v : Expression) (k : List Frame) (s : Load) → Reach watch p (continue (enter watch p f v s) k) (going (Task.calls f v) k s)
  enter_reaches p f v k s = subst (λ (x : Watched Expression). Reach watch p (continue x k) (going (Task.calls f v) k s)) (sym (enter_unfolds watch p f v s)) (call_reaches s.calls s.calls p f v k s (omega arith))

  -- ---- whole runs

  -- With nothing waiting, the machine halts with what the part came to.
  finishes : (p : Program) (x : Watched Expression) (m : Machine) → Reach watch p (continue x []) m → Halts watch p m (watched_outcome watch x)
  unfolding continue watched_outcome the-watch.events_of stop_of step hand_step
  finishes p (gives v s) m r = record { load = s; events = refl; reached = reach_trans r (more (here refl)) }
  finishes p (stops e s) m r = record { load = s; events = refl; reached = r }

  root_reaches : (p : Program) (f : Function) (v : Expression) (n : ℕ) (s : Load)
      → Reach watch p (continue (entry_with watch n (entered f.name v) (λ s. choose watch (enter watch p) f.sentences v [] s) s) []) (entry_step watch n (entered f.name v) (λ s₁. going (Task.chooses f.sentences v []) [] s₁) s)
  unfolding entry_with entry_step continue
  root_reaches p f v zero s = here refl
  root_reaches p f v (suc n) s = entry_reaches p n (entered f.name v) _ _ [] s (λ s₁ i₁. choose-reaches p n (λ g u k s i. enter_reaches p g u k s) f.sentences v [] [] s₁ tt i₁)

  start_reaches : (p : Program) (o : Option Function) (v : Expression) (s : Load) → Reach watch p (continue (enter_root watch p o v s) []) (start_at watch o v s)
  unfolding enter_root start_at continue entry
  start_reaches p none v s = here refl
  start_reaches p (some f) v s = root_reaches p f v s.calls s

  pub machine_run : (p : Program) (input : Expression) (answers : List Expression) (limit : ℕ) → Halts watch p (start watch p input answers limit) (watched_run watch p input answers limit)
  unfolding start watched_run
  machine_run p input answers limit =
      let s : Load = record { calls = limit; answers = answers; events = []; weight = bytes_of input } in
      finishes p (enter_root watch p (root p) input s) (start_at watch (root p) input s) (start_reaches p (root p) input s)
