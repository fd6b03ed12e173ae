-- The bound on nested calls is no limit of its own: a call does what its body says, with calls for callees. Of watched runs, and so of runs.
use Prim.Native.Nat.{ℕ, zero, suc, ◌≤◌}
use mathlib.Core.Path.{◌≡◌, refl}
use mathlib.Core.List.{List, [], ◌∷◌}
use mathlib.Core.Option.{Option, none, some}
use native.Mathlib.Omega.{arith}
use Rattle.program.specs.Syntax.{Name, Sentences, Program}
use Rattle.patterns.specs.Expression.{Expression}
use Rattle.meaning.specs.Run.{Event, entered, sentences_of}
use Rattle.meaning.specs.Watch.{Watch, Load, Watched, note, weighing, Callee, adds, tells, entry_with, entry, answer_from, body, enter_to, enter}
use Rattle.meaning.proofs.Congruence.{Any, Gives, Keeps, Holds, then_gives, then_same, adds-gives, tells-gives, choose-gives, choose-same}

-- At most k calls are left.
abbrev pub Within : ℕ → Load → Type 0
Within k s = s.calls ≤ k

pub within-holds : (k : ℕ) → Holds (Within k)
unfolding note weighing
within-holds k = record { noted = λ e s h. h; weighed = λ w s h. h }

answer_keeps : (k : ℕ) (l : List Expression) (s : Load) → Within k s → Gives (Within k) Any (answer_from l s)
unfolding answer_from
answer_keeps k [] s h = tt
answer_keeps k (v ∷ l) s h = (tt, h)

-- An entry tests and tells, and goes on with a call less.
abbrev after : ℕ → Load → Load
after n s = record { calls = n; answers = s.answers; events = s.events; weight = s.weight }

module _ (watch : Watch) where
  body_keeps : (k : ℕ) (c : Callee) → Keeps (Within k) c → (o : Option Sentences) (v : Expression) (s : Load) → Within k s → Gives (Within k) Any (body watch c o v s)
  unfolding body
  body_keeps k c h none v s w = answer_keeps k s.answers s w
  body_keeps k c h (some b) v s w = choose-gives watch (Within k) (within-holds k) c h b v [] s tt w

  pub entry_keeps : (k n : ℕ) (e : Event) (m : Load → Watched Expression) (s : Load) → n ≤ k → s.calls ≤ k → ((s : Load) → Within k s → Gives (Within k) Any (m s)) → Gives (Within k) Any (entry_with watch n e m s)
  unfolding entry_with
  entry_keeps k zero e m s w i h = tt
  entry_keeps k (suc n) e m s w i h =
      then_gives watch (Within k) (within-holds k) Any Any (adds watch 16 s) _ (adds-gives watch (Within k) (within-holds k) 16 s i) (λ _ s₁ _ i₁.
      then_gives watch (Within k) (within-holds k) Any Any (tells watch e (after n s₁)) _ (tells-gives watch (Within k) (within-holds k) e (after n s₁) (omega arith)) (λ _ s₂ _ i₂. h s₂ i₂))

  -- A call leaves no more calls than it found.
  keeps_to : (d k : ℕ) (p : Program) → Keeps (Within k) (enter_to watch d p)
  unfolding enter_to entry
  keeps_to zero k p f v s w = tt
  keeps_to (suc d) k p f v s w = entry_keeps k s.calls (entered f v) _ s w w (λ s₁ w₁. body_keeps k (enter_to watch d p) (keeps_to d k p) (sentences_of f p.functions) v s₁ w₁)

  pub enter_keeps : (k : ℕ) (p : Program) → Keeps (Within k) (enter watch p)
  unfolding enter
  enter_keeps k p f v s w = keeps_to s.calls k p f v s w

  body_depth : (k : ℕ) (c d : Callee) → Keeps (Within k) c → ((f : Name) (v : Expression) (s : Load) → Within k s → c f v s ≡ d f v s) → (o : Option Sentences) (v : Expression) (s : Load) → Within k s → body watch c o v s ≡ body watch d o v s
  unfolding body
  body_depth k c d h e none v s w = refl
  body_depth k c d h e (some b) v s w = choose-same watch (Within k) (within-holds k) c d h b v [] s tt w (λ x m u t i _. e x.callee u t i)

  entry_depth : (n : ℕ) (e : Event) (k m : Load → Watched Expression) (s : Load) → s.calls ≡ suc n → ((s : Load) → Within n s → k s ≡ m s) → entry_with watch (suc n) e k s ≡ entry_with watch (suc n) e m s
  unfolding entry_with
  entry_depth n e k m s q h =
      then_same watch (Within (suc n)) (within-holds (suc n)) Any (adds watch 16 s) _ _ (adds-gives watch (Within (suc n)) (within-holds (suc n)) 16 s (omega (arith, q))) (λ _ s₁ _ i₁.
      then_same watch (Within n) (within-holds n) Any (tells watch e (after n s₁)) _ _ (tells-gives watch (Within n) (within-holds n) e (after n s₁) (omega arith)) (λ _ s₂ _ i₂. h s₂ i₂))

  -- Bounds that are at least the calls left make no difference.
  depth : (d e n : ℕ) (p : Program) (f : Name) (v : Expression) (s : Load) → s.calls ≡ n → n ≤ d → n ≤ e → enter_to watch d p f v (after n s) ≡ enter_to watch e p f v (after n s)
  unfolding enter_to entry entry_with
  depth zero zero n p f v s q h k = refl
  depth zero (suc e) zero p f v s q h k = refl
  depth zero (suc e) (suc n) p f v s q h k = absurd (omega arith)
  depth (suc d) zero zero p f v s q h k = refl
  depth (suc d) zero (suc n) p f v s q h k = absurd (omega arith)
  depth (suc d) (suc e) zero p f v s q h k = refl
  depth (suc d) (suc e) (suc n) p f v s q h k =
      entry_depth n (entered f v) _ _ (after (suc n) s) refl (λ s₁ w.
      body_depth n (enter_to watch d p) (enter_to watch e p) (keeps_to d n p) (λ g u t i. depth d e t.calls p g u t refl (omega arith) (omega arith)) (sentences_of f p.functions) v s₁ w)

  pub enough : (d : ℕ) (p : Program) (f : Name) (v : Expression) (s : Load) → s.calls ≤ d → enter_to watch d p f v s ≡ enter watch p f v s
  unfolding enter
  enough d p f v s h = depth d s.calls s.calls p f v s refl h (omega arith)

  -- What a call is, with no bound.
  unfolded : (n : ℕ) (p : Program) (f : Name) (v : Expression) (s : Load) → enter_to watch n p f v (after n s) ≡ entry watch (entered f v) (λ s. body watch (enter watch p) (sentences_of f p.functions) v s) (after n s)
  unfolding enter_to entry entry_with
  unfolded zero p f v s = refl
  unfolded (suc n) p f v s =
      entry_depth n (entered f v) _ _ (after (suc n) s) refl (λ s₁ w.
      body_depth n (enter_to watch n p) (enter watch p) (keeps_to n n p) (λ g u t i. enough n p g u t i) (sentences_of f p.functions) v s₁ w)

  pub enter_unfolds : (p : Program) (f : Name) (v : Expression) (s : Load) → enter watch p f v s ≡ entry watch (entered f v) (λ s₁. body watch (enter watch p) (sentences_of f p.functions) v s₁) s
  unfolding enter
  enter_unfolds p f v s = unfolded s.calls p f v s
