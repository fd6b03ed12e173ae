-- What cleaning leaves of a program is the program with some of its sentences left out.
use Prim.Native.Nat.{ℕ, zero, suc, ◌+◌, ◌≤◌, ◌<◌}
use native.Mathlib.Omega.{arith}
use mathlib.Core.Path.{◌≡◌, refl, sym, ap, ◌∙◌}
use mathlib.Core.Bool.{Bool, true, false, ◌&&◌, not, cond}
use mathlib.Core.List.{List, [], map}
use mathlib.Core.Option.{some, some-injective}
use lib.Dec.{ltb}
use lib.ListN.{get_elem?}
use borrow.Author.Tests.{ltb-true, ltb-false}
use Rattle.program.specs.Syntax.{Function, Program}
use Rattle.program.specs.Encode.{own_sentence_count}
use Rattle.program.specs.Sentences.{Sentence, own_sentences}
use Rattle.meaning.specs.Sites.{Site, program_sites}
use Rattle.meaning.specs.Dispatch.{residual_dispatches_dynamically}
use Rattle.program.proofs.Own.{own-counted}
use Rattle.told.specs.Numbered.{sentences_before, sites_of}
use Rattle.index.proofs.First.{Element, element_at, element_same}
use Rattle.meaning.specs.Root.{root_place}
use Rattle.meaning.specs.Cleaning.{changes, round, changed, left_by, drops_nothing, rounds_up_to, rounds_of, is_root, rounds, after, clean_residual_program}
use Rattle.told.specs.Kept.{kept_functions, kept_program}
use Rattle.told.specs.History.{FunctionsLeft}
use Rattle.cleaning.specs.RoundDone.{rejects_in, some_in}
use Rattle.told.proofs.Kept.{all-kept}
use Rattle.told.proofs.KeptSites.{kept-sites}
use Rattle.told.proofs.History.{changed-functions}
use Rattle.cleaning.proofs.Owned.{before-next, before_most, before-later, own_element, Owner, owner}
use Rattle.cleaning.proofs.RoundDone.{sentences-left, LeftAt, moved, functions-left}

-- A sentence has one function.
same_place : (fs : List Function) (s g h : ℕ) → sentences_before g fs ≤ s → s < sentences_before (suc g) fs → sentences_before h fs ≤ s → s < sentences_before (suc h) fs → g ≡ h
same_place fs s g h a b c d = by (ltb g h) refl (ltb h g) refl
  where
    by : (t : Bool) → ltb g h ≡ t → (u : Bool) → ltb h g ≡ u → g ≡ h
    by true e u f = absurd (omega (arith, b, c, before-later fs (suc g) h (ltb-true g h e)))
    by false e true f = absurd (omega (arith, d, a, before-later fs (suc h) g (ltb-true h g f)))
    by false e false f = omega (arith, ltb-false g h e, ltb-false h g f)

there : (fs : List Function) (s : ℕ) → s < own_sentence_count fs → Element (own_sentences fs) s
there fs s l = element_at (own_sentences fs) s (omega (arith, l, own-counted fs))

module _ (w : Program) (keep : ℕ → Bool) where
  -- Whether a round drops the sentence s.
  falls_at : (s : ℕ) → s < own_sentence_count w.functions → Bool
  falls_at s l =
      let o : Owner w.functions s = owner w.functions s l in
      let y : Element (own_sentences w.functions) s = there w.functions s l in
      rejects_in w keep o.place o.function y.element.pattern && some_in w keep o.place o.function

  falls_if : (s : ℕ) (t : Bool) → ltb s (own_sentence_count w.functions) ≡ t → Bool
  falls_if s true e = falls_at s (ltb-true s (own_sentence_count w.functions) e)
  falls_if s false e = false

  next : ℕ → Bool
  next s = keep s && not (falls_if s (ltb s (own_sentence_count w.functions)) refl)

  next-is : (s : ℕ) (g : ℕ) (x : Function) (y : Sentence) → get_elem? w.functions g ≡ some x → get_elem? (own_sentences w.functions) s ≡ some y → sentences_before g w.functions ≤ s → s < sentences_before (suc g) w.functions
      → next s ≡ (keep s && not (rejects_in w keep g x y.pattern && some_in w keep g x))
  unfolding next falls_if falls_at
  next-is s g x y e f a b = by (ltb s (own_sentence_count w.functions)) refl
    where
      by : (t : Bool) (q : ltb s (own_sentence_count w.functions) ≡ t) → (keep s && not (falls_if s t q)) ≡ (keep s && not (rejects_in w keep g x y.pattern && some_in w keep g x))
      by false q = absurd (omega (arith, b, before_most w.functions (suc g), ltb-false s (own_sentence_count w.functions) q))
      by true q =
          let l : s < own_sentence_count w.functions = ltb-true s (own_sentence_count w.functions) q in
          let o : Owner w.functions s = owner w.functions s l in
          let z : Element (own_sentences w.functions) s = there w.functions s l in
          let p : o.place ≡ g = same_place w.functions s o.place g o.from o.upto a b in
          let u : o.function ≡ x = some-injective o.function x (sym o.is ∙ (ap (get_elem? w.functions) p ∙ e)) in
          let v : z.element ≡ y = element_same (own_sentences w.functions) s z.element y z.is f in
          λ i. keep s && not (rejects_in w keep (p i) (u i) (v i).pattern && some_in w keep (p i) (u i))

  round-kept : left_by (round (is_root w) (kept_program keep w)) ≡ kept_program next w
  unfolding left_by round kept_program
  round-kept =
      let e : map changed (changes (is_root w) (program_sites (kept_program keep w)) 0 (kept_functions keep 0 w.functions)) ≡ kept_functions next 0 w.functions
      = ap (λ (l : List Site). map changed (changes (is_root w) l 0 (kept_functions keep 0 w.functions))) (sym (kept-sites keep w))
      ∙ changed-functions w keep next (sites_of w) 0 0 w.functions all_left in
      λ i. record { declarations = w.declarations; functions = e i }
    where
      own-left : (g : ℕ) (x : Function) → get_elem? w.functions g ≡ some x → LeftAt (root_place w) keep next (sites_of w) g (sentences_before g w.functions) x
      own-left g x e =
          sentences-left (rejects_in w keep g x) (some_in w keep g x) keep next (own_sentences w.functions) (sentences_before g w.functions) x.sentences (λ t l. own_element w.functions g x t e l)
          (λ s y a b f. next-is s g x y e f a (omega (arith, b, before-next w.functions g x e)))

      all_left : FunctionsLeft (root_place w) keep next (sites_of w) 0 0 w.functions
      all_left = functions-left (root_place w) keep next (sites_of w) w.functions 0 0 (λ g x e.
          moved (root_place w) keep next (sites_of w) x g (0 + g) (sentences_before g w.functions) (0 + sentences_before g w.functions) (omega arith) (omega arith) (own-left g x e))

-- Some of the sentences of w are left.
pub record LeftOf (w p : Program) : Type 0 where
  pub keep : ℕ → Bool
  pub is : p ≡ kept_program keep w

rounds-kept : (w : Program) (n : ℕ) (keep : ℕ → Bool) → LeftOf w (after (kept_program keep w) (rounds_up_to n (is_root w) (kept_program keep w)))
unfolding rounds_up_to after
rounds-kept w zero keep = record { keep = keep; is = refl }
rounds-kept w (suc n) keep = by (drops_nothing (round (is_root w) (kept_program keep w))) (rounds-kept w n (next w keep))
  where
    by : (t : Bool) → LeftOf w (after (kept_program (next w keep) w) (rounds_up_to n (is_root w) (kept_program (next w keep) w)))
        → LeftOf w (after (left_by (round (is_root w) (kept_program keep w))) (cond t [] (rounds_up_to n (is_root w) (left_by (round (is_root w) (kept_program keep w))))))
    by true h = record { keep = next w keep; is = round-kept w keep }
    by false h = record { keep = h.keep; is = ap (λ (p : Program). after p (rounds_up_to n (is_root w) p)) (round-kept w keep) ∙ h.is }

pub cleaned_left : (w : Program) → LeftOf w (clean_residual_program w)
unfolding clean_residual_program rounds rounds_of
cleaned_left w = by (residual_dispatches_dynamically w)
  where
    all : ℕ → Bool
    all s = true

    same : kept_program (λ s. true) w ≡ w
    same = all-kept (λ s. true) w (λ j l. refl)

    by : (t : Bool) → LeftOf w (after w (cond t [] (rounds_up_to (suc (own_sentence_count w.functions)) (is_root w) w)))
    by true = record { keep = λ s. true; is = unfold after in sym same }
    by false =
        let h = rounds-kept w (suc (own_sentence_count w.functions)) (λ s. true) in
        record { keep = h.keep; is = ap (λ (p : Program). after p (rounds_up_to (suc (own_sentence_count w.functions)) (is_root w) p)) (sym same) ∙ h.is }
