-- A round that is done with every function is the one that the numbers tell.
use Prim.Native.Nat.{ℕ, suc, ◌+◌, ◌≤◌, ◌<◌}
use native.Mathlib.Omega.{arith}
use mathlib.Core.Path.{◌≡◌, refl, sym, ap, ap₂, fun_ext, ◌∙◌, subst}
use mathlib.Core.Bool.{Bool, true, false, ◌&&◌, ◌||◌, not, cond, or-true}
use mathlib.Core.List.{List, [], ◌∷◌}
use mathlib.Core.Option.{some}
use lib.Dec.{eqb, leb, ltb}
use lib.ListN.{length, get_elem?}
use borrow.Author.Tests.{ltb-true, ltb-false, le-leb, lt-leb, ne_eqb}
use Rattle.program.specs.Syntax.{Terms, Sentences, empty, sentence, Function, Program}
use Rattle.program.specs.Encode.{sentence_count}
use Rattle.program.specs.Sentences.{Sentence, sentence_list, own_sentences}
use Rattle.told.specs.Numbered.{Held, sentences_before, sites_of}
use Rattle.program.proofs.Own.{own-counted}
use Rattle.index.proofs.First.{Element, element_at, element_below}
use Rattle.meaning.specs.Root.{root_place}
use Rattle.told.specs.History.{is_there, some_accepted, SentencesLeft, rejects, FunctionsLeft, RoundTold}
use Rattle.cleaning.specs.RoundDone.{rejects_in, some_in, RoundSoFar}
use Rattle.cleaning.proofs.Owned.{before-next, before_most, before-later, own_element, Owner, owner}

-- ---- from numbers to lists

pub sentences-left : (reject : Terms → Bool) (u : Bool) (keep next : ℕ → Bool) (own : List Sentence) (i : ℕ) (b : Sentences)
    → ((t : ℕ) → t < sentence_count b → get_elem? own (i + t) ≡ get_elem? (sentence_list b) t)
    → ((s : ℕ) (y : Sentence) → i ≤ s → s < i + sentence_count b → get_elem? own s ≡ some y → next s ≡ (keep s && not (reject y.pattern && u)))
    → SentencesLeft reject u keep next i b
unfolding sentence_list sentence_count
sentences-left reject u keep next own i empty at h = tt
sentences-left reject u keep next own i (sentence a p c r b) at h =
    let z : i ≡ i + 0 = omega arith in (
      h i (record { head = a; pattern = p; conditions = c; result = r }) (omega arith) (omega arith) (ap (get_elem? own) z ∙ at 0 (omega arith)),
      sentences-left reject u keep next own (suc i) b
          (λ t l. let e : suc i + t ≡ i + suc t = omega arith in ap (get_elem? own) e ∙ at (suc t) (omega (arith, l)))
          (λ s y l k. h s y (omega (arith, l)) (omega (arith, k))),
    )

module _ (root : ℕ) (keep next : ℕ → Bool) (sites : List Held) where
  -- What is left of the function x at place k, whose first sentence is number i.
  abbrev pub LeftAt : ℕ → ℕ → Function → Type 0
  LeftAt k i x = SentencesLeft (rejects root keep sites k x.name) (some_accepted (rejects root keep sites k x.name) keep i x.sentences) keep next i x.sentences

  pub moved : (x : Function) (k₁ k₂ i₁ i₂ : ℕ) → k₁ ≡ k₂ → i₁ ≡ i₂ → LeftAt k₁ i₁ x → LeftAt k₂ i₂ x
  moved x k₁ k₂ i₁ i₂ e f l = subst (λ (i : ℕ). LeftAt k₂ i x) f (subst (λ (k : ℕ). LeftAt k i₁ x) e l)

  pub functions-left : (fs : List Function) (k i : ℕ) → ((g : ℕ) (x : Function) → get_elem? fs g ≡ some x → LeftAt (k + g) (i + sentences_before g fs) x) → FunctionsLeft root keep next sites k i fs
  unfolding sentences_before
  functions-left [] k i h = tt
  functions-left (x ∷ fs) k i h = (
    moved x (k + 0) k (i + 0) i (omega arith) (omega arith) (h 0 x refl),
    functions-left fs (suc k) (i + sentence_count x.sentences) (λ g y e.
        moved y (k + suc g) (suc k + g) (i + (sentence_count x.sentences + sentences_before g fs)) ((i + sentence_count x.sentences) + sentences_before g fs) (omega arith) (omega arith) (h (suc g) y e)),
  )

-- ---- the round

module _ (w : Program) (old new : ℕ → ℕ) (r : ℕ) (positive : 0 < r) (below : (s : ℕ) → old s < r) where
  -- Where it fell in this round, or as it was.
  abbrev FellAs : ℕ → Bool → Type 0
  FellAs s t = new s ≡ cond (is_there old r s && t) r (old s)

  pub there-old : (s : ℕ) → is_there old r s ≡ eqb (old s) 0
  unfolding is_there
  there-old s = ap (λ (t : Bool). eqb (old s) 0 || t) (lt-leb r (old s) (below s)) ∙ or-none (eqb (old s) 0)
    where
      or-none : (t : Bool) → (t || false) ≡ t
      or-none true = refl
      or-none false = refl

  fell-below : (s : ℕ) (t : Bool) → FellAs s t → new s < suc r
  fell-below s t e = by (is_there old r s && t) e
    where
      by : (u : Bool) → new s ≡ cond u r (old s) → new s < suc r
      by true f = omega (arith, f)
      by false f = omega (arith, f, below s)

  -- It is there at the next round's start if it was, and did not fall.
  next-there : (s : ℕ) (t : Bool) → FellAs s t → is_there new (suc r) s ≡ (is_there old r s && not t)
  next-there s t e = by (is_there old r s) t refl (e)
    where
      at_new : (n : ℕ) → new s ≡ n → is_there new (suc r) s ≡ (eqb n 0 || leb (suc r) n)
      at_new n f = unfold is_there in ap (λ (m : ℕ). eqb m 0 || leb (suc r) m) f

      by : (u t : Bool) → is_there old r s ≡ u → new s ≡ cond (u && t) r (old s) → is_there new (suc r) s ≡ (u && not t)
      by true true e f = at_new r f ∙ ap₂ (λ (x y : Bool). x || y) (ne_eqb r 0 (λ z. omega (arith, z, positive))) (lt-leb (suc r) r (omega arith))
      by true false e f = at_new (old s) f ∙ ap (λ (x : Bool). x || leb (suc r) (old s)) (sym (there-old s) ∙ e)
      by false t e f = at_new (old s) f ∙ ap₂ (λ (x y : Bool). x || y) (sym (there-old s) ∙ e) (lt-leb (suc r) (old s) (omega (arith, below s)))

  -- Whether it was there at an earlier start is as before.
  same-there : (q s : ℕ) (t : Bool) → q ≤ r → FellAs s t → is_there new q s ≡ is_there old q s
  unfolding is_there
  same-there q s t l e = by (is_there old r s) t refl e
    where
      by : (u t : Bool) → is_there old r s ≡ u → new s ≡ cond (u && t) r (old s) → (eqb (new s) 0 || leb q (new s)) ≡ (eqb (old s) 0 || leb q (old s))
      by true true e f =
          ap (λ (m : ℕ). eqb m 0 || leb q m) f ∙ (ap (λ (x : Bool). eqb r 0 || x) (le-leb q r l) ∙ (or-true (eqb r 0) ∙ ap (λ (x : Bool). x || leb q (old s)) (sym (sym (there-old s) ∙ e))))
      by true false e f = ap (λ (m : ℕ). eqb m 0 || leb q m) f
      by false t e f = ap (λ (m : ℕ). eqb m 0 || leb q m) f

  -- Each sentence fell in this round, or is as it was: at whatever function the round is.
  module _ (f : ℕ) (h : RoundSoFar w old new r f) where
    record FellSome (s : ℕ) : Type 0 where
      pub test : Bool
      pub is : FellAs s test

    fell-some : (s : ℕ) → FellSome s
    fell-some s = by (ltb s (sentences_before f w.functions)) refl
      where
        none : (u : Bool) → old s ≡ cond (u && false) r (old s)
        none true = refl
        none false = refl

        earlier : (g : ℕ) → sentences_before g w.functions ≤ s → s < sentences_before f w.functions → (t : Bool) → ltb g f ≡ t → g < f
        earlier g a b true e = ltb-true g f e
        earlier g a b false e = absurd (omega (arith, a, b, before-later w.functions f g (ltb-false g f e)))

        by : (t : Bool) → ltb s (sentences_before f w.functions) ≡ t → FellSome s
        by false e = record { test = false; is = h.later s (ltb-false s (sentences_before f w.functions) e) ∙ none (is_there old r s) }
        by true e =
            let l : s < sentences_before f w.functions = ltb-true s (sentences_before f w.functions) e in
            let o : Owner w.functions s = owner w.functions s (omega (arith, l, before_most w.functions f)) in
            let y : Element (own_sentences w.functions) s = element_at (own_sentences w.functions) s (omega (arith, l, before_most w.functions f, own-counted w.functions)) in
            record {
              test = rejects_in w (is_there old r) o.place o.function y.element.pattern && some_in w (is_there old r) o.place o.function;
              is = (h.done o.place o.function (earlier o.place o.from l (ltb o.place f) refl) o.is).fell s y.element (record { function = o.is; sentence = y.is; from = o.from; upto = o.upto });
            }

    pub round-below : (s : ℕ) → new s < suc r
    round-below s = fell-below s (fell-some s).test (fell-some s).is

    pub round_same : (q : ℕ) → q ≤ r → is_there new q ≡ is_there old q
    round_same q l = fun_ext (λ s. same-there q s (fell-some s).test l (fell-some s).is)

  module _ (h : RoundSoFar w old new r (length w.functions)) where
    own-left : (g : ℕ) (x : Function) → get_elem? w.functions g ≡ some x → LeftAt (root_place w) (is_there old r) (is_there new (suc r)) (sites_of w) g (sentences_before g w.functions) x
    own-left g x e =
        sentences-left (rejects_in w (is_there old r) g x) (some_in w (is_there old r) g x) (is_there old r) (is_there new (suc r)) (own_sentences w.functions) (sentences_before g w.functions) x.sentences
        (λ t l. own_element w.functions g x t e l)
        (λ s y a b f.
        next-there s (rejects_in w (is_there old r) g x y.pattern && some_in w (is_there old r) g x)
        ((h.done g x (element_below w.functions g x e) e).fell s y (record { function = e; sentence = f; from = a; upto = omega (arith, b, before-next w.functions g x e) })))

    pub round-told : RoundTold w new r
    round-told =
        subst (λ (keep : ℕ → Bool). FunctionsLeft (root_place w) keep (is_there new (suc r)) (sites_of w) 0 0 w.functions) (sym (round_same (length w.functions) h r (omega arith)))
        (functions-left (root_place w) (is_there old r) (is_there new (suc r)) (sites_of w) w.functions 0 0 (λ g x e.
        moved (root_place w) (is_there old r) (is_there new (suc r)) (sites_of w) x g (0 + g) (sentences_before g w.functions) (0 + sentences_before g w.functions) (omega arith) (omega arith) (own-left g x e)))
