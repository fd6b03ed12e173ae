-- A round goes on from one function to the next.
use Prim.Native.Nat.{ℕ, zero, suc, ◌+◌, ◌≤◌, ◌<◌}
use native.Mathlib.Omega.{arith}
use mathlib.Core.Path.{◌≡◌, refl, sym, ap, ap₂, ◌∙◌, subst}
use mathlib.Core.Bool.{Bool, true, false, ◌&&◌, ◌||◌, not, cond, true≢false, false≢true}
use mathlib.Core.List.{List}
use mathlib.Core.Option.{some, some-injective}
use lib.Dec.{eqb, leb, ltb}
use lib.ListN.{get_elem?}
use borrow.Author.Tests.{eqb-true, eqb-false, eq-eqb, ne_eqb, ltb-true, ltb-false, le-leb, lt-leb}
use Rattle.program.specs.Syntax.{Terms, Sentences, empty, sentence, Function, Program}
use Rattle.program.specs.Encode.{sentence_count, own_sentence_count}
use Rattle.program.specs.Sentences.{Sentence, sentence_list, own_sentences}
use Rattle.meaning.specs.Lists.{any}
use Rattle.told.specs.Numbered.{sentences_before, sites_of}
use Rattle.meaning.specs.Root.{root_place}
use Rattle.told.specs.Asked.{meets, is_judged, is_rejected}
use Rattle.told.specs.History.{is_there, some_accepted, rejects, some_number, some_fell}
use Rattle.cleaning.specs.Walks.{Owns}
use Rattle.cleaning.specs.RoundDone.{rejects_in, some_in, FunctionDone, RoundSoFar, is_met_by, OneMet, Changed}
use Rattle.cleaning.proofs.Owned.{before-next, before-later, own_element}

-- ---- tests on numbers

pub record SomeIn (test : ℕ → Bool) (i n : ℕ) : Type 0 where
  pub number : ℕ
  pub from : i ≤ number
  pub upto : number < i + n
  pub passes : test number ≡ true

pub some_in_lem : (test : ℕ → Bool) (i n : ℕ) → some_number test i n ≡ true → SomeIn test i n
unfolding some_number
some_in_lem test i zero e = absurd (false≢true e)
some_in_lem test i (suc n) e = by (test i) refl (λ h. some_in_lem test (suc i) n h) e
  where
    by : (t : Bool) → test i ≡ t → (some_number test (suc i) n ≡ true → SomeIn test (suc i) n) → (t || some_number test (suc i) n) ≡ true → SomeIn test i (suc n)
    by true h g f = record { number = i; from = omega arith; upto = omega arith; passes = h }
    by false h g f = let s = g f in record { number = s.number; from = omega (arith, s.from); upto = omega (arith, s.upto); passes = s.passes }

pub none_in : (test : ℕ → Bool) (i n : ℕ) → some_number test i n ≡ false → (s : ℕ) → i ≤ s → s < i + n → test s ≡ false
unfolding some_number
none_in test i zero e s a b = absurd (omega (arith, a, b))
none_in test i (suc n) e s a b = by (eqb s i) refl (test i) refl e (λ h k. none_in test (suc i) n h s k (omega (arith, b)))
  where
    by : (t : Bool) → eqb s i ≡ t → (u : Bool) → test i ≡ u → (u || some_number test (suc i) n) ≡ false → (some_number test (suc i) n ≡ false → suc i ≤ s → test s ≡ false) → test s ≡ false
    by t q true h f g = absurd (true≢false f)
    by true q false h f g = ap test (eqb-true s i q) ∙ h
    by false q false h f g = g f (different (eqb-false s i q))
      where
        different : (s ≡ i → ⊥) → suc i ≤ s
        different d = omega (arith, d, a)

pub has_number : (test : ℕ → Bool) (i n s : ℕ) → i ≤ s → s < i + n → test s ≡ true → some_number test i n ≡ true
has_number test i n s a b e = by (some_number test i n) refl
  where
    by : (t : Bool) → some_number test i n ≡ t → t ≡ true
    by true h = refl
    by false h = sym (none_in test i n h s a b) ∙ e

pub has_none : (test : ℕ → Bool) (i n : ℕ) → ((s : ℕ) → i ≤ s → s < i + n → test s ≡ false) → some_number test i n ≡ false
has_none test i n h = by (some_number test i n) refl
  where
    by : (t : Bool) → some_number test i n ≡ t → t ≡ false
    by false e = refl
    by true e = let s = some_in_lem test i n e in sym s.passes ∙ h s.number s.from s.upto

-- ---- whether a function has an accepted sentence

module _ (reject : Terms → Bool) (keep : ℕ → Bool) (own : List Sentence) where
  accepted-none : (i : ℕ) (b : Sentences) → ((t : ℕ) → t < sentence_count b → get_elem? own (i + t) ≡ get_elem? (sentence_list b) t)
      → ((s : ℕ) (y : Sentence) → i ≤ s → s < i + sentence_count b → get_elem? own s ≡ some y → keep s ≡ true → reject y.pattern ≡ true) → some_accepted reject keep i b ≡ false
  unfolding some_accepted sentence_count sentence_list
  accepted-none i empty al h = refl
  accepted-none i (sentence a p c r b) al h =
      let z : i ≡ i + 0 = omega arith in
      ap₂ (λ (t u : Bool). t || u) (by (keep i) refl (h i (record { head = a; pattern = p; conditions = c; result = r }) (omega arith) (omega arith) (ap (get_elem? own) z ∙ al 0 (omega arith))))
      (accepted-none (suc i) b (λ t l. let e : suc i + t ≡ i + suc t = omega arith in ap (get_elem? own) e ∙ al (suc t) (omega (arith, l))) (λ s y l k. h s y (omega (arith, l)) (omega (arith, k))))
    where
      by : (t : Bool) → keep i ≡ t → (keep i ≡ true → reject p ≡ true) → (t && not (reject p)) ≡ false
      by true e g = ap not (g e)
      by false e g = refl

  none-rejected : (i : ℕ) (b : Sentences) → ((t : ℕ) → t < sentence_count b → get_elem? own (i + t) ≡ get_elem? (sentence_list b) t) → some_accepted reject keep i b ≡ false
      → (s : ℕ) (y : Sentence) → i ≤ s → s < i + sentence_count b → get_elem? own s ≡ some y → keep s ≡ true → reject y.pattern ≡ true
  unfolding some_accepted sentence_count sentence_list
  none-rejected i empty al h s y l k e t = absurd (omega (arith, l, k))
  none-rejected i (sentence a p c r b) al h s y l k e t =
      by (eqb s i) refl (λ f m. none-rejected (suc i) b (λ t l. let e : suc i + t ≡ i + suc t = omega arith in ap (get_elem? own) e ∙ al (suc t) (omega (arith, l))) f s y m (omega (arith, k)) e t)
    where
      here : s ≡ i → some (record { head = a; pattern = p; conditions = c; result = r }) ≡ some y
      here q = let z : i + 0 ≡ s = omega (arith, q) in sym (al 0 (omega arith)) ∙ (ap (get_elem? own) z ∙ e)

      first : (u v w : Bool) → keep i ≡ u → u ≡ true → reject p ≡ v → ((u && not v) || w) ≡ false → reject p ≡ true
      first true true w f g q z = q
      first true false w f g q z = absurd (true≢false z)
      first false v w f g q z = absurd (false≢true g)

      later : (u w : Bool) → (u || w) ≡ false → w ≡ false
      later true w z = absurd (true≢false z)
      later false w z = z

      different : (s ≡ i → ⊥) → suc i ≤ s
      different d = omega (arith, d, l)

      by : (v : Bool) → eqb s i ≡ v → (some_accepted reject keep (suc i) b ≡ false → suc i ≤ s → reject y.pattern ≡ true) → reject y.pattern ≡ true
      by true q g = let i-is : s ≡ i = eqb-true s i q in
          sym (ap (λ (z : Sentence). reject z.pattern) (some-injective (record { head = a; pattern = p; conditions = c; result = r }) y (here i-is)))
          ∙ first (keep i) (reject p) (some_accepted reject keep (suc i) b) refl (sym (ap keep i-is) ∙ t) refl h
      by false q g = g (later (keep i && not (reject p)) (some_accepted reject keep (suc i) b) h) (different (eqb-false s i q))

  accepted-one : (i : ℕ) (b : Sentences) → ((t : ℕ) → t < sentence_count b → get_elem? own (i + t) ≡ get_elem? (sentence_list b) t)
      → (s : ℕ) (y : Sentence) → i ≤ s → s < i + sentence_count b → get_elem? own s ≡ some y → keep s ≡ true → reject y.pattern ≡ false → some_accepted reject keep i b ≡ true
  accepted-one i b al s y l k e t f = by (some_accepted reject keep i b) refl
    where
      by : (u : Bool) → some_accepted reject keep i b ≡ u → u ≡ true
      by true h = refl
      by false h = absurd (true≢false (sym (none-rejected i b al h s y l k e t) ∙ f))

-- ---- what a round does to a function

module _ (w : Program) (keep : ℕ → Bool) (f : ℕ) (x : Function) where
  pub rejects-root : f ≡ root_place w → (p : Terms) → rejects_in w keep f x p ≡ false
  unfolding rejects
  rejects-root e p = ap (λ (t : Bool). not t && is_rejected keep x.name (sites_of w) p) (eq-eqb f (root_place w) e)

  pub rejects_passed : is_judged keep x.name (sites_of w) ≡ false → (p : Terms) → rejects_in w keep f x p ≡ false
  unfolding rejects is_rejected
  rejects_passed e p = ap (λ (t : Bool). not (eqb f (root_place w)) && (t && not (any (meets keep x.name p) (sites_of w)))) e ∙ by (not (eqb f (root_place w)))
    where
      by : (t : Bool) → (t && false) ≡ false
      by true = refl
      by false = refl

  pub rejects_judged : (f ≡ root_place w → ⊥) → is_judged keep x.name (sites_of w) ≡ true → (p : Terms) → rejects_in w keep f x p ≡ not (any (meets keep x.name p) (sites_of w))
  unfolding rejects is_rejected
  rejects_judged d e p = ap₂ (λ (t u : Bool). not t && (u && not (any (meets keep x.name p) (sites_of w)))) (ne_eqb f (root_place w) d) e

  module _ (is : get_elem? w.functions f ≡ some x) where
    owns_range : (s : ℕ) (y : Sentence) → sentences_before f w.functions ≤ s → s < sentences_before f w.functions + sentence_count x.sentences → get_elem? (own_sentences w.functions) s ≡ some y → Owns w f x s y
    owns_range s y a b e = record { function = is; sentence = e; from = a; upto = omega (arith, b, before-next w.functions f x is) }

    -- None is accepted where none that is there is met; one is where one is.
    pub some-none : (f ≡ root_place w → ⊥) → is_judged keep x.name (sites_of w) ≡ true → ((s : ℕ) (y : Sentence) → Owns w f x s y → keep s ≡ true → is_met_by w keep x y ≡ false) → some_in w keep f x ≡ false
    some-none d j h =
        accepted-none (rejects_in w keep f x) keep (own_sentences w.functions) (sentences_before f w.functions) x.sentences (λ t l. own_element w.functions f x t is l)
        (λ s y a b e t. rejects_judged d j y.pattern ∙ ap not (h s y (owns_range s y a b e) t))

    pub some_one : (f ≡ root_place w → ⊥) → is_judged keep x.name (sites_of w) ≡ true → OneMet w keep f x → some_in w keep f x ≡ true
    some_one d j o =
        accepted-one (rejects_in w keep f x) keep (own_sentences w.functions) (sentences_before f w.functions) x.sentences (λ t l. own_element w.functions f x t is l)
        o.number o.sentence o.owns.from (omega (arith, o.owns.upto, before-next w.functions f x is)) o.owns.sentence o.there (rejects_judged d j o.sentence.pattern ∙ ap not o.met)

module _ (w : Program) (old : ℕ → ℕ) (r f : ℕ) (x : Function) (is : get_elem? w.functions f ≡ some x) where
  -- From the functions before f to f itself, if sentences of others are as they were.
  pub so_far-next : (one two : ℕ → ℕ) → RoundSoFar w old one r f → FunctionDone w old two r f x → ((s : ℕ) → s < sentences_before f w.functions → two s ≡ one s) → ((s : ℕ) → sentences_before (suc f) w.functions ≤ s → two s ≡ one s)
      → RoundSoFar w old two r (suc f)
  so_far-next one two h d before after = record { done = done; later = later }
    where
      earlier : (g : ℕ) (z : Function) → g < f → get_elem? w.functions g ≡ some z → FunctionDone w old two r g z
      earlier g z l e = record { fell = λ s y o. before s (omega (arith, o.upto, before-later w.functions (suc g) f l)) ∙ (h.done g z l e).fell s y o }

      own : (g : ℕ) (z : Function) → g ≡ f → get_elem? w.functions g ≡ some z → FunctionDone w old two r g z
      own g z q e =
          subst (λ (k : ℕ). FunctionDone w old two r k z) (sym q)
          (subst (λ (v : Function). FunctionDone w old two r f v) (some-injective x z (sym is ∙ (ap (get_elem? w.functions) (sym q) ∙ e))) d)

      done : (g : ℕ) (z : Function) → g < suc f → get_elem? w.functions g ≡ some z → FunctionDone w old two r g z
      done g z l e = by (ltb g f) refl
        where
          by : (t : Bool) → ltb g f ≡ t → FunctionDone w old two r g z
          by true q = earlier g z (ltb-true g f q) e
          by false q = own g z (omega (arith, l, ltb-false g f q)) e

      later : (s : ℕ) → sentences_before (suc f) w.functions ≤ s → two s ≡ old s
      later s l = after s l ∙ h.later s (omega (arith, l, before-next w.functions f x is))

  -- Nothing falls where nothing is rejected, or everything is.
  pub skipped : (new : ℕ → ℕ) → RoundSoFar w old new r f → ((s : ℕ) (y : Sentence) → Owns w f x s y → (rejects_in w (is_there old r) f x y.pattern && some_in w (is_there old r) f x) ≡ false) → RoundSoFar w old new r (suc f)
  skipped new h n = so_far-next new new h (record { fell = λ s y o. h.later s o.from ∙ sym (ap (λ (t : Bool). cond (is_there old r s && t) r (old s)) (n s y o) ∙ by (is_there old r s) s) }) (λ s l. refl) (λ s l. refl)
    where
      by : (t : Bool) (s : ℕ) → cond (t && false) r (old s) ≡ old s
      by true s = refl
      by false s = refl

-- ---- whether anything fell

module _ (w : Program) (old new : ℕ → ℕ) (r : ℕ) (positive : 0 < r) (below : (s : ℕ) → old s < r) where
  pub changed-falls : (changed : Bool) → Changed (own_sentence_count w.functions) old new r changed → changed ≡ some_fell w new r
  unfolding is_there
  changed-falls true c =
      let o = c.one refl in
      sym (has_number (λ s. is_there new r s && not (is_there new (suc r) s)) 0 (own_sentence_count w.functions) o.number (omega arith) (omega (arith, o.below)) (at o.number o.fell))
    where
      at : (s : ℕ) → new s ≡ r → (is_there new r s && not (is_there new (suc r) s)) ≡ true
      at s e = ap (λ (m : ℕ). (eqb m 0 || leb r m) && not (eqb m 0 || leb (suc r) m)) e
          ∙ (ap₂ (λ (t u : Bool). (eqb r 0 || t) && not (eqb r 0 || u)) (le-leb r r (omega arith)) (lt-leb (suc r) r (omega arith))
          ∙ ap (λ (t : Bool). (t || true) && not (t || false)) (ne_eqb r 0 (λ z. omega (arith, z, positive))))
  changed-falls false c = sym (has_none (λ s. is_there new r s && not (is_there new (suc r) s)) 0 (own_sentence_count w.functions) (λ s a b. at s (c.none refl s)))
    where
      neither : (t : Bool) → ((t || false) && not (t || false)) ≡ false
      neither true = refl
      neither false = refl

      at : (s : ℕ) → new s ≡ old s → (is_there new r s && not (is_there new (suc r) s)) ≡ false
      at s e = ap (λ (m : ℕ). (eqb m 0 || leb r m) && not (eqb m 0 || leb (suc r) m)) e
          ∙ (ap₂ (λ (t u : Bool). (eqb (old s) 0 || t) && not (eqb (old s) 0 || u)) (lt-leb r (old s) (below s)) (lt-leb (suc r) (old s) (omega (arith, below s))) ∙ neither (eqb (old s) 0))
