-- The sentences that fell, in order: which they are, and which of them are listed.
use Prim.Native.Nat.{◌+◌, ◌-◌, ◌<◌, suc, zero, ℕ, ◌≤◌}
use native.Mathlib.Omega.{arith}
use mathlib.Core.Bool.{◌&&◌, Bool, and-eq-true_iff, cond, false, false≢true, not, or-true, true, true≢false, ◌||◌}
use mathlib.Core.List.Memᴰ
use mathlib.Core.List.{◌++◌, List, Memᴰ, [], ◌∷◌}
use mathlib.Core.Logic.{◌↔◌, ◌⊎◌, inl, inr}
use mathlib.Core.Option.{some}
use mathlib.Core.Path.{◌≡◌, ap, ap₂, refl, subst, sym, ◌∙◌}
use borrow.Author.Tests.{eq-eqb, eqb-false, eqb-true, lt-ltb, ltb-true, ne_eqb}
use lib.Dec.{eqb, ltb}
use lib.ListN.{get_elem?}
use Rattle.cleaning.proofs.Meeting.{not_is}
use Rattle.cleaning.proofs.Owned.{before-next, own_element}
use Rattle.told.proofs.ReportLists.{fallen_new}
use Rattle.meaning.specs.Text.{format_terms}
use Rattle.told.specs.ToldReport.{Fallen, fallen_from, fallen_in, fallen_of, same_fallen}
use Rattle.cleaning.specs.Walks.{Owns}
use Rattle.program.specs.Encode.{sentence_count}
use Rattle.program.specs.Sentences.{Sentence, own_sentences, sentence_list}
use Rattle.program.specs.Syntax.{Function, Program, Sentences, empty, sentence}
use Rattle.index.proofs.First.{element_same}
use Rattle.told.specs.Numbered.{sentences_before}
use Rattle.report.specs.Removed.{NonePrinting, Printing, is_earlier, is_repeated, prints}
use Rattle.meaning.proofs.Earlier.{new_after}
use Rattle.meaning.proofs.Lists.{any_some, in_any}
use Rattle.meaning.specs.Lists.{any, firsts, select}
use Rattle.patterns.specs.Names.{eq_bytes, same_name}

-- ---- by round and number

module _ (u : Fallen) (r s : ℕ) where
  pub earlier-round : u.round < r → is_earlier r s u ≡ true
  unfolding is_earlier
  earlier-round h = ap (λ (t : Bool). t || (eqb u.round r && ltb u.number s)) (lt-ltb u.round r h)

  pub earlier-number : u.round ≡ r → u.number < s → is_earlier r s u ≡ true
  unfolding is_earlier
  earlier-number e h = ap₂ (λ (t v : Bool). ltb u.round r || (t && v)) (eq-eqb u.round r e) (lt-ltb u.number s h) ∙ or-true (ltb u.round r)

  -- It is earlier.
  abbrev Earlier : Type 0
  Earlier = (u.round < r) ⊎ ((u.round ≡ r) × (u.number < s))

  earlier_true : is_earlier r s u ≡ true → Earlier
  unfolding is_earlier
  earlier_true h = by (ltb u.round r) (eqb u.round r) (ltb u.number s) refl refl refl h
    where
      by : (a b c : Bool) → ltb u.round r ≡ a → eqb u.round r ≡ b → ltb u.number s ≡ c → (a || (b && c)) ≡ true → Earlier
      by true b c x y z g = inl (ltb-true u.round r x)
      by false true true x y z g = inr (eqb-true u.round r y, ltb-true u.number s z)
      by false true false x y z g = absurd (false≢true g)
      by false false c x y z g = absurd (false≢true g)

  earlier_false : (Earlier → ⊥) → is_earlier r s u ≡ false
  earlier_false h = by (is_earlier r s u) refl
    where
      by : (t : Bool) → is_earlier r s u ≡ t → t ≡ false
      by true e = absurd (h (earlier_true e))
      by false e = refl

abbrev Before : Fallen → Fallen → Type 0
Before u z = is_earlier z.round z.number u ≡ true

not_before : (u z : Fallen) → Before u z → is_earlier u.round u.number z ≡ false
not_before u z h = earlier_false z u.round u.number (λ k. by (earlier_true u z.round z.number h) k)
  where
    by : Earlier u z.round z.number → Earlier z u.round u.number → ⊥
    by (inl a) (inl b) = omega (arith, a, b)
    by (inl a) (inr b) = omega (arith, a, b.0)
    by (inr a) (inl b) = omega (arith, a.0, b)
    by (inr a) (inr b) = omega (arith, a.1, b.1)

not_itself : (u : Fallen) → is_earlier u.round u.number u ≡ false
not_itself u = earlier_false u u.round u.number (λ k. by k)
  where
    by : Earlier u u.round u.number → ⊥
    by (inl a) = omega (arith, a)
    by (inr a) = omega (arith, a.1)

-- ---- lists in order

abbrev Sorted : List Fallen → Type 0
Sorted [] = Unit {0}
Sorted (x ∷ l) = ((u : Fallen) → Memᴰ u l → Before x u) × Sorted l

sorted_append : (l m : List Fallen) → Sorted l → Sorted m → ((x u : Fallen) → Memᴰ x l → Memᴰ u m → Before x u) → Sorted (l ++ m)
sorted_append [] m s t h = t
sorted_append (x ∷ l) m s t h = (
  λ u k. by u (Memᴰ.append_cases l k),
  sorted_append l m s.1 t (λ y u a b. h y u (Memᴰ.tail a) b),
)
  where
    by : (u : Fallen) → Memᴰ u l ⊎ Memᴰ u m → Before x u
    by u (inl k) = s.0 u k
    by u (inr k) = h x u (Memᴰ.head refl) k

any_same : {A : Type 0} (test pass : A → Bool) (l : List A) → ((x : A) → Memᴰ x l → test x ≡ pass x) → any test l ≡ any pass l
unfolding any
any_same test pass [] h = refl
any_same test pass (x ∷ l) h = ap₂ (λ (t u : Bool). t || u) (h x (Memᴰ.head refl)) (any_same test pass l (λ y m. h y (Memᴰ.tail m)))

any_never : {A : Type 0} (test : A → Bool) (l : List A) → ((x : A) → Memᴰ x l → test x ≡ false) → any test l ≡ false
unfolding any
any_never test [] h = refl
any_never test (x ∷ l) h = ap (λ (t : Bool). t || any test l) (h x (Memᴰ.head refl)) ∙ any_never test l (λ y m. h y (Memᴰ.tail m))

module _ (full : List Fallen) where
  abbrev repeats : Fallen → Fallen → Bool
  repeats z u = is_earlier z.round z.number u && same_fallen u z

  sorted_new : (l earlier : List Fallen) → Sorted l → ((u z : Fallen) → Memᴰ u earlier → Memᴰ z l → Before u z) → ((test : Fallen → Bool) → any test full ≡ (any test earlier || any test l))
      → new_after same_fallen earlier l ≡ select (λ z. not (any (repeats z) full)) l
  unfolding new_after select any
  sorted_new [] earlier s h a = refl
  sorted_new (x ∷ l) earlier s h a =
      by (any (λ y. same_fallen y x) earlier) (any (repeats x) full) (sym (a (repeats x) ∙ whole))
      (sorted_new l (x ∷ earlier) s.1 (λ u z p q. before u z p q) (λ test. a test ∙ turned (any test earlier) (test x) (any test l)))
    where
      before : (u z : Fallen) → Memᴰ u (x ∷ earlier) → Memᴰ z l → Before u z
      before u z (Memᴰ.head q) m = subst (λ (v : Fallen). Before v z) (sym q) (s.0 z m)
      before u z (Memᴰ.tail p) m = h u z p (Memᴰ.tail m)

      turned : (p q r : Bool) → (p || (q || r)) ≡ ((q || p) || r)
      turned true true r = refl
      turned true false r = refl
      turned false true r = refl
      turned false false r = refl

      whole : (any (repeats x) earlier || (repeats x x || any (repeats x) l)) ≡ any (λ y. same_fallen y x) earlier
      whole =
          ap₂ (λ (t u : Bool). t || u) (any_same (repeats x) (λ y. same_fallen y x) earlier (λ u m. ap (λ (t : Bool). t && same_fallen u x) (h u x m (Memᴰ.head refl))))
          (ap₂ (λ (t u : Bool). t || u) (ap (λ (t : Bool). t && same_fallen x x) (not_itself x)) (any_never (repeats x) l (λ u m. ap (λ (t : Bool). t && same_fallen u x) (not_before x u (s.0 u m)))))
          ∙ or_false (any (λ y. same_fallen y x) earlier)
        where
          or_false : (t : Bool) → (t || false) ≡ t
          or_false true = refl
          or_false false = refl

      by : (t u : Bool) → t ≡ u → {a b : List Fallen} → a ≡ b → cond t a (x ∷ a) ≡ cond (not u) (x ∷ b) b
      by true true e g = g
      by true false e g = absurd (true≢false e)
      by false true e g = absurd (false≢true e)
      by false false e g = ap (λ (m : List Fallen). x ∷ m) g

-- ---- which they are

-- What is in the list of a function's own that fell.
pub record InOf (fell : ℕ → ℕ) (r : ℕ) (x : Function) (i : ℕ) (b : Sentences) (z : Fallen) : Type 0 where
  pub round_is : z.round ≡ r
  pub function-is : z.function ≡ x
  pub from : i ≤ z.number
  pub upto : z.number < i + sentence_count b
  pub fell-is : fell z.number ≡ r
  pub sentence-is : get_elem? (sentence_list b) (z.number - i) ≡ some z.sentence

module _ (fell : ℕ → ℕ) (r : ℕ) (x : Function) where
  in_of : (b : Sentences) (i : ℕ) (z : Fallen) → Memᴰ z (fallen_of fell r x i b) → InOf fell r x i b z
  unfolding fallen_of sentence_count sentence_list
  in_of empty i z m = absurd (Memᴰ.not-nil m)
  in_of (sentence h p c q b) i z m = by (eqb (fell i) r) refl m (in_of b (suc i) z)
    where
      first : Fallen
      first = record { round = r; function = x; number = i; sentence = record { head = h; pattern = p; conditions = c; result = q } }

      later : InOf fell r x (suc i) b z → InOf fell r x i (sentence h p c q b) z
      later o =
          let k : z.number - i ≡ suc (z.number - suc i) = omega (arith, o.from) in
          record {
            round_is = o.round_is;
            function-is = o.function-is;
            from = omega (arith, o.from);
            upto = omega (arith, o.upto);
            fell-is = o.fell-is;
            sentence-is = ap (get_elem? (sentence_list (sentence h p c q b))) k ∙ o.sentence-is;
          }

      here : fell i ≡ r → InOf fell r x i (sentence h p c q b) first
      here e =
          let k : i - i ≡ 0 = omega arith in
          record {
            round_is = refl;
            function-is = refl;
            from = omega arith;
            upto = omega arith;
            fell-is = e;
            sentence-is = ap (get_elem? (sentence_list (sentence h p c q b))) k;
          }

      by : (t : Bool) → eqb (fell i) r ≡ t → Memᴰ z (cond t (first ∷ fallen_of fell r x (suc i) b) (fallen_of fell r x (suc i) b)) → (Memᴰ z (fallen_of fell r x (suc i) b) → InOf fell r x (suc i) b z) → InOf fell r x i (sentence h p c q b) z
      by true e (Memᴰ.head g) ih = subst (λ (y : Fallen). InOf fell r x i (sentence h p c q b) y) (sym g) (here (eqb-true (fell i) r e))
      by true e (Memᴰ.tail k) ih = later (ih k)
      by false e k ih = later (ih k)

  of_in : (b : Sentences) (i t : ℕ) (y : Sentence) → get_elem? (sentence_list b) t ≡ some y → fell (i + t) ≡ r → Memᴰ (record { round = r; function = x; number = i + t; sentence = y }) (fallen_of fell r x i b)
  unfolding fallen_of sentence_list
  of_in empty i t y e g = let z : ◌≡◌ {A = ℕ} 0 1 = cc in absurd (omega arith)
  of_in (sentence h p c q b) i zero y e g = by (eqb (fell i) r) refl
    where
      first : Sentence
      first = record { head = h; pattern = p; conditions = c; result = q }

      n : i + 0 ≡ i
      n = omega arith

      by : (t : Bool) → eqb (fell i) r ≡ t → Memᴰ (record { round = r; function = x; number = i + 0; sentence = y }) (cond t (record { round = r; function = x; number = i; sentence = first } ∷ fallen_of fell r x (suc i) b) (fallen_of fell r x (suc i) b))
      by true k = Memᴰ.head (ap₂ (λ (j : ℕ) (s : Sentence). record { round = r; function = x; number = j; sentence = s }) n (sym (element_same (first ∷ sentence_list b) 0 first y refl e)))
      by false k = absurd (eqb-false (fell i) r k (ap fell (sym n) ∙ g))
  of_in (sentence h p c q b) i (suc t) y e g =
      by (eqb (fell i) r) (record { round = r; function = x; number = i; sentence = record { head = h; pattern = p; conditions = c; result = q } }) (Memᴰ.cast (ap (λ (j : ℕ). record { round = r; function = x; number = j; sentence = y }) n) (of_in b (suc i) t y e (ap fell (sym n) ∙ g)))
    where
      n : i + suc t ≡ suc i + t
      n = omega arith

      by : (v : Bool) (o : Fallen) {z : Fallen} → Memᴰ z (fallen_of fell r x (suc i) b) → Memᴰ z (cond v (o ∷ fallen_of fell r x (suc i) b) (fallen_of fell r x (suc i) b))
      by true o k = Memᴰ.tail k
      by false o k = k

  sorted_of : (b : Sentences) (i : ℕ) → Sorted (fallen_of fell r x i b)
  unfolding fallen_of
  sorted_of empty i = tt
  sorted_of (sentence h p c q b) i = by (eqb (fell i) r) (sorted_of b (suc i))
    where
      first : Fallen
      first = record { round = r; function = x; number = i; sentence = record { head = h; pattern = p; conditions = c; result = q } }

      by : (t : Bool) → Sorted (fallen_of fell r x (suc i) b) → Sorted (cond t (first ∷ fallen_of fell r x (suc i) b) (fallen_of fell r x (suc i) b))
      by true s = (λ u m. let o = in_of b (suc i) u m in earlier-number first u.round u.number (sym o.round_is) (omega (arith, o.from)), s)
      by false s = s

-- The same of all functions, the first of them with the first sentence i.
pub record InAll (fell : ℕ → ℕ) (r i : ℕ) (fs : List Function) (z : Fallen) : Type 0 where
  pub place : ℕ
  pub base : ℕ
  pub base_is : base ≡ i + sentences_before place fs
  pub is : get_elem? fs place ≡ some z.function
  pub own : InOf fell r z.function base z.function.sentences z

module _ (fell : ℕ → ℕ) (r : ℕ) where
  in_all : (fs : List Function) (i : ℕ) (z : Fallen) → Memᴰ z (fallen_in fell r i fs) → InAll fell r i fs z
  unfolding fallen_in sentences_before
  in_all [] i z m = absurd (Memᴰ.not-nil m)
  in_all (x ∷ fs) i z m = by (Memᴰ.append_cases (fallen_of fell r x i x.sentences) m) (in_all fs (i + sentence_count x.sentences) z)
    where
      by : Memᴰ z (fallen_of fell r x i x.sentences) ⊎ Memᴰ z (fallen_in fell r (i + sentence_count x.sentences) fs) → (Memᴰ z (fallen_in fell r (i + sentence_count x.sentences) fs) → InAll fell r (i + sentence_count x.sentences) fs z)
          → InAll fell r i (x ∷ fs) z
      by (inl k) ih =
          let o = in_of fell r x x.sentences i z k in
          record {
            place = 0;
            base = i;
            base_is = omega arith;
            is = ap some (sym o.function-is);
            own = subst (λ (y : Function). InOf fell r y i y.sentences z) (sym o.function-is) o;
          }
      by (inr k) ih =
          let o = ih k in
          record { place = suc o.place; base = o.base; base_is = omega (arith, o.base_is); is = o.is; own = o.own }

  all_in : (fs : List Function) (i g : ℕ) (x : Function) (z : Fallen) → get_elem? fs g ≡ some x → Memᴰ z (fallen_of fell r x (i + sentences_before g fs) x.sentences) → Memᴰ z (fallen_in fell r i fs)
  unfolding fallen_in sentences_before
  all_in [] i g x z e m = let q : ◌≡◌ {A = ℕ} 0 1 = cc in absurd (omega arith)
  all_in (y ∷ fs) i zero x z e m =
      let q : x ≡ y = element_same (y ∷ fs) 0 x y e refl in
      let k : i + 0 ≡ i = omega arith in
      Memᴰ.append_left (fallen_in fell r (i + sentence_count y.sentences) fs) (subst (λ (v : Function). Memᴰ z (fallen_of fell r v i v.sentences)) q (subst (λ (n : ℕ). Memᴰ z (fallen_of fell r x n x.sentences)) k m))
  all_in (y ∷ fs) i (suc g) x z e m =
      let k : i + (sentence_count y.sentences + sentences_before g fs) ≡ (i + sentence_count y.sentences) + sentences_before g fs = omega arith in
      Memᴰ.append_right (fallen_of fell r y i y.sentences) (all_in fs (i + sentence_count y.sentences) g x z e (subst (λ (n : ℕ). Memᴰ z (fallen_of fell r x n x.sentences)) k m))

  sorted_all : (fs : List Function) (i : ℕ) → Sorted (fallen_in fell r i fs)
  unfolding fallen_in
  sorted_all [] i = tt
  sorted_all (x ∷ fs) i =
      sorted_append (fallen_of fell r x i x.sentences) (fallen_in fell r (i + sentence_count x.sentences) fs) (sorted_of fell r x x.sentences i) (sorted_all fs (i + sentence_count x.sentences))
      (λ u z p q.
      let o = in_of fell r x x.sentences i u p in
      let a = in_all fs (i + sentence_count x.sentences) z q in
      earlier-number u z.round z.number (o.round_is ∙ sym a.own.round_is) (omega (arith, o.upto, a.own.from, a.base_is)))

module _ (w : Program) (fell : ℕ → ℕ) where
  -- What is in the list of n rounds, the first of them r.
  pub in_rounds : (n r : ℕ) (z : Fallen) → Memᴰ z (fallen_from w fell r n) → (r ≤ z.round) × (z.round < r + n) × InAll fell z.round 0 w.functions z
  unfolding fallen_from
  in_rounds zero r z m = absurd (Memᴰ.not-nil m)
  in_rounds (suc n) r z m = by (Memᴰ.append_cases (fallen_in fell r 0 w.functions) m) (in_rounds n (suc r) z)
    where
      by : Memᴰ z (fallen_in fell r 0 w.functions) ⊎ Memᴰ z (fallen_from w fell (suc r) n) → (Memᴰ z (fallen_from w fell (suc r) n) → (suc r ≤ z.round) × (z.round < suc r + n) × InAll fell z.round 0 w.functions z)
          → (r ≤ z.round) × (z.round < r + suc n) × InAll fell z.round 0 w.functions z
      by (inl k) ih =
          let a = in_all fell r w.functions 0 z k in
          (omega (arith, a.own.round_is), omega (arith, a.own.round_is), subst (λ (q : ℕ). InAll fell q 0 w.functions z) (sym a.own.round_is) a)
      by (inr k) ih = let a = ih k in (omega (arith, a.0), omega (arith, a.1), a.2)

  rounds_in : (n r q : ℕ) (z : Fallen) → r ≤ q → q < r + n → Memᴰ z (fallen_in fell q 0 w.functions) → Memᴰ z (fallen_from w fell r n)
  unfolding fallen_from
  rounds_in zero r q z a b m = absurd (omega (arith, a, b))
  rounds_in (suc n) r q z a b m = by (eqb q r) refl (λ c. rounds_in n (suc r) q z c (omega (arith, b)) m)
    where
      by : (t : Bool) → eqb q r ≡ t → (suc r ≤ q → Memᴰ z (fallen_from w fell (suc r) n)) → Memᴰ z (fallen_in fell r 0 w.functions ++ fallen_from w fell (suc r) n)
      by true e ih = Memᴰ.append_left (fallen_from w fell (suc r) n) (subst (λ (k : ℕ). Memᴰ z (fallen_in fell k 0 w.functions)) (eqb-true q r e) m)
      by false e ih = let h = eqb-false q r e in Memᴰ.append_right (fallen_in fell r 0 w.functions) (ih (omega (arith, a, h)))

  sorted_rounds : (n r : ℕ) → Sorted (fallen_from w fell r n)
  unfolding fallen_from
  sorted_rounds zero r = tt
  sorted_rounds (suc n) r =
      sorted_append (fallen_in fell r 0 w.functions) (fallen_from w fell (suc r) n) (sorted_all fell r w.functions 0) (sorted_rounds n (suc r))
      (λ u z p q. earlier-round u z.round z.number (omega (arith, (in_all fell r w.functions 0 u p).own.round_is, (in_rounds n (suc r) z q).0)))

  pub first_fallen : (n : ℕ) → firsts same_fallen (fallen_from w fell 1 n) ≡ select (λ z. not (is_repeated w fell n z)) (fallen_from w fell 1 n)
  unfolding is_repeated any
  first_fallen n =
      fallen_new (fallen_from w fell 1 n)
      ∙ sorted_new (fallen_from w fell 1 n) (fallen_from w fell 1 n) [] (sorted_rounds n 1) (λ u z p q. absurd (Memᴰ.not-nil p)) (λ test. refl)

-- ---- a sentence that fell, by function and number

-- The sentence s among its function's own.
pub owned_element : (w : Program) (f : ℕ) (x : Function) (s : ℕ) (y : Sentence) → Owns w f x s y → get_elem? (sentence_list x.sentences) (s - sentences_before f w.functions) ≡ some y
owned_element w f x s y o =
    let j : ℕ = s - sentences_before f w.functions in
    let k : s ≡ sentences_before f w.functions + j = omega (arith, o.from) in
    sym (own_element w.functions f x j o.function (omega (arith, o.from, o.upto, before-next w.functions f x o.function))) ∙ ap (get_elem? (own_sentences w.functions)) (sym k) ∙ o.sentence

pub record FallenHere (w : Program) (fell : ℕ → ℕ) (n : ℕ) (z : Fallen) : Type 0 where
  pub place : ℕ
  pub owns : Owns w place z.function z.number z.sentence
  pub fell-is : fell z.number ≡ z.round
  pub some-round : 0 < z.round
  pub upto : z.round ≤ n

module _ (w : Program) (fell : ℕ → ℕ) (n : ℕ) where
  pub fallen_here : (z : Fallen) → Memᴰ z (fallen_from w fell 1 n) → FallenHere w fell n z
  fallen_here z m =
      let a = in_rounds w fell n 1 z m in
      let o = a.2.own in
      let t : ℕ = z.number - a.2.base in
      let k : z.number ≡ sentences_before a.2.place w.functions + t = omega (arith, a.2.base_is, o.from) in
      let e = before-next w.functions a.2.place z.function a.2.is in
      record {
        place = a.2.place;
        owns = record {
          function = a.2.is;
          sentence = ap (get_elem? (own_sentences w.functions)) k ∙ own_element w.functions a.2.place z.function t a.2.is (omega (arith, o.upto, o.from)) ∙ o.sentence-is;
          from = omega (arith, a.2.base_is, o.from);
          upto = omega (arith, a.2.base_is, o.upto, e);
        };
        fell-is = o.fell-is;
        some-round = omega (arith, a.0);
        upto = omega (arith, a.1);
      }

  pub here_fallen : (g : ℕ) (x : Function) (t : ℕ) (u : Sentence) → Owns w g x t u → 0 < fell t → fell t ≤ n → Memᴰ (record { round = fell t; function = x; number = t; sentence = u }) (fallen_from w fell 1 n)
  here_fallen g x t u o p q =
      let i : ℕ = sentences_before g w.functions in
      let j : ℕ = t - i in
      let k : t ≡ i + j = omega (arith, o.from) in
      let z : 0 + i ≡ i = omega arith in
      rounds_in w fell n 1 (fell t) (record { round = fell t; function = x; number = t; sentence = u }) (omega (arith, p)) (omega (arith, q))
      (all_in fell (fell t) w.functions 0 g x (record { round = fell t; function = x; number = t; sentence = u }) o.function
      (subst (λ (v : ℕ). Memᴰ (record { round = fell t; function = x; number = t; sentence = u }) (fallen_of fell (fell t) x v x.sentences)) (sym z)
      (Memᴰ.cast (ap (λ (v : ℕ). record { round = fell t; function = x; number = v; sentence = u }) k) (of_in fell (fell t) x x.sentences i j u (owned_element w g x t u o) (ap fell (sym k))))))

  module _ (z : Fallen) where
    -- An earlier sentence with the same function name and text.
    pub record Repeating : Type 0 where
      pub place : ℕ
      pub function : Function
      pub number : ℕ
      pub sentence : Sentence
      pub owns : Owns w place function number sentence
      pub some-round : 0 < fell number
      pub upto : fell number ≤ n
      pub earlier : is_earlier z.round z.number (record { round = fell number; function = function; number = number; sentence = sentence }) ≡ true
      pub name : same_name function.name z.function.name ≡ true
      pub text : eq_bytes (format_terms sentence.pattern) (format_terms z.sentence.pattern) ≡ true

    pub repeated_by : Repeating → is_repeated w fell n z ≡ true
    unfolding is_repeated same_fallen
    repeated_by o =
        let u : Fallen = record { round = fell o.number; function = o.function; number = o.number; sentence = o.sentence } in
        in_any (λ v. is_earlier z.round z.number v && same_fallen v z) (fallen_from w fell 1 n) u (here_fallen o.place o.function o.number o.sentence o.owns o.some-round o.upto)
        ((and-eq-true_iff (is_earlier z.round z.number u) (same_fallen u z)).1 (o.earlier, (and-eq-true_iff (same_name o.function.name z.function.name) (eq_bytes (format_terms o.sentence.pattern) (format_terms z.sentence.pattern))).1 (o.name, o.text)))

    repeating_is : (u : Fallen) → FallenHere w fell n u → is_earlier z.round z.number u ≡ true → same_fallen u z ≡ true → Repeating
    unfolding is_earlier same_fallen
    repeating_is u o e f =
        let s = (and-eq-true_iff (same_name u.function.name z.function.name) (eq_bytes (format_terms u.sentence.pattern) (format_terms z.sentence.pattern))).0 f in
        record {
          place = o.place;
          function = u.function;
          number = u.number;
          sentence = u.sentence;
          owns = o.owns;
          some-round = omega (arith, o.some-round, o.fell-is);
          upto = omega (arith, o.upto, o.fell-is);
          earlier = ap (λ (k : ℕ). ltb k z.round || (eqb k z.round && ltb u.number z.number)) o.fell-is ∙ e;
          name = s.0;
          text = s.1;
        }

    pub repeated_some : is_repeated w fell n z ≡ true → Repeating
    unfolding is_repeated
    repeated_some e =
        let s = any_some (λ u. (is_earlier z.round z.number u && same_fallen u z) ≡ true) (λ u. is_earlier z.round z.number u && same_fallen u z) (fallen_from w fell 1 n) e (λ u t. t) in
        let h = (and-eq-true_iff (is_earlier z.round z.number s.0) (same_fallen s.0 z)).0 s.2 in
        repeating_is s.0 (fallen_here s.0 s.1) h.0 h.1

    -- "listed once": exactly if an earlier one with the same name and text fell.
    pub repeated_exactly : (is_repeated w fell n z ≡ true) ↔ Repeating
    repeated_exactly = (repeated_some, repeated_by)

    -- The same as a loop tells it.
    pub repeated_printing : (g : ℕ) (x : Function) → get_elem? w.functions g ≡ some x → same_name x.name z.function.name ≡ true → ((t : ℕ) → fell t ≤ n)
        → Printing fell z.round z.number z.sentence.pattern (own_sentences w.functions) (sentences_before g w.functions) (sentences_before (suc g) w.functions) → is_repeated w fell n z ≡ true
    unfolding prints is_earlier
    repeated_printing g x e s h o =
        let t = o.number in
        let a = (and-eq-true_iff (not (eqb (fell t) 0) && (ltb (fell t) z.round || (eqb (fell t) z.round && ltb t z.number))) (eq_bytes (format_terms o.sentence.pattern) (format_terms z.sentence.pattern))).0 o.printed in
        let b = (and-eq-true_iff (not (eqb (fell t) 0)) (ltb (fell t) z.round || (eqb (fell t) z.round && ltb t z.number))).0 a.0 in
        repeated_by (record {
          place = g;
          function = x;
          number = t;
          sentence = o.sentence;
          owns = record { function = e; sentence = o.is; from = o.later; upto = o.before };
          some-round = let k = eqb-false (fell t) 0 (not_is (eqb (fell t) 0) true b.0) in omega (arith, k);
          upto = h t;
          earlier = b.1;
          name = s;
          text = a.1;
        })

    pub repeated_never : ((g : ℕ) (x : Function) → get_elem? w.functions g ≡ some x → same_name x.name z.function.name ≡ true
        → NonePrinting fell z.round z.number z.sentence.pattern (own_sentences w.functions) (sentences_before g w.functions) (sentences_before (suc g) w.functions)) → is_repeated w fell n z ≡ false
    unfolding prints is_earlier
    repeated_never h = by (is_repeated w fell n z) refl
      where
        never : Repeating → ⊥
        never o =
            let t = o.number in
            let f = h o.place o.function o.owns.function o.name t o.sentence o.owns.from o.owns.upto o.owns.sentence in
            let p = (and-eq-true_iff (not (eqb (fell t) 0)) (ltb (fell t) z.round || (eqb (fell t) z.round && ltb t z.number))).1 (ap not (ne_eqb (fell t) 0 (λ k. omega (arith, o.some-round, k))), o.earlier) in
            let q = (and-eq-true_iff (not (eqb (fell t) 0) && (ltb (fell t) z.round || (eqb (fell t) z.round && ltb t z.number))) (eq_bytes (format_terms o.sentence.pattern) (format_terms z.sentence.pattern))).1 (p, o.text) in
            true≢false (sym q ∙ f)

        by : (t : Bool) → is_repeated w fell n z ≡ t → t ≡ false
        by true e = absurd (never (repeated_some e))
        by false e = refl
