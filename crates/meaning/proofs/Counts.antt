-- What a round drops, by number: sentences before are those after and those dropped; a round that drops nothing changes nothing.
use Prim.Native.Nat.{ℕ, suc, ◌+◌, ◌≤◌, ◌<◌}
use mathlib.Core.Path.{◌≡◌, refl, ◌∙◌, ap}
use mathlib.Core.Bool.{Bool, true, false, ◌&&◌, true≢false, false≢true, and-eq-true_iff, cond}
use mathlib.Core.List.{List, [], ◌∷◌, map}
use lib.ListN.{length}
use native.Mathlib.Omega.{arith}
use Rattle.program.specs.Syntax.{Head, Terms, Conditions, Sentences, empty, sentence, Function, Program}
use Rattle.program.specs.Encode.{sentence_count, own_sentence_count}
use Rattle.program.specs.Sentences.{Sentence, sentence_list}
use Rattle.meaning.specs.Lists.{all, select}
use Rattle.meaning.specs.Sites.{Site, program_sites}
use Rattle.meaning.specs.Restrictions.{entering_restrictions}
use Rattle.meaning.specs.Counted.{dropped_count, has_any, functions_with_any}
use Rattle.meaning.specs.Cleaning.{Standing, standing, rejected, accepted, Change, kept_of, dropped_of, change, LeftAlone, changes, round, changed, left_by, is_none, drops_nothing}

-- ---- one function

-- The sentences that a round rejects.
abbrev rejected_of : Standing → Sentences → List Sentence
rejected_of j b = select (λ x. rejected j x.pattern) (sentence_list b)

split_cond : (t : Bool) (h : Head) (p : Terms) (c : Conditions) (r : Terms) (b a : Sentences) (x : Sentence) (l : List Sentence) → sentence_count b ≡ sentence_count a + length l
    → suc (sentence_count b) ≡ sentence_count (cond t a (sentence h p c r a)) + length (cond t (x ∷ l) l)
unfolding sentence_count
split_cond true h p c r b a x l e = omega arith
split_cond false h p c r b a x l e = omega arith

split_count : (j : Standing) (b : Sentences) → sentence_count b ≡ sentence_count (accepted j b) + length (rejected_of j b)
unfolding sentence_count accepted select sentence_list
split_count j empty = refl
split_count j (sentence h p c r b) =
    let e = split_cond (rejected j p) h p c r b (accepted j b) (record { head = h; pattern = p; conditions = c; result = r }) (rejected_of j b) (split_count j b) in
    omega (arith, e)

kept-count : (a b : Sentences) (l : List Sentence) → sentence_count b ≡ sentence_count a + length l → sentence_count b ≡ sentence_count (kept_of a b) + length (dropped_of a l)
unfolding kept_of dropped_of
kept-count empty b l e = omega arith
kept-count (sentence h p c r a) b l e = e

change-count : (j : Standing) (f : Function) → sentence_count f.sentences ≡ sentence_count (change j f).kept + length (change j f).dropped
unfolding change
change-count j f = kept-count (accepted j f.sentences) f.sentences (rejected_of j f.sentences) (split_count j f.sentences)

-- Where none is dropped, all are kept.
accepted_cond : (t : Bool) (h : Head) (p : Terms) (c : Conditions) (r : Terms) (b a : Sentences) (x : Sentence) (l : List Sentence) → is_none (cond t (x ∷ l) l) ≡ true → (is_none l ≡ true → a ≡ b)
    → cond t a (sentence h p c r a) ≡ sentence h p c r b
unfolding is_none
accepted_cond true h p c r b a x l e f = absurd (false≢true e)
accepted_cond false h p c r b a x l e f = ap (sentence h p c r) (f e)

all-accepted : (j : Standing) (b : Sentences) → is_none (rejected_of j b) ≡ true → accepted j b ≡ b
unfolding accepted select sentence_list
all-accepted j empty e = refl
all-accepted j (sentence h p c r b) e = accepted_cond (rejected j p) h p c r b (accepted j b) (record { head = h; pattern = p; conditions = c; result = r }) (rejected_of j b) e (all-accepted j b)

all-kept : (a b : Sentences) (l : List Sentence) → is_none (dropped_of a l) ≡ true → (is_none l ≡ true → a ≡ b) → kept_of a b ≡ b
unfolding kept_of dropped_of
all-kept empty b l e f = refl
all-kept (sentence h p c r a) b l e f = f e

unchanged : (j : Standing) (f : Function) → is_none (change j f).dropped ≡ true → changed (change j f) ≡ f
unfolding change changed
unchanged j f e =
    let k = all-kept (accepted j f.sentences) f.sentences (rejected_of j f.sentences) e (all-accepted j f.sentences) in
    λ i. record { span = f.span; visibility = f.visibility; name = f.name; sentences = k i }

-- ---- all functions

module _ (alone : LeftAlone) (sites : List Site) where
  functions-count : (i : ℕ) (fs : List Function) → own_sentence_count fs ≡ own_sentence_count (map changed (changes alone sites i fs)) + dropped_count (changes alone sites i fs)
  unfolding own_sentence_count changes changed dropped_count
  functions-count i [] = refl
  functions-count i (f ∷ fs) =
      let h = change-count (standing (alone i f) (entering_restrictions f.name sites)) f in
      let k = functions-count (suc i) fs in
      omega (arith, h, k)

  functions_unchanged : (i : ℕ) (fs : List Function) → all (λ c. is_none c.dropped) (changes alone sites i fs) ≡ true → map changed (changes alone sites i fs) ≡ fs
  unfolding changes all
  functions_unchanged i [] e = refl
  functions_unchanged i (f ∷ fs) e =
      let j = standing (alone i f) (entering_restrictions f.name sites) in
      let h = (and-eq-true_iff (is_none (change j f).dropped) (all (λ c. is_none c.dropped) (changes alone sites (suc i) fs))).0 e in
      let p = unchanged j f h.0 in let q = functions_unchanged (suc i) fs h.1 in
      λ i. p i ∷ q i

-- Where not all drop nothing, something is dropped.
one-dropped : (d : List Sentence) (t : Bool) (n : ℕ) → (is_none d && t) ≡ false → (t ≡ false → 1 ≤ n) → 1 ≤ length d + n
unfolding is_none
one-dropped [] t n e f = let h = f e in omega (arith, h)
one-dropped (x ∷ d) t n e f = omega arith

some-dropped : (l : List Change) → all (λ c. is_none c.dropped) l ≡ false → 1 ≤ dropped_count l
unfolding all dropped_count
some-dropped [] e = absurd (true≢false e)
some-dropped (c ∷ l) e = one-dropped c.dropped (all (λ c. is_none c.dropped) l) (dropped_count l) e (some-dropped l)

-- ---- a round

-- "sentences before equal those after plus those dropped"
pub round-count : (alone : LeftAlone) (p : Program) → own_sentence_count p.functions ≡ own_sentence_count (left_by (round alone p)).functions + dropped_count (round alone p).changes
unfolding left_by round
round-count alone p = functions-count alone (program_sites p) 0 p.functions

pub round_unchanged : (alone : LeftAlone) (p : Program) → drops_nothing (round alone p) ≡ true → left_by (round alone p) ≡ p
unfolding left_by round drops_nothing
round_unchanged alone p e =
    let k = functions_unchanged alone (program_sites p) 0 p.functions e in
    λ i. record { declarations = p.declarations; functions = k i }

pub round_fewer : (alone : LeftAlone) (p : Program) → drops_nothing (round alone p) ≡ false → own_sentence_count (left_by (round alone p)).functions < own_sentence_count p.functions
unfolding drops_nothing
round_fewer alone p e =
    let h = round-count alone p in let k = some-dropped (round alone p).changes e in
    omega (arith, h, k)

any-kept : (a : Sentences) (h : Head) (p : Terms) (c : Conditions) (r : Terms) (b : Sentences) → has_any (kept_of a (sentence h p c r b)) ≡ 1
unfolding has_any kept_of
any-kept empty h p c r b = refl
any-kept (sentence h₁ p₁ c₁ r₁ a) h p c r b = refl

change-any : (j : Standing) (b : Sentences) → has_any (kept_of (accepted j b) b) ≡ has_any b
change-any j empty = unfold accepted kept_of in refl
change-any j (sentence h p c r b) = any-kept (accepted j (sentence h p c r b)) h p c r b ∙ unfold has_any in refl

functions-any : (alone : LeftAlone) (sites : List Site) (i : ℕ) (fs : List Function) → functions_with_any (map changed (changes alone sites i fs)) ≡ functions_with_any fs
unfolding functions_with_any changes changed change
functions-any alone sites i [] = refl
functions-any alone sites i (f ∷ fs) =
    let h = change-any (standing (alone i f) (entering_restrictions f.name sites)) f.sentences in
    let k = functions-any alone sites (suc i) fs in
    omega (arith, h, k)

pub round-any : (alone : LeftAlone) (p : Program) → functions_with_any (left_by (round alone p)).functions ≡ functions_with_any p.functions
unfolding left_by round
round-any alone p = functions-any alone (program_sites p) 0 p.functions

any-count : (b : Sentences) → has_any b ≤ sentence_count b
unfolding has_any sentence_count
any-count empty = omega arith
any-count (sentence h p c r b) = omega arith

pub functions_count_any : (fs : List Function) → functions_with_any fs ≤ own_sentence_count fs
unfolding functions_with_any own_sentence_count
functions_count_any [] = omega arith
functions_count_any (f ∷ fs) =
    let h = any-count f.sentences in let k = functions_count_any fs in
    omega (arith, h, k)
