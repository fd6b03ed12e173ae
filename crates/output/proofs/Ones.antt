-- The ones over the mark words are the sentences that are kept.
use Prim.Native.Nat.{ℕ, zero, suc, ◌+◌, ◌*◌, ◌/◌, ◌%◌, ◌^◌, ◌≤◌, ◌<◌}
use native.Mathlib.Omega.{arith}
use native.Mathlib.Nat.{mod-lt, pow-suc, div-one, div-div-eq-div-mul}
use mathlib.Core.Path.{◌≡◌, refl, sym, ap, ◌∙◌}
use mathlib.Core.Bool.{Bool, true, false, cond}
use mathlib.Core.List.{List, [], ◌∷◌}
use lib.ListN.{length, get_or}
use lib.Dec.{eqb}
use borrow.Author.Tests.{eqb-true, eqb-false}
use lib.Count.{ones, ones_step}
use Rattle.program.specs.Syntax.{Sentences, Function}
use Rattle.program.specs.Encode.{sentence_count, own_sentence_count}
use Rattle.told.specs.Kept.{is_kept, kept_sentences, kept_function, kept_functions}
use Rattle.output.specs.Marks.{NoneFrom, kept_count}
use Rattle.output.proofs.Marks.{kept_out}

count_at : (keep : ℕ → Bool) (i j n : ℕ) → i ≡ j → kept_count keep i n ≡ kept_count keep j n
count_at keep i j n e = ap (λ (k : ℕ). kept_count keep k n) e

pub count_split : (keep : ℕ → Bool) (n m i : ℕ) → kept_count keep i (n + m) ≡ kept_count keep i n + kept_count keep (i + n) m
unfolding kept_count
count_split keep zero m i =
    let e : 0 + m ≡ m = omega arith in
    let f : i ≡ i + 0 = omega arith in
    ap (kept_count keep i) e ∙ (count_at keep i (i + 0) m f ∙ omega arith)
count_split keep (suc n) m i =
    let e : suc n + m ≡ suc (n + m) = omega arith in
    let f : suc i + n ≡ i + suc n = omega arith in
    let g = count_at keep (suc i + n) (i + suc n) m f in
    ap (kept_count keep i) e ∙ omega (arith, count_split keep n m (suc i), g)

pub count_none : (keep : ℕ → Bool) (n i : ℕ) → NoneFrom keep i → kept_count keep i n ≡ 0
unfolding kept_count
count_none keep zero i h = refl
count_none keep (suc n) i h = ap (λ (b : Bool). cond b 1 0 + kept_count keep (suc i) n) (h i (omega arith)) ∙ omega (arith, count_none keep n (suc i) (λ j l. h j (omega (arith, l))))

pub count-enough : (keep : ℕ → Bool) (n m : ℕ) → NoneFrom keep n → kept_count keep 0 (n + m) ≡ kept_count keep 0 n
count-enough keep n m h = count_split keep n m 0 ∙ (ap (λ (k : ℕ). kept_count keep 0 n + k) (count_at keep (0 + n) n m (omega arith) ∙ count_none keep m n h) ∙ omega arith)

-- sentences and functions
pub count-sentences : (keep : ℕ → Bool) (b : Sentences) (i : ℕ) → sentence_count (kept_sentences keep i b) ≡ kept_count keep i (sentence_count b)
unfolding sentence_count kept_sentences kept_count
count-sentences keep Sentences.empty i = refl
count-sentences keep (Sentences.sentence h p c r b) i =
    let e : suc (sentence_count b) ≡ 1 + sentence_count b = omega arith in
    by (keep i) (count-sentences keep b (suc i)) ∙ ap (kept_count keep i) e
  where
    by : (t : Bool) → sentence_count (kept_sentences keep (suc i) b) ≡ kept_count keep (suc i) (sentence_count b)
        → sentence_count (cond t (Sentences.sentence h p c r (kept_sentences keep (suc i) b)) (kept_sentences keep (suc i) b)) ≡ cond t 1 0 + kept_count keep (suc i) (sentence_count b)
    by true e = ap (λ (n : ℕ). 1 + n) e
    by false e = e ∙ omega arith

pub count-functions : (keep : ℕ → Bool) (fs : List Function) (i : ℕ) → own_sentence_count (kept_functions keep i fs) ≡ kept_count keep i (own_sentence_count fs)
unfolding own_sentence_count kept_functions kept_function kept_count
count-functions keep [] i = refl
count-functions keep (f ∷ fs) i =
    let n : ℕ = sentence_count f.sentences in
    omega (arith, count-sentences keep f.sentences i, count-functions keep fs (i + n), count_split keep n (own_sentence_count fs) i)

-- the bits of a word
bit-one : (b : ℕ) → b < 2 → cond (eqb b 1) 1 0 ≡ b
bit-one zero h = refl
bit-one (suc zero) h = refl
bit-one (suc (suc b)) h = absurd (omega arith)

word-from : (marks : List ℕ) (j n k : ℕ) → k + n ≡ 32 → get_or marks j 0 / 2 ^ k < 2 ^ n → kept_count (is_kept marks) (32 * j + k) n ≡ ones (get_or marks j 0 / 2 ^ k)
unfolding kept_count is_kept ones
word-from marks j zero k e h = ap ones (let z : get_or marks j 0 / 2 ^ k ≡ 0 = omega (arith, h) in sym z)
word-from marks j (suc n) k e h =
    let w : ℕ = get_or marks j 0 in
    let q : (32 * j + k) / 32 ≡ j = omega arith in
    let r : (32 * j + k) % 32 ≡ k = omega arith in
    let l : suc (32 * j + k) ≡ 32 * j + suc k = omega arith in
    let p : 2 ^ suc n ≡ 2 ^ n * 2 = pow-suc 2 n in
    let v : w / 2 ^ suc k ≡ w / 2 ^ k / 2 = ap (λ (m : ℕ). w / m) (pow-suc 2 k) ∙ sym (div-div-eq-div-mul w (2 ^ k) 2) in
    let b : cond (is_kept marks (32 * j + k)) 1 0 ≡ w / 2 ^ k % 2 =
    ap (λ (x : ℕ). cond (eqb (get_or marks x 0 / 2 ^ ((32 * j + k) % 32) % 2) 1) 1 0) q
    ∙ (ap (λ (x : ℕ). cond (eqb (w / 2 ^ x % 2) 1) 1 0) r ∙ bit-one (w / 2 ^ k % 2) (mod-lt (w / 2 ^ k) (omega arith))) in
    let i = word-from marks j n (suc k) (omega arith) (omega (arith, h, p, v)) in
    ap (λ (x : ℕ). x + kept_count (is_kept marks) (suc (32 * j + k)) n) b
    ∙ (ap (λ (x : ℕ). w / 2 ^ k % 2 + x) (count_at (is_kept marks) (suc (32 * j + k)) (32 * j + suc k) n l ∙ (i ∙ ap ones v)) ∙ sym (ones_step (w / 2 ^ k)))

pub word_count : (marks : List ℕ) (j : ℕ) → get_or marks j 0 < 4294967296 → kept_count (is_kept marks) (32 * j) 32 ≡ ones (get_or marks j 0)
word_count marks j h =
    let d : get_or marks j 0 / 2 ^ 0 ≡ get_or marks j 0 = div-one (get_or marks j 0) in
    count_at (is_kept marks) (32 * j) (32 * j + 0) 32 (omega arith) ∙ (word-from marks j 32 0 refl (omega (arith, h, d)) ∙ ap ones d)

-- one more word
pub words_turn : (marks : List ℕ) (j total : ℕ) → get_or marks j 0 < 4294967296 → total ≡ kept_count (is_kept marks) 0 (32 * j) → total + ones (get_or marks j 0) ≡ kept_count (is_kept marks) 0 (32 * (j + 1))
words_turn marks j total h e =
    let s : 32 * (j + 1) ≡ 32 * j + 32 = omega arith in
    let z = count_at (is_kept marks) (0 + 32 * j) (32 * j) 32 (omega arith) in
    let y = ap (kept_count (is_kept marks) 0) s in
    omega (arith, e, count_split (is_kept marks) (32 * j) 32 0, z, y, word_count marks j h)

-- all words
pub words_end : (marks : List ℕ) (fs : List Function) → NoneFrom (is_kept marks) (own_sentence_count fs) → kept_count (is_kept marks) 0 (32 * length marks) ≡ own_sentence_count (kept_functions (is_kept marks) 0 fs)
words_end marks fs h =
    let n : ℕ = own_sentence_count fs in
    let m : ℕ = 32 * length marks in
    let o : NoneFrom (is_kept marks) m = λ i l. kept_out marks i (omega (arith, l)) in
    sym (count-enough (is_kept marks) m n o) ∙ (ap (kept_count (is_kept marks) 0) (let e : m + n ≡ n + m = omega arith in e) ∙ (count-enough (is_kept marks) n m h ∙ sym (count-functions (is_kept marks) fs 0)))

pub count_le : (keep : ℕ → Bool) (n i : ℕ) → kept_count keep i n ≤ n
unfolding kept_count
count_le keep zero i = omega arith
count_le keep (suc n) i = by (keep i) (count_le keep n (suc i))
  where
    by : (t : Bool) → kept_count keep (suc i) n ≤ n → cond t 1 0 + kept_count keep (suc i) n ≤ suc n
    by true l = omega (arith, l)
    by false l = omega (arith, l)

pub none_yet : (keep : ℕ → Bool) → 0 ≡ kept_count keep 0 (32 * 0)
unfolding kept_count
none_yet keep = refl

-- two sets of marks that agree from i on
count_same : (keep new : ℕ → Bool) (n i : ℕ) → ((j : ℕ) → i ≤ j → new j ≡ keep j) → kept_count keep i n ≡ kept_count new i n
unfolding kept_count
count_same keep new zero i h = refl
count_same keep new (suc n) i h =
    ap (λ (b : Bool). cond b 1 0 + kept_count keep (suc i) n) (sym (h i (omega arith))) ∙ ap (λ (k : ℕ). cond (new i) 1 0 + k) (count_same keep new n (suc i) (λ j l. h j (omega (arith, l))))

-- a kept sentence that is no longer kept is one fewer
cleared_from : (keep new : ℕ → Bool) (i n m : ℕ) → m ≤ i → i < m + n → keep i ≡ true → new i ≡ false → ((j : ℕ) → (j ≡ i → ⊥) → new j ≡ keep j) → kept_count keep m n ≡ suc (kept_count new m n)
unfolding kept_count
cleared_from keep new i zero m a b k c o = absurd (omega (arith, a, b))
cleared_from keep new i (suc n) m a b k c o = by (eqb m i) refl (λ e. cleared_from keep new i n (suc m) (omega (arith, a, e)) (omega (arith, b)) k c o)
  where
    by : (t : Bool) → eqb m i ≡ t → ((m ≡ i → ⊥) → kept_count keep (suc m) n ≡ suc (kept_count new (suc m) n)) → kept_count keep m (suc n) ≡ suc (kept_count new m (suc n))
    by true e r =
        let q : m ≡ i = eqb-true m i e in
        let s = count_same keep new n (suc m) (λ j l. o j (λ f. (let x : suc m ≤ m = omega (arith, l, f, q) in omega (arith, x)))) in
        let x : cond {A = ℕ} (keep m) 1 0 ≡ 1 = ap (λ (j : ℕ). cond (keep j) 1 0) q ∙ ap (λ (b : Bool). cond b 1 0) k in
        let y : cond {A = ℕ} (new m) 1 0 ≡ 0 = ap (λ (j : ℕ). cond (new j) 1 0) q ∙ ap (λ (b : Bool). cond b 1 0) c in
        omega (arith, s, x, y)
    by false e r =
        let d : m ≡ i → ⊥ = eqb-false m i e in
        let x : cond {A = ℕ} (new m) 1 0 ≡ cond (keep m) 1 0 = ap (λ (b : Bool). cond b 1 0) (o m d) in
        omega (arith, r d, x)

pub count_cleared : (keep new : ℕ → Bool) (i n : ℕ) → i < n → keep i ≡ true → new i ≡ false → ((j : ℕ) → (j ≡ i → ⊥) → new j ≡ keep j) → kept_count keep 0 n ≡ suc (kept_count new 0 n)
count_cleared keep new i n l k c o = cleared_from keep new i n 0 (omega arith) (omega (arith, l)) k c o

-- where none is kept from n on, clearing one leaves it so
pub none_cleared : (keep new : ℕ → Bool) (i n : ℕ) → NoneFrom keep n → new i ≡ false → ((j : ℕ) → (j ≡ i → ⊥) → new j ≡ keep j) → NoneFrom new n
none_cleared keep new i n h c o j l = by (eqb j i) refl
  where
    by : (t : Bool) → eqb j i ≡ t → new j ≡ false
    by true e = ap new (eqb-true j i e) ∙ c
    by false e = o j (eqb-false j i e) ∙ h j l
