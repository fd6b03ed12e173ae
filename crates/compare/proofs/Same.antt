-- Tokens that hold the same, spans aside, print the same; two sequences in step, token by token, have the same text if they end together.
use Prim.Native.Nat.{ℕ, ◌+◌, ◌<◌, ◌≤◌}
use native.Mathlib.Omega.{arith}
use native.Mathlib.Nat.{add-zero}
use mathlib.Core.Path.{◌≡◌, refl, sym, ap, ap₂, subst, ◌∙◌}
use mathlib.Core.Bool.{Bool, true, false, cond, ◌&&◌, true≢false, and-eq-true_iff}
use mathlib.Core.List.{List, [], ◌∷◌, ◌++◌, flatten}
use lib.Dec.{eqb}
use lib.ListN.{length, get_or, drop}
use lib.Seq.{get_or-drop}
use borrow.Author.Tests.{eqb-true, eqb-false, eq-eqb}
use Rattle.std.specs.Prelude.{Option, Some}
use Rattle.std.specs.Bool.{then_some}
use Rattle.program.specs.Syntax.{character}
use Rattle.program.specs.Bytes.{get32}
use Rattle.program.specs.Limits.{Mode}
use Rattle.image.specs.Parts.{TermsAt, token_length, closes_after}
use Rattle.patterns.specs.Names.{eq_bytes}
use Rattle.symbols.proofs.Parts.{part_rest}
use Rattle.rows.proofs.Readings.{part, part_length, part_part}
use Rattle.meaning.specs.Text.{Text, format_symbol, format_terms}
use Rattle.compare.specs.Letters.{token_name, token_text, token_gap, letters, TokenIn, Walk, Coming, SameBefore, SameContent, SameLetters}
use Rattle.image.proofs.Closes.{closes_open, closes_close, closes_same}
use Rattle.compare.proofs.Letters.{length-code, length-name, length_begin, length-close, text-code, text-name, text-variable, text_begin, text-close, letters_are, name-size, name-room, by_mark}
use Rattle.text.specs.FormatTerm.{gap_before, kind_letter}
use Rattle.compare.proofs.Walk.{walk_long, walk_all}

-- ---- one token

abbrev SameText : List ℕ → List ℕ → Type 0
SameText x y = (token_text x ≡ token_text y) × (token_length x ≡ token_length y)

module _ {x y : List ℕ} (s : TokenIn x) (t : TokenIn y) (e : get_or x 0 0 ≡ get_or y 0 0) where
  pub same_code : get_or x 0 0 ≡ 1 → get32 x 9 ≡ get32 y 9 → SameText x y
  same_code a h = (text-code x a ∙ (ap (λ (c : ℕ). format_symbol (character c)) h ∙ sym (text-code y (sym e ∙ a))), length-code x a ∙ sym (length-code y (sym e ∙ a)))

  pub same-named : (get_or x 0 0 ≡ 1 → ⊥) → get_or x 0 0 < 7 → token_name x ≡ token_name y → SameText x y
  same-named a b h = (
    by_mark (get_or x 0 0) (λ c. absurd (a c))
        (λ c d. text-name x a d ∙ (h ∙ sym (text-name y (λ f. a (e ∙ f)) (omega (arith, d, e)))))
        (λ c d. text-variable x c d ∙ (ap₂ (λ (m : ℕ) (n : Text). kind_letter m ∷ 46 ∷ n) e h ∙ sym (text-variable y (omega (arith, c, e)) (omega (arith, d, e)))))
        (λ c. absurd (omega (arith, b, c)))
        (λ c d. absurd (omega (arith, b, c))),
    length-name x a b
        ∙ (ap (λ (n : ℕ). 10 + n) (sym (name-size x (omega (arith, name-room s a b))) ∙ (ap length h ∙ name-size y (omega (arith, name-room t (λ f. a (e ∙ f)) (omega (arith, b, e))))))
        ∙ sym (length-name y (λ f. a (e ∙ f)) (omega (arith, b, e)))),
  )

  pub same-mark : 7 ≤ get_or x 0 0 → SameText x y
  same-mark l =
      by_mark (get_or x 0 0) (λ c. absurd (omega (arith, l, c))) (λ c d. absurd (omega (arith, l, d))) (λ c d. absurd (omega (arith, l, d)))
      (λ c. (text_begin x c ∙ sym (text_begin y (sym e ∙ c)), length_begin x c ∙ sym (length_begin y (sym e ∙ c))))
      (λ c d. (text-close x c d ∙ sym (text-close y (omega (arith, c, e)) (λ f. d (e ∙ f))), length-close x c d ∙ sym (length-close y (omega (arith, c, e)) (λ f. d (e ∙ f)))))

-- Their length, if a test says that they hold the same.
pub content-if : (x y : List ℕ) (n : ℕ) (z : Bool) {o : Option ℕ} → o ≡ then_some z n → n ≡ token_length x → (z ≡ true → SameText x y) → SameContent x y o
content-if x y n z {o} e l h = let F : Option ℕ → Type 0 = λ v. SameContent x y v in subst F (sym e) (by z refl)
  where
    by : (b : Bool) → z ≡ b → SameContent x y (then_some b n)
    by true q = let t = h q in (t.0, l, l ∙ t.1)
    by false q = tt

-- With the space behind it.
pub letters-if : (x y : List ℕ) (n : ℕ) {o : Option ℕ} → o ≡ then_some (eqb (get_or x n 0) (get_or y n 0)) n → get_or x 0 0 ≡ get_or y 0 0 → SameContent x y (Some n) → SameLetters x y o
unfolding token_gap
letters-if x y n {o} e m h = let F : Option ℕ → Type 0 = λ v. SameLetters x y v in subst F (sym e) (by (eqb (get_or x n 0) (get_or y n 0)) refl)
  where
    gaps : get_or x n 0 ≡ get_or y n 0 → token_gap x ≡ token_gap y
    gaps q = ap₂ (λ (a b : ℕ). cond (eqb a 7) [] (gap_before b)) m (ap (λ (i : ℕ). get_or x i 0) (sym h.1) ∙ (q ∙ ap (λ (i : ℕ). get_or y i 0) h.2))

    by : (b : Bool) → eqb (get_or x n 0) (get_or y n 0) ≡ b → SameLetters x y (then_some b n)
    by true q = let g = eqb-true (get_or x n 0) (get_or y n 0) q in (sym (letters_are x) ∙ (ap₂ (λ (a b : Text). a ++ b) h.0 (gaps g) ∙ letters_are y), h.1, h.2, g)
    by false q = tt

-- ---- closes

pub after-some : (m c : ℕ) → 0 < c → (m ≡ 15 → 1 < c) → (0 < closes_after m c) × (c ≤ closes_after m c + 1)
after-some m c l h = go (eqb m 7) refl (eqb m 15) refl
  where
    go : (a : Bool) → eqb m 7 ≡ a → (b : Bool) → eqb m 15 ≡ b → (0 < closes_after m c) × (c ≤ closes_after m c + 1)
    go true p b q = let e = closes_open m c (eqb-true m 7 p) in (omega (arith, e), omega (arith, e))
    go false p true q = let e = closes_close m c (eqb-true m 15 q) in (omega (arith, e, h (eqb-true m 15 q)), omega (arith, e, h (eqb-true m 15 q)))
    go false p false q = let e = closes_same m c (eqb-false m 7 p) (eqb-false m 15 q) in (omega (arith, e, l), omega (arith, e))

walk_few : (c : ℕ) (ls : List Text) (s rest : List ℕ) → 0 < c → Walk c ls s rest → c ≤ length ls + 1
walk_few c [] s rest l h = omega (arith, h.1)
walk_few c (x ∷ ls) s rest l h = let k = after-some (get_or s 0 0) c l h.3 in omega (arith, k, walk_few (closes_after (get_or s 0 0) c) ls (drop (token_length s) s) rest k.0 h.4)

-- The last close, or not.
pub ended-both : (r : Bool) (m c : ℕ) → r ≡ (eqb m 15 && eqb c 1) → r ≡ true → (m ≡ 15) × (c ≡ 1)
ended-both r m c e h = let k = (and-eq-true_iff (eqb m 15) (eqb c 1)).0 (sym e ∙ h) in (eqb-true m 15 k.0, eqb-true c 1 k.1)

pub not_ended : (r : Bool) (m c : ℕ) → r ≡ (eqb m 15 && eqb c 1) → r ≡ false → m ≡ 15 → c ≡ 1 → ⊥
not_ended r m c e h a b = true≢false (sym ((and-eq-true_iff (eqb m 15) (eqb c 1)).1 (eq-eqb m 15 a, eq-eqb c 1 b)) ∙ (sym e ∙ h))

pub none-left : (m c r : ℕ) → 0 < c → r ≡ closes_after m c → r ≡ 0 → (m ≡ 15) × (c ≡ 1)
none-left m c r l e z = go (eqb m 7) refl (eqb m 15) refl
  where
    go : (a : Bool) → eqb m 7 ≡ a → (b : Bool) → eqb m 15 ≡ b → (m ≡ 15) × (c ≡ 1)
    go true p b q = absurd (omega (arith, e, z, closes_open m c (eqb-true m 7 p)))
    go false p true q = (eqb-true m 15 q, omega (arith, l, e, z, closes_close m c (eqb-true m 15 q)))
    go false p false q = absurd (omega (arith, l, e, z, closes_same m c (eqb-false m 7 p) (eqb-false m 15 q)))

pub some-left : (m c r : ℕ) → r ≡ closes_after m c → (r ≡ 0 → ⊥) → m ≡ 15 → c ≡ 1 → ⊥
some-left m c r e n a b = n (omega (arith, e, b, closes_close m c a))

-- ---- what is to come from a token on

-- It is not the last close.
pub record Ahead (c : ℕ) (s rest : List ℕ) (ls : List Text) : Type 0 where
  pub token : TokenIn s
  pub others : List Text
  pub texts : ls ≡ letters s ∷ others
  pub inner : get_or s 0 0 ≡ 15 → 1 < c
  pub walk : Walk (closes_after (get_or s 0 0) c) others (drop (token_length s) s) rest

module _ {s rest : List ℕ} {i c : ℕ} (x : Coming s rest i c) where
  pub coming_within : i < length s
  coming_within = omega (arith, walk_long c x.texts (part s i) rest x.walk, part_length s i)

  pub coming_few : c ≤ length (part s i)
  coming_few = omega (arith, walk_few c x.texts (part s i) rest x.some x.walk, walk_long c x.texts (part s i) rest x.walk)

  pub coming_end : get_or (part s i) 0 0 ≡ 15 → c ≡ 1 → x.texts ≡ []
  coming_end m e = go x.texts x.walk
    where
      go : (ls : List Text) → Walk c ls (part s i) rest → ls ≡ []
      go [] w = refl
      go (y ∷ ls) w = absurd (omega (arith, w.3 m, e))

  module _ (n : get_or (part s i) 0 0 ≡ 15 → c ≡ 1 → ⊥) where
    pub ahead : Ahead c (part s i) rest x.texts
    ahead = go x.texts x.walk
      where
        go : (ls : List Text) → Walk c ls (part s i) rest → Ahead c (part s i) rest ls
        go [] w = absurd (n (ap (λ (l : List ℕ). get_or l 0 0) w.0) w.1)
        go (y ∷ ls) w = record { token = w.0; others = ls; texts = ap (λ (l : Text). l ∷ ls) w.1; inner = w.3; walk = w.4 }

    abbrev pub coming-next : (r q : ℕ) → r ≡ token_length (part s i) → q ≡ closes_after (get_or (part s i) 0 0) c → Coming s rest (i + r) q
    coming-next r q e f =
        let p : drop (token_length (part s i)) (part s i) ≡ part s (i + r) = ap (λ (j : ℕ). drop j (part s i)) (sym e) ∙ part_part s i r in
        record {
          texts = ahead.others;
          walk = subst (λ (d : ℕ). Walk d ahead.others (part s (i + r)) rest) (sym f) (subst (λ (l : List ℕ). Walk (closes_after (get_or (part s i) 0 0) c) ahead.others l rest) p ahead.walk);
          some = omega (arith, f, after-some (get_or (part s i) 0 0) c x.some ahead.inner);
        }

-- ---- two sequences in step

pub mark-behind : (s l : List ℕ) (k : ℕ) → drop k s ≡ l → get_or l 0 0 ≡ get_or s k 0
mark-behind s l k e = ap (λ (m : List ℕ). get_or m 0 0) (sym e) ∙ (get_or-drop k s 0 0 ∙ ap (λ (n : ℕ). get_or s n 0) (add-zero k))

eq_behind : (l v w : Text) → eq_bytes (l ++ v) (l ++ w) ≡ eq_bytes v w
unfolding eq_bytes
eq_behind [] v w = refl
eq_behind (c ∷ l) v w = rw (eq-eqb c c refl) (eq_behind l v w)

pub nothing-both : eq_bytes [] [] ≡ true
unfolding eq_bytes
nothing-both = refl

abbrev coming_first : {s : List ℕ} (t : TermsAt Mode.pattern s) → Coming s t.rest 0 1
coming_first {s} t = let w = walk_all t in record { texts = w.texts; walk = subst (λ (l : List ℕ). Walk 1 w.texts l t.rest) (sym (part_rest s 0)) w.walk; some = omega arith }

pub same_first : {a b : List ℕ} (t : TermsAt Mode.pattern a) (u : TermsAt Mode.pattern b) → SameBefore t u 0 1
same_first t u = record { one = coming_first t; two = coming_first u; whole = ap₂ eq_bytes (sym (walk_all t).text) (sym (walk_all u).text) }

-- The same mark stands at i in both.
pub record Keeping {a b : List ℕ} (t : TermsAt Mode.pattern a) (u : TermsAt Mode.pattern b) (i c : ℕ) : Type 0 where
  pub before : SameBefore t u i c
  pub mark : get_or (part a i) 0 0 ≡ get_or (part b i) 0 0

pub keeping_first : {a b : List ℕ} (t : TermsAt Mode.pattern a) (u : TermsAt Mode.pattern b) → get_or a 0 0 ≡ get_or b 0 0 → Keeping t u 0 1
keeping_first {a} {b} t u e = record { before = same_first t u; mark = ap (λ (l : List ℕ). get_or l 0 0) (part_rest a 0) ∙ (e ∙ ap (λ (l : List ℕ). get_or l 0 0) (sym (part_rest b 0))) }

module _ {a b : List ℕ} {t : TermsAt Mode.pattern a} {u : TermsAt Mode.pattern b} {i c : ℕ} (k : Keeping t u i c) where
  -- Both end together.
  pub keeping_end : get_or (part a i) 0 0 ≡ 15 → c ≡ 1 → eq_bytes (format_terms t.terms) (format_terms u.terms) ≡ true
  unfolding flatten
  keeping_end m e =
      k.before.whole
      ∙ (ap₂ (λ (x y : List Text). eq_bytes (flatten x) (flatten y)) (coming_end k.before.one m e) (coming_end k.before.two (sym k.mark ∙ m) e) ∙ nothing-both)

  -- Neither is at its end.
  module _ (n : get_or (part a i) 0 0 ≡ 15 → c ≡ 1 → ⊥) where
    abbrev ahead-one : Ahead c (part a i) t.rest k.before.one.texts
    ahead-one = ahead k.before.one n

    abbrev ahead-two : Ahead c (part b i) u.rest k.before.two.texts
    ahead-two = ahead k.before.two (λ m. n (k.mark ∙ m))

    pub token-one : TokenIn (part a i)
    token-one = ahead-one.token

    pub token-two : TokenIn (part b i)
    token-two = ahead-two.token

    pub keeping-next : (r q : ℕ) → q ≡ closes_after (get_or (part a i) 0 0) c → SameLetters (part a i) (part b i) (Some r) → Keeping t u (i + r) q
    unfolding flatten
    keeping-next r q f h = record {
      before = record {
        one = coming-next k.before.one n r q h.1 f;
        two = coming-next k.before.two (λ m. n (k.mark ∙ m)) r q h.2 (f ∙ ap (λ (j : ℕ). closes_after j c) k.mark);
        whole = k.before.whole
            ∙ (ap₂ (λ (g h : List Text). eq_bytes (flatten g) (flatten h)) ahead-one.texts ahead-two.texts
            ∙ (ap (λ (z : Text). eq_bytes (z ++ flatten ahead-one.others) (letters (part b i) ++ flatten ahead-two.others)) h.0 ∙ eq_behind (letters (part b i)) (flatten ahead-one.others) (flatten ahead-two.others)));
      };
      mark = mark-behind (part a i) (part a (i + r)) r (part_part a i r) ∙ (h.3 ∙ sym (mark-behind (part b i) (part b (i + r)) r (part_part b i r)));
    }
