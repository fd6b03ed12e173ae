-- The letters of a token by its mark, as the code finds them.
use Prim.Native.Nat.{ℕ, suc, ◌+◌, ◌-◌, ◌/◌, ◌%◌, ◌<◌, ◌≤◌}
use native.Mathlib.Omega.{arith}
use mathlib.Core.Path.{◌≡◌, refl, sym, ap, ◌∙◌}
use mathlib.Core.Bool.{Bool, true, false, cond}
use mathlib.Core.List.{List, [], ◌∷◌, ◌++◌}
use mathlib.Core.Logic.{◌⊎◌, inl, inr}
use lib.Dec.{eqb, ltb}
use lib.ListN.{length, get_or, drop, length-append, length-drop, get_or-append}
use lib.Seq.{length-take-le, get_or-append-add, get_or-take, get_or-drop}
use borrow.Author.Tests.{eqb-true, eqb-false, ltb-true, ltb-false, eq-eqb, ne_eqb, lt-ltb, le-ltb}
use Rattle.program.specs.Syntax.{character}
use Rattle.program.specs.Bytes.{get32}
use Rattle.patterns.specs.Ascii.{ascii}
use Rattle.meaning.specs.Text.{Text, utf8, quote, format_symbol}
use Rattle.text.specs.FormatTerm.{gap_before, kind_letter}
use Rattle.image.specs.Parts.{token_length}
use Rattle.compare.specs.Letters.{token_name, token_text, token_gap, letters, TokenIn}
use Rattle.text.proofs.Codes.{utf8-one, utf8-two, utf8_three, utf8_four}
use Rattle.text.proofs.Leaves.{utf8-length, quote-length}

-- The same place of the same list.
pub place : {l m : List ℕ} (n k : ℕ) → l ≡ m → k ≡ n → get_or l n 0 ≡ get_or m k 0
place {l} {m} n k e z = ap (λ (x : List ℕ). get_or x n 0) e ∙ ap (λ (x : ℕ). get_or m x 0) (sym z)

-- A code in UTF-8.
module _ (c : ℕ) where
  pub two_bytes : 128 ≤ c → c < 2048 → (192 + c / 64) ∷ (128 + c % 64) ∷ [] ≡ utf8 c
  two_bytes l h = utf8-two c (192 + c / 64) (128 + c % 64) l h refl refl

  pub three_bytes : 2048 ≤ c → c < 65536 → (224 + c / 4096) ∷ (128 + c / 64 % 64) ∷ (128 + c % 64) ∷ [] ≡ utf8 c
  three_bytes l h = utf8_three c (224 + c / 4096) (128 + c / 64 % 64) (128 + c % 64) l h refl refl refl

  pub four_bytes : 65536 ≤ c → (240 + c / 262144) ∷ (128 + c / 4096 % 64) ∷ (128 + c / 64 % 64) ∷ (128 + c % 64) ∷ [] ≡ utf8 c
  four_bytes l = utf8_four c (240 + c / 262144) (128 + c / 4096 % 64) (128 + c / 64 % 64) (128 + c % 64) l refl refl refl refl

  module _ (k : ℕ) (i : k < length (utf8 c)) where
    pub only_byte : c < 128 → c ≡ get_or (utf8 c) k 0
    only_byte h = place 0 k (utf8-one c h) (omega (arith, i, ap length (utf8-one c h)))

    pub second_of_two : 128 ≤ c → c < 2048 → (k ≡ 0 → ⊥) → k ≡ 1
    second_of_two l h a = omega (arith, i, ap length (two_bytes l h), a)

    pub third_of_three : 2048 ≤ c → c < 65536 → (k ≡ 0 → ⊥) → (k ≡ 1 → ⊥) → k ≡ 2
    third_of_three l h a b = omega (arith, i, ap length (three_bytes l h), a, b)

    pub fourth_of_four : 65536 ≤ c → (k ≡ 0 → ⊥) → (k ≡ 1 → ⊥) → (k ≡ 2 → ⊥) → k ≡ 3
    fourth_of_four l a b d = omega (arith, i, ap length (four_bytes l), a, b, d)

-- A character between quotes.
character-text : (c : ℕ) → quote c ++ (utf8 c ++ quote c) ≡ format_symbol (character c)
unfolding format_symbol
character-text c = refl

module _ (c k : ℕ) where
  pub character-length : length (format_symbol (character c)) ≡ 2 + length (utf8 c)
  character-length =
      omega (arith, ap length (character-text c), length-append (quote c) (utf8 c ++ quote c), length-append (utf8 c) (quote c), quote-length c)

  pub first-quote : (r : ℕ) → r ∷ [] ≡ quote c → k ≡ 0 → r ≡ get_or (format_symbol (character c)) k 0
  first-quote r q z = place 0 k (ap (λ (l : List ℕ). l ++ (utf8 c ++ quote c)) q ∙ character-text c) z

  pub between_quotes : (r : ℕ) → r ≡ get_or (utf8 c) (k - 1) 0 → (k ≡ 0 → ⊥) → k ≤ length (utf8 c) → r ≡ get_or (format_symbol (character c)) k 0
  between_quotes r e z h =
      let n : k ≡ length (quote c) + (k - 1) = omega (arith, quote-length c, z) in
      e ∙ (sym (get_or-append (utf8 c) (quote c) 0 (k - 1) (omega (arith, z, h))) ∙ (sym (get_or-append-add (quote c) (utf8 c ++ quote c) (k - 1) 0) ∙ place (length (quote c) + (k - 1)) k (character-text c) n))

  pub last-quote : (r : ℕ) → r ∷ [] ≡ quote c → length (utf8 c) < k → k < length (format_symbol (character c)) → r ≡ get_or (format_symbol (character c)) k 0
  last-quote r q l h =
      let n : k ≡ length (quote c) + (length (utf8 c) + 0) = omega (arith, quote-length c, l, h, character-length) in
      ap (λ (x : List ℕ). get_or x 0 0) q
      ∙ (sym (get_or-append-add (utf8 c) (quote c) 0 0)
      ∙ (sym (get_or-append-add (quote c) (utf8 c ++ quote c) (length (utf8 c) + 0) 0) ∙ place (length (quote c) + (length (utf8 c) + 0)) k (character-text c) n))

module _ (s : List ℕ) where
  -- How long the token is.
  pub length-code : get_or s 0 0 ≡ 1 → token_length s ≡ 13
  unfolding token_length
  length-code a = rw (eq-eqb (get_or s 0 0) 1 a)

  pub length-name : (get_or s 0 0 ≡ 1 → ⊥) → get_or s 0 0 < 7 → token_length s ≡ 10 + get_or s 9 0
  unfolding token_length
  length-name a b = rw (ne_eqb (get_or s 0 0) 1 a, lt-ltb (get_or s 0 0) 7 b)

  pub length_begin : get_or s 0 0 ≡ 7 → token_length s ≡ 9
  unfolding token_length
  length_begin a = rw a

  pub length-close : 7 ≤ get_or s 0 0 → (get_or s 0 0 ≡ 7 → ⊥) → token_length s ≡ 1
  unfolding token_length
  length-close a b = rw (ne_eqb (get_or s 0 0) 1 (λ e. omega (arith, a, e)), le-ltb (get_or s 0 0) 7 a, ne_eqb (get_or s 0 0) 7 b)

  -- What it prints.
  pub text-code : get_or s 0 0 ≡ 1 → token_text s ≡ format_symbol (character (get32 s 9))
  unfolding token_text
  text-code a = rw (eq-eqb (get_or s 0 0) 1 a)

  pub text-name : (get_or s 0 0 ≡ 1 → ⊥) → get_or s 0 0 < 4 → token_text s ≡ token_name s
  unfolding token_text
  text-name a b = rw (ne_eqb (get_or s 0 0) 1 a, lt-ltb (get_or s 0 0) 4 b)

  pub text-variable : 4 ≤ get_or s 0 0 → get_or s 0 0 < 7 → token_text s ≡ kind_letter (get_or s 0 0) ∷ 46 ∷ token_name s
  unfolding token_text
  text-variable a b = rw (ne_eqb (get_or s 0 0) 1 (λ e. omega (arith, a, e)), le-ltb (get_or s 0 0) 4 a, lt-ltb (get_or s 0 0) 7 b)

  pub text_begin : get_or s 0 0 ≡ 7 → token_text s ≡ 40 ∷ []
  unfolding token_text ascii
  text_begin a = rw a

  pub text-close : 7 ≤ get_or s 0 0 → (get_or s 0 0 ≡ 7 → ⊥) → token_text s ≡ 41 ∷ []
  unfolding token_text ascii
  text-close a b = rw (ne_eqb (get_or s 0 0) 1 (λ e. omega (arith, a, e)), le-ltb (get_or s 0 0) 4 (omega (arith, a)), le-ltb (get_or s 0 0) 7 a, ne_eqb (get_or s 0 0) 7 b)

  pub name-letter : (k : ℕ) → k < get_or s 9 0 → get_or s (10 + k) 0 ≡ get_or (token_name s) k 0
  unfolding token_name
  name-letter k h = sym (get_or-take (get_or s 9 0) (drop 10 s) k 0 h ∙ get_or-drop 10 s k 0)

  pub name-size : 10 + get_or s 9 0 ≤ length s → length (token_name s) ≡ get_or s 9 0
  unfolding token_name
  name-size h = length-take-le (get_or s 9 0) (drop 10 s) (omega (arith, h, length-drop 10 s))

  -- The letters of a variable.
  pub variable_name_letter : (k : ℕ) → (k ≡ 0 → ⊥) → (k ≡ 1 → ⊥) → k < 2 + get_or s 9 0 → get_or s (8 + k) 0 ≡ get_or (kind_letter (get_or s 0 0) ∷ 46 ∷ token_name s) k 0
  variable_name_letter k a b h =
      let z : k ≡ suc (suc (k - 2)) = omega (arith, a, b) in
      let y : 8 + k ≡ 10 + (k - 2) = omega (arith, a, b) in
      ap (λ (n : ℕ). get_or s n 0) y ∙ (name-letter (k - 2) (omega (arith, a, b, h)) ∙ place {l = kind_letter (get_or s 0 0) ∷ 46 ∷ token_name s} (suc (suc (k - 2))) k refl z)

  pub begin_letter : (k : ℕ) → k < length (token_text s) → get_or s 0 0 ≡ 7 → 40 ≡ get_or (token_text s) k 0
  begin_letter k h a = place 0 k (sym (text_begin a)) (omega (arith, h, ap length (text_begin a)))

  pub close-letter : (k : ℕ) → k < length (token_text s) → 7 ≤ get_or s 0 0 → (get_or s 0 0 ≡ 7 → ⊥) → 41 ≡ get_or (token_text s) k 0
  close-letter k h a b = place 0 k (sym (text-close a b)) (omega (arith, h, ap length (text-close a b)))

  -- The space behind it.
  pub gap_begin : get_or s 0 0 ≡ 7 → token_gap s ≡ []
  unfolding token_gap
  gap_begin a = rw (eq-eqb (get_or s 0 0) 7 a)

  pub gap_not_begin : (get_or s 0 0 ≡ 7 → ⊥) → token_gap s ≡ gap_before (get_or s (token_length s) 0)
  unfolding token_gap
  gap_not_begin a = rw (ne_eqb (get_or s 0 0) 7 a)

  pub gap-close : (get_or s 0 0 ≡ 7 → ⊥) → get_or s (token_length s) 0 ≡ 15 → token_gap s ≡ []
  unfolding token_gap gap_before
  gap-close a b = rw (ne_eqb (get_or s 0 0) 7 a, eq-eqb (get_or s (token_length s) 0) 15 b)

  pub gap_space : (get_or s 0 0 ≡ 7 → ⊥) → (get_or s (token_length s) 0 ≡ 15 → ⊥) → token_gap s ≡ 32 ∷ []
  unfolding token_gap gap_before ascii
  gap_space a b = rw (ne_eqb (get_or s 0 0) 7 a, ne_eqb (get_or s (token_length s) 0) 15 b)

  pub gap_either : (token_gap s ≡ []) ⊎ (token_gap s ≡ 32 ∷ [])
  unfolding token_gap gap_before ascii
  gap_either = go (eqb (get_or s 0 0) 7) (eqb (get_or s (token_length s) 0) 15)
    where
      go : (x y : Bool) → (◌≡◌ {A = List ℕ} (cond x [] (cond y [] (32 ∷ []))) []) ⊎ (◌≡◌ {A = List ℕ} (cond x [] (cond y [] (32 ∷ []))) (32 ∷ []))
      go true y = inl refl
      go false true = inl refl
      go false false = inr refl

  pub letters_are : token_text s ++ token_gap s ≡ letters s
  unfolding letters
  letters_are = refl

  pub letters-length : (l : Text) → token_gap s ≡ l → length (token_text s) + length l ≡ length (letters s)
  letters-length l e = omega (arith, ap length letters_are, length-append (token_text s) (token_gap s), ap length e)

  pub own-letter : (k : ℕ) → k < length (token_text s) → get_or (token_text s) k 0 ≡ get_or (letters s) k 0
  own-letter k h = sym (get_or-append (token_text s) (token_gap s) 0 k h) ∙ ap (λ (l : List ℕ). get_or l k 0) letters_are

  pub space_letter : (k : ℕ) → length (token_text s) ≤ k → k < length (letters s) → 32 ≡ get_or (letters s) k 0
  space_letter k l h = go gap_either
    where
      go : (token_gap s ≡ []) ⊎ (token_gap s ≡ 32 ∷ []) → 32 ≡ get_or (letters s) k 0
      go (inl e) = absurd (omega (arith, l, h, letters-length [] e))
      go (inr e) =
          let z : k ≡ length (token_text s) + 0 = omega (arith, l, h, letters-length (32 ∷ []) e) in
          sym (ap (λ (x : List ℕ). get_or x 0 0) e) ∙ (sym (get_or-append-add (token_text s) (token_gap s) 0 0) ∙ place (length (token_text s) + 0) k letters_are z)

-- The five sorts of tokens.
pub by_mark : {P : Type 0} (m : ℕ) → (m ≡ 1 → P) → ((m ≡ 1 → ⊥) → m < 4 → P) → (4 ≤ m → m < 7 → P) → (m ≡ 7 → P) → (7 ≤ m → (m ≡ 7 → ⊥) → P) → P
by_mark {P} m code name var begin close = go (eqb m 1) refl (ltb m 4) refl (ltb m 7) refl (eqb m 7) refl
  where
    go : (a : Bool) → eqb m 1 ≡ a → (b : Bool) → ltb m 4 ≡ b → (c : Bool) → ltb m 7 ≡ c → (d : Bool) → eqb m 7 ≡ d → P
    go true p b q c r d u = code (eqb-true m 1 p)
    go false p true q c r d u = name (eqb-false m 1 p) (ltb-true m 4 q)
    go false p false q true r d u = var (ltb-false m 4 q) (ltb-true m 7 r)
    go false p false q false r true u = begin (eqb-true m 7 u)
    go false p false q false r false u = close (ltb-false m 7 r) (eqb-false m 7 u)

-- A token that lies within s.
module _ {s : List ℕ} (t : TokenIn s) where
  pub code-room : get_or s 0 0 ≡ 1 → 13 ≤ length s
  code-room a = omega (arith, t.within, length-code s a)

  pub name-room : (get_or s 0 0 ≡ 1 → ⊥) → get_or s 0 0 < 7 → 10 + get_or s 9 0 < length s
  name-room a b = omega (arith, t.within, length-name s a b)

  pub length_of_code : get_or s 0 0 ≡ 1 → length (token_text s) ≡ 2 + length (utf8 (get32 s 9))
  length_of_code a = ap length (text-code s a) ∙ character-length (get32 s 9) 0

  pub length_of_name : (get_or s 0 0 ≡ 1 → ⊥) → get_or s 0 0 < 4 → length (token_text s) ≡ get_or s 9 0
  length_of_name a b = ap length (text-name s a b) ∙ name-size s (omega (arith, name-room a (omega (arith, b))))

  pub length_of_variable : 4 ≤ get_or s 0 0 → get_or s 0 0 < 7 → length (token_text s) ≡ 2 + get_or s 9 0
  length_of_variable a b = omega (arith, ap length (text-variable s a b), name-size s (omega (arith, name-room (λ e. omega (arith, a, e)) b)))

  pub length_of_mark : 7 ≤ get_or s 0 0 → length (token_text s) ≡ 1
  length_of_mark l = by_mark (get_or s 0 0) (λ a. absurd (omega (arith, l, a))) (λ a b. absurd (omega (arith, l, b))) (λ a b. absurd (omega (arith, l, b))) (λ a. ap length (text_begin s a)) (λ a b. ap length (text-close s a b))

  -- Its letters are no more than its bytes and one.
  pub text-short : length (token_text s) ≤ token_length s
  text-short =
      by_mark (get_or s 0 0)
      (λ a. omega (arith, length_of_code a, utf8-length (get32 s 9), length-code s a))
      (λ a b. omega (arith, length_of_name a b, length-name s a (omega (arith, b))))
      (λ a b. omega (arith, length_of_variable a b, length-name s (λ e. omega (arith, a, e)) b))
      (λ a. omega (arith, ap length (text_begin s a), length_begin s a))
      (λ a b. omega (arith, ap length (text-close s a b), length-close s a b))

  pub letters-short : length (letters s) ≤ token_length s + 1
  letters-short = go (gap_either s)
    where
      go : (token_gap s ≡ []) ⊎ (token_gap s ≡ 32 ∷ []) → length (letters s) ≤ token_length s + 1
      go (inl e) = omega (arith, text-short, letters-length s [] e)
      go (inr e) = omega (arith, text-short, letters-length s (32 ∷ []) e)

  pub token-long : 0 < token_length s
  token-long =
      by_mark (get_or s 0 0)
      (λ a. omega (arith, length-code s a))
      (λ a b. omega (arith, length-name s a (omega (arith, b))))
      (λ a b. omega (arith, length-name s (λ e. omega (arith, a, e)) b))
      (λ a. omega (arith, length_begin s a))
      (λ a b. omega (arith, length-close s a b))
