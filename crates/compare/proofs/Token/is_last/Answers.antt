-- `compare::Token::is_last` meets its contract. Assumes nothing.
use Prim.Native.Nat.{ℕ, ◌+◌, ◌<◌}
use native.Mathlib.Omega.{arith}
use mathlib.Core.Path.{◌≡◌, refl, sym, ap, ◌∙◌}
use mathlib.Core.Bool.{Bool, true, false}
use mathlib.Core.List.{List, [], ◌∷◌}
use mathlib.Core.Logic.{◌⊎◌, inl, inr}
use lib.Dec.{eqb, leb}
use lib.ListN.{length, get_or}
use borrow.Author.Tests.{eqb-true, eqb-false, leb-true, leb-false, eq-eqb, ne_eqb}
use Rattle.image.specs.Parts.{token_length}
use Rattle.compare.specs.Letters.{token_text, token_gap, letters}
use Rattle.compare.proofs.Letters.{gap_begin, gap-close, gap_space, gap_either, letters-length, letters-short}
use Rattle.compare.proofs.Token.is_last.Goals as goal

module _ (s : List ℕ) (k n : ℕ) (e : n ≡ length (token_text s)) where
  away : k < length (letters s) → (k + 1 ≡ n → ⊥) → leb n k ≡ eqb (k + 1) (length (letters s))
  away h a = go (gap_either s) (leb n k) refl
    where
      go : (token_gap s ≡ []) ⊎ (token_gap s ≡ 32 ∷ []) → (b : Bool) → leb n k ≡ b → b ≡ eqb (k + 1) (length (letters s))
      go (inl g) true p = absurd (omega (arith, e, h, leb-true n k p, letters-length s [] g))
      go (inr g) true p = sym (eq-eqb (k + 1) (length (letters s)) (omega (arith, e, h, leb-true n k p, letters-length s (32 ∷ []) g)))
      go (inl g) false p = sym (ne_eqb (k + 1) (length (letters s)) (λ q. a (omega (arith, e, q, letters-length s [] g))))
      go (inr g) false p = sym (ne_eqb (k + 1) (length (letters s)) (λ q. omega (arith, e, q, leb-false n k p, letters-length s (32 ∷ []) g)))

  module _ (l : k + 1 ≡ n) where
    none : token_gap s ≡ [] → true ≡ eqb (k + 1) (length (letters s))
    none g = sym (eq-eqb (k + 1) (length (letters s)) (omega (arith, e, l, letters-length s [] g)))

    space : token_gap s ≡ 32 ∷ [] → false ≡ eqb (k + 1) (length (letters s))
    space g = sym (ne_eqb (k + 1) (length (letters s)) (λ q. omega (arith, e, l, q, letters-length s (32 ∷ []) g)))

    close : (get_or s 0 0 ≡ 7 → ⊥) → (j : ℕ) → j ≡ token_length s → eqb (get_or s j 0) 15 ≡ eqb (k + 1) (length (letters s))
    close m j q = go (eqb (get_or s j 0) 15) refl
      where
        there : get_or s j 0 ≡ get_or s (token_length s) 0
        there = ap (λ (i : ℕ). get_or s i 0) q

        go : (b : Bool) → eqb (get_or s j 0) 15 ≡ b → b ≡ eqb (k + 1) (length (letters s))
        go true p = none (gap-close s m (sym there ∙ eqb-true (get_or s j 0) 15 p))
        go false p = space (gap_space s m (λ f. eqb-false (get_or s j 0) 15 p (there ∙ f)))

pub overflow_add-k : goal.overflow_add-k
overflow_add-k c = omega (arith, c.requires, letters-short c.args.self.inside, c.args.self.inside.within)

pub returns-then-k-n : goal.returns-then-k-n
returns-then-k-n c = away c.args.self.bytes.now c.args.k c.args.n c.requires.1 c.requires.0 c.if-k-n.true

pub returns-then-x-eq7 : goal.returns-then-x-eq7
returns-then-x-eq7 c =
    let s = c.args.self.bytes.now in
    eq-eqb (get_or s 0 0) 7 c.if-x-eq7.true ∙ none s c.args.k c.args.n c.requires.1 c.if-k-n.false (gap_begin s c.if-x-eq7.true)

pub returns-else-x-eq7 : goal.returns-else-x-eq7
returns-else-x-eq7 c = close c.args.self.bytes.now c.args.k c.args.n c.requires.1 c.if-k-n.false c.if-x-eq7.false c.token_len.result c.token_len.ensures
