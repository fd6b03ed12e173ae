-- Items by their marks.
use Prim.Native.Nat.{ℕ, ◌<◌}
use native.Mathlib.Omega.{arith}
use mathlib.Core.Path.{◌≡◌, refl, sym, ap, ◌∙◌}
use mathlib.Core.Bool.{Bool, true, false, cond}
use mathlib.Core.List.{List, ◌∷◌}
use lib.ListN.{length, get_or, drop}
use borrow.Author.Tests.{ne_eqb}
use Rattle.std.specs.Int.{from_bool}
use Rattle.program.specs.Encode.{put_head, put_sentences, put_function}
use Rattle.image.specs.Parts.{Passes, put_sentence, SentenceAt, FunctionAt}
use Rattle.output.specs.Items.{Item, after, is_sentence, is_written, kept_one}
use Rattle.output.proofs.Walking.{written_is, kept-is}

head-mark : (s : List ℕ) (f : FunctionAt s) → (get_or s 0 0 ≡ 18) × (0 < length s)
unfolding put_function
head-mark s f = (ap (λ (l : List ℕ). get_or l 0 0) f.is, omega (arith, ap length f.is))

own-mark : (s : List ℕ) (x : SentenceAt s) → (get_or s 0 0 ≡ 10) × (0 < length s)
unfolding put_sentence put_head
own-mark s x = (ap (λ (l : List ℕ). get_or l 0 0) x.is, omega (arith, ap length x.is))

close-mark : (s k : List ℕ) → s ≡ 15 ∷ k → (get_or s 0 0 ≡ 15) × (0 < length s)
close-mark s k e = (ap (λ (l : List ℕ). get_or l 0 0) e, omega (arith, ap length e))

pub item_long : (s : List ℕ) → Item s → 0 < length s
item_long s (Item.head f) = (head-mark s f).1
item_long s (Item.own x) = (own-mark s x).1
item_long s (Item.close k e) = (close-mark s k e).1

pub item_head : (s : List ℕ) → Item s → get_or s 0 0 ≡ 18 → FunctionAt s
item_head s (Item.head f) m = f
item_head s (Item.own x) m = absurd (omega (arith, m, (own-mark s x).0))
item_head s (Item.close k e) m = absurd (omega (arith, m, (close-mark s k e).0))

pub item_own : (s : List ℕ) → Item s → get_or s 0 0 ≡ 10 → SentenceAt s
item_own s (Item.head f) m = absurd (omega (arith, m, (head-mark s f).0))
item_own s (Item.own x) m = x
item_own s (Item.close k e) m = absurd (omega (arith, m, (close-mark s k e).0))

pub pass-head : (s : List ℕ) (r : ℕ) → get_or s 0 0 ≡ 18 → ((f : FunctionAt s) → Passes s r (put_sentences f.function.sentences f.rest)) → (x : Item s) → Passes s r (after s x)
pass-head s r m h (Item.head f) = h f
pass-head s r m h (Item.own x) = absurd (omega (arith, m, (own-mark s x).0))
pass-head s r m h (Item.close k e) = absurd (omega (arith, m, (close-mark s k e).0))

pub pass-own : (s : List ℕ) (r : ℕ) → get_or s 0 0 ≡ 10 → ((x : SentenceAt s) → Passes s r x.rest) → (x : Item s) → Passes s r (after s x)
pass-own s r m h (Item.head f) = absurd (omega (arith, m, (head-mark s f).0))
pass-own s r m h (Item.own x) = h x
pass-own s r m h (Item.close k e) = absurd (omega (arith, m, (close-mark s k e).0))

pub pass-close : (s : List ℕ) → (get_or s 0 0 ≡ 10 → ⊥) → (get_or s 0 0 ≡ 18 → ⊥) → (x : Item s) → Passes s 1 (after s x)
pass-close s n1 n2 (Item.head f) = absurd (n2 (head-mark s f).0)
pass-close s n1 n2 (Item.own x) = absurd (n1 (own-mark s x).0)
pass-close s n1 n2 (Item.close k e) = record { fits = (close-mark s k e).1; left = ap (drop 1) e }

-- what a mark decides
pub not_sentence : (s : List ℕ) → (get_or s 0 0 ≡ 10 → ⊥) → is_sentence s ≡ false
unfolding is_sentence
not_sentence s n = ne_eqb (get_or s 0 0) 10 n

module _ (s : List ℕ) (e : is_sentence s ≡ true) (keep : ℕ → Bool) (i : ℕ) (b : Bool) (h : keep i ≡ b) where
  pub own-kept : cond b 1 0 ≡ kept_one keep i s
  own-kept = ap (λ (t : Bool). cond t 1 0) (sym h) ∙ sym (kept-is s true e keep i)

  pub own-written : (w : ℕ) → cond b w 0 ≡ cond (is_written keep i s) w 0
  own-written w = ap (λ (t : Bool). cond t w 0) (sym (written_is s true e keep i ∙ h))

module _ (s : List ℕ) (n : is_sentence s ≡ false) (keep : ℕ → Bool) (i : ℕ) where
  pub other-kept : 0 ≡ kept_one keep i s
  other-kept = sym (kept-is s false n keep i)

  pub other-written : (w : ℕ) → w ≡ cond (is_written keep i s) w 0
  other-written w = ap (λ (t : Bool). cond t w 0) (sym (written_is s false n keep i))

-- a truth value as a number
pub from_bool-cond : (b : Bool) → from_bool b ≡ cond b 1 0
from_bool-cond true = refl
from_bool-cond false = refl
