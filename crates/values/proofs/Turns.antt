-- One token more: what the loops of `read` and `levels` keep from turn to turn.
use Prim.Native.Nat.{ℕ, zero, suc, ◌+◌, ◌-◌, ◌<◌, ◌≤◌, max}
use native.Mathlib.Omega.{arith}
use mathlib.Core.Path.{◌≡◌, refl, sym, ap, subst, ◌∙◌}
use mathlib.Core.Bool.{Bool, true, false}
use mathlib.Core.List.{List, [], ◌∷◌}
use mathlib.Core.Option.{Option, none, some}
use lib.Dec.{eqb, leb-zero, eqb-zero-suc, eqb-suc-zero, eqb-suc-suc}
use lib.ListN.{length, get_or, take, drop, length-drop}
use lib.Seq.{drop-drop}
use borrow.Author.Tests.{ne_eqb, eqb-true, eqb-false}
use Rattle.program.specs.Limits.{pick}
use Rattle.patterns.specs.Expression.{Expression, void}
use Rattle.symbols.proofs.Parts.{part_rest}
use Rattle.meaning.specs.Inputs.{Token, first_token, tokens, if_read, expressions, single, input_of, answers_of}
use Rattle.meaning.proofs.Tokens.{Sized, first-sized, tokens-end, tokens_none, tokens-next, KindOf, token-kind, balanced, counts, balanced_counts, owing, answered, reaches, answered_reaches}
use Rattle.values.specs.Counting.{depth_after, owed_after}
use Rattle.std.specs.Prelude.{Option as Found, Some, None, SomeIff, MatchOption}
use Rattle.values.specs.Values.{is_read, TokenAt}

-- ---- what a mark changes

module _ (m d : ℕ) where
  pub depth_opening : m ≡ 7 → d + 1 ≡ depth_after m d
  unfolding depth_after
  depth_opening e = rw e (omega arith)

  pub depth_closing : m ≡ 15 → d - 1 ≡ depth_after m d
  unfolding depth_after
  depth_closing e = rw e

  pub depth_closed : m ≡ 15 → (o : Found ℕ) → SomeIff o (1 ≤ d) (d - 1) → MatchOption o ((m ≡ 15) × (d ≡ 0)) (λ e. (e ≡ depth_after m d) × (m ≡ 15 → 0 < d))
  depth_closed e None h = (e, omega arith)
  depth_closed e (Some k) h = (h.1 ∙ depth_closing e, λ z. omega arith)

  pub depth_other : (m ≡ 7 → ⊥) → (m ≡ 15 → ⊥) → d ≡ depth_after m d
  unfolding depth_after
  depth_other h k = rw (ne_eqb m 7 h, ne_eqb m 15 k)

  pub owed-opening : (b : ℕ) → b ≡ max 1 d → m ≡ 7 → b + 1 ≡ owed_after m d
  unfolding owed_after
  owed-opening b q e = rw e (omega arith)

  pub owed-closing : (b : ℕ) → b ≡ max 1 d → m ≡ 15 → b - 1 ≡ owed_after m d
  unfolding owed_after
  owed-closing b q e = rw e (omega arith)

  pub owed-other : (b : ℕ) → b ≡ max 1 d → (m ≡ 7 → ⊥) → (m ≡ 15 → ⊥) → b ≡ owed_after m d
  unfolding owed_after
  owed-other b q h k = rw (ne_eqb m 7 h, ne_eqb m 15 k) q

  pub depth_small : {e : ℕ} → e ≡ depth_after m d → e ≤ d + 1
  unfolding depth_after
  depth_small {e} q = by (eqb m 7) (eqb m 15) q
    where
      by : (t u : Bool) → e ≡ pick t (suc d) (pick u (d - 1) d) → e ≤ d + 1
      by true u q = omega arith
      by false true q = omega arith
      by false false q = omega arith

  pub owed_small : {e : ℕ} → e ≡ owed_after m d → (m ≡ 15 → e ≤ d) × (e ≤ 1 + max 1 d)
  unfolding owed_after
  owed_small {e} q = by (eqb m 7) (eqb m 15) refl refl q
    where
      by : (t u : Bool) → eqb m 7 ≡ t → eqb m 15 ≡ u → e ≡ pick t (suc (max 1 d)) (pick u (max 1 d - 1) (max 1 d)) → (m ≡ 15 → e ≤ d) × (e ≤ 1 + max 1 d)
      by true u f g q = (λ z. absurd (let k = eqb-true m 7 f in omega (arith, k, z)), omega arith)
      by false true f g q = (λ z. omega arith, omega arith)
      by false false f g q = (λ z. absurd (eqb-false m 15 g z), omega arith)

-- ---- the bytes from a place on, as the code has them

abbrev pub part : List ℕ → ℕ → List ℕ
part s at = take (length s - at) (drop at s)

pub part_there : (s : List ℕ) (at : ℕ) → at < length s → 0 < length (part s at)
part_there s at h = rw (part_rest s at) (simp length-drop (omega arith))

pub part_length : (s : List ℕ) (at : ℕ) → length (part s at) ≡ length s - at
part_length s at = ap length (part_rest s at) ∙ length-drop at s

-- ---- the rest answers as the whole

unfoldable pub told : Option (List Token) → (List Token → Bool) → Bool
told none f = false
told (some l) f = f l

told-alike : (o : Option (List Token)) (f g : List Token → Bool) → ((l : List Token) → f l ≡ g l) → told o f ≡ told o g
unfolding told
told-alike none f g h = refl
told-alike (some l) f g h = h l

told_false : (o : Option (List Token)) (f : List Token → Bool) → ((l : List Token) → f l ≡ false) → told o f ≡ false
unfolding told
told_false none f h = refl
told_false (some l) f h = h l

told-next : (o : Option (List Token)) (t : Token) (f : List Token → Bool) → told (if_read o (λ l. some (t ∷ l))) f ≡ told o (λ l. f (t ∷ l))
unfolding told if_read
told-next none t f = refl
told-next (some l) t f = refl

-- The tokens from `at` on, with a number to go by, answer b.
pub record Left (b : Bool) (f : List Token → ℕ → Bool) (s : List ℕ) (at d : ℕ) : Type 0 where
  pub is : b ≡ told (tokens (drop at s)) (λ l. f l d)

module _ {b : Bool} {f : List Token → ℕ → Bool} {s : List ℕ} {at d : ℕ} (left : Left b f s at d) where
  pub left_end : length s ≤ at → f [] d ≡ b
  unfolding told
  left_end h = sym (left.is ∙ ap (λ (o : Option (List Token)). told o (λ l. f l d)) (tokens-end (drop at s) (simp length-drop (omega arith))))

  pub left-none : at < length s → first_token (part s at) ≡ none → false ≡ b
  unfolding told
  left-none h e = sym (left.is ∙ ap (λ (o : Option (List Token)). told o (λ l. f l d)) (tokens_none (drop at s) (simp length-drop (omega arith)) (ap first_token (sym (part_rest s at)) ∙ e)))

  module _ (t : TokenAt (part s at)) {n : ℕ} (size : n ≡ t.reading.size) where
    onward : b ≡ told (tokens (drop (at + n) s)) (λ l. f (t.reading.token ∷ l) d)
    onward =
        left.is
        ∙ (ap (λ (o : Option (List Token)). told o (λ l. f l d)) (tokens-next (drop at s) t.reading (ap first_token (sym (part_rest s at)) ∙ t.is))
        ∙ (told-next (tokens (drop t.reading.size (drop at s))) t.reading.token (λ l. f l d)
        ∙ ap (λ (k : List ℕ). told (tokens k) (λ l. f (t.reading.token ∷ l) d)) (drop-drop t.reading.size at s ∙ ap (λ (i : ℕ). drop (at + i) s) (sym size))))

    pub left-next : (e : ℕ) → ((u : Token) → KindOf (get_or (part s at) 0 0) u → (l : List Token) → f (u ∷ l) d ≡ f l e) → Left b f s (at + n) e
    left-next e h = record { is = onward ∙ told-alike (tokens (drop (at + n) s)) _ _ (h t.reading.token (token-kind (part s at) t.reading t.is)) }

  pub left_false : (t : TokenAt (part s at)) → ((u : Token) → KindOf (get_or (part s at) 0 0) u → (l : List Token) → f (u ∷ l) d ≡ false) → false ≡ b
  left_false t h = sym (onward t refl ∙ told_false (tokens (drop (at + t.reading.size) s)) _ (h t.reading.token (token-kind (part s at) t.reading t.is)))

pub size-within : (s : List ℕ) (at : ℕ) (t : TokenAt (part s at)) {n : ℕ} → n ≡ t.reading.size → (1 ≤ n) × (n ≤ length s - at)
size-within s at t {n} e =
    let k = subst (Sized (part s at)) t.is (first-sized (part s at)) in
    let l = part_length s at in
    (omega (arith, e, k.0), omega (arith, l, e, k.1))

-- ---- an input

single-fits : (o : Option (List Expression)) → is_read (if_read o single) ≡ counts o 1
unfolding is_read if_read single counts
single-fits none = refl
single-fits (some []) = sym (eqb-zero-suc 0)
single-fits (some (v ∷ [])) = refl
single-fits (some (v ∷ w ∷ l)) = sym (eqb-suc-suc (suc (length l)) 0 ∙ eqb-suc-zero (length l))

input-told : (o : Option (List Token)) → is_read (if_read o (λ l. if_read (expressions l (void ∷ [])) single)) ≡ told o (λ l. balanced l 0)
unfolding told if_read is_read
input-told none = refl
input-told (some l) = single-fits (expressions l (void ∷ [])) ∙ sym (balanced_counts l 0)

pub input-start : (s : List ℕ) → Left (is_read (input_of s)) balanced s 0 0
unfolding input_of
input-start s = record { is = input-told (tokens s) }

pub balanced_next : (t : Token) (l : List Token) (m d e : ℕ) → KindOf m t → (m ≡ 15 → 0 < d) → e ≡ depth_after m d → balanced (t ∷ l) d ≡ balanced l e
unfolding balanced
balanced_next (Token.symbol x) l m d e k h q = ap (balanced l) (sym (q ∙ sym (depth_other m d k.1 k.0)))
balanced_next Token.opening l m d e k h q = ap (balanced l) (let z = depth_opening m d k in omega (arith, z, q))
balanced_next Token.closing l m zero e k h q = absurd (omega (arith, h k))
balanced_next Token.closing l m (suc d) e k h q = ap (balanced l) (let z = depth_closing m (suc d) k in omega (arith, z, q))

pub balanced_closed : (t : Token) (l : List Token) (m d : ℕ) → KindOf m t → m ≡ 15 → d ≡ 0 → balanced (t ∷ l) d ≡ false
unfolding balanced
balanced_closed (Token.symbol x) l m d k e z = absurd (k.0 e)
balanced_closed Token.opening l m d k e z = absurd (omega (arith, k, e))
balanced_closed Token.closing l m zero k e z = refl
balanced_closed Token.closing l m (suc d) k e z = absurd (omega (arith, z))

-- ---- answers

any_reaches : (o : Option (List Expression)) → is_read o ≡ reaches o 0
unfolding is_read reaches
any_reaches none = refl
any_reaches (some l) = sym (leb-zero (length l))

answers-told : (o : Option (List Token)) → is_read (if_read o (λ l. expressions l [])) ≡ told o (λ l. answered l 0)
unfolding told if_read is_read
answers-told none = refl
answers-told (some l) = any_reaches (expressions l []) ∙ sym (answered_reaches l 0)

pub answers-start : (s : List ℕ) → Left (is_read (answers_of s)) answered s 0 0
unfolding answers_of
answers-start s = record { is = answers-told (tokens s) }

pub answered_next : (t : Token) (l : List Token) (m d e : ℕ) → KindOf m t → e ≡ owed_after m d → answered (t ∷ l) d ≡ answered l e
unfolding answered owing
answered_next (Token.symbol x) l m d e k q = ap (answered l) (owed-other m d (max 1 d) refl k.1 k.0 ∙ sym q)
answered_next Token.opening l m d e k q = ap (answered l) (let z = owed-opening m d (max 1 d) refl k in omega (arith, z, q))
answered_next Token.closing l m d e k q = ap (answered l) (let z = owed-closing m d (max 1 d) refl k in omega (arith, z, q))
