-- The first token in bytes: its size by its mark, its record with a zero span, and when two are the same.
use Prim.Native.Nat.{ℕ, suc, ◌+◌, ◌*◌, ◌-◌, ◌<◌, ◌≤◌, max}
use native.Mathlib.Omega.{arith}
use mathlib.Core.Path.{◌≡◌, refl, sym, ap, subst, ◌∙◌}
use mathlib.Core.Logic.{◌⊎◌, ⊎_elim}
use mathlib.Core.Bool.{Bool, true, false}
use mathlib.Core.List.{List, [], ◌∷◌, ◌++◌, append-nil}
use mathlib.Core.Option.{Option, none, some, some-injective}
use lib.Dec.{eqb}
use lib.ListN.{length, get_or, take, drop}
use lib.Seq.{take-append_seam}
use borrow.Author.Tests.{eqb-true, eqb-false}
use Rattle.program.specs.Syntax.{Span, Symbol, character, identifier, number}
use Rattle.program.specs.Bytes.{put32, put_span, put_name, get_span}
use Rattle.program.specs.Encode.{put_symbol}
use Rattle.patterns.specs.Symbols.{same_symbol}
use Rattle.patterns.specs.Marks.{zero_span}
use Rattle.image.specs.Parts.{token_length}
use Rattle.symbols.specs.Parts.{SymbolAt}
use Rattle.symbols.proofs.Parts.{two_sorts}
use Rattle.meaning.specs.Inputs.{Token, Reading, first_token}
use Rattle.meaning.proofs.Inputs.{symbol_bytes}
use Rattle.meaning.proofs.Tokens.{first_says, Sized, first-sized, KindOf, token-kind, ValidToken, token-valid, put_token, token_bytes, token-bytes, token-stands}
use Rattle.meaning.proofs.Fronts.{same_token}
use Rattle.values.specs.Counting.{owed_after}
use Rattle.values.specs.Values.{TokenAt}
use Rattle.values.proofs.Turns.{owed_small}

-- ---- its size by its mark

pub record ByMark (s : List ℕ) (n : ℕ) : Type 0 where
  pub closing : get_or s 0 0 ≡ 15 → 1 ≡ n
  pub opening : get_or s 0 0 ≡ 7 → 9 ≡ n
  pub code : get_or s 0 0 ≡ 1 → 13 ≡ n
  pub name : (get_or s 0 0 ≡ 15 → ⊥) → (get_or s 0 0 ≡ 7 → ⊥) → (get_or s 0 0 ≡ 1 → ⊥) → 10 + get_or s 9 0 ≡ n
  pub spanned : (get_or s 0 0 ≡ 15 → ⊥) → 9 ≤ n

abbrev Marked : List ℕ → Option Reading → Type 0
Marked s none = Unit {0}
Marked s (some r) = ByMark s r.size

first-marked : (s : List ℕ) → Marked s (first_token s)
first-marked s =
    first_says s (Marked s) tt
    (λ e. record { closing = λ h. refl; opening = λ h. absurd (omega (arith, e, h)); code = λ h. absurd (omega (arith, e, h)); name = λ h k l. absurd (h e); spanned = λ h. absurd (h e) })
    (λ e f. record { closing = λ h. absurd (omega (arith, e, h)); opening = λ h. refl; code = λ h. absurd (omega (arith, e, h)); name = λ h k l. absurd (k e); spanned = λ h. omega arith })
    (λ e f g. record { closing = λ h. absurd (omega (arith, e, h)); opening = λ h. absurd (omega (arith, e, h)); code = λ h. refl; name = λ h k l. absurd (l e); spanned = λ h. omega arith })
    (λ e f g. record { closing = λ h. absurd (omega (arith, e, h)); opening = λ h. absurd (omega (arith, e, h)); code = λ h. absurd (omega (arith, e, h)); name = λ h k l. refl; spanned = λ h. omega arith })
    (λ e f g. record { closing = λ h. absurd (omega (arith, e, h)); opening = λ h. absurd (omega (arith, e, h)); code = λ h. absurd (omega (arith, e, h)); name = λ h k l. refl; spanned = λ h. omega arith })

-- The image's length of a token is its size.
abbrev Lasting : List ℕ → Option Reading → Type 0
Lasting s none = Unit {0}
Lasting s (some r) = token_length s ≡ r.size

first-lasting : (s : List ℕ) → Lasting s (first_token s)
unfolding token_length
first-lasting s = first_says s (Lasting s) tt (λ e. rw e refl) (λ e f. rw e refl) (λ e f g. rw e refl) (λ e f g. rw e refl) (λ e f g. rw e refl)

module _ {s : List ℕ} (t : TokenAt s) where
  pub lasts : token_length s ≡ t.reading.size
  lasts = subst (Lasting s) t.is (first-lasting s)

  pub by_mark : ByMark s t.reading.size
  by_mark = subst (Marked s) t.is (first-marked s)

  pub room : (1 ≤ t.reading.size) × (t.reading.size ≤ length s)
  room = subst (Sized s) t.is (first-sized s)

-- There is one reading.
pub one-reading : {s : List ℕ} (t u : TokenAt s) → t.reading ≡ u.reading
one-reading t u = some-injective t.reading u.reading (sym t.is ∙ u.is)

-- ---- its record with a zero span

named_part : (n k : List ℕ) → take (10 + length n - 9) (length n ∷ (n ++ k)) ≡ length n ∷ (n ++ [])
named_part n k =
    let e : 10 + length n - 9 ≡ suc (length n) = omega arith in
    ap (λ (i : ℕ). take i (length n ∷ (n ++ k))) e ∙ ap (λ (l : List ℕ). length n ∷ l) (take-append_seam n k ∙ sym (append-nil n))

written : (t : Token) (p : Span) (k : List ℕ) → (get_or (put_token p t k) 0 0 ≡ 15 → ⊥) → (get_or (put_token p t k) 0 0 ∷ 0 ∷ 0 ∷ 0 ∷ 0 ∷ 0 ∷ 0 ∷ 0 ∷ 0 ∷ []) ++ take (token_bytes t - 9) (drop 9 (put_token p t k)) ≡ put_token zero_span t []
unfolding put_token put_symbol put_span put32 put_name token_bytes symbol_bytes zero_span
written (Token.symbol (character c)) p k h = refl
written (Token.symbol (identifier n)) p k h = ap (λ (l : List ℕ). 2 ∷ 0 ∷ 0 ∷ 0 ∷ 0 ∷ 0 ∷ 0 ∷ 0 ∷ 0 ∷ l) (named_part n k)
written (Token.symbol (number n)) p k h = ap (λ (l : List ℕ). 3 ∷ 0 ∷ 0 ∷ 0 ∷ 0 ∷ 0 ∷ 0 ∷ 0 ∷ 0 ∷ l) (named_part n k)
written Token.opening p k h = refl
written Token.closing p k h = absurd (h refl)

module _ {s : List ℕ} (small : (i : ℕ) → get_or s i 0 < 256) (t : TokenAt s) where
  pub token-written : (get_or s 0 0 ≡ 15 → ⊥) → (n : ℕ) → n ≡ t.reading.size → (get_or s 0 0 ∷ 0 ∷ 0 ∷ 0 ∷ 0 ∷ 0 ∷ 0 ∷ 0 ∷ 0 ∷ []) ++ take (n - 9) (drop 9 s) ≡ put_token zero_span t.reading.token []
  token-written h n e =
      let r = t.reading in
      let q = token-stands s small r t.is in
      let w = put_token (get_span s 1) r.token (drop r.size s) in
      ap (λ (i : ℕ). (get_or s 0 0 ∷ 0 ∷ 0 ∷ 0 ∷ 0 ∷ 0 ∷ 0 ∷ 0 ∷ 0 ∷ []) ++ take (i - 9) (drop 9 s)) (e ∙ token-bytes s r t.is)
      ∙ (ap (λ (l : List ℕ). (get_or l 0 0 ∷ 0 ∷ 0 ∷ 0 ∷ 0 ∷ 0 ∷ 0 ∷ 0 ∷ 0 ∷ []) ++ take (token_bytes r.token - 9) (drop 9 l)) q
      ∙ written r.token (get_span s 1) (drop r.size s) (λ z. h (ap (λ (l : List ℕ). get_or l 0 0) q ∙ z)))

closing-is : (t : Token) (m : ℕ) → KindOf m t → m ≡ 15 → m ∷ [] ≡ put_token zero_span t []
unfolding put_token
closing-is (Token.symbol x) m k e = absurd (k.0 e)
closing-is Token.opening m k e = absurd (omega (arith, k, e))
closing-is Token.closing m k e = ap (λ (i : ℕ). i ∷ []) e

pub close-written : {s : List ℕ} (t : TokenAt s) → get_or s 0 0 ≡ 15 → get_or s 0 0 ∷ [] ≡ put_token zero_span t.reading.token []
close-written {s} t e = closing-is t.reading.token (get_or s 0 0) (token-kind s t.reading t.is) e

-- ---- when two are the same

symbol_of : (s : List ℕ) (t : Token) (p : Span) (k : List ℕ) → s ≡ put_token p t k → ValidToken t → KindOf (get_or s 0 0) t → (get_or s 0 0 ≡ 15 → ⊥) → (get_or s 0 0 ≡ 7 → ⊥) → (x : SymbolAt s) × (t ≡ Token.symbol x.symbol)
unfolding put_token
symbol_of s (Token.symbol x) p k e v d h l = (record { span = p; symbol = x; rest = k; is = e; valid = v }, refl)
symbol_of s Token.opening p k e v d h l = absurd (l d)
symbol_of s Token.closing p k e v d h l = absurd (h d)

pub symbol-here : {s : List ℕ} (small : (i : ℕ) → get_or s i 0 < 256) (t : TokenAt s) → (get_or s 0 0 ≡ 15 → ⊥) → (get_or s 0 0 ≡ 7 → ⊥) → (x : SymbolAt s) × (t.reading.token ≡ Token.symbol x.symbol)
symbol-here {s} small t h l =
    let r = t.reading in
    symbol_of s r.token (get_span s 1) (drop r.size s) (token-stands s small r t.is) (token-valid s r t.is) (token-kind s r t.is) h l

opening-same : (t u : Token) (m n : ℕ) → KindOf m t → KindOf n u → m ≡ 7 → n ≡ 7 → same_token t u ≡ true
unfolding same_token
opening-same (Token.symbol x) u m n k l e f = absurd (k.1 e)
opening-same Token.closing u m n k l e f = absurd (omega (arith, k, e))
opening-same Token.opening (Token.symbol x) m n k l e f = absurd (l.1 f)
opening-same Token.opening Token.closing m n k l e f = absurd (omega (arith, l, f))
opening-same Token.opening Token.opening m n k l e f = refl

closing_same : (t u : Token) (m n : ℕ) → KindOf m t → KindOf n u → m ≡ 15 → n ≡ 15 → same_token t u ≡ true
unfolding same_token
closing_same (Token.symbol x) u m n k l e f = absurd (k.0 e)
closing_same Token.opening u m n k l e f = absurd (omega (arith, k, e))
closing_same Token.closing (Token.symbol x) m n k l e f = absurd (l.0 f)
closing_same Token.closing Token.opening m n k l e f = absurd (omega (arith, l, f))
closing_same Token.closing Token.closing m n k l e f = refl

differ : (t u : Token) (m n : ℕ) → KindOf m t → KindOf n u → (m ≡ n → ⊥) → ((x y : Symbol) → t ≡ Token.symbol x → u ≡ Token.symbol y → same_symbol x y ≡ false) → same_token t u ≡ false
unfolding same_token
differ (Token.symbol x) (Token.symbol y) m n k l h f = f x y refl refl
differ (Token.symbol x) Token.opening m n k l h f = refl
differ (Token.symbol x) Token.closing m n k l h f = refl
differ Token.opening (Token.symbol y) m n k l h f = refl
differ Token.opening Token.opening m n k l h f = absurd (h (k ∙ sym l))
differ Token.opening Token.closing m n k l h f = refl
differ Token.closing (Token.symbol y) m n k l h f = refl
differ Token.closing Token.opening m n k l h f = refl
differ Token.closing Token.closing m n k l h f = absurd (h (k ∙ sym l))

symbol_with : (s : List ℕ) (t : Token) (p : Span) (k : List ℕ) (x : Symbol) → s ≡ put_token p t k → ValidToken t → t ≡ Token.symbol x → (y : SymbolAt s) × (y.symbol ≡ x)
unfolding put_token
symbol_with s t p k x e v q =
    let e2 : s ≡ put_symbol p x k = e ∙ ap (λ (u : Token). put_token p u k) q in
    (record { span = p; symbol = x; rest = k; is = e2; valid = subst ValidToken q v }, refl)

module _ {a b : List ℕ} (small-a : (i : ℕ) → get_or a i 0 < 256) (small_b : (i : ℕ) → get_or b i 0 < 256) (t : TokenAt a) (u : TokenAt b) where
  pub marks_differ : (get_or a 0 0 ≡ get_or b 0 0 → ⊥) → same_token t.reading.token u.reading.token ≡ false
  marks_differ h =
      differ t.reading.token u.reading.token (get_or a 0 0) (get_or b 0 0) (token-kind a t.reading t.is) (token-kind b u.reading u.is) h
      (λ x y e f.
      let p = symbol_with a t.reading.token (get_span a 1) (drop t.reading.size a) x (token-stands a small-a t.reading t.is) (token-valid a t.reading t.is) e in
      let q = symbol_with b u.reading.token (get_span b 1) (drop u.reading.size b) y (token-stands b small_b u.reading u.is) (token-valid b u.reading u.is) f in
      sym (ap (λ (z : Symbol). same_symbol z y) p.1) ∙ (sym (ap (λ (z : Symbol). same_symbol p.0.symbol z) q.1) ∙ two_sorts p.0 q.0 h))

  pub brackets : get_or a 0 0 ≡ get_or b 0 0 → (get_or a 0 0 ≡ 7) ⊎ (get_or a 0 0 ≡ 15) → same_token t.reading.token u.reading.token ≡ true
  brackets e h =
      let k = token-kind a t.reading t.is in
      let l = token-kind b u.reading u.is in
      ⊎_elim
      (λ f. opening-same t.reading.token u.reading.token (get_or a 0 0) (get_or b 0 0) k l f (sym e ∙ f))
      (λ f. closing_same t.reading.token u.reading.token (get_or a 0 0) (get_or b 0 0) k l f (sym e ∙ f))
      h

pub symbols_same : (t u : Token) (x y : Symbol) → t ≡ Token.symbol x → u ≡ Token.symbol y → same_symbol x y ≡ same_token t u
unfolding same_token
symbols_same t u x y e f = sym (ap (λ (z : Token). same_token z u) e ∙ ap (λ (z : Token). same_token (Token.symbol x) z) f)

-- ---- closes owed are few: a term takes nine bytes at least

pub owed-room : {x : List ℕ} (t : TokenAt x) {n : ℕ} → n ≡ t.reading.size → (d e at : ℕ) → e ≡ owed_after (get_or x 0 0) d → 4 * d ≤ at → 4 * e ≤ at + n
owed-room {x} t {n} size d e at q h =
    let g = owed_small (get_or x 0 0) d q in
    by (eqb (get_or x 0 0) 15) refl (by_mark t).spanned g.0 g.1
  where
    by : (u : Bool) → eqb (get_or x 0 0) 15 ≡ u → ((get_or x 0 0 ≡ 15 → ⊥) → 9 ≤ t.reading.size) → (get_or x 0 0 ≡ 15 → e ≤ d) → e ≤ 1 + max 1 d → 4 * e ≤ at + n
    by true f s a b = let k = a (eqb-true (get_or x 0 0) 15 f) in omega arith
    by false f s a b = let k = s (eqb-false (get_or x 0 0) 15 f) in omega (arith, k, size)
