-- Two cursors that go over the letters of two sequences in step: what is left of both answers as the whole.
use Prim.Native.Nat.{ℕ, suc, ◌+◌, ◌-◌, ◌*◌, ◌<◌, ◌≤◌}
use native.Mathlib.Omega.{arith}
use mathlib.Core.Path.{◌≡◌, refl, sym, ap, subst, ◌∙◌}
use mathlib.Core.Bool.{Bool, true, false, cond, ◌&&◌}
use mathlib.Core.List.{List, [], ◌∷◌, ◌++◌, flatten}
use lib.Dec.{eqb}
use lib.ListN.{length, get_or, drop, length-append, get_or-append}
use lib.Seq.{drop-cons, drop_at}
use borrow.Author.Tests.{eqb-true, eqb-false, eq-eqb, ne_eqb}
use Rattle.program.specs.Limits.{Mode}
use Rattle.image.specs.Parts.{TermsAt, token_length, closes_after}
use Rattle.patterns.specs.Names.{eq_bytes}
use Rattle.rows.proofs.Readings.{part, part_length, part_part}
use Rattle.meaning.specs.Text.{Text, format_terms}
use Rattle.compare.specs.Letters.{letters, TokenIn, StandsIn, Walk, Coming, SameBefore}
use Rattle.compare.proofs.Letters.{letters-short, token-long}
use Rattle.compare.proofs.Same.{after-some, ended-both, not_ended, coming_within, coming_few, coming_end, nothing-both}

-- Letter k is one of the first text; behind the last text it is letter 0.
abbrev pub Inside : ℕ → List Text → Type 0
Inside k [] = k ≡ 0
Inside k (x ∷ ls) = k < length x

-- A cursor at letter k of the token at i, with c closes to come from that token on.
pub record Cursor (s rest : List ℕ) (i k c : ℕ) : Type 0 where
  pub from : Coming s rest i c
  pub inside : Inside k from.texts

-- The letters still to come.
abbrev pub left : {s rest : List ℕ} {i k c : ℕ} → Cursor s rest i k c → Text
left {k = k} x = drop k (flatten x.from.texts)

inside_first : (c : ℕ) (ls : List Text) (s rest : List ℕ) → Walk c ls s rest → Inside 0 ls
inside_first c [] s rest h = refl
inside_first c (x ∷ ls) s rest h = h.2

-- At the first letter of a token.
abbrev cursor-from : {s rest : List ℕ} {i k c : ℕ} → k ≡ 0 → Coming s rest i c → Cursor s rest i k c
cursor-from {s} {rest} {i} {k} {c} e x = record { from = x; inside = subst (λ (j : ℕ). Inside j x.texts) (sym e) (inside_first c x.texts (part s i) rest x.walk) }

-- A cursor before the last close.
pub record Going (s : List ℕ) (i k : ℕ) (texts : List Text) : Type 0 where
  pub token : TokenIn (part s i)
  pub inside : k < length (letters (part s i))
  pub text : drop k (flatten texts) ≡ get_or (letters (part s i)) k 0 ∷ drop (suc k) (flatten texts)

-- One letter on: n bytes further, at letter q, with d closes to come.
pub record Gone (s rest : List ℕ) (i k : ℕ) (texts : List Text) (n q d : ℕ) : Type 0 where
  pub next : Cursor s rest (i + n) q d
  pub text : drop (suc k) (flatten texts) ≡ left next
  pub less : 2 * (length s - (i + n)) - q < 2 * (length s - i) - k

module _ {s rest : List ℕ} {i k c : ℕ} (x : Cursor s rest i k c) where
  pub left-nothing : get_or (part s i) 0 0 ≡ 15 → c ≡ 1 → left x ≡ []
  unfolding flatten
  left-nothing m e = go x.from.texts (coming_end x.from m e) x.inside
    where
      go : (ls : List Text) → ls ≡ [] → Inside k ls → drop k (flatten ls) ≡ []
      go [] w e = rw e
      go (y ∷ ls) w e = absurd (omega (arith, ap length w))

  module _ (n : get_or (part s i) 0 0 ≡ 15 → c ≡ 1 → ⊥) where
    at-end : part s i ≡ 15 ∷ rest → c ≡ 1 → ⊥
    at-end w e = n (ap (λ (l : List ℕ). get_or l 0 0) w) e

    pub going : Going s i k x.from.texts
    unfolding flatten
    going = go x.from.texts x.from.walk x.inside
      where
        go : (ls : List Text) → Walk c ls (part s i) rest → Inside k ls → Going s i k ls
        go [] w e = absurd (at-end w.0 w.1)
        go (y ∷ ls) w e =
            let g : get_or (y ++ flatten ls) k 0 ≡ get_or (letters (part s i)) k 0 = get_or-append y (flatten ls) 0 k e ∙ ap (λ (t : Text). get_or t k 0) w.1 in
            record {
              token = w.0;
              inside = omega (arith, e, ap length w.1);
              text = drop-cons (y ++ flatten ls) k 0 (omega (arith, e, length-append y (flatten ls))) ∙ ap (λ (b : ℕ). b ∷ drop (suc k) (y ++ flatten ls)) g;
            }

    pub stands : StandsIn s i k × (0 < c) × (c ≤ length s)
    stands = (record { within = omega (arith, coming_within x.from); token = going.token; inside = going.inside }, x.from.some, omega (arith, coming_few x.from, part_length s i))

    pub gone : (z : Bool) (r q d : ℕ) → z ≡ eqb (k + 1) (length (letters (part s i))) → r ≡ cond z (token_length (part s i)) 0 → q ≡ cond z 0 (k + 1) → d ≡ cond z (closes_after (get_or (part s i) 0 0) c) c → Gone s rest i k x.from.texts r q d
    unfolding flatten
    gone z r q d e f g b = go x.from.texts x.from.walk x.inside z e f g b
      where
        go : (ls : List Text) → Walk c ls (part s i) rest → Inside k ls → (z : Bool) → z ≡ eqb (k + 1) (length (letters (part s i))) → r ≡ cond z (token_length (part s i)) 0 → q ≡ cond z 0 (k + 1) → d ≡ cond z (closes_after (get_or (part s i) 0 0) c) c → Gone s rest i k ls r q d
        go [] w h z e f g b = absurd (at-end w.0 w.1)
        go (y ∷ ls) w h true e f g b =
            let v : length y ≡ suc k = omega (arith, eqb-true (k + 1) (length (letters (part s i))) (sym e), ap length w.1) in
            let p : drop (token_length (part s i)) (part s i) ≡ part s (i + r) = ap (λ (j : ℕ). drop j (part s i)) (sym f) ∙ part_part s i r in
            let o = inside_first (closes_after (get_or (part s i) 0 0) c) ls (drop (token_length (part s i)) (part s i)) rest w.4 in
            record {
              next = record {
                from = record {
                  texts = ls;
                  walk = subst (λ (m : ℕ). Walk m ls (part s (i + r)) rest) (sym b) (subst (λ (l : List ℕ). Walk (closes_after (get_or (part s i) 0 0) c) ls l rest) p w.4);
                  some = omega (arith, b, after-some (get_or (part s i) 0 0) c x.from.some w.3);
                };
                inside = subst (λ (j : ℕ). Inside j ls) (sym g) o;
              };
              text = drop_at y (flatten ls) (suc k) v ∙ ap (λ (j : ℕ). drop j (flatten ls)) (sym g);
              less = omega (arith, f, g, v, w.0.within, part_length s i, coming_within x.from, letters-short w.0, token-long w.0, ap length w.1);
            }
        go (y ∷ ls) w h false e f g b =
            let v : k + 1 < length y = omega (arith, h, eqb-false (k + 1) (length (letters (part s i))) (sym e), ap length w.1) in
            let j : suc k ≡ q = omega (arith, g) in
            let p : i ≡ i + r = omega (arith, f) in
            record {
              next = record {
                from = record {
                  texts = y ∷ ls;
                  walk = subst (λ (m : ℕ). Walk m (y ∷ ls) (part s (i + r)) rest) (sym b) (subst (λ (m : ℕ). Walk c (y ∷ ls) (part s m) rest) p w);
                  some = omega (arith, b, x.from.some);
                };
                inside = omega (arith, v, g);
              };
              text = ap (λ (m : ℕ). drop m (y ++ flatten ls)) j;
              less = omega (arith, f, g, v, w.0.within, part_length s i, coming_within x.from, letters-short w.0, ap length w.1);
            }

-- Both cursors.
pub record Comparing {a b : List ℕ} (t : TermsAt Mode.pattern a) (u : TermsAt Mode.pattern b) (i k c j l d : ℕ) : Type 0 where
  pub one : Cursor a t.rest i k c
  pub two : Cursor b u.rest j l d
  pub whole : eq_bytes (format_terms t.terms) (format_terms u.terms) ≡ eq_bytes (left one) (left two)

pub comparing_from : {a b : List ℕ} {t : TermsAt Mode.pattern a} {u : TermsAt Mode.pattern b} {i k c : ℕ} → k ≡ 0 → SameBefore t u i c → Comparing t u i k c i k c
comparing_from {k = k} e s = record {
  one = cursor-from e s.one;
  two = cursor-from e s.two;
  whole = s.whole ∙ ap (λ (j : ℕ). eq_bytes (drop j (flatten s.one.texts)) (drop j (flatten s.two.texts))) (sym e);
}

letters-met : (c d : ℕ) (v w : Text) → c ≡ d → eq_bytes (c ∷ v) (d ∷ w) ≡ eq_bytes v w
unfolding eq_bytes
letters-met c d v w e = rw (eq-eqb c d e)

letters-apart : (c d : ℕ) (v w : Text) → (c ≡ d → ⊥) → eq_bytes (c ∷ v) (d ∷ w) ≡ false
unfolding eq_bytes
letters-apart c d v w e = rw (ne_eqb c d e)

nothing-after : (c : ℕ) (v : Text) → eq_bytes (c ∷ v) [] ≡ false
unfolding eq_bytes
nothing-after c v = refl

nothing-before : (c : ℕ) (v : Text) → eq_bytes [] (c ∷ v) ≡ false
unfolding eq_bytes
nothing-before c v = refl

module _ {a b : List ℕ} {t : TermsAt Mode.pattern a} {u : TermsAt Mode.pattern b} {i k c j l d : ℕ} (x : Comparing t u i k c j l d) where
  abbrev answer : Bool
  answer = eq_bytes (format_terms t.terms) (format_terms u.terms)

  -- One of the two has ended.
  module _ (z : Bool) (e : z ≡ (eqb (get_or (part b j) 0 0) 15 && eqb d 1)) where
    pub first_ends : get_or (part a i) 0 0 ≡ 15 → c ≡ 1 → z ≡ answer
    first_ends m h = go z refl
      where
        reduced : answer ≡ eq_bytes [] (left x.two)
        reduced = x.whole ∙ ap (λ (w : Text). eq_bytes w (left x.two)) (left-nothing x.one m h)

        go : (y : Bool) → z ≡ y → y ≡ answer
        go true p = let o = ended-both z (get_or (part b j) 0 0) d e p in sym (reduced ∙ (ap (eq_bytes []) (left-nothing x.two o.0 o.1) ∙ nothing-both))
        go false p = sym (reduced ∙ (ap (eq_bytes []) (going x.two (not_ended z (get_or (part b j) 0 0) d e p)).text ∙ nothing-before _ _))

  module _ (e : get_or (part a i) 0 0 ≡ 15 → c ≡ 1 → ⊥) where
    reads_one : answer ≡ eq_bytes (get_or (letters (part a i)) k 0 ∷ drop (suc k) (flatten x.one.from.texts)) (left x.two)
    reads_one = x.whole ∙ ap (λ (w : Text). eq_bytes w (left x.two)) (going x.one e).text

    pub second-ends : get_or (part b j) 0 0 ≡ 15 → d ≡ 1 → answer ≡ false
    second-ends m h = reads_one ∙ (ap (eq_bytes (get_or (letters (part a i)) k 0 ∷ drop (suc k) (flatten x.one.from.texts))) (left-nothing x.two m h) ∙ nothing-after _ _)

    module _ (f : get_or (part b j) 0 0 ≡ 15 → d ≡ 1 → ⊥) (y z : ℕ) (p : y ≡ get_or (letters (part a i)) k 0) (q : z ≡ get_or (letters (part b j)) l 0) where
      reads_both : answer ≡ eq_bytes (y ∷ drop (suc k) (flatten x.one.from.texts)) (z ∷ drop (suc l) (flatten x.two.from.texts))
      reads_both =
          reads_one
          ∙ (ap (eq_bytes (get_or (letters (part a i)) k 0 ∷ drop (suc k) (flatten x.one.from.texts))) (going x.two f).text
          ∙ (ap (λ (m : ℕ). eq_bytes (m ∷ drop (suc k) (flatten x.one.from.texts)) (get_or (letters (part b j)) l 0 ∷ drop (suc l) (flatten x.two.from.texts))) (sym p)
          ∙ ap (λ (m : ℕ). eq_bytes (y ∷ drop (suc k) (flatten x.one.from.texts)) (m ∷ drop (suc l) (flatten x.two.from.texts))) (sym q)))

      pub letters-differ : (y ≡ z → ⊥) → answer ≡ false
      letters-differ h = reads_both ∙ letters-apart y z _ _ h

      pub comparing-next : y ≡ z → {r v g o w h : ℕ} → Gone a t.rest i k x.one.from.texts r v g → Gone b u.rest j l x.two.from.texts o w h → Comparing t u (i + r) v g (j + o) w h
      comparing-next e m n = record {
        one = m.next;
        two = n.next;
        whole = reads_both ∙ (letters-met y z _ _ e ∙ (ap (λ (w : Text). eq_bytes w (drop (suc l) (flatten x.two.from.texts))) m.text ∙ ap (eq_bytes (left m.next)) n.text));
      }

pub comparing-there : {a b : List ℕ} {t : TermsAt Mode.pattern a} {u : TermsAt Mode.pattern b} {i k c j l d p q r s v w : ℕ} → Comparing t u i k c j l d → p ≡ i → q ≡ k → r ≡ c → s ≡ j → v ≡ l → w ≡ d → Comparing t u p q r s v w
comparing-there x e f g h m n = rw (e, f, g, h, m, n) x
