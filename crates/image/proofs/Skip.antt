-- Passing over what is written: closes are counted, and nothing else.
use Prim.Native.Nat.{ℕ, zero, suc, ◌+◌, ◌-◌, ◌≤◌, ◌<◌, min}
use native.Mathlib.Omega.{arith}
use mathlib.Core.Path.{◌≡◌, refl, sym, ap, ◌∙◌}
use mathlib.Core.Bool.{Bool, true, false}
use mathlib.Core.List.{List, [], ◌∷◌, ◌++◌}
use lib.Dec.{leb}
use borrow.Author.Tests.{leb-true, leb-false}
use lib.ListN.{length, get_or, drop, drop_of_length-le}
use lib.Seq.{drop-cons, drop-drop, get_or-drop}
use Rattle.program.specs.Syntax.{Name, Span, Symbol, character, identifier, number, Kind, s_kind, t_kind, e_kind, Head, Terms, nil, symbol, variable, bracket, call, block, Conditions, none, condition, Sentences, empty, sentence}
use Rattle.program.specs.Bytes.{put32, put_span, put_name}
use Rattle.program.specs.Encode.{put_symbol, kind_mark, put_head, put_terms, put_conditions, put_sentences}
use Rattle.program.proofs.Tests.{by_test}
use Rattle.image.specs.Skip.{owed, fields, passing, pass}

-- Past k bytes, and then n closes.
abbrev after : ℕ → ℕ → List ℕ → List ℕ
after n k s = passing s n k

pass-span : (n : ℕ) (p : Span) (k : List ℕ) → after (suc n) 8 (put_span p k) ≡ pass (suc n) k
unfolding passing put_span put32
pass-span n p k = refl

pass-code : (n : ℕ) (p : Span) (c : ℕ) (k : List ℕ) → after (suc n) 12 (put_span p (put32 c k)) ≡ pass (suc n) k
unfolding passing put_span put32
pass-code n p c k = refl

pass_over : (n : ℕ) (a k : List ℕ) → after (suc n) (length a) (a ++ k) ≡ pass (suc n) k
unfolding passing
pass_over n [] k = refl
pass_over n (b ∷ a) k = pass_over n a k

-- A span and a name.
pass-name : (n : ℕ) (p : Span) (a k : List ℕ) → after (suc n) (9 + get_or (put_span p (put_name a k)) 8 0) (put_span p (put_name a k)) ≡ pass (suc n) k
unfolding passing put_span put32 put_name
pass-name n p a k =
    let q : 9 + length a ≡ suc (suc (suc (suc (suc (suc (suc (suc (suc (length a))))))))) = omega arith in
    rw q (pass_over n a k)

pass-none : (s : List ℕ) (k : ℕ) → after 0 k s ≡ s
unfolding passing
pass-none [] k = refl
pass-none (b ∷ s) k = refl

pass-symbol : (n : ℕ) (s : Span) (x : Symbol) (k : List ℕ) → pass (suc n) (put_symbol s x k) ≡ pass (suc n) k
unfolding put_symbol passing owed fields
pass-symbol n s (character c) k = pass-code n s c k
pass-symbol n s (identifier a) k = pass-name n s a k
pass-symbol n s (number a) k = pass-name n s a k

pass-variable : (n : ℕ) (s : Span) (v : Kind) (a : Name) (k : List ℕ) → pass (suc n) (kind_mark v ∷ put_span s (put_name a k)) ≡ pass (suc n) k
unfolding kind_mark passing owed fields
pass-variable n s s_kind a k = pass-name n s a k
pass-variable n s t_kind a k = pass-name n s a k
pass-variable n s e_kind a k = pass-name n s a k

pass-close : (n : ℕ) (k : List ℕ) → pass (suc n) (15 ∷ k) ≡ pass n k
unfolding passing owed fields
pass-close n k = refl

pass-bracket : (n : ℕ) (s : Span) (k : List ℕ) → pass (suc n) (7 ∷ put_span s k) ≡ pass (suc (suc n)) k
unfolding passing owed fields
pass-bracket n s k = pass-span (suc n) s k

pass-call : (n : ℕ) (s : Span) (a : Name) (k : List ℕ) → pass (suc n) (8 ∷ put_span s (put_name a k)) ≡ pass (suc (suc n)) k
unfolding passing owed fields
pass-call n s a k = pass-name (suc n) s a k

pass-block : (n : ℕ) (s : Span) (k : List ℕ) → pass (suc n) (9 ∷ put_span s k) ≡ pass (suc (suc (suc n))) k
unfolding passing owed fields
pass-block n s k = pass-span (suc (suc n)) s k

pass-head : (n : ℕ) (h : Head) (k : List ℕ) → pass (suc n) (put_head h k) ≡ pass (suc (suc (suc n))) k
unfolding put_head passing owed fields
pass-head n h k = pass-span (suc (suc n)) h.span k

pub pass-condition : (n : ℕ) (s : Span) (k : List ℕ) → pass (suc n) (11 ∷ put_span s k) ≡ pass (suc (suc (suc n))) k
unfolding passing owed fields
pass-condition n s k = pass-span (suc (suc n)) s k

pub pass-result : (n : ℕ) (k : List ℕ) → pass (suc n) (12 ∷ k) ≡ pass (suc n) k
unfolding passing owed fields
pass-result n k = refl

mutual
  unfolding put_terms put_conditions put_sentences

  pub pass-terms : (t : Terms) (n : ℕ) (k : List ℕ) → pass (suc n) (put_terms t k) ≡ pass n k
  pass-terms nil n k = pass-close n k
  pass-terms (symbol s x r) n k = pass-symbol n s x (put_terms r k) ∙ pass-terms r n k
  pass-terms (variable s v a r) n k = pass-variable n s v a (put_terms r k) ∙ pass-terms r n k
  pass-terms (bracket s t r) n k = pass-bracket n s (put_terms t (put_terms r k)) ∙ (pass-terms t (suc n) (put_terms r k) ∙ pass-terms r n k)
  pass-terms (call s a t r) n k = pass-call n s a (put_terms t (put_terms r k)) ∙ (pass-terms t (suc n) (put_terms r k) ∙ pass-terms r n k)
  pass-terms (block s t b r) n k =
      pass-block n s (put_terms t (put_sentences b (put_terms r k)))
      ∙ (pass-terms t (suc (suc n)) (put_sentences b (put_terms r k)) ∙ (pass-sentences b (suc n) (put_terms r k) ∙ pass-terms r n k))

  pub pass-conditions : (c : Conditions) (n : ℕ) (k : List ℕ) → pass (suc n) (put_conditions c k) ≡ pass (suc n) k
  pass-conditions none n k = refl
  pass-conditions (condition s t p c) n k =
      pass-condition n s (put_terms t (put_terms p (put_conditions c k)))
      ∙ (pass-terms t (suc (suc n)) (put_terms p (put_conditions c k)) ∙ (pass-terms p (suc n) (put_conditions c k) ∙ pass-conditions c n k))

  pub pass-sentences : (b : Sentences) (n : ℕ) (k : List ℕ) → pass (suc n) (put_sentences b k) ≡ pass n k
  pass-sentences empty n k = pass-close n k
  pass-sentences (sentence h p c r b) n k =
      pass-head n h (put_terms p (put_conditions c (12 ∷ put_terms r (put_sentences b k))))
      ∙ (pass-terms p (suc (suc n)) (put_conditions c (12 ∷ put_terms r (put_sentences b k)))
      ∙ (pass-conditions c (suc n) (12 ∷ put_terms r (put_sentences b k))
      ∙ (pass-result (suc n) (put_terms r (put_sentences b k)) ∙ (pass-terms r (suc n) (put_sentences b k) ∙ pass-sentences b n k))))

pub pass-nothing : (k : List ℕ) → pass 0 k ≡ k
pass-nothing k = pass-none k 0

-- The bytes of a mark are passed at once
pass_skip : (s : List ℕ) (n k : ℕ) → after (suc n) k s ≡ pass (suc n) (drop k s)
unfolding passing
pass_skip [] n zero = refl
pass_skip [] n (suc k) = refl
pass_skip (b ∷ s) n zero = refl
pass_skip (b ∷ s) n (suc k) = pass_skip s n k

-- The closes owed after a mark: none where only the last was owed, at least one elsewhere.
owed_cases : (P : ℕ → Type 0) (m n : ℕ) → (m ≡ 15 → P n) → ((j : ℕ) → n ≤ j → j ≤ suc (suc n) → P (suc j)) → P (owed m n)
unfolding owed
owed_cases P m n f g =
    by_test P m 7 _ _ (λ e. g (suc n) (omega arith) (omega arith))
    (λ n7. by_test P m 8 _ _ (λ e. g (suc n) (omega arith) (omega arith))
    (λ n8. by_test P m 9 _ _ (λ e. g (suc (suc n)) (omega arith) (omega arith))
    (λ n9. by_test P m 10 _ _ (λ e. g (suc (suc n)) (omega arith) (omega arith))
    (λ n10. by_test P m 11 _ _ (λ e. g (suc (suc n)) (omega arith) (omega arith))
    (λ n11. by_test P m 15 _ _ f (λ n15. g n (omega arith) (omega arith)))))))

fields-close : (m : ℕ) (s : List ℕ) → m ≡ 15 → fields m s ≡ 0
unfolding fields
fields-close m s e = rw e

pass-mark : (m n : ℕ) (s : List ℕ) → after (owed m n) (fields m s) s ≡ pass (owed m n) (drop (fields m s) s)
pass-mark m n s =
    owed_cases (λ j. after j (fields m s) s ≡ pass j (drop (fields m s) s)) m n
    (λ e. rw (fields-close m s e)) (λ j l h. pass_skip s j (fields m s))

pub pass_step : (s : List ℕ) (p need w q : ℕ) → p < length s → 0 < need → w ≡ fields (get_or s p 0) (drop (suc p) s) → drop q s ≡ drop (p + 1 + w) s
    → pass need (drop p s) ≡ pass (owed (get_or s p 0) (need - 1)) (drop q s)
unfolding passing
pass_step s p zero w q hp hn hw hq = absurd (omega arith)
pass_step s p (suc n) w q hp hn hw hq =
    let e : suc n - 1 ≡ n = omega arith in
    let z : suc p + w ≡ p + 1 + w = omega arith in
    rw (drop-cons s p 0 hp, e)
    (pass-mark (get_or s p 0) n (drop (suc p) s)
    ∙ ap (pass (owed (get_or s p 0) n)) (ap (λ (k : ℕ). drop k (drop (suc p) s)) (sym hw) ∙ (drop-drop w (suc p) s ∙ (ap (λ (k : ℕ). drop k s) z ∙ sym hq))))

pub owed-few : (m n : ℕ) → owed m n ≤ n + 3
owed-few m n = owed_cases (λ j. j ≤ n + 3) m n (λ e. omega arith) (λ j l h. omega arith)

pub owed-some : (m n : ℕ) → (m ≡ 15 → ⊥) → 0 < owed m n
owed-some m n h = owed_cases (λ j. 0 < j) m n (λ e. absurd (h e)) (λ j l u. omega arith)

pub name_at : (s : List ℕ) (p : ℕ) → get_or (drop (suc p) s) 8 0 ≡ get_or s (p + 9) 0
name_at s p = get_or-drop (suc p) s 8 0 ∙ ap (λ (i : ℕ). get_or s i 0) (omega arith)

-- The walk to a close: what holds at the loop's head
pub record Passed (s : List ℕ) (at from p need : ℕ) : Type 0 where
  pub is : pass from (drop at s) ≡ pass need (drop p s)

pub passed_first : (s : List ℕ) (at from : ℕ) → Passed s at from at from
passed_first s at from = record { is = refl }

pub drop_min : (s : List ℕ) (m q : ℕ) → q ≡ min (length s) m → drop q s ≡ drop m s
drop_min s m q e = by (leb (length s) m) refl
  where
    by : (t : Bool) → leb (length s) m ≡ t → drop q s ≡ drop m s
    by true u = let l = leb-true (length s) m u in drop_of_length-le s {i = q} (omega arith) ∙ sym (drop_of_length-le s {i = m} l)
    by false u = let l = leb-false (length s) m u in let z : q ≡ m = omega arith in rw z

pub passed_next : (s : List ℕ) (at from p need w q n : ℕ) → Passed s at from p need → p < length s → (need ≡ 0 → ⊥) → w ≡ fields (get_or s p 0) (drop (suc p) s) → q ≡ min (length s) (p + 1 + w) → n ≡ owed (get_or s p 0) (need - 1)
    → Passed s at from q n
passed_next s at from p need w q n h hp hn hw hq ho =
    record { is = h.is ∙ (pass_step s p need w q hp (omega arith) hw (drop_min s (p + 1 + w) q hq) ∙ rw ho) }

pub passed_end : (s : List ℕ) (at from p need : ℕ) → Passed s at from p need → length s ≤ p → drop p s ≡ pass from (drop at s)
unfolding passing
passed_end s at from p need h l = let e : drop p s ≡ [] = drop_of_length-le s l in sym (h.is ∙ rw e)

pub passed_done : (s : List ℕ) (at from p need : ℕ) → Passed s at from p need → need ≡ 0 → drop p s ≡ pass from (drop at s)
passed_done s at from p need h e = sym (h.is ∙ rw e (pass-none (drop p s) 0))
