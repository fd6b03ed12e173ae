-- What the bytes of a part say of the terms, sentence or function that stands there.
use Prim.Native.Nat.{ℕ, suc, ◌+◌, ◌-◌, ◌≤◌, ◌<◌}
use native.Mathlib.Omega.{arith}
use native.Mathlib.Nat.{add-zero}
use mathlib.Core.Path.{◌≡◌, refl, sym, ap, subst, ◌∙◌}
use mathlib.Core.List.{List, [], ◌∷◌}
use lib.ListN.{length, get_or, take, drop, length-append, length-drop}
use lib.Seq.{take-append_seam, drop-append_seam, drop-drop, get_or-drop}
use Rattle.program.specs.Syntax.{Name, Span, character, identifier, number, s_kind, t_kind, e_kind, Head, Terms, nil, symbol, variable, bracket, call, block, Conditions, none, condition, Sentences, empty, sentence}
use Rattle.program.specs.Bytes.{put32, put_span, put_name}
use Rattle.program.specs.Encode.{put_symbol, kind_mark, put_head, put_terms, put_conditions, put_sentences, put_function}
use Rattle.program.specs.Limits.{Mode, ValidTerms, ValidConditions, ValidSentences}
use Rattle.program.specs.Automaton.{Stack, Read, made, at_end, follow, turn, run}
use Rattle.image.specs.Skip.{owed, fields, pass}
use Rattle.image.specs.Parts.{Passes, NameAt, TermsAt, tail, put_sentence, SentenceAt, FunctionAt}
use Rattle.program.specs.Sentences.{Sentence}
use Rattle.program.proofs.Lengths.{span-length, code-length, head-length, terms-length, conditions-length}
use Rattle.program.proofs.Complete.{run-terms}
use Rattle.image.proofs.Skip.{pass-terms, pass-conditions, pass-sentences, pass-nothing, pass-result}

-- With fewer brackets around, and in a result instead of a pattern, terms are still within the limits.
mutual
  pub fewer_around : (t : Terms) (m : Mode) (d e : ℕ) → e ≤ d → ValidTerms t m d → ValidTerms t m e
  fewer_around nil m d e l h = tt
  fewer_around (symbol s x r) m d e l h = (h.0, h.1, fewer_around r m d e l h.2)
  fewer_around (variable s v n r) m d e l h = (h.0, h.1, fewer_around r m d e l h.2)
  fewer_around (bracket s t r) m d e l h = (h.0, omega arith, fewer_around t m (suc d) (suc e) (omega arith) h.2, fewer_around r m d e l h.3)
  fewer_around (call s n t r) m d e l h = (h.0, omega arith, h.2, h.3, fewer_around t m (suc d) (suc e) (omega arith) h.4, fewer_around r m d e l h.5)
  fewer_around (block s t b r) m d e l h = (h.0, omega arith, h.2, fewer_around t m (suc d) (suc e) (omega arith) h.3, fewer_around_sentences b (suc d) (suc e) (omega arith) h.4, fewer_around r m d e l h.5)

  pub fewer_around_conditions : (c : Conditions) (d e : ℕ) → e ≤ d → ValidConditions c d → ValidConditions c e
  fewer_around_conditions none d e l h = tt
  fewer_around_conditions (condition s t p c) d e l h = (h.0, fewer_around t Mode.result d e l h.1, fewer_around p Mode.pattern d e l h.2, fewer_around_conditions c d e l h.3)

  pub fewer_around_sentences : (b : Sentences) (d e : ℕ) → e ≤ d → ValidSentences b d → ValidSentences b e
  fewer_around_sentences empty d e l h = tt
  fewer_around_sentences (sentence a p c r b) d e l h = (h.0, fewer_around p Mode.pattern d e l h.1, fewer_around_conditions c d e l h.2, fewer_around r Mode.result d e l h.3, fewer_around_sentences b d e l h.4)

pub as_result : (t : Terms) (m : Mode) (d : ℕ) → ValidTerms t m d → ValidTerms t Mode.result d
as_result nil m d h = tt
as_result (symbol s x r) m d h = (h.0, h.1, as_result r m d h.2)
as_result (variable s v n r) m d h = (h.0, h.1, as_result r m d h.2)
as_result (bracket s t r) m d h = (h.0, h.1, as_result t m (suc d) h.2, as_result r m d h.3)
as_result (call s n t r) m d h = (h.0, h.1, tt, h.3, as_result t m (suc d) h.4, as_result r m d h.5)
as_result (block s t b r) m d h = (h.0, h.1, tt, as_result t m (suc d) h.3, h.4, as_result r m d h.5)

-- A reading of a pattern is one of terms anywhere.
pub result-at : {m : Mode} {s : List ℕ} → TermsAt m s → TermsAt Mode.result s
result-at {m} t = record { terms = t.terms; rest = t.rest; is = t.is; valid = as_result t.terms m 0 t.valid }

run-any : (k : List ℕ) → run Stack.any 0 k ≡ Read.value k
unfolding run at_end follow turn
run-any [] = refl
run-any (b ∷ k) = refl

-- The bytes say which terms they hold, and what follows them.
read_terms : (t : Terms) (m : Mode) (k : List ℕ) → ValidTerms t m 0 → run (Stack.terms Mode.result 0 Stack.any) 0 (put_terms t k) ≡ Read.value (t, k)
unfolding made
read_terms t m k h = (run-terms t Mode.result 0 Stack.any k (as_result t m 0 h)).is ∙ rw (run-any k)

pub one-reading : {s : List ℕ} {m n : Mode} (t : TermsAt m s) (u : TermsAt n s) → (t.terms ≡ u.terms) × (t.rest ≡ u.rest)
one-reading {s} {m} {n} t u =
    let a : Terms × List ℕ = (t.terms, t.rest) in
    let b : Terms × List ℕ = (u.terms, u.rest) in
    let e : Read.value a ≡ Read.value b =
    sym (read_terms t.terms m t.rest t.valid) ∙ (ap (run (Stack.terms Mode.result 0 Stack.any) 0) (sym t.is ∙ u.is) ∙ read_terms u.terms n u.rest u.valid) in
    let q : a ≡ b = cc in
    (ap (λ (p : Terms × List ℕ). p.0) q, ap (λ (p : Terms × List ℕ). p.1) q)

-- The first byte of terms: the mark of the first, or the close.
pub first_byte : {s k : List ℕ} → s ≡ k → get_or s 0 0 ≡ get_or k 0 0
first_byte e = ap (λ (l : List ℕ). get_or l 0 0) e

pub terms-room : {m : Mode} {s : List ℕ} → TermsAt m s → 0 < length s
terms-room t = omega (arith, ap length t.is, terms-length t.terms t.rest)

-- Past a span and a name.
drop-name : (p : Span) (n : Name) (k : List ℕ) → drop (9 + get_or (put_span p (put_name n k)) 8 0) (put_span p (put_name n k)) ≡ k
unfolding put_span put32 put_name
drop-name p n k =
    let z : 9 + length n ≡ suc (suc (suc (suc (suc (suc (suc (suc (suc (length n))))))))) = omega arith in
    rw z (drop-append_seam n k)

name-room : (p : Span) (n : Name) (k : List ℕ) → 9 + get_or (put_span p (put_name n k)) 8 0 ≤ length (put_span p (put_name n k))
unfolding put_span put32 put_name
name-room p n k = omega (arith, length-append n k)

span_passed : (p : Span) (k : List ℕ) → drop 8 (put_span p k) ≡ k
unfolding put_span put32
span_passed p k = refl

code_passed : (p : Span) (c : ℕ) (k : List ℕ) → drop 12 (put_span p (put32 c k)) ≡ k
unfolding put_span put32
code_passed p c k = refl

-- Past the fields of the first term, and the closes that it owes, the rest of the terms stands.
pub first_passes : (t : Terms) (k : List ℕ) → (get_or (put_terms t k) 0 0 ≡ 15 → ⊥)
    → pass (owed (get_or (put_terms t k) 0 0) 0 - 1) (drop (fields (get_or (put_terms t k) 0 0) (drop 1 (put_terms t k))) (drop 1 (put_terms t k))) ≡ put_terms (tail t) k
unfolding put_terms put_symbol kind_mark owed fields tail
first_passes nil k h = absurd (h refl)
first_passes (symbol s (character c) r) k h = ap (pass 0) (code_passed s c (put_terms r k)) ∙ pass-nothing (put_terms r k)
first_passes (symbol s (identifier n) r) k h = ap (pass 0) (drop-name s n (put_terms r k)) ∙ pass-nothing (put_terms r k)
first_passes (symbol s (number n) r) k h = ap (pass 0) (drop-name s n (put_terms r k)) ∙ pass-nothing (put_terms r k)
first_passes (variable s s_kind n r) k h = ap (pass 0) (drop-name s n (put_terms r k)) ∙ pass-nothing (put_terms r k)
first_passes (variable s t_kind n r) k h = ap (pass 0) (drop-name s n (put_terms r k)) ∙ pass-nothing (put_terms r k)
first_passes (variable s e_kind n r) k h = ap (pass 0) (drop-name s n (put_terms r k)) ∙ pass-nothing (put_terms r k)
first_passes (bracket s t r) k h = ap (pass 1) (span_passed s (put_terms t (put_terms r k))) ∙ (pass-terms t 0 (put_terms r k) ∙ pass-nothing (put_terms r k))
first_passes (call s n t r) k h = ap (pass 1) (drop-name s n (put_terms t (put_terms r k))) ∙ (pass-terms t 0 (put_terms r k) ∙ pass-nothing (put_terms r k))
first_passes (block s t b r) k h =
    ap (pass 2) (span_passed s (put_terms t (put_sentences b (put_terms r k))))
    ∙ (pass-terms t 1 (put_sentences b (put_terms r k)) ∙ (pass-sentences b 0 (put_terms r k) ∙ pass-nothing (put_terms r k)))

pub first-room : (t : Terms) (k : List ℕ) → suc (fields (get_or (put_terms t k) 0 0) (drop 1 (put_terms t k))) ≤ length (put_terms t k)
unfolding put_terms put_symbol kind_mark fields
first-room nil k = omega arith
first-room (symbol s (character c) r) k = omega (arith, span-length s (put32 c (put_terms r k)), code-length c (put_terms r k))
first-room (symbol s (identifier n) r) k = omega (arith, name-room s n (put_terms r k))
first-room (symbol s (number n) r) k = omega (arith, name-room s n (put_terms r k))
first-room (variable s s_kind n r) k = omega (arith, name-room s n (put_terms r k))
first-room (variable s t_kind n r) k = omega (arith, name-room s n (put_terms r k))
first-room (variable s e_kind n r) k = omega (arith, name-room s n (put_terms r k))
first-room (bracket s t r) k = omega (arith, span-length s (put_terms t (put_terms r k)))
first-room (call s n t r) k = omega (arith, name-room s n (put_terms t (put_terms r k)))
first-room (block s t b r) k = omega (arith, span-length s (put_terms t (put_sentences b (put_terms r k))))

close-tail : (t : Terms) (k : List ℕ) → get_or (put_terms t k) 0 0 ≡ 15 → put_terms t k ≡ put_terms (tail t) k
unfolding put_terms put_symbol kind_mark tail
close-tail nil k e = refl
close-tail (symbol s (character c) r) k e = absurd (omega arith)
close-tail (symbol s (identifier n) r) k e = absurd (omega arith)
close-tail (symbol s (number n) r) k e = absurd (omega arith)
close-tail (variable s s_kind n r) k e = absurd (omega arith)
close-tail (variable s t_kind n r) k e = absurd (omega arith)
close-tail (variable s e_kind n r) k e = absurd (omega arith)
close-tail (bracket s t r) k e = absurd (omega arith)
close-tail (call s n t r) k e = absurd (omega arith)
close-tail (block s t b r) k e = absurd (omega arith)

-- A flat term: a character is 13 bytes long, any other 10 and its name.
flat_code : (t : Terms) (k : List ℕ) → get_or (put_terms t k) 0 0 ≡ 1 → Passes (put_terms t k) 13 (put_terms (tail t) k)
unfolding put_terms put_symbol kind_mark tail
flat_code nil k e = absurd (omega arith)
flat_code (symbol s (character c) r) k e = record { fits = omega (arith, span-length s (put32 c (put_terms r k)), code-length c (put_terms r k)); left = code_passed s c (put_terms r k) }
flat_code (symbol s (identifier n) r) k e = absurd (omega arith)
flat_code (symbol s (number n) r) k e = absurd (omega arith)
flat_code (variable s s_kind n r) k e = absurd (omega arith)
flat_code (variable s t_kind n r) k e = absurd (omega arith)
flat_code (variable s e_kind n r) k e = absurd (omega arith)
flat_code (bracket s t r) k e = absurd (omega arith)
flat_code (call s n t r) k e = absurd (omega arith)
flat_code (block s t b r) k e = absurd (omega arith)

pub flat_one : (v : ℕ) (p : Span) (n : Name) (k : List ℕ) → Passes (v ∷ put_span p (put_name n k)) (10 + get_or (v ∷ put_span p (put_name n k)) 9 0) k
flat_one v p n k =
    let z : 10 + get_or (put_span p (put_name n k)) 8 0 ≡ suc (9 + get_or (put_span p (put_name n k)) 8 0) = omega arith in
    rw z (record { fits = omega (arith, name-room p n k); left = drop-name p n k })

flat_name : (t : Terms) (k : List ℕ) → (get_or (put_terms t k) 0 0 ≡ 1 → ⊥) → get_or (put_terms t k) 0 0 < 7 → Passes (put_terms t k) (10 + get_or (put_terms t k) 9 0) (put_terms (tail t) k)
unfolding put_terms put_symbol kind_mark tail
flat_name nil k h l = absurd (omega arith)
flat_name (symbol s (character c) r) k h l = absurd (h refl)
flat_name (symbol s (identifier n) r) k h l = flat_one 2 s n (put_terms r k)
flat_name (symbol s (number n) r) k h l = flat_one 3 s n (put_terms r k)
flat_name (variable s s_kind n r) k h l = flat_one 4 s n (put_terms r k)
flat_name (variable s t_kind n r) k h l = flat_one 5 s n (put_terms r k)
flat_name (variable s e_kind n r) k h l = flat_one 6 s n (put_terms r k)
flat_name (bracket s t r) k h l = absurd (omega arith)
flat_name (call s n t r) k h l = absurd (omega arith)
flat_name (block s t b r) k h l = absurd (omega arith)

-- The same of a part that holds terms.
module _ (s : List ℕ) where
  pub term_code : get_or s 0 0 ≡ 1 → (m : Mode) (t : TermsAt m s) → Passes s 13 (put_terms (tail t.terms) t.rest)
  term_code e m t = subst (λ (l : List ℕ). Passes l 13 (put_terms (tail t.terms) t.rest)) (sym t.is) (flat_code t.terms t.rest (sym (first_byte t.is) ∙ e))

  pub term_name : (get_or s 0 0 ≡ 1 → ⊥) → get_or s 0 0 < 7 → (m : Mode) (t : TermsAt m s) → Passes s (10 + get_or s 9 0) (put_terms (tail t.terms) t.rest)
  term_name h l m t =
      subst (λ (b : List ℕ). Passes b (10 + get_or b 9 0) (put_terms (tail t.terms) t.rest)) (sym t.is)
      (flat_name t.terms t.rest (λ q. h (first_byte t.is ∙ q)) (omega (arith, first_byte t.is)))

  pub term_room : TermsAt Mode.result s → suc (fields (get_or s 0 0) (drop 1 s)) ≤ length s
  term_room t = subst (λ (l : List ℕ). suc (fields (get_or l 0 0) (drop 1 l)) ≤ length l) (sym t.is) (first-room t.terms t.rest)

  pub term_close : get_or s 0 0 ≡ 15 → (m : Mode) (t : TermsAt m s) → Passes s 0 (put_terms (tail t.terms) t.rest)
  term_close e m t = record { fits = omega arith; left = t.is ∙ close-tail t.terms t.rest (sym (first_byte t.is) ∙ e) }

  pub term_passes : (w need r : ℕ) → (get_or s 0 0 ≡ 15 → ⊥) → w ≡ fields (get_or s 0 0) (drop 1 s) → need ≡ owed (get_or s 0 0) 0 - 1 → drop r s ≡ pass need (drop (1 + w) s) → r ≤ length s
      → (m : Mode) (t : TermsAt m s) → Passes s r (put_terms (tail t.terms) t.rest)
  term_passes w need r h hw hn hr hl m t =
      let e : drop (1 + w) s ≡ drop w (drop 1 s) = sym (drop-drop w 1 s) in
      record {
        fits = hl;
        left =
            hr ∙ (ap (pass need) e ∙ (rw (hn, hw)
            (subst (λ (l : List ℕ). pass (owed (get_or l 0 0) 0 - 1) (drop (fields (get_or l 0 0) (drop 1 l)) (drop 1 l)) ≡ put_terms (tail t.terms) t.rest) (sym t.is)
            (first_passes t.terms t.rest (λ q. h (first_byte t.is ∙ q))))));
      }

  pub terms-pass : (r : ℕ) → drop r s ≡ pass 1 (drop 0 s) → r ≤ length s → (m : Mode) (t : TermsAt m s) → Passes s r t.rest
  terms-pass r e l m t = record { fits = l; left = e ∙ (ap (pass 1) t.is ∙ (pass-terms t.terms 0 t.rest ∙ pass-nothing t.rest)) }

-- A name within a part.
module _ (s : List ℕ) where
  pub name-within : NameAt s → 1 + get_or s 0 0 ≤ length s
  unfolding put_name
  name-within n = omega (arith, ap length n.is, first_byte n.is, length-append n.name n.rest)

  pub name-taken : (u : ℕ) → u ≡ 1 + get_or s 0 0 → (n : NameAt s) → take (u - 1) (drop 1 s) ≡ n.name
  unfolding put_name
  name-taken u e n =
      let z : u - 1 ≡ length n.name = omega (arith, first_byte n.is) in
      rw (z, n.is) (take-append_seam n.name n.rest)

-- A sentence: its pattern begins at 9.
head_passed : (h : Head) (k : List ℕ) → drop 9 (put_head h k) ≡ k
unfolding put_head put_span put32
head_passed h k = refl

pub sentence_passed : (x : Sentence) (k : List ℕ) → pass 2 (drop 9 (put_sentence x k)) ≡ k
unfolding put_sentence
sentence_passed x k =
    let q : List ℕ = 12 ∷ put_terms x.result k in
    ap (pass 2) (head_passed x.head (put_terms x.pattern (put_conditions x.conditions q)))
    ∙ (pass-terms x.pattern 1 (put_conditions x.conditions q)
    ∙ (pass-conditions x.conditions 0 q ∙ (pass-result 0 (put_terms x.result k) ∙ (pass-terms x.result 0 k ∙ pass-nothing k))))

module _ (s : List ℕ) where
  pub sentence-room : SentenceAt s → 9 ≤ length s
  unfolding put_sentence
  sentence-room x = omega (arith, ap length x.is, head-length x.sentence.head (put_terms x.sentence.pattern (put_conditions x.sentence.conditions (12 ∷ put_terms x.sentence.result x.rest))))

  pub past-pattern : (r : ℕ) → drop r s ≡ pass 1 (drop 9 s) → r ≤ length s → (x : SentenceAt s) → Passes s r (put_conditions x.sentence.conditions (12 ∷ put_terms x.sentence.result x.rest))
  unfolding put_sentence
  past-pattern r e l x =
      let y = x.sentence in
      let k : List ℕ = put_conditions y.conditions (12 ∷ put_terms y.result x.rest) in
      record { fits = l; left = e ∙ (ap (λ (b : List ℕ). pass 1 (drop 9 b)) x.is ∙ (ap (pass 1) (head_passed y.head (put_terms y.pattern k)) ∙ (pass-terms y.pattern 0 k ∙ pass-nothing k))) }

  pub past-sentence : (r : ℕ) → drop r s ≡ pass 2 (drop 9 s) → r ≤ length s → (x : SentenceAt s) → Passes s r x.rest
  past-sentence r e l x = record { fits = l; left = e ∙ (ap (λ (b : List ℕ). pass 2 (drop 9 b)) x.is ∙ (sentence_passed x.sentence x.rest)) }

-- Conditions up to the result: at 11 one more stands, elsewhere none.
module _ (k : List ℕ) where
  pub condition-here : (c : Conditions) → get_or (put_conditions c (12 ∷ k)) 0 0 ≡ 11
      → (9 ≤ length (put_conditions c (12 ∷ k))) × ((e : Conditions) × (pass 2 (drop 9 (put_conditions c (12 ∷ k))) ≡ put_conditions e (12 ∷ k)))
  unfolding put_conditions
  condition-here none h = absurd (omega arith)
  condition-here (condition s t p c) h =
      let q : List ℕ = put_conditions c (12 ∷ k) in
      (omega (arith, span-length s (put_terms t (put_terms p q))), (c, ap (pass 2) (span_passed s (put_terms t (put_terms p q))) ∙ (pass-terms t 1 (put_terms p q) ∙ (pass-terms p 0 q ∙ pass-nothing q))))

  pub no_condition_here : (c : Conditions) → (get_or (put_conditions c (12 ∷ k)) 0 0 ≡ 11 → ⊥) → put_conditions c (12 ∷ k) ≡ 12 ∷ k
  unfolding put_conditions
  no_condition_here none h = refl
  no_condition_here (condition s t p c) h = absurd (h refl)

  pub conditions-room : (c : Conditions) → 0 < length (put_conditions c (12 ∷ k))
  conditions-room c = omega (arith, conditions-length c (12 ∷ k))

-- The conditions that are left from p on.
pub record ConditionsFrom (s : List ℕ) (p : ℕ) (x : SentenceAt s) : Type 0 where
  pub conditions : Conditions
  pub is : drop p s ≡ put_conditions conditions (12 ∷ put_terms x.sentence.result x.rest)

first-at : (s : List ℕ) (p : ℕ) → get_or (drop p s) 0 0 ≡ get_or s p 0
first-at s p = get_or-drop p s 0 0 ∙ ap (λ (i : ℕ). get_or s i 0) (add-zero p)

module _ (s : List ℕ) (p : ℕ) (x : SentenceAt s) (h : ConditionsFrom s p x) where
  after-conditions : List ℕ
  after-conditions = put_terms x.sentence.result x.rest

  pub from-room : p < length s
  unfolding after-conditions
  from-room = omega (arith, ap length h.is, length-drop p s, conditions-room after-conditions h.conditions)

  pub from_next_room : get_or s p 0 ≡ 11 → p + 9 ≤ length s
  unfolding after-conditions
  from_next_room e =
      let z = condition-here after-conditions h.conditions (sym (first_byte h.is) ∙ (first-at s p ∙ e)) in
      omega (arith, z.0, ap length h.is, length-drop p s)

  pub from_next : (r : ℕ) → get_or s p 0 ≡ 11 → drop r s ≡ pass 2 (drop (p + 9) s) → ConditionsFrom s r x
  unfolding after-conditions
  from_next r e q =
      let z = condition-here after-conditions h.conditions (sym (first_byte h.is) ∙ (first-at s p ∙ e)) in
      record { conditions = z.1.0; is = q ∙ (ap (pass 2) (sym (drop-drop 9 p s)) ∙ (ap (λ (l : List ℕ). pass 2 (drop 9 l)) h.is ∙ z.1.1)) }

  pub from_end : (get_or s p 0 ≡ 11 → ⊥) → Passes s (p + 1) (put_terms x.sentence.result x.rest)
  unfolding after-conditions
  from_end n =
      let e : drop p s ≡ 12 ∷ after-conditions = h.is ∙ no_condition_here after-conditions h.conditions (λ q. n (sym (first-at s p) ∙ (first_byte h.is ∙ q))) in
      record { fits = omega (arith, from-room); left = sym (drop-drop 1 p s) ∙ ap (drop 1) e }

-- A function: its name begins at 10.
module _ (s : List ℕ) where
  pub function-room : (f : FunctionAt s) → 11 + get_or s 10 0 ≤ length s
  unfolding put_function put_span put32 put_name
  function-room f =
      omega (arith, ap length f.is, ap (λ (l : List ℕ). get_or l 10 0) f.is, length-append f.function.name (put_sentences f.function.sentences f.rest))

  pub function_passed : (r : ℕ) → r ≡ 11 + get_or s 10 0 → (f : FunctionAt s) → Passes s r (put_sentences f.function.sentences f.rest)
  unfolding put_function put_span put32 put_name
  function_passed r e f =
      let n = f.function.name in
      let k : List ℕ = put_sentences f.function.sentences f.rest in
      let l : get_or s 10 0 ≡ length n = ap (λ (l : List ℕ). get_or l 10 0) f.is in
      let z : r ≡ suc (suc (suc (suc (suc (suc (suc (suc (suc (suc (suc (length n))))))))))) = omega arith in
      record { fits = omega (arith, function-room f); left = rw (z, f.is) (drop-append_seam n k) }

  pub function-past : (q r : ℕ) → ((f : FunctionAt s) → Passes s q (put_sentences f.function.sentences f.rest)) → drop r s ≡ pass 1 (drop q s) → r ≤ length s → (f : FunctionAt s) → Passes s r f.rest
  function-past q r h e l f = record { fits = l; left = e ∙ (ap (pass 1) (h f).left ∙ (pass-sentences f.function.sentences 0 f.rest ∙ pass-nothing f.rest)) }
