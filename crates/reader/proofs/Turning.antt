-- The reader's steps, mark by mark, are the automaton's turns.
use Prim.Native.Nat.{ℕ, zero, suc, ◌+◌, ◌-◌, ◌≤◌, ◌<◌}
use native.Mathlib.Omega.{arith}
use native.Mathlib.Numerals.{add-one}
use native.Mathlib.Nat.{add-zero}
use mathlib.Core.Path.{◌≡◌, refl, sym, ap, subst, ◌∙◌}
use mathlib.Core.Bool.{Bool, true, false}
use mathlib.Core.Logic.{◌⊎◌, inl, inr}
use mathlib.Core.List.{List, [], ◌∷◌}
use lib.ListN.{length, get_or, take, drop, length-drop}
use lib.Seq.{drop-cons}
use lib.Dec.{eqb}
use borrow.Author.Tests.{lt-ltb, le-ltb, ne_eqb}
use Rattle.std.specs.Prelude.{Result, Ok, Err}
use Rattle.program.specs.Syntax.{Symbol, Kind, Terms, Conditions, Sentences, Visibility}
use Rattle.program.specs.Bytes.{get32}
use Rattle.program.specs.Limits.{pick, Mode, scalar}
use Rattle.program.specs.Automaton.{Stack, Values, Turn, wrong, nested, outside, Word, word_term, is_number, TermMark, term_mark, turn_terms, condition_mark, turn_conditions, sentence_mark, turn_sentences, ItemMark, item_mark, turn_function, turn_functions, turn_body, turn_names, turn_counted, turn_visibility, turn_code, turn}
use Rattle.reader.specs.Steps.{code_refusal, refusal, span_step, name_step, push, DoesAt, Does, terms_frame, TermsAt, bottom, functions_after}
use Rattle.program.specs.declared.Refusal.{Refusal}
use Rattle.reader.proofs.Refusals.{code-good, code_bad}
use Rattle.reader.specs.declared.turns.Frame.{Frame}
use Rattle.reader.specs.declared.turns.Frames.{Frames}
use Rattle.reader.specs.declared.turns.Push.{Push}
use Rattle.program.proofs.Numbers.{get32-drop}
use Rattle.reader.proofs.Steps.{span-at, bad_at, span_does, bad_does, go_does, name_does}

-- A bracket, call or block too deep.
terms-deep : (v : ℕ) → 7 ≤ v → v ≤ 9 → (d : ℕ) (x : Stack) (s : List ℕ) → 32 ≤ d → turn_terms (term_mark v) Mode.result d x s ≡ wrong 10 s
unfolding turn_terms term_mark nested outside
terms-deep zero h k d x s l = absurd (omega arith)
terms-deep (suc zero) h k d x s l = absurd (omega arith)
terms-deep (suc (suc zero)) h k d x s l = absurd (omega arith)
terms-deep (suc (suc (suc zero))) h k d x s l = absurd (omega arith)
terms-deep (suc (suc (suc (suc zero)))) h k d x s l = absurd (omega arith)
terms-deep (suc (suc (suc (suc (suc zero))))) h k d x s l = absurd (omega arith)
terms-deep (suc (suc (suc (suc (suc (suc zero)))))) h k d x s l = absurd (omega arith)
terms-deep (suc (suc (suc (suc (suc (suc (suc zero))))))) h k d x s l = rw (le-ltb d 32 l)
terms-deep (suc (suc (suc (suc (suc (suc (suc (suc zero)))))))) h k d x s l = rw (le-ltb d 32 l)
terms-deep (suc (suc (suc (suc (suc (suc (suc (suc (suc zero))))))))) h k d x s l = rw (le-ltb d 32 l)
terms-deep (suc (suc (suc (suc (suc (suc (suc (suc (suc (suc v)))))))))) h k d x s l = absurd (omega arith)

-- A call or block in a pattern.
terms-inside : (v : ℕ) → 8 ≤ v → v ≤ 9 → (d : ℕ) (x : Stack) (s : List ℕ) → turn_terms (term_mark v) Mode.pattern d x s ≡ wrong 9 s
unfolding turn_terms term_mark outside
terms-inside zero h k d x s = absurd (omega arith)
terms-inside (suc zero) h k d x s = absurd (omega arith)
terms-inside (suc (suc zero)) h k d x s = absurd (omega arith)
terms-inside (suc (suc (suc zero))) h k d x s = absurd (omega arith)
terms-inside (suc (suc (suc (suc zero)))) h k d x s = absurd (omega arith)
terms-inside (suc (suc (suc (suc (suc zero))))) h k d x s = absurd (omega arith)
terms-inside (suc (suc (suc (suc (suc (suc zero)))))) h k d x s = absurd (omega arith)
terms-inside (suc (suc (suc (suc (suc (suc (suc zero))))))) h k d x s = absurd (omega arith)
terms-inside (suc (suc (suc (suc (suc (suc (suc (suc zero)))))))) h k d x s = refl
terms-inside (suc (suc (suc (suc (suc (suc (suc (suc (suc zero))))))))) h k d x s = refl
terms-inside (suc (suc (suc (suc (suc (suc (suc (suc (suc (suc v)))))))))) h k d x s = absurd (omega arith)

-- Terms at a mode.
module _ (b : List ℕ) (p d : ℕ) (hp : p < length b) where
  character-at : (m : Mode) → get_or b p 0 ≡ 1 → {r : Result Push Refusal} → r ≡ span_step b p (Frames.Two (terms_frame m d) Frame.Code) → Does b p (terms_frame m d) r
  unfolding turn turn_terms term_mark
  character-at Mode.result q = span_does b p (Frame.Result d) (Frames.Two (Frame.Result d) Frame.Code) hp (λ x s v. (Terms.symbol s (Symbol.character v.0) v.1.0, v.1.1)) (λ x. rw q)
  character-at Mode.pattern q = span_does b p (Frame.Pattern d) (Frames.Two (Frame.Pattern d) Frame.Code) hp (λ x s v. (Terms.symbol s (Symbol.character v.0) v.1.0, v.1.1)) (λ x. rw q)

  word_at : (m : Mode) (w : Word) → is_number w ≡ false → term_mark (get_or b p 0) ≡ TermMark.word w → {r : Result Push Refusal} → r ≡ span_step b p (Frames.Two (terms_frame m d) Frame.Name) → Does b p (terms_frame m d) r
  unfolding turn turn_terms
  word_at Mode.result w h q = span_does b p (Frame.Result d) (Frames.Two (Frame.Result d) Frame.Name) hp (λ x s v. (word_term w s v.0 v.1.0, v.1.1)) (λ x. rw (q, h))
  word_at Mode.pattern w h q = span_does b p (Frame.Pattern d) (Frames.Two (Frame.Pattern d) Frame.Name) hp (λ x s v. (word_term w s v.0 v.1.0, v.1.1)) (λ x. rw (q, h))

  number_at : (m : Mode) → get_or b p 0 ≡ 3 → {r : Result Push Refusal} → r ≡ span_step b p (Frames.Two (terms_frame m d) Frame.Number) → Does b p (terms_frame m d) r
  unfolding turn turn_terms term_mark is_number
  number_at Mode.result q = span_does b p (Frame.Result d) (Frames.Two (Frame.Result d) Frame.Number) hp (λ x s v. (word_term Word.number s v.0 v.1.0, v.1.1)) (λ x. rw q)
  number_at Mode.pattern q = span_does b p (Frame.Pattern d) (Frames.Two (Frame.Pattern d) Frame.Number) hp (λ x s v. (word_term Word.number s v.0 v.1.0, v.1.1)) (λ x. rw q)

  pub bracket-at : (m : Mode) → get_or b p 0 ≡ 7 → d < 32 → {r : Result Push Refusal} → r ≡ span_step b p (Frames.Two (terms_frame m d) (terms_frame m (d + 1))) → Does b p (terms_frame m d) r
  unfolding turn turn_terms term_mark nested
  bracket-at Mode.result q l = span_does b p (Frame.Result d) (Frames.Two (Frame.Result d) (Frame.Result (d + 1))) hp (λ x s v. (Terms.bracket s v.0 v.1.0, v.1.1)) (λ x. rw (q, lt-ltb d 32 l, add-one d))
  bracket-at Mode.pattern q l = span_does b p (Frame.Pattern d) (Frames.Two (Frame.Pattern d) (Frame.Pattern (d + 1))) hp (λ x s v. (Terms.bracket s v.0 v.1.0, v.1.1)) (λ x. rw (q, lt-ltb d 32 l, add-one d))

  pub call_at : get_or b p 0 ≡ 8 → d < 32 → {r : Result Push Refusal} → r ≡ span_step b p (Frames.Three (Frame.Result d) (Frame.Result (d + 1)) Frame.Name) → Does b p (Frame.Result d) r
  unfolding turn turn_terms term_mark nested outside
  call_at q l = span_does b p (Frame.Result d) (Frames.Three (Frame.Result d) (Frame.Result (d + 1)) Frame.Name) hp (λ x s v. (Terms.call s v.0 v.1.0 v.1.1.0, v.1.1.1)) (λ x. rw (q, lt-ltb d 32 l, add-one d))

  pub block_at : get_or b p 0 ≡ 9 → d < 32 → {r : Result Push Refusal} → r ≡ span_step b p (Frames.Three (Frame.Result d) (Frame.Sentences (d + 1)) (Frame.Result (d + 1))) → Does b p (Frame.Result d) r
  unfolding turn turn_terms term_mark nested outside
  block_at q l = span_does b p (Frame.Result d) (Frames.Three (Frame.Result d) (Frame.Sentences (d + 1)) (Frame.Result (d + 1))) hp (λ x s v. (Terms.block s v.0 v.1.0 v.1.1.0, v.1.1.1)) (λ x. rw (q, lt-ltb d 32 l, add-one d))

  -- A bracket too deep in a pattern; a bracket, call or block too deep in a result.
  pub deep_pattern : get_or b p 0 ≡ 7 → 32 ≤ d → {r : Result Push Refusal} → r ≡ Err (refusal 10 p) → Does b p (Frame.Pattern d) r
  unfolding turn turn_terms term_mark nested
  deep_pattern q l = bad_does b p (Frame.Pattern d) 10 hp (λ x. rw (q, le-ltb d 32 l))

  pub deep_result : 7 ≤ get_or b p 0 → get_or b p 0 ≤ 9 → 32 ≤ d → {r : Result Push Refusal} → r ≡ Err (refusal 10 p) → Does b p (Frame.Result d) r
  unfolding turn
  deep_result h k l = bad_does b p (Frame.Result d) 10 hp (λ x. terms-deep (get_or b p 0) h k d x (drop (suc p) b) l)

  -- A call or block in a pattern.
  pub inside_pattern : 8 ≤ get_or b p 0 → get_or b p 0 ≤ 9 → {r : Result Push Refusal} → r ≡ Err (refusal 9 p) → Does b p (Frame.Pattern d) r
  unfolding turn
  inside_pattern h k = bad_does b p (Frame.Pattern d) 9 hp (λ x. terms-inside (get_or b p 0) h k d x (drop (suc p) b))

  close_at : (m : Mode) → get_or b p 0 ≡ 15 → {r : Result Push Refusal} → r ≡ Ok (push (p + 1) Frames.Nothing) → Does b p (terms_frame m d) r
  unfolding turn turn_terms term_mark
  close_at Mode.result q = go_does b p (Frame.Result d) Frames.Nothing hp (λ x. (λ v. (Terms.nil, v), rw q))
  close_at Mode.pattern q = go_does b p (Frame.Pattern d) Frames.Nothing hp (λ x. (λ v. (Terms.nil, v), rw q))

-- A byte that no record allows.
terms-other : (v : ℕ) → (v ≡ 1 → ⊥) → (v ≡ 2 → ⊥) → (v ≡ 3 → ⊥) → (v ≡ 4 → ⊥) → (v ≡ 5 → ⊥) → (v ≡ 6 → ⊥) → (v ≡ 7 → ⊥) → (v ≡ 8 → ⊥) → (v ≡ 9 → ⊥) → (v ≡ 15 → ⊥)
    → (m : Mode) (d : ℕ) (x : Stack) (s : List ℕ) → turn_terms (term_mark v) m d x s ≡ wrong 5 s
unfolding turn_terms term_mark
terms-other v n1 n2 n3 n4 n5 n6 n7 n8 n9 nc m d x s =
    rw (ne_eqb v 1 n1, ne_eqb v 2 n2, ne_eqb v 3 n3, ne_eqb v 4 n4, ne_eqb v 5 n5, ne_eqb v 6 n6, ne_eqb v 7 n7, ne_eqb v 8 n8, ne_eqb v 9 n9, ne_eqb v 15 nc)

conditions-other : (v : ℕ) → (v ≡ 11 → ⊥) → (v ≡ 12 → ⊥) → (d : ℕ) (x : Stack) (s : List ℕ) → turn_conditions (condition_mark v) d x s ≡ wrong 5 s
unfolding turn_conditions condition_mark
conditions-other v n11 n12 d x s = rw (ne_eqb v 11 n11, ne_eqb v 12 n12)

sentences-other : (v : ℕ) → (v ≡ 10 → ⊥) → (v ≡ 15 → ⊥) → (d : ℕ) (x : Stack) (s : List ℕ) → turn_sentences (sentence_mark v) d x s ≡ wrong 5 s
unfolding turn_sentences sentence_mark
sentences-other v n10 n15 d x s = rw (ne_eqb v 10 n10, ne_eqb v 15 n15)

-- Where functions only can stand, a declaration is no record either.
functions-other : (v : ℕ) → (v ≡ 18 → ⊥) → (s : List ℕ) → turn_functions (item_mark v) s ≡ wrong 5 s
unfolding turn_functions item_mark
functions-other v n18 s = by (eqb v 17)
  where
    by : (t : Bool) → turn_functions (pick t ItemMark.declaration (pick (eqb v 18) ItemMark.function ItemMark.other)) s ≡ wrong 5 s
    by true = refl
    by false = rw (ne_eqb v 18 n18)

visibility-other : (v : ℕ) (x : Stack) (s : List ℕ) → 2 ≤ v → turn_visibility v x s ≡ wrong 5 s
unfolding turn_visibility
visibility-other zero x s h = absurd (omega arith)
visibility-other (suc zero) x s h = absurd (omega arith)
visibility-other (suc (suc v)) x s h = refl

body-other : (v : ℕ) → (v ≡ 17 → ⊥) → (v ≡ 18 → ⊥) → (s : List ℕ) → turn_body (item_mark v) s ≡ wrong 5 s
unfolding turn_body item_mark
body-other v n17 n18 s = rw (ne_eqb v 17 n17, ne_eqb v 18 n18)

-- The marks of words that are no numbers.
word-mark : (v : ℕ) → 2 ≤ v → v ≤ 6 → (v ≡ 3 → ⊥) → (w : Word) × (is_number w ≡ false) × (term_mark v ≡ TermMark.word w)
unfolding term_mark is_number
word-mark zero l h n = absurd (omega arith)
word-mark (suc zero) l h n = absurd (omega arith)
word-mark (suc (suc zero)) l h n = (Word.identifier, refl, refl)
word-mark (suc (suc (suc zero))) l h n = absurd (n refl)
word-mark (suc (suc (suc (suc zero)))) l h n = (Word.variable Kind.s_kind, refl, refl)
word-mark (suc (suc (suc (suc (suc zero))))) l h n = (Word.variable Kind.t_kind, refl, refl)
word-mark (suc (suc (suc (suc (suc (suc zero)))))) l h n = (Word.variable Kind.e_kind, refl, refl)
word-mark (suc (suc (suc (suc (suc (suc (suc v))))))) l h n = absurd (omega arith)

-- Terms at any mode.
module _ (b : List ℕ) (p : ℕ) (hp : p < length b) {t : Frame} (ht : TermsAt t) where
  pub turn-character : get_or b p 0 ≡ 1 → {r : Result Push Refusal} → r ≡ span_step b p (Frames.Two t Frame.Code) → Does b p t r
  turn-character q {r} = let F : Frame → Type 0 = λ e. r ≡ span_step b p (Frames.Two e Frame.Code) → Does b p e r in subst F (sym ht.is) (character-at b p ht.depth hp ht.mode q)

  pub turn-word : 2 ≤ get_or b p 0 → get_or b p 0 ≤ 6 → (get_or b p 0 ≡ 3 → ⊥) → {r : Result Push Refusal} → r ≡ span_step b p (Frames.Two t Frame.Name) → Does b p t r
  turn-word l h n {r} =
      let (w, k, u) = word-mark (get_or b p 0) l h n in
      let F : Frame → Type 0 = λ e. r ≡ span_step b p (Frames.Two e Frame.Name) → Does b p e r in
      subst F (sym ht.is) (word_at b p ht.depth hp ht.mode w k u)

  pub turn-number : get_or b p 0 ≡ 3 → {r : Result Push Refusal} → r ≡ span_step b p (Frames.Two t Frame.Number) → Does b p t r
  turn-number q {r} = let F : Frame → Type 0 = λ e. r ≡ span_step b p (Frames.Two e Frame.Number) → Does b p e r in subst F (sym ht.is) (number_at b p ht.depth hp ht.mode q)

  pub turn-close : get_or b p 0 ≡ 15 → {r : Result Push Refusal} → r ≡ Ok (push (p + 1) Frames.Nothing) → Does b p t r
  turn-close q {r} e = let F : Frame → Type 0 = λ e. Does b p e r in subst F (sym ht.is) (close_at b p ht.depth hp ht.mode q e)

  pub turn-other : (get_or b p 0 < 1) ⊎ (9 < get_or b p 0) → (get_or b p 0 ≡ 15 → ⊥) → {r : Result Push Refusal} → r ≡ Err (refusal 5 p) → Does b p t r
  unfolding turn
  turn-other l nc {r} e = let F : Frame → Type 0 = λ e. Does b p e r in subst F (sym ht.is) (by ht.mode)
    where
      other : (m : Mode) (x : Stack) → turn_terms (term_mark (get_or b p 0)) m ht.depth x (drop (suc p) b) ≡ wrong 5 (drop (suc p) b)
      other m x = terms-other (get_or b p 0) (λ z. omega arith) (λ z. omega arith) (λ z. omega arith) (λ z. omega arith) (λ z. omega arith) (λ z. omega arith) (λ z. omega arith) (λ z. omega arith) (λ z. omega arith) nc m ht.depth x (drop (suc p) b)

      by : (m : Mode) → Does b p (terms_frame m ht.depth) r
      by Mode.result = bad_does b p (Frame.Result ht.depth) 5 hp (λ x. other Mode.result x) e
      by Mode.pattern = bad_does b p (Frame.Pattern ht.depth) 5 hp (λ x. other Mode.pattern x) e

module _ (b : List ℕ) (p : ℕ) (hp : p < length b) where
  pub conditions-condition : (d : ℕ) → get_or b p 0 ≡ 11 → {r : Result Push Refusal} → r ≡ span_step b p (Frames.Three (Frame.Conditions d) (Frame.Pattern d) (Frame.Result d)) → Does b p (Frame.Conditions d) r
  unfolding turn turn_conditions condition_mark
  conditions-condition d q = span_does b p (Frame.Conditions d) (Frames.Three (Frame.Conditions d) (Frame.Pattern d) (Frame.Result d)) hp (λ x s v. (Conditions.condition s v.0 v.1.0 v.1.1.0, v.1.1.1)) (λ x. rw q)

  pub conditions-result : (d : ℕ) → get_or b p 0 ≡ 12 → {r : Result Push Refusal} → r ≡ Ok (push (p + 1) (Frames.One (Frame.Result d))) → Does b p (Frame.Conditions d) r
  unfolding turn turn_conditions condition_mark
  conditions-result d q = go_does b p (Frame.Conditions d) (Frames.One (Frame.Result d)) hp (λ x. (λ v. (Conditions.none, v), rw q))

  pub conditions-wrong : (d : ℕ) → (get_or b p 0 ≡ 11 → ⊥) → (get_or b p 0 ≡ 12 → ⊥) → {r : Result Push Refusal} → r ≡ Err (refusal 5 p) → Does b p (Frame.Conditions d) r
  unfolding turn
  conditions-wrong d n1 n2 = bad_does b p (Frame.Conditions d) 5 hp (λ x. conditions-other (get_or b p 0) n1 n2 d x (drop (suc p) b))

  pub sentences-sentence : (d : ℕ) → get_or b p 0 ≡ 10 → {r : Result Push Refusal} → r ≡ span_step b p (Frames.Three (Frame.Sentences d) (Frame.Conditions d) (Frame.Pattern d)) → Does b p (Frame.Sentences d) r
  unfolding turn turn_sentences sentence_mark
  sentences-sentence d q = span_does b p (Frame.Sentences d) (Frames.Three (Frame.Sentences d) (Frame.Conditions d) (Frame.Pattern d)) hp (λ x s v. (Sentences.sentence (record { span = s }) v.0 v.1.0 v.1.1.0 v.1.1.1.0, v.1.1.1.1)) (λ x. rw q)

  pub sentences-close : (d : ℕ) → get_or b p 0 ≡ 15 → {r : Result Push Refusal} → r ≡ Ok (push (p + 1) Frames.Nothing) → Does b p (Frame.Sentences d) r
  unfolding turn turn_sentences sentence_mark
  sentences-close d q = go_does b p (Frame.Sentences d) Frames.Nothing hp (λ x. (λ v. (Sentences.empty, v), rw q))

  pub sentences-wrong : (d : ℕ) → (get_or b p 0 ≡ 10 → ⊥) → (get_or b p 0 ≡ 15 → ⊥) → {r : Result Push Refusal} → r ≡ Err (refusal 5 p) → Does b p (Frame.Sentences d) r
  unfolding turn
  sentences-wrong d n1 n2 = bad_does b p (Frame.Sentences d) 5 hp (λ x. sentences-other (get_or b p 0) n1 n2 d x (drop (suc p) b))

  pub functions-function : get_or b p 0 ≡ 18 → {r : Result Push Refusal} → r ≡ span_step b p (Frames.Three (Frame.Sentences 0) Frame.Name Frame.Visibility) → DoesAt b p Stack.functions Stack.functions r
  unfolding turn turn_functions turn_function item_mark
  functions-function q = span-at b p Stack.functions Stack.functions (Frames.Three (Frame.Sentences 0) Frame.Name Frame.Visibility) hp (λ s v. record { span = s; visibility = v.0; name = v.1.0; sentences = v.1.1.0 } ∷ v.1.1.1) (rw q)

  functions-wrong : (x : Stack) → (get_or b p 0 ≡ 18 → ⊥) → {r : Result Push Refusal} → r ≡ Err (refusal 5 p) → DoesAt b p Stack.functions x r
  unfolding turn
  functions-wrong x n = bad_at b p Stack.functions x 5 hp (functions-other (get_or b p 0) n (drop (suc p) b))

  pub bottom-declaration : (k : ℕ) → k ≡ 0 → get_or b p 0 ≡ 17 → {r : Result Push Refusal} → r ≡ span_step b p (Frames.One Frame.Counted) → DoesAt b p (bottom k) (bottom (functions_after (get_or b p 0) k)) r
  unfolding turn turn_body item_mark
  bottom-declaration k h q e = rw (h, q) (span-at b p Stack.body Stack.body (Frames.One Frame.Counted) hp (λ s v. record { declarations = record { span = s; names = v.0 } ∷ v.1.declarations; functions = v.1.functions }) (rw q) e)

  pub bottom-later : (k : ℕ) → (k ≡ 0 → ⊥) → get_or b p 0 ≡ 17 → {r : Result Push Refusal} → r ≡ Err (refusal 5 p) → DoesAt b p (bottom k) (bottom (functions_after (get_or b p 0) k)) r
  bottom-later zero h q e = absurd (h refl)
  bottom-later (suc k) h q e = functions-wrong _ (λ z. omega arith) e

  pub bottom-function : (k : ℕ) → get_or b p 0 ≡ 18 → {r : Result Push Refusal} → r ≡ span_step b p (Frames.Three (Frame.Sentences 0) Frame.Name Frame.Visibility) → DoesAt b p (bottom k) (bottom (functions_after (get_or b p 0) k)) r
  unfolding turn turn_body turn_function item_mark
  bottom-function zero q e = rw q (span-at b p Stack.body Stack.functions (Frames.Three (Frame.Sentences 0) Frame.Name Frame.Visibility) hp (λ s v. record { declarations = []; functions = record { span = s; visibility = v.0; name = v.1.0; sentences = v.1.1.0 } ∷ v.1.1.1 }) (rw q) e)
  bottom-function (suc k) q e = rw (q, add-one (suc k)) (functions-function q e)

  pub bottom-wrong : (k : ℕ) → (get_or b p 0 ≡ 17 → ⊥) → (get_or b p 0 ≡ 18 → ⊥) → {r : Result Push Refusal} → r ≡ Err (refusal 5 p) → DoesAt b p (bottom k) (bottom (functions_after (get_or b p 0) k)) r
  unfolding turn
  bottom-wrong zero n1 n2 = bad_at b p Stack.body _ 5 hp (body-other (get_or b p 0) n1 n2 (drop (suc p) b))
  bottom-wrong (suc k) n1 n2 = functions-wrong _ n2

  pub visibility_fine : get_or b p 0 < 2 → {r : Result Push Refusal} → r ≡ Ok (push (p + 1) Frames.Nothing) → Does b p Frame.Visibility r
  unfolding turn turn_visibility
  visibility_fine l = go_does b p Frame.Visibility Frames.Nothing hp (λ x. by x (get_or b p 0) l)
    where
      by : (x : Stack) (v : ℕ) → v < 2 → (k : Values x → Visibility × Values x) × (turn_visibility v x (drop (suc p) b) ≡ Turn.go x 0 k)
      by x zero h = (λ u. (Visibility.local, u), refl)
      by x (suc zero) h = (λ u. (Visibility.entry, u), refl)
      by x (suc (suc v)) h = absurd (omega arith)

  pub visibility-wrong : 2 ≤ get_or b p 0 → {r : Result Push Refusal} → r ≡ Err (refusal 5 p) → Does b p Frame.Visibility r
  unfolding turn
  visibility-wrong l = bad_does b p Frame.Visibility 5 hp (λ x. visibility-other (get_or b p 0) x (drop (suc p) b) l)

  pub counted_none : get_or b p 0 ≡ 0 → {r : Result Push Refusal} → r ≡ Ok (push (p + 1) Frames.Nothing) → Does b p Frame.Counted r
  unfolding turn turn_counted
  counted_none q = go_does b p Frame.Counted Frames.Nothing hp (λ x. (λ v. ([], v), rw q))

  pub counted-some : (n : ℕ) → (get_or b p 0 ≡ 0 → ⊥) → n ≡ get_or b p 0 - 1 → {r : Result Push Refusal} → r ≡ Ok (push (p + 1) (Frames.One (Frame.Names n))) → Does b p Frame.Counted r
  unfolding turn turn_counted
  counted-some n z q =
      let s : get_or b p 0 ≡ suc n = omega arith in
      go_does b p Frame.Counted (Frames.One (Frame.Names n)) hp (λ x. (λ v. v, rw s))

  pub names-last : {r : Result Push Refusal} (n : ℕ) → n ≡ 0 → r ≡ name_step b p false Frames.Nothing → Does b p (Frame.Names n) r
  unfolding turn turn_names
  names-last {r} n q e =
      subst (λ (j : ℕ). Does b p (Frame.Names j) r) (sym q)
      (name_does b p false (Frame.Names 0) Frames.Nothing hp (λ x v. (take (get_or b p 0) (drop (suc p) b) ∷ [], v)) (λ x. refl) e)

  pub names_more : {r : Result Push Refusal} (n k : ℕ) → (n ≡ 0 → ⊥) → k ≡ n - 1 → r ≡ name_step b p false (Frames.One (Frame.Names k)) → Does b p (Frame.Names n) r
  unfolding turn turn_names
  names_more {r} n k z q e =
      let s : n ≡ suc k = omega arith in
      subst (λ (j : ℕ). Does b p (Frame.Names j) r) (sym s)
      (name_does b p false (Frame.Names (suc k)) (Frames.One (Frame.Names k)) hp (λ x v. (take (get_or b p 0) (drop (suc p) b) ∷ v.0, v.1)) (λ x. refl) e)

  pub name-turn : {r : Result Push Refusal} → r ≡ name_step b p false Frames.Nothing → Does b p Frame.Name r
  unfolding turn
  name-turn = name_does b p false Frame.Name Frames.Nothing hp (λ x v. (take (get_or b p 0) (drop (suc p) b), v)) (λ x. refl)

  pub number-turn : {r : Result Push Refusal} → r ≡ name_step b p true Frames.Nothing → Does b p Frame.Number r
  unfolding turn
  number-turn = name_does b p true Frame.Number Frames.Nothing hp (λ x v. (take (get_or b p 0) (drop (suc p) b), v)) (λ x. refl)

  code_at : get32 (get_or b p 0 ∷ drop (suc p) b) 0 ≡ get32 b p
  code_at = rw (← drop-cons b p 0 hp) (sym (get32-drop b p 0) ∙ ap (get32 b) (add-zero p))

  pub code_cut : length b - p < 4 → {r : Result Push Refusal} → r ≡ Err (refusal 5 (length b)) → Does b p Frame.Code r
  unfolding turn turn_code
  code_cut l {r} e = λ x.
      let z : length b - length b ≡ 0 = omega arith in
      subst (DoesAt b p (Stack.code x) x) (sym e)
      (record { within = omega arith; is = rw (lt-ltb (length (drop (suc p) b)) 3 (omega (arith, length-drop (suc p) b)), z) })

  pub code_fine : 4 ≤ length b - p → {c : ℕ} → c ≡ get32 b p → scalar c ≡ true → {r : Result Push Refusal} → r ≡ Ok (push (p + 4) Frames.Nothing) → Does b p Frame.Code r
  unfolding turn turn_code
  code_fine l q h {r} e = λ x.
      let w : p + 4 - suc p ≡ 3 = omega arith in
      subst (DoesAt b p (Stack.code x) x) (sym e)
      (record {
        ahead = omega arith;
        within = omega arith;
        make = λ v. (get32 (get_or b p 0 ∷ drop (suc p) b) 0, v);
        is = rw (le-ltb (length (drop (suc p) b)) 3 (omega (arith, length-drop (suc p) b)), code_at ∙ sym q, h, w);
      })

  pub code-wrong : 4 ≤ length b - p → {c : ℕ} → c ≡ get32 b p → scalar c ≡ false → {r : Result Push Refusal} → r ≡ Err (refusal 7 p) → Does b p Frame.Code r
  unfolding turn turn_code
  code-wrong l q h = bad_does b p Frame.Code 7 hp (λ x. rw (le-ltb (length (drop (suc p) b)) 3 (omega (arith, length-drop (suc p) b)), code_at ∙ sym q, h))

  -- What the rule says of the code, as a turn.
  pub code-on : {u : Unit {0}} → Ok u ≡ code_refusal b p → {r : Result Push Refusal} → r ≡ Ok (push (p + 4) Frames.Nothing) → Does b p Frame.Code r
  code-on q e = let k = code-good b p q in code_fine (omega (arith, k.0)) refl k.1 e

  pub code_off : {f : Refusal} → Err f ≡ code_refusal b p → Does b p Frame.Code (Err f)
  code_off {f} q = by (code_bad b p q)
    where
      by : ((length b < p + 4) × (f ≡ refusal 5 (length b))) ⊎ ((p + 4 ≤ length b) × (scalar (get32 b p) ≡ false) × (f ≡ refusal 7 p)) → Does b p Frame.Code (Err f)
      by (inl k) = code_cut (omega (arith, k.0)) (ap (λ (g : Refusal). Err g) k.1)
      by (inr k) = code-wrong (omega (arith, k.0)) refl k.1 (ap (λ (g : Refusal). Err g) k.2)
