-- The walk over functions to a sentence.
use Prim.Native.Nat.{ℕ, suc, ◌+◌, ◌-◌, ◌≤◌, ◌<◌}
use native.Mathlib.Omega.{arith}
use mathlib.Core.Path.{◌≡◌, refl, sym, ap, subst, ◌∙◌}
use mathlib.Core.List.{List, [], ◌∷◌, ◌++◌}
use lib.ListN.{length, get_or, drop, length-drop, length-append, drop_of_length-le}
use lib.Seq.{get_or-drop, drop-drop, drop-append_seam, drop-nil}
use Rattle.program.specs.Syntax.{Sentences, Function}
use Rattle.program.specs.Bytes.{put32, put_span, put_name}
use Rattle.program.specs.Encode.{put_head, put_terms, put_conditions, put_sentences, put_function, put_functions}
use Rattle.image.specs.Skip.{pass}
use Rattle.program.specs.Sentences.{Sentence, sentence_list, own_sentences}
use Rattle.image.specs.Parts.{put_sentence, FunctionsAt, Stands}
use Rattle.image.proofs.Readings.{sentence_passed}
use Rattle.program.proofs.Lengths.{head-length}

-- What stands at a place of the walk: functions, or a function's sentences and then functions.
pub data Place (s : List ℕ) (xs : List Sentence) : Type 0 where
  outer : (fs : List Function) → s ≡ put_functions fs → xs ≡ own_sentences fs → Place s xs
  inner : (bs : Sentences) (fs : List Function) → s ≡ put_sentences bs (put_functions fs) → xs ≡ sentence_list bs ++ own_sentences fs → Place s xs

-- What holds at the loop's head.
pub record Walk (b : List ℕ) (all : List Sentence) (n p left : ℕ) : Type 0 where
  pub rest : List Sentence
  pub is : drop n all ≡ drop left rest
  pub place : Place (drop p b) rest

abbrev first : List ℕ → ℕ
first s = get_or s 0 0

first-at : (b : List ℕ) (p : ℕ) → first (drop p b) ≡ get_or b p 0
first-at b p = get_or-drop p b 0 0 ∙ ap (λ (i : ℕ). get_or b i 0) (omega arith)

sentence-length : (x : Sentence) (k : List ℕ) → 9 ≤ length (put_sentence x k)
unfolding put_sentence
sentence-length x k = omega (arith, head-length x.head (put_terms x.pattern (put_conditions x.conditions (12 ∷ put_terms x.result k))))

pub walk_start : (b : List ℕ) (from n : ℕ) (h : FunctionsAt (drop from b)) → Walk b (own_sentences h.functions) n from n
walk_start b from n h = record { rest = own_sentences h.functions; is = refl; place = outer h.functions h.is refl }

module _ (b : List ℕ) (all : List Sentence) (n p left : ℕ) (hp : p < length b) (w : Walk b all n p left) where
  long : 0 < length (drop p b)
  long = omega (arith, length-drop p b)

  -- Past a function's head.
  pub walk_function : get_or b p 0 ≡ 18 → (p + 11 + get_or b (p + 10) 0 ≤ length b) × Walk b all n (p + 11 + get_or b (p + 10) 0) left
  unfolding put_function put_functions put_sentences put_head put_span put32 put_name own_sentences
  walk_function e = by w.place
    where
      by : Place (drop p b) w.rest → (p + 11 + get_or b (p + 10) 0 ≤ length b) × Walk b all n (p + 11 + get_or b (p + 10) 0) left
      by (outer [] q r) = absurd (omega (arith, long, ap length q))
      by (outer (f ∷ fs) q r) =
          let v : get_or b (p + 10) 0 ≡ length f.name = sym (get_or-drop p b 10 0) ∙ ap (λ (l : List ℕ). get_or l 10 0) q in
          let k : List ℕ = put_sentences f.sentences (put_functions fs) in
          let z : 11 + length f.name ≡ suc (suc (suc (suc (suc (suc (suc (suc (suc (suc (suc (length f.name))))))))))) = omega arith in
          let l : length b - p ≡ suc (suc (suc (suc (suc (suc (suc (suc (suc (suc (suc (length (f.name ++ k)))))))))))) = sym (length-drop p b) ∙ ap length q in
          let y : p + (11 + length f.name) ≡ p + 11 + get_or b (p + 10) 0 = omega arith in
          let d : drop (p + 11 + get_or b (p + 10) 0) b ≡ k = ap (λ (i : ℕ). drop i b) (sym y) ∙ (sym (drop-drop (11 + length f.name) p b) ∙ (ap (drop (11 + length f.name)) q ∙ rw z (drop-append_seam f.name k))) in
          (omega (arith, length-append f.name k), record { rest = w.rest; is = w.is; place = inner f.sentences fs d r })
      by (inner Sentences.empty fs q r) = absurd (omega (arith, first-at b p, ap first q))
      by (inner (Sentences.sentence a t c r2 m) fs q r) = absurd (omega (arith, first-at b p, ap first q))

  -- A sentence.
  sentence-here : get_or b p 0 ≡ 10 → (x : Sentence) × (k : List ℕ) × (xs : List Sentence) × (drop p b ≡ put_sentence x k) × (w.rest ≡ x ∷ xs) × Place k xs
  unfolding put_function put_functions put_sentences put_head put_sentence sentence_list
  sentence-here e = by w.place
    where
      by : Place (drop p b) w.rest → (x : Sentence) × (k : List ℕ) × (xs : List Sentence) × (drop p b ≡ put_sentence x k) × (w.rest ≡ x ∷ xs) × Place k xs
      by (outer [] q r) = absurd (omega (arith, long, ap length q))
      by (outer (f ∷ fs) q r) = absurd (omega (arith, first-at b p, ap first q))
      by (inner Sentences.empty fs q r) = absurd (omega (arith, first-at b p, ap first q))
      by (inner (Sentences.sentence a t c r2 m) fs q r) = (record { head = a; pattern = t; conditions = c; result = r2 }, put_sentences m (put_functions fs), sentence_list m ++ own_sentences fs, q, r, inner m fs refl refl)

  pub walk_room : get_or b p 0 ≡ 10 → p + 9 ≤ length b
  walk_room e =
      let (x, k, xs, q, r, z) = sentence-here e in
      omega (arith, length-drop p b, ap length q, sentence-length x k)

  pub walk_found : get_or b p 0 ≡ 10 → left ≡ 0 → Stands b p all n
  walk_found e l =
      let (x, k, xs, q, r, z) = sentence-here e in
      record { sentence = x; more = xs; rest = k; is = w.is ∙ (ap (λ (i : ℕ). drop i w.rest) l ∙ r); stands = q }

  pub walk_sentence : (j : ℕ) → get_or b p 0 ≡ 10 → (left ≡ 0 → ⊥) → drop j b ≡ pass 2 (drop (p + 9) b) → Walk b all n j (left - 1)
  walk_sentence j e l h =
      let (x, k, xs, q, r, z) = sentence-here e in
      let y : left ≡ suc (left - 1) = omega arith in
      let d : drop j b ≡ k = h ∙ (ap (pass 2) (sym (drop-drop 9 p b)) ∙ (ap (λ (l : List ℕ). pass 2 (drop 9 l)) q ∙ sentence_passed x k)) in
      record { rest = xs; is = w.is ∙ (ap (drop left) r ∙ ap (λ (i : ℕ). drop i (x ∷ xs)) y); place = subst (λ (s : List ℕ). Place s xs) (sym d) z }

  -- Past a function's close.
  pub walk_close : (get_or b p 0 ≡ 18 → ⊥) → (get_or b p 0 ≡ 10 → ⊥) → Walk b all n (p + 1) left
  unfolding put_function put_functions put_sentences put_head put_sentence sentence_list
  walk_close n1 n2 = by w.place
    where
      by : Place (drop p b) w.rest → Walk b all n (p + 1) left
      by (outer [] q r) = absurd (omega (arith, long, ap length q))
      by (outer (f ∷ fs) q r) = absurd (n1 (sym (first-at b p) ∙ ap first q))
      by (inner Sentences.empty fs q r) = record { rest = w.rest; is = w.is; place = outer fs (sym (drop-drop 1 p b) ∙ ap (drop 1) q) r }
      by (inner (Sentences.sentence a t c r2 m) fs q r) = absurd (n2 (sym (first-at b p) ∙ ap first q))

-- The end: no sentence is left.
pub walk_end : (b : List ℕ) (all : List Sentence) (n p left : ℕ) → Walk b all n p left → length b ≤ p → drop n all ≡ []
unfolding put_function put_functions put_sentences put_head own_sentences
walk_end b all n p left w h = w.is ∙ by w.place
  where
    e : drop p b ≡ []
    e = drop_of_length-le b h

    by : Place (drop p b) w.rest → drop left w.rest ≡ []
    by (outer [] q r) = rw r (drop-nil left)
    by (outer (f ∷ fs) q r) = absurd (omega (arith, ap length (sym q ∙ e)))
    by (inner Sentences.empty fs q r) = absurd (omega (arith, ap length (sym q ∙ e)))
    by (inner (Sentences.sentence a t c r2 m) fs q r) = absurd (omega (arith, ap length (sym q ∙ e)))

-- The same for whatever functions stand there.
abbrev pub Walks : List ℕ → ℕ → ℕ → ℕ → ℕ → Type 0
Walks b from n p left = (h : FunctionsAt (drop from b)) → Walk b (own_sentences h.functions) n p left

module _ (b : List ℕ) (from n p left : ℕ) (hp : p < length b) (w : Walks b from n p left) where
  pub walks_function : (v : ℕ) → v ≡ get_or b (p + 10) 0 → get_or b p 0 ≡ 18 → Walks b from n (p + 11 + v) left
  walks_function v q e h = rw q (walk_function b (own_sentences h.functions) n p left hp (w h) e).1

  pub walks_within : FunctionsAt (drop from b) → (v : ℕ) → v ≡ get_or b (p + 10) 0 → get_or b p 0 ≡ 18 → p + 11 + v ≤ length b
  walks_within h v q e = rw q (walk_function b (own_sentences h.functions) n p left hp (w h) e).0

  pub walks_room : FunctionsAt (drop from b) → get_or b p 0 ≡ 10 → p + 9 ≤ length b
  walks_room h e = walk_room b (own_sentences h.functions) n p left hp (w h) e
