-- One turn of the walk that writes the kept items.
use Prim.Native.Nat.{ℕ, suc, ◌+◌, ◌≤◌, ◌<◌}
use native.Mathlib.Omega.{arith}
use mathlib.Core.Path.{◌≡◌, refl, sym, ap, ◌∙◌}
use mathlib.Core.Bool.{Bool, true, false, cond}
use mathlib.Core.List.{List, [], ◌∷◌, ◌++◌, append_assoc, append-nil}
use lib.ListN.{length, take, drop, length-append, length-drop, drop_of_length-le, take-append-drop}
use lib.Seq.{paste, take_at, drop_at, drop-drop, take-append_seam, length-take-le}
use Rattle.program.specs.Syntax.{Sentences, Function}
use Rattle.program.specs.Bytes.{put32, put_span, put_name}
use Rattle.program.specs.Encode.{put_head, put_sentences, visibility_byte, put_function, put_functions, sentence_count, own_sentence_count}
use Rattle.program.specs.Limits.{ValidSentences, ValidFunctions}
use Rattle.image.specs.Parts.{Passes, put_sentence, FunctionsAt}
use Rattle.program.specs.Sentences.{Sentence}
use Rattle.told.specs.Kept.{kept_sentences, kept_function, kept_functions}
use Rattle.output.specs.Written.{FunctionsWritten}
use Rattle.output.specs.Items.{Item, after, is_sentence, is_written, sentence_one, kept_one}
use Rattle.output.proofs.SentenceSplits.{sentence-splits}

-- what is left: functions, or a function's sentences and then functions
pub data Rest : Type 0 where
  outer : List Function → Rest
  inner : Sentences → List Function → Rest

abbrev pub bytes_of : Rest → List ℕ
bytes_of (outer fs) = put_functions fs
bytes_of (inner b fs) = put_sentences b (put_functions fs)

abbrev pub ValidRest : Rest → Type 0
ValidRest (outer fs) = ValidFunctions fs
ValidRest (inner b fs) = ValidSentences b 0 × ValidFunctions fs

abbrev pub kept : (ℕ → Bool) → ℕ → Rest → Rest
kept keep i (outer fs) = outer (kept_functions keep i fs)
kept keep i (inner b fs) = inner (kept_sentences keep i b) (kept_functions keep (i + sentence_count b) fs)

abbrev pub count_of : Rest → ℕ
count_of (outer fs) = own_sentence_count fs
count_of (inner b fs) = sentence_count b + own_sentence_count fs

-- the item at the start of s, and what is left after it
pub record Turned (keep : ℕ → Bool) (i : ℕ) (s : List ℕ) (r : Rest) : Type 0 where
  pub item : Item s
  pub next : Rest
  pub is : after s item ≡ bytes_of next
  pub valid : ValidRest next
  pub front : List ℕ
  pub split : s ≡ front ++ bytes_of next
  pub some : 0 < length front
  pub bytes : bytes_of (kept keep i r) ≡ cond (is_written keep i s) front [] ++ bytes_of (kept keep (i + sentence_one s) next)
  pub count : count_of (kept keep i r) ≡ kept_one keep i s + count_of (kept keep (i + sentence_one s) next)

-- how a mark decides
module _ (s : List ℕ) (b : Bool) (e : is_sentence s ≡ b) where
  pub written_is : (keep : ℕ → Bool) (i : ℕ) → is_written keep i s ≡ cond b (keep i) true
  unfolding is_written
  written_is keep i = ap (λ (t : Bool). cond t (keep i) true) e

  pub one-is : sentence_one s ≡ cond b 1 0
  unfolding sentence_one
  one-is = ap (λ (t : Bool). cond t 1 0) e

  pub kept-is : (keep : ℕ → Bool) (i : ℕ) → kept_one keep i s ≡ cond b (cond (keep i) 1 0) 0
  unfolding kept_one
  kept-is keep i = ap (λ (t : Bool). cond t (cond (keep i) 1 0) 0) e

-- a function's head
head_of : Function → List ℕ
head_of f = 18 ∷ put_span f.span (visibility_byte f.visibility ∷ length f.name ∷ f.name)

head_split : (f : Function) (b : Sentences) (k : List ℕ) → 18 ∷ put_span f.span (visibility_byte f.visibility ∷ put_name f.name (put_sentences b k)) ≡ head_of f ++ put_sentences b k
unfolding head_of put_span put32 put_name
head_split f b k = refl

turn-head : (keep : ℕ → Bool) (i : ℕ) (s : List ℕ) (f : Function) (fs : List Function) → s ≡ put_functions (f ∷ fs) → ValidFunctions (f ∷ fs) → Turned keep i s (outer (f ∷ fs))
unfolding put_functions put_function head_of is_sentence kept_functions kept_function own_sentence_count
turn-head keep i s f fs q v =
    let z : is_sentence s ≡ false = ap is_sentence q in
    let n : i + sentence_one s ≡ i = ap (λ (k : ℕ). i + k) (one-is s false z) ∙ omega arith in
    record {
      item = Item.head (record { function = f; rest = put_functions fs; is = q });
      next = inner f.sentences fs;
      is = refl;
      valid = (v.2, v.3);
      front = head_of f;
      split = q ∙ head_split f f.sentences (put_functions fs);
      some = omega arith;
      bytes =
          head_split f (kept_sentences keep i f.sentences) (put_functions (kept_functions keep (i + sentence_count f.sentences) fs))
          ∙ (ap (λ (k : ℕ). head_of f ++ bytes_of (kept keep k (inner f.sentences fs))) (sym n)
          ∙ ap (λ (t : Bool). cond t (head_of f) [] ++ bytes_of (kept keep (i + sentence_one s) (inner f.sentences fs))) (sym (written_is s false z keep i)));
      count = ap (λ (k : ℕ). count_of (kept keep k (inner f.sentences fs))) (sym n) ∙ omega (arith, kept-is s false z keep i);
    }

turn-close : (keep : ℕ → Bool) (i : ℕ) (s : List ℕ) (fs : List Function) → s ≡ put_sentences Sentences.empty (put_functions fs) → ValidFunctions fs → Turned keep i s (inner Sentences.empty fs)
unfolding put_sentences is_sentence kept_sentences sentence_count
turn-close keep i s fs q v =
    let z : is_sentence s ≡ false = ap is_sentence q in
    let n : i + sentence_one s ≡ i + 0 = ap (λ (k : ℕ). i + k) (one-is s false z) in
    record {
      item = Item.close (put_functions fs) q;
      next = outer fs;
      is = refl;
      valid = v;
      front = 15 ∷ [];
      split = q;
      some = omega arith;
      bytes =
          ap (λ (k : ℕ). 15 ∷ bytes_of (kept keep k (outer fs))) (sym n)
          ∙ ap (λ (t : Bool). cond t (15 ∷ []) [] ++ bytes_of (kept keep (i + sentence_one s) (outer fs))) (sym (written_is s false z keep i));
      count = ap (λ (k : ℕ). 0 + count_of (kept keep k (outer fs))) (sym n) ∙ omega (arith, kept-is s false z keep i);
    }

-- a sentence, kept or not
kept-bytes : (x : Sentence) (b : Sentences) (t : Bool) (k : List ℕ)
    → put_sentences (cond t (Sentences.sentence x.head x.pattern x.conditions x.result b) b) k ≡ cond t (put_sentence x []) [] ++ put_sentences b k
unfolding put_sentences put_sentence
kept-bytes x b true k = sentence-splits x (put_sentences b k)
kept-bytes x b false k = refl

kept-count : (x : Sentence) (b : Sentences) (t : Bool) → sentence_count (cond t (Sentences.sentence x.head x.pattern x.conditions x.result b) b) ≡ cond t 1 0 + sentence_count b
unfolding sentence_count
kept-count x b true = refl
kept-count x b false = omega arith

sentence-some : (x : Sentence) → 0 < length (put_sentence x [])
unfolding put_sentence put_head
sentence-some x = omega arith

turn-own : (keep : ℕ → Bool) (i : ℕ) (s : List ℕ) (x : Sentence) (b : Sentences) (fs : List Function) → s ≡ put_sentence x (put_sentences b (put_functions fs))
    → ValidSentences (Sentences.sentence x.head x.pattern x.conditions x.result b) 0 → ValidFunctions fs
    → Turned keep i s (inner (Sentences.sentence x.head x.pattern x.conditions x.result b) fs)
unfolding put_sentence put_head is_sentence kept_sentences sentence_count
turn-own keep i s x b fs q v u =
    let z : is_sentence s ≡ true = ap is_sentence q in
    let n : i + sentence_one s ≡ suc i = ap (λ (k : ℕ). i + k) (one-is s true z) ∙ omega arith in
    let m : i + (1 + sentence_count b) ≡ i + sentence_one s + sentence_count b = omega (arith, n) in
    record {
      item = Item.own (record { sentence = x; rest = put_sentences b (put_functions fs); is = q; valid-pattern = v.1; valid-conditions = v.2; valid-result = v.3 });
      next = inner b fs;
      is = refl;
      valid = (v.4, u);
      front = put_sentence x [];
      split = q ∙ sentence-splits x (put_sentences b (put_functions fs));
      some = sentence-some x;
      bytes =
          kept-bytes x (kept_sentences keep (suc i) b) (keep i) (put_functions (kept_functions keep (i + (1 + sentence_count b)) fs))
          ∙ (ap (λ (k : ℕ). cond (keep i) (put_sentence x []) [] ++ put_sentences (kept_sentences keep (suc i) b) (put_functions (kept_functions keep k fs))) m
          ∙ (ap (λ (k : ℕ). cond (keep i) (put_sentence x []) [] ++ put_sentences (kept_sentences keep k b) (put_functions (kept_functions keep (i + sentence_one s + sentence_count b) fs))) (sym n)
          ∙ ap (λ (t : Bool). cond t (put_sentence x []) [] ++ bytes_of (kept keep (i + sentence_one s) (inner b fs))) (sym (written_is s true z keep i))));
      count =
          let e1 = kept-count x (kept_sentences keep (suc i) b) (keep i) in
          let e2 = ap (λ (k : ℕ). own_sentence_count (kept_functions keep k fs)) m in
          let e3 = ap (λ (k : ℕ). sentence_count (kept_sentences keep k b)) (sym n) in
          omega (arith, e1, e2, e3, kept-is s true z keep i);
    }

pub turned : (keep : ℕ → Bool) (i : ℕ) (s : List ℕ) (r : Rest) → s ≡ bytes_of r → ValidRest r → 0 < length s → Turned keep i s r
unfolding put_functions put_sentences put_sentence
turned keep i s (outer []) q v h = absurd (omega (arith, h, ap length q))
turned keep i s (outer (f ∷ fs)) q v h = turn-head keep i s f fs q v
turned keep i s (inner Sentences.empty fs) q v h = turn-close keep i s fs q v.1
turned keep i s (inner (Sentences.sentence a p c r b) fs) q v h = turn-own keep i s (record { head = a; pattern = p; conditions = c; result = r }) b fs q v.0 v.1

-- what holds at the loop's head: `done` is written, and the rest of what is to be written comes from what is left
pub record Writes (b out₀ : List ℕ) (from : ℕ) (keep : ℕ → Bool) (fs : List Function) (p q i n : ℕ) (out : List ℕ) : Type 0 where
  pub done : List ℕ
  pub rest : Rest
  pub is : out ≡ done ++ drop q out₀
  pub size : length done ≡ q
  pub place : drop p b ≡ bytes_of rest
  pub valid : ValidRest rest
  pub bytes : take from out₀ ++ put_functions (kept_functions keep 0 fs) ≡ done ++ bytes_of (kept keep i rest)
  pub count : own_sentence_count (kept_functions keep 0 fs) ≡ n + count_of (kept keep i rest)

-- what a turn finds and does at s
pub record Does (keep : ℕ → Bool) (i q : ℕ) (out s : List ℕ) (w n a k : ℕ) (new : List ℕ) : Type 0 where
  pub passes : (x : Item s) → Passes s w (after s x)
  pub len : n ≡ cond (is_written keep i s) w 0
  pub one : a ≡ sentence_one s
  pub kept-one : k ≡ kept_one keep i s
  pub new_is : new ≡ paste out q s n

take_cond : (t : Bool) (f k : List ℕ) → take (cond t (length f) 0) (f ++ k) ≡ cond t f []
take_cond true f k = take-append_seam f k
take_cond false f k = refl

pub written_le : (keep : ℕ → Bool) (i : ℕ) (s : List ℕ) (w m : ℕ) → m ≡ cond (is_written keep i s) w 0 → m ≤ w
written_le keep i s w m e = by (is_written keep i s) e
  where
    by : (b : Bool) → m ≡ cond b w 0 → m ≤ w
    by true e = omega (arith, e)
    by false e = omega (arith, e)

pub ones_le : (keep : ℕ → Bool) (i : ℕ) (s : List ℕ) → (kept_one keep i s ≤ sentence_one s) × (sentence_one s ≤ 1)
unfolding kept_one sentence_one
ones_le keep i s = by (is_sentence s) (keep i)
  where
    by : (b c : Bool) → (cond b (cond c 1 0) 0 ≤ cond b 1 0) × (cond b 1 0 ≤ 1)
    by true true = (omega arith, omega arith)
    by true false = (omega arith, omega arith)
    by false c = (omega arith, omega arith)

pub writes_start : (b out : List ℕ) (from : ℕ) (keep : ℕ → Bool) (h : FunctionsAt (drop from b)) → from ≤ length out → Writes b out from keep h.functions from from 0 0 out
writes_start b out from keep h l = record {
  done = take from out;
  rest = outer h.functions;
  is = sym (take-append-drop from out);
  size = length-take-le from out l;
  place = h.is;
  valid = h.valid;
  bytes = refl;
  count = omega arith;
}

module _ (b out₀ : List ℕ) (from : ℕ) (keep : ℕ → Bool) (fs : List Function) (p q i n : ℕ) (out : List ℕ) (hp : p < length b) (y : Writes b out₀ from keep fs p q i n out) where
  here : Turned keep i (drop p b) y.rest
  here = turned keep i (drop p b) y.rest y.place y.valid (omega (arith, length-drop p b))

  pub item_here : Item (drop p b)
  item_here = here.item

  module _ (w : ℕ) (ps : (x : Item (drop p b)) → Passes (drop p b) w (after (drop p b) x)) where
    g : Passes (drop p b) w (after (drop p b) here.item)
    g = ps here.item

    width : w ≡ length here.front
    width = omega (arith, g.fits, length-drop w (drop p b), ap length (g.left ∙ here.is), ap length here.split, length-append here.front (bytes_of here.next))

    pub item_some : 0 < w
    item_some = omega (arith, width, here.some)

    pub item_within : p + w ≤ length b
    item_within = omega (arith, g.fits, length-drop p b)

  module _ (w m a k : ℕ) (new : List ℕ) (d : Does keep i q out (drop p b) w m a k new) where
    written : take m (drop p b) ≡ cond (is_written keep i (drop p b)) here.front []
    written =
        ap (λ (j : ℕ). take j (drop p b)) (d.len ∙ ap (λ (j : ℕ). cond (is_written keep i (drop p b)) j 0) (width w d.passes))
        ∙ (ap (take (cond (is_written keep i (drop p b)) (length here.front) 0)) here.split ∙ take_cond (is_written keep i (drop p b)) here.front (bytes_of here.next))

    pub writes_turn : Writes b out₀ from keep fs (p + w) (q + m) (i + a) (n + k) new
    writes_turn =
        let f : List ℕ = take m (drop p b) in
        let lf : length f ≡ m = length-take-le m (drop p b) (omega (arith, written_le keep i (drop p b) w m d.len, (g w d.passes).fits)) in
        let e1 : take q out ≡ y.done = ap (take q) y.is ∙ take_at y.done (drop q out₀) q y.size in
        let e2 : drop (q + m) out ≡ drop (q + m) out₀ =
        sym (drop-drop m q out) ∙ (ap (drop m) (ap (drop q) y.is ∙ drop_at y.done (drop q out₀) q y.size) ∙ drop-drop m q out₀) in
        let ea : i + sentence_one (drop p b) ≡ i + a = ap (λ (j : ℕ). i + j) (sym d.one) in
        record {
          done = y.done ++ f;
          rest = here.next;
          is = d.new_is ∙ (ap (λ (l : List ℕ). (l ++ f) ++ drop (q + m) out) e1 ∙ ap (λ (l : List ℕ). (y.done ++ f) ++ l) e2);
          size = length-append y.done f ∙ omega (arith, lf, y.size);
          place = sym (drop-drop w p b) ∙ ((g w d.passes).left ∙ here.is);
          valid = here.valid;
          bytes =
              y.bytes
              ∙ (ap (λ (l : List ℕ). y.done ++ l) (here.bytes ∙ (ap (λ (l : List ℕ). l ++ bytes_of (kept keep (i + sentence_one (drop p b)) here.next)) (sym written) ∙ ap (λ (j : ℕ). f ++ bytes_of (kept keep j here.next)) ea))
              ∙ sym (append_assoc y.done f (bytes_of (kept keep (i + a) here.next))));
          count = omega (arith, y.count, here.count, ap (λ (j : ℕ). count_of (kept keep j here.next)) ea, d.kept-one);
        }

-- nothing is left where no byte is
none_left : (r : Rest) → bytes_of r ≡ [] → (keep : ℕ → Bool) (i : ℕ) → (bytes_of (kept keep i r) ≡ []) × (count_of (kept keep i r) ≡ 0)
unfolding put_functions put_function put_sentences put_head kept_functions own_sentence_count
none_left (outer []) e keep i = (refl, refl)
none_left (outer (f ∷ fs)) e keep i = absurd (omega (arith, ap length e))
none_left (inner Sentences.empty fs) e keep i = absurd (omega (arith, ap length e))
none_left (inner (Sentences.sentence a p c r b) fs) e keep i = absurd (omega (arith, ap length e))

-- the end of the walk
pub writes_end : (b out₀ : List ℕ) (from : ℕ) (keep : ℕ → Bool) (fs : List Function) (p q i n : ℕ) (out : List ℕ) → from ≤ length out₀ → Writes b out₀ from keep fs p q i n out → length b ≤ p
    → FunctionsWritten (put_functions (kept_functions keep 0 fs)) (own_sentence_count (kept_functions keep 0 fs)) from out₀ q n out
writes_end b out₀ from keep fs p q i n out l y h =
    let z : (bytes_of (kept keep i y.rest) ≡ []) × (count_of (kept keep i y.rest) ≡ 0) = none_left y.rest (sym y.place ∙ drop_of_length-le b h) keep i in
    let k : List ℕ = put_functions (kept_functions keep 0 fs) in
    let e : take from out₀ ++ k ≡ y.done = y.bytes ∙ (ap (λ (s : List ℕ). y.done ++ s) z.0 ∙ append-nil y.done) in
    record {
      is = y.is ∙ ap (λ (s : List ℕ). s ++ drop q out₀) (sym e);
      ends = sym y.size ∙ (ap length (sym e) ∙ (length-append (take from out₀) k ∙ ap (λ (j : ℕ). j + length k) (length-take-le from out₀ l)));
      count = omega (arith, y.count, z.1);
    }
