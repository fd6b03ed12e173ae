-- The lines of the removed sentences: their texts, and the lists that loops go through.
use Prim.Native.Nat.{◌+◌, ◌-◌, ◌<◌, suc, zero, ℕ, ◌≤◌}
use native.Mathlib.Omega.{arith}
use mathlib.Core.Bool.{◌&&◌, Bool, and-eq-true_iff, cond, false, false≢true, not, or-true, true, true≢false, ◌||◌}
use mathlib.Core.List.{◌++◌, List, [], flat_map, map, ◌∷◌, append_assoc, append-nil, flatten, map-append}
use mathlib.Core.Option.{some}
use mathlib.Core.Path.{◌≡◌, ap, ap₂, refl, subst, sym, ◌∙◌}
use borrow.Author.Tests.{eq-eqb, le-leb, lt-leb, ne_eqb}
use lib.Dec.{eqb}
use lib.ListN.{drop, get_elem?, length, length-append, drop_of_length-le}
use Rattle.told.proofs.Asked.{restricted-is, is_restricted}
use Rattle.cleaning.proofs.Owned.{before-next}
use Rattle.told.specs.Asked.{is_judged, is_rejected, meets, uncharacterises, restricts}
use Rattle.told.specs.History.{FunctionsLeft, SentencesLeft, Told, is_there, rejects, some_accepted}
use Rattle.told.specs.Numbered.{sites_of, sentences_before, Held}
use Rattle.meaning.specs.Root.{root_place}
use Rattle.meaning.specs.Text.{Text, format_terms}
use Rattle.told.specs.ToldReport.{Fallen, fallen_from, fallen_in, fallen_of, removed_of, restrictions_at, same_fallen}
use Rattle.cleaning.specs.Walks.{Owns}
use Rattle.program.specs.Encode.{sentence_count}
use Rattle.program.specs.Sentences.{Sentence, sentence_list}
use Rattle.program.specs.Syntax.{Function, Name, Program, Sentences, Terms, sentence, empty}
use Rattle.index.proofs.First.{element_same}
use Rattle.report.proofs.FallenList.{owned_element, first_fallen}
use Rattle.report.proofs.Leaders.{drop_element}
use Rattle.report.specs.Leading.{angled_after}
use Rattle.report.specs.Removed.{Listed, fallen_at, is_repeated, lines_of, listed_of}
use Rattle.report.specs.Sentence.{sentence_text}
use Rattle.text.proofs.Written.{both, written-nothing, same}
use Rattle.text.specs.Written.{written}
use Rattle.text.specs.declared.writer.Writer.{Writer}
use Rattle.meaning.specs.Report.{removed_line, join, angled}
use Rattle.program.proofs.Own.{sentences-counted}
use Rattle.meaning.specs.Lists.{any, firsts, select}
use Rattle.patterns.specs.Ascii.{ascii}

-- ---- where a sentence falls, its function is restricted

-- What became of a sentence in a round.
record LeftAt (root : ℕ) (keep next : ℕ → Bool) (sites : List Held) (f : Name) (p : Terms) (s : ℕ) : Type 0 where
  pub place : ℕ
  pub others : Bool
  pub is : next s ≡ (keep s && not (rejects root keep sites place f p && others))

module _ (keep next : ℕ → Bool) where
  sentence-left : (b : Sentences) (reject : Terms → Bool) (others : Bool) (i t : ℕ) (y : Sentence) → SentencesLeft reject others keep next i b → get_elem? (sentence_list b) t ≡ some y → next (i + t) ≡ (keep (i + t) && not (reject y.pattern && others))
  unfolding sentence_list
  sentence-left empty reject others i t y l e = let z : ◌≡◌ {A = ℕ} 0 1 = cc in absurd (omega arith)
  sentence-left (sentence h p c q b) reject others i zero y l e =
      let n : i ≡ i + 0 = omega arith in
      let z : p ≡ y.pattern = ap (λ (v : Sentence). v.pattern) (element_same (record { head = h; pattern = p; conditions = c; result = q } ∷ sentence_list b) 0 (record { head = h; pattern = p; conditions = c; result = q }) y refl e) in
      ap next (sym n) ∙ l.0 ∙ ap₂ (λ (k : ℕ) (v : Terms). keep k && not (reject v && others)) n z
  sentence-left (sentence h p c q b) reject others i (suc t) y l e =
      let n : suc i + t ≡ i + suc t = omega arith in
      ap next (sym n) ∙ sentence-left b reject others (suc i) t y l.1 e ∙ ap (λ (k : ℕ). keep k && not (reject y.pattern && others)) n

  function-left : (fs : List Function) (root : ℕ) (sites : List Held) (k i g t : ℕ) (x : Function) (y : Sentence) → FunctionsLeft root keep next sites k i fs → get_elem? fs g ≡ some x → get_elem? (sentence_list x.sentences) t ≡ some y
      → LeftAt root keep next sites x.name y.pattern (i + sentences_before g fs + t)
  unfolding sentences_before
  function-left [] root sites k i g t x y l e h = let z : ◌≡◌ {A = ℕ} 0 1 = cc in absurd (omega arith)
  function-left (f ∷ fs) root sites k i zero t x y l e h =
      let z : f ≡ x = element_same (f ∷ fs) 0 f x refl e in
      let n : i + t ≡ i + 0 + t = omega arith in
      let s = subst (λ (v : Function). SentencesLeft (rejects root keep sites k v.name) (some_accepted (rejects root keep sites k v.name) keep i v.sentences) keep next i v.sentences) z l.0 in
      record {
        place = k;
        others = some_accepted (rejects root keep sites k x.name) keep i x.sentences;
        is = subst (λ (j : ℕ). next j ≡ (keep j && not (rejects root keep sites k x.name y.pattern && some_accepted (rejects root keep sites k x.name) keep i x.sentences))) n
            (sentence-left x.sentences (rejects root keep sites k x.name) (some_accepted (rejects root keep sites k x.name) keep i x.sentences) i t y s h);
      }
  function-left (f ∷ fs) root sites k i (suc g) t x y l e h =
      let n : (i + sentence_count f.sentences) + sentences_before g fs + t ≡ i + (sentence_count f.sentences + sentences_before g fs) + t = omega arith in
      subst (λ (j : ℕ). LeftAt root keep next sites x.name y.pattern j) n (function-left fs root sites (suc k) (i + sentence_count f.sentences) g t x y l.1 e h)

module _ (w : Program) (fell : ℕ → ℕ) (n r : ℕ) (h : Told w fell n) (p : 0 < r) (q : r ≤ n) (f : ℕ) (x : Function) (s : ℕ) (y : Sentence) (o : Owns w f x s y) (e : fell s ≡ r) where
  there_now : is_there fell r s ≡ true
  unfolding is_there
  there_now = ap (λ (t : Bool). eqb (fell s) 0 || t) (le-leb r (fell s) (omega (arith, e))) ∙ or-true (eqb (fell s) 0)

  there_no_more : is_there fell (suc r) s ≡ false
  unfolding is_there
  there_no_more = ap₂ (λ (t u : Bool). t || u) (ne_eqb (fell s) 0 (λ z. omega (arith, e, z, p))) (lt-leb (suc r) (fell s) (omega (arith, e)))

  left_now : LeftAt (root_place w) (is_there fell r) (is_there fell (suc r)) (sites_of w) x.name y.pattern s
  left_now =
      let i : ℕ = sentences_before f w.functions in
      let z : 0 + i + (s - i) ≡ s = omega (arith, o.from) in
      subst (λ (t : ℕ). LeftAt (root_place w) (is_there fell r) (is_there fell (suc r)) (sites_of w) x.name y.pattern t) z
      (function-left (is_there fell r) (is_there fell (suc r)) w.functions (root_place w) (sites_of w) 0 0 f (s - i) x y (h.round r p q) o.function (owned_element w f x s y o))

  rejected_now : any (restricts (is_there fell r) x.name) (sites_of w) ≡ true
  unfolding rejects is_rejected is_judged
  rejected_now =
      let l = left_now in
      let a = by (is_there fell r s) (is_there fell (suc r) s) (rejects (root_place w) (is_there fell r) (sites_of w) l.place x.name y.pattern) l.others there_now there_no_more l.is in
      let b = ((and-eq-true_iff (not (eqb l.place (root_place w))) (is_rejected (is_there fell r) x.name (sites_of w) y.pattern)).0 a).1 in
      let c = ((and-eq-true_iff (is_judged (is_there fell r) x.name (sites_of w)) (not (any (meets (is_there fell r) x.name y.pattern) (sites_of w)))).0 b).0 in
      ((and-eq-true_iff (not (any (uncharacterises (is_there fell r) x.name) (sites_of w))) (any (restricts (is_there fell r) x.name) (sites_of w))).0 c).1
    where
      by : (k m a b : Bool) → k ≡ true → m ≡ false → m ≡ (k && not (a && b)) → a ≡ true
      by true true a b u v z = absurd (true≢false v)
      by true false true b u v z = refl
      by true false false b u v z = absurd (false≢true z)
      by false m a b u v z = absurd (false≢true u)

  -- "Disjoint from every restriction of its function": there is one.
  pub fallen_restricted : restrictions_at (is_there fell r) x.name (sites_of w) ≡ [] → ⊥
  unfolding is_restricted any
  fallen_restricted z = false≢true (sym (ap is_restricted z) ∙ restricted-is (is_there fell r) x.name (sites_of w) ∙ rejected_now)

-- ---- the text of a line

angled-join : (rs : List Terms) (r : Terms) → flat_map angled_after (r ∷ rs) ≡ ascii " " ++ join (ascii " ") (map angled (map format_terms (r ∷ rs)))
unfolding flat_map angled_after join angled ascii
angled-join [] r = append-nil (angled_after r)
angled-join (q ∷ rs) r = ap (λ (t : Text). angled_after r ++ t) (angled-join rs q)

-- The line of a removed sentence, in the parts in which it is put.
unfoldable pub line_parts : Name → Text → List Terms → Text
line_parts f p rs = sentence_text f p ++ (ascii " rejected by" ++ (flat_map angled_after rs ++ ascii "\n"))

line_is : (f : Name) (p : Text) (rs : List Terms) → (rs ≡ [] → ⊥) → line_parts f p rs ≡ removed_line (record { function = f; pattern = p; restrictions = map format_terms rs })
unfolding line_parts sentence_text removed_line flatten ascii
line_is f p [] h = absurd (h refl)
line_is f p (r ∷ rs) h =
    ap (λ (t : Text). (ascii "  " ++ (f ++ (ascii " {" ++ (p ++ ascii "}")))) ++ (ascii " rejected by" ++ (t ++ ascii "\n"))) (angled-join rs r)
    ∙ ap (λ (t : Text). ascii "  " ++ t)
    (append_assoc f (ascii " {" ++ (p ++ ascii "}")) (ascii " rejected by" ++ ((ascii " " ++ join (ascii " ") (map angled (map format_terms (r ∷ rs)))) ++ ascii "\n"))
    ∙ ap (λ (t : Text). f ++ (ascii " {" ++ t)) (append_assoc p (ascii "}") (ascii " rejected by" ++ ((ascii " " ++ join (ascii " ") (map angled (map format_terms (r ∷ rs)))) ++ ascii "\n"))))

pub removed_line_lem : (w : Program) (fell : ℕ → ℕ) (z : Fallen) → (restrictions_at (is_there fell z.round) z.function.name (sites_of w) ≡ [] → ⊥)
    → line_parts z.function.name (format_terms z.sentence.pattern) (restrictions_at (is_there fell z.round) z.function.name (sites_of w)) ≡ removed_line (removed_of w fell z)
unfolding removed_of
removed_line_lem w fell z h = line_is z.function.name (format_terms z.sentence.pattern) (restrictions_at (is_there fell z.round) z.function.name (sites_of w)) h

-- ---- lists of lines

select-append : {A : Type 0} (test : A → Bool) (l m : List A) → select test (l ++ m) ≡ select test l ++ select test m
unfolding select
select-append test [] m = refl
select-append {A} test (x ∷ l) m = by (test x) (select test l) (select-append test l m)
  where
    by : (t : Bool) (b : List A) {a : List A} → a ≡ b ++ select test m → cond t (x ∷ a) a ≡ cond t (x ∷ b) b ++ select test m
    by true b e = ap (λ (k : List A). x ∷ k) e
    by false b e = e

lines-append : {A B : Type 0} (g : A → List B) (l m : List A) → flat_map g (l ++ m) ≡ flat_map g l ++ flat_map g m
unfolding flat_map
lines-append g [] m = refl
lines-append {A} {B} g (x ∷ l) m = ap (λ (t : List B). g x ++ t) (lines-append g l m) ∙ sym (append_assoc (g x) (flat_map g l) (flat_map g m))

module _ (w : Program) (fell : ℕ → ℕ) (n : ℕ) where
  pub listed_same : {l m : List Fallen} {s d : Writer} {count counted : ℕ} → l ≡ m → Listed w fell n l s count d counted → Listed w fell n m s count d counted
  listed_same {l} {m} {s} {d} {count} {counted} e h = subst (λ (k : List Fallen). Listed w fell n k s count d counted) e h

  pub listed-nothing : (s : Writer) (count : ℕ) → Listed w fell n [] s count s count
  unfolding lines_of listed_of select flat_map
  listed-nothing s count = record { text = written-nothing s; told = omega arith }

  pub listed-append : (l m : List Fallen) {s b d : Writer} {c k j : ℕ} → Listed w fell n l s c b k → Listed w fell n m b k d j → Listed w fell n (l ++ m) s c d j
  unfolding lines_of listed_of
  listed-append l m {s} e f =
      let z = select-append (λ x. not (is_repeated w fell n x)) l m in
      record {
        text =
            same s (sym (ap (λ (x : List Fallen). flat_map removed_line (map (removed_of w fell) x)) z
            ∙ ap (flat_map removed_line) (map-append (removed_of w fell) (select (λ x. not (is_repeated w fell n x)) l) (select (λ x. not (is_repeated w fell n x)) m))
            ∙ lines-append removed_line (map (removed_of w fell) (select (λ x. not (is_repeated w fell n x)) l)) (map (removed_of w fell) (select (λ x. not (is_repeated w fell n x)) m))))
            (both s (lines_of w fell n l) (lines_of w fell n m) e.text f.text);
        told = omega (arith, e.told, f.told, ap length z, length-append (select (λ x. not (is_repeated w fell n x)) l) (select (λ x. not (is_repeated w fell n x)) m));
      }

  module _ (r : ℕ) (x : Function) (s : ℕ) (y : Sentence) (out : Writer) (count : ℕ) where
    abbrev fallen : Fallen
    fallen = record { round = r; function = x; number = s; sentence = y }

    pub listed_not : (fell s ≡ r → ⊥) → Listed w fell n (fallen_at fell r x s y) out count out count
    unfolding fallen_at
    listed_not h = listed_same (sym (ap (λ (t : Bool). cond t (fallen ∷ []) []) (ne_eqb (fell s) r h))) (listed-nothing out count)

    listed-one : fell s ≡ r → (t : Bool) → is_repeated w fell n fallen ≡ t → listed_of w fell n (fallen_at fell r x s y) ≡ cond (not t) (fallen ∷ []) []
    unfolding listed_of fallen_at select
    listed-one e t g = ap (λ (v : Bool). select (λ z. not (is_repeated w fell n z)) (cond v (fallen ∷ []) [])) (eq-eqb (fell s) r e) ∙ ap (λ (v : Bool). cond (not v) (fallen ∷ []) []) g

    pub listed-repeat : fell s ≡ r → is_repeated w fell n fallen ≡ true → Listed w fell n (fallen_at fell r x s y) out count out count
    unfolding lines_of flat_map
    listed-repeat e g =
        let z = listed-one e true g in
        record { text = same out (sym (ap (λ (l : List Fallen). flat_map removed_line (map (removed_of w fell) l)) z)) (written-nothing out); told = omega (arith, ap length z) }

    pub listed_line : fell s ≡ r → is_repeated w fell n fallen ≡ false → {d : Writer} → d ≡ written out (removed_line (removed_of w fell fallen)) → Listed w fell n (fallen_at fell r x s y) out count d (count + 1)
    unfolding lines_of flat_map
    listed_line e g h =
        let z = listed-one e false g in
        record {
          text = same out (sym (append-nil (removed_line (removed_of w fell fallen))) ∙ sym (ap (λ (l : List Fallen). flat_map removed_line (map (removed_of w fell) l)) z)) h;
          told = omega (arith, ap length z);
        }

-- ---- what is left of the lists

unfoldable pub fallen_rest : (ℕ → ℕ) → ℕ → Function → ℕ → List Sentence → List Fallen
fallen_rest fell r x i [] = []
fallen_rest fell r x i (y ∷ l) = fallen_at fell r x i y ++ fallen_rest fell r x (suc i) l

module _ (fell : ℕ → ℕ) (r : ℕ) where
  pub fallen_rest_lem : (x : Function) (i : ℕ) (b : Sentences) → fallen_of fell r x i b ≡ fallen_rest fell r x i (sentence_list b)
  unfolding fallen_of fallen_rest fallen_at sentence_list
  fallen_rest_lem x i empty = refl
  fallen_rest_lem x i (sentence h p c q b) = by (eqb (fell i) r) (fallen_rest_lem x (suc i) b)
    where
      first : Fallen
      first = record { round = r; function = x; number = i; sentence = record { head = h; pattern = p; conditions = c; result = q } }

      by : (t : Bool) {a b : List Fallen} → a ≡ b → cond t (first ∷ a) a ≡ cond t (first ∷ []) [] ++ b
      by true e = ap (λ (l : List Fallen). first ∷ l) e
      by false e = e

  pub rest-next : (x : Function) (l : List Sentence) (i k : ℕ) (y : Sentence) → get_elem? l k ≡ some y → fallen_rest fell r x i (drop k l) ≡ fallen_at fell r x i y ++ fallen_rest fell r x (suc i) (drop (suc k) l)
  unfolding fallen_rest
  rest-next x l i k y e = ap (fallen_rest fell r x i) (drop_element l k y e)

  pub rest_end : (x : Function) (l : List Sentence) (i k : ℕ) → length l ≤ k → fallen_rest fell r x i (drop k l) ≡ []
  unfolding fallen_rest
  rest_end x l i k h = ap (fallen_rest fell r x i) (drop_of_length-le l h)

  pub functions-next : (fs : List Function) (f : ℕ) (x : Function) → get_elem? fs f ≡ some x
      → fallen_in fell r (sentences_before f fs) (drop f fs) ≡ fallen_of fell r x (sentences_before f fs) x.sentences ++ fallen_in fell r (sentences_before (suc f) fs) (drop (suc f) fs)
  unfolding fallen_in
  functions-next fs f x e =
      ap (fallen_in fell r (sentences_before f fs)) (drop_element fs f x e)
      ∙ ap (λ (k : ℕ). fallen_of fell r x (sentences_before f fs) x.sentences ++ fallen_in fell r k (drop (suc f) fs)) (sym (before-next fs f x e))

  pub functions-end : (fs : List Function) (f i : ℕ) → length fs ≤ f → fallen_in fell r i (drop f fs) ≡ []
  unfolding fallen_in
  functions-end fs f i h = ap (fallen_in fell r i) (drop_of_length-le fs h)

pub rounds-next : (w : Program) (fell : ℕ → ℕ) (n r : ℕ) → r ≤ n → fallen_from w fell r (suc n - r) ≡ fallen_in fell r 0 w.functions ++ fallen_from w fell (suc r) (suc n - suc r)
unfolding fallen_from
rounds-next w fell n r h =
    let e : suc n - r ≡ suc (suc n - suc r) = omega (arith, h) in
    ap (fallen_from w fell r) e

pub rounds-end : (w : Program) (fell : ℕ → ℕ) (n r : ℕ) → n < r → fallen_from w fell r (suc n - r) ≡ []
unfolding fallen_from
rounds-end w fell n r h =
    let e : suc n - r ≡ 0 = omega (arith, h) in
    ap (fallen_from w fell r) e

-- ---- steps of the loops

module _ (w : Program) (fell : ℕ → ℕ) (n r : ℕ) where
  -- The f-th function's sentences from s on.
  abbrev pub rest_of : ℕ → Function → ℕ → List Fallen
  rest_of f x s = fallen_rest fell r x s (drop (s - sentences_before f w.functions) (sentence_list x.sentences))

  -- All sentences from the f-th function on.
  abbrev pub rest_from : ℕ → List Fallen
  rest_from f = fallen_in fell r (sentences_before f w.functions) (drop f w.functions)

  -- All rounds from r on.
  abbrev pub rest_rounds : List Fallen
  rest_rounds = fallen_from w fell r (suc n - r)

  module _ {out d : Writer} {c j : ℕ} where
    pub sentences-start : (f : ℕ) (x : Function) (s : ℕ) → s ≡ sentences_before f w.functions → Listed w fell n (rest_of f x s) out c d j → Listed w fell n (fallen_of fell r x (sentences_before f w.functions) x.sentences) out c d j
    sentences-start f x s e h =
        let z : s - sentences_before f w.functions ≡ 0 = omega (arith, e) in
        listed_same w fell n (ap₂ (λ (u v : ℕ). fallen_rest fell r x u (drop v (sentence_list x.sentences))) e z ∙ sym (fallen_rest_lem fell r x (sentences_before f w.functions) x.sentences)) h

    pub sentences_step : (f : ℕ) (x : Function) (s : ℕ) (y : Sentence) {b : Writer} {k : ℕ} → Owns w f x s y → Listed w fell n (fallen_at fell r x s y) out c b k → Listed w fell n (rest_of f x (s + 1)) b k d j → Listed w fell n (rest_of f x s) out c d j
    sentences_step f x s y {b} {k} o h g =
        let z : suc (s - sentences_before f w.functions) ≡ s + 1 - sentences_before f w.functions = omega (arith, o.from) in
        let v : suc s ≡ s + 1 = omega arith in
        listed_same w fell n (sym (rest-next fell r x (sentence_list x.sentences) s (s - sentences_before f w.functions) y (owned_element w f x s y o)))
        (listed-append w fell n (fallen_at fell r x s y) (fallen_rest fell r x (suc s) (drop (suc (s - sentences_before f w.functions)) (sentence_list x.sentences))) h
        (listed_same w fell n (sym (ap₂ (λ (t u : ℕ). fallen_rest fell r x t (drop u (sentence_list x.sentences))) v z)) g))

    pub functions_step : (f : ℕ) (x : Function) {b : Writer} {k : ℕ} → get_elem? w.functions f ≡ some x → Listed w fell n (fallen_of fell r x (sentences_before f w.functions) x.sentences) out c b k → Listed w fell n (rest_from (f + 1)) b k d j → Listed w fell n (rest_from f) out c d j
    functions_step f x {b} {k} e h g =
        let v : suc f ≡ f + 1 = omega arith in
        listed_same w fell n (sym (functions-next fell r w.functions f x e))
        (listed-append w fell n (fallen_of fell r x (sentences_before f w.functions) x.sentences) (fallen_in fell r (sentences_before (suc f) w.functions) (drop (suc f) w.functions)) h
        (listed_same w fell n (sym (ap (λ (t : ℕ). rest_from t) v)) g))

  pub sentences-end : (f : ℕ) (x : Function) (s : ℕ) → get_elem? w.functions f ≡ some x → sentences_before (suc f) w.functions ≤ s → (out : Writer) (c : ℕ) → Listed w fell n (rest_of f x s) out c out c
  sentences-end f x s e h out c =
      listed_same w fell n (sym (rest_end fell r x (sentence_list x.sentences) s (s - sentences_before f w.functions) (omega (arith, h, before-next w.functions f x e, sentences-counted x.sentences)))) (listed-nothing w fell n out c)

  pub functions-last : (f : ℕ) → length w.functions ≤ f → (out : Writer) (c : ℕ) → Listed w fell n (rest_from f) out c out c
  functions-last f h out c = listed_same w fell n (sym (functions-end fell r w.functions f (sentences_before f w.functions) h)) (listed-nothing w fell n out c)

  pub functions-start : {out d : Writer} {c j : ℕ} → Listed w fell n (rest_from 0) out c d j → Listed w fell n (fallen_in fell r 0 w.functions) out c d j
  unfolding sentences_before
  functions-start h = h

module _ (w : Program) (fell : ℕ → ℕ) (n : ℕ) where
  pub rounds-start : {out d : Writer} {c j : ℕ} → Listed w fell n (rest_rounds w fell n 1) out c d j → Listed w fell n (fallen_from w fell 1 n) out c d j
  rounds-start h = let e : suc n - 1 ≡ n = omega arith in listed_same w fell n (ap (fallen_from w fell 1) e) h

  pub rounds_step : (r : ℕ) → r ≤ n → {out b d : Writer} {c k j : ℕ} → Listed w fell n (fallen_in fell r 0 w.functions) out c b k → Listed w fell n (rest_rounds w fell n (r + 1)) b k d j → Listed w fell n (rest_rounds w fell n r) out c d j
  rounds_step r l h g =
      let v : suc r ≡ r + 1 = omega arith in
      listed_same w fell n (sym (rounds-next w fell n r l))
      (listed-append w fell n (fallen_in fell r 0 w.functions) (fallen_from w fell (suc r) (suc n - suc r)) h (listed_same w fell n (sym (ap (λ (t : ℕ). rest_rounds w fell n t) v)) g))

  pub rounds-last : (r : ℕ) → n < r → (out : Writer) (c : ℕ) → Listed w fell n (rest_rounds w fell n r) out c out c
  rounds-last r h out c = listed_same w fell n (sym (rounds-end w fell n r h)) (listed-nothing w fell n out c)

  -- The whole list, as the report has it.
  pub listed-firsts : {out d : Writer} {c j : ℕ} → Listed w fell n (fallen_from w fell 1 n) out c d j
      → (d ≡ written out (flat_map removed_line (map (removed_of w fell) (firsts same_fallen (fallen_from w fell 1 n))))) × (j ≡ c + length (firsts same_fallen (fallen_from w fell 1 n)))
  unfolding lines_of listed_of
  listed-firsts {out} h =
      let z = sym (first_fallen w fell n) in
      (same out (ap (λ (l : List Fallen). flat_map removed_line (map (removed_of w fell) l)) z) h.text, omega (arith, h.told, ap length z))
