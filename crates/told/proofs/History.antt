-- The rounds are those that the numbers tell.
use Prim.Native.Nat.{ℕ, zero, suc, ◌+◌, ◌-◌, ◌≤◌, ◌<◌}
use native.Mathlib.Omega.{arith}
use mathlib.Core.Path.{◌≡◌, refl, sym, ap, ap₂, fun_ext, ◌∙◌, subst}
use mathlib.Core.Bool.{Bool, true, false, ◌&&◌, ◌||◌, not, cond, true≢false, false≢true, or-true}
use mathlib.Core.List.{List, [], ◌∷◌, map}
use lib.Dec.{eqb, leb}
use borrow.Author.Tests.{le-leb, lt-leb}
use Rattle.program.specs.Syntax.{Terms, Sentences, empty, sentence, Function, Program}
use Rattle.program.specs.Encode.{sentence_count, own_sentence_count}
use Rattle.program.specs.Sentences.{Sentence, sentence_list, own_sentences}
use Rattle.meaning.specs.Lists.{all, select}
use Rattle.meaning.specs.Sites.{Site, program_sites}
use Rattle.meaning.specs.Restrictions.{entering_restrictions}
use Rattle.meaning.specs.Dispatch.{residual_dispatches_dynamically}
use Rattle.told.specs.Numbered.{Held, held_sites}
use Rattle.meaning.specs.Root.{root_place}
use Rattle.meaning.specs.Cleaning.{Standing, standing, rejected, accepted, kept_of, dropped_of, change, changes, Round, round, changed, left_by, is_none, drops_nothing, rounds_of, is_root, rounds, after, clean_residual_program}
use Rattle.told.specs.Kept.{kept_sentences, kept_function, kept_functions, kept_program}
use Rattle.told.specs.KeptSites.{kept_sites}
use Rattle.told.specs.History.{is_there, after_all, some_accepted, SentencesLeft, rejects, FunctionsLeft, RoundTold, start_of, rounds_told, numbered, some_number, some_fell, Told}
use Rattle.meaning.proofs.Bound.{rounds_unfold}
use Rattle.told.proofs.Kept.{all-kept}
use Rattle.told.proofs.KeptSites.{kept-sites}
use Rattle.told.proofs.Asked.{rejected-is}

-- ---- one function

is_empty : Sentences → Bool
is_empty empty = true
is_empty (sentence h p c r b) = false

kept_of_lem : (a own : Sentences) (t : Bool) → is_empty a ≡ t → kept_of a own ≡ cond t own a
unfolding kept_of is_empty
kept_of_lem empty own true e = refl
kept_of_lem empty own false e = absurd (true≢false e)
kept_of_lem (sentence h p c r b) own true e = absurd (false≢true e)
kept_of_lem (sentence h p c r b) own false e = refl

dropped_of_lem : (a : Sentences) (l : List Sentence) (t : Bool) → is_empty a ≡ t → dropped_of a l ≡ cond t [] l
unfolding dropped_of is_empty
dropped_of_lem empty l true e = refl
dropped_of_lem empty l false e = absurd (true≢false e)
dropped_of_lem (sentence h p c r b) l true e = absurd (false≢true e)
dropped_of_lem (sentence h p c r b) l false e = refl

module _ (j : Standing) (reject : Terms → Bool) (is : (p : Terms) → rejected j p ≡ reject p) (keep next : ℕ → Bool) where
  -- Where some are accepted, those are left and the others fall.
  accepted-left : (i : ℕ) (b : Sentences) → SentencesLeft reject true keep next i b → accepted j (kept_sentences keep i b) ≡ kept_sentences next i b
  unfolding accepted kept_sentences
  accepted-left i empty l = refl
  accepted-left i (sentence h p c r b) l = by (accepted-left (suc i) b l.1) (keep i) (reject p) (next i) (is p) l.0
    where
      ks : Sentences
      ks = kept_sentences keep (suc i) b

      ns : Sentences
      ns = kept_sentences next (suc i) b

      by : accepted j ks ≡ ns → (t u n : Bool) → rejected j p ≡ u → n ≡ (t && not (u && true)) → accepted j (cond t (sentence h p c r ks) ks) ≡ cond n (sentence h p c r ns) ns
      by ih true true n e f = ap (λ (x : Bool). cond x (accepted j ks) (sentence h p c r (accepted j ks))) e ∙ (ih ∙ sym (ap (λ (x : Bool). cond x (sentence h p c r ns) ns) f))
      by ih true false n e f = ap (λ (x : Bool). cond x (accepted j ks) (sentence h p c r (accepted j ks))) e ∙ (ap (sentence h p c r) ih ∙ sym (ap (λ (x : Bool). cond x (sentence h p c r ns) ns) f))
      by ih false true n e f = ih ∙ sym (ap (λ (x : Bool). cond x (sentence h p c r ns) ns) f)
      by ih false false n e f = ih ∙ sym (ap (λ (x : Bool). cond x (sentence h p c r ns) ns) f)

  abbrev falls : ℕ → Bool
  falls s = keep s && not (next s)

  fallen_left : (i : ℕ) (b : Sentences) → SentencesLeft reject true keep next i b → select (λ x. rejected j x.pattern) (sentence_list (kept_sentences keep i b)) ≡ numbered falls i b
  unfolding select sentence_list kept_sentences numbered
  fallen_left i empty l = refl
  fallen_left i (sentence h p c r b) l = by (fallen_left (suc i) b l.1) (keep i) (reject p) (next i) (is p) l.0
    where
      ks : Sentences
      ks = kept_sentences keep (suc i) b

      x : Sentence
      x = record { head = h; pattern = p; conditions = c; result = r }

      ns : List Sentence
      ns = numbered falls (suc i) b

      by : select (λ x. rejected j x.pattern) (sentence_list ks) ≡ ns → (t u n : Bool) → rejected j p ≡ u → n ≡ (t && not (u && true)) → select (λ x. rejected j x.pattern) (sentence_list (cond t (sentence h p c r ks) ks)) ≡ cond (t && not n) (x ∷ ns) ns
      by ih true true n e f = ap (λ (y : Bool). cond y (x ∷ select (λ x. rejected j x.pattern) (sentence_list ks)) (select (λ x. rejected j x.pattern) (sentence_list ks))) e ∙ (ap (λ (m : List Sentence). x ∷ m) ih ∙ sym (ap (λ (y : Bool). cond (not y) (x ∷ ns) ns) f))
      by ih true false n e f = ap (λ (y : Bool). cond y (x ∷ select (λ x. rejected j x.pattern) (sentence_list ks)) (select (λ x. rejected j x.pattern) (sentence_list ks))) e ∙ (ih ∙ sym (ap (λ (y : Bool). cond (not y) (x ∷ ns) ns) f))
      by ih false true n e f = ih
      by ih false false n e f = ih

  -- Where none is accepted, all are kept.
  same_left : (i : ℕ) (b : Sentences) → SentencesLeft reject false keep next i b → kept_sentences keep i b ≡ kept_sentences next i b
  unfolding kept_sentences
  same_left i empty l = refl
  same_left i (sentence h p c r b) l = ap₂ (λ (t : Bool) (s : Sentences). cond t (sentence h p c r s) s) (by (keep i) (reject p) ∙ sym l.0) (same_left (suc i) b l.1)
    where
      by : (t u : Bool) → t ≡ (t && not (u && false))
      by true true = refl
      by true false = refl
      by false u = refl

  none_fallen : (i : ℕ) (b : Sentences) → SentencesLeft reject false keep next i b → numbered falls i b ≡ []
  unfolding numbered
  none_fallen i empty l = refl
  none_fallen i (sentence h p c r b) l = ap₂ (λ (t : Bool) (m : List Sentence). cond t (record { head = h; pattern = p; conditions = c; result = r } ∷ m) m) (by (keep i) (reject p) (next i) l.0) (none_fallen (suc i) b l.1)
    where
      by : (t u n : Bool) → n ≡ (t && not (u && false)) → (t && not n) ≡ false
      by true true n f = ap not f
      by true false n f = ap not f
      by false u n f = refl

  accepted-any : (i : ℕ) (b : Sentences) → is_empty (accepted j (kept_sentences keep i b)) ≡ not (some_accepted reject keep i b)
  unfolding is_empty accepted kept_sentences some_accepted
  accepted-any i empty = refl
  accepted-any i (sentence h p c r b) = by (accepted-any (suc i) b) (keep i) (reject p) (is p)
    where
      ks : Sentences
      ks = kept_sentences keep (suc i) b

      more : Bool
      more = some_accepted reject keep (suc i) b

      by : is_empty (accepted j ks) ≡ not more → (t u : Bool) → rejected j p ≡ u → is_empty (accepted j (cond t (sentence h p c r ks) ks)) ≡ not ((t && not u) || more)
      by ih true true e = ap (λ (x : Bool). is_empty (cond x (accepted j ks) (sentence h p c r (accepted j ks)))) e ∙ ih
      by ih true false e = ap (λ (x : Bool). is_empty (cond x (accepted j ks) (sentence h p c r (accepted j ks)))) e
      by ih false u e = ih

  kept-left : (i : ℕ) (b : Sentences) → SentencesLeft reject (some_accepted reject keep i b) keep next i b → kept_of (accepted j (kept_sentences keep i b)) (kept_sentences keep i b) ≡ kept_sentences next i b
  kept-left i b l = by (some_accepted reject keep i b) (accepted-any i b) l
    where
      by : (t : Bool) → is_empty (accepted j (kept_sentences keep i b)) ≡ not t → SentencesLeft reject t keep next i b → kept_of (accepted j (kept_sentences keep i b)) (kept_sentences keep i b) ≡ kept_sentences next i b
      by true e l = kept_of_lem (accepted j (kept_sentences keep i b)) (kept_sentences keep i b) false e ∙ accepted-left i b l
      by false e l = kept_of_lem (accepted j (kept_sentences keep i b)) (kept_sentences keep i b) true e ∙ same_left i b l

  dropped-left : (i : ℕ) (b : Sentences) → SentencesLeft reject (some_accepted reject keep i b) keep next i b
      → dropped_of (accepted j (kept_sentences keep i b)) (select (λ x. rejected j x.pattern) (sentence_list (kept_sentences keep i b))) ≡ numbered falls i b
  dropped-left i b l = by (some_accepted reject keep i b) (accepted-any i b) l
    where
      by : (t : Bool) → is_empty (accepted j (kept_sentences keep i b)) ≡ not t → SentencesLeft reject t keep next i b → dropped_of (accepted j (kept_sentences keep i b)) (select (λ x. rejected j x.pattern) (sentence_list (kept_sentences keep i b))) ≡ numbered falls i b
      by true e l = dropped_of_lem (accepted j (kept_sentences keep i b)) (select (λ x. rejected j x.pattern) (sentence_list (kept_sentences keep i b))) false e ∙ fallen_left i b l
      by false e l = dropped_of_lem (accepted j (kept_sentences keep i b)) (select (λ x. rejected j x.pattern) (sentence_list (kept_sentences keep i b))) true e ∙ sym (none_fallen i b l)

-- ---- all functions

none-numbered : (test : ℕ → Bool) (i : ℕ) (b : Sentences) → is_none (numbered test i b) ≡ not (some_number test i (sentence_count b))
unfolding numbered is_none some_number sentence_count
none-numbered test i empty = refl
none-numbered test i (sentence h p c r b) =
    let more : suc (sentence_count b) ≡ 1 + sentence_count b = omega arith in
    by (none-numbered test (suc i) b) (test i) ∙ ap (λ (n : ℕ). not (some_number test i n)) more
  where
    by : is_none (numbered test (suc i) b) ≡ not (some_number test (suc i) (sentence_count b)) → (t : Bool)
        → is_none (cond t (record { head = h; pattern = p; conditions = c; result = r } ∷ numbered test (suc i) b) (numbered test (suc i) b)) ≡ not (t || some_number test (suc i) (sentence_count b))
    by ih true = refl
    by ih false = ih

pub some-append : (test : ℕ → Bool) (i n m : ℕ) → some_number test i (n + m) ≡ (some_number test i n || some_number test (i + n) m)
unfolding some_number
some-append test i zero m =
    let e : 0 + m ≡ m = omega arith in
    let f : i ≡ i + 0 = omega arith in
    ap (some_number test i) e ∙ ap (λ (k : ℕ). some_number test k m) f
some-append test i (suc n) m =
    let e : suc n + m ≡ suc (n + m) = omega arith in
    let f : suc i + n ≡ i + suc n = omega arith in
    ap (some_number test i) e
    ∙ (ap (λ (t : Bool). test i || t) (some-append test (suc i) n m ∙ ap (λ (k : ℕ). some_number test (suc i) n || some_number test k m) f) ∙ by (test i))
  where
    by : (t : Bool) → (t || (some_number test (suc i) n || some_number test (i + suc n) m)) ≡ ((t || some_number test (suc i) n) || some_number test (i + suc n) m)
    by true = refl
    by false = refl

module _ (w : Program) (keep next : ℕ → Bool) (sites : List Held) where
  abbrev judged : ℕ → Function → Standing
  judged k f = standing (is_root w k f) (entering_restrictions f.name (kept_sites keep sites))

  pub judged_rejects : (k : ℕ) (f : Function) (p : Terms) → rejected (judged k f) p ≡ rejects (root_place w) keep sites k f.name p
  unfolding rejects is_root
  judged_rejects k f p = rejected-is (is_root w k f) keep f.name sites p

  -- What a round does to a function.
  pub change-kept : (k i : ℕ) (f : Function) → SentencesLeft (rejects (root_place w) keep sites k f.name) (some_accepted (rejects (root_place w) keep sites k f.name) keep i f.sentences) keep next i f.sentences
      → (change (judged k f) (kept_function keep i f)).kept ≡ kept_sentences next i f.sentences
  unfolding change kept_function
  change-kept k i f l = kept-left (judged k f) (rejects (root_place w) keep sites k f.name) (judged_rejects k f) keep next i f.sentences l

  pub change-dropped : (k i : ℕ) (f : Function) → SentencesLeft (rejects (root_place w) keep sites k f.name) (some_accepted (rejects (root_place w) keep sites k f.name) keep i f.sentences) keep next i f.sentences
      → (change (judged k f) (kept_function keep i f)).dropped ≡ numbered (λ s. keep s && not (next s)) i f.sentences
  unfolding change kept_function
  change-dropped k i f l = dropped-left (judged k f) (rejects (root_place w) keep sites k f.name) (judged_rejects k f) keep next i f.sentences l

  pub changed-functions : (k i : ℕ) (fs : List Function) → FunctionsLeft (root_place w) keep next sites k i fs → map changed (changes (is_root w) (kept_sites keep sites) k (kept_functions keep i fs)) ≡ kept_functions next i fs
  unfolding changes kept_functions changed kept_function change is_root
  changed-functions k i [] l = refl
  changed-functions k i (f ∷ fs) l =
      let e = change-kept k i f l.0 in
      let t = changed-functions (suc k) (i + sentence_count f.sentences) fs l.1 in
      λ x. record { span = f.span; visibility = f.visibility; name = f.name; sentences = e x } ∷ t x

  none_dropped : (k i : ℕ) (fs : List Function) → FunctionsLeft (root_place w) keep next sites k i fs
      → all (λ c. is_none c.dropped) (changes (is_root w) (kept_sites keep sites) k (kept_functions keep i fs)) ≡ not (some_number (λ s. keep s && not (next s)) i (own_sentence_count fs))
  unfolding changes kept_functions all own_sentence_count some_number kept_function change is_root
  none_dropped k i [] l = refl
  none_dropped k i (f ∷ fs) l =
      ap₂ (λ (x y : Bool). x && y) (ap is_none (change-dropped k i f l.0) ∙ none-numbered test i f.sentences) (none_dropped (suc k) (i + sentence_count f.sentences) fs l.1)
      ∙ (by (some_number test i (sentence_count f.sentences)) (some_number test (i + sentence_count f.sentences) (own_sentence_count fs)) ∙ ap not (sym (some-append test i (sentence_count f.sentences) (own_sentence_count fs))))
    where
      test : ℕ → Bool
      test s = keep s && not (next s)

      by : (t u : Bool) → (not t && not u) ≡ not (t || u)
      by true u = refl
      by false u = refl

-- ---- all rounds

pub there-first : (fell : ℕ → ℕ) (s : ℕ) → is_there fell 1 s ≡ true
unfolding is_there
there-first fell s = by (fell s)
  where
    by : (n : ℕ) → (eqb n 0 || leb 1 n) ≡ true
    by zero = refl
    by (suc n) = ap (λ (t : Bool). eqb (suc n) 0 || t) (le-leb 1 (suc n) (omega arith)) ∙ or-true (eqb (suc n) 0)

-- What is there after the last fall never fell.
pub there-after : (fell : ℕ → ℕ) (r : ℕ) → ((s : ℕ) → fell s < r) → r ≤ after_all → is_there fell r ≡ is_there fell after_all
unfolding is_there
there-after fell r below l = fun_ext (λ s. ap (λ (t : Bool). eqb (fell s) 0 || t) (lt-leb r (fell s) (below s) ∙ sym (lt-leb after_all (fell s) (omega (arith, below s, l)))))

module _ (w : Program) (fell : ℕ → ℕ) where
  abbrev sites : List Held
  sites = held_sites 0 (own_sentences w.functions)

  pub round-left : (r : ℕ) → RoundTold w fell r → left_by (round (is_root w) (start_of w fell r)) ≡ start_of w fell (suc r)
  unfolding left_by round start_of kept_program
  round-left r t =
      let e : map changed (changes (is_root w) (program_sites (start_of w fell r)) 0 (kept_functions (is_there fell r) 0 w.functions)) ≡ kept_functions (is_there fell (suc r)) 0 w.functions
      = ap (λ (l : List Site). map changed (changes (is_root w) l 0 (kept_functions (is_there fell r) 0 w.functions))) (sym (kept-sites (is_there fell r) w))
      ∙ changed-functions w (is_there fell r) (is_there fell (suc r)) sites 0 0 w.functions t in
      λ i. record { declarations = w.declarations; functions = e i }

  pub round_drops : (r : ℕ) → RoundTold w fell r → drops_nothing (round (is_root w) (start_of w fell r)) ≡ not (some_fell w fell r)
  unfolding drops_nothing round start_of kept_program
  round_drops r t =
      ap (λ (l : List Site). all (λ c. is_none c.dropped) (changes (is_root w) l 0 (kept_functions (is_there fell r) 0 w.functions))) (sym (kept-sites (is_there fell r) w))
      ∙ none_dropped w (is_there fell r) (is_there fell (suc r)) sites 0 0 w.functions t

  -- The rounds from r on, n of which drop something.
  pub rounds_are : (n r : ℕ) → ((q : ℕ) → r ≤ q → q < r + n → RoundTold w fell q × (some_fell w fell q ≡ true)) → RoundTold w fell (r + n) → some_fell w fell (r + n) ≡ false
      → rounds_of (is_root w) (start_of w fell r) ≡ rounds_told w fell r (suc n)
  unfolding rounds_told
  rounds_are zero r h t e =
      let z : r + 0 ≡ r = omega arith in
      rounds_unfold (is_root w) (start_of w fell r)
      ∙ ap (λ (x : Bool). round (is_root w) (start_of w fell r) ∷ cond x [] (rounds_of (is_root w) (left_by (round (is_root w) (start_of w fell r)))))
      (round_drops r (subst (λ (q : ℕ). RoundTold w fell q) z t) ∙ ap not (subst (λ (q : ℕ). some_fell w fell q ≡ false) z e))
  rounds_are (suc n) r h t e =
      let z : r + suc n ≡ suc r + n = omega arith in
      let now : RoundTold w fell r × (some_fell w fell r ≡ true) = h r (omega arith) (omega arith) in
      rounds_unfold (is_root w) (start_of w fell r)
      ∙ (ap (λ (x : Bool). round (is_root w) (start_of w fell r) ∷ cond x [] (rounds_of (is_root w) (left_by (round (is_root w) (start_of w fell r))))) (round_drops r now.0 ∙ ap not now.1)
      ∙ ap (λ (l : List Round). round (is_root w) (start_of w fell r) ∷ l)
      (ap (rounds_of (is_root w)) (round-left r now.0)
      ∙ rounds_are n (suc r) (λ q a b. h q (omega (arith, a)) (omega (arith, b))) (subst (λ (q : ℕ). RoundTold w fell q) z t) (subst (λ (q : ℕ). some_fell w fell q ≡ false) z e)))

  -- What they leave.
  pub after-rounds : (n r : ℕ) → ((q : ℕ) → r ≤ q → q < r + n → RoundTold w fell q) → after (start_of w fell r) (rounds_told w fell r n) ≡ start_of w fell (r + n)
  unfolding rounds_told after
  after-rounds zero r h = let z : r ≡ r + 0 = omega arith in ap (start_of w fell) z
  after-rounds (suc n) r h =
      let z : suc r + n ≡ r + suc n = omega arith in
      ap (λ (p : Program). after p (rounds_told w fell (suc r) n)) (round-left r (h r (omega arith) (omega arith)))
      ∙ (after-rounds n (suc r) (λ q a b. h q (omega (arith, a)) (omega (arith, b))) ∙ ap (start_of w fell) z)

module _ (w : Program) (fell : ℕ → ℕ) (n : ℕ) (t : Told w fell n) (static : residual_dispatches_dynamically w ≡ false) where
  pub begins : start_of w fell 1 ≡ w
  unfolding start_of
  begins = all-kept (is_there fell 1) w (λ j l. there-first fell j)

  pub told-rounds : rounds w ≡ rounds_told w fell 1 n
  unfolding rounds
  told-rounds =
      let m : ℕ = n - 1 in
      let e : suc m ≡ n = omega (arith, t.some) in
      let f : 1 + m ≡ n = omega (arith, t.some) in
      ap (λ (x : Bool). cond x [] (rounds_of (is_root w) w)) static
      ∙ (ap (rounds_of (is_root w)) (sym begins)
      ∙ (rounds_are w fell m 1 (λ q a b. (t.round q (omega (arith, a)) (omega (arith, b)), t.falls q (omega (arith, a)) (omega (arith, b)))) (t.round (1 + m) (omega arith) (omega (arith, t.some))) (subst (λ (q : ℕ). some_fell w fell q ≡ false) (sym f) t.last)
      ∙ ap (rounds_told w fell 1) e))

  pub told_cleaned : clean_residual_program w ≡ start_of w fell (suc n)
  unfolding clean_residual_program
  told_cleaned =
      let e : 1 + n ≡ suc n = omega arith in
      ap (after w) told-rounds
      ∙ (ap (λ (p : Program). after p (rounds_told w fell 1 n)) (sym begins)
      ∙ (after-rounds w fell n 1 (λ q a b. t.round q (omega (arith, a)) (omega (arith, b))) ∙ ap (start_of w fell) e))
