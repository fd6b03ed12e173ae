-- The removed sentences are those that fell, round by round.
use Prim.Native.Nat.{ℕ, zero, suc, ◌+◌, ◌≤◌, ◌<◌}
use native.Mathlib.Omega.{arith}
use mathlib.Core.Path.{◌≡◌, refl, sym, ap, ap₂, ◌∙◌}
use mathlib.Core.Bool.{Bool, true, false, ◌&&◌, ◌||◌, not, cond, false≢true, and-eq-true_iff}
use mathlib.Core.List.{List, [], ◌∷◌, ◌++◌, map, flat_map, map-append}
use lib.Dec.{eqb, leb}
use borrow.Author.Tests.{eqb-true, eqb-false, leb-true, leb-false}
use Rattle.program.specs.Syntax.{Terms, Sentences, empty, sentence, Function, Program}
use Rattle.program.specs.Encode.{sentence_count}
use Rattle.program.specs.Sentences.{Sentence}
use Rattle.meaning.specs.Lists.{any, firsts}
use Rattle.meaning.specs.Sites.{Site}
use Rattle.meaning.specs.Restrictions.{entering_restrictions}
use Rattle.meaning.specs.Dispatch.{residual_dispatches_dynamically}
use Rattle.told.specs.Numbered.{Held, sites_of}
use Rattle.meaning.specs.Root.{root_place}
use Rattle.meaning.specs.Cleaning.{Standing, standing, change, changes, Round, round, is_root, rounds}
use Rattle.meaning.specs.Text.{format_terms}
use Rattle.meaning.specs.CleanReport.{RemovedSentence, restrictions_of, removed_sentence, removed_by, same_removed, removed}
use Rattle.told.specs.Kept.{kept_function, kept_functions, kept_program}
use Rattle.told.specs.KeptSites.{kept_sites}
use Rattle.told.specs.Asked.{meets, is_judged, is_rejected}
use Rattle.told.specs.History.{is_there, some_accepted, SentencesLeft, rejects, FunctionsLeft, RoundTold, start_of, rounds_told, numbered, Told}
use Rattle.told.specs.ToldReport.{Fallen, fallen_of, fallen_in, fallen_from, restrictions_at, removed_of, same_fallen}
use Rattle.told.proofs.KeptSites.{kept-sites}
use Rattle.told.proofs.Asked.{standing_judged}
use Rattle.told.proofs.History.{change-dropped, told-rounds}
use Rattle.told.proofs.ReportLists.{firsts-map}

-- Where a sentence is rejected, its function is judged by the restrictions that are there.
rejects-restrictions : (w : Program) (keep : ℕ → Bool) (sites : List Held) (k : ℕ) (f : Function) (p : Terms) → rejects (root_place w) keep sites k f.name p ≡ true
    → restrictions_of (standing (is_root w k f) (entering_restrictions f.name (kept_sites keep sites))) ≡ restrictions_at keep f.name sites
unfolding rejects is_root is_rejected restrictions_of
rejects-restrictions w keep sites k f p e =
    let a = (and-eq-true_iff (not (eqb k (root_place w))) (is_judged keep f.name sites && not (any (meets keep f.name p) sites))).0 e in
    let b = (and-eq-true_iff (is_judged keep f.name sites) (not (any (meets keep f.name p) sites))).0 a.1 in
    ap (λ (t : Bool). restrictions_of (standing t (entering_restrictions f.name (kept_sites keep sites)))) (turned (eqb k (root_place w)) a.0)
    ∙ ap restrictions_of (standing_judged keep f.name sites b.0)
  where
    turned : (t : Bool) → not t ≡ true → t ≡ false
    turned true h = absurd (false≢true h)
    turned false h = refl

-- From one round to the next, what goes fell in that round.
falls_then : (fell : ℕ → ℕ) (r s : ℕ) → 0 < r → (is_there fell r s && not (is_there fell (suc r) s)) ≡ eqb (fell s) r
unfolding is_there
falls_then fell r s h = by (fell s) (eqb (fell s) 0) (leb r (fell s)) (leb (suc r) (fell s)) (eqb (fell s) r) refl refl refl refl
  where
    by : (n : ℕ) (z l m e : Bool) → eqb n 0 ≡ z → leb r n ≡ l → leb (suc r) n ≡ m → eqb n r ≡ e → ((z || l) && not (z || m)) ≡ e
    by n true l m true a b c d = let x = eqb-true n 0 a in let y = eqb-true n r d in absurd (omega (arith, h, x, y))
    by n true l m false a b c d = refl
    by n false true true true a b c d = let x = leb-true (suc r) n c in let y = eqb-true n r d in absurd (omega (arith, x, y))
    by n false true true false a b c d = refl
    by n false true false true a b c d = refl
    by n false true false false a b c d = let x = leb-true r n b in let y = leb-false (suc r) n c in absurd (eqb-false n r d (omega (arith, x, y)))
    by n false false m true a b c d = let x = leb-false r n b in let y = eqb-true n r d in absurd (omega (arith, x, y))
    by n false false m false a b c d = refl

module _ (w : Program) (fell : ℕ → ℕ) (r : ℕ) (later : 0 < r) where
  abbrev keep : ℕ → Bool
  keep = is_there fell r

  abbrev next : ℕ → Bool
  next = is_there fell (suc r)

  abbrev judged : ℕ → Function → Standing
  judged k f = standing (is_root w k f) (entering_restrictions f.name (kept_sites keep (sites_of w)))

  removed_as : Function → List Terms → Sentence → RemovedSentence
  removed_as f rs x = record { function = f.name; pattern = format_terms x.pattern; restrictions = map format_terms rs }

  removed-sentences : (f : Function) (rs : List Terms) (reject : Terms → Bool) (some : Bool) → ((p : Terms) → reject p ≡ true → rs ≡ restrictions_at keep f.name (sites_of w)) → (i : ℕ) (b : Sentences)
      → SentencesLeft reject some keep next i b → map (removed_as f rs) (numbered (λ s. keep s && not (next s)) i b) ≡ map (removed_of w fell) (fallen_of fell r f i b)
  unfolding numbered fallen_of removed_of removed_as
  removed-sentences f rs reject some is i empty l = refl
  removed-sentences f rs reject some is i (sentence h p c q b) l =
      by (keep i) (next i) (reject p) some (eqb (fell i) r) (falls_then fell r i later) l.0 (is p) (numbered (λ s. keep s && not (next s)) (suc i) b) (fallen_of fell r f (suc i) b)
      (removed-sentences f rs reject some is (suc i) b l.1)
    where
      x : Sentence
      x = record { head = h; pattern = p; conditions = c; result = q }

      y : Fallen
      y = record { round = r; function = f; number = i; sentence = x }

      by : (t n u s e : Bool) → (t && not n) ≡ e → n ≡ (t && not (u && s)) → (u ≡ true → rs ≡ restrictions_at keep f.name (sites_of w)) → (xs : List Sentence) (ys : List Fallen)
          → map (removed_as f rs) xs ≡ map (removed_of w fell) ys → map (removed_as f rs) (cond (t && not n) (x ∷ xs) xs) ≡ map (removed_of w fell) (cond e (y ∷ ys) ys)
      by t n u s false a b g xs ys ih = ap (λ (z : Bool). map (removed_as f rs) (cond z (x ∷ xs) xs)) a ∙ ih
      by t n true s true a b g xs ys ih =
          ap (λ (z : Bool). map (removed_as f rs) (cond z (x ∷ xs) xs)) a
          ∙ ap₂ (λ (z : List Terms) (m : List RemovedSentence). record { function = f.name; pattern = format_terms p; restrictions = map format_terms z } ∷ m) (g refl) ih
      by true n false s true a b g xs ys ih = absurd (false≢true (sym (ap not b) ∙ a))
      by false n false s true a b g xs ys ih = absurd (false≢true a)

  removed-change : (k i : ℕ) (f : Function) → SentencesLeft (rejects (root_place w) keep (sites_of w) k f.name) (some_accepted (rejects (root_place w) keep (sites_of w) k f.name) keep i f.sentences) keep next i f.sentences
      → removed_by (change (judged k f) (kept_function keep i f)) ≡ map (removed_of w fell) (fallen_of fell r f i f.sentences)
  unfolding removed_by removed_sentence change kept_function removed_as
  removed-change k i f l =
      ap (map (removed_as f (restrictions_of (judged k f)))) (change-dropped w keep next (sites_of w) k i f l)
      ∙ removed-sentences f (restrictions_of (judged k f)) (rejects (root_place w) keep (sites_of w) k f.name) (some_accepted (rejects (root_place w) keep (sites_of w) k f.name) keep i f.sentences)
      (rejects-restrictions w keep (sites_of w) k f) i f.sentences l

  removed-functions : (k i : ℕ) (fs : List Function) → FunctionsLeft (root_place w) keep next (sites_of w) k i fs
      → flat_map removed_by (changes (is_root w) (kept_sites keep (sites_of w)) k (kept_functions keep i fs)) ≡ map (removed_of w fell) (fallen_in fell r i fs)
  unfolding flat_map changes kept_functions fallen_in kept_function is_root
  removed-functions k i [] l = refl
  removed-functions k i (f ∷ fs) l =
      ap₂ (λ (a b : List RemovedSentence). a ++ b) (removed-change k i f l.0) (removed-functions (suc k) (i + sentence_count f.sentences) fs l.1)
      ∙ sym (map-append (removed_of w fell) (fallen_of fell r f i f.sentences) (fallen_in fell r (i + sentence_count f.sentences) fs))

  removed-round : RoundTold w fell r → flat_map removed_by (round (is_root w) (start_of w fell r)).changes ≡ map (removed_of w fell) (fallen_in fell r 0 w.functions)
  unfolding round start_of kept_program
  removed-round t =
      ap (λ (l : List Site). flat_map removed_by (changes (is_root w) l 0 (kept_functions keep 0 w.functions))) (sym (kept-sites keep w)) ∙ removed-functions 0 0 w.functions t

removed-rounds : (w : Program) (fell : ℕ → ℕ) (n r : ℕ) → 0 < r → ((q : ℕ) → r ≤ q → q < r + n → RoundTold w fell q)
    → flat_map (λ x. flat_map removed_by x.changes) (rounds_told w fell r n) ≡ map (removed_of w fell) (fallen_from w fell r n)
unfolding flat_map rounds_told fallen_from
removed-rounds w fell zero r h t = refl
removed-rounds w fell (suc n) r h t =
    ap₂ (λ (a b : List RemovedSentence). a ++ b) (removed-round w fell r h (t r (omega arith) (omega arith))) (removed-rounds w fell n (suc r) (omega arith) (λ q a b. t q (omega (arith, a)) (omega (arith, b))))
    ∙ sym (map-append (removed_of w fell) (fallen_in fell r 0 w.functions) (fallen_from w fell (suc r) n))

pub told-removed : (w : Program) (fell : ℕ → ℕ) (n : ℕ) → Told w fell n → residual_dispatches_dynamically w ≡ false → removed (rounds w) ≡ map (removed_of w fell) (firsts same_fallen (fallen_from w fell 1 n))
unfolding removed same_removed same_fallen removed_of
told-removed w fell n t static =
    ap (λ (l : List Round). firsts same_removed (flat_map (λ x. flat_map removed_by x.changes) l)) (told-rounds w fell n t static)
    ∙ (ap (firsts same_removed) (removed-rounds w fell n 1 (omega arith) (λ q a b. t.round q (omega (arith, a)) (omega (arith, b)))) ∙ firsts-map same_removed (removed_of w fell) (fallen_from w fell 1 n))
