-- The undecided sentences, as loops over functions and sentences tell them.
use Prim.Native.Nat.{ℕ, suc, ◌+◌}
use native.Mathlib.Omega.{arith}
use mathlib.Core.Path.{◌≡◌, refl, sym, ap, ap₂, ◌∙◌}
use mathlib.Core.Bool.{Bool, true, false, ◌&&◌, not, cond}
use mathlib.Core.List.{List, [], ◌∷◌, ◌++◌, map, flatten}
use Rattle.program.specs.Syntax.{Sentences, empty, sentence, Function}
use Rattle.program.specs.Encode.{sentence_count}
use Rattle.program.specs.Sentences.{Sentence, sentence_list}
use Rattle.patterns.specs.Ascii.{ascii}
use Rattle.meaning.specs.Lists.{any, select}
use Rattle.told.specs.Numbered.{Held, sentences_before}
use Rattle.told.specs.Asked.{is_judged}
use Rattle.meaning.specs.CleanReport.{UndecidedSentence, same_undecided}
use Rattle.told.specs.History.{numbered}
use Rattle.told.specs.ToldReport.{overlaps, undecided_in, judged_only, undecided_told}
use Rattle.meaning.specs.Report.{undecided_line}
use Rattle.report.specs.Listing.{each_from, same_named, named_line}
use Rattle.report.specs.Notes.{open_at}
use Rattle.report.specs.Undecided.{undecided_one, undecided_named, undecided_at}

-- Its line, and what is a repeat of it.
pub undecided-text : (u : UndecidedSentence) → named_line (32 ∷ 123 ∷ []) (125 ∷ 10 ∷ []) (undecided_named u) ≡ undecided_line u
unfolding named_line undecided_line ascii flatten
undecided-text u = refl

pub undecided-repeat : (u v : UndecidedSentence) → same_named (undecided_named u) (undecided_named v) ≡ same_undecided u v
unfolding same_named same_undecided
undecided-repeat u v = refl

-- ---- the candidates of a sentence, of a function, of functions

module _ (keep : ℕ → Bool) (sites : List Held) where
  module _ (x : Function) (s : ℕ) (y : Sentence) where
    pub not_open : open_at keep sites x s y ≡ false → [] ≡ undecided_at keep sites x s y
    unfolding open_at undecided_at
    not_open e = sym (ap (λ (t : Bool). cond t (undecided_one x y ∷ []) []) e)

    pub is_open_lem : open_at keep sites x s y ≡ true → undecided_one x y ∷ [] ≡ undecided_at keep sites x s y
    unfolding open_at undecided_at
    is_open_lem e = sym (ap (λ (t : Bool). cond t (undecided_one x y ∷ []) []) e)

  module _ (x : Function) where
    abbrev test : Sentence → Bool
    test y = not (any (overlaps keep x.name y.pattern) sites)

    by_number : (i : ℕ) (b : Sentences) → map (undecided_one x) (select test (numbered keep i b)) ≡ each_from (undecided_at keep sites x) i (sentence_list b)
    unfolding numbered select sentence_list each_from undecided_at
    by_number i empty = refl
    by_number i (sentence h p c r b) = by (keep i) (test y) refl (numbered keep (suc i) b) (by_number (suc i) b)
      where
        y : Sentence
        y = record { head = h; pattern = p; conditions = c; result = r }

        by : (t u : Bool) → test y ≡ u → (n : List Sentence) {m : List UndecidedSentence} → map (undecided_one x) (select test n) ≡ m → map (undecided_one x) (select test (cond t (y ∷ n) n)) ≡ cond (t && test y) (undecided_one x y ∷ []) [] ++ m
        by true true e n {m} g =
            ap (λ (v : Bool). map (undecided_one x) (cond v (y ∷ select test n) (select test n))) e ∙ (ap (λ (l : List UndecidedSentence). undecided_one x y ∷ l) g ∙ sym (ap (λ (v : Bool). cond v (undecided_one x y ∷ []) [] ++ m) e))
        by true false e n {m} g =
            ap (λ (v : Bool). map (undecided_one x) (cond v (y ∷ select test n) (select test n))) e ∙ (g ∙ sym (ap (λ (v : Bool). cond v (undecided_one x y ∷ []) [] ++ m) e))
        by false u e n g = g

    pub undecided_each : (i : ℕ) → each_from (undecided_at keep sites x) i (sentence_list x.sentences) ≡ undecided_in keep sites i x
    unfolding undecided_in
    undecided_each i = sym (by_number i x.sentences)

  abbrev pub of_function : (ℕ → ℕ) → ℕ → Function → List UndecidedSentence
  of_function first k x = judged_only (is_judged keep x.name sites) (undecided_in keep sites (first k) x)

  by_function : (fs : List Function) (first : ℕ → ℕ) (k i : ℕ) → ((j : ℕ) → first (k + j) ≡ i + sentences_before j fs) → each_from (of_function first) k fs ≡ undecided_told keep sites i fs
  unfolding each_from undecided_told sentences_before
  by_function [] first k i h = refl
  by_function (x ∷ fs) first k i h =
      let a : k + 0 ≡ k = omega arith in
      let e : first k ≡ i = ap first (sym a) ∙ (h 0 ∙ omega arith) in
      ap₂ (λ (n : ℕ) (l : List UndecidedSentence). judged_only (is_judged keep x.name sites) (undecided_in keep sites n x) ++ l) e
      (by_function fs first (suc k) (i + sentence_count x.sentences) (λ j. let z : suc k + j ≡ k + suc j = omega arith in ap first z ∙ (h (suc j) ∙ omega arith)))

  pub told_each : (fs : List Function) → each_from (of_function (λ k. sentences_before k fs)) 0 fs ≡ undecided_told keep sites 0 fs
  told_each fs = by_function fs (λ k. sentences_before k fs) 0 0 (λ j. let z : 0 + j ≡ j = omega arith in ap (λ (k : ℕ). sentences_before k fs) z ∙ omega arith)
