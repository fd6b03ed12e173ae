-- The final lists are those that the kept sentences and the sites that are there give.
use Prim.Native.Nat.{ℕ, suc, ◌+◌}
use mathlib.Core.Path.{◌≡◌, refl, sym, ap, ap₂, fun_ext, ◌∙◌}
use mathlib.Core.Bool.{Bool, true, false, ◌&&◌, not, cond}
use mathlib.Core.List.{List, [], ◌∷◌, ◌++◌, map, flat_map}
use Rattle.program.specs.Syntax.{Name, Terms, Sentences, empty, sentence, Function, Program}
use Rattle.program.specs.Encode.{sentence_count}
use Rattle.program.specs.Sentences.{Sentence, sentence_list}
use Rattle.patterns.specs.Search.{patterns_overlap}
use Rattle.meaning.specs.Lists.{any, all, select}
use Rattle.meaning.specs.Sites.{Site}
use Rattle.meaning.specs.Restrictions.{entering_restrictions}
use Rattle.told.specs.Numbered.{Held, sites_of}
use Rattle.meaning.proofs.Verdicts.{same-verdict}
use Rattle.meaning.specs.Cleaning.{is_disjoint, Standing, standing}
use Rattle.meaning.specs.CleanReport.{UndecidedSentence, UncoveredRestriction, is_overlap, final_standing, undecided_sentence, uncovered_restriction, undecided_of, uncovered_of, same_undecided, same_uncovered, dedup, undecided, uncovered}
use Rattle.told.specs.Kept.{kept_sentences, kept_function, kept_functions, kept_program}
use Rattle.told.specs.KeptSites.{kept_sites}
use Rattle.told.specs.Asked.{uncharacterises, restricts, is_judged}
use Rattle.told.specs.History.{numbered}
use Rattle.told.specs.ToldReport.{restrictions_at, overlaps, undecided_in, uncovered_in, judged_only, undecided_told, uncovered_told, runs_after}
use Rattle.told.proofs.KeptSites.{kept-sites}
use Rattle.told.proofs.Asked.{restrictions-any, standing_open, standing_passed, standing_judged}
use Rattle.told.proofs.ReportLists.{undecided-dedup, uncovered-dedup}

-- The sentences that are kept, by their numbers.
pub kept-numbered : (keep : ℕ → Bool) (i : ℕ) (b : Sentences) → sentence_list (kept_sentences keep i b) ≡ numbered keep i b
unfolding sentence_list kept_sentences numbered
kept-numbered keep i empty = refl
kept-numbered keep i (sentence h p c r b) = by (keep i) (kept-numbered keep (suc i) b)
  where
    x : Sentence
    x = record { head = h; pattern = p; conditions = c; result = r }

    by : (t : Bool) {m : List Sentence} → sentence_list (kept_sentences keep (suc i) b) ≡ m → sentence_list (cond t (sentence h p c r (kept_sentences keep (suc i) b)) (kept_sentences keep (suc i) b)) ≡ cond t (x ∷ m) m
    by true e = ap (λ (m : List Sentence). x ∷ m) e
    by false e = e

module _ (keep : ℕ → Bool) (sites : List Held) where
  abbrev final : Name → Standing
  final f = standing false (entering_restrictions f (kept_sites keep sites))

  -- What is listed for functions that are judged only.
  judged_only_lem : {A : Type 0} (lists : Standing → List A) → lists Standing.passed_over ≡ [] → lists Standing.uncharacterised ≡ [] → (f : Name) (l : List A) → lists (Standing.judged_by (restrictions_at keep f sites)) ≡ l
      → lists (final f) ≡ judged_only (is_judged keep f sites) l
  unfolding judged_only is_judged
  judged_only_lem {A} lists passed open-ended f l e = by (any (uncharacterises keep f) sites) (any (restricts keep f) sites) refl refl
    where
      by : (t u : Bool) → any (uncharacterises keep f) sites ≡ t → any (restricts keep f) sites ≡ u → lists (final f) ≡ judged_only (not (any (uncharacterises keep f) sites) && any (restricts keep f) sites) l
      by true u a b = ap lists (standing_open keep f sites a) ∙ (open-ended ∙ sym (ap (λ (z : Bool). judged_only (not z && any (restricts keep f) sites) l) a))
      by false true a b = ap lists (standing_judged keep f sites (ap₂ (λ (y z : Bool). not y && z) a b)) ∙ (e ∙ sym (ap₂ (λ (y z : Bool). judged_only (not y && z) l) a b))
      by false false a b = ap lists (standing_passed keep f sites a b) ∙ (passed ∙ sym (ap₂ (λ (y z : Bool). judged_only (not y && z) l) a b))

  -- Of repeats one verdict stands for all.
  overlaps-is : (f : Name) (p : Terms) → any (λ r. is_overlap (patterns_overlap p r)) (restrictions_at keep f sites) ≡ any (overlaps keep f p) sites
  unfolding overlaps
  overlaps-is f p = restrictions-any keep f sites (λ r. is_overlap (patterns_overlap p r)) (λ a b e. ap is_overlap (same-verdict p a b e))

  undecided-function : (i : ℕ) (f : Function) → undecided_of (final_standing (kept_sites keep sites) (kept_function keep i f)) (kept_function keep i f) ≡ judged_only (is_judged keep f.name sites) (undecided_in keep sites i f)
  unfolding undecided_of final_standing kept_function undecided_in undecided_sentence
  undecided-function i f =
      judged_only_lem (λ j. undecided_of j (kept_function keep i f)) refl refl f.name (undecided_in keep sites i f)
      (ap₂ (λ (test : Sentence → Bool) (l : List Sentence). map (undecided_sentence (kept_function keep i f)) (select test l)) (fun_ext (λ x. ap not (overlaps-is f.name x.pattern))) (kept-numbered keep i f.sentences))

  uncovered-function : (i : ℕ) (f : Function) → uncovered_of (final_standing (kept_sites keep sites) (kept_function keep i f)) (kept_function keep i f) ≡ judged_only (is_judged keep f.name sites) (uncovered_in keep sites i f)
  unfolding uncovered_of final_standing kept_function uncovered_in uncovered_restriction
  uncovered-function i f =
      judged_only_lem (λ j. uncovered_of j (kept_function keep i f)) refl refl f.name (uncovered_in keep sites i f)
      (ap (λ (l : List Sentence). map (uncovered_restriction (kept_function keep i f)) (select (λ r. all (λ x. is_disjoint (patterns_overlap x.pattern r)) l) (restrictions_at keep f.name sites))) (kept-numbered keep i f.sentences))

  undecided-functions : (i : ℕ) (fs : List Function) → flat_map (λ f. undecided_of (final_standing (kept_sites keep sites) f) f) (kept_functions keep i fs) ≡ undecided_told keep sites i fs
  unfolding flat_map kept_functions undecided_told
  undecided-functions i [] = refl
  undecided-functions i (f ∷ fs) = ap₂ (λ (a b : List UndecidedSentence). a ++ b) (undecided-function i f) (undecided-functions (i + sentence_count f.sentences) fs)

  uncovered-functions : (i : ℕ) (fs : List Function) → flat_map (λ f. uncovered_of (final_standing (kept_sites keep sites) f) f) (kept_functions keep i fs) ≡ uncovered_told keep sites i fs
  unfolding flat_map kept_functions uncovered_told
  uncovered-functions i [] = refl
  uncovered-functions i (f ∷ fs) = ap₂ (λ (a b : List UncoveredRestriction). a ++ b) (uncovered-function i f) (uncovered-functions (i + sentence_count f.sentences) fs)

module _ (keep : ℕ → Bool) (w : Program) where
  pub told-undecided : undecided (kept_program keep w) ≡ dedup same_undecided (undecided_told keep (sites_of w) 0 w.functions)
  unfolding undecided kept_program
  told-undecided =
      ap (λ (l : List Site). dedup same_undecided (flat_map (λ f. undecided_of (final_standing l f) f) (kept_functions keep 0 w.functions))) (sym (kept-sites keep w))
      ∙ ap (dedup same_undecided) (undecided-functions keep (sites_of w) 0 w.functions)

  pub told-uncovered : uncovered (kept_program keep w) ≡ dedup same_uncovered (uncovered_told keep (sites_of w) 0 w.functions)
  unfolding uncovered kept_program
  told-uncovered =
      ap (λ (l : List Site). dedup same_uncovered (flat_map (λ f. uncovered_of (final_standing l f) f) (kept_functions keep 0 w.functions))) (sym (kept-sites keep w))
      ∙ ap (dedup same_uncovered) (uncovered-functions keep (sites_of w) 0 w.functions)

  -- The same as a loop tells them: by the one before.
  pub undecided_runs : undecided (kept_program keep w) ≡ runs_after same_undecided [] (undecided_told keep (sites_of w) 0 w.functions)
  undecided_runs = told-undecided ∙ undecided-dedup (undecided_told keep (sites_of w) 0 w.functions)

  pub uncovered_runs : uncovered (kept_program keep w) ≡ runs_after same_uncovered [] (uncovered_told keep (sites_of w) 0 w.functions)
  uncovered_runs = told-uncovered ∙ uncovered-dedup (uncovered_told keep (sites_of w) 0 w.functions)
