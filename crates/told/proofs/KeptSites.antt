-- The sites of the program that is left are those of the whole whose sentence is kept, in the same order: so a round need not collect them again.
use Prim.Native.Nat.{ℕ, suc, ◌+◌}
use native.Mathlib.Omega.{arith}
use mathlib.Core.Path.{◌≡◌, refl, sym, ap, ◌∙◌}
use mathlib.Core.Bool.{Bool, true, false, cond}
use mathlib.Core.List.{List, [], ◌∷◌, ◌++◌, append_assoc}
use lib.ListN.{length}
use Rattle.program.specs.Syntax.{Sentences, empty, sentence, Function, Program}
use Rattle.program.specs.Encode.{sentence_count}
use Rattle.program.specs.Sentences.{Sentence, sentence_list, own_sentences}
use Rattle.meaning.specs.Sites.{Site, collect_call_sites, condition_sites, sentence_sites, function_sites, program_sites}
use Rattle.told.specs.Numbered.{Held, held_by, own_sites, held_sites}
use Rattle.program.proofs.Own.{sentences-counted}
use Rattle.told.specs.Kept.{kept_sentences, kept_function, kept_functions, kept_program}
use Rattle.told.specs.KeptSites.{kept_sites}

kept_append : (keep : ℕ → Bool) (xs ys : List Held) → kept_sites keep (xs ++ ys) ≡ kept_sites keep xs ++ kept_sites keep ys
unfolding kept_sites
kept_append keep [] ys = refl
kept_append keep (x ∷ xs) ys = by (keep x.sentence) (kept_append keep xs ys)
  where
    by : (t : Bool) → kept_sites keep (xs ++ ys) ≡ kept_sites keep xs ++ kept_sites keep ys
        → cond t (x.site ∷ kept_sites keep (xs ++ ys)) (kept_sites keep (xs ++ ys)) ≡ cond t (x.site ∷ kept_sites keep xs) (kept_sites keep xs) ++ kept_sites keep ys
    by true e = ap (λ (l : List Site). x.site ∷ l) e
    by false e = e

-- Those of one sentence are kept all together.
kept-held : (keep : ℕ → Bool) (k : ℕ) (xs : List Site) → kept_sites keep (held_by k xs) ≡ cond (keep k) xs []
unfolding kept_sites held_by
kept-held keep k [] = by (keep k)
  where
    none : List Site
    none = []

    by : (t : Bool) → none ≡ cond t none none
    by true = refl
    by false = refl
kept-held keep k (x ∷ xs) = by (keep k) (kept-held keep k xs)
  where
    by : (t : Bool) → kept_sites keep (held_by k xs) ≡ cond t xs [] → cond t (x ∷ kept_sites keep (held_by k xs)) (kept_sites keep (held_by k xs)) ≡ cond t (x ∷ xs) []
    by true e = ap (λ (l : List Site). x ∷ l) e
    by false e = e

-- Sentences after others are numbered after them.
held-append : (k n : ℕ) (xs ys : List Sentence) → n ≡ k + length xs → held_sites k (xs ++ ys) ≡ held_sites k xs ++ held_sites n ys
unfolding held_sites
held-append k n [] ys e = ap (λ (m : ℕ). held_sites m ys) (omega (arith, e))
held-append k n (x ∷ xs) ys e =
    ap (λ (l : List Held). held_by k (own_sites x) ++ l) (held-append (suc k) n xs ys (omega (arith, e))) ∙ sym (append_assoc (held_by k (own_sites x)) (held_sites (suc k) xs) (held_sites n ys))

kept-sentence_sites : (keep : ℕ → Bool) (k : ℕ) (b : Sentences) → kept_sites keep (held_sites k (sentence_list b)) ≡ sentence_sites (kept_sentences keep k b)
unfolding kept_sites held_sites sentence_list sentence_sites kept_sentences own_sites
kept-sentence_sites keep k empty = refl
kept-sentence_sites keep k (sentence h p c r b) =
    kept_append keep (held_by k own) (held_sites (suc k) (sentence_list b))
    ∙ (ap (λ (l : List Site). l ++ kept_sites keep (held_sites (suc k) (sentence_list b))) (kept-held keep k own)
    ∙ (ap (λ (l : List Site). cond (keep k) own [] ++ l) (kept-sentence_sites keep (suc k) b) ∙ by (keep k)))
  where
    own : List Site
    own = collect_call_sites p ++ (collect_call_sites r ++ condition_sites c)

    left : Sentences
    left = kept_sentences keep (suc k) b

    by : (t : Bool) → cond t own [] ++ sentence_sites left ≡ sentence_sites (cond t (sentence h p c r left) left)
    by true = append_assoc (collect_call_sites p) (collect_call_sites r ++ condition_sites c) (sentence_sites left)
        ∙ ap (λ (l : List Site). collect_call_sites p ++ l) (append_assoc (collect_call_sites r) (condition_sites c) (sentence_sites left))
    by false = refl

kept-function_sites : (keep : ℕ → Bool) (k : ℕ) (fs : List Function) → kept_sites keep (held_sites k (own_sentences fs)) ≡ function_sites (kept_functions keep k fs)
unfolding kept_sites held_sites own_sentences function_sites kept_functions kept_function
kept-function_sites keep k [] = refl
kept-function_sites keep k (f ∷ fs) =
    let own : List Held = held_sites k (sentence_list f.sentences) in
    let after : List Held = held_sites (k + sentence_count f.sentences) (own_sentences fs) in
    ap (kept_sites keep) (held-append k (k + sentence_count f.sentences) (sentence_list f.sentences) (own_sentences fs) (omega (arith, sentences-counted f.sentences)))
    ∙ (kept_append keep own after
    ∙ (ap (λ (l : List Site). l ++ kept_sites keep after) (kept-sentence_sites keep k f.sentences)
    ∙ ap (λ (l : List Site). sentence_sites (kept_sentences keep k f.sentences) ++ l) (kept-function_sites keep (k + sentence_count f.sentences) fs)))

pub kept-sites : (keep : ℕ → Bool) (w : Program) → kept_sites keep (held_sites 0 (own_sentences w.functions)) ≡ program_sites (kept_program keep w)
unfolding program_sites kept_program
kept-sites keep w = kept-function_sites keep 0 w.functions
