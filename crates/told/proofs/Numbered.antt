-- Sites with the numbers of their sentences are the sites of the program, in the same order.
use Prim.Native.Nat.{ℕ, suc}
use mathlib.Core.Path.{◌≡◌, refl, sym, ap, ◌∙◌}
use mathlib.Core.List.{List, [], ◌∷◌, ◌++◌, map, append_assoc}
use lib.ListN.{length, length-map}
use Rattle.program.specs.Syntax.{Sentences, empty, sentence, Function}
use Rattle.program.specs.Sentences.{Sentence, sentence_list, own_sentences}
use Rattle.meaning.specs.Sites.{Site, collect_call_sites, condition_sites, sentence_sites, function_sites}
use Rattle.told.specs.Numbered.{Held, held_by, own_sites, held_sites}

abbrev site_of : Held → Site
site_of x = x.site

held-sites : (k : ℕ) (l : List Site) (m : List Held) → map site_of (held_by k l ++ m) ≡ l ++ map site_of m
unfolding held_by
held-sites k [] m = refl
held-sites k (x ∷ l) m = ap (λ (r : List Site). x ∷ r) (held-sites k l m)

all_sites : List Sentence → List Site
all_sites [] = []
all_sites (x ∷ xs) = own_sites x ++ all_sites xs

all_held : (k : ℕ) (xs : List Sentence) → map site_of (held_sites k xs) ≡ all_sites xs
unfolding held_sites all_sites
all_held k [] = refl
all_held k (x ∷ xs) = held-sites k (own_sites x) (held_sites (suc k) xs) ∙ ap (λ (l : List Site). own_sites x ++ l) (all_held (suc k) xs)

all_append : (xs ys : List Sentence) → all_sites (xs ++ ys) ≡ all_sites xs ++ all_sites ys
unfolding all_sites
all_append [] ys = refl
all_append (x ∷ xs) ys = ap (λ (l : List Site). own_sites x ++ l) (all_append xs ys) ∙ sym (append_assoc (own_sites x) (all_sites xs) (all_sites ys))

all-sentences : (b : Sentences) → all_sites (sentence_list b) ≡ sentence_sites b
unfolding all_sites sentence_list sentence_sites own_sites
all-sentences empty = refl
all-sentences (sentence h p c r b) =
    ap (λ (l : List Site). (collect_call_sites p ++ (collect_call_sites r ++ condition_sites c)) ++ l) (all-sentences b)
    ∙ (append_assoc (collect_call_sites p) (collect_call_sites r ++ condition_sites c) (sentence_sites b) ∙ ap (λ (l : List Site). collect_call_sites p ++ l) (append_assoc (collect_call_sites r) (condition_sites c) (sentence_sites b)))

all-functions : (fs : List Function) → all_sites (own_sentences fs) ≡ function_sites fs
unfolding all_sites own_sentences function_sites
all-functions [] = refl
all-functions (f ∷ fs) =
    all_append (sentence_list f.sentences) (own_sentences fs) ∙ (ap (λ (l : List Site). l ++ all_sites (own_sentences fs)) (all-sentences f.sentences) ∙ ap (λ (l : List Site). sentence_sites f.sentences ++ l) (all-functions fs))

pub numbered-sites : (k : ℕ) (fs : List Function) → map (λ x. x.site) (held_sites k (own_sentences fs)) ≡ function_sites fs
numbered-sites k fs = all_held k (own_sentences fs) ∙ all-functions fs

pub numbered-length : (k : ℕ) (fs : List Function) → length (held_sites k (own_sentences fs)) ≡ length (function_sites fs)
numbered-length k fs = sym (length-map (held_sites k (own_sentences fs)) site_of) ∙ ap length (numbered-sites k fs)
