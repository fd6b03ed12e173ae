-- What the loops over a function's sentences, and over functions, keep.
use Rattle.std.specs.Prelude.{Option, None}
use Rattle.report.specs.declared.listing.Candidate.{Candidate}
use Prim.Native.Nat.{ℕ, suc, ◌+◌, ◌*◌, ◌-◌, ◌<◌, ◌≤◌}
use native.Mathlib.Omega.{arith}
use mathlib.Core.Path.{◌≡◌, refl, sym, ap, ◌∙◌}
use mathlib.Core.Bool.{Bool}
use mathlib.Core.List.{List, [], ◌++◌}
use mathlib.Core.Option.{some}
use lib.ListN.{length, get_elem?, take}
use Rattle.program.specs.Syntax.{Function, Program}
use Rattle.program.specs.Encode.{sentence_count}
use Rattle.program.specs.Sentences.{Sentence, sentence_list, own_sentences}
use Rattle.program.proofs.Own.{sentences-counted}
use Rattle.told.specs.Numbered.{sentences_before, sites_of}
use Rattle.meaning.specs.CleanReport.{UndecidedSentence}
use Rattle.told.specs.ToldReport.{undecided_in, undecided_told}
use Rattle.cleaning.proofs.Owned.{before-next, own_element}
use Rattle.text.specs.declared.writer.Writer.{Writer}
use Rattle.report.specs.Listing.{each_from}
use Rattle.report.specs.Undecided.{undecided_named, undecided_at, Undecided}
use Rattle.report.proofs.Telling.{listing-nothing, listing-append, listing-same, each_next, each_all}
use Rattle.report.proofs.UndecidedLists.{undecided_each, of_function, told_each}

-- The sentences before s of the f-th function x are told.
pub record InFunction (keep : ℕ → Bool) (b : List ℕ) (w : Program) (f : ℕ) (x : Function) (out₀ : Writer) (count₀ : ℕ) (last₀ : Option Candidate) (s : ℕ) (out : Writer) (count : ℕ) (last : Option Candidate) : Type 0 where
  pub from : sentences_before f w.functions ≤ s
  pub upto : s ≤ sentences_before (suc f) w.functions
  pub told : Undecided b w (each_from (undecided_at keep (sites_of w) x) (sentences_before f w.functions) (take (s - sentences_before f w.functions) (sentence_list x.sentences))) out₀ count₀ last₀ out count last
  pub short : out.filled + 80000 * sentences_before f w.functions ≤ out₀.filled + 80000 * s

module _ (keep : ℕ → Bool) (b : List ℕ) (w : Program) (f : ℕ) (x : Function) (e : get_elem? w.functions f ≡ some x) where
  abbrev each : ℕ → Sentence → List UndecidedSentence
  each = undecided_at keep (sites_of w) x

  abbrev own : List Sentence
  own = sentence_list x.sentences

  abbrev begin : ℕ
  begin = sentences_before f w.functions

  none_yet : (n : ℕ) → n ≡ 0 → [] ≡ each_from each begin (take n own)
  unfolding each_from
  none_yet n z = sym (ap (λ (k : ℕ). each_from each begin (take k own)) z)

  pub in_first : (s : ℕ) → s ≡ sentences_before f w.functions → (out : Writer) (count : ℕ) (last : Option Candidate) → InFunction keep b w f x out count last s out count last
  in_first s z out count last = record {
    from = omega arith;
    upto = omega (arith, before-next w.functions f x e);
    told = listing-same undecided_named (none_yet (s - begin) (omega arith)) (listing-nothing last out count);
    short = omega arith;
  }

  module _ {out₀ : Writer} {count₀ : ℕ} {last₀ : Option Candidate} {s : ℕ} {out : Writer} {count : ℕ} {last : Option Candidate} (a : InFunction keep b w f x out₀ count₀ last₀ s out count last) where
    pub in_next : (y : Sentence) → get_elem? (own_sentences w.functions) s ≡ some y → s < sentences_before (suc f) w.functions → {out₁ : Writer} {count₁ : ℕ} {last₁ : Option Candidate}
        → Undecided b w (undecided_at keep (sites_of w) x s y) out count last out₁ count₁ last₁ → out₁.filled ≤ out.filled + 80000 → InFunction keep b w f x out₀ count₀ last₀ (s + 1) out₁ count₁ last₁
    in_next y h l t b =
        let n = s - begin in
        let u : begin + n ≡ s = omega (arith, a.from) in
        let v : n < sentence_count x.sentences = omega (arith, a.from, before-next w.functions f x e) in
        let k : get_elem? own n ≡ some y = sym (own_element w.functions f x n e v) ∙ (ap (get_elem? (own_sentences w.functions)) u ∙ h) in
        let q : suc n ≡ s + 1 - begin = omega (arith, a.from) in
        let z : each_from each begin (take n own) ++ each s y ≡ each_from each begin (take (s + 1 - begin) own)
        = ap (λ (j : ℕ). each_from each begin (take n own) ++ each j y) (sym u) ∙ (sym (each_next each own n begin y k) ∙ ap (λ (j : ℕ). each_from each begin (take j own)) q) in
        record {
          from = omega (arith, a.from);
          upto = omega arith;
          told = listing-same undecided_named z (listing-append undecided_named (each_from each begin (take n own)) (each s y) a.told t);
          short = omega (arith, a.short);
        }

    pub in_end : sentences_before (suc f) w.functions ≤ s → Undecided b w (undecided_in keep (sites_of w) (sentences_before f w.functions) x) out₀ count₀ last₀ out count last
    in_end h =
        listing-same undecided_named
        (each_all each own (s - begin) begin (omega (arith, sentences-counted x.sentences, before-next w.functions f x e)) ∙ undecided_each keep (sites_of w) x begin) a.told

-- The functions before f are told.
pub record OverFunctions (keep : ℕ → Bool) (b : List ℕ) (w : Program) (out₀ : Writer) (f : ℕ) (out : Writer) (count : ℕ) (last : Option Candidate) : Type 0 where
  pub told : Undecided b w (each_from (of_function keep (sites_of w) (λ k. sentences_before k w.functions)) 0 (take f w.functions)) out₀ 0 None out count last
  pub short : out.filled ≤ out₀.filled + 80000 * sentences_before f w.functions

module _ (keep : ℕ → Bool) (b : List ℕ) (w : Program) (out₀ : Writer) where
  abbrev all_of : ℕ → Function → List UndecidedSentence
  all_of = of_function keep (sites_of w) (λ k. sentences_before k w.functions)

  none_told : [] ≡ each_from all_of 0 (take 0 w.functions)
  unfolding each_from
  none_told = refl

  pub over_first : OverFunctions keep b w out₀ 0 out₀ 0 None
  over_first = record {
    told = listing-same undecided_named none_told (listing-nothing None out₀ 0);
    short = omega arith;
  }

  module _ {f : ℕ} {out : Writer} {count : ℕ} {last : Option Candidate} (a : OverFunctions keep b w out₀ f out count last) where
    pub over_next : (x : Function) → get_elem? w.functions f ≡ some x → {out₁ : Writer} {count₁ : ℕ} {last₁ : Option Candidate}
        → Undecided b w (of_function keep (sites_of w) (λ k. sentences_before k w.functions) f x) out count last out₁ count₁ last₁
        → out₁.filled + 80000 * sentences_before f w.functions ≤ out.filled + 80000 * sentences_before (suc f) w.functions → OverFunctions keep b w out₀ (f + 1) out₁ count₁ last₁
    over_next x e t b =
        let q : suc f ≡ f + 1 = omega arith in
        let u : f ≡ 0 + f = omega arith in
        let z : each_from all_of 0 (take f w.functions) ++ all_of f x ≡ each_from all_of 0 (take (f + 1) w.functions)
        = ap (λ (j : ℕ). each_from all_of 0 (take f w.functions) ++ all_of j x) u ∙ (sym (each_next all_of w.functions f 0 x e) ∙ ap (λ (j : ℕ). each_from all_of 0 (take j w.functions)) q) in
        record {
          told = listing-same undecided_named z (listing-append undecided_named (each_from all_of 0 (take f w.functions)) (all_of f x) a.told t);
          short = omega (arith, a.short, ap (λ (j : ℕ). sentences_before j w.functions) q);
        }

    pub over_end : length w.functions ≤ f → Undecided b w (undecided_told keep (sites_of w) 0 w.functions) out₀ 0 None out count last
    over_end h = listing-same undecided_named (each_all all_of w.functions f 0 h ∙ told_each keep (sites_of w) w.functions) a.told
