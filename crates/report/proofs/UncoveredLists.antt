-- The uncovered restrictions, as loops over functions and sites tell them.
use Prim.Native.Nat.{ℕ, zero, suc, ◌+◌, ◌-◌, ◌<◌, ◌≤◌}
use native.Mathlib.Omega.{arith}
use mathlib.Core.Path.{◌≡◌, refl, sym, ap, ap₂, ◌∙◌}
use mathlib.Core.Bool.{Bool, true, false, ◌&&◌, not, cond, and-eq-true_iff}
use mathlib.Core.List.{List, [], ◌∷◌, ◌++◌, map, flatten}
use mathlib.Core.Option.{some}
use borrow.Author.Tests.{ltb-true, ltb-false, eqb-true}
use lib.Dec.{ltb, eqb}
use lib.ListN.{get_elem?, take}
use Rattle.program.specs.Syntax.{Name, Terms, Sentences, empty, sentence, Function, Program}
use Rattle.program.specs.Encode.{sentence_count}
use Rattle.program.specs.Sentences.{Sentence, sentence_list, own_sentences}
use Rattle.patterns.specs.Ascii.{ascii}
use Rattle.patterns.specs.declared.Verdict.{Verdict}
use Rattle.patterns.specs.Search.{patterns_overlap}
use Rattle.overlap.specs.Steps as steps
use Rattle.patterns.specs.Configuration.{same_configuration}
use Rattle.meaning.specs.Lists.{all, any, select}
use Rattle.told.specs.Numbered.{Held, sentences_before, sites_of}
use Rattle.told.specs.Calls.{is_listed}
use Rattle.program.proofs.Own.{sentences-counted}
use Rattle.index.proofs.First.{Element, element_below, element_same}
use Rattle.told.specs.Asked.{restricts, is_met, is_judged}
use Rattle.meaning.specs.Cleaning.{is_disjoint}
use Rattle.meaning.specs.CleanReport.{UncoveredRestriction, same_uncovered}
use Rattle.told.specs.History.{numbered}
use Rattle.meaning.specs.Text.{format_terms}
use Rattle.told.specs.ToldReport.{uncovered_in, judged_only, uncovered_told}
use Rattle.cleaning.specs.Walks.{Owns, WitnessOf}
use Rattle.cleaning.proofs.Witnesses.{met-itself}
use Rattle.cleaning.proofs.Owned.{before-next, own_element}
use Rattle.cleaning.proofs.Walking.{and_none}
use Rattle.meaning.specs.Report.{uncovered_line}
use Rattle.report.specs.Leading.{is_leading, leading_from}
use Rattle.report.specs.Listing.{each_from, same_named, named_line}
use Rattle.report.specs.Uncovered.{uncovered_one, uncovered_named, is_uncovered, uncovered_at}
use Rattle.report.proofs.Leaders.{leading_restrictions}
use Rattle.report.proofs.Verdicts.{disjoint_same}

-- Its line, and what is a repeat of it.
pub uncovered-text : (u : UncoveredRestriction) → named_line (32 ∷ 60 ∷ 45 ∷ 32 ∷ []) (10 ∷ []) (uncovered_named u) ≡ uncovered_line u
unfolding named_line uncovered_line ascii flatten
uncovered-text u = refl

pub uncovered-repeat : (u v : UncoveredRestriction) → same_named (uncovered_named u) (uncovered_named v) ≡ same_uncovered u v
unfolding same_named same_uncovered
uncovered-repeat u v = refl

-- ---- whether a restriction is covered

pub covers_gone : (t u : Bool) → t ≡ false → false ≡ (t && u)
covers_gone t u e = sym (ap (λ (v : Bool). v && u) e)

pub covers_known : (t : Bool) → t ≡ true → (a : Terms) (y : Held) (r : Bool) → is_met a y ≡ r → r ≡ (t && not (is_disjoint (patterns_overlap a y.site.argument)))
unfolding is_met
covers_known t e a y r h = sym (ap (λ (u : Bool). u && not (is_disjoint (patterns_overlap a y.site.argument))) e ∙ h)

pub covers_asked : (t : Bool) → t ≡ true → (a b : Terms) (v : Verdict) → v ≡ patterns_overlap a b → (r : Bool) → r ≡ steps.is_disjoint v → not r ≡ (t && not (is_disjoint (patterns_overlap a b)))
covers_asked t e a b v z r k = ap not (k ∙ (disjoint_same v ∙ ap is_disjoint z)) ∙ sym (ap (λ (u : Bool). u && not (is_disjoint (patterns_overlap a b))) e)

module _ (keep : ℕ → Bool) (apart : Sentence → Bool) where
  all_none : (b : Sentences) (i : ℕ) → ((k : ℕ) (z : Sentence) → get_elem? (sentence_list b) k ≡ some z → (keep (i + k) && not (apart z)) ≡ false) → all apart (numbered keep i b) ≡ true
  unfolding all numbered sentence_list
  all_none empty i g = refl
  all_none (sentence h p c r b) i g =
      let q : i + 0 ≡ i = omega arith in
      by (keep i) (apart y) refl (ap (λ (n : ℕ). keep n && not (apart y)) (sym q) ∙ g 0 y refl) (numbered keep (suc i) b)
      (all_none b (suc i) (λ k z e. let q : suc i + k ≡ i + suc k = omega arith in ap (λ (n : ℕ). keep n && not (apart z)) q ∙ g (suc k) z e))
    where
      y : Sentence
      y = record { head = h; pattern = p; conditions = c; result = r }

      by : (t u : Bool) → apart y ≡ u → (t && not (apart y)) ≡ false → (n : List Sentence) → all apart n ≡ true → all apart (cond t (y ∷ n) n) ≡ true
      by true true e a n d = ap (λ (v : Bool). v && all apart n) e ∙ d
      by true false e a n d =
          let f : true ≡ false = sym (ap not e) ∙ a in
          let z : ◌≡◌ {A = ℕ} 0 1 = cc in absurd (omega arith)
      by false u e a n d = d

  and_nothing : (t : Bool) → (t && false) ≡ false
  and_nothing true = refl
  and_nothing false = refl

  all_found : (b : Sentences) (i k : ℕ) (z : Sentence) → get_elem? (sentence_list b) k ≡ some z → (keep (i + k) && not (apart z)) ≡ true → all apart (numbered keep i b) ≡ false
  unfolding all numbered sentence_list
  all_found empty i k z e g = let z : ◌≡◌ {A = ℕ} 0 1 = cc in absurd (omega arith)
  all_found (sentence h p c r b) i zero z e g =
      let q : i + 0 ≡ i = omega arith in
      let f : y ≡ z = element_same (y ∷ sentence_list b) 0 y z refl e in
      by (keep i) (apart y) refl (ap₂ (λ (n : ℕ) (v : Sentence). keep n && not (apart v)) (sym q) f ∙ g) (numbered keep (suc i) b)
    where
      y : Sentence
      y = record { head = h; pattern = p; conditions = c; result = r }

      by : (t u : Bool) → apart y ≡ u → (t && not (apart y)) ≡ true → (n : List Sentence) → all apart (cond t (y ∷ n) n) ≡ false
      by true true e a n =
          let f : false ≡ true = sym (ap not e) ∙ a in
          let z : ◌≡◌ {A = ℕ} 0 1 = cc in absurd (omega arith)
      by true false e a n = ap (λ (v : Bool). v && all apart n) e
      by false u e a n = let z : ◌≡◌ {A = ℕ} 0 1 = cc in absurd (omega arith)
  all_found (sentence h p c r b) i (suc k) z e g =
      let q : suc i + k ≡ i + suc k = omega arith in
      by (keep i) (numbered keep (suc i) b) (all_found b (suc i) k z e (ap (λ (n : ℕ). keep n && not (apart z)) q ∙ g))
    where
      y : Sentence
      y = record { head = h; pattern = p; conditions = c; result = r }

      by : (t : Bool) (n : List Sentence) → all apart n ≡ false → all apart (cond t (y ∷ n) n) ≡ false
      by true n d = ap (λ (v : Bool). apart y && v) d ∙ and_nothing (apart y)
      by false n d = d

-- None of the sentences of the f-th function x before s covers r.
pub record Uncovering (keep : ℕ → Bool) (w : Program) (f : ℕ) (r : Terms) (s : ℕ) : Type 0 where
  pub from : sentences_before f w.functions ≤ s
  pub none : (k : ℕ) (z : Sentence) → sentences_before f w.functions ≤ k → k < s → get_elem? (own_sentences w.functions) k ≡ some z → (keep k && not (is_disjoint (patterns_overlap z.pattern r))) ≡ false

module _ (keep : ℕ → Bool) (w : Program) (f : ℕ) (x : Function) (e : get_elem? w.functions f ≡ some x) (r : Terms) where
  abbrev apart : Sentence → Bool
  apart z = is_disjoint (patterns_overlap z.pattern r)

  pub covering_first : (s : ℕ) → s ≡ sentences_before f w.functions → Uncovering keep w f r s
  covering_first s z = record { from = omega arith; none = λ k y a b g. absurd (omega arith) }

  -- A sentence of the function that covers r.
  pub covered_by : {s : ℕ} → sentences_before f w.functions ≤ s → (z : Sentence) → get_elem? (own_sentences w.functions) s ≡ some z → s < sentences_before (suc f) w.functions → (keep s && not (is_disjoint (patterns_overlap z.pattern r))) ≡ true → is_uncovered keep x (sentences_before f w.functions) r ≡ false
  unfolding is_uncovered
  covered_by {s} from z g l h =
      let begin = sentences_before f w.functions in
      let u : begin + (s - begin) ≡ s = omega (arith, from) in
      let k = own_element w.functions f x (s - begin) e (omega (arith, from, before-next w.functions f x e)) in
      all_found keep apart x.sentences begin (s - begin) z (sym k ∙ (ap (get_elem? (own_sentences w.functions)) u ∙ g)) (ap (λ (n : ℕ). keep n && not (apart z)) u ∙ h)

  module _ {s : ℕ} (a : Uncovering keep w f r s) where
    pub covering_next : (z : Sentence) → get_elem? (own_sentences w.functions) s ≡ some z → (keep s && not (is_disjoint (patterns_overlap z.pattern r))) ≡ false → Uncovering keep w f r (s + 1)
    covering_next z g h = record { from = omega (arith, a.from); none = λ k y u v q. by k y u v q (ltb k s) refl }
      where
        by : (k : ℕ) (y : Sentence) → sentences_before f w.functions ≤ k → k < s + 1 → get_elem? (own_sentences w.functions) k ≡ some y → (t : Bool) → ltb k s ≡ t → (keep k && not (apart y)) ≡ false
        by k y u v q true t = a.none k y u (ltb-true k s t) q
        by k y u v q false t =
            let n : k ≡ s = omega (arith, ltb-false k s t) in
            let m : y ≡ z = element_same (own_sentences w.functions) s y z (rw n at q) g in
            ap₂ (λ (i : ℕ) (j : Sentence). keep i && not (apart j)) n m ∙ h

    pub covering_found : (z : Sentence) → get_elem? (own_sentences w.functions) s ≡ some z → s < sentences_before (suc f) w.functions → (keep s && not (is_disjoint (patterns_overlap z.pattern r))) ≡ true → is_uncovered keep x (sentences_before f w.functions) r ≡ false
    covering_found z g l h = covered_by a.from z g l h

    pub covering_end : sentences_before (suc f) w.functions ≤ s → is_uncovered keep x (sentences_before f w.functions) r ≡ true
    unfolding is_uncovered
    covering_end l =
        let begin = sentences_before f w.functions in
        all_none keep apart x.sentences begin (λ k z g.
        let v : k < sentence_count x.sentences = omega (arith, element_below (sentence_list x.sentences) k z g, sentences-counted x.sentences) in
        a.none (begin + k) z (omega arith) (omega (arith, before-next w.functions f x e)) (own_element w.functions f x k e v ∙ g))

-- The site i is the witness of the sentence s of the f-th function x, which is left: it covers the site's argument.
pub witness_covers : (keep : ℕ → Bool) (w : Program) (f : ℕ) (x : Function) (e : get_elem? w.functions f ≡ some x) (i : ℕ) (y : Held) → get_elem? (sites_of w) i ≡ some y → {s d : ℕ} (z : Element (own_sentences w.functions) s) → sentences_before f w.functions ≤ s → s < sentences_before (suc f) w.functions
    → ((u : Sentence) → Owns w f x s u → WitnessOf keep x.name u.pattern (sites_of w) d) → (keep s && eqb d (i + 1)) ≡ true → is_uncovered keep x (sentences_before f w.functions) y.site.argument ≡ false
witness_covers keep w f x e i y g {s} {d} z a b h t =
    let q = (and-eq-true_iff (keep s) (eqb d (i + 1))).0 t in
    let o : Owns w f x s z.element = record { function = e; sentence = z.is; from = a; upto = b } in
    covered_by keep w f x e y.site.argument a z.element z.is b
    (sym (covers_known (keep s) q.0 z.element.pattern y true (met-itself keep x.name z.element.pattern (sites_of w) d (h z.element o) i y g (omega (arith, eqb-true d (i + 1) q.1)))))

-- ---- the candidates of a site, of a function, of functions

-- A site that is not listed does not lead.
leading_not : (keep : ℕ → Bool) (f : Name) (sites : List Held) (i : ℕ) (y : Held) → is_listed true f y ≡ false → is_leading keep f sites i y ≡ false
unfolding is_leading restricts
leading_not keep f sites i y e = ap (λ (t : Bool). t && not (any (λ z. restricts keep f z && same_configuration z.site.argument y.site.argument) (take i sites))) (and_none (is_listed true f y) (keep y.sentence) e)

-- A site that leads is there.
pub leading_there : (keep : ℕ → Bool) (f : Name) (sites : List Held) (i : ℕ) (y : Held) → is_leading keep f sites i y ≡ true → keep y.sentence ≡ true
unfolding is_leading restricts
leading_there keep f sites i y e =
    let a = (and-eq-true_iff (keep y.sentence && is_listed true f y) (not (any (λ z. restricts keep f z && same_configuration z.site.argument y.site.argument) (take i sites)))).0 e in
    ((and-eq-true_iff (keep y.sentence) (is_listed true f y)).0 a.0).0

module _ (keep : ℕ → Bool) (sites : List Held) where
  module _ (x : Function) (k i : ℕ) (y : Held) where
    pub not_leading : is_leading keep x.name sites i y ≡ false → [] ≡ uncovered_at keep sites x k i y
    unfolding uncovered_at
    not_leading e = sym (ap (λ (t : Bool). cond (t && is_uncovered keep x k y.site.argument) (uncovered_one x y ∷ []) []) e)

    pub not_listed : is_listed true x.name y ≡ false → uncovered_at keep sites x k i y ≡ []
    not_listed e = sym (not_leading (leading_not keep x.name sites i y e))

    pub is_covered : is_uncovered keep x k y.site.argument ≡ false → [] ≡ uncovered_at keep sites x k i y
    unfolding uncovered_at
    is_covered e = by (is_leading keep x.name sites i y) ∙ sym (ap (λ (t : Bool). cond (is_leading keep x.name sites i y && t) (uncovered_one x y ∷ []) []) e)
      where
        by : (t : Bool) → [] ≡ cond (t && false) (uncovered_one x y ∷ []) []
        by true = refl
        by false = refl

    pub is_candidate : is_leading keep x.name sites i y ≡ true → is_uncovered keep x k y.site.argument ≡ true → uncovered_one x y ∷ [] ≡ uncovered_at keep sites x k i y
    unfolding uncovered_at
    is_candidate e g = sym (ap₂ (λ (t u : Bool). cond (t && u) (uncovered_one x y ∷ []) []) e g)

  module _ (x : Function) (k : ℕ) where
    abbrev test : Terms → Bool
    test r = is_uncovered keep x k r

    abbrev one : Terms → UncoveredRestriction
    one r = record { function = x.name; input = format_terms r }

    by_leading : (rest : List Held) (i : ℕ) → map one (select test (leading_from keep x.name sites i rest)) ≡ each_from (uncovered_at keep sites x k) i rest
    unfolding leading_from select each_from uncovered_at
    by_leading [] i = refl
    by_leading (y ∷ rest) i = by (is_leading keep x.name sites i y) (test a) refl (leading_from keep x.name sites (suc i) rest) (by_leading rest (suc i))
      where
        a : Terms
        a = y.site.argument

        by : (t u : Bool) → test a ≡ u → (n : List Terms) {m : List UncoveredRestriction} → map one (select test n) ≡ m → map one (select test (cond t (a ∷ n) n)) ≡ cond (t && test a) (one a ∷ []) [] ++ m
        by true true e n {m} g = ap (λ (v : Bool). map one (cond v (a ∷ select test n) (select test n))) e ∙ (ap (λ (l : List UncoveredRestriction). one a ∷ l) g ∙ sym (ap (λ (v : Bool). cond v (one a ∷ []) [] ++ m) e))
        by true false e n {m} g = ap (λ (v : Bool). map one (cond v (a ∷ select test n) (select test n))) e ∙ (g ∙ sym (ap (λ (v : Bool). cond v (one a ∷ []) [] ++ m) e))
        by false u e n g = g

    pub uncovered_each : each_from (uncovered_at keep sites x k) 0 sites ≡ uncovered_in keep sites k x
    unfolding uncovered_in is_uncovered
    uncovered_each = sym (ap (λ (l : List Terms). map one (select test l)) (leading_restrictions keep x.name sites) ∙ by_leading sites 0)

  abbrev pub of_function : (ℕ → ℕ) → ℕ → Function → List UncoveredRestriction
  of_function first k x = judged_only (is_judged keep x.name sites) (uncovered_in keep sites (first k) x)

  by_function : (fs : List Function) (first : ℕ → ℕ) (k i : ℕ) → ((j : ℕ) → first (k + j) ≡ i + sentences_before j fs) → each_from (of_function first) k fs ≡ uncovered_told keep sites i fs
  unfolding each_from uncovered_told sentences_before
  by_function [] first k i h = refl
  by_function (x ∷ fs) first k i h =
      let a : k + 0 ≡ k = omega arith in
      let e : first k ≡ i = ap first (sym a) ∙ (h 0 ∙ omega arith) in
      ap₂ (λ (n : ℕ) (l : List UncoveredRestriction). judged_only (is_judged keep x.name sites) (uncovered_in keep sites n x) ++ l) e
      (by_function fs first (suc k) (i + sentence_count x.sentences) (λ j. let z : suc k + j ≡ k + suc j = omega arith in ap first z ∙ (h (suc j) ∙ omega arith)))

  pub told_each : (fs : List Function) → each_from (of_function (λ k. sentences_before k fs)) 0 fs ≡ uncovered_told keep sites 0 fs
  told_each fs = by_function fs (λ k. sentences_before k fs) 0 0 (λ j. let z : 0 + j ≡ j = omega arith in ap (λ (k : ℕ). sentences_before k fs) z ∙ omega arith)
