-- Judging a function's sentences, one after another: what their witnesses say, and what is left as it was.
use Prim.Native.Nat.{ℕ, suc, ◌+◌, ◌%◌, ◌<◌, ◌≤◌}
use native.Mathlib.Omega.{arith}
use mathlib.Core.Path.{◌≡◌, refl, sym, ap, subst, ◌∙◌}
use mathlib.Core.Bool.{Bool, true, false, ◌&&◌, ◌||◌, not, true≢false, false≢true}
use mathlib.Core.List.{List}
use mathlib.Core.Option.{some}
use lib.Dec.{eqb, ltb}
use lib.ListN.{length, get_or, get_elem?}
use borrow.Author.Tests.{eqb-true, eqb-false, ltb-true, ltb-false}
use Rattle.program.specs.Syntax.{Function, Program}
use Rattle.program.specs.Sentences.{Sentence, own_sentences}
use Rattle.program.proofs.Own.{own-counted}
use Rattle.index.specs.declared.Plan.{Plan}
use Rattle.index.specs.Layout.{lines, witnesses}
use Rattle.told.specs.Numbered.{sentences_before, sites_of}
use Rattle.index.proofs.First.{Element, element_at, element_below, element_same}
use Rattle.told.specs.History.{is_there}
use Rattle.cleaning.specs.Indexed.{Indexed, fell_of, OnlyRounds}
use Rattle.cleaning.specs.Walks.{Owns, OneColumn, ColumnsApart, WitnessOf, Witnessed, StillMet, SomeOwned}
use Rattle.cleaning.specs.RoundDone.{is_spent, is_met_by, OneMet, JudgedUpto, SentenceJudged}
use Rattle.cleaning.proofs.Indexed.{only_rounds_indexed, fell-from}
use Rattle.cleaning.proofs.Owned.{before-later, before_most}

-- ---- one sentence

pub none_first : (t u : Bool) → (t || u) ≡ false → t ≡ false
none_first true u e = absurd (true≢false e)
none_first false u e = refl

pub none-second : (t u : Bool) → (t || u) ≡ false → u ≡ false
none-second true u e = absurd (true≢false e)
none-second false u e = e

module _ (w : Program) (keep : ℕ → Bool) (m : List ℕ) (p : Plan) (x : Function) (s : ℕ) (y : Sentence) where
  -- It is not there: nothing is asked.
  pub judged_gone : keep s ≡ false → WitnessOf keep x.name y.pattern (sites_of w) (get_or m (witnesses p + s) 0) → SentenceJudged w keep m p x s y false
  judged_gone e a = record {
    witness = a;
    spent = λ t. absurd (false≢true (sym e ∙ t));
    answer = sym (ap (λ (t : Bool). t && is_met_by w keep x y) e);
  }

  module _ (sites : length (sites_of w) ≡ p.sites) (there : keep s ≡ true) where
    pub judged_there : (r : Bool) → StillMet keep x.name y.pattern (sites_of w) (get_or m (witnesses p + s) 0) r → SentenceJudged w keep m p x s y r
    judged_there r h = record {
      witness = h.witness;
      spent = λ t. ap (λ (k : ℕ). eqb (get_or m (witnesses p + s) 0) (suc k)) (sym sites) ∙ h.spent ∙ ap not h.answer;
      answer = h.answer ∙ sym (ap (λ (t : Bool). t && is_met_by w keep x y) there);
    }

-- ---- only witnesses are written

module _ (p : Plan) (old new : List ℕ) (a b : ℕ) (within : b ≤ p.sentences) (h : ColumnsApart p old new (witnesses p + a) (witnesses p + b)) where
  pub witnesses-only : OnlyRounds p old new
  witnesses-only = record {
    length = h.length;
    before = λ k l. h.before k (omega (arith, l)) (omega (arith, l));
    after = λ k l i. h.after k (omega (arith, i)) (λ e. omega (arith, e, l, within));
    place = λ s l. ap (λ (n : ℕ). n % 32768) (h.before (lines p + s) (omega (arith, l)) (omega (arith, l)));
  }

  pub witnesses-fell : fell_of p new ≡ fell_of p old
  witnesses-fell = fell-from p old new (λ s l. h.before (lines p + s) (omega (arith, l)) (omega (arith, l)))

-- ---- a sentence of one function only

same_place : (w : Program) (f g : ℕ) (x z : Function) (s : ℕ) (y u : Sentence) → Owns w f x s y → Owns w g z s u → g ≡ f
same_place w f g x z s y u o q = by (ltb g f) refl (ltb f g) refl
  where
    by : (t : Bool) → ltb g f ≡ t → (v : Bool) → ltb f g ≡ v → g ≡ f
    by true e v k = absurd (omega (arith, o.from, q.upto, before-later w.functions (suc g) f (ltb-true g f e)))
    by false e true k = absurd (omega (arith, o.upto, q.from, before-later w.functions (suc f) g (ltb-true f g k)))
    by false e false k = omega (arith, ltb-false g f e, ltb-false f g k)

same_owner : (w : Program) (f g : ℕ) (x z : Function) (s : ℕ) (y u : Sentence) → Owns w f x s y → Owns w g z s u → z ≡ x
same_owner w f g x z s y u o q = element_same w.functions f z x (ap (get_elem? w.functions) (sym (same_place w f g x z s y u o q)) ∙ q.function) o.function

-- ---- one after another

module _ (w : Program) (keep : ℕ → Bool) (p : Plan) (f : ℕ) (x : Function) where
  pub judged_start : (m : List ℕ) → JudgedUpto w keep m p f x (sentences_before f w.functions) false
  judged_start m = record {
    spent = λ s y o l. absurd (omega (arith, o.from, l));
    none = λ e s y o l. absurd (omega (arith, o.from, l));
    one = λ e. absurd (false≢true e);
  }

  module _ (one two : List ℕ) (s : ℕ) (y : Sentence) (o : Owns w f x s y) (before r : Bool) (j : SentenceJudged w keep two p x s y r) (count : length (own_sentences w.functions) ≡ p.sentences) (others : OneColumn p one two (witnesses p + s)) where
    kept-witness : (t : ℕ) (u : Sentence) → get_elem? (own_sentences w.functions) t ≡ some u → (t ≡ s → ⊥) → get_or two (witnesses p + t) 0 ≡ get_or one (witnesses p + t) 0
    kept-witness t u q d = others.others (witnesses p + t) (omega (arith, element_below (own_sentences w.functions) t u q, count)) (λ e. d (omega (arith, e)))

    pub witnessed-next : Witnessed keep w one p → Witnessed keep w two p
    witnessed-next h = record { witness = λ g z t u q. by g z t u q (eqb t s) refl }
      where
        by : (g : ℕ) (z : Function) (t : ℕ) (u : Sentence) → Owns w g z t u → (v : Bool) → eqb t s ≡ v → WitnessOf keep z.name u.pattern (sites_of w) (get_or two (witnesses p + t) 0)
        by g z t u q false e = subst (λ (n : ℕ). WitnessOf keep z.name u.pattern (sites_of w) n) (sym (kept-witness t u q.sentence (eqb-false t s e))) (h.witness g z t u q)
        by g z t u q true e =
            let k : t ≡ s = eqb-true t s e in
            let q₂ : Owns w g z s u = subst (λ (n : ℕ). Owns w g z n u) k q in
            subst (λ (n : ℕ). WitnessOf keep z.name u.pattern (sites_of w) (get_or two (witnesses p + n) 0)) (sym k)
            (subst (λ (v : Function). WitnessOf keep v.name u.pattern (sites_of w) (get_or two (witnesses p + s) 0)) (sym (same_owner w f g x z s y u o q₂))
            (subst (λ (v : Sentence). WitnessOf keep x.name v.pattern (sites_of w) (get_or two (witnesses p + s) 0)) (element_same (own_sentences w.functions) s y u o.sentence q₂.sentence) j.witness))

    so_far : (before || r) ≡ (before || (keep s && is_met_by w keep x y))
    so_far = ap (λ (t : Bool). before || t) j.answer

    pub judged_next : JudgedUpto w keep one p f x s before → JudgedUpto w keep two p f x (s + 1) (before || r)
    judged_next h = record {
      spent = λ t u q l k. spent-by t u q l k (ltb t s) refl;
      none = λ e t u q l k. none-by e t u q l k (ltb t s) refl;
      one = λ e. one-by before refl (keep s) refl (is_met_by w keep x y) refl (sym e ∙ so_far);
    }
      where
        same-sentence : (t : ℕ) (u : Sentence) → Owns w f x t u → t ≡ s → u ≡ y
        same-sentence t u q e = element_same (own_sentences w.functions) s u y (ap (get_elem? (own_sentences w.functions)) (sym e) ∙ q.sentence) o.sentence

        spent-by : (t : ℕ) (u : Sentence) → Owns w f x t u → t < s + 1 → keep t ≡ true → (v : Bool) → ltb t s ≡ v → is_spent two p t ≡ not (is_met_by w keep x u)
        spent-by t u q l k true e =
            let i : t < s = ltb-true t s e in
            ap (λ (n : ℕ). eqb n (suc p.sites)) (kept-witness t u q.sentence (λ z. omega (arith, z, i))) ∙ h.spent t u q i k
        spent-by t u q l k false e =
            let i : t ≡ s = omega (arith, l, ltb-false t s e) in
            ap (is_spent two p) i ∙ j.spent (sym (ap keep i) ∙ k) ∙ ap (λ (v : Sentence). not (is_met_by w keep x v)) (sym (same-sentence t u q i))

        unmet : (t u : Bool) → (t && u) ≡ false → t ≡ true → u ≡ false
        unmet true u e g = e
        unmet false u e g = absurd (false≢true g)

        none-by : (before || r) ≡ false → (t : ℕ) (u : Sentence) → Owns w f x t u → t < s + 1 → keep t ≡ true → (v : Bool) → ltb t s ≡ v → is_met_by w keep x u ≡ false
        none-by n t u q l k true e = h.none (none_first before (keep s && is_met_by w keep x y) (sym so_far ∙ n)) t u q (ltb-true t s e) k
        none-by n t u q l k false e =
            let i : t ≡ s = omega (arith, l, ltb-false t s e) in
            ap (λ (v : Sentence). is_met_by w keep x v) (same-sentence t u q i) ∙ unmet (keep s) (is_met_by w keep x y) (none-second before (keep s && is_met_by w keep x y) (sym so_far ∙ n)) (sym (ap keep i) ∙ k)

        one-by : (t : Bool) → before ≡ t → (u : Bool) → keep s ≡ u → (v : Bool) → is_met_by w keep x y ≡ v → true ≡ (t || (u && v)) → OneMet w keep f x
        one-by true a u b v c e = h.one a
        one-by false a true b true c e = record { number = s; sentence = y; owns = o; there = b; met = c }
        one-by false a true b false c e = absurd (true≢false e)
        one-by false a false b v c e = absurd (true≢false e)

-- ---- the loop

module _ (b old : List ℕ) (p : Plan) (f first end round : ℕ) where
  abbrev keep : ℕ → Bool
  keep = is_there (fell_of p old) round

  pub end-within : {w : Program} → Indexed b w old p → end ≡ sentences_before (suc f) w.functions → end ≤ p.sentences
  end-within {w} d e = omega (arith, e, before_most w.functions (suc f), own-counted w.functions, d.sentences)

  pub apart_next : {one two : List ℕ} {s : ℕ} → first ≤ s → ColumnsApart p old one (witnesses p + first) (witnesses p + s) → OneColumn p one two (witnesses p + s) → ColumnsApart p old two (witnesses p + first) (witnesses p + (s + 1))
  apart_next {one} {two} {s} from h o = record {
    length = o.length ∙ h.length;
    before = λ k i l. o.others k i (λ q. omega (arith, q, l, from)) ∙ h.before k i l;
    after = λ k i l. o.others k i (λ q. l (omega (arith, q))) ∙ h.after k i (λ q. l (omega (arith, q)));
  }

  module _ {w : Program} {one : List ℕ} (x : Function) (s : ℕ) (d : Indexed b w old p) (is : get_elem? w.functions f ≡ some x) (begin : first ≡ sentences_before f w.functions) (stop : end ≡ sentences_before (suc f) w.functions)
      (apart : ColumnsApart p old one (witnesses p + first) (witnesses p + s)) (from : first ≤ s) (less : s < end) where
    within : s ≤ p.sentences
    within = omega (arith, less, end-within d stop)

    same_keep : is_there (fell_of p one) round ≡ keep
    same_keep = ap (λ (g : ℕ → ℕ). is_there g round) (witnesses-fell p old one first s within apart)

    indexed_now : Indexed b w one p
    indexed_now = only_rounds_indexed (witnesses-only p old one first s within apart) d

    own : Element (own_sentences w.functions) s
    own = element_at (own_sentences w.functions) s (omega (arith, less, end-within d stop, d.sentences))

    owns : Owns w f x s own.element
    owns = record { function = is; sentence = own.is; from = omega (arith, begin, from); upto = omega (arith, stop, less) }

    witness_now : Witnessed keep w one p → WitnessOf (is_there (fell_of p one) round) x.name own.element.pattern (sites_of w) (get_or one (witnesses p + s) 0)
    witness_now h = subst (λ (k : ℕ → Bool). WitnessOf k x.name own.element.pattern (sites_of w) (get_or one (witnesses p + s) 0)) (sym same_keep) (h.witness f x s own.element owns)

    pub judge_asks : Witnessed keep w one p → SomeOwned b one p (is_there (fell_of p one) round) f s
    judge_asks h = record {
      program = w;
      indexed = indexed_now;
      function = x;
      sentence = own.element;
      owns = owns;
      witnessed = witness_now h;
    }

    pub judge_steps : (two : List ℕ) (before r : Bool)
        → ((v : Program) (z : Function) (y : Sentence) → Indexed b v one p → Owns v f z s y → WitnessOf (is_there (fell_of p one) round) z.name y.pattern (sites_of v) (get_or one (witnesses p + s) 0) → SentenceJudged v (is_there (fell_of p one) round) two p z s y r)
        → OneColumn p one two (witnesses p + s) → Witnessed keep w one p × JudgedUpto w keep one p f x s before → Witnessed keep w two p × JudgedUpto w keep two p f x (s + 1) (before || r)
    judge_steps two before r judged o h =
        let j : SentenceJudged w keep two p x s own.element r
        = subst (λ (k : ℕ → Bool). SentenceJudged w k two p x s own.element r) same_keep (judged w x own.element indexed_now owns (witness_now h.0)) in
        (witnessed-next w keep p f x one two s own.element owns before r j d.sentences o h.0, judged_next w keep p f x one two s own.element owns before r j d.sentences o h.1)
