-- What the code of a round does with one function, in the entries of work.
use Prim.Native.Nat.{ℕ, suc, ◌+◌, ◌-◌, ◌/◌, ◌%◌, ◌<◌, ◌≤◌}
use native.Mathlib.Omega.{arith}
use mathlib.Core.Path.{◌≡◌, refl, sym, ap, ap₂, subst, ◌∙◌}
use mathlib.Core.Bool.{Bool, true, false, ◌&&◌, ◌||◌, cond, and-true, and-false, or-false, true≢false, false≢true}
use mathlib.Core.List.{List}
use mathlib.Core.Option.{some}
use lib.Dec.{eqb, leb, ltb}
use lib.ListN.{length, get_or, get_elem?}
use borrow.Author.Tests.{ltb-true, ltb-false, leb-true, le-leb}
use Rattle.program.specs.Syntax.{Function, Program}
use Rattle.program.specs.Sentences.{Sentence}
use Rattle.program.proofs.Own.{own-counted}
use Rattle.index.specs.declared.Plan.{Plan}
use Rattle.index.specs.Layout.{lines, witnesses}
use Rattle.told.specs.Numbered.{sentences_before, sites_of}
use Rattle.meaning.specs.Root.{root_place}
use Rattle.told.specs.Asked.{is_judged}
use Rattle.told.specs.History.{is_there, some_number}
use Rattle.cleaning.specs.Indexed.{Indexed, fell_of, OnlyRounds}
use Rattle.cleaning.specs.Walks.{Owns, ColumnsApart, WitnessOf, Witnessed}
use Rattle.cleaning.specs.RoundDone.{rejects_in, some_in, RoundSoFar, is_spent, JudgedUpto, falls_now, OneFell, Changed, SentencesDropped, RoundReady, RoundAt, RoundMade}
use Rattle.cleaning.proofs.Indexed.{only_rounds_indexed, witness-later}
use Rattle.cleaning.proofs.Judging.{none_first, none-second, witnesses-only, witnesses-fell}
use Rattle.cleaning.proofs.Owned.{before-later, before_most}
use Rattle.cleaning.proofs.RoundDone.{there-old, round_same, round-below, round-told}
use Rattle.cleaning.proofs.RoundSteps.{some_in_lem, none_in, rejects-root, rejects_passed, rejects_judged, some-none, some_one, so_far-next, skipped, changed-falls}

-- ---- entries that only rounds change

pub only_same : (p : Plan) (m : List ℕ) → OnlyRounds p m m
only_same p m = record { length = refl; before = λ k l. refl; after = λ k l i. refl; place = λ s l. refl }

pub only-on : {p : Plan} {old one two : List ℕ} → OnlyRounds p old one → OnlyRounds p one two → OnlyRounds p old two
only-on a b = record {
  length = b.length ∙ a.length;
  before = λ k l. b.before k l ∙ a.before k l;
  after = λ k l i. b.after k l i ∙ a.after k l i;
  place = λ s l. b.place s l ∙ a.place s l;
}

fell-entry : (p : Plan) (one two : List ℕ) (s : ℕ) → get_or two (lines p + s) 0 ≡ get_or one (lines p + s) 0 → fell_of p two s ≡ fell_of p one s
unfolding fell_of
fell-entry p one two s e = ap (λ (n : ℕ). cond (ltb s p.sentences) (n / 32768 % 4096) 0) e

-- ---- what dropping leaves

module _ {p : Plan} {one two : List ℕ} {first end r : ℕ} {dropped : Bool} (within : end ≤ p.sentences) (h : SentencesDropped one two p first end r dropped) where
  dropped-before : (s : ℕ) → s < first → get_or two (lines p + s) 0 ≡ get_or one (lines p + s) 0
  dropped-before s l = h.others.before (lines p + s) (omega (arith, l))

  dropped-after : (s : ℕ) → end ≤ s → get_or two (lines p + s) 0 ≡ get_or one (lines p + s) 0
  dropped-after s l = h.others.after (lines p + s) (λ e. omega (arith, e, l))

  dropped-only : OnlyRounds p one two
  dropped-only = record {
    length = h.others.length;
    before = λ k l. h.others.before k (omega (arith, l));
    after = λ k l i. h.others.after k (λ e. omega (arith, e, l, within));
    place = λ s l. by s (ltb s first) refl (ltb s end) refl;
  }
    where
      by : (s : ℕ) (t : Bool) → ltb s first ≡ t → (u : Bool) → ltb s end ≡ u → get_or two (lines p + s) 0 % 32768 ≡ get_or one (lines p + s) 0 % 32768
      by s true e u g = ap (λ (n : ℕ). n % 32768) (dropped-before s (ltb-true s first e))
      by s false e true g = h.place s (ltb-false s first e) (ltb-true s end g)
      by s false e false g = ap (λ (n : ℕ). n % 32768) (dropped-after s (ltb-false s end g))

  dropped-witnessed : (keep : ℕ → Bool) (w : Program) → Witnessed keep w one p → Witnessed keep w two p
  dropped-witnessed keep w a = record {
    witness = λ f x s y o. subst (λ (n : ℕ). WitnessOf keep x.name y.pattern (sites_of w) n) (sym (h.others.after (witnesses p + s) (λ e. omega (arith, e, within)))) (a.witness f x s y o);
  }

  -- Each sentence fell now, or is as it was.
  record DroppedAs (s : ℕ) : Type 0 where
    pub test : Bool
    pub is : fell_of p two s ≡ cond test r (fell_of p one s)
    pub none : some_number (falls_now one p) first (end - first) ≡ false → test ≡ false

  dropped_as : (s : ℕ) → DroppedAs s
  dropped_as s = by (ltb s first) refl (ltb s end) refl
    where
      by : (t : Bool) → ltb s first ≡ t → (u : Bool) → ltb s end ≡ u → DroppedAs s
      by true e u g = record { test = false; is = fell-entry p one two s (dropped-before s (ltb-true s first e)); none = λ z. refl }
      by false e true g =
          let a : first ≤ s = ltb-false s first e in
          let b : s < end = ltb-true s end g in
          record { test = falls_now one p s; is = h.fell s a b; none = λ z. none_in (falls_now one p) first (end - first) z s a (omega (arith, a, b)) }
      by false e false g = record { test = false; is = fell-entry p one two s (dropped-after s (ltb-false s end g)); none = λ z. refl }

  dropped-changed : (before : Bool) (old : ℕ → ℕ) → first ≤ end → Changed p.sentences old (fell_of p one) r before → Changed p.sentences old (fell_of p two) r (before || dropped)
  dropped-changed before old upto c = record { none = λ e. none-by (sym so_far ∙ e); one = λ e. one-by before refl (some_number (falls_now one p) first (end - first)) refl (sym e ∙ so_far) }
    where
      so_far : (before || dropped) ≡ (before || some_number (falls_now one p) first (end - first))
      so_far = ap (λ (t : Bool). before || t) h.answer

      none-by : (before || some_number (falls_now one p) first (end - first)) ≡ false → (s : ℕ) → fell_of p two s ≡ old s
      none-by e s =
          let d = dropped_as s in
          d.is ∙ ap (λ (t : Bool). cond t r (fell_of p one s)) (d.none (none-second before (some_number (falls_now one p) first (end - first)) e))
          ∙ c.none (none_first before (some_number (falls_now one p) first (end - first)) e) s

      either : (t : Bool) (n : ℕ) → n ≡ r → cond t r n ≡ r
      either true n e = refl
      either false n e = e

      one-by : (t : Bool) → before ≡ t → (u : Bool) → some_number (falls_now one p) first (end - first) ≡ u → true ≡ (t || u) → OneFell p.sentences (fell_of p two) r
      one-by true a u b e =
          let o = c.one a in
          let d = dropped_as o.number in
          record { number = o.number; below = o.below; fell = d.is ∙ either d.test (fell_of p one o.number) o.fell }
      one-by false a true b e =
          let s = some_in_lem (falls_now one p) first (end - first) b in
          let l : s.number < end = omega (arith, s.upto, upto) in
          record { number = s.number; below = omega (arith, l, within); fell = h.fell s.number s.from l ∙ ap (λ (t : Bool). cond t r (fell_of p one s.number)) s.passes }
      one-by false a false b e = absurd (true≢false e)

-- ---- one function

module _ {b : List ℕ} {w : Program} {old now : List ℕ} {p : Plan} {root r f : ℕ} {before : Bool} (ready : RoundReady b w old p root r) (at : RoundAt b w old now p r f before) where
  abbrev keep : ℕ → Bool
  keep = is_there (fell_of p old) r

  pub indexed-at : Indexed b w now p
  indexed-at = only_rounds_indexed at.only ready.indexed

  pub keep_at : is_there (fell_of p now) r ≡ keep
  keep_at = round_same w (fell_of p old) (fell_of p now) r ready.positive ready.below f at.so_far r (omega arith)

  pub witnessed-at : Witnessed (is_there (fell_of p now) r) w now p
  witnessed-at = subst (λ (k : ℕ → Bool). Witnessed k w now p) (sym keep_at) at.witnessed

  pub end-at : sentences_before (suc f) w.functions ≤ p.sentences
  end-at = omega (arith, before_most w.functions (suc f), own-counted w.functions, ready.indexed.sentences)

  -- Judging writes witnesses only.
  judged_at : (one : List ℕ) (first end : ℕ) → end ≤ p.sentences → ColumnsApart p now one (witnesses p + first) (witnesses p + end) → Witnessed (is_there (fell_of p now) r) w one p → RoundAt b w old one p r f before
  judged_at one first end within h a =
      let e : fell_of p now ≡ fell_of p one = sym (witnesses-fell p now one first end within h) in
      record {
        only = only-on at.only (witnesses-only p now one first end within h);
        witnessed = subst (λ (k : ℕ → Bool). Witnessed k w one p) keep_at a;
        so_far = subst (λ (g : ℕ → ℕ). RoundSoFar w (fell_of p old) g r f) e at.so_far;
        changed-is = subst (λ (g : ℕ → ℕ). Changed p.sentences (fell_of p old) g r before) e at.changed-is;
      }

  module _ (x : Function) (is : get_elem? w.functions f ≡ some x) where
    skip : ((s : ℕ) (y : Sentence) → Owns w f x s y → (rejects_in w keep f x y.pattern && some_in w keep f x) ≡ false) → RoundAt b w old now p r (suc f) (before || false)
    skip h = subst (RoundAt b w old now p r (suc f)) (sym (or-false before)) record { only = at.only; witnessed = at.witnessed; so_far = skipped w (fell_of p old) r f x is (fell_of p now) at.so_far h; changed-is = at.changed-is }

    pub skip_root : f ≡ root → RoundAt b w old now p r (suc f) (before || false)
    skip_root e = skip (λ s y o. ap (λ (t : Bool). t && some_in w keep f x) (rejects-root w keep f x (e ∙ ready.root_is) y.pattern))

    pub skip_passed : is_judged (is_there (fell_of p now) r) x.name (sites_of w) ≡ false → RoundAt b w old now p r (suc f) (before || false)
    skip_passed e = skip (λ s y o. ap (λ (t : Bool). t && some_in w keep f x) (rejects_passed w keep f x (ap (λ (k : ℕ → Bool). is_judged k x.name (sites_of w)) (sym keep_at) ∙ e) y.pattern))

    -- It is judged.
    module _ (other : f ≡ root_place w → ⊥) (judged : is_judged keep x.name (sites_of w) ≡ true) where
      pub skip-none : JudgedUpto w keep now p f x (sentences_before (suc f) w.functions) false → RoundAt b w old now p r (suc f) (before || false)
      skip-none j = skip (λ s y o. ap (λ (t : Bool). rejects_in w keep f x y.pattern && t) (some-none w keep f x is other judged (λ s y o t. j.none refl s y o o.upto t)) ∙ and-false (rejects_in w keep f x y.pattern))

      module _ (j : JudgedUpto w keep now p f x (sentences_before (suc f) w.functions) true) {two : List ℕ} {dropped : Bool} (h : SentencesDropped now two p (sentences_before f w.functions) (sentences_before (suc f) w.functions) r dropped) where
        fell-done : (s : ℕ) (y : Sentence) → Owns w f x s y → fell_of p two s ≡ cond (keep s && (rejects_in w keep f x y.pattern && some_in w keep f x)) r (fell_of p old s)
        fell-done s y o =
            h.fell s o.from o.upto
            ∙ ap₂ (λ (t : Bool) (n : ℕ). cond t r n) (ap (λ (t : Bool). t && is_spent now p s) there ∙ by (keep s) refl) (at.so_far.later s o.from)
          where
            there : eqb (fell_of p now s) 0 ≡ keep s
            there = ap (λ (n : ℕ). eqb n 0) (at.so_far.later s o.from) ∙ sym (there-old w (fell_of p old) (fell_of p now) r ready.positive ready.below s)

            by : (t : Bool) → keep s ≡ t → (t && is_spent now p s) ≡ (t && (rejects_in w keep f x y.pattern && some_in w keep f x))
            by false e = refl
            by true e =
                j.spent s y o o.upto e
                ∙ sym (rejects_judged w keep f x other judged y.pattern)
                ∙ sym (and-true (rejects_in w keep f x y.pattern))
                ∙ ap (λ (t : Bool). rejects_in w keep f x y.pattern && t) (sym (some_one w keep f x is other judged (j.one refl)))

        pub drop-one : RoundAt b w old two p r (suc f) (before || dropped)
        drop-one = record {
          only = only-on at.only (dropped-only end-at h);
          witnessed = dropped-witnessed end-at h keep w at.witnessed;
          so_far = so_far-next w (fell_of p old) r f x is (fell_of p now) (fell_of p two) at.so_far (record { fell = fell-done })
              (λ s l. fell-entry p now two s (dropped-before end-at h s l)) (λ s l. fell-entry p now two s (dropped-after end-at h s l));
          changed-is = dropped-changed end-at h before (fell_of p old) (before-later w.functions f (suc f) (omega arith)) at.changed-is;
        }

-- The same of a function that has just been judged.
module _ {b : List ℕ} {w : Program} {old now : List ℕ} {p : Plan} {root r f : ℕ} {before : Bool} (ready : RoundReady b w old p root r) (at : RoundAt b w old now p r f before) (x : Function) (is : get_elem? w.functions f ≡ some x)
    (other : f ≡ root → ⊥) (judged : is_judged (is_there (fell_of p now) r) x.name (sites_of w) ≡ true) {one : List ℕ} {first end : ℕ} {met : Bool}
    (begin : first ≡ sentences_before f w.functions) (stop : end ≡ sentences_before (suc f) w.functions) (apart : ColumnsApart p now one (witnesses p + first) (witnesses p + end))
    (j : Witnessed (is_there (fell_of p now) r) w one p × JudgedUpto w (is_there (fell_of p now) r) one p f x end met) where
  at_one : RoundAt b w old one p r f before
  at_one = judged_at ready at one first end (omega (arith, stop, end-at ready at)) apart j.0

  other-root : f ≡ root_place w → ⊥
  other-root e = other (e ∙ sym ready.root_is)

  judged_now : is_judged (is_there (fell_of p old) r) x.name (sites_of w) ≡ true
  judged_now = ap (λ (k : ℕ → Bool). is_judged k x.name (sites_of w)) (sym (keep_at ready at)) ∙ judged

  upto_now : (t : Bool) → met ≡ t → JudgedUpto w (is_there (fell_of p old) r) one p f x (sentences_before (suc f) w.functions) t
  upto_now t e =
      subst (λ (k : ℕ → Bool). JudgedUpto w k one p f x (sentences_before (suc f) w.functions) t) (keep_at ready at)
      (subst (λ (n : ℕ). JudgedUpto w (is_there (fell_of p now) r) one p f x n t) stop (subst (λ (u : Bool). JudgedUpto w (is_there (fell_of p now) r) one p f x end u) e j.1))

  pub judged_none : met ≡ false → RoundAt b w old one p r (suc f) (before || false)
  judged_none e = skip-none ready at_one x is other-root judged_now (upto_now false e)

  pub judged_one : met ≡ true → {two : List ℕ} {dropped : Bool} → SentencesDropped one two p first end r dropped → RoundAt b w old two p r (suc f) (before || dropped)
  judged_one e {two} {dropped} h =
      drop-one ready at_one x is other-root judged_now (upto_now true e)
      (subst (λ (n : ℕ). SentencesDropped one two p (sentences_before f w.functions) n r dropped) stop (subst (λ (n : ℕ). SentencesDropped one two p n end r dropped) begin h))

-- ---- all functions

module _ {b : List ℕ} {w : Program} {old : List ℕ} {p : Plan} {root r : ℕ} (ready : RoundReady b w old p root r) where
  pub round-start : RoundAt b w old old p r 0 false
  round-start = record {
    only = only_same p old;
    witnessed = ready.witnessed;
    so_far = record { done = λ g x l e. absurd (omega (arith, l)); later = λ s l. refl };
    changed-is = record { none = λ e s. refl; one = λ e. absurd (false≢true e) };
  }

  -- What is there later was there before.
  there-before : (fell : ℕ → ℕ) (s : ℕ) → is_there fell (suc r) s ≡ true → is_there fell r s ≡ true
  unfolding is_there
  there-before fell s e = by (eqb (fell s) 0) e
    where
      by : (t : Bool) → (t || leb (suc r) (fell s)) ≡ true → (t || leb r (fell s)) ≡ true
      by true f = refl
      by false f = le-leb r (fell s) (omega (arith, leb-true (suc r) (fell s) f))

  pub round-made : (new : List ℕ) (f : ℕ) (changed : Bool) → f ≡ p.functions → RoundAt b w old new p r f changed → RoundMade b w old new p r changed
  round-made new f changed e at =
      let all : RoundSoFar w (fell_of p old) (fell_of p new) r (length w.functions)
      = subst (λ (n : ℕ). RoundSoFar w (fell_of p old) (fell_of p new) r n) (e ∙ sym ready.indexed.functions) at.so_far in
      let same = round_same w (fell_of p old) (fell_of p new) r ready.positive ready.below (length w.functions) all in
      record {
        only = at.only;
        told = round-told w (fell_of p old) (fell_of p new) r ready.positive ready.below all;
        below = round-below w (fell_of p old) (fell_of p new) r ready.positive ready.below (length w.functions) all;
        same = same;
        witnessed = record {
          witness = λ g x s y o. witness-later {keep = is_there (fell_of p old) r} {next = is_there (fell_of p new) (suc r)}
              (λ t q. ap (λ (k : ℕ → Bool). k t) (sym (same r (omega arith))) ∙ there-before (fell_of p new) t q) (at.witnessed.witness g x s y o);
        };
        falls = changed-falls w (fell_of p old) (fell_of p new) r ready.positive ready.below changed
            (subst (λ (n : ℕ). Changed n (fell_of p old) (fell_of p new) r changed) (sym ready.indexed.sentences ∙ own-counted w.functions) at.changed-is);
      }
