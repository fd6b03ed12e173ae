-- What the code of all rounds knows when a round begins, and that they are few.
use Prim.Native.Nat.{ℕ, suc, ◌+◌, ◌<◌, ◌≤◌}
use native.Mathlib.Omega.{arith}
use mathlib.Core.Path.{◌≡◌, refl, sym, ap, subst, ◌∙◌}
use mathlib.Core.Bool.{Bool, true, false, ◌&&◌, not}
use mathlib.Core.List.{List}
use lib.Dec.{ltb}
use lib.ListN.{get_or}
use borrow.Author.Tests.{ltb-true, ltb-false}
use Rattle.program.specs.Syntax.{Program}
use Rattle.program.specs.Encode.{own_sentence_count}
use Rattle.program.specs.Sentences.{own_sentences}
use Rattle.program.proofs.Own.{own-counted}
use Rattle.index.specs.declared.Plan.{Plan}
use Rattle.index.specs.Layout.{witnesses}
use Rattle.index.proofs.First.{element_below}
use Rattle.meaning.specs.Root.{root_place}
use Rattle.meaning.specs.Cleaning.{is_root}
use Rattle.told.specs.Kept.{kept_program}
use Rattle.told.specs.History.{is_there, FunctionsLeft, RoundTold, start_of, some_number, some_fell}
use Rattle.told.specs.Numbered.{sites_of}
use Rattle.cleaning.specs.Indexed.{Indexed, fell_of, OnlyRounds}
use Rattle.cleaning.specs.Walks.{WitnessOf, Witnessed}
use Rattle.cleaning.specs.RoundDone.{RoundReady, RoundMade, RoundsReady, RoundsMade}
use Rattle.meaning.proofs.Counts.{round_fewer}
use Rattle.told.proofs.History.{there-first, there-after, round-left, round_drops}
use Rattle.cleaning.proofs.Indexed.{only_rounds_indexed}
use Rattle.told.proofs.Kept.{all-kept}
use Rattle.cleaning.proofs.RoundCode.{only_same, only-on}

-- ---- what a round tells depends only on what is there at its start and at the next

module _ (w : Program) (one two : ℕ → ℕ) (q : ℕ) (a : is_there one q ≡ is_there two q) (b : is_there one (suc q) ≡ is_there two (suc q)) where
  told_same : RoundTold w one q → RoundTold w two q
  told_same t =
      subst (λ (k : ℕ → Bool). FunctionsLeft (root_place w) (is_there two q) k (sites_of w) 0 0 w.functions) b
      (subst (λ (k : ℕ → Bool). FunctionsLeft (root_place w) k (is_there one (suc q)) (sites_of w) 0 0 w.functions) a t)

  falls-same : some_fell w one q ≡ some_fell w two q
  falls-same =
      ap (λ (k : ℕ → Bool). some_number (λ s. k s && not (is_there one (suc q) s)) 0 (own_sentence_count w.functions)) a
      ∙ ap (λ (k : ℕ → Bool). some_number (λ s. is_there two q s && not (k s)) 0 (own_sentence_count w.functions)) b

start-same : (w : Program) (one two : ℕ → ℕ) (q : ℕ) → is_there one q ≡ is_there two q → start_of w one q ≡ start_of w two q
unfolding start_of
start-same w one two q e = ap (λ (k : ℕ → Bool). kept_program k w) e

-- ---- when a round begins

-- How many sentences are there when round r begins.
abbrev left : Program → (ℕ → ℕ) → ℕ → ℕ
left w fell r = own_sentence_count (start_of w fell r).functions

-- The rounds before r dropped something each; `old` is work when the first began.
pub record RoundsAt (b : List ℕ) (w : Program) (old new : List ℕ) (p : Plan) (root r : ℕ) : Type 0 where
  pub only : OnlyRounds p old new
  pub ready : RoundReady b w new p root r
  pub told : (q : ℕ) → 0 < q → q < r → RoundTold w (fell_of p new) q
  pub falls : (q : ℕ) → 0 < q → q < r → some_fell w (fell_of p new) q ≡ true
  pub bound : r + left w (fell_of p new) r ≤ suc (own_sentence_count w.functions)

-- There are few sentences, and no more rounds than one for each and the last.
few-sentences : {b : List ℕ} {w : Program} {m : List ℕ} {p : Plan} → Indexed b w m p → suc (own_sentence_count w.functions) < 4096
few-sentences {b} {w} {m} {p} d = omega (arith, d.sentences, own-counted w.functions, d.fits, d.small)

module _ {b : List ℕ} {w : Program} {old : List ℕ} {p : Plan} {root : ℕ} (h : RoundsReady b w old p root) where
  unasked : (s : ℕ) → s < p.sentences → {f : _} {t : _} {keep : ℕ → Bool} → WitnessOf keep f t (sites_of w) (get_or old (witnesses p + s) 0)
  unasked s l = record {
    within = λ k e. absurd (omega (arith, e, h.asked s l));
    before = λ k e. absurd (omega (arith, e, h.asked s l));
    itself = λ k x e. absurd (omega (arith, e, h.asked s l));
  }

  pub rounds-start : RoundsAt b w old old p root 1
  unfolding start_of
  rounds-start = record {
    only = only_same p old;
    ready = record {
      indexed = h.indexed;
      witnessed = record { witness = λ f x s y o. unasked s (omega (arith, element_below (own_sentences w.functions) s y o.sentence, h.indexed.sentences)) };
      below = λ s. omega (arith, h.fell s);
      positive = omega arith;
      few = omega arith;
      root_is = h.root_is;
    };
    told = λ q a l. absurd (omega (arith, a, l));
    falls = λ q a l. absurd (omega (arith, a, l));
    bound = omega (arith, ap (λ (v : Program). own_sentence_count v.functions) (all-kept (is_there (fell_of p old) 1) w (λ j l. there-first (fell_of p old) j)));
  }

module _ {b : List ℕ} {w : Program} {old one : List ℕ} {p : Plan} {root r : ℕ} (h : RoundsAt b w old one p root r) {two : List ℕ} where
  told-upto : {changed : Bool} → RoundMade b w one two p r changed → (q : ℕ) → 0 < q → q < suc r → RoundTold w (fell_of p two) q
  told-upto {changed} m q a l = by (ltb q r) refl
    where
      by : (t : Bool) → ltb q r ≡ t → RoundTold w (fell_of p two) q
      by true e =
          let k : q < r = ltb-true q r e in
          told_same w (fell_of p one) (fell_of p two) q (sym (m.same q (omega (arith, k)))) (sym (m.same (suc q) (omega (arith, k)))) (h.told q a k)
      by false e = let k : r ≡ q = omega (arith, l, ltb-false q r e) in subst (λ (n : ℕ). RoundTold w (fell_of p two) n) k m.told

  falls_below : {changed : Bool} → RoundMade b w one two p r changed → (q : ℕ) → 0 < q → q < r → some_fell w (fell_of p two) q ≡ true
  falls_below {changed} m q a k = sym (falls-same w (fell_of p one) (fell_of p two) q (sym (m.same q (omega (arith, k)))) (sym (m.same (suc q) (omega (arith, k))))) ∙ h.falls q a k

  -- A round that drops something leaves fewer.
  pub rounds_fewer : RoundMade b w one two p r true → suc r + left w (fell_of p two) (suc r) ≤ suc (own_sentence_count w.functions)
  rounds_fewer m =
      let e = round_drops w (fell_of p two) r m.told ∙ ap not (sym m.falls) in
      let g = round_fewer (is_root w) (start_of w (fell_of p two) r) e in
      let i = ap (λ (v : Program). own_sentence_count v.functions) (round-left w (fell_of p two) r m.told) in
      let j = ap (λ (v : Program). own_sentence_count v.functions) (start-same w (fell_of p two) (fell_of p one) r (m.same r (omega arith))) in
      omega (arith, g, i, j, h.bound)

  pub rounds-next : RoundMade b w one two p r true → RoundsAt b w old two p root (suc r)
  rounds-next m = record {
    only = only-on h.only m.only;
    ready = record {
      indexed = only_rounds_indexed m.only h.ready.indexed;
      witnessed = m.witnessed;
      below = m.below;
      positive = omega arith;
      few = omega (arith, rounds_fewer m, few-sentences h.ready.indexed);
      root_is = h.ready.root_is;
    };
    told = told-upto m;
    falls = λ q a l. by q a l (ltb q r) refl;
    bound = rounds_fewer m;
  }
    where
      by : (q : ℕ) → 0 < q → q < suc r → (t : Bool) → ltb q r ≡ t → some_fell w (fell_of p two) q ≡ true
      by q a l true e = falls_below m q a (ltb-true q r e)
      by q a l false e = let k : q ≡ r = omega (arith, l, ltb-false q r e) in ap (some_fell w (fell_of p two)) k ∙ sym m.falls

  pub rounds-end : RoundMade b w one two p r false → RoundsMade w old two p r
  rounds-end m = record {
    only = only-on h.only m.only;
    told = record {
      some = h.ready.positive;
      round = λ q a l. told-upto m q a (omega (arith, l));
      falls = falls_below m;
      last = sym m.falls;
    };
    below = m.below;
    few = h.ready.few;
    witnessed = subst (λ (k : ℕ → Bool). Witnessed k w two p) (there-after (fell_of p two) (suc r) m.below (omega (arith, h.ready.few))) m.witnessed;
  }
