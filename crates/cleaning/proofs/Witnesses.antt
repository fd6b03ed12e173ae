-- A sentence's witness: where the search for a site that meets its pattern begins, and what it leaves.
use Prim.Native.Nat.{ℕ, zero, suc, ◌+◌, ◌%◌, ◌≤◌, ◌<◌}
use native.Mathlib.Omega.{arith}
use mathlib.Core.Path.{◌≡◌, refl, sym, ap, subst, ◌∙◌}
use mathlib.Core.Bool.{Bool, true, false, ◌&&◌, not, and-eq-true_iff}
use mathlib.Core.List.{List, ◌∷◌}
use mathlib.Core.Option.{some}
use borrow.Author.Tests.{ltb-true, ltb-false, eq-eqb, ne_eqb}
use lib.Dec.{eqb, ltb}
use lib.ListN.{length, get_or, set, get_elem?, drop, length-set}
use lib.Seq.{drop-drop, get_or-set_other}
use Rattle.program.specs.Syntax.{Name, Terms, Program}
use Rattle.program.specs.Bytes.{put_span, put32}
use Rattle.program.specs.Encode.{put_head, put_terms, put_conditions}
use Rattle.program.specs.Limits.{Mode, ValidTerms}
use Rattle.image.specs.Parts.{TermsAt, put_sentence}
use Rattle.program.specs.Sentences.{Sentence, own_sentences}
use Rattle.told.specs.Numbered.{Held, sites_of}
use Rattle.index.specs.declared.Plan.{Plan}
use Rattle.index.specs.Layout.{witnesses}
use Rattle.index.specs.First.{First}
use Rattle.index.specs.Tables.{SentenceEntry}
use Rattle.told.specs.Calls.{is_listed}
use Rattle.index.proofs.First.{element_below, element_same, first_any}
use Rattle.told.specs.Asked.{restricts, is_met, meets}
use Rattle.cleaning.specs.Walks.{OnList, NoneMet, WitnessOf, Witnessed, witness_from, StillMet, OneEntry}
use Rattle.cleaning.proofs.Meeting.{meets-listed, meets-less}

-- ---- a sentence's pattern, 9 bytes after its place

head_passed : (x : Sentence) (k : List ℕ) → drop 9 (put_sentence x k) ≡ put_terms x.pattern (put_conditions x.conditions (12 ∷ put_terms x.result k))
unfolding put_sentence put_head put_span put32
head_passed x k = refl

module _ {b : List ℕ} {v : ℕ} {y : Sentence} (e : SentenceEntry b v y) (n : ℕ) (z : n ≡ v % 32768 + 9) where
  pub pattern-stands : drop n b ≡ put_terms y.pattern (put_conditions y.conditions (12 ∷ put_terms y.result e.stands.rest))
  pattern-stands =
      ap (λ (k : ℕ). drop k b) z
      ∙ sym (drop-drop 9 (v % 32768) b)
      ∙ ap (drop 9) e.stands.is
      ∙ head_passed e.stands.sentence e.stands.rest
      ∙ ap (λ (q : Sentence). put_terms q.pattern (put_conditions q.conditions (12 ∷ put_terms q.result e.stands.rest))) e.is

  pub pattern-valid : ValidTerms y.pattern Mode.pattern 0
  pattern-valid = subst (λ (q : Sentence). ValidTerms q.pattern Mode.pattern 0) e.is e.stands.valid-pattern

  abbrev pub pattern-there : TermsAt Mode.pattern (drop n b)
  pattern-there = record { terms = y.pattern; rest = put_conditions y.conditions (12 ∷ put_terms y.result e.stands.rest); is = pattern-stands; valid = pattern-valid }

-- ---- where the search begins

module _ (keep : ℕ → Bool) (f : Name) (t : Terms) (sites : List Held) where
  pub begins-at : (d head : ℕ) → First (is_listed true f) 0 sites head → WitnessOf keep f t sites d → OnList f sites (witness_from d head) × NoneMet keep f t sites (witness_from d head)
  unfolding witness_from
  begins-at zero head h a = (record { within = h.within; listed = h.found }, λ j x l e. meets-less keep f t x (h.none j x (omega arith) l e))
  begins-at (suc k) head h a = (record { within = a.within k refl; listed = λ x e. (a.itself k x refl e).0 }, a.before k refl)

  -- Past all sites.
  pub none_left : (i : ℕ) → OnList f sites i → NoneMet keep f t sites i → length sites ≤ i → First (meets keep f t) 0 sites i
  none_left i o none h = record { later = omega arith; within = o.within; none = λ j x a b e. none j x b e; found = λ x e. absurd (omega (arith, element_below sites i x e)) }

  -- The witness is still there.
  pub witness-there : (d head : ℕ) → (d ≡ 0 → ⊥) → WitnessOf keep f t sites d → (x : Held) → get_elem? sites (witness_from d head) ≡ some x → keep x.sentence ≡ true
      → First (meets keep f t) 0 sites (witness_from d head) × (d ≡ suc (witness_from d head))
  unfolding witness_from
  witness-there zero head h a x e k = absurd (h refl)
  witness-there (suc i) head h a x e k =
      let m = a.itself i x refl e in
      let z : meets keep f t x ≡ true = meets-listed keep f t x m.0 ∙ (and-eq-true_iff (keep x.sentence) (is_met t x)).1 (k, m.1) in (
        record {
          later = omega arith;
          within = a.within i refl;
          none = λ j y p q g. a.before i refl j y q g;
          found = λ y g. ap (meets keep f t) (element_same sites i y x g e) ∙ z;
        },
        refl,
      )

  met_parts : (x : Held) → meets keep f t x ≡ true → (is_listed true f x ≡ true) × (is_met t x ≡ true)
  unfolding meets restricts
  met_parts x e =
      let h = (and-eq-true_iff (keep x.sentence && is_listed true f x) (is_met t x)).0 e in
      (((and-eq-true_iff (keep x.sentence) (is_listed true f x)).0 h.0).1, h.1)

  -- What the search has found is the new witness.
  pub still_by : (n : ℕ) → First (meets keep f t) 0 sites n → (d : ℕ) → d ≡ suc n → (r : Bool) → r ≡ ltb n (length sites) → StillMet keep f t sites d r
  still_by n g d e r h = record {
    answer = h ∙ sym (first_any g);
    witness = record {
      within = λ k z. omega (arith, g.within);
      before = λ k z j x l q. g.none j x (omega arith) (omega arith) q;
      itself = λ k x z q. let u : k ≡ n = omega arith in met_parts x (g.found x (rw u at q));
    };
    spent = ap (λ (k : ℕ). eqb k (suc (length sites))) e ∙ by (ltb n (length sites)) refl ∙ ap not (sym h);
  }
    where
      by : (u : Bool) → ltb n (length sites) ≡ u → eqb (suc n) (suc (length sites)) ≡ not (ltb n (length sites))
      by true z = ne_eqb (suc n) (suc (length sites)) (λ q. let l = ltb-true n (length sites) z in omega arith) ∙ ap not (sym z)
      by false z = let l = ltb-false n (length sites) z in eq-eqb (suc n) (suc (length sites)) (omega (arith, g.within)) ∙ ap not (sym z)

  -- What it tells of a site that is there.
  pub unmet_before : (d : ℕ) → WitnessOf keep f t sites d → (i : ℕ) (x : Held) → get_elem? sites i ≡ some x → is_listed true f x ≡ true → keep x.sentence ≡ true → suc i < d → is_met t x ≡ false
  unmet_before zero a i x e l k h = absurd (omega (arith, h))
  unmet_before (suc n) a i x e l k h = ap (λ (u : Bool). u && is_met t x) (sym k) ∙ (sym (meets-listed keep f t x l) ∙ a.before n refl i x (omega (arith, h)) e)

  pub met-itself : (d : ℕ) → WitnessOf keep f t sites d → (i : ℕ) (x : Held) → get_elem? sites i ≡ some x → suc i ≡ d → is_met t x ≡ true
  met-itself d a i x e h = (a.itself i x (sym h) e).1

-- Witnesses are read from their column.
pub witnessed-kept : {keep : ℕ → Bool} {w : Program} {old new : List ℕ} {p : Plan} → length (own_sentences w.functions) ≡ p.sentences → ((s : ℕ) → s < p.sentences → get_or new (witnesses p + s) 0 ≡ get_or old (witnesses p + s) 0) → Witnessed keep w old p → Witnessed keep w new p
witnessed-kept {keep} {w} {p} c e h = record {
  witness = λ f x s y o. subst (λ (d : ℕ). WitnessOf keep x.name y.pattern (sites_of w) d) (sym (e s (omega (arith, element_below (own_sentences w.functions) s y o.sentence, c)))) (h.witness f x s y o);
}

-- ---- one entry is written

pub one_written : (m : List ℕ) (k v : ℕ) → OneEntry m (set m k v) k
one_written m k v = record { length = length-set m k v; others = λ j d. get_or-set_other m k j v 0 d }

pub none_written : (m : List ℕ) (k : ℕ) → OneEntry m m k
none_written m k = record { length = refl; others = λ j d. refl }
