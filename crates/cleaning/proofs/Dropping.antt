-- Writing a round into a sentence's entry: what it says of that sentence, and what it leaves.
use Prim.Native.Nat.{ℕ, suc, ◌+◌, ◌-◌, ◌/◌, ◌%◌, ◌<◌, ◌≤◌}
use native.Mathlib.Omega.{arith}
use mathlib.Core.Path.{◌≡◌, refl, sym, ap, ap₂, subst, ◌∙◌}
use mathlib.Core.Bool.{Bool, true, false, ◌&&◌, ◌||◌, cond, or-false, and-false}
use mathlib.Core.List.{List}
use lib.Dec.{eqb, ltb}
use lib.ListN.{length, get_or, set}
use lib.Seq.{get_or-set_same}
use borrow.Author.Tests.{eq-eqb, ne_eqb, ltb-true, ltb-false}
use Rattle.program.specs.Syntax.{Program}
use Rattle.program.proofs.Own.{own-counted}
use Rattle.restrictions.specs.Entries.{entry_offset, entry_sentence}
use Rattle.index.specs.declared.Plan.{Plan}
use Rattle.index.specs.Layout.{lines, witnesses, marks}
use Rattle.told.specs.Numbered.{sentences_before}
use Rattle.index.proofs.First.{element_at}
use Rattle.told.specs.History.{some_number}
use Rattle.cleaning.specs.Indexed.{Indexed, fell_of}
use Rattle.cleaning.specs.RoundDone.{is_spent, falls_now, SentenceDropped, SentencesDropped}
use Rattle.told.proofs.History.{some-append}
use Rattle.cleaning.proofs.Indexed.{fell-is}
use Rattle.cleaning.proofs.Owned.{before-end}
use Rattle.cleaning.proofs.Witnesses.{one_written, none_written}

-- ---- where a function's sentences begin

module _ {b : List ℕ} {w : Program} {m : List ℕ} {p : Plan} (d : Indexed b w m p) where
  pub first_in_lem : (f : ℕ) → f < p.functions → get_or m f 0 / 32768 % 4096 ≡ sentences_before f w.functions
  first_in_lem f l =
      let x = element_at w.functions f (omega (arith, l, d.functions)) in
      let e : f ≡ 0 + f = omega arith in
      ap (λ (k : ℕ). get_or m k 0 / 32768 % 4096) e ∙ (d.function.entry f x.element x.is).first

  pub first_past : (f : ℕ) → f ≡ p.functions → p.sentences ≡ sentences_before f w.functions
  first_past f e =
      let g : length w.functions ≡ f = omega (arith, e, d.functions) in
      sym d.sentences ∙ own-counted w.functions ∙ sym (before-end w.functions) ∙ ap (λ (k : ℕ). sentences_before k w.functions) g

-- ---- one sentence

module _ (p : Plan) (m : List ℕ) (s r : ℕ) where
  pub dropped-one : (v : ℕ) → entry_offset v ≡ get_or m (lines p + s) 0 % 32768 → entry_sentence v ≡ r → s < p.sentences → marks p ≤ length m → fell_of p m s ≡ 0 → get_or m (witnesses p + s) 0 ≡ p.sites + 1
      → SentenceDropped m (set m (lines p + s) v) p s r true
  dropped-one v place number l fits e d =
      let k : ℕ = lines p + s in
      let g : get_or (set m k v) k 0 ≡ v = get_or-set_same m k v 0 (omega (arith, l, fits)) in
      let falls : falls_now m p s ≡ true = ap₂ (λ (t u : Bool). t && u) (eq-eqb (fell_of p m s) 0 e) (eq-eqb (get_or m (witnesses p + s) 0) (suc p.sites) (omega (arith, d))) in
      record {
        fell = fell-is p (set m k v) s l ∙ ap (λ (n : ℕ). n / 32768 % 4096) g ∙ number ∙ sym (ap (λ (t : Bool). cond t r (fell_of p m s)) falls);
        place = ap (λ (n : ℕ). n % 32768) g ∙ place;
        others = one_written m k v;
        answer = sym falls;
      }

  pub dropped-none : falls_now m p s ≡ false → SentenceDropped m m p s r false
  dropped-none e = record {
    fell = sym (ap (λ (t : Bool). cond t r (fell_of p m s)) e);
    place = refl;
    others = none_written m (lines p + s);
    answer = sym e;
  }

  pub falls_not : (fell_of p m s ≡ 0 → ⊥) → falls_now m p s ≡ false
  falls_not d = ap (λ (t : Bool). t && is_spent m p s) (ne_eqb (fell_of p m s) 0 d)

  pub falls_unspent : (get_or m (witnesses p + s) 0 ≡ p.sites + 1 → ⊥) → falls_now m p s ≡ false
  falls_unspent d = ap (λ (t : Bool). eqb (fell_of p m s) 0 && t) (ne_eqb (get_or m (witnesses p + s) 0) (suc p.sites) (λ e. d (omega (arith, e)))) ∙ and-false (eqb (fell_of p m s) 0)

-- ---- sentences one after another

module _ (p : Plan) (first r : ℕ) where
  pub dropped-start : (m : List ℕ) → SentencesDropped m m p first first r false
  unfolding some_number
  dropped-start m =
      let z : 0 ≡ first - first = omega arith in
      record {
        fell = λ s a b. absurd (omega (arith, a, b));
        place = λ s a b. absurd (omega (arith, a, b));
        others = record { length = refl; before = λ k l. refl; after = λ k l. refl };
        answer = ap (λ (n : ℕ). some_number (falls_now m p) first n) z;
      }

  module _ (old one two : List ℕ) (s : ℕ) (d e : Bool) (from : first ≤ s) (within : s < p.sentences) (h : SentencesDropped old one p first s r d) (g : SentenceDropped one two p s r e) where
    entry_at : get_or one (lines p + s) 0 ≡ get_or old (lines p + s) 0
    entry_at = h.others.after (lines p + s) (λ z. omega (arith, z))

    fell-at : fell_of p one s ≡ fell_of p old s
    fell-at = fell-is p one s within ∙ ap (λ (n : ℕ). n / 32768 % 4096) entry_at ∙ sym (fell-is p old s within)

    falls_at : falls_now one p s ≡ falls_now old p s
    falls_at = ap₂ (λ (n k : ℕ). eqb n 0 && eqb k (suc p.sites)) fell-at (h.others.after (witnesses p + s) (λ z. omega (arith, z, within)))

    -- The sentences before s keep what they have.
    kept_entry : (t : ℕ) → t < s → get_or two (lines p + t) 0 ≡ get_or one (lines p + t) 0
    kept_entry t l = g.others.others (lines p + t) (λ z. omega (arith, z, l))

    pub dropped-next : SentencesDropped old two p first (s + 1) r (d || e)
    unfolding some_number
    dropped-next =
        let z : (s - first) + 1 ≡ (s + 1) - first = omega (arith, from) in
        let y : first + (s - first) ≡ s = omega (arith, from) in
        record {
          fell = λ t a b. fell_by t a b (ltb t s) refl;
          place = λ t a b. place-by t a b (ltb t s) refl;
          others = record {
            length = g.others.length ∙ h.others.length;
            before = λ k l. g.others.others k (λ q. omega (arith, q, l, from)) ∙ h.others.before k l;
            after = λ k l. g.others.others k (λ q. l (omega (arith, q))) ∙ h.others.after k (λ q. l (omega (arith, q)));
          };
          answer = ap₂ (λ (t u : Bool). t || u) h.answer (g.answer ∙ falls_at ∙ sym (or-false (falls_now old p s)))
              ∙ ap (λ (k : ℕ). some_number (falls_now old p) first (s - first) || (falls_now old p k || false)) (sym y)
              ∙ sym (some-append (falls_now old p) first (s - first) 1)
              ∙ ap (λ (n : ℕ). some_number (falls_now old p) first n) z;
        }
      where
        fell_by : (t : ℕ) → first ≤ t → t < s + 1 → (u : Bool) → ltb t s ≡ u → fell_of p two t ≡ cond (falls_now old p t) r (fell_of p old t)
        fell_by t a b true q =
            let l : t < s = ltb-true t s q in
            let i : t < p.sentences = omega (arith, l, within) in
            fell-is p two t i ∙ ap (λ (n : ℕ). n / 32768 % 4096) (kept_entry t l) ∙ sym (fell-is p one t i) ∙ h.fell t a l
        fell_by t a b false q =
            let l : s ≡ t = omega (arith, b, ltb-false t s q) in
            subst (λ (k : ℕ). fell_of p two k ≡ cond (falls_now old p k) r (fell_of p old k)) l (g.fell ∙ ap₂ (λ (u : Bool) (n : ℕ). cond u r n) falls_at fell-at)

        place-by : (t : ℕ) → first ≤ t → t < s + 1 → (u : Bool) → ltb t s ≡ u → get_or two (lines p + t) 0 % 32768 ≡ get_or old (lines p + t) 0 % 32768
        place-by t a b true q =
            let l : t < s = ltb-true t s q in
            ap (λ (n : ℕ). n % 32768) (kept_entry t l) ∙ h.place t a l
        place-by t a b false q =
            let l : s ≡ t = omega (arith, b, ltb-false t s q) in
            subst (λ (k : ℕ). get_or two (lines p + k) 0 % 32768 ≡ get_or old (lines p + k) 0 % 32768) l (g.place ∙ ap (λ (n : ℕ). n % 32768) entry_at)
