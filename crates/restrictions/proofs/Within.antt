-- Terms from a place within brackets on: those of the bracket around it, and those after each bracket that is still open.
use Prim.Native.Nat.{ℕ, suc, ◌+◌, ◌-◌, ◌<◌, ◌≤◌}
use native.Mathlib.Omega.{arith}
use mathlib.Core.Path.{◌≡◌, refl, sym, ap, subst, ◌∙◌}
use mathlib.Core.Bool.{Bool, true, false, ◌&&◌, and_assoc}
use mathlib.Core.List.{List, [], ◌∷◌}
use borrow.Author.Tests.{eqb-true, eqb-false}
use lib.Dec.{eqb}
use lib.ListN.{length, get_or, drop, length-drop}
use Rattle.program.specs.Syntax.{Terms, nil}
use Rattle.program.specs.Bytes.{put32, put_span}
use Rattle.program.specs.Encode.{put_terms}
use Rattle.program.specs.Limits.{Mode, ValidTerms}
use Rattle.image.specs.Parts.{Passes, TermsAt, tail}
use Rattle.program.proofs.Lengths.{terms-length}
use Rattle.image.proofs.Readings.{fewer_around}
use Rattle.symbols.proofs.Parts.{part_rest}
use Rattle.rows.proofs.Readings.{part, part_length, part_part, tail-valid}
use Rattle.configuration.proofs.Lockstep.{put_all}
use Rattle.meaning.specs.Lists.{all}
use Rattle.meaning.specs.Sites.{restriction_is_characterisable}
use Rattle.restrictions.proofs.Marks.{IsBracket, IsFlat, at-close, at_bracket, at_call, at_block, at_flat, tail-less}

abbrev pub AllValid : List Terms → Type 0
AllValid [] = Unit {0}
AllValid (t ∷ ts) = ValidTerms t Mode.result 0 × AllValid ts

pub record Within (s : List ℕ) (i closes : ℕ) (t : TermsAt Mode.result s) : Type 0 where
  pub first : Terms
  pub more : List Terms
  pub is : part s i ≡ put_terms first (put_all more t.rest)
  pub valid : ValidTerms first Mode.result 0
  pub valid-more : AllValid more
  pub count : closes ≡ suc (length more)
  pub whole : restriction_is_characterisable t.terms ≡ restriction_is_characterisable first && all restriction_is_characterisable more

and_true : (b : Bool) → b ≡ b && true
and_true true = refl
and_true false = refl

pub within_first : {s : List ℕ} (t : TermsAt Mode.result s) → Within s 0 1 t
unfolding all
within_first {s} t = record {
  first = t.terms;
  more = [];
  is = part_rest s 0 ∙ t.is;
  valid = t.valid;
  valid-more = tt;
  count = refl;
  whole = and_true (restriction_is_characterisable t.terms);
}

module _ {s : List ℕ} {i closes : ℕ} {t : TermsAt Mode.result s} (w : Within s i closes t) where
  abbrev pub within-terms : TermsAt Mode.result (part s i)
  within-terms = record { terms = w.first; rest = put_all w.more t.rest; is = w.is; valid = w.valid }

  pub within-room : 0 < length (part s i)
  within-room = omega (arith, ap length w.is, terms-length w.first (put_all w.more t.rest))

  mark_of : get_or (part s i) 0 0 ≡ get_or (put_terms w.first (put_all w.more t.rest)) 0 0
  mark_of = ap (λ (l : List ℕ). get_or l 0 0) w.is

  bracket-here : get_or (part s i) 0 0 ≡ 7 → IsBracket w.first
  bracket-here m = at_bracket (put_all w.more t.rest) w.first (sym mark_of ∙ m)

  within-call : get_or (part s i) 0 0 ≡ 8 → restriction_is_characterisable t.terms ≡ false
  unfolding restriction_is_characterisable
  within-call m =
      let h = at_call (put_all w.more t.rest) w.first (sym mark_of ∙ m) in
      w.whole ∙ ap (λ (f : Terms). restriction_is_characterisable f && all restriction_is_characterisable w.more) h.is

  within_block : get_or (part s i) 0 0 ≡ 9 → restriction_is_characterisable t.terms ≡ false
  unfolding restriction_is_characterisable
  within_block m =
      let h = at_block (put_all w.more t.rest) w.first (sym mark_of ∙ m) in
      w.whole ∙ ap (λ (f : Terms). restriction_is_characterisable f && all restriction_is_characterisable w.more) h.is

  -- Either of them.
  pub within-active : 8 ≤ get_or (part s i) 0 0 → get_or (part s i) 0 0 < 10 → restriction_is_characterisable t.terms ≡ false
  within-active l u = go (eqb (get_or (part s i) 0 0) 8) refl
    where
      go : (b : Bool) → eqb (get_or (part s i) 0 0) 8 ≡ b → restriction_is_characterisable t.terms ≡ false
      go true e = within-call (eqb-true (get_or (part s i) 0 0) 8 e)
      go false e = within_block (let d : get_or (part s i) 0 0 ≡ 8 → ⊥ = eqb-false (get_or (part s i) 0 0) 8 e in omega (arith, l, u, d))

  pub within-bracket : get_or (part s i) 0 0 ≡ 7 → Within s (i + 9) (closes + 1) t
  unfolding put_terms put_span put32 restriction_is_characterisable all
  within-bracket m =
      let h = bracket-here m in
      let v = subst (λ (f : Terms). ValidTerms f Mode.result 0) h.is w.valid in
      record {
        first = h.inside;
        more = h.rest ∷ w.more;
        is = sym (part_part s i 9) ∙ ap (drop 9) (w.is ∙ ap (λ (f : Terms). put_terms f (put_all w.more t.rest)) h.is);
        valid = fewer_around h.inside Mode.result 1 0 (omega arith) v.2;
        valid-more = (v.3, w.valid-more);
        count = omega (arith, w.count);
        whole = w.whole ∙ ap (λ (f : Terms). restriction_is_characterisable f && all restriction_is_characterisable w.more) h.is ∙ and_assoc (restriction_is_characterisable h.inside) (restriction_is_characterisable h.rest) (all restriction_is_characterisable w.more);
      }

  pub bracket-fits : get_or (part s i) 0 0 ≡ 7 → i ≤ length s → i + 9 ≤ length s
  unfolding put_terms put_span put32
  bracket-fits m l = let h = bracket-here m in omega (arith, part_length s i, ap length (w.is ∙ ap (λ (f : Terms). put_terms f (put_all w.more t.rest)) h.is))

  module _ (m : get_or (part s i) 0 0 ≡ 15) where
    closed : w.first ≡ nil
    closed = at-close (put_all w.more t.rest) w.first (sym mark_of ∙ m)

    closed_rest : part s (i + 1) ≡ put_all w.more t.rest
    unfolding put_terms
    closed_rest = sym (part_part s i 1) ∙ ap (drop 1) (w.is ∙ ap (λ (f : Terms). put_terms f (put_all w.more t.rest)) closed)

    closed_whole : restriction_is_characterisable t.terms ≡ all restriction_is_characterisable w.more
    unfolding restriction_is_characterisable
    closed_whole = w.whole ∙ ap (λ (f : Terms). restriction_is_characterisable f && all restriction_is_characterisable w.more) closed

    pub within-last : closes ≡ 1 → restriction_is_characterisable t.terms ≡ true
    unfolding all
    within-last e = closed_whole ∙ go w.more (omega (arith, w.count))
      where
        go : (l : List Terms) → length l ≡ 0 → all restriction_is_characterisable l ≡ true
        go [] e = refl
        go (x ∷ l) e = absurd (omega arith)

    pub within-close : (closes ≡ 1 → ⊥) → Within s (i + 1) (closes - 1) t
    unfolding all
    within-close n = go w.more refl
      where
        go : (l : List Terms) → w.more ≡ l → Within s (i + 1) (closes - 1) t
        go [] e = absurd (n (w.count ∙ ap (λ (z : List Terms). suc (length z)) e))
        go (x ∷ l) e =
            let v = subst AllValid e w.valid-more in
            record {
              first = x;
              more = l;
              is = closed_rest ∙ ap (λ (z : List Terms). put_all z t.rest) e;
              valid = v.0;
              valid-more = v.1;
              count = omega (arith, w.count, ap length e);
              whole = closed_whole ∙ ap (all restriction_is_characterisable) e;
            }

  module _ (n7 : get_or (part s i) 0 0 ≡ 7 → ⊥) (n8 : get_or (part s i) 0 0 ≡ 8 → ⊥) (n9 : get_or (part s i) 0 0 ≡ 9 → ⊥) (n15 : get_or (part s i) 0 0 ≡ 15 → ⊥)
      (n : ℕ) (h : Passes (part s i) n (put_terms (tail w.first) (put_all w.more t.rest))) where
    flat : IsFlat w.first
    flat = at_flat (put_all w.more t.rest) w.first (λ e. n7 (mark_of ∙ e)) (λ e. n8 (mark_of ∙ e)) (λ e. n9 (mark_of ∙ e)) (λ e. n15 (mark_of ∙ e))

    pub within_flat : Within s (i + n) closes t
    within_flat = record {
      first = tail w.first;
      more = w.more;
      is = sym (part_part s i n) ∙ h.left;
      valid = tail-valid w.first Mode.result 0 w.valid;
      valid-more = w.valid-more;
      count = w.count;
      whole = w.whole ∙ ap (λ (b : Bool). b && all restriction_is_characterisable w.more) flat.plain;
    }

    pub flat_fits : i ≤ length s → (i + n ≤ length s) × (0 < n)
    flat_fits l = (
      omega (arith, h.fits, part_length s i),
      omega (arith, h.fits, tail-less (put_all w.more t.rest) w.first (λ e. n15 (mark_of ∙ e)), length-drop n (part s i), ap length h.left, ap length w.is),
    )
