-- Steps of the walk: the ends of a split one at a time, and steps in a row.
use Prim.Native.Nat.{ℕ, suc, ◌+◌, ◌≤◌}
use native.Mathlib.Omega.{arith}
use mathlib.Core.Path.{◌≡◌, refl, sym, ap, ap₂, ◌∙◌, subst}
use mathlib.Core.Bool.{Bool, true, false}
use mathlib.Core.List.{List, [], ◌++◌, append_assoc}
use lib.ListN.{length, get_or, drop, length-drop}
use Rattle.program.specs.Syntax.{Terms}
use Rattle.program.specs.Encode.{put_terms}
use Rattle.program.specs.Limits.{Mode}
use Rattle.image.specs.Parts.{Passes, TermsAt, tail}
use Rattle.patterns.specs.declared.Found.{Found}
use Rattle.patterns.specs.Search.{sequence}
use Rattle.patterns.proofs.Fuel.{fuel-falls}
use Rattle.image.proofs.Readings.{one-reading}
use Rattle.overlap.specs.Steps.{is_overlap}
use Rattle.overlap.specs.Way.{End, Next, Fails, fails-none, fails_more}
use Rattle.rows.proofs.Readings.{part, at_part, mark_in, place_after, after_term, is-empty, is_not_empty}
use Rattle.text.specs.Fill.{limit}
use Rattle.text.specs.Written.{written}
use Rattle.text.specs.declared.writer.Writer.{Writer}
use Rattle.text.proofs.Written.{written-nothing, both}
use Rattle.expression.specs.declared.walk.Ends.{Ends}
use Rattle.expression.specs.declared.walk.Step.{Step}
use Rattle.expression.specs.Free.{first_bytes}
use Rattle.expression.specs.Walk.{meet_bytes, split_bytes, Stepped, Followed}
use Rattle.expression.proofs.Meeting.{meet-nothing, split_meets, split_fails, split_takes}
use Rattle.expression.proofs.Freeing.{rest_of, rest-fits, front_fits}

-- ---- the ends of a split

-- The ends before `right` did not meet the rest r: their first terms have been written, and what follows makes up the whole.
pub record Absorbing (b : List ℕ) (first : Writer) (other fuel : ℕ) (swapped : Bool) (r : Terms) (whole : List ℕ) (right f : ℕ) (now : Writer) : Type 0 where
  pub there : TermsAt Mode.pattern (drop right b)
  pub text : List ℕ
  pub wrote : now ≡ written first text
  pub is : whole ≡ text ++ split_bytes swapped f r there.terms
  pub further : other ≤ right
  pub less : f ≤ fuel

pub absorbing-first : (b : List ℕ) (first : Writer) (other fuel : ℕ) (swapped : Bool) (r : Terms) (y : TermsAt Mode.pattern (drop other b)) → Absorbing b first other fuel swapped r (split_bytes swapped fuel r y.terms) other fuel first
absorbing-first b first other fuel swapped r y = record { there = y; text = []; wrote = written-nothing first; is = refl; further = omega arith; less = omega arith }

module _ {b whole : List ℕ} {first now : Writer} {other fuel right f : ℕ} {swapped : Bool} {r : Terms} (w : Absorbing b first other fuel swapped r whole right f now)
    (q : Found) (asked : q ≡ sequence f r w.there.terms) where
  abbrev o : Terms
  o = w.there.terms

  onto : {rest : List ℕ} → split_bytes swapped f r o ≡ rest → whole ≡ w.text ++ rest
  onto e = w.is ∙ ap (λ (l : List ℕ). w.text ++ l) e

  pub absorbing-meets : is_overlap q.verdict ≡ true → whole ≡ w.text ++ meet_bytes swapped f r o
  absorbing-meets h = onto (split_meets swapped f r o q asked h)

  module _ (h : is_overlap q.verdict ≡ false) where
    pub absorbing-fails : get_or (part b right) 0 0 ≡ 15 → whole ≡ w.text ++ meet_bytes swapped 0 r o
    absorbing-fails m = onto (split_fails swapped f r o q asked h (is-empty (at_part b right w.there) m) ∙ sym (meet-nothing swapped r o))

    module _ (m : get_or (part b right) 0 0 ≡ 15 → ⊥) where
      takes : split_bytes swapped f r o ≡ first_bytes o ++ split_bytes swapped q.fuel r (tail o)
      takes = split_takes swapped f r o q asked h (is_not_empty (at_part b right w.there) m)

      pub absorbing-short : first.filled + length whole ≤ limit → now.filled + length (first_bytes o) ≤ limit
      absorbing-short l = front_fits now.filled (first_bytes o) (split_bytes swapped q.fuel r (tail o)) takes (rest-fits first w.text (split_bytes swapped f r o) w.wrote w.is l)

      pub absorbing-next : (n : ℕ) (after : Writer) → Passes (part b right) n (put_terms (tail o) w.there.rest) → after ≡ written now (first_bytes o)
          → Absorbing b first other fuel swapped r whole (right + n) q.fuel after
      absorbing-next n after k e = record {
        there = after_term b right n w.there k;
        text = w.text ++ first_bytes o;
        wrote = both first w.text (first_bytes o) w.wrote e;
        is = rest_of w.text (first_bytes o) (split_bytes swapped q.fuel r (tail o)) w.is takes;
        further = omega (arith, w.further);
        less = omega (arith, w.less, fuel-falls f r o, ap (λ (z : Found). z.fuel) asked);
      }

-- ---- an end that is known

-- The terms before `right` have been written, and the ends from there on fail up to the one that is taken.
pub record Following (b : List ℕ) (first : Writer) (other fuel : ℕ) (swapped : Bool) (r : Terms) (whole : List ℕ) (e : End) (right : ℕ) (now : Writer) : Type 0 where
  pub f : ℕ
  pub absorbing : Absorbing b first other fuel swapped r whole right f now
  pub fails : Fails b r e f right

-- Which end it is: the place tells.
pub record Failed (b : List ℕ) (r : Terms) (e : End) (f i : ℕ) : Type 0 where
  pub next : ℕ
  pub beyond : Next b i next
  pub more : get_or b i 0 ≡ 15 → ⊥
  pub fails : is_overlap (sequence f r beyond.there.terms).verdict ≡ false
  pub rest : Fails b r e (sequence f r beyond.there.terms).fuel next

pub fails_forward : {b : List ℕ} {r : Terms} {e : End} {f i : ℕ} → Fails b r e f i → i ≤ e.place
fails_forward fails-none = omega arith
fails_forward (fails_more n m l h c) = omega (arith, l, fails_forward c)

pub fails-here : {b : List ℕ} {r : Terms} {e : End} {f i : ℕ} → Fails b r e f i → i ≡ e.place → f ≡ e.fuel
fails-here fails-none z = refl
fails-here (fails_more n m l h c) z = absurd (omega (arith, l, z, fails_forward c))

pub fails-on : {b : List ℕ} {r : Terms} {e : End} {f i : ℕ} → Fails b r e f i → (i ≡ e.place → ⊥) → Failed b r e f i
fails-on fails-none d = absurd (d refl)
fails-on (fails_more n m l h c) d = record { next = _; beyond = n; more = m; fails = h; rest = c }

-- The place behind a term is one.
pub next-same : {b : List ℕ} {i k l : ℕ} → Next b i k → Next b i l → k ≡ l
next-same {b} {i} {k} {l} x y =
    let e = one-reading x.there y.there in
    let z : drop k b ≡ drop l b = x.is ∙ ap₂ (λ (t : Terms) (s : List ℕ). put_terms (tail t) s) e.0 e.1 ∙ sym y.is in
    omega (arith, ap length z, length-drop k b, length-drop l b, x.within, y.within)

same_at : (b : List ℕ) (i k : ℕ) → i ≡ k → (x : TermsAt Mode.pattern (drop i b)) (y : TermsAt Mode.pattern (drop k b)) → x.terms ≡ y.terms
same_at b i k e = subst (λ (n : ℕ). (x : TermsAt Mode.pattern (drop i b)) (y : TermsAt Mode.pattern (drop n b)) → x.terms ≡ y.terms) e (λ x y. (one-reading x y).0)

pub following_first : (b : List ℕ) (first : Writer) (other fuel : ℕ) (swapped : Bool) (x : Terms) (y : TermsAt Mode.pattern (drop other b)) (e : End) → Fails b x e fuel other
    → Following b first other fuel swapped x (split_bytes swapped fuel x y.terms) e other first
following_first b first other fuel swapped x y e c = record { f = fuel; absorbing = absorbing-first b first other fuel swapped x y; fails = c }

module _ {b whole : List ℕ} {first now : Writer} {other fuel right : ℕ} {swapped : Bool} {r : Terms} {e : End} (s : Following b first other fuel swapped r whole e right now) where
  abbrev w : Absorbing b first other fuel swapped r whole right s.f now
  w = s.absorbing

  abbrev end : Terms
  end = s.absorbing.there.terms

  -- It has come to the end that is taken.
  pub following_ends : right ≡ e.place → (q : TermsAt Mode.pattern (drop e.place b)) → is_overlap (sequence e.fuel r q.terms).verdict ≡ true → Followed b first other whole swapped r e now
  following_ends z q m =
      let g = fails-here s.fails z in
      let t = same_at b right e.place z w.there q in
      record {
        text = w.text;
        wrote = w.wrote;
        there = q;
        is = absorbing-meets w (sequence s.f r end) refl (ap₂ (λ (f : ℕ) (u : Terms). is_overlap (sequence f r u).verdict) g t ∙ m) ∙ ap₂ (λ (f : ℕ) (u : Terms). w.text ++ meet_bytes swapped f r u) g t;
        further = omega (arith, w.further, z);
      }

  module _ (d : right ≡ e.place → ⊥) where
    abbrev failed : Failed b r e s.f right
    failed = fails-on s.fails d

    same : failed.beyond.there.terms ≡ end
    same = (one-reading failed.beyond.there w.there).0

    apart : is_overlap (sequence s.f r end).verdict ≡ false
    apart = ap (λ (u : Terms). is_overlap (sequence s.f r u).verdict) (sym same) ∙ failed.fails

    pub following_more : get_or (part b right) 0 0 ≡ 15 → ⊥
    following_more m = failed.more (sym (mark_in b right) ∙ m)

    pub following_short : first.filled + length whole ≤ limit → now.filled + length (first_bytes end) ≤ limit
    following_short l = absorbing-short w (sequence s.f r end) refl apart following_more l

    pub following_next : (n : ℕ) (after : Writer) → right + n ≤ length b → Passes (part b right) n (put_terms (tail end) w.there.rest) → after ≡ written now (first_bytes end)
        → Following b first other fuel swapped r whole e (right + n) after
    following_next n after l k h = record {
      f = (sequence s.f r end).fuel;
      absorbing = absorbing-next w (sequence s.f r end) refl apart following_more n after k h;
      fails =
          subst (λ (i : ℕ). Fails b r e (sequence s.f r end).fuel i) (next-same failed.beyond (record { there = w.there; is = place_after b right n w.there k; within = l }))
          (subst (λ (u : Terms). Fails b r e (sequence s.f r u).fuel failed.next) same failed.rest);
    }

-- ---- steps in a row

pub stepped_first : (b : List ℕ) (before : Writer) (left right fuel : ℕ) (ends : Ends) (swapped : Bool) (x : TermsAt Mode.pattern (drop left b)) (y : TermsAt Mode.pattern (drop right b))
    → Stepped b before (left + right) fuel (meet_bytes swapped fuel x.terms y.terms) (record { left = left; right = right; swapped = swapped; fuel = fuel; ends = ends }) before
stepped_first b before left right fuel ends swapped x y = record { text = []; wrote = written-nothing before; first = x; second = y; is = refl; further = omega arith; less = omega arith }

-- The same step, of a whole by another name.
pub stepped_as : {b whole other : List ℕ} {before after : Writer} {from behind fuel : ℕ} {r : Step} → whole ≡ other → from ≤ behind → Stepped b before behind fuel other r after → Stepped b before from fuel whole r after
stepped_as e l s = record { text = s.text; wrote = s.wrote; first = s.first; second = s.second; is = e ∙ s.is; further = omega (arith, l, s.further); less = s.less }

-- A step, and then another from where it led.
pub stepped_on : {b whole : List ℕ} {before mid after : Writer} {from fuel f : ℕ} {r t : Step} (s : Stepped b before from fuel whole r mid) → r.fuel ≡ suc f
    → Stepped b mid (r.left + r.right) f (meet_bytes r.swapped (suc f) s.first.terms s.second.terms) t after → Stepped b before from fuel whole t after
stepped_on {before = before} {r = r} {t = t} s e n = record {
  text = s.text ++ n.text;
  wrote = both before s.text n.text s.wrote n.wrote;
  first = n.first;
  second = n.second;
  is =
      s.is
      ∙ ap (λ (k : ℕ). s.text ++ meet_bytes r.swapped k s.first.terms s.second.terms) e
      ∙ ap (λ (l : List ℕ). s.text ++ l) n.is
      ∙ sym (append_assoc s.text n.text (meet_bytes t.swapped t.fuel n.first.terms n.second.terms));
  further = omega (arith, s.further, n.further);
  less = omega (arith, s.less, n.less, e);
}

-- What is left fits, since the whole does.
pub stepped_short : {b whole : List ℕ} {before after : Writer} {from fuel f : ℕ} {r : Step} (s : Stepped b before from fuel whole r after) → r.fuel ≡ suc f → before.filled + length whole ≤ limit
    → after.filled + length (meet_bytes r.swapped (suc f) s.first.terms s.second.terms) ≤ limit
stepped_short {before = before} {r = r} s e l =
    let k = rest-fits before s.text (meet_bytes r.swapped r.fuel s.first.terms s.second.terms) s.wrote s.is l in
    omega (arith, k, ap (λ (k : ℕ). length (meet_bytes r.swapped k s.first.terms s.second.terms)) e)
