-- Two arguments in lockstep: what is left of both answers as the whole.
use Prim.Native.Nat.{ℕ, suc, ◌+◌, ◌-◌, ◌≤◌, ◌<◌}
use native.Mathlib.Omega.{arith}
use mathlib.Core.Path.{◌≡◌, refl, sym, ap, subst, ◌∙◌}
use mathlib.Core.Bool.{Bool, true, false, true≢false, ◌&&◌, cond}
use mathlib.Core.List.{List, [], ◌∷◌, ◌++◌, append-nil, append_assoc}
use lib.Dec.{eqb}
use borrow.Author.Tests.{eq-eqb, eqb-true}
use lib.ListN.{length, get_or, drop, length-drop}
use lib.Seq.{drop-drop}
use Rattle.program.specs.Syntax.{Name, Terms, nil, symbol, variable, bracket, call, block}
use Rattle.program.specs.Encode.{put_terms}
use Rattle.program.specs.Limits.{Mode, ValidTerms}
use Rattle.image.specs.Parts.{Passes, TermsAt}
use Rattle.program.proofs.Lengths.{terms-length}
use Rattle.image.proofs.Readings.{fewer_around}
use Rattle.patterns.specs.Names.{caseless, eq_bytes}
use Rattle.patterns.specs.Symbols.{eq_symbol}
use Rattle.patterns.specs.Equality.{eq_span, eq_kind, eq_terms}
use Rattle.patterns.specs.Configuration.{position, seen_with, names_after, canonical_from, canonical_configuration, same_configuration}
use Rattle.image.specs.Parts.{closes_after}
use Rattle.configuration.specs.Lockstep.{after_token, same_token, first_name, Pair, pairs, alike, Step, StepAt, Path, names_met, Walked, WalkedTo}
use Rattle.configuration.proofs.Tokens.{mark, mark-is, symbol_low, kind_range, tokens_differ, token-less, names-together}
use Rattle.image.proofs.Closes.{closes_open, closes_close, closes_same}
use Rattle.configuration.proofs.Scan.{part, to_part, from_part}
use Rattle.configuration.proofs.Numbering.{Numbered, numbered-none, numbering_decides, numbered_more}

abbrev pub put_all : List Terms → List ℕ → List ℕ
put_all [] k = k
put_all (t ∷ ts) k = put_terms t (put_all ts k)

abbrev pub AllFit : List Terms → Type 0
AllFit [] = Unit {0}
AllFit (t ∷ ts) = ValidTerms t Mode.pattern 0 × AllFit ts

-- Two lists of sequences are the same once names are numbered.
pub same_all : List Terms → List Name → List Terms → List Name → Bool
same_all [] la [] lb = true
same_all [] la (u ∷ us) lb = false
same_all (t ∷ ts) la [] lb = false
same_all (t ∷ ts) la (u ∷ us) lb = eq_terms (canonical_from t la) (canonical_from u lb) && same_all ts (names_after t la) us (names_after u lb)

-- What is left behind the first token.
open_first : Terms → List Terms → List Terms
open_first nil ts = ts
open_first (symbol s x r) ts = r ∷ ts
open_first (variable s k n r) ts = r ∷ ts
open_first (bracket s i r) ts = i ∷ r ∷ ts
open_first (call s f a r) ts = ts
open_first (block s a b r) ts = ts

seen_all : List Name → List Name → List Name
seen_all [] l = l
seen_all (n ∷ ns) l = seen_with n l

same_positions : List Name → List Name → List Name → List Name → Bool
same_positions [] la k lb = true
same_positions (n ∷ ns) la [] lb = true
same_positions (n ∷ ns) la (m ∷ ms) lb = eqb (position n la) (position m lb)

and_symbol : (a b e r : Bool) → (a && (b && e)) && r ≡ (a && b) && (e && r)
and_symbol true true e r = refl
and_symbol true false e r = refl
and_symbol false b e r = refl

and_variable : (a k p e r : Bool) → (a && (k && ((p && true) && e))) && r ≡ (a && k) && (p && (e && r))
and_variable true true true e r = refl
and_variable true true false e r = refl
and_variable true false p e r = refl
and_variable false k p e r = refl

and_bracket : (a i e r : Bool) → (a && (i && e)) && r ≡ a && (i && (e && r))
and_bracket true true e r = refl
and_bracket true false e r = refl
and_bracket false i e r = refl

turn : (t u : Terms) (ts us : List Terms) (la lb : List Name)
    → same_all (t ∷ ts) la (u ∷ us) lb ≡ same_token t u && (same_positions (first_name t) la (first_name u) lb && same_all (open_first t ts) (seen_all (first_name t) la) (open_first u us) (seen_all (first_name u) lb))
unfolding same_all open_first seen_all same_positions eq_terms canonical_from names_after same_token first_name eq_bytes
turn nil nil ts us la lb = refl
turn nil (symbol z y u) ts us la lb = refl
turn nil (variable z l m u) ts us la lb = refl
turn nil (bracket z j u) ts us la lb = refl
turn nil (call z f₁ a₁ u) ts us la lb = refl
turn nil (block z a₁ b₁ u) ts us la lb = refl
turn (symbol s x r) nil ts us la lb = refl
turn (symbol s x r) (symbol z y u) ts us la lb = and_symbol (eq_span s z) (eq_symbol x y) (eq_terms (canonical_from r la) (canonical_from u lb)) (same_all ts (names_after r la) us (names_after u lb))
turn (symbol s x r) (variable z l m u) ts us la lb = refl
turn (symbol s x r) (bracket z j u) ts us la lb = refl
turn (symbol s x r) (call z f₁ a₁ u) ts us la lb = refl
turn (symbol s x r) (block z a₁ b₁ u) ts us la lb = refl
turn (variable s k n r) nil ts us la lb = refl
turn (variable s k n r) (symbol z y u) ts us la lb = refl
turn (variable s k n r) (variable z l m u) ts us la lb =
    and_variable (eq_span s z) (eq_kind k l) (eqb (position (caseless n) la) (position (caseless m) lb)) (eq_terms (canonical_from r (seen_with (caseless n) la)) (canonical_from u (seen_with (caseless m) lb))) (same_all ts (names_after r (seen_with (caseless n) la)) us (names_after u (seen_with (caseless m) lb)))
turn (variable s k n r) (bracket z j u) ts us la lb = refl
turn (variable s k n r) (call z f₁ a₁ u) ts us la lb = refl
turn (variable s k n r) (block z a₁ b₁ u) ts us la lb = refl
turn (bracket s i r) nil ts us la lb = refl
turn (bracket s i r) (symbol z y u) ts us la lb = refl
turn (bracket s i r) (variable z l m u) ts us la lb = refl
turn (bracket s i r) (bracket z j u) ts us la lb =
    and_bracket (eq_span s z) (eq_terms (canonical_from i la) (canonical_from j lb)) (eq_terms (canonical_from r (names_after i la)) (canonical_from u (names_after j lb))) (same_all ts (names_after r (names_after i la)) us (names_after u (names_after j lb)))
turn (bracket s i r) (call z f₁ a₁ u) ts us la lb = refl
turn (bracket s i r) (block z a₁ b₁ u) ts us la lb = refl
turn (call s f a r) w ts us la lb = refl
turn (block s a b r) w ts us la lb = refl

token-all : (t : Terms) (ts : List Terms) (k : List ℕ) → ValidTerms t Mode.pattern 0 → after_token t (put_all ts k) ≡ put_all (open_first t ts) k
unfolding after_token open_first
token-all nil ts k h = refl
token-all (symbol s x r) ts k h = refl
token-all (variable s v n r) ts k h = refl
token-all (bracket s i r) ts k h = refl
token-all (call s f a r) ts k h = absurd h.2
token-all (block s a b r) ts k h = absurd h.2

open_fits : (t : Terms) (ts : List Terms) → ValidTerms t Mode.pattern 0 → AllFit ts → AllFit (open_first t ts)
unfolding open_first
open_fits nil ts h g = g
open_fits (symbol s x r) ts h g = (h.2, g)
open_fits (variable s v n r) ts h g = (h.2, g)
open_fits (bracket s i r) ts h g = (fewer_around i Mode.pattern 1 0 (omega arith) h.2, (h.3, g))
open_fits (call s f a r) ts h g = absurd h.2
open_fits (block s a b r) ts h g = absurd h.2

open_count : (t : Terms) (ts : List Terms) (c : ℕ) → ValidTerms t Mode.pattern 0 → suc (length ts) ≡ c → length (open_first t ts) ≡ closes_after (mark t) c
unfolding open_first
open_count nil ts c h e = omega (arith, e, closes_close 15 c refl)
open_count (symbol s x r) ts c h e = e ∙ closes_same _ c (λ q. omega (arith, q, symbol_low x)) (λ q. omega (arith, q, symbol_low x))
open_count (variable s v n r) ts c h e = e ∙ closes_same _ c (λ q. omega (arith, q, kind_range v)) (λ q. omega (arith, q, kind_range v))
open_count (bracket s i r) ts c h e = omega (arith, e, closes_open 7 c refl)
open_count (call s f a r) ts c h e = absurd h.2
open_count (block s a b r) ts c h e = absurd h.2

pub closes_most : (m n : ℕ) → closes_after m n ≤ n + 1
unfolding closes_after
closes_most m n = by (eqb m 7) (eqb m 15)
  where
    by : (s t : Bool) → cond s (n + 1) (cond t (n - 1) n) ≤ n + 1
    by true t = omega arith
    by false true = omega arith
    by false false = omega arith

path-more : (a b : List ℕ) (ts : List Step) (x y i j : ℕ) (t : Step) → Path a b ts x y i j → StepAt a b i j t → Path a b (ts ++ (t ∷ [])) x y (i + t.first) (j + t.second)
path-more a b [] x y i j t p s =
    (subst (λ (k : ℕ). StepAt a b k y t) (sym p.0) (subst (λ (k : ℕ). StepAt a b i k t) (sym p.1) s), (ap (λ (k : ℕ). k + t.first) p.0, ap (λ (k : ℕ). k + t.second) p.1))
path-more a b (u ∷ ts) x y i j t p s = (p.0, path-more a b ts (x + u.first) (y + u.second) i j t p.1 s)

names_more : (ts : List Step) (t : Step) → names_met (ts ++ (t ∷ [])) ≡ names_met ts ++ t.names
unfolding names_met
names_more [] t = append-nil t.names
names_more (u ∷ ts) t = ap (λ (l : List Pair). u.names ++ l) (names_more ts t) ∙ sym (append_assoc u.names (names_met ts) t.names)

positions_alike : (l k : List Name) {ps : List Pair} {la lb : List Name} → Numbered ps la lb → same_positions l la k lb ≡ alike l k ps
unfolding same_positions alike
positions_alike [] k h = refl
positions_alike (n ∷ ns) [] h = refl
positions_alike (n ∷ ns) (m ∷ ms) h = numbering_decides n m h

numbered_next : (l k : List Name) {ps : List Pair} {la lb : List Name} → Numbered ps la lb → length l ≡ length k → alike l k ps ≡ true → Numbered (ps ++ pairs l k) (seen_all l la) (seen_all k lb)
unfolding alike pairs seen_all
numbered_next [] [] {ps} {la} {lb} h e t = subst (λ (z : List Pair). Numbered z la lb) (sym (append-nil ps)) h
numbered_next [] (m ∷ ms) h e t = absurd (omega (arith, e))
numbered_next (n ∷ ns) [] h e t = absurd (omega (arith, e))
numbered_next (n ∷ ns) (m ∷ ms) h e t = numbered_more n m h t

pub record Lockstep (a b : List ℕ) (i j closes : ℕ) (p : TermsAt Mode.pattern a) (q : TermsAt Mode.pattern b) : Type 0 where
  pub one : List Terms
  pub two : List Terms
  pub is_one : drop i a ≡ put_all one p.rest
  pub is-two : drop j b ≡ put_all two q.rest
  pub fits_one : AllFit one
  pub fits-two : AllFit two
  pub count-one : length one ≡ closes
  pub count-two : length two ≡ closes
  pub seen_one : List Name
  pub seen_two : List Name
  pub walked : Walked a b i j
  pub numbered : Numbered (names_met walked.steps) seen_one seen_two
  pub whole : same_configuration p.terms q.terms ≡ same_all one seen_one two seen_two

and_true : (x : Bool) → x ≡ x && true
and_true true = refl
and_true false = refl

pub lockstep_first : {a b : List ℕ} (p : TermsAt Mode.pattern a) (q : TermsAt Mode.pattern b) → Lockstep a b 0 0 1 p q
unfolding same_configuration canonical_configuration same_all names_met
lockstep_first p q = record {
  one = p.terms ∷ [];
  two = q.terms ∷ [];
  is_one = p.is;
  is-two = q.is;
  fits_one = (p.valid, tt);
  fits-two = (q.valid, tt);
  count-one = refl;
  count-two = refl;
  seen_one = [];
  seen_two = [];
  walked = record { steps = []; path = (refl, refl) };
  numbered = numbered-none;
  whole = and_true (eq_terms (canonical_from p.terms []) (canonical_from q.terms []));
}

pub record Top (l : List Terms) : Type 0 where
  pub first : Terms
  pub more : List Terms
  pub is : l ≡ first ∷ more

top_of : (l : List Terms) → 0 < length l → Top l
top_of [] h = absurd (omega (arith, h))
top_of (t ∷ ts) h = record { first = t; more = ts; is = refl }

module _ {a b : List ℕ} {i j closes : ℕ} {p : TermsAt Mode.pattern a} {q : TermsAt Mode.pattern b} (s : Lockstep a b i j closes p q) where
  pub lockstep_end : closes ≤ 0 → same_configuration p.terms q.terms ≡ true
  unfolding same_all
  lockstep_end l = s.whole ∙ go s.one s.two (omega (arith, l, s.count-one)) (omega (arith, l, s.count-two))
    where
      go : (l k : List Terms) → length l ≡ 0 → length k ≡ 0 → same_all l s.seen_one k s.seen_two ≡ true
      go [] [] d e = refl
      go [] (y ∷ k) d e = absurd (omega (arith, e))
      go (x ∷ l) k d e = absurd (omega (arith, d))

  module _ (h : 0 < closes) where
    pub top_one : Top s.one
    top_one = top_of s.one (omega (arith, h, s.count-one))

    pub top_two : Top s.two
    top_two = top_of s.two (omega (arith, h, s.count-two))

    fit_one : AllFit (top_one.first ∷ top_one.more)
    fit_one = subst AllFit top_one.is s.fits_one

    fit_two : AllFit (top_two.first ∷ top_two.more)
    fit_two = subst AllFit top_two.is s.fits-two

    pub fits-first : ValidTerms top_one.first Mode.pattern 0
    fits-first = fit_one.0

    pub fits-second : ValidTerms top_two.first Mode.pattern 0
    fits-second = fit_two.0

    pub one-is : drop i a ≡ put_terms top_one.first (put_all top_one.more p.rest)
    one-is = s.is_one ∙ ap (λ (l : List Terms). put_all l p.rest) top_one.is

    pub two_is : drop j b ≡ put_terms top_two.first (put_all top_two.more q.rest)
    two_is = s.is-two ∙ ap (λ (l : List Terms). put_all l q.rest) top_two.is

    abbrev pub one-here : TermsAt Mode.pattern (drop i a)
    one-here = record { terms = top_one.first; rest = put_all top_one.more p.rest; is = one-is; valid = fits-first }

    abbrev pub two_here : TermsAt Mode.pattern (drop j b)
    two_here = record { terms = top_two.first; rest = put_all top_two.more q.rest; is = two_is; valid = fits-second }

    abbrev pub one_part : TermsAt Mode.pattern (part a i)
    one_part = to_part a i one-here

    abbrev pub two_part : TermsAt Mode.pattern (part b j)
    two_part = to_part b j two_here

    pub here-within : (i < length a) × (j < length b)
    here-within = (
      omega (arith, ap length one-is, terms-length top_one.first (put_all top_one.more p.rest), length-drop i a),
      omega (arith, ap length two_is, terms-length top_two.first (put_all top_two.more q.rest), length-drop j b),
    )

    turned : same_configuration p.terms q.terms
        ≡ same_token top_one.first top_two.first && (same_positions (first_name top_one.first) s.seen_one (first_name top_two.first) s.seen_two && same_all (open_first top_one.first top_one.more) (seen_all (first_name top_one.first) s.seen_one) (open_first top_two.first top_two.more) (seen_all (first_name top_two.first) s.seen_two))
    turned =
        s.whole ∙ (ap (λ (l : List Terms). same_all l s.seen_one s.two s.seen_two) top_one.is ∙ (ap (λ (l : List Terms). same_all (top_one.first ∷ top_one.more) s.seen_one l s.seen_two) top_two.is
        ∙ turn top_one.first top_two.first top_one.more top_two.more s.seen_one s.seen_two))

    pub token-fails : same_token top_one.first top_two.first ≡ false → same_configuration p.terms q.terms ≡ false
    token-fails e = turned ∙ ap (λ (t : Bool). t && (same_positions (first_name top_one.first) s.seen_one (first_name top_two.first) s.seen_two && same_all (open_first top_one.first top_one.more) (seen_all (first_name top_one.first) s.seen_one) (open_first top_two.first top_two.more) (seen_all (first_name top_two.first) s.seen_two))) e

    module _ (t : same_token top_one.first top_two.first ≡ true) where
      marks-agree : mark top_one.first ≡ mark top_two.first
      marks-agree = by (eqb (mark top_one.first) (mark top_two.first)) refl
        where
          by : (z : Bool) → eqb (mark top_one.first) (mark top_two.first) ≡ z → mark top_one.first ≡ mark top_two.first
          by true e = eqb-true _ _ e
          by false e = absurd (true≢false (sym t ∙ tokens_differ top_one.first top_two.first fits-first fits-second (λ d. true≢false (sym (eq-eqb _ _ d) ∙ e))))

      pub marks-here : get_or (drop i a) 0 0 ≡ get_or (drop j b) 0 0
      marks-here = mark-is one-here ∙ (marks-agree ∙ sym (mark-is two_here))

      abbrev pub walked_here : WalkedTo a b i j
      walked_here = record { walked = s.walked; one = one-here; two = two_here; marks = marks-here }

      numbered-told : same_configuration p.terms q.terms
          ≡ alike (first_name top_one.first) (first_name top_two.first) (names_met s.walked.steps) && same_all (open_first top_one.first top_one.more) (seen_all (first_name top_one.first) s.seen_one) (open_first top_two.first top_two.more) (seen_all (first_name top_two.first) s.seen_two)
      numbered-told =
          let rest = same_all (open_first top_one.first top_one.more) (seen_all (first_name top_one.first) s.seen_one) (open_first top_two.first top_two.more) (seen_all (first_name top_two.first) s.seen_two) in
          turned ∙ (ap (λ (z : Bool). z && (same_positions (first_name top_one.first) s.seen_one (first_name top_two.first) s.seen_two && rest)) t
          ∙ ap (λ (z : Bool). z && rest) (positions_alike (first_name top_one.first) (first_name top_two.first) s.numbered))

      pub numbering-fails : alike (first_name top_one.first) (first_name top_two.first) (names_met s.walked.steps) ≡ false → same_configuration p.terms q.terms ≡ false
      numbering-fails e = numbered-told ∙ ap (λ (z : Bool). z && same_all (open_first top_one.first top_one.more) (seen_all (first_name top_one.first) s.seen_one) (open_first top_two.first top_two.more) (seen_all (first_name top_two.first) s.seen_two)) e

      module _ (e : alike (first_name top_one.first) (first_name top_two.first) (names_met s.walked.steps) ≡ true)
          (d : ℕ) (u : Passes (part a i) d (after_token top_one.first (put_all top_one.more p.rest))) (c : ℕ) (v : Passes (part b j) c (after_token top_two.first (put_all top_two.more q.rest))) where
        pub moves-on : (0 < d) × (i + d ≤ length a) × (j + c ≤ length b)
        moves-on =
            let x = from_part a i d u in
            let y = from_part b j c v in (
              omega (arith, x.fits, length-drop d (drop i a), ap length x.left, ap length one-is, token-less top_one.first (put_all top_one.more p.rest) fits-first),
              omega (arith, x.fits, length-drop i a, here-within.0),
              omega (arith, y.fits, length-drop j b, here-within.1),
            )

        pub lockstep-next : (n : ℕ) → n ≡ closes_after (get_or (part a i) 0 0) closes → Lockstep a b (i + d) (j + c) n p q
        lockstep-next n k =
            let x = from_part a i d u in
            let y = from_part b j c v in
            let st : Step = record { first = d; second = c; names = pairs (first_name top_one.first) (first_name top_two.first) } in
            let m : get_or (part a i) 0 0 ≡ mark top_one.first = mark-is one_part in
            record {
              one = open_first top_one.first top_one.more;
              two = open_first top_two.first top_two.more;
              is_one = sym (drop-drop d i a) ∙ (x.left ∙ token-all top_one.first top_one.more p.rest fits-first);
              is-two = sym (drop-drop c j b) ∙ (y.left ∙ token-all top_two.first top_two.more q.rest fits-second);
              fits_one = open_fits top_one.first top_one.more fits-first fit_one.1;
              fits-two = open_fits top_two.first top_two.more fits-second fit_two.1;
              count-one = open_count top_one.first top_one.more closes fits-first (sym (ap length top_one.is) ∙ s.count-one) ∙ (ap (λ (z : ℕ). closes_after z closes) (sym m) ∙ sym k);
              count-two = open_count top_two.first top_two.more closes fits-second (sym (ap length top_two.is) ∙ s.count-two) ∙ (ap (λ (z : ℕ). closes_after z closes) (sym marks-agree ∙ sym m) ∙ sym k);
              seen_one = seen_all (first_name top_one.first) s.seen_one;
              seen_two = seen_all (first_name top_two.first) s.seen_two;
              walked = record {
                steps = s.walked.steps ++ (st ∷ []);
                path = path-more a b s.walked.steps 0 0 i j st s.walked.path (record { one = one-here; two = two_here; past_one = x; past_two = y; moves = moves-on.0; names = refl; together = names-together top_one.first top_two.first marks-agree });
              };
              numbered = subst (λ (z : List Pair). Numbered z (seen_all (first_name top_one.first) s.seen_one) (seen_all (first_name top_two.first) s.seen_two)) (sym (names_more s.walked.steps st))
                  (numbered_next (first_name top_one.first) (first_name top_two.first) s.numbered (names-together top_one.first top_two.first marks-agree) e);
              whole = numbered-told ∙ ap (λ (z : Bool). z && same_all (open_first top_one.first top_one.more) (seen_all (first_name top_one.first) s.seen_one) (open_first top_two.first top_two.more) (seen_all (first_name top_two.first) s.seen_two)) e;
            }
