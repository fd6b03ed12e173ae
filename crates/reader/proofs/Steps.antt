-- What a step of the reader says of the automaton's turn, mark by mark.
use Prim.Native.Nat.{ℕ, zero, suc, ◌+◌, ◌-◌, ◌≤◌, ◌<◌}
use native.Mathlib.Omega.{arith}
use native.Mathlib.Numerals.{add-one}
use mathlib.Core.Path.{◌≡◌, refl, sym, ap, subst, ◌∙◌}
use mathlib.Core.Bool.{Bool, true, false}
use mathlib.Core.List.{List, [], ◌∷◌}
use lib.ListN.{length, get_or, drop, length-drop}
use lib.Dec.{ltb, leb}
use borrow.Author.Tests.{lt-ltb, le-ltb, le-leb, ltb-true, ltb-false, leb-true}
use Rattle.std.specs.Prelude.{Result, Ok, Err}
use Rattle.program.specs.declared.Refusal.{Refusal}
use Rattle.program.specs.Syntax.{Span}
use Rattle.program.specs.Bytes.{get32, get_span}
use Rattle.program.specs.Limits.{pick, allowed}
use Rattle.program.specs.Automaton.{Stack, Values, Turn, spanned, wrong, Scan, scan, scanned, named, turn}
use Rattle.reader.specs.Steps.{refusal, refusal_of, span_refusal, step_of, span_step, name_refusal, name_step, push, frame_on, pushed, Refuses, Goes, DoesAt, Does}
use Rattle.reader.specs.declared.turns.Frame.{Frame}
use Rattle.reader.specs.declared.turns.Frames.{Frames}
use Rattle.reader.specs.declared.turns.Push.{Push}
use Rattle.program.proofs.Numbers.{get32-drop}
use Rattle.program.proofs.Sound.{scan_good}

-- The bytes after p.
abbrev rest : List ℕ → ℕ → List ℕ
rest b p = drop (suc p) b

rest-length : (b : List ℕ) (p : ℕ) → length (rest b p) ≡ length b - (p + 1)
rest-length b p = length-drop (suc p) b ∙ omega arith

rest-first : (b : List ℕ) (p : ℕ) → get32 (rest b p) 0 ≡ get32 b (p + 1)
rest-first b p = sym (get32-drop b (suc p) 0) ∙ ap (get32 b) (omega arith)

rest-second : (b : List ℕ) (p : ℕ) → get32 (rest b p) 4 ≡ get32 b (p + 1 + 4)
rest-second b p = sym (get32-drop b (suc p) 4) ∙ ap (get32 b) (omega arith)

module _ (b : List ℕ) (p : ℕ) (y x : Stack) (fs : Frames) (hp : p < length b)
    (h : Span → Values (pushed fs x) → Values y)
    (turns : turn y (get_or b p 0) (rest b p) ≡ spanned (rest b p) (λ q. Turn.go (pushed fs x) 8 (h q))) where
  span_cut : length b < p + 1 + 8 → Refuses b p y (refusal 5 (length b))
  unfolding spanned
  span_cut l =
      let z : length b - length b ≡ 0 = omega arith in
      record {
        within = omega arith;
        is = turns ∙ rw (lt-ltb (length (rest b p)) 8 (omega (arith, rest-length b p)), z);
      }

  span-wrong : p + 1 + 8 ≤ length b → get32 b (p + 1 + 4) < get32 b (p + 1) → Refuses b p y (refusal 8 (p + 1))
  unfolding spanned
  span-wrong l w =
      record {
        within = omega arith;
        is = turns ∙ rw (le-ltb (length (rest b p)) 8 (omega (arith, rest-length b p)), rest-first b p, rest-second b p, lt-ltb _ _ w, rest-length b p);
      }

  span_fine : p + 1 + 8 ≤ length b → get32 b (p + 1) ≤ get32 b (p + 1 + 4) → Goes b p y x (push (p + 9) fs)
  unfolding spanned
  span_fine l w =
      let z : p + 9 - suc p ≡ 8 = omega arith in
      record {
        ahead = omega arith;
        within = omega arith;
        make = h (get_span (rest b p) 0);
        is = turns ∙ rw (le-ltb (length (rest b p)) 8 (omega (arith, rest-length b p)), rest-first b p, rest-second b p, le-ltb _ _ w, z);
      }

  pub span-at : {r : Result Push Refusal} → r ≡ span_step b p fs → DoesAt b p y x r
  unfolding span_step span_refusal step_of
  span-at {r} q = subst (DoesAt b p y x) (sym q) (by (ltb (length b) (p + 1 + 8)) (ltb (get32 b (p + 1 + 4)) (get32 b (p + 1))) refl refl)
    where
      by : (s t : Bool) → ltb (length b) (p + 1 + 8) ≡ s → ltb (get32 b (p + 1 + 4)) (get32 b (p + 1)) ≡ t
          → DoesAt b p y x (step_of (pick s (Err (refusal 5 (length b))) (pick t (Err (refusal 8 (p + 1))) (Ok (tt {0})))) (push (p + 9) fs))
      by true t u v = span_cut (ltb-true _ _ u)
      by false true u v = span-wrong (ltb-false _ _ u) (ltb-true _ _ v)
      by false false u v = span_fine (ltb-false _ _ u) (ltb-false _ _ v)

pub bad_at : (b : List ℕ) (p : ℕ) (y x : Stack) (n : ℕ) → p < length b → turn y (get_or b p 0) (rest b p) ≡ wrong n (rest b p) → {r : Result Push Refusal} → r ≡ Err (refusal n p) → DoesAt b p y x r
unfolding wrong
bad_at b p y x n hp turns {r} q =
    subst (DoesAt b p y x) (sym q)
    (record { within = omega arith; is = turns ∙ ap (Turn.refuse n) (omega (arith, rest-length b p)) })

-- The same with a frame on top.
pub span_does : (b : List ℕ) (p : ℕ) (e : Frame) (fs : Frames) → p < length b → (h : (x : Stack) → Span → Values (pushed fs x) → Values (frame_on e x))
    → ((x : Stack) → turn (frame_on e x) (get_or b p 0) (rest b p) ≡ spanned (rest b p) (λ q. Turn.go (pushed fs x) 8 (h x q)))
    → {r : Result Push Refusal} → r ≡ span_step b p fs → Does b p e r
span_does b p e fs hp h turns q = λ x. span-at b p (frame_on e x) x fs hp (h x) (turns x) q

pub bad_does : (b : List ℕ) (p : ℕ) (e : Frame) (n : ℕ) → p < length b → ((x : Stack) → turn (frame_on e x) (get_or b p 0) (rest b p) ≡ wrong n (rest b p)) → {r : Result Push Refusal} → r ≡ Err (refusal n p) → Does b p e r
bad_does b p e n hp turns q = λ x. bad_at b p (frame_on e x) x n hp (turns x) q

pub go_does : (b : List ℕ) (p : ℕ) (e : Frame) (fs : Frames) → p < length b
    → ((x : Stack) → (k : Values (pushed fs x) → Values (frame_on e x)) × (turn (frame_on e x) (get_or b p 0) (rest b p) ≡ Turn.go (pushed fs x) 0 k))
    → {r : Result Push Refusal} → r ≡ Ok (push (p + 1) fs) → Does b p e r
go_does b p e fs hp turns {r} q = λ x.
    let z : p + 1 - suc p ≡ 0 = omega arith in
    let t = turns x in
    subst (DoesAt b p (frame_on e x) x) (sym q)
    (record {
      ahead = omega arith;
      within = omega arith;
      make = t.0;
      is = t.1 ∙ ap (λ (w : ℕ). Turn.go (pushed fs x) w t.0) (sym z);
    })

scan_bad : (g : Bool) (n : ℕ) (s : List ℕ) (m l : ℕ) → scan g n s ≡ Scan.refuse m l → l ≤ length s
unfolding scan
scan_bad g zero s m l e = cc
scan_bad g (suc n) [] m l e = let v : 0 ≡ l = cc in omega arith
scan_bad g (suc n) (b ∷ s) m l e = by (scan_bad g n s m l) (allowed g b) e
  where
    by : (scan g n s ≡ Scan.refuse m l → l ≤ length s) → (t : Bool) → pick t (scan g n s) (Scan.refuse 6 (suc (length s))) ≡ Scan.refuse m l → l ≤ suc (length s)
    by ih true q = let r = ih q in omega arith
    by ih false q = let v : suc (length s) ≡ l = cc in omega arith

module _ (b : List ℕ) (p : ℕ) (g : Bool) (e : Frame) (fs : Frames) (hp : p < length b)
    (h : (x : Stack) → Values (pushed fs x) → Values (frame_on e x))
    (turns : (x : Stack) → turn (frame_on e x) (get_or b p 0) (rest b p) ≡ named g (get_or b p 0) (rest b p) (Turn.go (pushed fs x) (get_or b p 0) (h x))) where
  name-wrong : ((x : Stack) → turn (frame_on e x) (get_or b p 0) (rest b p) ≡ wrong 6 (rest b p)) → Does b p e (Err (refusal 6 p))
  name-wrong t = bad_does b p e 6 hp t refl

  name-scan : (s : Scan) → scan g (get_or b p 0) (rest b p) ≡ s → 0 < get_or b p 0 → get_or b p 0 ≤ 63
      → Does b p e (step_of (refusal_of (length b) s) (push (p + 1 + get_or b p 0) fs))
  unfolding step_of refusal_of named scanned
  name-scan (Scan.refuse m l) q h0 h63 = λ x.
      let w = scan_bad g (get_or b p 0) (rest b p) m l q in
      let z : length b - (length b - l) ≡ l = omega (arith, rest-length b p) in
      record { within = omega arith; is = turns x ∙ rw (lt-ltb 0 (get_or b p 0) h0, le-leb (get_or b p 0) 63 h63, q, z) }
  name-scan Scan.good q h0 h63 = λ x.
      let w = scan_good g (get_or b p 0) (rest b p) q in
      let z : p + 1 + get_or b p 0 - suc p ≡ get_or b p 0 = omega arith in
      record {
        ahead = omega arith;
        within = omega (arith, rest-length b p);
        make = h x;
        is = turns x ∙ rw (lt-ltb 0 (get_or b p 0) h0, le-leb (get_or b p 0) 63 h63, q, z);
      }

  pub name_does : {r : Result Push Refusal} → r ≡ name_step b p g fs → Does b p e r
  unfolding name_step name_refusal step_of named
  name_does {r} q = subst (Does b p e) (sym q) (rw (add-one p) (by (ltb 0 (get_or b p 0)) (leb (get_or b p 0) 63) refl refl))
    where
      by : (s t : Bool) → ltb 0 (get_or b p 0) ≡ s → leb (get_or b p 0) 63 ≡ t
          → Does b p e (step_of (pick s (pick t (refusal_of (length b) (scan g (get_or b p 0) (drop (suc p) b))) (Err (refusal 6 p))) (Err (refusal 6 p))) (push (suc p + get_or b p 0) fs))
      by true true u v = rw (add-one p) at (name-scan (scan g (get_or b p 0) (rest b p)) refl (ltb-true _ _ u) (leb-true _ _ v))
      by true false u v = name-wrong (λ x. turns x ∙ rw (u, v))
      by false t u v = name-wrong (λ x. turns x ∙ rw u)
