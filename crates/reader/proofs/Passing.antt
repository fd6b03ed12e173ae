-- Flat terms and closes: reading comes to the same tally from past them on.
use Prim.Native.Nat.{ℕ, zero, suc, ◌+◌, ◌-◌, ◌≤◌, ◌<◌}
use native.Mathlib.Omega.{arith}
use mathlib.Core.Path.{◌≡◌, refl, sym, subst, ◌∙◌}
use mathlib.Core.Bool.{Bool, true, false}
use mathlib.Core.List.{List, [], ◌∷◌}
use lib.ListN.{length, get_or, take, drop}
use lib.Seq.{drop-cons}
use lib.Dec.{ltb, leb}
use borrow.Author.Tests.{ltb-true}
use Rattle.std.specs.Prelude.{Option, Some, None, Result, Ok, Err}
use Rattle.std.specs.Bool.{then_some}
use Rattle.std.specs.Result.{result_ok}
use Rattle.program.specs.Limits.{pick, Mode}
use Rattle.program.specs.Automaton.{Stack, Values, Scan, scan, scanned, Turn, wrong, named, turn_names, turn, Read, made, follow, run}
use Rattle.reader.specs.Steps.{step_of, span_step, name_step, name_refusal, code_refusal, span_refusal, push, frame_on, pushed, Goes, terms_frame, TermsAt}
use Rattle.reader.specs.Tally.{stack_of, tally_in, Alike, Ends, Stops}
use Rattle.program.specs.declared.Refusal.{Refusal}
use Rattle.reader.specs.declared.turns.Frame.{Frame}
use Rattle.reader.specs.declared.turns.Frames.{Frames}
use Rattle.reader.specs.declared.turns.Push.{Push}
use Rattle.reader.specs.declared.check.Counts.{Counts}
use Rattle.reader.specs.declared.flat.Spot.{Spot}
use Rattle.reader.proofs.Refusals.{code-good}
use Rattle.reader.proofs.Turning.{turn-character, turn-word, turn-number, turn-close, counted_none, counted-some, name-turn, number-turn, code_fine}
use Rattle.reader.proofs.Walk.{functions_at, sentences_at, Inner, calm_step}

-- A turn that counts nothing.
goes_alike : (b : List ℕ) (p : ℕ) (y x : Stack) (g : Push) → p < length b → functions_at y (get_or b p 0) ≡ 0 → sentences_at y (get_or b p 0) ≡ 0 → Inner y (get_or b p 0) → Goes b p y x g → Alike b p y g.to (pushed g.frames x)
goes_alike b p y x g hp h0 h1 h2 w = record { is = calm_step b p y (pushed g.frames x) g.to w.make hp w.ahead w.within w.is h0 h1 h2 }

pub alike_self : {b : List ℕ} {p : ℕ} {x : Stack} → Alike b p x p x
alike_self = record { is = λ nf ns f. refl }

pub alike_then : {b : List ℕ} {p q r : ℕ} {x y z : Stack} → Alike b p x q y → Alike b q y r z → Alike b p x r z
alike_then f g = record { is = λ nf ns i. f.is nf ns i ∙ g.is nf ns i }

-- What an answer without a refusal was.
pub good_of : {r : Result (Unit {0}) Refusal} {u : Unit {0}} → result_ok r ≡ Some u → r ≡ Ok u
good_of {r} {u} e = by r e
  where
    by : (r : Result (Unit {0}) Refusal) → result_ok r ≡ Some u → r ≡ Ok u
    by (Ok v) e = cc
    by (Err f) e = cc

-- An end before another byte.
pub ends_if : (b : List ℕ) (p : ℕ) (y x : Stack) (r : ℕ) {o : Option ℕ} → o ≡ then_some (ltb r (length b)) r → (r < length b → Ends b p y (Some r) x) → Ends b p y o x
ends_if b p y x r {o} e h = let F : Option ℕ → Type 0 = λ v. Ends b p y v x in subst F (sym e) (by (ltb r (length b)) refl)
  where
    by : (t : Bool) → ltb r (length b) ≡ t → Ends b p y (then_some t r) x
    by true q = h (ltb-true r (length b) q)
    by false q = tt

module _ (b : List ℕ) (p : ℕ) (hp : p < length b) where
  name-on : (g : Bool) {u : Unit {0}} → name_refusal b p g ≡ Ok u → Ok (push (p + 1 + get_or b p 0) Frames.Nothing) ≡ name_step b p g Frames.Nothing
  unfolding name_step step_of
  name-on g q = rw q

  name_goes : (g : Bool) {u : Unit {0}} → name_refusal b p g ≡ Ok u → (x : Stack) → Goes b p (Stack.name g x) x (push (p + 1 + get_or b p 0) Frames.Nothing)
  name_goes true q = number-turn b p hp (name-on true q)
  name_goes false q = name-turn b p hp (name-on false q)

  pub name-ends : (g : Bool) {u : Unit {0}} → name_refusal b p g ≡ Ok u → (x : Stack) → p + 1 + get_or b p 0 < length b → Ends b p (Stack.name g x) (Some (p + 1 + get_or b p 0)) x
  name-ends g q x u = (omega arith, u, goes_alike b p (Stack.name g x) x _ hp refl refl tt (name_goes g q x))

  pub code-ends : {u : Unit {0}} → code_refusal b p ≡ Ok u → (x : Stack) → p + 4 < length b → Ends b p (Stack.code x) (Some (p + 4)) x
  code-ends q x u = (omega arith, u, goes_alike b p (Stack.code x) x _ hp refl refl tt (code_fine b p hp (omega arith) refl (code-good b p (sym q)).1 refl x))

  -- The mark and the span of a flat term.
  module _ {u : Unit {0}} (e : span_refusal b (p + 1) ≡ Ok u) where
    span-on : (f : Frames) → Ok (push (p + 9) f) ≡ span_step b p f
    unfolding span_step step_of
    span-on f = rw e

    at-mode : (m : Mode) (d : ℕ) → TermsAt (terms_frame m d)
    at-mode m d = record { mode = m; depth = d; is = refl }

    module _ (f : Frame) (does : (t : Frame) → TermsAt t → (x : Stack) → Goes b p (frame_on t x) x (push (p + 9) (Frames.Two t f))) where
      field-alike : (m : Mode) (d : ℕ) (x : Stack) → Alike b p (Stack.terms m d x) (p + 9) (frame_on f (Stack.terms m d x))
      field-alike Mode.result d x = goes_alike b p (Stack.terms Mode.result d x) x _ hp refl refl tt (does (Frame.Result d) (at-mode Mode.result d) x)
      field-alike Mode.pattern d x = goes_alike b p (Stack.terms Mode.pattern d x) x _ hp refl refl tt (does (Frame.Pattern d) (at-mode Mode.pattern d) x)

      flat_field : (r : Option ℕ) → ((x : Stack) → Ends b (p + 9) (frame_on f x) r x) → (m : Mode) (d : ℕ) (x : Stack) → Ends b p (Stack.terms m d x) r (Stack.terms m d x)
      flat_field None w m d x = tt
      flat_field (Some r) w m d x = let u = w (Stack.terms m d x) in (omega (arith, u.0), u.1, alike_then (field-alike m d x) u.2)

    pub flat_character : get_or b p 0 ≡ 1 → (r : Option ℕ) → ((x : Stack) → Ends b (p + 9) (Stack.code x) r x) → (m : Mode) (d : ℕ) (x : Stack) → Ends b p (Stack.terms m d x) r (Stack.terms m d x)
    flat_character q = flat_field Frame.Code (λ t h. turn-character b p hp h q (span-on _))

    pub flat_number : get_or b p 0 ≡ 3 → (r : Option ℕ) → ((x : Stack) → Ends b (p + 9) (Stack.name true x) r x) → (m : Mode) (d : ℕ) (x : Stack) → Ends b p (Stack.terms m d x) r (Stack.terms m d x)
    flat_number q = flat_field Frame.Number (λ t h. turn-number b p hp h q (span-on _))

    pub flat_word : 2 ≤ get_or b p 0 → get_or b p 0 ≤ 6 → (get_or b p 0 ≡ 3 → ⊥) → (r : Option ℕ) → ((x : Stack) → Ends b (p + 9) (Stack.name false x) r x) → (m : Mode) (d : ℕ) (x : Stack) → Ends b p (Stack.terms m d x) r (Stack.terms m d x)
    flat_word l n o = flat_field Frame.Name (λ t h. turn-word b p hp h l n o (span-on _))

-- So many names, and then x.
abbrev pub names_on : ℕ → Stack → Stack
names_on zero x = x
names_on (suc n) x = Stack.names n x

module _ {A C : Type 0} (R : Read A → Result Counts Refusal) (S : Read C → Result Counts Refusal) (wrongs : (n l : ℕ) → R (Read.refused n l) ≡ S (Read.refused n l)) where
  -- Two readings of one name tell the same where what follows does.
  named-same : (y : Stack) (v : ℕ) (s : List ℕ) (f : Values y → A) (h : Values y → C) (k : (z : Stack) → ℕ → Read (Values z)) → ((r : Read (Values y)) → R (made f r) ≡ S (made h r))
      → R (follow (named false v s (Turn.go y v f)) k) ≡ S (follow (named false v s (Turn.go y v h)) k)
  unfolding named scanned follow wrong
  named-same y v s f h k e = by (ltb 0 v) (leb v 63) (scan false v s)
    where
      by : (t u : Bool) (w : Scan) → R (follow (pick t (pick u (scanned w (Turn.go y v f)) (wrong 6 s)) (wrong 6 s)) k) ≡ S (follow (pick t (pick u (scanned w (Turn.go y v h)) (wrong 6 s)) (wrong 6 s)) k)
      by true true (Scan.refuse n l) = wrongs n l
      by true true Scan.good = e (k y v)
      by true false w = wrongs 6 (suc (length s))
      by false u w = wrongs 6 (suc (length s))

module _ (b : List ℕ) (p : ℕ) (hp : p < length b) where
  counted-alike : (v : ℕ) → get_or b p 0 ≡ v → (x : Stack) → Alike b p (Stack.counted x) (p + 1) (names_on v x)
  counted-alike zero q x = goes_alike b p (Stack.counted x) x _ hp refl refl tt (counted_none b p hp q refl x)
  counted-alike (suc n) q x = goes_alike b p (Stack.counted x) x _ hp refl refl tt (counted-some b p hp n (λ z. omega arith) (omega arith) refl x)

  pub counted-first : (x : Stack) → Alike b p (Stack.counted x) (p + 1) (names_on (get_or b p 0) x)
  counted-first x = counted-alike (get_or b p 0) refl x

  -- The first of some names.
  names-first : (n : ℕ) (x : Stack) → Alike b p (Stack.names n x) p (Stack.name false (names_on n x))
  unfolding run turn turn_names made
  names-first zero x = record { is = λ nf ns i. rw (drop-cons b p 0 hp) (named-same (tally_in (Stack.names zero x) (length b) nf ns i) (tally_in (Stack.name false x) (length b) nf ns i) (λ n l. refl) x (get_or b p 0) (drop (suc p) b) _ _ (λ z k. run z k (drop (suc p) b)) (by nf ns i)) }
    where
      by : (nf ns i : ℕ) (r : Read (Values x)) → tally_in (Stack.names zero x) (length b) nf ns i (made (λ v. (take (get_or b p 0) (drop (suc p) b) ∷ [], v)) r) ≡ tally_in (Stack.name false x) (length b) nf ns i (made (λ v. (take (get_or b p 0) (drop (suc p) b), v)) r)
      by nf ns i (Read.refused n l) = refl
      by nf ns i (Read.value v) = refl
  names-first (suc n) x = record { is = λ nf ns i. rw (drop-cons b p 0 hp) (named-same (tally_in (Stack.names (suc n) x) (length b) nf ns i) (tally_in (Stack.name false (Stack.names n x)) (length b) nf ns i) (λ m l. refl) (Stack.names n x) (get_or b p 0) (drop (suc p) b) _ _ (λ z k. run z k (drop (suc p) b)) (by nf ns i)) }
    where
      by : (nf ns i : ℕ) (r : Read (Values (Stack.names n x))) → tally_in (Stack.names (suc n) x) (length b) nf ns i (made (λ v. (take (get_or b p 0) (drop (suc p) b) ∷ v.0, v.1)) r) ≡ tally_in (Stack.name false (Stack.names n x)) (length b) nf ns i (made (λ v. (take (get_or b p 0) (drop (suc p) b), v)) r)
      by nf ns i (Read.refused m l) = refl
      by nf ns i (Read.value v) = refl

  -- Past one name more.
  pub names-next : (at v i r : ℕ) → i < v → ((x : Stack) → Alike b at (Stack.counted x) p (names_on (v - i) x)) → ((x : Stack) → Ends b p (Stack.name false x) (Some r) x) → (x : Stack) → Alike b at (Stack.counted x) r (names_on (v - (i + 1)) x)
  names-next at v i r l h w x =
      let n : ℕ = v - (i + 1) in
      let e : v - i ≡ suc n = omega arith in
      let F : ℕ → Type 0 = λ j. Alike b at (Stack.counted x) p (names_on j x) in
      alike_then (subst F e (h x)) (alike_then (names-first n x) (w (names_on n x)).2)

pub counted-done : {b : List ℕ} {at p v i : ℕ} → at < p → p < length b → v ≤ i → ((x : Stack) → Alike b at (Stack.counted x) p (names_on (v - i) x)) → (x : Stack) → Ends b at (Stack.counted x) (Some p) x
counted-done {b} {at} {p} {v} {i} h l z w x =
    let e : v - i ≡ 0 = omega arith in
    let F : ℕ → Type 0 = λ j. Alike b at (Stack.counted x) p (names_on j x) in
    (h, l, subst F e (w x))

-- A frame of terms is the stack's terms.
by_terms : (P : Stack → Type 0) {e : Frame} (x : Stack) → TermsAt e → ((m : Mode) (d : ℕ) → P (Stack.terms m d x)) → P (frame_on e x)
by_terms P {e} x h f = let F : Frame → Type 0 = λ c. P (frame_on c x) in subst F (sym h.is) (by h.mode)
  where
    by : (m : Mode) → P (frame_on (terms_frame m h.depth) x)
    by Mode.result = f Mode.result h.depth
    by Mode.pattern = f Mode.pattern h.depth

abbrev pub spot : ℕ → ℕ → Spot
spot n p = record { n = n; at = p }

module _ (b : List ℕ) (s : List Frame) (top at : ℕ) where
  pub stops_first : at < length b → Stops b s top at (spot top at)
  stops_first h = record { few = omega arith; ahead = omega arith; within = h; is = λ k. alike_self }

  pub stops_flat : (n p r : ℕ) → Stops b s top at (spot n p) → 0 < n → TermsAt (get_or s (n - 1) (Frame.Result 0)) → (p ≤ r) × (r < length b) × ((m : Mode) (d : ℕ) (x : Stack) → Alike b p (Stack.terms m d x) r (Stack.terms m d x))
      → Stops b s top at (spot n r)
  stops_flat zero p r h z t w = absurd (omega arith)
  stops_flat (suc n) p r h z t w =
      let e : suc n - 1 ≡ n = omega arith in
      let u : TermsAt (get_or s n (Frame.Result 0)) = rw e at t in
      record { few = h.few; ahead = omega (arith, h.ahead, w.0); within = w.1; is = λ k. alike_then (h.is k) (by_terms (λ y. Alike b p y r y) (stack_of k s n) u (λ m d. w.2 m d (stack_of k s n))) }

  pub stops-close : (n p : ℕ) → Stops b s top at (spot n p) → 0 < n → TermsAt (get_or s (n - 1) (Frame.Result 0)) → get_or b p 0 ≡ 15 → 2 ≤ length b - p → Stops b s top at (spot (n - 1) (p + 1))
  stops-close zero p h z t q l = absurd (omega arith)
  stops-close (suc n) p h z t q l =
      let e : suc n - 1 ≡ n = omega arith in
      let u : TermsAt (get_or s n (Frame.Result 0)) = rw e at t in
      rw e
      (record {
        few = omega (arith, h.few);
        ahead = omega (arith, h.ahead);
        within = omega arith;
        is = λ k.
            let x = stack_of k s n in
            let hp : p < length b = omega (arith, h.within) in
            let g = turn-close b p hp u q refl x in
            alike_then (h.is k)
            (by_terms (λ y. Goes b p y x (push (p + 1) Frames.Nothing) → Alike b p y (p + 1) x) x u (λ m d w. goes_alike b p (Stack.terms m d x) x _ hp refl refl tt w) g);
      })

  pub stops_then : {n p : ℕ} {r : Spot} → Stops b s top at (spot n p) → Stops b s n p r → Stops b s top at r
  stops_then h w = record { few = omega (arith, h.few, w.few); ahead = omega (arith, h.ahead, w.ahead); within = w.within; is = λ k. alike_then (h.is k) (w.is k) }

-- A count on top of n frames: past its names.
pub stops-names : (b : List ℕ) (s : List Frame) (n p r : ℕ) → 0 < n → get_or s (n - 1) (Frame.Result 0) ≡ Frame.Counted → ((x : Stack) → Ends b p (Stack.counted x) (Some r) x) → Stops b s n p (spot (n - 1) r)
stops-names b s zero p r l h w = absurd (omega arith)
stops-names b s (suc n) p r l h w =
    let e : suc n - 1 ≡ n = omega arith in
    let u : get_or s n (Frame.Result 0) ≡ Frame.Counted = rw e at h in
    rw e
    (record {
      few = omega arith;
      ahead = omega (arith, (w (stack_of 0 s n)).0);
      within = (w (stack_of 0 s n)).1;
      is = λ k. rw u (w (stack_of k s n)).2;
    })
