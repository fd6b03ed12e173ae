-- The loop over a body: what holds at its head, and that a turn keeps it.
use Prim.Native.Nat.{ℕ, zero, suc, ◌+◌, ◌-◌, ◌≤◌, ◌<◌}
use native.Mathlib.Omega.{arith}
use native.Mathlib.Numerals.{add-one}
use native.Mathlib.Nat.{add-zero, sub-zero}
use mathlib.Core.Path.{◌≡◌, refl, sym, ap, subst, ◌∙◌}
use mathlib.Core.Bool.{Bool, true, false}
use mathlib.Core.List.{List}
use lib.ListN.{length, get_or, set, drop, length-set, drop_of_length-le}
use lib.Seq.{drop-cons, get_or-set_same, get_or-set_other}
use lib.Dec.{leb, eqb}
use borrow.Author.Tests.{leb-true, leb-false}
use Rattle.std.specs.Prelude.{Option, Some, None, Result, Ok, Err}
use Rattle.program.specs.Encode.{put_functions, own_sentence_count}
use Rattle.program.specs.Limits.{pick}
use Rattle.program.specs.Automaton.{Stack, Values, Turn, at_end, follow, run}
use Rattle.reader.specs.Steps.{refusal, frame_on, pushed, DoesAt, bottom}
use Rattle.reader.specs.Tally.{counts, tally_of, stack_of, top_of, Stored, TurnDoes, function_one, own_sentence, sentence_one, first_next, advanced, tally_end, tally_in, Stops}
use Rattle.program.specs.declared.Refusal.{Refusal}
use Rattle.reader.specs.declared.turns.Frame.{Frame}
use Rattle.reader.specs.declared.turns.Frames.{Frames}
use Rattle.reader.specs.declared.turns.Push.{Push}
use Rattle.reader.specs.declared.check.Counts.{Counts}
use Rattle.reader.specs.declared.flat.Spot.{Spot}
use Rattle.program.specs.Bytes.{Bytes}
use Rattle.reader.proofs.Walk.{height, Fit, fit_height, fit_next, functions_at, sentences_at, first_at, tally_start, tally_step}

frame_height : (e : Frame) (x : Stack) → height (frame_on e x) ≡ suc (height x)
frame_height (Frame.Result d) x = refl
frame_height (Frame.Pattern d) x = refl
frame_height (Frame.Conditions d) x = refl
frame_height (Frame.Sentences d) x = refl
frame_height Frame.Name x = refl
frame_height Frame.Number x = refl
frame_height (Frame.Names n) x = refl
frame_height Frame.Code x = refl
frame_height Frame.Visibility x = refl
frame_height Frame.Counted x = refl

bottom_height : (k : ℕ) → height (bottom k) ≡ 0
bottom_height zero = refl
bottom_height (suc k) = refl

pub stack_height : (k : ℕ) (s : List Frame) (n : ℕ) → height (stack_of k s n) ≡ n
stack_height k s zero = bottom_height k
stack_height k s (suc n) = frame_height (get_or s n (Frame.Result 0)) (stack_of k s n) ∙ ap suc (stack_height k s n)

frame-function : (e : Frame) (x : Stack) (m : ℕ) → functions_at (frame_on e x) m ≡ 0
frame-function (Frame.Result d) x m = refl
frame-function (Frame.Pattern d) x m = refl
frame-function (Frame.Conditions d) x m = refl
frame-function (Frame.Sentences d) x m = refl
frame-function Frame.Name x m = refl
frame-function Frame.Number x m = refl
frame-function (Frame.Names n) x m = refl
frame-function Frame.Code x m = refl
frame-function Frame.Visibility x m = refl
frame-function Frame.Counted x m = refl

stack_function : (k : ℕ) (s : List Frame) (n m : ℕ) → functions_at (stack_of k s n) m ≡ function_one (top_of s n) m
stack_function zero s zero m = refl
stack_function (suc k) s zero m = refl
stack_function k s (suc n) m = frame-function (get_or s n (Frame.Result 0)) (stack_of k s n) m

frame-sentence : (e : Frame) (x : Stack) (m : ℕ) → sentences_at (frame_on e x) m ≡ own_sentence e m
frame-sentence (Frame.Result d) x m = refl
frame-sentence (Frame.Pattern d) x m = refl
frame-sentence (Frame.Conditions d) x m = refl
frame-sentence (Frame.Sentences zero) x m = refl
frame-sentence (Frame.Sentences (suc d)) x m = refl
frame-sentence Frame.Name x m = refl
frame-sentence Frame.Number x m = refl
frame-sentence (Frame.Names n) x m = refl
frame-sentence Frame.Code x m = refl
frame-sentence Frame.Visibility x m = refl
frame-sentence Frame.Counted x m = refl

stack_sentence : (k : ℕ) (s : List Frame) (n m : ℕ) → sentences_at (stack_of k s n) m ≡ sentence_one (top_of s n) m
stack_sentence zero s zero m = refl
stack_sentence (suc k) s zero m = refl
stack_sentence k s (suc n) m = frame-sentence (get_or s n (Frame.Result 0)) (stack_of k s n) m

frame-first : (e : Frame) (x : Stack) (m left f : ℕ) → first_at (frame_on e x) m left f ≡ f
frame-first (Frame.Result d) x m left f = refl
frame-first (Frame.Pattern d) x m left f = refl
frame-first (Frame.Conditions d) x m left f = refl
frame-first (Frame.Sentences d) x m left f = refl
frame-first Frame.Name x m left f = refl
frame-first Frame.Number x m left f = refl
frame-first (Frame.Names n) x m left f = refl
frame-first Frame.Code x m left f = refl
frame-first Frame.Visibility x m left f = refl
frame-first Frame.Counted x m left f = refl

stack_first : (k : ℕ) (s : List Frame) (n m left f : ℕ) → first_at (stack_of k s n) m left f ≡ first_next (top_of s n) m k left f
stack_first zero s zero m left f = refl
stack_first (suc k) s zero m left f = refl
stack_first k s (suc n) m left f = frame-first (get_or s n (Frame.Result 0)) (stack_of k s n) m left f

-- Frames at n and above do not matter.
stack_below : (k : ℕ) (s : List Frame) (n i : ℕ) (e : Frame) → n ≤ i → stack_of k (set s i e) n ≡ stack_of k s n
stack_below k s zero i e h = refl
stack_below k s (suc n) i e h =
    let q : get_or (set s i e) n (Frame.Result 0) ≡ get_or s n (Frame.Result 0) = get_or-set_other s i n e (Frame.Result 0) (λ z. omega arith) in
    rw (q, stack_below k s n i e (omega arith))

-- A frame that was stored.
stack_one : (k : ℕ) (s : List Frame) (i : ℕ) (e : Frame) → i < length s → stack_of k (set s i e) (suc i) ≡ frame_on e (stack_of k s i)
stack_one k s i e h = rw (get_or-set_same s i e (Frame.Result 0) h, stack_below k s i i e (omega arith))

-- What is stored is what was pushed.
module _ (s : List Frame) (n : ℕ) (h : n + 3 ≤ length s) where
  pub stored-none : Stored s n Frames.Nothing s n
  stored-none = record { keeps = refl; low = omega arith; is = λ k. refl }

  pub stored-one : (e : Frame) → Stored s n (Frames.One e) (set s n e) (n + 1)
  stored-one e = record { keeps = length-set s n e; low = omega arith; is = λ k. rw (add-one n) (stack_one k s n e (omega arith)) }

  pub stored-two : (e f : Frame) → Stored s n (Frames.Two e f) (set (set s n e) (n + 1) f) (n + 2)
  stored-two e f =
      let q : n + 2 ≡ suc (n + 1) = omega arith in
      record {
        keeps = length-set (set s n e) (n + 1) f ∙ length-set s n e;
        low = omega arith;
        is = λ k. ap (stack_of k (set (set s n e) (n + 1) f)) q ∙ (stack_one k (set s n e) (n + 1) f (omega (arith, length-set s n e)) ∙ ap (frame_on f) ((stored-one e).is k));
      }

  pub stored-three : (e f g : Frame) → Stored s n (Frames.Three e f g) (set (set (set s n e) (n + 1) f) (n + 2) g) (n + 3)
  stored-three e f g =
      let q : n + 3 ≡ suc (n + 2) = omega arith in
      let t : List Frame = set (set s n e) (n + 1) f in
      let l : length t ≡ length s = (stored-two e f).keeps in
      record {
        keeps = length-set t (n + 2) g ∙ l;
        low = omega arith;
        is = λ k. ap (stack_of k (set t (n + 2) g)) q ∙ (stack_one k t (n + 2) g (omega (arith, l)) ∙ ap (frame_on g) ((stored-two e f).is k));
      }

-- A turn at the stack as a list of frames.
turned_at : (b : List ℕ) (p k : ℕ) (s : List Frame) (n : ℕ) (r : Result Push Refusal) → TurnDoes b p k (top_of s n) r → DoesAt b p (stack_of k s n) (stack_of (k + function_one (top_of s n) (get_or b p 0)) s (n - 1)) r
turned_at b p k s zero r d = d
turned_at b p k s (suc n) r d =
    let q : suc n - 1 ≡ n = omega arith in
    rw (q, add-zero k) (d (stack_of k s n))

-- What holds at the loop's head: nf functions and ns sentences are passed.
pub record State (b : List ℕ) (s : List Frame) (n at nf ns f : ℕ) : Type 0 where
  pub within : at ≤ length b
  pub room : length s ≡ 148
  pub few : (nf ≤ at) × (ns ≤ at)
  pub none : nf ≡ 0 → f ≡ 0
  pub fit : Fit (stack_of nf s n)
  pub is : tally_of (length b) (run Stack.body 0 b) ≡ tally_in (stack_of nf s n) (length b) nf ns f (run (stack_of nf s n) 0 (drop at b))

abbrev pub StateOf : List ℕ → List Frame → ℕ → ℕ → Counts → Type 0
StateOf b s n at c = State b s n at c.functions c.sentences c.first

pub state_first : (b : List ℕ) (s : List Frame) → length s ≡ 148 → StateOf b s 0 0 (counts 0 0 0)
state_first b s h =
    record {
      within = omega arith;
      room = h;
      few = omega arith;
      none = λ e. refl;
      fit = tt;
      is = tally_start (length b) 0 (run Stack.body 0 b);
    }

pub state_low : (b : List ℕ) (s : List Frame) (n at : ℕ) (c : Counts) → StateOf b s n at c → n ≤ 141
state_low b s n at c h = omega (arith, fit_height (stack_of c.functions s n) h.fit, stack_height c.functions s n)

functions-few : (e : Option Frame) (m : ℕ) → function_one e m ≤ 1
functions-few None m = by (eqb m 18)
  where
    by : (t : Bool) → pick {A = ℕ} t 1 0 ≤ 1
    by true = omega arith
    by false = omega arith
functions-few (Some e) m = omega arith

sentences-few : (e : Option Frame) (m : ℕ) → sentence_one e m ≤ 1
sentences-few None m = omega arith
sentences-few (Some e) m = rw (← frame-sentence e Stack.any m) (by e)
  where
    by : (e : Frame) → sentences_at (frame_on e Stack.any) m ≤ 1
    by (Frame.Result d) = omega arith
    by (Frame.Pattern d) = omega arith
    by (Frame.Conditions d) = omega arith
    by (Frame.Sentences zero) = one (eqb m 10)
      where
        one : (t : Bool) → pick {A = ℕ} t 1 0 ≤ 1
        one true = omega arith
        one false = omega arith
    by (Frame.Sentences (suc d)) = omega arith
    by Frame.Name = omega arith
    by Frame.Number = omega arith
    by (Frame.Names n) = omega arith
    by Frame.Code = omega arith
    by Frame.Visibility = omega arith
    by Frame.Counted = omega arith

first-none : (e : Option Frame) (m k left f : ℕ) → (k ≡ 0 → f ≡ 0) → k + function_one e m ≡ 0 → first_next e m k left f ≡ 0
first-none None m zero left f h = by (eqb m 18)
  where
    by : (t : Bool) → 0 + pick t 1 0 ≡ 0 → pick t left f ≡ 0
    by true e = absurd (omega arith)
    by false e = h refl
first-none None m (suc k) left f h = λ e. absurd (omega arith)
first-none (Some e) m k left f h = λ q. h (omega arith)

module _ (b : List ℕ) (s : List Frame) (n at : ℕ) (c : Counts) (st : StateOf b s n at c) (ha : at < length b) where
  -- A refusal.
  pub state_bad : (w : Refusal) → TurnDoes b at c.functions (top_of s n) (Err w) → Err w ≡ tally_of (length b) (run Stack.body 0 b)
  unfolding run follow
  state_bad w d =
      let r = turned_at b at c.functions s n (Err w) d in
      let z : length b - (length b - w.place) ≡ w.place = omega (arith, r.within) in
      let x = stack_of c.functions s n in
      sym
      (st.is
      ∙ rw (drop-cons b at 0 ha)
      (ap (λ (t : Turn (Values x)). tally_in x (length b) c.functions c.sentences c.first (follow t (λ y j. run y j (drop (suc at) b)))) r.is
      ∙ ap (λ (p : ℕ). Err (refusal w.number p)) z))

  -- A turn that goes on.
  pub state_next : (g : Push) (t : List Frame) (r : ℕ) → Bytes b → TurnDoes b at c.functions (top_of s n) (Ok g) → Stored s (n - 1) g.frames t r
      → (at < g.to) × (g.to ≤ length b) × StateOf b t r g.to (advanced c (top_of s n) (get_or b at 0) (length b - at))
  state_next g t r bytes d w =
      let m : ℕ = get_or b at 0 in
      let k : ℕ = c.functions + function_one (top_of s n) m in
      let v = turned_at b at c.functions s n (Ok g) d in
      let x = stack_of c.functions s n in
      let y = pushed g.frames (stack_of k s (n - 1)) in
      let e : stack_of k t r ≡ y = w.is k in (
        v.ahead,
        v.within,
        record {
          within = v.within;
          room = w.keeps ∙ st.room;
          few = (omega (arith, functions-few (top_of s n) m, v.ahead, st.few.0), omega (arith, sentences-few (top_of s n) m, v.ahead, st.few.1));
          none = first-none (top_of s n) m c.functions (length b - at) c.first st.none;
          fit = rw e (fit_next x y m (drop (suc at) b) (g.to - suc at) v.make v.is st.fit);
          is =
              rw e
              (st.is
              ∙ (tally_step b at x y g.to v.make ha v.ahead v.within v.is bytes c.functions c.sentences c.first
              ∙ rw (stack_function c.functions s n m, stack_sentence c.functions s n m, stack_first c.functions s n m (length b - at) c.first)));
        },
      )

frame-end : (e : Frame) (x : Stack) (l nf ns f : ℕ) → tally_in (frame_on e x) l nf ns f (at_end (frame_on e x)) ≡ Err (refusal 5 l)
unfolding at_end
frame-end (Frame.Result d) x l nf ns f = ap (λ (p : ℕ). Err (refusal 5 p)) (sub-zero l)
frame-end (Frame.Pattern d) x l nf ns f = ap (λ (p : ℕ). Err (refusal 5 p)) (sub-zero l)
frame-end (Frame.Conditions d) x l nf ns f = ap (λ (p : ℕ). Err (refusal 5 p)) (sub-zero l)
frame-end (Frame.Sentences d) x l nf ns f = ap (λ (p : ℕ). Err (refusal 5 p)) (sub-zero l)
frame-end Frame.Name x l nf ns f = ap (λ (p : ℕ). Err (refusal 5 p)) (sub-zero l)
frame-end Frame.Number x l nf ns f = ap (λ (p : ℕ). Err (refusal 5 p)) (sub-zero l)
frame-end (Frame.Names n) x l nf ns f = ap (λ (p : ℕ). Err (refusal 5 p)) (sub-zero l)
frame-end Frame.Code x l nf ns f = ap (λ (p : ℕ). Err (refusal 5 p)) (sub-zero l)
frame-end Frame.Visibility x l nf ns f = ap (λ (p : ℕ). Err (refusal 5 p)) (sub-zero l)
frame-end Frame.Counted x l nf ns f = ap (λ (p : ℕ). Err (refusal 5 p)) (sub-zero l)

-- No byte is left.
pub state_end : (b : List ℕ) (s : List Frame) (n at : ℕ) (c : Counts) → StateOf b s n at c → length b ≤ at → tally_end n c (length b) ≡ tally_of (length b) (run Stack.body 0 b)
unfolding run at_end put_functions own_sentence_count
state_end b s n at c st ha = sym (st.is ∙ (ap (tally_in (stack_of c.functions s n) (length b) c.functions c.sentences c.first) ended ∙ by n c.functions st.none))
  where
    ended : run (stack_of c.functions s n) 0 (drop at b) ≡ at_end (stack_of c.functions s n)
    ended = rw (drop_of_length-le b {i = at} ha)

    by : (n k : ℕ) → (k ≡ 0 → c.first ≡ 0) → tally_in (stack_of k s n) (length b) k c.sentences c.first (at_end (stack_of k s n)) ≡ tally_end n (counts k c.sentences c.first) (length b)
    by zero zero h = rw (h refl, add-zero c.sentences)
    by zero (suc k) h = rw (add-zero (suc k), add-zero c.sentences)
    by (suc j) k h = frame-end (get_or s j (Frame.Result 0)) (stack_of k s j) (length b) k c.sentences c.first

-- The frames below one that fits do too.
frame_fit : (e : Frame) (x : Stack) → Fit (frame_on e x) → Fit x
frame_fit (Frame.Result d) x h = h.2
frame_fit (Frame.Pattern d) x h = h.2
frame_fit (Frame.Conditions d) x h = h.2
frame_fit (Frame.Sentences d) x h = h.2
frame_fit Frame.Name x h = h.1
frame_fit Frame.Number x h = h.1
frame_fit (Frame.Names n) x h = h.1
frame_fit Frame.Code x h = h.1
frame_fit Frame.Visibility x h = h.1
frame_fit Frame.Counted x h = h.1

stack_fit : (k : ℕ) (s : List Frame) (n j : ℕ) → j ≤ n → Fit (stack_of k s n) → Fit (stack_of k s j)
stack_fit k s zero j l h = let z : j ≡ 0 = omega arith in rw z h
stack_fit k s (suc n) j l h = by (λ u. stack_fit k s n j u (frame_fit (get_or s n (Frame.Result 0)) (stack_of k s n) h)) (leb j n) refl
  where
    by : (j ≤ n → Fit (stack_of k s j)) → (t : Bool) → leb j n ≡ t → Fit (stack_of k s j)
    by f true e = f (leb-true j n e)
    by f false e = let z : j ≡ suc n = omega (arith, leb-false j n e) in rw z h

-- The same, from what the loop's calls ensure.
pub loop_over : (b : List ℕ) (s : List Frame) (top at : ℕ) (c : Counts) → StateOf b s top at c → (t : Spot) → Stops b s top at t → StateOf b s t.n t.at c
loop_over b s top at c st t w =
    record {
      within = omega (arith, w.within);
      room = st.room;
      few = (omega (arith, w.ahead, st.few.0), omega (arith, w.ahead, st.few.1));
      none = st.none;
      fit = stack_fit c.functions s top t.n w.few st.fit;
      is = st.is ∙ (w.is c.functions).is c.functions c.sentences c.first;
    }

module _ (b : List ℕ) (s : List Frame) (n at : ℕ) (c : Counts) (st : StateOf b s n at c) (ha : at < length b) (e : Option Frame) (he : e ≡ top_of s n) where
  pub loop_bad : (w : Refusal) → TurnDoes b at c.functions e (Err w) → Err w ≡ tally_of (length b) (run Stack.body 0 b)
  loop_bad w d = state_bad b s n at c st ha w (let F : Option Frame → Type 0 = λ o. TurnDoes b at c.functions o (Err w) in subst F he d)

  pub loop_next : (g : Push) (t : List Frame) (i r : ℕ) (d : Counts) → Bytes b → TurnDoes b at c.functions e (Ok g) → i ≡ n - 1 → Stored s i g.frames t r → d ≡ advanced c e (get_or b at 0) (length b - at) → StateOf b t r g.to d
  loop_next g t i r d bytes h hi hs hd =
      let F : Option Frame → Type 0 = λ o. TurnDoes b at c.functions o (Ok g) in
      let G : ℕ → Type 0 = λ j. Stored s j g.frames t r in
      let w = state_next b s n at c st ha g t r bytes (subst F he h) (subst G hi hs) in
      rw (hd, he) w.2
