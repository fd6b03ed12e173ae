-- What stays in the state when a binding is written below the others.
use Prim.Native.Nat.{ℕ, zero, suc, ◌+◌, ◌-◌, ◌*◌, ◌<◌, ◌≤◌}
use native.Mathlib.Omega.{arith}
use native.Mathlib.Nat.{add-zero}
use mathlib.Core.Path.{◌≡◌, refl, sym, ap, ap₂, ◌∙◌}
use mathlib.Core.List.{List, [], ◌∷◌, ◌++◌, append_assoc}
use lib.ListN.{length, get_or, take, drop, length-append}
use lib.Seq.{length-take-le, take_at, drop_at, take-take, take-nil, get_or-drop, get_or-take}
use Rattle.program.specs.Syntax.{Name, Kind}
use Rattle.program.specs.Bytes.{put16, get16}
use Rattle.program.proofs.Numbers.{get16-put16, get16-drop}
use Rattle.patterns.specs.Expression.{Expression}
use Rattle.patterns.specs.Marks.{put_expression}
use Rattle.meaning.specs.Match.{Binding, Bindings}
use Rattle.meaning.proofs.Inputs.{ValidExpression}
use Rattle.text.specs.Fill.{Emitted}
use Rattle.text.proofs.Fill.{filled-fits, emitted-append}
use Rattle.matching.specs.Bindings.{VariableAt, put_binding, Numbers, HoldsAt, BindingAt, RunAt}

-- Four numbers are a binding.
pub binding_emitted : {s a b c d : List ℕ} {p i j k q : ℕ} (place from until end : ℕ) → Emitted s p (put16 place []) i a → Emitted a i (put16 from []) j b → Emitted b j (put16 until []) k c → Emitted c k (put16 end []) q d → Emitted s p (put_binding place from until end []) q d
unfolding put_binding put16
binding_emitted place from until end u v w x = emitted-append _ _ (emitted-append _ _ (emitted-append _ _ u v) w) x

pub two-more : {s b : List ℕ} (at n : ℕ) {r : ℕ} → Emitted s (at + 4) (put16 n []) r b → Emitted s (at + 4) (put16 n []) (at + 6) b
unfolding put16
two-more at n e = record { after = omega arith; left = e.left }

-- ---- bytes apart from those written

-- A variable at a place that is told in two ways.
variable-kept : (body : List ℕ) {i j : ℕ} → i ≡ j → (v : VariableAt (drop i body)) → (w : VariableAt (drop j body)) × (w.kind ≡ v.kind) × (w.name ≡ v.name)
variable-kept body e v = (record { span = v.span; kind = v.kind; name = v.name; rest = v.rest; is = ap (λ (k : ℕ). drop k body) (sym e) ∙ v.is; valid = v.valid }, refl, refl)

-- Before lo and from hi on nothing changed.
pub record Apart (work new : List ℕ) (lo hi : ℕ) : Type 0 where
  pub below : take lo new ≡ take lo work
  pub above : drop hi new ≡ drop hi work

pub emitted-apart : {work new : List ℕ} {at r : ℕ} {t : List ℕ} → Emitted work at t r new → at + length t ≤ length work → Apart work new at (at + length t)
emitted-apart {work} {new} {at} {r} {t} e h =
    let w : new ≡ (take at work ++ t) ++ drop (at + length t) work = e.left ∙ filled-fits work at t h in
    let l : length (take at work) ≡ at = length-take-le at work (omega arith) in
    record {
      below = ap (take at) (w ∙ append_assoc (take at work) t (drop (at + length t) work)) ∙ take_at (take at work) (t ++ drop (at + length t) work) at l;
      above = ap (drop (at + length t)) w ∙ drop_at (take at work ++ t) (drop (at + length t) work) (at + length t) (omega (arith, length-append (take at work) t, l));
    }

part_of : (w : List ℕ) (f n lo : ℕ) → f + n ≤ lo → take n (drop f (take lo w)) ≡ take n (drop f w)
part_of w zero n lo h = take-take n lo w (omega arith)
part_of [] (suc f) n lo h = ap (λ (l : List ℕ). take n (drop (suc f) l)) (take-nil lo)
part_of (x ∷ w) (suc f) n zero h = absurd (omega arith)
part_of (x ∷ w) (suc f) n (suc lo) h = part_of w f n lo (omega arith)

module _ {work new : List ℕ} {lo hi : ℕ} (a : Apart work new lo hi) where
  byte_above : (i : ℕ) → hi ≤ i → get_or new i 0 ≡ get_or work i 0
  byte_above i h =
      let e : hi + (i - hi) ≡ i = omega arith in
      sym (ap (λ (j : ℕ). get_or new j 0) e) ∙ (sym (get_or-drop hi new (i - hi) 0) ∙ (ap (λ (l : List ℕ). get_or l (i - hi) 0) a.above ∙ (get_or-drop hi work (i - hi) 0 ∙ ap (λ (j : ℕ). get_or work j 0) e)))

  byte_below : (i : ℕ) → i < lo → get_or new i 0 ≡ get_or work i 0
  byte_below i h = sym (get_or-take lo new i 0 h) ∙ (ap (λ (l : List ℕ). get_or l i 0) a.below ∙ get_or-take lo work i 0 h)

  pub number_above : (i : ℕ) → hi ≤ i → get16 new i ≡ get16 work i
  unfolding get16
  number_above i h = ap₂ (λ (x y : ℕ). x + 256 * y) (byte_above i h) (byte_above (i + 1) (omega arith))

  pub number-below : (i : ℕ) → i + 2 ≤ lo → get16 new i ≡ get16 work i
  unfolding get16
  number-below i h = ap₂ (λ (x y : ℕ). x + 256 * y) (byte_below i (omega arith)) (byte_below (i + 1) (omega arith))

  pub part_below : (f n : ℕ) → f + n ≤ lo → take n (drop f new) ≡ take n (drop f work)
  part_below f n h = sym (part_of new f n lo h) ∙ (ap (λ (l : List ℕ). take n (drop f l)) a.below ∙ part_of work f n lo h)

  -- A value below what is written stays, if its two ends are the same numbers.
  holds_kept : (top at : ℕ) (u : Expression) → top ≤ lo → get16 new (at + 2) ≡ get16 work (at + 2) → get16 new (at + 4) ≡ get16 work (at + 4) → HoldsAt work top at u → HoldsAt new top at u
  holds_kept top at u h e f k = record {
    ordered = omega (arith, k.ordered, e, f);
    within = omega (arith, k.within, f);
    is = ap₂ (λ (x y : ℕ). take (x - y) (drop y new)) f e ∙ (part_below (get16 work (at + 2)) (get16 work (at + 4) - get16 work (at + 2)) (omega (arith, k.ordered, k.within, h)) ∙ k.is);
    valid = k.valid;
  }

  binding_kept : (body : List ℕ) (top at : ℕ) (x : Binding) → top ≤ lo → hi ≤ at → BindingAt body work top at x → BindingAt body new top at x
  binding_kept body top at x h g k =
      let e = number_above at g in
      let w = variable-kept body (sym e) k.variable in
      record { variable = w.0; kind = w.1 ∙ k.kind; name = w.2 ∙ k.name; holds = holds_kept top at x.value h (number_above (at + 2) (omega arith)) (number_above (at + 4) (omega arith)) k.holds }

  -- Bindings above what is written stay.
  pub run-kept : (body : List ℕ) (top frame : ℕ) (b : Bindings) (at : ℕ) → top ≤ lo → hi ≤ at → RunAt body work top frame b at → RunAt body new top frame b at
  run-kept body top frame [] at h g r = r
  run-kept body top frame (x ∷ b) at h g r = (r.0, binding_kept body top at x h g r.1, run-kept body top frame b (at + 8) h (omega arith) r.2)

-- ---- what is written

written_at : {work new : List ℕ} {at r : ℕ} {t : List ℕ} → Emitted work at t r new → at + length t ≤ length work → drop at new ≡ t ++ drop (at + length t) work
written_at {work} {new} {at} {r} {t} e h =
    let l : length (take at work) ≡ at = length-take-le at work (omega arith) in
    ap (drop at) (e.left ∙ (filled-fits work at t h ∙ append_assoc (take at work) t (drop (at + length t) work))) ∙ drop_at (take at work) (t ++ drop (at + length t) work) at l

number_at : (s : List ℕ) (at i : ℕ) → get16 s (at + i) ≡ get16 (drop at s) i
number_at s at i = get16-drop s at i

-- The numbers of a binding, where each has 16 bits.
numbers : (a b c d : ℕ) (k : List ℕ) → a < 65536 → b < 65536 → c < 65536 → (get16 (put_binding a b c d k) 0 ≡ a) × (get16 (put_binding a b c d k) 2 ≡ b) × (get16 (put_binding a b c d k) 4 ≡ c)
unfolding put_binding put16 get16
numbers a b c d k h g f = (get16-put16 a [] h, get16-put16 b [] g, get16-put16 c [] f)

pub binding_length : (a b c d : ℕ) → length (put_binding a b c d []) ≡ 8
unfolding put_binding put16
binding_length a b c d = refl

binding_front : (a b c d : ℕ) (k : List ℕ) → put_binding a b c d [] ++ k ≡ put_binding a b c d k
unfolding put_binding put16
binding_front a b c d k = refl

-- A value that stands in the state, below `top`.
pub record StandsAt (work : List ℕ) (top from until : ℕ) (u : Expression) : Type 0 where
  pub ordered : from ≤ until
  pub within : until ≤ top
  pub is : take (until - from) (drop from work) ≡ put_expression u []
  pub valid : ValidExpression u

-- A new binding below the others, whose variable stands at its place and whose value stands in the state.
pub bound-run :
    {body work new : List ℕ} {top frame at r : ℕ} (b : Bindings) (place from until end : ℕ) {k : Kind} {n : Name} {u : Expression}
    → Emitted work at (put_binding place from until end []) r new → top ≤ at → at + 8 ≤ length work → at + 8 ≤ frame → place < 65536 → until < 65536
    → (v : VariableAt (drop place body)) → v.kind ≡ k → v.name ≡ n → StandsAt work top from until u
    → RunAt body work top frame b (at + 8) → RunAt body new top frame (record { kind = k; name = n; value = u } ∷ b) at
bound-run {body} {work} {new} {top} {frame} {at} {r} b place from until end {k} {n} {u} e h g f i j v p q s run =
    let l : at + length (put_binding place from until end []) ≤ length work = omega (arith, g, binding_length place from until end) in
    let d : drop at new ≡ put_binding place from until end (drop (at + length (put_binding place from until end [])) work) = written_at e l ∙ binding_front place from until end _ in
    let m = numbers place from until end (drop (at + length (put_binding place from until end [])) work) i (let o = s.ordered in omega (arith, o, j)) j in
    let a = emitted-apart e l in
    let n0 : get16 new at ≡ place = ap (get16 new) (sym (add-zero at)) ∙ (number_at new at 0 ∙ (ap (λ (x : List ℕ). get16 x 0) d ∙ m.0)) in
    let n2 : get16 new (at + 2) ≡ from = number_at new at 2 ∙ (ap (λ (x : List ℕ). get16 x 2) d ∙ m.1) in
    let n4 : get16 new (at + 4) ≡ until = number_at new at 4 ∙ (ap (λ (x : List ℕ). get16 x 4) d ∙ m.2) in
    let w = variable-kept body (sym n0) v in (
      f,
      record {
        variable = w.0;
        kind = w.1 ∙ p;
        name = w.2 ∙ q;
        holds = record {
          ordered = omega (arith, n2, n4, s.ordered);
          within = omega (arith, n4, s.within);
          is = ap₂ (λ (x y : ℕ). take (x - y) (drop y new)) n4 n2 ∙ (part_below a from (until - from) (omega (arith, s.ordered, s.within, h)) ∙ s.is);
          valid = s.valid;
        };
      },
      run-kept a body top frame b (at + 8) h (omega (arith, binding_length place from until end)) run,
    )

pub number-length : (n : ℕ) → length (put16 n []) ≡ 2
unfolding put16
number-length n = refl

number-front : (n : ℕ) (k : List ℕ) → n < 65536 → get16 (put16 n [] ++ k) 0 ≡ n
unfolding put16
number-front n k h = get16-put16 n k h

-- The newest binding with another value, which begins where the old one does.
pub extended_run :
    {body work new : List ℕ} {top frame at r : ℕ} (b : Bindings) (x : Binding) (until : ℕ) {u : Expression}
    → Emitted work (at + 4) (put16 until []) r new → top ≤ at → at + 8 ≤ length work → until < 65536
    → RunAt body work top frame (x ∷ b) at → StandsAt work top (get16 work (at + 2)) until u
    → RunAt body new top frame (record { kind = x.kind; name = x.name; value = u } ∷ b) at
extended_run {body} {work} {new} {top} {frame} {at} {r} b x until {u} e h g j run s =
    let n = number-length until in
    let l : at + 4 + length (put16 until []) ≤ length work = omega (arith, g, n) in
    let a = emitted-apart e l in
    let n0 = number-below a at (omega arith) in
    let n2 = number-below a (at + 2) (omega arith) in
    let n4 : get16 new (at + 4) ≡ until = ap (get16 new) (sym (add-zero (at + 4))) ∙ (number_at new (at + 4) 0 ∙ (ap (λ (y : List ℕ). get16 y 0) (written_at e l) ∙ number-front until _ j)) in
    let w = variable-kept body (sym n0) run.1.variable in (
      run.0,
      record {
        variable = w.0;
        kind = w.1 ∙ run.1.kind;
        name = w.2 ∙ run.1.name;
        holds = record {
          ordered = omega (arith, n2, n4, s.ordered);
          within = omega (arith, n4, s.within);
          is = ap₂ (λ (y z : ℕ). take (y - z) (drop z new)) n4 n2 ∙ (part_below a (get16 work (at + 2)) (until - get16 work (at + 2)) (omega (arith, s.ordered, s.within, h)) ∙ s.is);
          valid = s.valid;
        };
      },
      run-kept a body top frame b (at + 8) (omega (arith, h)) (omega (arith, n)) run.2,
    )

pub written-number : {work new : List ℕ} {at r : ℕ} (n : ℕ) → Emitted work at (put16 n []) r new → at + 2 ≤ length work → n < 65536 → get16 new at ≡ n
written-number {work} {new} {at} {r} n e h j =
    let l : at + length (put16 n []) ≤ length work = (let k = number-length n in omega (arith, k, h)) in
    ap (get16 new) (sym (add-zero at)) ∙ (number_at new at 0 ∙ (ap (λ (y : List ℕ). get16 y 0) (written_at e l) ∙ number-front n _ j))

last-number : (a b c d : ℕ) (k : List ℕ) → d < 65536 → get16 (put_binding a b c d k) 6 ≡ d
unfolding put_binding put16 get16
last-number a b c d k h = get16-put16 d [] h

pub binding_numbers : {work new : List ℕ} {at r : ℕ} (a b c d : ℕ) → Emitted work at (put_binding a b c d []) r new → at + 8 ≤ length work → a < 65536 → b < 65536 → c < 65536 → d < 65536 → Numbers new at a b c d
binding_numbers {work} {new} {at} {r} a b c d e g ha hb hc hd =
    let l : at + length (put_binding a b c d []) ≤ length work = (let n = binding_length a b c d in omega (arith, g, n)) in
    let s : drop at new ≡ put_binding a b c d (drop (at + length (put_binding a b c d [])) work) = written_at e l ∙ binding_front a b c d _ in
    let m = numbers a b c d (drop (at + length (put_binding a b c d [])) work) ha hb hc in
    record {
      place = ap (get16 new) (sym (add-zero at)) ∙ (number_at new at 0 ∙ (ap (λ (x : List ℕ). get16 x 0) s ∙ m.0));
      from = number_at new at 2 ∙ (ap (λ (x : List ℕ). get16 x 2) s ∙ m.1);
      until = number_at new at 4 ∙ (ap (λ (x : List ℕ). get16 x 4) s ∙ m.2);
      end = number_at new at 6 ∙ (ap (λ (x : List ℕ). get16 x 6) s ∙ last-number a b c d (drop (at + length (put_binding a b c d [])) work) hd);
    }
