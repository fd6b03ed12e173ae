-- A new variable bound in the state: its binding, its choice, and the matches.
use Prim.Native.Nat.{ℕ, ◌+◌, ◌-◌, ◌<◌, ◌≤◌}
use native.Mathlib.Omega.{arith}
use mathlib.Core.Path.{◌≡◌, refl, sym, ap₂, subst, ◌∙◌}
use mathlib.Core.Logic.{inr}
use mathlib.Core.List.{List, [], ◌∷◌}
use lib.ListN.{length, take, drop}
use Rattle.program.specs.Syntax.{Kind, s_kind, t_kind, e_kind}
use Rattle.program.specs.Encode.{put_terms}
use Rattle.patterns.specs.Expression.{Expression}
use Rattle.patterns.specs.Marks.{put_expression}
use Rattle.meaning.specs.Match.{Bindings}
use Rattle.meaning.proofs.Inputs.{ValidExpression}
use Rattle.meaning.proofs.Matching.{bound}
use Rattle.meaning.proofs.Searching.{Choice, choice, site}
use Rattle.text.specs.Fill.{Emitted}
use Rattle.text.proofs.Fill.{emitted-length}
use Rattle.matching.specs.Bindings.{VariableAt, put_binding, Numbers, RunAt}
use Rattle.matching.specs.Binds.{add_choice, Binds}
use Rattle.matching.specs.Choices.{ChoiceAt, ByKind, ChoicesAt}
use Rattle.matching.specs.Pairs.{put_patterns, put_behind, VariablePair}
use Rattle.matching.specs.Takes.{Takes}
use Rattle.matching.proofs.Held.{Apart, emitted-apart, part_below, binding_length, binding_numbers, bound-run}
use Rattle.matching.proofs.Taking.{variable-at, behind-variable}
use Rattle.matching.proofs.Splitting.{pairs-kept}
use Rattle.matching.proofs.Extending.{choices-kept}

-- A place in the body has one variable, and one rest behind it.
one-rest : (body : List ℕ) (p : ℕ) (v w : VariableAt (drop p body)) → v.rest ≡ w.rest
one-rest body p v w = sym (behind-variable body p v _ refl).0 ∙ (behind-variable body p w _ refl).0

left-value : {body work new : List ℕ} {lo hi p v end until : ℕ} {q : VariablePair body work p v end} {b : Bindings} → Apart work new lo hi → end ≤ lo → (t : Takes body work p v end q b until) → take (end - until) (drop until new) ≡ put_expression t.left (put_behind q.more)
left-value {body} {work} {new} {lo} {hi} {p} {v} {end} {until} a h t = part_below a until (end - until) (let w = t.within in omega (arith, w, h)) ∙ t.behind

kinds : (k : Kind) (P : Choice → Type 0) (R : List Choice → Type 0) (cs : List Choice) (c : Choice) → P c → R cs → ByKind k P R (add_choice k c cs)
unfolding add_choice
kinds s_kind P R cs c h r = r
kinds t_kind P R cs c h r = r
kinds e_kind P R cs c h r = (c, cs, refl, h, r)

module _ {body work new : List ℕ} {lo hi top at p v end until : ℕ} (q : VariablePair body work p v end) (b : Bindings) (stop : ℕ) (taken left : Expression) (cs : List Choice) (short : at + 8 ≤ stop) (low : top ≤ at) (a : Apart work new lo hi) (m : Numbers new at p v until end) where
  here : take (end - until) (drop until new) ≡ put_expression left (put_behind q.more) → until ≤ end → end ≤ top → ValidExpression left → ChoiceAt body new q.rest top at (bound q.kind q.name taken) b (choice (site q.name q.behind q.more b) taken left)
  unfolding variable-at
  here value o w valid = record {
    name = refl;
    before = refl;
    taken = refl;
    pattern = subst (λ (i : ℕ). (y : VariableAt (drop i body)) → y.rest ≡ put_terms q.behind (put_patterns q.more q.rest)) (sym m.place) (λ y. one-rest body p y (variable-at q));
    value = ap₂ (λ (i j : ℕ). take (i - j) (drop j new)) m.end m.until ∙ value;
    ordered = let x = m.until in let y = m.end in omega (arith, x, y, o);
    within = let y = m.end in omega (arith, y, w);
    valid = (q.at.valid.0.2, valid);
    valid-more = q.at.valid-more;
  }

  chosen : ChoicesAt body new q.rest top stop b (at + 8) cs → take (end - until) (drop until new) ≡ put_expression left (put_behind q.more) → until ≤ end → end ≤ top → ValidExpression left → ChoicesAt body new q.rest top stop (bound q.kind q.name taken ∷ b) at (add_choice q.kind (choice (site q.name q.behind q.more b) taken left) cs)
  chosen old value o w valid = inr (short, kinds q.kind (ChoiceAt body new q.rest top at (bound q.kind q.name taken) b) (ChoicesAt body new q.rest top stop b (at + 8)) cs (choice (site q.name q.behind q.more b) taken left) (here value o w valid) old)

pub binds :
    {body work new : List ℕ} {top low p v end r : ℕ} (q : VariablePair body work p v end) (b : Bindings) (frame next until : ℕ)
    → top + 8 ≤ low → low ≤ length work → end ≤ top → top < 65536 → p < 65536 → low ≤ frame
    → Takes body work p v end q b until → Emitted work (low - 8) (put_binding p v until end []) r new
    → drop next body ≡ put_terms q.behind (put_patterns q.more q.rest) → RunAt body work top frame b low
    → Binds body work new top frame (low - 8) p v end q b next until
unfolding variable-at
binds {body} {work} {new} {top} {low} {p} {v} {end} q b frame next until h g f d i j t e n run =
    let low' : low - 8 + 8 ≡ low = omega arith in
    let w = t.within in
    let o = t.ordered in
    let len = binding_length p v until end in
    let m = binding_numbers p v until end e (omega (arith, low', g)) i (omega (arith, q.at.ordered, f, d)) (omega (arith, w, f, d)) (omega (arith, f, d)) in
    let a = emitted-apart e (omega (arith, len, low', g)) in
    record {
      taken = t.taken;
      left = t.left;
      fits = t.fits;
      run =
          bound-run b p v until end e (omega arith) (omega (arith, low', g)) (omega (arith, low', j)) i (omega (arith, w, f, d)) (variable-at q) refl refl
          (record { ordered = o; within = omega (arith, w, f); is = t.is; valid = t.valid-taken })
          (subst (RunAt body work top frame b) (sym low') run);
      at = pairs-kept a (omega arith) (emitted-length e) (record { pattern = n; value = t.behind; ordered = w; within = q.at.within; valid = (q.at.valid.0.2, t.valid-left); valid-more = q.at.valid-more });
      same = t.same;
      choices = λ stop cs k old. chosen q b stop t.taken t.left cs k (omega arith) a m (choices-kept a body q.rest top (omega arith) stop b (low - 8 + 8) cs (omega (arith, len)) old) (left-value a (omega arith) t) w (omega (arith, f)) t.valid-left;
    }
