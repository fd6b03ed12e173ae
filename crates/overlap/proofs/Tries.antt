-- Answers of the cycle, and where there is none.
use Prim.Native.Nat.{ℕ}
use mathlib.Core.Path.{◌≡◌, refl, sym, ap, ◌∙◌, subst}
use mathlib.Core.Bool.{true≢false}
use Rattle.std.specs.Prelude.{Option, None, Some, IsSome, is_some}
use Rattle.patterns.specs.declared.Verdict.{Verdict}
use Rattle.patterns.specs.declared.Found.{Found}
use Rattle.patterns.specs.Search.{found}
use Rattle.overlap.specs.Steps.{behind, tried, behind_tried, Answers, Says}
use Rattle.overlap.specs.declared.search.Limits.{Limits}
use Rattle.overlap.specs.declared.search.Tried.{Tried}

-- A search that has ended has an answer, and so has one behind heads if that on the tails has.
module _ {r : Option Tried} {v : Verdict} {f e : ℕ} (is : r ≡ Some (tried v f e)) where
  pub ended-some : IsSome r
  ended-some = ap is_some is

  pub ended-verdict : {w : Verdict} → v ≡ w → Says r w
  ended-verdict {w} e = subst (λ (s : Option Tried). Says s w) (sym is) e

  pub ended-answers : {q : Found} → found v f ≡ q → Answers r q
  ended-answers {q} e = subst (λ (s : Option Tried). Answers s q) (sym is) e

some-behind : (h : Verdict) (t : Option Tried) → IsSome t → IsSome (behind_tried h t)
some-behind h None k = k
some-behind h (Some x) k = refl

answers-behind : (h : Verdict) (t : Option Tried) (q : Found) → Answers t q → Answers (behind_tried h t) (behind h q)
answers-behind h None q k = tt
answers-behind h (Some x) q k = ap (behind h) k

module _ (h : Verdict) (t : Option Tried) {r : Option Tried} (is : r ≡ behind_tried h t) where
  pub behind-some : IsSome t → IsSome r
  behind-some k = ap is_some is ∙ some-behind h t k

  pub behind-answers : (q w : Found) → Answers t q → behind h q ≡ w → Answers r w
  behind-answers q w k e = subst (λ (z : Found). Answers r z) e (subst (λ (s : Option Tried). Answers s (behind h q)) (sym is) (answers-behind h t q k))

-- What has an answer is not none.
pub not_none : {A : Type 0} {T : Type 0} {r : Option T} → IsSome r → r ≡ None → A
not_none k e = absurd (true≢false (sym k ∙ ap is_some e))

pub not_stopped : {A : Type 0} {r : Option Limits} {l : Limits} → r ≡ Some l → r ≡ None → A
not_stopped k e = not_none (ap is_some k) e

-- Under no limit what is left inside is the same.
pub still : {r : Option Limits} {k l : Limits} → r ≡ Some k → r ≡ Some l → l ≡ k
still a b = cc
