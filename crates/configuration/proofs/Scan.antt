-- The walk over both arguments from their starts, to find where two names are first seen.
use Prim.Native.Nat.{ℕ, ◌+◌, ◌-◌, ◌≤◌, ◌<◌}
use native.Mathlib.Omega.{arith}
use mathlib.Core.Path.{◌≡◌, refl, sym, ap, subst, ◌∙◌}
use mathlib.Core.Bool.{Bool, true, false, cond}
use mathlib.Core.List.{List, [], ◌∷◌, ◌++◌}
use lib.ListN.{length, take, drop, length-drop}
use Rattle.program.specs.Syntax.{Name}
use Rattle.program.specs.Limits.{Mode}
use Rattle.image.specs.Parts.{Passes, TermsAt}
use Rattle.symbols.proofs.Parts.{part_rest}
use Rattle.configuration.specs.Lockstep.{after_token, first_name, Pair, pairs, meets, first_both, Step, StepAt, Path, names_met, Walked}

abbrev pub part : List ℕ → ℕ → List ℕ
part s i = take (length s - i) (drop i s)

abbrev pub to_part : (s : List ℕ) (i : ℕ) → TermsAt Mode.pattern (drop i s) → TermsAt Mode.pattern (part s i)
to_part s i t = record { terms = t.terms; rest = t.rest; is = part_rest s i ∙ t.is; valid = t.valid }

pub part_length : (s : List ℕ) (i : ℕ) → length (part s i) ≡ length s - i
part_length s i = ap length (part_rest s i) ∙ length-drop i s

-- A token of the part is the same token of the whole.
pub from_part : (s : List ℕ) (i n : ℕ) {l : List ℕ} → Passes (part s i) n l → Passes (drop i s) n l
from_part s i n h = record { fits = omega (arith, h.fits, ap length (part_rest s i)); left = ap (drop n) (sym (part_rest s i)) ∙ h.left }

pub one-length : (s : List ℕ) (n d : ℕ) {l : List ℕ} → Passes s n l → Passes s d l → n ≡ d
one-length s n d h k = omega (arith, h.fits, k.fits, length-drop n s, length-drop d s, ap length h.left, ap length k.left)

names-scanned : (l k : List Name) → length l ≡ length k → (n m : Name) (ps : List Pair)
    → first_both n m (pairs l k ++ ps) ≡ cond (meets l n) (meets k m) (cond (meets k m) false (first_both n m ps))
unfolding pairs meets first_both
names-scanned [] [] e n m ps = refl
names-scanned [] (y ∷ k) e n m ps = absurd (omega (arith, e))
names-scanned (x ∷ l) [] e n m ps = absurd (omega (arith, e))
names-scanned (x ∷ l) (y ∷ k) e n m ps = refl

pub record Scanning (a b : List ℕ) (i j x y : ℕ) (n m : Name) (w : Walked a b i j) : Type 0 where
  pub steps : List Step
  pub path : Path a b steps x y i j
  pub whole : first_both n m (names_met w.steps) ≡ first_both n m (names_met steps)

pub scanning_first : {a b : List ℕ} {i j : ℕ} (n m : Name) (w : Walked a b i j) → Scanning a b i j 0 0 n m w
scanning_first n m w = record { steps = w.steps; path = w.path; whole = refl }

-- One more token stands before i.
pub record Ahead (a b : List ℕ) (i j x y : ℕ) (steps : List Step) : Type 0 where
  pub step : Step
  pub more : List Step
  pub here : StepAt a b x y step
  pub path : Path a b more (x + step.first) (y + step.second) i j
  pub is : steps ≡ step ∷ more

ahead_in : {a b : List ℕ} {i j x y : ℕ} (steps : List Step) → Path a b steps x y i j → x < i → Ahead a b i j x y steps
ahead_in [] p l = absurd (omega (arith, p.0, l))
ahead_in (t ∷ ts) p l = record { step = t; more = ts; here = p.0; path = p.1; is = refl }

path_forward : (a b : List ℕ) (i j : ℕ) (ts : List Step) (x y : ℕ) → Path a b ts x y i j → x ≤ i
path_forward a b i j [] x y p = omega (arith, p.0)
path_forward a b i j (t ∷ ts) x y p = omega (arith, path_forward a b i j ts (x + t.first) (y + t.second) p.1)

module _ {a b : List ℕ} {i j x y : ℕ} {n m : Name} {w : Walked a b i j} (s : Scanning a b i j x y n m w) where
  pub scanning_end : i ≤ x → first_both n m (names_met w.steps) ≡ true
  unfolding names_met first_both
  scanning_end l = s.whole ∙ go s.steps s.path
    where
      go : (ts : List Step) → Path a b ts x y i j → first_both n m (names_met ts) ≡ true
      go [] p = refl
      go (t ∷ ts) p = absurd (omega (arith, l, p.0.moves, path_forward a b i j ts (x + t.first) (y + t.second) p.1))

  module _ (l : x < i) where
    pub ahead : Ahead a b i j x y s.steps
    ahead = ahead_in s.steps s.path l

    abbrev pub one_part : TermsAt Mode.pattern (part a x)
    one_part = to_part a x ahead.here.one

    abbrev pub two_part : TermsAt Mode.pattern (part b y)
    two_part = to_part b y ahead.here.two

    scanned : first_both n m (names_met w.steps) ≡ cond (meets (first_name ahead.here.one.terms) n) (meets (first_name ahead.here.two.terms) m) (cond (meets (first_name ahead.here.two.terms) m) false (first_both n m (names_met ahead.more)))
    unfolding names_met
    scanned =
        s.whole ∙ (ap (λ (ts : List Step). first_both n m (names_met ts)) ahead.is ∙ (ap (λ (ps : List Pair). first_both n m (ps ++ names_met ahead.more)) ahead.here.names
        ∙ names-scanned (first_name ahead.here.one.terms) (first_name ahead.here.two.terms) ahead.here.together n m (names_met ahead.more)))

    module _ (p q : Bool) (hp : p ≡ meets (first_name ahead.here.one.terms) n) (hq : q ≡ meets (first_name ahead.here.two.terms) m) where
      told : first_both n m (names_met w.steps) ≡ cond p q (cond q false (first_both n m (names_met ahead.more)))
      told = scanned ∙ (ap (λ (t : Bool). cond t (meets (first_name ahead.here.two.terms) m) (cond (meets (first_name ahead.here.two.terms) m) false (first_both n m (names_met ahead.more)))) (sym hp)
          ∙ ap (λ (t : Bool). cond p t (cond t false (first_both n m (names_met ahead.more)))) (sym hq))

      pub first-met : p ≡ true → first_both n m (names_met w.steps) ≡ q
      first-met e = told ∙ ap (λ (t : Bool). cond t q (cond q false (first_both n m (names_met ahead.more)))) e

      pub second-met : p ≡ false → q ≡ true → first_both n m (names_met w.steps) ≡ false
      second-met e f = told ∙ (ap (λ (t : Bool). cond t q (cond q false (first_both n m (names_met ahead.more)))) e ∙ ap (λ (t : Bool). cond t false (first_both n m (names_met ahead.more))) f)

      module _ (d c : ℕ) (u : Passes (part a x) d (after_token ahead.here.one.terms ahead.here.one.rest)) (v : Passes (part b y) c (after_token ahead.here.two.terms ahead.here.two.rest)) where
        first-is : d ≡ ahead.step.first
        first-is = one-length (drop x a) d ahead.step.first (from_part a x d u) ahead.here.past_one

        second_is : c ≡ ahead.step.second
        second_is = one-length (drop y b) c ahead.step.second (from_part b y c v) ahead.here.past_two

        pub token-moves : (0 < d) × (y ≤ length b → y + c ≤ length b) × (x ≤ length a → x + d ≤ length a)
        token-moves = (omega (arith, first-is, ahead.here.moves), (λ z. omega (arith, (from_part b y c v).fits, length-drop y b, z)), (λ z. omega (arith, (from_part a x d u).fits, length-drop x a, z)))

        pub scanning-next : p ≡ false → q ≡ false → Scanning a b i j (x + d) (y + c) n m w
        scanning-next e f = record {
          steps = ahead.more;
          path = subst (λ (k : ℕ). Path a b ahead.more (x + k) (y + c) i j) (sym first-is) (subst (λ (k : ℕ). Path a b ahead.more (x + ahead.step.first) (y + k) i j) (sym second_is) ahead.path);
          whole = told ∙ (ap (λ (t : Bool). cond t q (cond q false (first_both n m (names_met ahead.more)))) e ∙ ap (λ (t : Bool). cond t false (first_both n m (names_met ahead.more))) f);
        }
