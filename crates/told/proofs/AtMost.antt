-- Lists of at most so many elements, each with a property, and how long their lines are together.
use Prim.Native.Nat.{ℕ, suc, ◌+◌, ◌*◌, ◌≤◌}
use native.Mathlib.Omega.{arith}
use native.Mathlib.Nat.{mul-le-mul_right}
use mathlib.Core.Path.{◌≡◌, refl}
use mathlib.Core.Bool.{Bool, true, false, cond}
use mathlib.Core.List.{List, [], ◌∷◌, ◌++◌, map, flatten, flat_map}
use mathlib.Core.Option.{some}
use lib.ListN.{length, get_elem?, length-append}
use Rattle.meaning.specs.Lists.{any, select, firsts_after, firsts}
use Rattle.meaning.specs.Text.{Text}
use Rattle.told.specs.ToldReport.{judged_only, runs_after}
use Rattle.meaning.specs.Report.{join}

abbrev pub Each : {A : Type 0} → (A → Type 0) → List A → Type 0
Each P [] = Unit {0}
Each P (x ∷ l) = P x × Each P l

pub record AtMost {A : Type 0} (P : A → Type 0) (n : ℕ) (l : List A) : Type 0 where
  pub each : Each P l
  pub few : length l ≤ n

-- The first list is the second without some of its elements.
pub data Among {A : Type 0} : List A → List A → Type 0 where
  nothing : Among [] []
  passed : {x : A} {l m : List A} → Among l m → Among l (x ∷ m)
  taken : {x : A} {l m : List A} → Among l m → Among (x ∷ l) (x ∷ m)

-- ---- each

module _ {A : Type 0} (P : A → Type 0) where
  pub each_at : (l : List A) → ((i : ℕ) (x : A) → get_elem? l i ≡ some x → P x) → Each P l
  each_at [] h = tt
  each_at (x ∷ l) h = (h 0 x refl, each_at l (λ i y e. h (suc i) y e))

  pub each_append : (l m : List A) → Each P l → Each P m → Each P (l ++ m)
  each_append [] m e f = f
  each_append (x ∷ l) m e f = (e.0, each_append l m e.1 f)

  pub each_split : (l m : List A) → Each P (l ++ m) → Each P l × Each P m
  each_split [] m e = (tt, e)
  each_split (x ∷ l) m e = let s = each_split l m e.1 in ((e.0, s.0), s.1)

  pub each_cond : (t : Bool) (l m : List A) → Each P l → Each P m → Each P (cond t l m)
  each_cond true l m e f = e
  each_cond false l m e f = f

  each_select : (test : A → Bool) (l : List A) → Each (λ x. test x ≡ true → P x) l → Each P (select test l)
  unfolding select
  each_select test [] e = tt
  each_select test (x ∷ l) e = by (test x) e.0 (each_select test l e.1)
    where
      by : (t : Bool) → (t ≡ true → P x) → Each P (select test l) → Each P (cond t (x ∷ select test l) (select test l))
      by true f g = (f refl, g)
      by false f g = g

each_map : {A B : Type 0} (P : A → Type 0) (Q : B → Type 0) (g : A → B) → ((x : A) → P x → Q (g x)) → (l : List A) → Each P l → Each Q (map g l)
each_map P Q g h [] e = tt
each_map P Q g h (x ∷ l) e = (h x e.0, each_map P Q g h l e.1)

map-length : {A B : Type 0} (g : A → B) (l : List A) → length (map g l) ≡ length l
map-length g [] = refl
map-length g (x ∷ l) = omega (arith, map-length g l)

-- ---- among

module _ {A : Type 0} where
  among_each : (P : A → Type 0) {l m : List A} → Among l m → Each P m → Each P l
  among_each P Among.nothing e = e
  among_each P (Among.passed a) e = among_each P a e.1
  among_each P (Among.taken a) e = (e.0, among_each P a e.1)

  among-length : {l m : List A} → Among l m → length l ≤ length m
  among-length Among.nothing = omega arith
  among-length (Among.passed a) = omega (arith, among-length a)
  among-length (Among.taken a) = omega (arith, among-length a)

  pub either : (t : Bool) {l k m : List A} → Among l m → Among k m → Among (cond t l k) m
  either true a b = a
  either false a b = b

  pub select-among : (test : A → Bool) (l : List A) → Among (select test l) l
  unfolding select
  select-among test [] = Among.nothing
  select-among test (x ∷ l) = let a = select-among test l in either (test x) (Among.taken a) (Among.passed a)

  module _ (same : A → A → Bool) where
    after-among : (l seen : List A) → Among (firsts_after same seen l) l
    unfolding firsts_after
    after-among [] seen = Among.nothing
    after-among (x ∷ l) seen = either (any (λ y. same y x) seen) (Among.passed (after-among l seen)) (Among.taken (after-among l (x ∷ seen)))

    pub firsts-among : (l : List A) → Among (firsts same l) l
    unfolding firsts
    firsts-among l = after-among l []

    pub runs_among : (l last : List A) → Among (runs_after same last l) l
    unfolding runs_after
    runs_among [] last = Among.nothing
    runs_among (x ∷ l) last = let a = runs_among l (x ∷ []) in either (any (λ y. same y x) last) (Among.passed a) (Among.taken a)

-- ---- at most

module _ {A : Type 0} {P : A → Type 0} where
  pub most_more : {n m : ℕ} {l : List A} → n ≤ m → AtMost P n l → AtMost P m l
  most_more h a = record { each = a.each; few = omega (arith, h, a.few) }

  pub most_among : {n : ℕ} {l m : List A} → Among l m → AtMost P n m → AtMost P n l
  most_among r a = record { each = among_each P r a.each; few = omega (arith, among-length r, a.few) }

  pub most_select : {n : ℕ} (test : A → Bool) (l : List A) → AtMost (λ x. test x ≡ true → P x) n l → AtMost P n (select test l)
  most_select test l a = record { each = each_select P test l a.each; few = omega (arith, among-length (select-among test l), a.few) }

  pub most_append : {n m : ℕ} (l k : List A) → AtMost P n l → AtMost P m k → AtMost P (n + m) (l ++ k)
  most_append l k a b = record { each = each_append P l k a.each b.each; few = omega (arith, length-append l k, a.few, b.few) }

  pub most_judged : (t : Bool) {n : ℕ} {l : List A} → AtMost P n l → AtMost P n (judged_only t l)
  unfolding judged_only
  most_judged true a = a
  most_judged false a = record { each = tt; few = omega arith }

pub most_map : {A B : Type 0} (P : A → Type 0) (Q : B → Type 0) {n : ℕ} (g : A → B) (l : List A) → ((x : A) → P x → Q (g x)) → AtMost P n l → AtMost Q n (map g l)
most_map P Q g l h a = record { each = each_map P Q g h l a.each; few = omega (arith, map-length g l, a.few) }

-- ---- texts

-- The lengths of texts together.
abbrev pub total : List Text → ℕ
total [] = 0
total (x ∷ l) = length x + total l

pub flatten_length : (l : List Text) → length (flatten l) ≡ total l
unfolding flatten
flatten_length [] = refl
flatten_length (x ∷ l) = omega (arith, length-append x (flatten l), flatten_length l)

each_length : {A : Type 0} (f : A → Text) (k : ℕ) (l : List A) → Each (λ x. length (f x) ≤ k) l → length (flat_map f l) ≤ length l * k
unfolding flat_map
each_length f k [] e = omega arith
each_length f k (x ∷ l) e = omega (arith, length-append (f x) (flat_map f l), e.0, each_length f k l e.1)

pub lines-length : {A : Type 0} (f : A → Text) (k : ℕ) {n : ℕ} (l : List A) → AtMost (λ x. length (f x) ≤ k) n l → length (flat_map f l) ≤ n * k
lines-length f k l a = omega (arith, each_length f k l a.each, mul-le-mul_right k a.few)

each_joined : (between : Text) (k : ℕ) (l : List Text) → Each (λ x. length x ≤ k) l → length (join between l) ≤ length l * (k + length between)
unfolding join
each_joined between k [] e = omega arith
each_joined between k (x ∷ []) e = omega (arith, e.0)
each_joined between k (x ∷ y ∷ l) e =
    omega (arith, length-append x (between ++ join between (y ∷ l)), length-append between (join between (y ∷ l)), e.0, each_joined between k (y ∷ l) e.1)

pub joined_length : (between : Text) (k : ℕ) {n : ℕ} (l : List Text) → AtMost (λ x. length x ≤ k) n l → length (join between l) ≤ n * (k + length between)
joined_length between k l a = omega (arith, each_joined between k l a.each, mul-le-mul_right (k + length between) a.few)
