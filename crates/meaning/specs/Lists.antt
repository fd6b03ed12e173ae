-- Tests on lists, and lists by tests.
use Rattle.std.specs.Prelude.{Bool, true, false, ◌&&◌, ◌||◌, cond, List, [], ◌∷◌}

unfoldable pub all : {A : Type 0} → (A → Bool) → List A → Bool
all test [] = true
all test (x ∷ l) = test x && all test l

unfoldable pub any : {A : Type 0} → (A → Bool) → List A → Bool
any test [] = false
any test (x ∷ l) = test x || any test l

-- The elements that pass a test.
unfoldable pub select : {A : Type 0} → (A → Bool) → List A → List A
select test [] = []
select test (x ∷ l) = cond (test x) (x ∷ select test l) (select test l)

-- The elements that are the same as none of `seen` and none kept before them.
unfoldable pub firsts_after : {A : Type 0} → (A → A → Bool) → List A → List A → List A
firsts_after same seen [] = []
firsts_after same seen (x ∷ l) = cond (any (λ y. same y x) seen) (firsts_after same seen l) (x ∷ firsts_after same (x ∷ seen) l)

-- The first of each that are the same.
unfoldable pub firsts : {A : Type 0} → (A → A → Bool) → List A → List A
firsts same l = firsts_after same [] l
