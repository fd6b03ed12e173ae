-- When two names are the same: document 01, "Names meet without regard to ASCII case."
use Rattle.std.specs.Prelude.{ℕ, suc, ◌+◌, Bool, true, false, ◌&&◌, cond, List, [], ◌∷◌, map, eqb, leb, length}
use Rattle.program.specs.Syntax.{Name}
use Rattle.patterns.specs.declared.NameComparison.{NameComparison}

-- An ASCII capital's small letter; any other byte stays.
unfoldable pub lower : ℕ → ℕ
lower c = cond (leb 65 c && leb c 90) (c + 32) c

unfoldable pub caseless : Name → Name
caseless n = map lower n

-- The same bytes.
unfoldable pub eq_bytes : List ℕ → List ℕ → Bool
eq_bytes [] [] = true
eq_bytes [] (d ∷ m) = false
eq_bytes (c ∷ n) [] = false
eq_bytes (c ∷ n) (d ∷ m) = eqb c d && eq_bytes n m

unfoldable pub same_name : Name → Name → Bool
same_name n m = eq_bytes (caseless n) (caseless m)

-- Document 02, 2: the byte pairs "up to the first that differs", that one included.
unfoldable pub pairs_compared : List ℕ → List ℕ → ℕ
pairs_compared [] m = 0
pairs_compared (c ∷ n) [] = 0
pairs_compared (c ∷ n) (d ∷ m) = suc (cond (eqb c d) (pairs_compared n m) 0)

-- "how many byte pairs it compared: none where the lengths differ, else those up to the first that differs without regard to case"
unfoldable pub compare_names : Name → Name → NameComparison
compare_names n m = record { equal = same_name n m; compared = cond (eqb (length n) (length m)) (pairs_compared (caseless n) (caseless m)) 0 }
