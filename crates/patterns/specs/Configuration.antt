-- When two arguments are repeats: "exactly if it equals an earlier one of its function once variable names are numbered by first appearance (case ignored, one numbering for all kinds), identifiers by exact spelling, **spans included**".
-- The arguments have no calls and no blocks: only such are restrictions.
use Rattle.std.specs.Prelude.{ℕ, zero, suc, Bool, cond, List, [], ◌∷◌}
use Rattle.program.specs.Syntax.{Name, Terms, nil, symbol, variable, bracket, call, block}
use Rattle.patterns.specs.Names.{caseless, eq_bytes}
use Rattle.patterns.specs.Equality.{eq_terms}

-- The number of a name: the Rust's `names.iter().position(..)`, and `names.len()` for a new one.
unfoldable pub position : Name → List Name → ℕ
position n [] = zero
position n (m ∷ ms) = cond (eq_bytes n m) zero (suc (position n ms))

-- The names seen, once a name has been met: the Rust's `names.push(..)` for a new one.
unfoldable pub seen_with : Name → List Name → List Name
seen_with n [] = n ∷ []
seen_with n (m ∷ ms) = cond (eq_bytes n m) (m ∷ ms) (m ∷ seen_with n ms)

-- The names seen after a sequence.
unfoldable pub names_after : Terms → List Name → List Name
names_after nil l = l
names_after (symbol s x r) l = names_after r l
names_after (variable s k n r) l = names_after r (seen_with (caseless n) l)
names_after (bracket s i r) l = names_after r (names_after i l)
names_after (call s f a r) l = l
names_after (block s a b r) l = l

-- A variable's number in place of its name: the Rust writes `V0`, `V1`, ..
abbrev pub number_name : ℕ → Name
number_name i = i ∷ []

-- The Rust's `walk`, with the names seen so far.
unfoldable pub canonical_from : Terms → List Name → Terms
canonical_from nil l = nil
canonical_from (symbol s x r) l = symbol s x (canonical_from r l)
canonical_from (variable s k n r) l = variable s k (number_name (position (caseless n) l)) (canonical_from r (seen_with (caseless n) l))
canonical_from (bracket s i r) l = bracket s (canonical_from i l) (canonical_from r (names_after i l))
canonical_from (call s f a r) l = call s f a r
canonical_from (block s a b r) l = block s a b r

-- The Rust's `canonical_configuration`.
unfoldable pub canonical_configuration : Terms → Terms
canonical_configuration a = canonical_from a []

-- The Rust's `same_configuration`.
unfoldable pub same_configuration : Terms → Terms → Bool
same_configuration a b = eq_terms (canonical_configuration a) (canonical_configuration b)
