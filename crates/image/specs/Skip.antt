-- Passing over records without reading them: each mark says how many bytes belong to it and how many closes are owed after it.
use Rattle.std.specs.Prelude.{ℕ, zero, suc, ◌+◌, List, [], ◌∷◌, get_or, eqb}
use Rattle.program.specs.Limits.{pick}

-- The closes owed after a mark where suc n were owed before it: a bracket and a call owe one more, a block two.
-- A sentence owes those of its pattern and result, and a condition those of its own two, so each ends where what it owes is met.
unfoldable pub owed : ℕ → ℕ → ℕ
owed m n =
    pick (eqb m 7) (suc (suc n))
    (pick (eqb m 8) (suc (suc n))
    (pick (eqb m 9) (suc (suc (suc n)))
    (pick (eqb m 10) (suc (suc (suc n)))
    (pick (eqb m 11) (suc (suc (suc n))) (pick (eqb m 15) n (suc n))))))

-- The bytes that belong to a mark, with s after it: a span; a span and a code; a span and a name.
unfoldable pub fields : ℕ → List ℕ → ℕ
fields m s =
    pick (eqb m 1) 12
    (pick (eqb m 2) (9 + get_or s 8 0)
    (pick (eqb m 3) (9 + get_or s 8 0)
    (pick (eqb m 4) (9 + get_or s 8 0)
    (pick (eqb m 5) (9 + get_or s 8 0)
    (pick (eqb m 6) (9 + get_or s 8 0)
    (pick (eqb m 7) 8
    (pick (eqb m 8) (9 + get_or s 8 0)
    (pick (eqb m 9) 8
    (pick (eqb m 10) 8
    (pick (eqb m 11) 8 0))))))))))

-- What is left of s past k bytes and then n owed closes.
unfoldable pub passing : List ℕ → ℕ → ℕ → List ℕ
passing [] n k = []
passing (b ∷ s) zero k = b ∷ s
passing (b ∷ s) (suc n) zero = passing s (owed b n) (fields b s)
passing (b ∷ s) (suc n) (suc k) = passing s (suc n) k

abbrev pub pass : ℕ → List ℕ → List ℕ
pass n s = passing s n 0
