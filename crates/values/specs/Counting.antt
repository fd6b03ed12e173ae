-- Brackets and closes counted by marks.
use Rattle.std.specs.Prelude.{ℕ, suc, ◌-◌, max, eqb}
use Rattle.program.specs.Limits.{pick}

-- How many brackets are open after a mark.
unfoldable pub depth_after : ℕ → ℕ → ℕ
depth_after m d = pick (eqb m 7) (suc d) (pick (eqb m 15) (d - 1) d)

-- How many closes are owed after a mark: a term begins an answer, which owes one.
unfoldable pub owed_after : ℕ → ℕ → ℕ
owed_after m n = pick (eqb m 7) (suc (max 1 n)) (pick (eqb m 15) (max 1 n - 1) (max 1 n))
