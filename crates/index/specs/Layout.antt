-- Where the parts of work begin: columns, one after another, of functions (two), sentences (two), kept marks, sites (three); then room.
use Rattle.std.specs.Prelude.{ℕ, ◌+◌, ◌*◌, ◌/◌, ◌≤◌, List, length}
use Rattle.index.specs.declared.Plan.{Plan}

abbrev pub heads : Plan → ℕ
heads p = p.functions

abbrev pub lines : Plan → ℕ
lines p = 2 * p.functions

abbrev pub witnesses : Plan → ℕ
witnesses p = lines p + p.sentences

abbrev pub marks : Plan → ℕ
marks p = lines p + 2 * p.sentences

-- "The kept marks are one bit a sentence": words of 32.
abbrev pub calls : Plan → ℕ
calls p = marks p + (p.sentences + 31) / 32

abbrev pub links : Plan → ℕ
links p = calls p + p.sites

-- What the report notes of each site once the rounds are done; while sites are linked, the functions are filed from here on.
abbrev pub notes : Plan → ℕ
notes p = links p + p.sites

abbrev pub room : Plan → ℕ
room p = notes p + p.sites

-- Work reaches so far, and is no longer than what is lent: an entry for each four bytes of an image.
abbrev pub Reaches : ℕ → List ℕ → Type 0
Reaches end m = (end ≤ length m) × (length m ≤ 8192)
