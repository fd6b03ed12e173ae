-- Document 02, request 5: "one expression that matches both patterns with every variable occurrence read as fresh. It follows the first successful split of the search."
use Rattle.std.specs.Prelude.{ℕ, zero, suc, ◌+◌, Bool, true, false, not, List, [], ◌∷◌}
use Rattle.program.specs.Syntax.{Symbol, character, s_kind, t_kind, e_kind, Terms, nil, symbol, variable, bracket, call, block}
use Rattle.patterns.specs.declared.Verdict.{Verdict}
use Rattle.patterns.specs.declared.Verdict.TheVariants.{Disjoint, Overlap, Unknown}
use Rattle.patterns.specs.Expression.{Expression, void, atom, group, ◌⧺◌}
use Rattle.patterns.specs.Search.{One, View, view, ends, start, size, sequence}

-- "a free `s.` or `t.` becomes the character A"
unfoldable pub letter : Symbol
letter = character 65

-- A pattern that nothing is compared with: "a free `e.` becomes nothing".
unfoldable pub free : Terms → Expression
free nil = void
free (symbol s x r) = atom x (free r)
free (variable s s_kind n r) = atom letter (free r)
free (variable s t_kind n r) = atom letter (free r)
free (variable s e_kind n r) = free r
free (bracket s i r) = group (free i) (free r)
free (call s f a r) = free r
free (block s a b r) = free r

unfoldable pub free_one : One → Expression
free_one (One.literal x) = atom x void
free_one One.any-symbol = atom letter void
free_one One.any_term = atom letter void
free_one One.no-pattern = void
free_one (One.brackets i) = group (free i) void

-- A sequence's first term, free, in front of an expression.
unfoldable pub before : View → Expression → Expression
before View.nothing v = v
before (View.absorbing r) v = v
before (View.one x r) v = free_one x ⧺ v

-- What two sequences meet in: whether they have changed places, the fuel, the sequences.
abbrev pub Meeting : Type 0
Meeting = Bool → ℕ → Terms → Terms → Expression

abbrev pub if_overlap : Verdict → Expression → Expression → Expression
if_overlap Disjoint v w = w
if_overlap Overlap v w = v
if_overlap Unknown v w = w

-- Beside `splits_from`: "It follows the first successful split of the search." The terms that a split leaves out belong to the `e.` variable.
unfoldable pub meet_splits : Meeting → Bool → Terms → List Terms → ℕ → Expression
meet_splits meet swapped rest [] f = void
meet_splits meet swapped rest (o ∷ os) f =
    let q = sequence f rest o in
    let v = meet swapped f rest o in
    let w = before (view o) (meet_splits meet swapped rest os q.fuel) in
    if_overlap q.verdict v w

-- "identifiers and numbers are spelled as in the first pattern"
abbrev pub of_first : Bool → Symbol → Symbol → Symbol
of_first false x y = x
of_first true x y = y

-- Beside `overlap_of_terms`: "A literal or a bracket beats a variable".
unfoldable pub meet_of_terms : Meeting → Bool → One → One → Expression
meet_of_terms meet swapped (One.literal x) (One.literal y) = atom (of_first swapped x y) void
meet_of_terms meet swapped (One.literal x) One.any-symbol = atom x void
meet_of_terms meet swapped (One.literal x) One.any_term = atom x void
meet_of_terms meet swapped (One.literal x) One.no-pattern = void
meet_of_terms meet swapped (One.literal x) (One.brackets j) = void
meet_of_terms meet swapped One.any-symbol y = free_one y
meet_of_terms meet swapped One.any_term y = free_one y
meet_of_terms meet swapped One.no-pattern y = void
meet_of_terms meet swapped (One.brackets i) (One.literal y) = void
meet_of_terms meet swapped (One.brackets i) One.any-symbol = void
meet_of_terms meet swapped (One.brackets i) One.any_term = group (free i) void
meet_of_terms meet swapped (One.brackets i) One.no-pattern = void
meet_of_terms meet swapped (One.brackets i) (One.brackets j) = group (meet swapped start i j) void

-- Beside `entered`: in the last case but one the second sequence becomes the first.
unfoldable pub meet_entered : Meeting → Bool → View → View → Terms → Terms → ℕ → Expression
meet_entered meet swapped View.nothing y a b f = void
meet_entered meet swapped (View.absorbing r) View.nothing a b f = void
meet_entered meet swapped (View.absorbing r) (View.absorbing s) a b f = meet_splits meet swapped r (ends b) f
meet_entered meet swapped (View.absorbing r) (View.one y s) a b f = meet_splits meet swapped r (ends b) f
meet_entered meet swapped (View.one x r) View.nothing a b f = void
meet_entered meet swapped (View.one x r) (View.absorbing s) a b f = meet_splits meet (not swapped) s (ends a) f
meet_entered meet swapped (View.one x r) (View.one y s) a b f = meet_of_terms meet swapped x y ⧺ meet swapped f r s

-- Beside `enter`.
unfoldable pub meet_enter : Meeting → Meeting
meet_enter meet swapped zero a b = void
meet_enter meet swapped (suc f) a b = meet_entered meet swapped (view a) (view b) a b f

-- Beside `search_to` and `sequence`; here too the bound is never met (proofs/Meet.antt).
unfoldable pub meet_to : ℕ → Meeting
meet_to zero swapped f a b = void
meet_to (suc d) swapped f a b = meet_enter (meet_to d) swapped f a b

unfoldable pub meet_sequence : Meeting
meet_sequence swapped f a b = meet_to (suc (size a + size b)) swapped f a b

-- Beside `patterns_overlap`.
unfoldable pub meet : Terms → Terms → Expression
meet a b = meet_sequence false start a b
