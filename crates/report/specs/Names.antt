-- The line of uncharacterised functions in the pieces in which it is emitted.
use Rattle.std.specs.Prelude.{ℕ, Bool, true, false, ◌&&◌, not, cond, List, [], ◌++◌, eqb, take}
use Rattle.program.specs.Syntax.{Function, Program}
use Rattle.patterns.specs.Ascii.{ascii}
use Rattle.patterns.specs.Names.{same_name}
use Rattle.meaning.specs.Lists.{any}
use Rattle.told.specs.Numbered.{Held, sites_of}
use Rattle.meaning.specs.Text.{Text}
use Rattle.told.specs.Asked.{uncharacterises}
use Rattle.told.specs.ToldReport.{uncharacterised_names}

-- A site uncharacterises the f-th function x, which is not the root.
unfoldable pub is_uncharacterised : ℕ → List Held → ℕ → Function → Bool
is_uncharacterised root sites f x = not (eqb f root) && any (uncharacterises (λ s. true) x.name) sites

-- The same, and no earlier one has its name: "each name once".
unfoldable pub is_newly_uncharacterised : ℕ → Program → ℕ → Function → Bool
is_newly_uncharacterised root w f x = is_uncharacterised root (sites_of w) f x && not (any (λ n. same_name n x.name) (uncharacterised_names root (sites_of w) 0 (take f w.functions)))

-- What stands before the first name, and before each other.
unfoldable pub lead : Bool → Text
lead true = ascii "uncharacterised: "
lead false = ascii ", "

-- What the f-th function x adds to the line.
unfoldable pub uncharacterised_text : ℕ → Program → ℕ → Function → Bool → Text
uncharacterised_text root w f x first = cond (is_newly_uncharacterised root w f x) (lead first ++ x.name) []

-- How many names that is.
unfoldable pub uncharacterised_count : ℕ → Program → ℕ → Function → ℕ
uncharacterised_count root w f x = cond (is_newly_uncharacterised root w f x) 1 0

-- The end of the line, if it has a name.
unfoldable pub line_end : Bool → Text
line_end true = []
line_end false = ascii "\n"
