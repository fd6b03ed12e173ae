-- The call sites of what is kept, among those of the whole program.
use Rattle.std.specs.Prelude.{ℕ, Bool, cond, List, [], ◌∷◌}
use Rattle.meaning.specs.Sites.{Site}
use Rattle.told.specs.Numbered.{Held}

-- The sites whose sentence is kept.
unfoldable pub kept_sites : (ℕ → Bool) → List Held → List Site
kept_sites keep [] = []
kept_sites keep (x ∷ xs) = cond (keep x.sentence) (x.site ∷ kept_sites keep xs) (kept_sites keep xs)
