-- The names Mu and Up by their bytes.
use mathlib.Core.Path.{◌≡◌, refl, ap, ◌∙◌}
use mathlib.Core.Bool.{Bool, true, false, ◌||◌}
use mathlib.Core.List.{[], ◌∷◌}
use Rattle.program.specs.Syntax.{Name}
use Rattle.patterns.specs.Names.{same_name}
use Rattle.patterns.specs.Ascii.{ascii}
use Rattle.meaning.specs.Dispatch.{activates_acarried_call}

module _ (name : Name) where
  carried_is : activates_acarried_call name ≡ (same_name name (77 ∷ 117 ∷ []) || same_name name (85 ∷ 112 ∷ []))
  unfolding activates_acarried_call ascii
  carried_is = refl

  pub carried_mu : same_name name (77 ∷ 117 ∷ []) ≡ true → activates_acarried_call name ≡ true
  carried_mu e = carried_is ∙ ap (λ (t : Bool). t || same_name name (85 ∷ 112 ∷ [])) e

  pub carried_up : same_name name (77 ∷ 117 ∷ []) ≡ false → activates_acarried_call name ≡ same_name name (85 ∷ 112 ∷ [])
  carried_up e = carried_is ∙ ap (λ (t : Bool). t || same_name name (85 ∷ 112 ∷ [])) e
