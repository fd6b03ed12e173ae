-- What a call site can hand to its callee is a fresh instance of one of the callee's restrictions, if the callee is characterised.
use mathlib.Core.Path.{◌≡◌}
use mathlib.Core.Bool.{true}
use mathlib.Core.List.{List, Memᴰ}
use Rattle.program.specs.Syntax.{Name, Terms}
use Rattle.patterns.specs.Names.{same_name}
use Rattle.patterns.specs.Expression.{Expression}
use Rattle.patterns.specs.Fresh.{Fresh}
use Rattle.patterns.specs.Configuration.{same_configuration}
use Rattle.meaning.specs.Lists.{select}
use Rattle.meaning.specs.Sites.{Site, restriction_is_characterisable}
use Rattle.meaning.specs.Restrictions.{entering, entering_restrictions}
use Rattle.meaning.proofs.Lists.{Some, all-at, in_select, firsts-some}
use Rattle.meaning.proofs.Repeats.{repeats_fresh}

in_entering : (f : Name) (sites : List Site) (x : Site) → same_name x.callee f ≡ true → Memᴰ x sites → Memᴰ x.argument (entering f sites)
unfolding entering
in_entering f sites x e m = mathlib.Core.List.Memᴰ.map (λ y. y.argument) (in_select (λ y. same_name y.callee f) sites x e m)

pub covered : (f : Name) (sites : List Site) (x : Site) (v : Expression) → Memᴰ x sites → same_name x.callee f ≡ true → (entering_restrictions f sites).characterised ≡ true
    → (restriction_is_characterisable x.argument ≡ true → Fresh x.argument v) → Some (λ (r : Terms). Fresh r v) (entering_restrictions f sites).restrictions
unfolding entering_restrictions
covered f sites x v m e h k =
    let i : Memᴰ x.argument (entering f sites) = in_entering f sites x e m in
    let c : restriction_is_characterisable x.argument ≡ true = all-at restriction_is_characterisable (entering f sites) x.argument h i in
    firsts-some same_configuration (λ r. Fresh r v) (λ r a t g. repeats_fresh r a v t g) (select restriction_is_characterisable (entering f sites)) x.argument
    (in_select restriction_is_characterisable (entering f sites) x.argument c i) (k c)
