-- The restrictions that the call sites of a program put on a function: the Rust's `entering_restrictions`, for one function's name.
use Rattle.std.specs.Prelude.{Bool, List, map}
use Rattle.program.specs.Syntax.{Name, Terms}
use Rattle.patterns.specs.Names.{same_name}
use Rattle.patterns.specs.Configuration.{same_configuration}
use Rattle.meaning.specs.Lists.{all, select, firsts}
use Rattle.meaning.specs.Sites.{Site, restriction_is_characterisable}

pub record EnteringRestrictions : Type 0 where
  pub restrictions : List Terms
  pub characterised : Bool

-- The arguments of a function's call sites: "Names meet without regard to ASCII case."
unfoldable pub entering : Name → List Site → List Terms
entering f sites = map (λ x. x.argument) (select (λ x. same_name x.callee f) sites)

-- "A restriction is dropped as a repeat exactly if it equals an earlier one of its function".
unfoldable pub entering_restrictions : Name → List Site → EnteringRestrictions
entering_restrictions f sites = record {
  restrictions = firsts same_configuration (select restriction_is_characterisable (entering f sites));
  characterised = all restriction_is_characterisable (entering f sites);
}
