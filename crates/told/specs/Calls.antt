-- Call sites by their callee, and by whether their argument is plain.
use Rattle.std.specs.Prelude.{Bool, true, false, ◌&&◌, not}
use Rattle.program.specs.Syntax.{Name}
use Rattle.patterns.specs.Names.{same_name}
use Rattle.meaning.specs.Sites.{restriction_is_characterisable}
use Rattle.told.specs.Numbered.{Held}

-- "Names meet without regard to ASCII case": the site calls a function named f.
unfoldable pub is_call_of : Name → Held → Bool
is_call_of f x = same_name x.site.callee f

-- "A call or block in any argument makes the callee uncharacterised": the site is not one of those.
unfoldable pub is_plain : Held → Bool
is_plain x = restriction_is_characterisable x.site.argument

-- The sites of f come in two lists: those with a plain argument, and those without.
unfoldable pub is_listed : Bool → Name → Held → Bool
is_listed true f x = is_call_of f x && is_plain x
is_listed false f x = is_call_of f x && not (is_plain x)
