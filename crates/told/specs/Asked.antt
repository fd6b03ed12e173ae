-- What a round asks of the program's call sites, which are collected once: a site is there as long as its sentence is kept.
use Rattle.std.specs.Prelude.{ℕ, Bool, true, false, ◌&&◌, not, List}
use Rattle.program.specs.Syntax.{Name, Terms}
use Rattle.patterns.specs.Search.{patterns_overlap}
use Rattle.meaning.specs.Lists.{any}
use Rattle.told.specs.Numbered.{Held}
use Rattle.told.specs.Calls.{is_listed}
use Rattle.meaning.specs.Cleaning.{is_disjoint}

-- Of the sites that are there: one that makes f uncharacterised, one that restricts it, one that the pattern p is not Disjoint from.
unfoldable pub uncharacterises : (ℕ → Bool) → Name → Held → Bool
uncharacterises keep f x = keep x.sentence && is_listed false f x

unfoldable pub restricts : (ℕ → Bool) → Name → Held → Bool
restricts keep f x = keep x.sentence && is_listed true f x

unfoldable pub is_met : Terms → Held → Bool
is_met p x = not (is_disjoint (patterns_overlap p x.site.argument))

unfoldable pub meets : (ℕ → Bool) → Name → Terms → Held → Bool
meets keep f p x = restricts keep f x && is_met p x

-- "It passes over [..] uncharacterised functions and functions without a restriction".
unfoldable pub is_judged : (ℕ → Bool) → Name → List Held → Bool
is_judged keep f sites = not (any (uncharacterises keep f) sites) && any (restricts keep f) sites

-- "Disjoint from every restriction of its function": repeats have the same verdict, so all sites may be asked.
unfoldable pub is_rejected : (ℕ → Bool) → Name → List Held → Terms → Bool
is_rejected keep f sites p = is_judged keep f sites && not (any (meets keep f p) sites)
