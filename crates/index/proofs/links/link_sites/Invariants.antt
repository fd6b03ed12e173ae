-- `index::links::link_sites` meets its contract. Assumes nothing.
use mathlib.Core.List.{List}
use Rattle.program.specs.Syntax.{Function}
use Rattle.told.specs.Numbered.{Held}
use Rattle.index.specs.Links.{FirstsHeaded, Chained}
use Rattle.index.specs.Linking.{Indexed, LinksOnly}
use Rattle.index.proofs.links.link_sites.Given as goal

abbrev pub invariant-loop-i : goal.invariant-loop-i
invariant-loop-i l = LinksOnly l.initial.work l.work l.filing.functions l.links l.sites × ((fs : List Function) (held : List Held) → Indexed l.b l.initial.work l.filing.functions l.calls l.sites l.filing.at l.filing.buckets fs held → FirstsHeaded fs held l.work l.filing.functions l.i × Chained fs held l.work l.links l.i)
