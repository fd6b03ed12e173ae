-- `report::entries::Entries::put_restrictions` meets its contract. Assumes nothing.
use Prim.Native.Nat.{◌*◌, ◌+◌, ◌-◌, ℕ, ◌≤◌}
use mathlib.Core.List.{List, flat_map}
use mathlib.Core.Option.{some}
use mathlib.Core.Path.{◌≡◌}
use lib.ListN.{drop, get_elem?}
use Rattle.meaning.specs.Cleaning.{round}
use Rattle.told.specs.History.{is_there}
use Rattle.cleaning.specs.Indexed.{fell_of}
use Rattle.told.specs.Numbered.{sites_of}
use Rattle.told.specs.ToldReport.{restrictions_at}
use Rattle.cleaning.specs.Walks.{OnList}
use Rattle.program.specs.Syntax.{Function, Program}
use Rattle.index.specs.declared.Plan.{Plan}
use Rattle.report.specs.Emitting.{Readable}
use Rattle.report.specs.Leading.{angled_after, leading_from}
use Rattle.text.specs.declared.writer.Writer.{Writer}
use Rattle.text.specs.Written.{written}
use Rattle.report.proofs.entries.Entries.put_restrictions.Given as goal

-- Of the sites of a list: what has been put and what is left is the whole.
abbrev pub Whole : (b m : List ℕ) (p : Plan) → ℕ → ℕ → Writer → Writer → ℕ → Type 0
Whole b m p f round old out i =
    (w : Program) (x : Function) → Readable b w m p → get_elem? w.functions f ≡ some x
    → OnList x.name (sites_of w) i
    × ((d : Writer) → d ≡ written out (flat_map angled_after (leading_from (is_there (fell_of p m) round) x.name (sites_of w) i (drop i (sites_of w))))
    → d ≡ written old (flat_map angled_after (restrictions_at (is_there (fell_of p m) round) x.name (sites_of w))))

abbrev pub invariant-loop-i : goal.invariant-loop-i
invariant-loop-i l = (l.out.filled ≤ l.initial.out.filled + l.i * 32800) × Whole l.self.b.now l.self.work.now l.self.plan l.f l.round l.initial.out l.out l.i

abbrev pub decreases-loop-i : goal.decreases-loop-i
decreases-loop-i l = l.self.plan.sites - l.i
