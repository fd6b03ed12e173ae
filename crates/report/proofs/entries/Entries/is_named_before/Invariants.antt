-- `report::entries::Entries::is_named_before` meets its contract. Assumes nothing.
use mathlib.Core.Path.{◌≡◌}
use mathlib.Core.Bool.{false}
use mathlib.Core.Option.{some}
use lib.ListN.{get_elem?}
use Rattle.program.specs.Syntax.{Function, Program}
use Rattle.patterns.specs.Names.{same_name}
use Rattle.meaning.specs.Lists.{any}
use Rattle.report.specs.Emitting.{Readable}
use Rattle.report.proofs.Uncharacterised.{names_to}
use Rattle.report.proofs.entries.Entries.is_named_before.Given as goal

abbrev pub invariant-loop-g : goal.invariant-loop-g
invariant-loop-g l = (w : Program) (x : Function) → Readable l.self.b.now w l.self.work.now l.self.plan → get_elem? w.functions l.f ≡ some x → any (λ n. same_name n x.name) (names_to l.root w l.g) ≡ false
