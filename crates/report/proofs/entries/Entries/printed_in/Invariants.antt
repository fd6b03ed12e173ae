-- `report::entries::Entries::printed_in` meets its contract. Assumes nothing.
use Prim.Native.Nat.{◌≤◌}
use mathlib.Core.Option.{some}
use mathlib.Core.Path.{◌≡◌}
use lib.ListN.{get_elem?}
use Rattle.cleaning.specs.Indexed.{fell_of}
use Rattle.program.specs.Sentences.{Sentence, own_sentences}
use Rattle.program.specs.Syntax.{Program}
use Rattle.told.specs.Numbered.{sentences_before}
use Rattle.report.specs.Emitting.{Readable}
use Rattle.report.specs.Removed.{NonePrinting}
use Rattle.report.proofs.entries.Entries.printed_in.Given as goal

-- No sentence before t is such.
abbrev pub invariant-loop-t : goal.invariant-loop-t
invariant-loop-t l =
    (w : Program) (y : Sentence) → Readable l.self.b.now w l.self.work.now l.self.plan → get_elem? (own_sentences w.functions) l.s ≡ some y
    → (sentences_before l.g w.functions ≤ l.t) × NonePrinting (fell_of l.self.plan l.self.work.now) l.round l.s y.pattern (own_sentences w.functions) (sentences_before l.g w.functions) l.t
