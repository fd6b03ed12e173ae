-- `report::entries::Entries::is_repeated` meets its contract. Assumes nothing.
use Prim.Native.Nat.{◌<◌, suc, ℕ}
use mathlib.Core.Bool.{true}
use mathlib.Core.Option.{some}
use mathlib.Core.Path.{◌≡◌}
use lib.ListN.{get_elem?}
use Rattle.cleaning.specs.Indexed.{fell_of}
use Rattle.program.specs.Sentences.{Sentence, own_sentences}
use Rattle.program.specs.Syntax.{Function, Program}
use Rattle.told.specs.Numbered.{sentences_before}
use Rattle.report.specs.Emitting.{Readable}
use Rattle.report.specs.Removed.{NonePrinting}
use Rattle.patterns.specs.Names.{same_name}
use Rattle.report.proofs.entries.Entries.is_repeated.Given as goal

-- No function before g has such a sentence.
abbrev pub invariant-loop-g : goal.invariant-loop-g
invariant-loop-g l =
    (w : Program) (x : Function) (y : Sentence) → Readable l.self.b.now w l.self.work.now l.self.plan → get_elem? w.functions l.f ≡ some x → get_elem? (own_sentences w.functions) l.s ≡ some y
    → (h : ℕ) (v : Function) → h < l.g → get_elem? w.functions h ≡ some v → same_name v.name x.name ≡ true → NonePrinting (fell_of l.self.plan l.self.work.now) l.round l.s y.pattern (own_sentences w.functions) (sentences_before h w.functions) (sentences_before (suc h) w.functions)
