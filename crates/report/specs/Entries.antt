-- The entries that the report is told from, as one value: of which program they are.
use Rattle.program.specs.Syntax.{Program}
use Rattle.report.specs.declared.entries.Entries.{Entries}
use Rattle.report.specs.Emitting.{Readable, SomeReadable}

abbrev pub Reads : Entries → Program → Type 0
Reads e w = Readable e.b.now w e.work.now e.plan

abbrev pub SomeReads : Entries → Type 0
SomeReads e = SomeReadable e.b.now e.work.now e.plan
