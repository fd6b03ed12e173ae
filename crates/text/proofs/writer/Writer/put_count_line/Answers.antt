use Rattle.std.proofs.Common.{[], ◌∷◌, ap, arith}
use Rattle.patterns.specs.Ascii.{ascii}
use Rattle.text.specs.Counts.{counted, count_line}
use Rattle.text.proofs.Written.{both, count}
use Rattle.text.proofs.writer.Writer.put_count_line.Goals as goal

pub returns : goal.returns
unfolding count_line ascii
returns c = record {
  written = both c.args.self.now (counted c.args.label.now c.args.n) (10 ∷ []) c.put_counted.ensures.written c.put_byte.ensures;
  short = omega (arith, c.put_counted.ensures.short, ap count c.put_byte.ensures);
}
