use Rattle.std.proofs.Common.{ap, arith}
use Rattle.meaning.specs.Decimal.{decimal}
use Rattle.meaning.proofs.Decimal.{decimal-length}
use Rattle.text.specs.Counts.{counted}
use Rattle.text.proofs.Written.{both, count}
use Rattle.text.proofs.writer.Writer.put_counted.Goals as goal

pub put_decimal-requires : goal.put_decimal-requires
put_decimal-requires c = omega (arith, ap count c.put_bytes.ensures, decimal-length 16 c.args.n c.requires.0)

pub returns : goal.returns
unfolding counted
returns c = record {
  written = both c.args.self.now c.args.label.now (decimal c.args.n) c.put_bytes.ensures c.put_decimal.ensures;
  short = omega (arith, ap count c.put_bytes.ensures, ap count c.put_decimal.ensures, decimal-length 16 c.args.n c.requires.0);
}
