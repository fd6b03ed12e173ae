use Rattle.std.proofs.Common.{arith}
use Rattle.text.proofs.Codes.{utf8-one, utf8-two, utf8_three, utf8_four}
use Rattle.text.proofs.Written.{same}
use Rattle.text.proofs.writer.Writer.put_code.Goals as goal

pub returns-in-0-to-127 : goal.returns-in-0-to-127
returns-in-0-to-127 c = same c.args.self.now (utf8-one c.args.code (omega arith)) c.put_byte.ensures

pub returns-in-128-to-2047 : goal.returns-in-128-to-2047
returns-in-128-to-2047 c = same c.args.self.now (utf8-two c.args.code _ _ (omega arith) (omega arith) c.lead_of_two.ensures c.trail.ensures) c.put_bytes.ensures

pub returns-in-2048-to-65535 : goal.returns-in-2048-to-65535
returns-in-2048-to-65535 c =
    same c.args.self.now (utf8_three c.args.code _ _ _ (omega arith) (omega arith) c.lead_of_three.ensures c.trail-in-2048-to-65535.ensures c.trail-in-2048-to-65535-2.ensures) c.put_bytes-in-2048-to-65535.ensures

pub returns-in_default : goal.returns-in_default
returns-in_default c =
    same c.args.self.now (utf8_four c.args.code _ _ _ _ (omega arith) c.lead_of_four.ensures c.trail-in_default.ensures c.trail-in_default-2.ensures c.trail-in_default-3.ensures) c.put_bytes-in_default.ensures
