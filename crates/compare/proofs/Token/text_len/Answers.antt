-- `compare::Token::text_len` meets its contract. Assumes nothing.
use native.Mathlib.Omega.{arith}
use mathlib.Core.Path.{sym, ap}
use lib.ListN.{length}
use Rattle.meaning.specs.Text.{utf8}
use Rattle.text.proofs.Leaves.{utf8-length}
use Rattle.compare.proofs.Letters.{code-room, name-room, length_of_code, length_of_name, length_of_variable, length_of_mark}
use Rattle.compare.proofs.Token.text_len.Goals as goal

pub read32-requires : goal.read32-requires
read32-requires c = code-room c.args.self.inside c.in-1.is

pub overflow_add-result : goal.overflow_add-result
overflow_add-result c = omega (arith, c.code_len.ensures, utf8-length c.read32.result)

pub returns-in-1 : goal.returns-in-1
returns-in-1 c = omega (arith, c.code_len.ensures, ap (λ (n : _). length (utf8 n)) c.read32.ensures, length_of_code c.args.self.inside c.in-1.is)

pub bounds-x-9 : goal.bounds-x-9
bounds-x-9 c = omega (arith, name-room c.args.self.inside (λ e. omega arith) (omega arith))

pub bounds-x-9-in-0-to-3 : goal.bounds-x-9-in-0-to-3
bounds-x-9-in-0-to-3 c = omega (arith, name-room c.args.self.inside (λ e. omega arith) (omega arith))

pub returns-in-0-to-3 : goal.returns-in-0-to-3
returns-in-0-to-3 c = omega (arith, length_of_name c.args.self.inside (λ e. omega arith) (omega arith))

pub returns-in-4-to-6 : goal.returns-in-4-to-6
returns-in-4-to-6 c = omega (arith, length_of_variable c.args.self.inside (omega arith) (omega arith))

pub returns-in_default : goal.returns-in_default
returns-in_default c = sym (length_of_mark c.args.self.inside (omega arith))
