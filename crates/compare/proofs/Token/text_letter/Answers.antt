-- `compare::Token::text_letter` meets its contract. Assumes nothing.
use Prim.Native.Nat.{ℕ}
use native.Mathlib.Omega.{arith}
use mathlib.Core.Path.{sym, ap, ◌∙◌}
use mathlib.Core.List.{List}
use lib.ListN.{length, get_or}
use Rattle.program.specs.Syntax.{character}
use Rattle.meaning.specs.Text.{format_symbol}
use Rattle.compare.proofs.Letters.{text-code, text-name, text-variable, name-letter, code-room, name-room, length_of_name, length_of_variable, begin_letter, close-letter}
use Rattle.compare.proofs.Token.text_letter.Goals as goal

pub read32-requires : goal.read32-requires
read32-requires c = code-room c.args.self.inside c.in-1.is

pub character_letter-requires : goal.character_letter-requires
character_letter-requires c = let e = ap (λ (n : ℕ). length (format_symbol (character n))) c.read32.ensures in
    (omega (arith, c.read32.ensures, c.args.self.inside.low c.in-1.is), omega (arith, e, c.requires, ap length (text-code c.args.self.bytes.now c.in-1.is)))

pub returns-in-1 : goal.returns-in-1
returns-in-1 c = c.character_letter.ensures ∙ (ap (λ (n : ℕ). get_or (format_symbol (character n)) c.args.k 0) c.read32.ensures ∙ ap (λ (l : List ℕ). get_or l c.args.k 0) (sym (text-code c.args.self.bytes.now c.in-1.is)))

pub overflow_add-result : goal.overflow_add-result
overflow_add-result c = omega (arith, c.requires, length_of_name c.args.self.inside (λ e. omega arith) (omega arith), name-room c.args.self.inside (λ e. omega arith) (omega arith))

pub bounds-x-k : goal.bounds-x-k
bounds-x-k c = omega (arith, c.requires, length_of_name c.args.self.inside (λ e. omega arith) (omega arith), name-room c.args.self.inside (λ e. omega arith) (omega arith))

pub returns-in-0-to-3 : goal.returns-in-0-to-3
returns-in-0-to-3 c = name-letter c.args.self.bytes.now c.args.k (omega (arith, c.requires, length_of_name c.args.self.inside (λ e. omega arith) (omega arith)))
    ∙ ap (λ (l : List ℕ). get_or l c.args.k 0) (sym (text-name c.args.self.bytes.now (λ e. omega arith) (omega arith)))

pub variable_letter-requires : goal.variable_letter-requires
variable_letter-requires c = (name-room c.args.self.inside (λ e. omega arith) (omega arith), omega (arith, c.requires, length_of_variable c.args.self.inside (omega arith) (omega arith)))

pub returns-in-4-to-6 : goal.returns-in-4-to-6
returns-in-4-to-6 c = c.variable_letter.ensures ∙ ap (λ (l : List ℕ). get_or l c.args.k 0) (sym (text-variable c.args.self.bytes.now (omega arith) (omega arith)))

pub returns-in-7 : goal.returns-in-7
returns-in-7 c = begin_letter c.args.self.bytes.now c.args.k c.requires c.in-7.is

pub returns-in_default : goal.returns-in_default
returns-in_default c = close-letter c.args.self.bytes.now c.args.k c.requires (omega arith) (λ e. omega arith)
