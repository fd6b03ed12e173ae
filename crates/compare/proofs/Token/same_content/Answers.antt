-- `compare::Token::same_content` meets its contract. Assumes nothing.
use native.Mathlib.Omega.{arith}
use mathlib.Core.Path.{sym, ◌∙◌}
use borrow.Author.Tests.{eqb-true}
use Rattle.patterns.proofs.Names.{eq_bytes_true}
use Rattle.symbols.proofs.Compared.{bytes_equal}
use Rattle.compare.proofs.Letters.{code-room, name-room}
use Rattle.compare.proofs.Same.{same_code, same-named, same-mark, content-if}
use Rattle.compare.proofs.Token.same_content.Goals as goal

pub read32-requires : goal.read32-requires
read32-requires c = omega (arith, code-room c.args.self.inside c.in-1.is)

pub read32-requires-in-1 : goal.read32-requires-in-1
read32-requires-in-1 c = omega (arith, code-room c.args.other.inside (sym c.requires ∙ c.in-1.is))

pub returns-in-1 : goal.returns-in-1
returns-in-1 c =
    content-if c.args.self.bytes.now c.args.other.bytes.now c.token_len.result _ c.then_some.ensures c.token_len.ensures
    (λ h. same_code c.args.self.inside c.args.other.inside c.requires c.in-1.is (sym c.read32.ensures ∙ (eqb-true _ _ h ∙ c.read32-in-1.ensures)))

pub token_name-requires : goal.token_name-requires
token_name-requires c = omega (arith, name-room c.args.self.inside (λ e. omega arith) (omega arith))

pub token_name-requires-in_default : goal.token_name-requires-in_default
token_name-requires-in_default c = omega (arith, name-room c.args.other.inside (λ e. omega arith) (omega arith))

pub returns-in_default : goal.returns-in_default
returns-in_default c =
    content-if c.args.self.bytes.now c.args.other.bytes.now c.token_len-in_default.result _ c.then_some-in_default.ensures c.token_len-in_default.ensures
    (λ h. same-named c.args.self.inside c.args.other.inside c.requires (λ e. omega arith) (omega arith) (sym c.token_name.ensures ∙ (eq_bytes_true _ _ (sym (c.eq.ensures ∙ bytes_equal _ _) ∙ h) ∙ c.token_name-in_default.ensures)))

pub returns-in-7-to-255 : goal.returns-in-7-to-255
returns-in-7-to-255 c =
    let t = same-mark c.args.self.inside c.args.other.inside c.requires (omega arith) in
    (t.0, c.token_len-in-7-to-255.ensures, c.token_len-in-7-to-255.ensures ∙ t.1)
