-- `values::tokens::Token::size` meets its contract. Assumes nothing.
use native.Mathlib.Omega.{arith}
use mathlib.Core.Path.{◌∙◌}
use Rattle.values.proofs.Sizes.{token-read}
use Rattle.values.proofs.Bytes.{lasts, room}
use Rattle.values.proofs.tokens.Token.size.Goals as goal

pub token_len-requires : goal.token_len-requires
token_len-requires c =
    let t = token-read c.args.self.bytes.now c.args.self.there in
    let r = room t in
    (omega (arith, r.0, r.1), omega (arith, r.1, lasts t))

pub returns : goal.returns
returns c = λ t. c.token_len.ensures ∙ lasts t
