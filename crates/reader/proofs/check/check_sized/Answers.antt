-- `reader::check::check_sized` meets its contract. Assumes nothing.
use native.Mathlib.Omega.{arith}
use mathlib.Core.Path.{◌≡◌, refl, ◌∙◌}
use Rattle.std.specs.Prelude.{Err}
use Rattle.std.proofs.lemmas.Grind.{common_steps}
use Rattle.reader.proofs.Answers.{unpointed, body_bad, compared}
use Rattle.reader.proofs.check.check_sized.Goals as goal

pub returns-then-to_body-n : goal.returns-then-to_body-n
returns-then-to_body-n c = c.at.ensures ∙ unpointed c.args.img.now _ _ _ c.requires.0 refl c.read32-to_body.ensures c.read32-to_functions.ensures c.then-to_body-n.either

pub returns-in_err-c : goal.returns-in_err-c
returns-in_err-c c =
    let e : c.from_residual.result ≡ Err c.in_err-c.field-0.0 = grind (arith, common_steps) in
    e ∙ body_bad c.args.img.now _ _ _ c.requires.0 refl c.read32-to_body.ensures c.read32-to_functions.ensures c.if-to_body-n.false c.if-to_body-to_functions.false c.check_body.result c.check_body.ensures _ c.in_err-c.was

pub returns-then-ne : goal.returns-then-ne
returns-then-ne c = c.at-then-ne.ensures ∙ compared c.args.img.now _ _ _ c.requires.0 refl c.read32-to_body.ensures c.read32-to_functions.ensures c.if-to_body-n.false c.if-to_body-to_functions.false c.check_body.result c.check_body.ensures _ c.in_ok-c.was c.read16.ensures c.read16-2.ensures c.if-ne.ensures

pub returns : goal.returns
returns c = compared c.args.img.now _ _ _ c.requires.0 refl c.read32-to_body.ensures c.read32-to_functions.ensures c.if-to_body-n.false c.if-to_body-to_functions.false c.check_body.result c.check_body.ensures _ c.in_ok-c.was c.read16.ensures c.read16-2.ensures c.if-ne.ensures
