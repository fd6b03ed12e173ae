-- `reader::at::At::turn_code` meets its contract. Assumes nothing.
use native.Mathlib.Omega.{arith}
use mathlib.Core.Path.{◌≡◌, sym, subst}
use Rattle.std.specs.Prelude.{Result, Err}
use Rattle.std.proofs.lemmas.Grind.{common_steps}
use Rattle.program.specs.declared.Refusal.{Refusal}
use Rattle.reader.specs.Steps.{Does}
use Rattle.reader.specs.declared.turns.Frame.{Frame}
use Rattle.reader.specs.declared.turns.Push.{Push}
use Rattle.reader.proofs.Turning.{code-on, code_off}
use Rattle.reader.proofs.at.At.turn_code.Goals as goal

pub returns-in_err-code_refusal : goal.returns-in_err-code_refusal
returns-in_err-code_refusal c =
    let e : c.from_residual.result ≡ Err c.in_err-code_refusal.field-0.0 = grind (arith, common_steps) in
    let F : Result Push Refusal → Type 0 = λ r. Does c.args.self.now.b.now c.args.self.now.p Frame.Code r in
    subst F (sym e) (code_off _ _ c.args.self.now.inside (c.in_err-code_refusal.ensures))

pub returns : goal.returns
returns c = code-on _ _ c.args.self.now.inside (c.in_ok-code_refusal.ensures) c.go.ensures
