-- `output::writer::is_sentence` meets its contract. Assumes nothing.
use native.Mathlib.Omega.{arith}
use mathlib.Core.Path.{sym, ap, ◌∙◌}
use lib.Dec.{eqb}
use Rattle.std.specs.Option.{unwrap_or}
use Rattle.std.proofs.lemmas.Option.{get_or_from_slice_get, unwrap_or-slice_get}
use Rattle.output.specs.Items.{is_sentence}
use Rattle.output.proofs.Items.{not_sentence}
use Rattle.output.proofs.writer.is_sentence.Goals as goal

pub returns-in-Some : goal.returns-in-Some
unfolding is_sentence
returns-in-Some c = ap (λ m. eqb m 10) (sym (get_or_from_slice_get c.args.s.now 0 c.in-Some.m.now 0 (sym c.in-Some.ensures.value)))

pub returns-in-None : goal.returns-in-None
returns-in-None c =
    let s = c.args.s.now in
    let none = sym (unwrap_or-slice_get s 0 0) ∙ ap (λ o. unwrap_or o 0) (sym c.in-None.ensures.value) in
    sym (not_sentence s (λ e. omega (arith, e, none)))
