-- `reader::at::At::flat_end` meets its contract. Assumes nothing.
use native.Mathlib.Omega.{arith}
use mathlib.Core.Path.{◌∙◌, sym}
use lib.ListN.{get_or}
use Prim.Native.Nat.{◌≤◌}
use Rattle.reader.proofs.Passing.{good_of, flat_character, flat_number, flat_word}
use Rattle.reader.proofs.at.At.flat_end.Goals as goal

pub returns-in-1 : goal.returns-in-1
returns-in-1 c = flat_character _ _ c.args.self.now.inside (sym c.span_refusal.ensures ∙ good_of (sym c.ok.ensures.value ∙ c.in_ok-ok.was)) c.in-1.is _ c.code_end.ensures

pub returns-in-3 : goal.returns-in-3
returns-in-3 c = flat_number _ _ c.args.self.now.inside (sym c.span_refusal.ensures ∙ good_of (sym c.ok.ensures.value ∙ c.in_ok-ok.was)) c.in-3.is _ c.name_end.ensures

pub returns-in_default-m : goal.returns-in_default-m
returns-in_default-m c =
    let m : (2 ≤ get_or c.args.self.now.b.now c.args.self.now.p 0) × (get_or c.args.self.now.b.now c.args.self.now.p 0 ≤ 6) = (grind arith, grind arith) in
    flat_word _ _ c.args.self.now.inside (sym c.span_refusal.ensures ∙ good_of (sym c.ok.ensures.value ∙ c.in_ok-ok.was)) m.0 m.1 (λ z. omega arith) _ c.name_end-in_default-m.ensures
