-- `report::entries::Entries::put_if_uncharacterised` meets its contract. Assumes nothing.
use native.Mathlib.Omega.{arith}
use mathlib.Core.Path.{sym, ◌∙◌}
use lib.Dec.{eqb}
use Rattle.text.proofs.Written.{written-nothing, both, same}
use Rattle.report.specs.Names.{lead}
use Rattle.report.proofs.Uncharacterised.{text_new, text-none, count_new, count_none}
use Rattle.report.proofs.entries.Entries.put_if_uncharacterised.Goals as goal

pub is_newly_uncharacterised-requires : goal.is_newly_uncharacterised-requires
is_newly_uncharacterised-requires c = (c.requires.0, c.requires.1)

pub returns-then-not-is_newly_uncharacterised : goal.returns-then-not-is_newly_uncharacterised
returns-then-not-is_newly_uncharacterised c = let a = c.args in record {
  written = λ w x d e. same a.out.now (text-none a.root w a.f x (eqb a.count 0) (sym (c.is_newly_uncharacterised.ensures w x d e) ∙ c.if-not-is_newly_uncharacterised.true)) (written-nothing a.out.now);
  counted = λ w x d e. omega (arith, count_none a.root w a.f x (sym (c.is_newly_uncharacterised.ensures w x d e) ∙ c.if-not-is_newly_uncharacterised.true));
  short = (omega arith, omega arith);
}

pub put_lead-requires : goal.put_lead-requires
put_lead-requires c = omega (arith, c.requires.2)

pub put_name-requires : goal.put_name-requires
put_name-requires c = (c.requires.0, c.requires.1, omega (arith, c.put_lead.ensures.1, c.requires.2))

pub overflow_add-result : goal.overflow_add-result
overflow_add-result c =
    let d = c.requires.0.readable.indexed in
    omega (arith, c.requires.1, c.requires.3, d.fits, d.small)

pub returns : goal.returns
returns c =
    let a = c.args in
    let new = c.is_newly_uncharacterised.ensures in
    let yes = c.if-not-is_newly_uncharacterised.false in
    record {
      written = λ w x d e. same a.out.now (text_new a.root w a.f x (eqb a.count 0) (sym (new w x d e) ∙ yes)) (both a.out.now (lead (eqb a.count 0)) x.name c.put_lead.ensures.0 (c.put_name.ensures.written w x d e));
      counted = λ w x d e. omega (arith, count_new a.root w a.f x (sym (new w x d e) ∙ yes));
      short = (omega (arith, c.put_lead.ensures.1, c.put_name.ensures.short), omega arith);
    }
