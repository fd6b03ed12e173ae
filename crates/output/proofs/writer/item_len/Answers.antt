-- `output::writer::item_len` meets its contract. Assumes nothing.
use native.Mathlib.Omega.{arith}
use Rattle.output.proofs.Items.{item_long, item_head, item_own, pass-head, pass-own, pass-close}
use Rattle.output.proofs.writer.item_len.Goals as goal

pub bounds-s-0 : goal.bounds-s-0
bounds-s-0 c = item_long c.args.s.now c.requires

pub sentence_len-requires : goal.sentence_len-requires
sentence_len-requires c = item_own c.args.s.now c.requires c.in-10.is

pub sentences_start-requires : goal.sentences_start-requires
sentences_start-requires c = item_head c.args.s.now c.requires c.in-18.is

pub returns-in-10 : goal.returns-in-10
returns-in-10 c = pass-own c.args.s.now c.sentence_len.result c.in-10.is c.sentence_len.ensures

pub returns-in-18 : goal.returns-in-18
returns-in-18 c = pass-head c.args.s.now c.sentences_start.result c.in-18.is c.sentences_start.ensures

pub returns-in_default : goal.returns-in_default
returns-in_default c = pass-close c.args.s.now (λ z. omega arith) (λ z. omega arith)
