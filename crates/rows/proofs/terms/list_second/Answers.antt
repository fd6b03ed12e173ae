-- `rows::terms::list_second` meets its contract. Assumes nothing.
use Prim.Native.Nat.{ℕ, ◌+◌}
use native.Mathlib.Omega.{arith}
use mathlib.Core.Path.{subst}
use Rattle.std.proofs.lemmas.Option.{IfSome_then}
use Rattle.rows.specs.Rows.{read_at, Listed}
use Rattle.rows.proofs.Places.{kept_same}
use Rattle.rows.proofs.terms.list_second.Goals as goal

pub returns-then-p-q : goal.returns-then-p-q
returns-then-p-q c = let f = c.args.first in record {
  lists = (omega arith, omega arith, c.requires.2, subst (λ (k : ℕ). Listed c.args.b.now c.args.room.now f.at f.count (read_at c.args.b.now k)) c.if-p-q.true c.requires.3);
  keeps = kept_same (f.at + f.count) c.args.room.now;
  suffices = λ l e. cc;
}

pub returns : goal.returns
returns c = record {
  lists = IfSome_then c.list_terms.result c.list_terms.ensures.lists (λ l h. (omega (arith, h.0), omega (arith, h.0), h.1, h.2));
  keeps = c.list_terms.ensures.keeps;
  suffices = c.list_terms.ensures.suffices;
}
