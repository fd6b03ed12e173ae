-- `symbols::leading_zeros` meets its contract.
use mathlib.Core.Path.{◌≡◌, ◌∙◌}
use Rattle.std.proofs.Common.{rules, nat_eq, tests}
use Rattle.std.specs.List.{prefix_len}
use Rattle.std.proofs.lemmas.Iterator.{YieldsList-from_slice}
use Rattle.std.proofs.lemmas.Iterator.Consumers.{count_from_yields_List}
use Rattle.std.proofs.lemmas.Iterator.Search.{YieldsList-from_take_while}
use Rattle.std.proofs.lemmas.List.Folds.{length-prefix_len}
use Rattle.std.proofs.lemmas.List.Sums.{prefix_len-le-length}
use Rattle.symbols.proofs.Compared.{zeros-dropped}
use Rattle.symbols.proofs.leading_zeros.Goals as goal

pub returns : goal.returns
returns c =
    let n = c.args.n.now in
    let e : c.count.result ≡ prefix_len (λ d. nat_eq d 48) n =
    count_from_yields_List c.take_while.result _ c.count.ensures.ran (YieldsList-from_take_while _ (λ d. nat_eq d 48) (YieldsList-from_slice n cc) c.take_while.ensures.closure c.take_while.ensures.done (λ x b q k. search (rules, tests))) ∙ length-prefix_len (λ d. nat_eq d 48) n in
    rw e (prefix_len-le-length (λ d. nat_eq d 48) n, zeros-dropped n)
