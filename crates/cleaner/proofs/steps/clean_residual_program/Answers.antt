-- `cleaner::steps::clean_residual_program` meets its contract. Assumes nothing.
use native.Mathlib.Omega.{arith}
use lib.Seq.{length-take-le}
use Rattle.cleaner.proofs.Ends.{all_zero, rounded_up}
use lib.ListN.{length}
use mathlib.Core.Path.{◌≡◌, sym, ◌∙◌}
use borrow.Author.Rules.{rules}
use Rattle.cleaner.proofs.steps.clean_residual_program.Goals as goal

pub slice_bounds-clean_in-end-2 : goal.slice_bounds-clean_in-end-2
slice_bounds-clean_in-end-2 c = sym (length-take-le _ c.args.work.now (omega (arith, c.requires.2, c.div_ceil-entries.ensures, rounded_up (length c.args.img.now))))

pub clean_in-answer-requires : goal.clean_in-answer-requires
clean_in-answer-requires c = let e = c.div_ceil-entries.ensures ∙ rounded_up (length c.args.img.now) in (c.requires.0, c.requires.1, length-take-le _ c.args.work.now (omega (arith, c.requires.2, e)) ∙ e)

pub returns : goal.returns
returns c =
    let e : length c.fill.new.work ≡ length c.args.work.now = search rules in
    record {
      wrote = λ a. c.clean_in-answer.ensures.wrote a;
      cleared = all_zero c.args.work.now _ e (λ k u. c.fill.ensures.filled k (omega arith) (omega (arith, u, e, c.fill.ensures.others.length)));
    }
