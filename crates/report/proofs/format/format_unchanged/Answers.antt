-- `report::format::format_unchanged` meets its contract: the lent text ends as the writer leaves it.
use Rattle.text.proofs.Fill.{emitted-same}
use Rattle.text.proofs.Pieces.{unchanged_text_lem}
use Rattle.text.proofs.Written.{lent}
use Rattle.text.specs.Counts.{unchanged_text}
use Rattle.report.proofs.format.format_unchanged.Goals as goal

pub returns : goal.returns
returns c = λ w functions sentences.
    emitted-same (unchanged_text_lem w c.args.functions c.args.sentences functions sentences) (lent _ (unchanged_text c.args.functions c.args.sentences) c.put_unchanged.ensures search)
