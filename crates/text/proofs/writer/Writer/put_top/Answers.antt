use Rattle.std.proofs.Common.{◌++◌}
use Rattle.patterns.specs.Ascii.{ascii}
use Rattle.text.specs.Counts.{counted, count_line, top_text}
use Rattle.text.proofs.Written.{both}
use Rattle.text.proofs.writer.Writer.put_top.Goals as goal

pub returns-clause-written : goal.returns-clause-written
unfolding top_text ascii
returns-clause-written c =
    let t = c.args.top in
    let fifth = count_line (ascii "\nremoved: ") t.removed in
    let fourth = counted (ascii "\nrounds: ") t.rounds in
    let third = counted (ascii " -> ") t.after in
    let second = counted (ascii "\nsentences: ") t.before in
    both c.args.self.now (counted (ascii "functions: ") t.functions) (second ++ (third ++ (fourth ++ fifth))) c.put_counted.ensures.written
    (both _ second (third ++ (fourth ++ fifth)) c.put_counted-2.ensures.written
    (both _ third (fourth ++ fifth) c.put_counted-3.ensures.written (both _ fourth fifth c.put_counted-4.ensures.written c.put_count_line.ensures.written)))
