use Rattle.std.proofs.Common.{◌++◌}
use Rattle.patterns.specs.Ascii.{ascii}
use Rattle.text.specs.Counts.{count_line, top_text, unchanged_text}
use Rattle.text.proofs.Written.{both}
use Rattle.text.proofs.writer.Writer.put_unchanged.Goals as goal

pub returns : goal.returns
unfolding unchanged_text ascii
returns c =
    let a = c.args in
    let end = ascii "dynamic-dispatch: yes (nothing cleaned)\ngraph: unknown\n" in
    let third = count_line (ascii "uncovered: ") 0 in
    let second = count_line (ascii "undecided: ") 0 in
    both a.self.now (top_text a.functions a.sentences a.sentences 0 0) (second ++ (third ++ end)) c.put_top.ensures.written
    (both _ second (third ++ end) c.put_count_line.ensures.written (both _ third end c.put_count_line-2.ensures.written c.put_bytes.ensures))
