-- `report::entries::Entries::put_removed_line` meets its contract. Assumes nothing.
use native.Mathlib.Omega.{arith}
use mathlib.Core.List.{◌++◌, flat_map}
use Rattle.told.specs.History.{is_there}
use Rattle.cleaning.specs.Indexed.{fell_of}
use Rattle.told.specs.Numbered.{sites_of}
use Rattle.meaning.specs.Text.{format_terms}
use Rattle.told.specs.ToldReport.{restrictions_at}
use Rattle.report.proofs.RemovedLines.{line_parts, removed_line_lem}
use Rattle.report.specs.Leading.{angled_after}
use Rattle.report.specs.Sentence.{sentence_text}
use Rattle.text.proofs.Written.{both, same, count}
use mathlib.Core.Path.{ap}
use Rattle.patterns.specs.Ascii.{ascii}
use Rattle.report.proofs.entries.Entries.put_removed_line.Goals as goal

pub put_bytes-requires : goal.put_bytes-requires
put_bytes-requires c = omega (arith, c.put_sentence.ensures.short, c.requires.3)

pub put_restrictions-requires : goal.put_restrictions-requires
put_restrictions-requires c = (c.requires.0, c.requires.1, omega (arith, c.put_sentence.ensures.short, ap count c.put_bytes.ensures, c.requires.3))

pub put_byte-requires : goal.put_byte-requires
put_byte-requires c = omega (arith, c.put_sentence.ensures.short, ap count c.put_bytes.ensures, c.put_restrictions.ensures.short, c.requires.3)

pub returns : goal.returns
unfolding line_parts ascii
returns c = record {
  written = λ w x y d e g h.
      let a = c.args in
      let k = fell_of a.self.now.plan a.self.now.work.now in
      let rs = restrictions_at (is_there k a.round) x.name (sites_of w) in
      same a.out.now (removed_line_lem w k (record { round = a.round; function = x; number = a.s; sentence = y }) h)
      (both a.out.now (sentence_text x.name (format_terms y.pattern)) (ascii " rejected by" ++ (flat_map angled_after rs ++ ascii "\n")) (c.put_sentence.ensures.written w x y d e g)
      (both _ (ascii " rejected by") (flat_map angled_after rs ++ ascii "\n") c.put_bytes.ensures
      (both _ (flat_map angled_after rs) (ascii "\n") (c.put_restrictions.ensures.written w x d e) c.put_byte.ensures)));
  short = omega (arith, c.put_sentence.ensures.short, ap count c.put_bytes.ensures, c.put_restrictions.ensures.short, ap count c.put_byte.ensures);
}
