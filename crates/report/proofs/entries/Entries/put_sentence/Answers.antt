-- `report::entries::Entries::put_sentence` meets its contract. Assumes nothing.
use native.Mathlib.Omega.{arith}
use mathlib.Core.Path.{ap}
use mathlib.Core.List.{[], ◌∷◌, ◌++◌}
use Rattle.patterns.specs.Ascii.{ascii}
use Rattle.meaning.specs.Text.{format_terms}
use Rattle.text.proofs.Written.{both, count}
use Rattle.report.specs.Sentence.{sentence_text}
use Rattle.report.proofs.entries.Entries.put_sentence.Goals as goal

pub returns : goal.returns
unfolding sentence_text ascii
returns c = record {
  written = λ w x y d e g.
      both c.args.out.now (32 ∷ 32 ∷ []) (x.name ++ (32 ∷ 123 ∷ (format_terms y.pattern ++ (125 ∷ [])))) c.put_bytes.ensures
      (both _ x.name (32 ∷ 123 ∷ (format_terms y.pattern ++ (125 ∷ []))) (c.put_name.ensures.written w x d e)
      (both _ (32 ∷ 123 ∷ []) (format_terms y.pattern ++ (125 ∷ [])) c.put_bytes-2.ensures
      (both _ (format_terms y.pattern) (125 ∷ []) (c.put_pattern.ensures.written w y d g) c.put_byte.ensures)));
  short = omega (arith, ap count c.put_bytes.ensures, c.put_name.ensures.short, ap count c.put_bytes-2.ensures, c.put_pattern.ensures.short, ap count c.put_byte.ensures);
}
